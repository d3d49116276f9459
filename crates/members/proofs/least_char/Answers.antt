use Rattle.members.proofs.Nearing.{has_keyed}
use Rattle.members.proofs.Stepping.{SpellingOut, spelling_start, spelling_end, spelling_few, spelling_on, index_key}
use Rattle.members.specs.Next.{after_name, PlainItem}
use Rattle.chars.specs.Spelled.{Parted}
use Rattle.places.specs.Nodes.{short}
use Rattle.text.specs.Rest.{rest}
use lib.ListN.{length}
use native.Mathlib.Omega.{arith}
use mathlib.Core.Path.{subst}
use borrow.Author.Rules.{rules}
use Rattle.members.proofs.least_char.Goals as goal

pub loop-v-init : goal.loop-v-init
loop-v-init c = spelling_start c.args.s.now c.args.b.now c.args.t (after_name c.args.s.now c.args.b.now c.args.after) c.requires.2

pub next_char-requires : goal.next_char-requires
next_char-requires c = (short c.args.s.now c.requires.0.answers, c.requires.1, c.loop-v.invariant.spelled)

pub returns : goal.returns
returns c = let a = c.args in
    let l = c.loop-v in
    spelling_end a.s.now a.b.now a.t (after_name a.s.now a.b.now a.after) l.n l.best l.u l.invariant (subst (Parted a.s.now a.b.now l.u) c.in_default.is c.next_char.ensures)

pub nearer-best-requires : goal.nearer-best-requires
nearer-best-requires c = let a = c.args in
    let p = c.requires in
    let l = c.loop-v in
    let f = subst (Parted a.s.now a.b.now l.u) c.in-Some.is c.next_char.ensures in
    (p.0, p.1, p.3, index_key a.s.now a.b.now l.n (spelling_few a.s.now a.b.now a.t (after_name a.s.now a.b.now a.after) l.n l.best l.u l.invariant _ _ f (short a.s.now p.0.answers) p.1 p.2), has_keyed a.s.now a.b.now (PlainItem a.s.now a.b.now) l.best l.invariant.holds)

pub overflow_add-n : goal.overflow_add-n
overflow_add-n c = let a = c.args in
    let p = c.requires in
    let l = c.loop-v in
    let f = subst (Parted a.s.now a.b.now l.u) c.in-Some.is c.next_char.ensures in
    omega (arith, spelling_few a.s.now a.b.now a.t (after_name a.s.now a.b.now a.after) l.n l.best l.u l.invariant _ _ f (short a.s.now p.0.answers) p.1 p.2)

pub loop-v-smaller : goal.loop-v-smaller
loop-v-smaller c = let a = c.args in
    let l = c.loop-v in
    (subst (Parted a.s.now a.b.now l.u) c.in-Some.is c.next_char.ensures).shorter

pub loop-v-preserved : goal.loop-v-preserved
loop-v-preserved c = let a = c.args in
    let p = c.requires in
    let l = c.loop-v in
    let f = subst (Parted a.s.now a.b.now l.u) c.in-Some.is c.next_char.ensures in
    spelling_on a.s.now a.b.now a.t (after_name a.s.now a.b.now a.after) l.n l.best l.u l.invariant _ _ f (spelling_few a.s.now a.b.now a.t (after_name a.s.now a.b.now a.after) l.n l.best l.u l.invariant _ _ f (short a.s.now p.0.answers) p.1 p.2) c.by_value.result c.by_value.ensures c.nearer-best.result c.nearer-best.ensures
