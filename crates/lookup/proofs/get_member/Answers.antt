use borrow.Enum.Refused.{opened}
use Rattle.lookup.proofs.Finding.{Inward, inward_start, inward_plain, inward_end, inward_merged, inward_room, inward_found, inward_on, inward_less}
use Rattle.lookup.proofs.Told.{no_merged}
use Rattle.lookup.specs.Keys.{KeyFound}
use Rattle.lookup.specs.Answers as answers
use Rattle.meaning.specs.Meaning.{pairs, json_of, rank}
use Rattle.value.specs.Numbers.{decoded}
use Rattle.text.specs.Rest.{rest}
use Rattle.places.specs.Nodes.{short}
use Rattle.merging.specs.Lookup.{find_last}
use native.Mathlib.Omega.{arith}
use mathlib.Core.Path.{◌∙◌, ap, subst}
use borrow.Author.Rules.{rules}
use Rattle.lookup.proofs.get_member.Goals as goal

pub returns : goal.returns
returns c = inward_end c.args.s.now c.args.b.now c.args.ent.now c.args.v (rest c.args.s.now c.args.b.now c.args.t) c.loop-u.u c.loop-u.invariant (no_merged c.loop-u.u (opened c.in_default.in_default-own.keys2)) c.plain_member.result c.plain_member.ensures

pub last_key-requires : goal.last_key-requires
last_key-requires c = let k = rest c.args.s.now c.args.b.now c.args.t in
    (short c.args.s.now c.requires.0.answers, c.requires.1, inward_room c.args.s.now c.args.b.now c.args.ent.now c.args.v k c.loop-u.u c.loop-u.invariant c.in-Merged.h c.in-Merged.n c.in-Merged.is, (inward_merged c.args.s.now c.args.b.now c.args.ent.now c.args.v k c.loop-u.u c.loop-u.invariant c.in-Merged.h c.in-Merged.n c.in-Merged.is).keys, c.requires.3)

pub returns-in-Some : goal.returns-in-Some
returns-in-Some c = let k = rest c.args.s.now c.args.b.now c.args.t in
    let f = subst (KeyFound c.args.s.now c.args.b.now c.args.ent.now c.in-Merged.h c.in-Merged.n (find_last (pairs c.args.b.now c.args.ent.now (json_of c.args.s.now c.args.b.now c.args.ent.now) c.in-Merged.h c.in-Merged.n) k)) c.in-Some.is c.last_key.ensures in
    inward_found c.args.s.now c.args.b.now c.args.ent.now c.args.v k c.loop-u.u c.loop-u.invariant c.in-Merged.h c.in-Merged.n c.in-Merged.is c.in-Some.e f c.pathless.result
    (c.pathless.ensures ∙ ap answers.pathless (c.decode.ensures ∙ ap decoded c.low.ensures))

pub loop-u-smaller : goal.loop-u-smaller
loop-u-smaller c = inward_less c.args.s.now c.args.b.now c.args.ent.now c.args.v (rest c.args.s.now c.args.b.now c.args.t) c.loop-u.u c.loop-u.invariant c.in-Merged.h c.in-Merged.n c.in-Merged.is c.decode-u.result (c.decode-u.ensures ∙ ap decoded c.high.ensures)

pub loop-u-preserved : goal.loop-u-preserved
loop-u-preserved c = let k = rest c.args.s.now c.args.b.now c.args.t in
    let f = subst (KeyFound c.args.s.now c.args.b.now c.args.ent.now c.in-Merged.h c.in-Merged.n (find_last (pairs c.args.b.now c.args.ent.now (json_of c.args.s.now c.args.b.now c.args.ent.now) c.in-Merged.h c.in-Merged.n) k)) c.in_default-last_key.is c.last_key.ensures in
    inward_on c.args.s.now c.args.b.now c.args.ent.now c.args.v k c.loop-u.u c.loop-u.invariant c.in-Merged.h c.in-Merged.n c.in-Merged.is c.decode-u.result (c.decode-u.ensures ∙ ap decoded c.high.ensures) f
