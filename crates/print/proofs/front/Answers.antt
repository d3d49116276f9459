use Rattle.std.specs.Prelude.{Some, None}
use Prim.Native.Nat.{◌+◌}
use Rattle.print.proofs.Stripping.{lent_on}
use Rattle.print.specs.declared.Target.TheVariants.{Lent, Text}
use borrow.Author.Rules.{rules}
use lib.ListN.{drop_of_length-le, get_or}
use mathlib.Core.Path.{subst, sym}
use native.Mathlib.Omega.{arith}
use Rattle.print.specs.Target as target
use Rattle.text.specs.Rest as text
use Rattle.print.proofs.front.Goals as goal

pub next-requires : goal.next-requires
next-requires c = let a = c.args in (c.requires.0, subst (target.Stands a.s.now a.b.now a.w.now) c.in-Text.is c.requires.1)

pub returns-in_err-c-in-Text : goal.returns-in_err-c-in-Text
returns-in_err-c-in-Text c = let a = c.args in
    let e : text.Stepped a.s.now a.b.now c.in-Text.t None = c.in_err-c-in-Text.ensures in
    rw c.from_residual.ensures (subst (λ z. target.Stepped a.s.now a.b.now a.w.now z None) (sym c.in-Text.is) e)

pub returns-then-k-w : goal.returns-then-k-w
returns-then-k-w c = let a = c.args in
    let k = c.in-Lent.k in
    subst (λ z. target.Stepped a.s.now a.b.now a.w.now z (Some ((get_or a.w.now k 0), (Lent (k + 1))))) (sym c.in-Lent.is) (lent_on a.w.now k c.if-k-w.true, omega arith)

pub returns-in_ok-c-in-Text : goal.returns-in_ok-c-in-Text
returns-in_ok-c-in-Text c = let a = c.args in
    let o = c.in_ok-c-in-Text in
    subst (λ z. target.Stepped a.s.now a.b.now a.w.now z (Some (o.c, (Text o.u)))) (sym c.in-Text.is) o.ensures

pub returns-else-k-w : goal.returns-else-k-w
returns-else-k-w c = let a = c.args in
    subst (λ z. target.Stepped a.s.now a.b.now a.w.now z None) (sym c.in-Lent.is) (drop_of_length-le a.w.now c.if-k-w.false)
