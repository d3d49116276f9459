use Rattle.rules.specs.Bytes.{Bytes}
use Rattle.text.specs.Laws.{strip_none, strip_on, strip_other, strip_short}
use Rattle.text.specs.Strip.{stripped}
use borrow.Author.Rules.{rules}
use lib.ListN.{length}
use mathlib.Core.Path.{◌∙◌, ◌≡◌, ap, ap₂, refl, subst, sym}
use native.Mathlib.Omega.{arith}
use Rattle.print.specs.Target as target
use Rattle.text.specs.Rest as text
use Rattle.print.proofs.strip_text.Given as goal

abbrev pub invariant-loop-d : goal.invariant-loop-d
invariant-loop-d l = target.Stands l.s l.b l.w l.u × text.Stands l.s l.b l.y × (stripped (text.rest l.s l.b l.initial.y) (target.rest l.s l.b l.w l.initial.u) ≡ stripped (text.rest l.s l.b l.y) (target.rest l.s l.b l.w l.u))

abbrev pub decreases-loop-d : goal.decreases-loop-d
decreases-loop-d l = length (text.rest l.s l.b l.y)
