use Rattle.lookup.proofs.Ordered.{coming_step}
use Rattle.text.specs.Rest.{rest, Stands, Stepped}
use Rattle.decimal.proofs.Parsing.{coming_none}
use Rattle.decimal.specs.Parsing.{coming, parsed}
use Rattle.rules.specs.Context.{parse_usize}
use lib.ListN.{length}
use native.Mathlib.Omega.{arith}
use mathlib.Core.Path.{◌≡◌, ◌∙◌, ap, sym, subst}
use borrow.Author.Rules.{rules}
use Rattle.lookup.proofs.index_of.Given as goal

abbrev pub invariant-loop-c : goal.invariant-loop-c
invariant-loop-c l = Stands l.s l.b l.u × (coming l.p (rest l.s l.b l.u) ≡ parse_usize (rest l.s l.b l.initial.u))

abbrev pub decreases-loop-c : goal.decreases-loop-c
decreases-loop-c l = length (rest l.s l.b l.u)
