use borrow.Enum.Refused.{opened}
use Prim.Native.Nat.{◌+◌}
use mathlib.Core.Logic.{inl, inr}
use mathlib.Core.Path.{sym, ap, ◌∙◌}
use native.Mathlib.Omega.{arith}
use borrow.Author.Rules.{rules}
use Rattle.places.specs.Nodes.{short}
use Rattle.print.proofs.Spans.{elsewhere, plan_within, name_within}
use Rattle.print.specs.Span.{value_span}
use Rattle.print.proofs.value_span.Goals as goal

pub place_span-requires : goal.place_span-requires
place_span-requires c = let z = c in (z.requires.0, plan_within z.args.s.now z.requires.1.0 z.args.v z.requires.1.1 _ (inl c.in-Context.is))

pub place_span-requires-in-Place : goal.place_span-requires-in-Place
place_span-requires-in-Place c = let z = c in (z.requires.0, plan_within z.args.s.now z.requires.1.0 z.args.v z.requires.1.1 _ (inr c.in-Place.is))

pub overflow_add-o : goal.overflow_add-o
overflow_add-o c = let z = c in omega (arith, name_within z.args.s.now z.requires.1.0 z.args.v z.requires.1.1 _ c.in-Name.is, short z.args.s.now z.requires.0.answers)

pub returns-in-Context : goal.returns-in-Context
returns-in-Context c = c.place_span.ensures ∙ ap (value_span c.args.s.now) (sym c.in-Context.is)

pub returns-in-Place : goal.returns-in-Place
returns-in-Place c = c.place_span-in-Place.ensures ∙ ap (value_span c.args.s.now) (sym c.in-Place.is)

pub returns-in-Name : goal.returns-in-Name
returns-in-Name c = c.string_span.ensures ∙ ap (value_span c.args.s.now) (sym c.in-Name.is)

pub returns-in_default : goal.returns-in_default
returns-in_default c = let a = c.args in elsewhere a.s.now a.v (opened c.in_default.in_default-own.keys4)
