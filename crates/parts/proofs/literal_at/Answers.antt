use native.Mathlib.Omega.{arith}
use mathlib.Core.Path.{ap, sym, ◌∙◌}
use Prim.Native.Nat.{◌+◌}
use Rattle.parts.specs.declared.Literal.TheVariants.{Unsigned, Negative}
use Rattle.parts.specs.Views.{literal_of}
use Rattle.parts.specs.Parts.{literal_fits, literal_negative, below_zero_top, five_more}
use Rattle.rules.specs.BundleLaws.{bits_size}
use Rattle.rules.specs.Bits.{bits}
use Rattle.parts.proofs.literal_at.Goals as goal

pub overflow_add-q : goal.overflow_add-q
overflow_add-q c = let s = c in omega (arith, literal_fits (bits s.args.b.now) s.args.p s.requires.1, bits_size s.args.b.now)

pub returns-in-0 : goal.returns-in-0
returns-in-0 c = let s = c in ap (literal_of (bits s.args.b.now) (s.args.p + 3)) (sym c.in-0.is ∙ c.field.ensures)

pub returns-in-1 : goal.returns-in-1
returns-in-1 c = let s = c in ap (literal_of (bits s.args.b.now) (s.args.p + 3)) (sym c.in-1.is ∙ c.field.ensures)

pub returns-in-2 : goal.returns-in-2
returns-in-2 c = let s = c in ap (literal_of (bits s.args.b.now) (s.args.p + 3)) (sym c.in-2.is ∙ c.field.ensures)

pub returns-in-3 : goal.returns-in-3
returns-in-3 c = let s = c in ap Unsigned c.field-in-3.ensures ∙ ap (literal_of (bits s.args.b.now) (s.args.p + 3)) (sym c.in-3.is ∙ c.field.ensures)

pub overflow_add-result : goal.overflow_add-result
overflow_add-result c = let s = c in omega (arith, c.field-in-4.ensures, below_zero_top (bits s.args.b.now) (s.args.p + 3) (literal_negative (bits s.args.b.now) s.args.p s.requires.1 (sym c.field.ensures ∙ c.in-4.is)).inner)

pub returns-in-4 : goal.returns-in-4
returns-in-4 c = let s = c in ap Negative (omega (arith, c.field-in-4.ensures)) ∙ ap (literal_of (bits s.args.b.now) (s.args.p + 3)) (sym c.in-4.is ∙ c.field.ensures)

pub returns-in_default : goal.returns-in_default
returns-in_default c = let s = c in ap (literal_of (bits s.args.b.now) (s.args.p + 3)) (five_more _ (omega arith) ∙ c.field.ensures)
