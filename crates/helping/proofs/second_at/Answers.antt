use Prim.Native.Nat.{ℕ, ◌+◌}
use native.Mathlib.Omega.{arith}
use mathlib.Core.Path.{sym, ap, ◌∙◌}
use Rattle.rules.specs.BundleLaws.{bits_size}
use Rattle.rules.specs.Bits.{bits}
use Rattle.rules.specs.Bundle.{literal}
use Rattle.rules.specs.Layout.{field}
use Rattle.rules.specs.Picks.{picks}
use Rattle.parts.specs.HoldsLaws.{moved}
use borrow.Author.Rules.{rules}
use Rattle.helping.proofs.second_at.Goals as goal

pub skip_path-e-requires : goal.skip_path-e-requires
skip_path-e-requires c = (c.requires.0, c.requires.1.here)

pub returns-then-field-ne2 : goal.returns-then-field-ne2
returns-then-field-ne2 c = simp (← c.skip_path-e.ensures, ← c.field.ensures) (search picks depth 9)

pub overflow_add-l : goal.overflow_add-l
overflow_add-l c = let z = c in omega (arith, z.requires.0, z.requires.1.fits, c.skip_path-e.ensures, bits_size z.args.b.now)

pub skip_literal-f-requires : goal.skip_literal-f-requires
skip_literal-f-requires c = let z = c in let e = c.skip_path-e.ensures in (z.requires.0, moved literal (bits z.args.b.now) _ _ (ap (λ (n : ℕ). n + 2) (sym e)) (z.requires.1.literal_behind (sym (ap (field (bits z.args.b.now) 2) e) ∙ sym c.field.ensures ∙ c.if-field-ne2.false)))

pub returns-then-field-eq0 : goal.returns-then-field-eq0
returns-then-field-eq0 c = simp (← c.skip_path-e.ensures, ← c.field.ensures, ← c.skip_literal-f.ensures, ← c.field-2.ensures) (search picks depth 9)

pub returns : goal.returns
returns c = simp (← c.skip_path-e.ensures, ← c.field.ensures, ← c.skip_literal-f.ensures, ← c.field-2.ensures) (search picks depth 9)
