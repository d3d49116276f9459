-- Which texts are texts of characters.
use Rattle.std.specs.Prelude.{ℕ, ◌+◌, ◌≤◌, refl}
use Rattle.std.proofs.Common.{ap, ◌∙◌}
use native.Mathlib.Omega.{arith}
use Rattle.rules.specs.Bytes.{Bytes}
use Rattle.rules.specs.Utf8.{utf8}
use Rattle.rules.specs.Bits.{bits}
use Rattle.rules.specs.Layout.{field, num, counted}
use Rattle.rules.specs.LayoutLaws.{tested_was}
use Rattle.rules.specs.Bundle.{string}
use Rattle.bits.specs.Packed.{bytes_at}
use Rattle.layout.specs.Text.{string_was}
use Rattle.parts.specs.Holds.{Holds}
use Rattle.text.specs.declared.Text.TheVariants.{Said, Part, Packed}
use Rattle.meaning.specs.Standing.{NameStands, SaidStands, PackedStands}
use Rattle.chars.specs.Spelled.{Spelled}

module _ (s b : Bytes) where
  pub nothing_spelled : Spelled s b (Packed 0 0)
  unfolding bytes_at
  nothing_spelled = (omega arith, refl)

  -- the string of the plan whose first quote stands at o
  pub name_spelled : (o : ℕ) → o ≤ 65536 → NameStands s o → Spelled s b (Said (o + 1) 0)
  name_spelled o near h = (refl, h.whole, omega arith)

  -- the string of the bundle whose count stands at p
  pub string_spelled : (p : ℕ) → Holds string (bits b) p → Spelled s b (Packed (p + 16) (field (bits b) 16 p))
  string_spelled p h =
      let w = string_was (bits b) p h.found h.behind h.reads in
      let v = tested_was utf8 (counted 16 (num 8)) (bits b) p h.found h.behind h.reads in
      let e = w.1 in
      let l = w.2 in
      (omega arith, ap utf8 w.0 ∙ v.1)

  -- one character
  pub said_spelled : (at n : ℕ) → SaidStands s at n → Spelled s b (Part at 0 n)
  said_spelled at n h = (refl, h)

  pub packed_spelled : (p n : ℕ) → PackedStands b p n → Spelled s b (Packed p n)
  packed_spelled p n h = (h.within, h.valid)
