-- A value that is a string of the bundle.
use Prim.Native.Nat.{ℕ, ◌+◌, ◌≤◌}
use mathlib.Core.Path.{◌≡◌, refl}
use lib.ListN.{length}
use Rattle.rules.specs.Bytes.{Bytes}
use Rattle.rules.specs.Json.{Json, jstr}
use Rattle.rules.specs.Bits.{bits}
use Rattle.rules.specs.Layout.{field}
use Rattle.rules.specs.Bundle.{string}
use Rattle.layout.specs.Text.{text_at}
use Rattle.parts.specs.Holds.{Holds}
use Rattle.text.specs.declared.Text.TheVariants.{Packed}
use Rattle.value.specs.declared.Value.{Value}
use Rattle.value.specs.declared.Value.TheVariants.{Text}
use Rattle.meaning.specs.declared.Form.TheVariants.{String}
use Rattle.meaning.specs.Forms.{Known}
use Rattle.meaning.specs.Means.{Means, means}
use Rattle.meaning.proofs.Forming.{formed, held_text, known}

module _ (s b : Bytes) (v : Value) (p : ℕ) (is : v ≡ Text p) (k : Known s b v) where
  pub held : Holds string (bits b) p
  held = known s b v (Text p) is refl k

  pub held_means : (P : Json → Type 0) → length b ≤ 65536 → P (jstr (text_at (bits b) p)) → Means s b v P
  held_means P small h =
      let n = field (bits b) 16 p in
      means s b P v (String (Packed (p + 16) n)) (formed s b v (Text p) (String (Packed (p + 16) n)) is refl (held_text s b p small held (p + 16) n refl refl)) (λ _. h)
