-- The bit of a name, by the count of its string and its first byte.
use Prim.Native.Nat.{ℕ, ◌+◌, ◌≤◌, ◌<◌}
use mathlib.Core.List.{[], ◌∷◌}
use mathlib.Core.Path.{◌≡◌, refl, sym, ap, ◌∙◌}
use native.Mathlib.Omega.{arith}
use lib.ListN.{length}
use Rattle.rules.specs.Bytes.{Bytes}
use Rattle.rules.specs.Bits.{Bits}
use Rattle.rules.specs.Layout.{field}
use Rattle.rules.specs.LayoutLaws.{Binary}
use Rattle.bits.specs.Packed.{bytes_length}
use Rattle.layout.specs.Text.{text_at}
use Rattle.names.specs.Head.{head_is, head_count}
use Rattle.scope.specs.NameBits.{bit_at, bit_of}

module _ (b : Bits) (bin : Binary b) where
  pub no_head : (p : ℕ) → field b 24 p < 256 → bit_of (text_at b p) ≡ 0
  no_head p lt = go (text_at b p) refl
    where
      go : (t : Bytes) → text_at b p ≡ t → bit_of t ≡ 0
      go [] e = refl
      go (y ∷ t) e = absurd (omega (arith, head_is b p (y ∷ t) (omega arith) e))

  pub some_head : (p : ℕ) → 256 ≤ field b 24 p → bit_of (text_at b p) ≡ bit_at (field b 24 p)
  some_head p le = go (text_at b p) refl
    where
      go : (t : Bytes) → text_at b p ≡ t → bit_of t ≡ bit_at (field b 24 p)
      go [] e =
          let n : field b 16 p ≡ 0 = sym (bytes_length b (p + 16) (field b 16 p)) ∙ ap length e in
          absurd (omega (arith, head_count b p bin))
      go (y ∷ t) e = ap bit_at (sym (head_is b p (y ∷ t) (omega arith) e))
