-- The halves of a surrogate pair, by its length.
use mathlib.Core.Bool.{Bool, true, false, ◌&&◌}
use mathlib.Core.Path.{◌≡◌, refl, sym, ap, ◌∙◌}
use Prim.Native.Nat.{ℕ, ◌+◌, ◌≤◌, ◌<◌}
use native.Mathlib.Omega.{arith}
use lib.Dec.{eqb, leb, ltb}
use borrow.Author.Tests.{ltb-true, ltb-false, leb-true}
use Rattle.rules.specs.Bytes.{Bytes, pick, byte_at, between}
use Rattle.rules.specs.Order.{and_left, and_right}
use Rattle.rules.specs.Scan.{hex_four, is_low, unicode_length}

-- v is the first half, w the second
pub record Pair (v w : ℕ) : Type 0 where
  pub high_from : 55296 ≤ v
  pub high_to : v < 56320
  pub low_from : 56320 ≤ w
  pub low_to : w ≤ 57343

low_half : (s : Bytes) (i : ℕ) → is_low s i ≡ true → between 56320 57343 (hex_four s (i + 2)) ≡ true
unfolding is_low
low_half s i h =
    and_right (eqb (byte_at s (i + 1)) 117) (between 56320 57343 (hex_four s (i + 2)))
    (and_right (eqb (byte_at s i) 92) (eqb (byte_at s (i + 1)) 117 && between 56320 57343 (hex_four s (i + 2))) h)

pub pair_halves : (s : Bytes) (i : ℕ) → unicode_length s i ≡ 12 → Pair (hex_four s (i + 2)) (hex_four s (i + 8))
unfolding unicode_length
pair_halves s i h =
    go (ltb (hex_four s (i + 2)) 55296) refl (ltb (hex_four s (i + 2)) 56320) refl (is_low s (i + 6)) refl
    (ltb (hex_four s (i + 2)) 57344) (ltb (hex_four s (i + 2)) 65536) h
  where
    go : (a : Bool) → ltb (hex_four s (i + 2)) 55296 ≡ a → (b : Bool) → ltb (hex_four s (i + 2)) 56320 ≡ b → (c : Bool) → is_low s (i + 6) ≡ c → (d e : Bool)
        → ◌≡◌ {A = ℕ} (pick a 6 (pick b (pick c 12 0) (pick d 0 (pick e 6 0)))) 12 → Pair (hex_four s (i + 2)) (hex_four s (i + 8))
    go true p b q c r d e k = absurd (omega arith)
    go false p true q true r d e k =
        let n : i + 6 + 2 ≡ i + 8 = omega arith in
        let w = ap (λ (j : ℕ). between 56320 57343 (hex_four s j)) (sym n) ∙ low_half s (i + 6) r in
        record {
          high_from = ltb-false (hex_four s (i + 2)) 55296 p;
          high_to = ltb-true (hex_four s (i + 2)) 56320 q;
          low_from = leb-true 56320 (hex_four s (i + 8)) (and_left (leb 56320 (hex_four s (i + 8))) (leb (hex_four s (i + 8)) 57343) w);
          low_to = leb-true (hex_four s (i + 8)) 57343 (and_right (leb 56320 (hex_four s (i + 8))) (leb (hex_four s (i + 8)) 57343) w);
        }
    go false p true q false r d e k = absurd (omega arith)
    go false p false q c r true e k = absurd (omega arith)
    go false p false q c r false true k = absurd (omega arith)
    go false p false q c r false false k = absurd (omega arith)
