-- The first seven of n bytes packed from the bit place p on, as one number x, against the text from i on.
use Prim.Native.Nat.{ℕ, ◌+◌, ◌-◌, ◌*◌, ◌/◌, ◌%◌, ◌^◌, ◌≤◌, ◌<◌}
use mathlib.Core.Bool.{true}
use mathlib.Core.Path.{◌≡◌, ap, ◌∙◌}
use native.Mathlib.Omega.{arith}
use Rattle.rules.specs.Bytes.{Bytes, same, byte_at}
use Rattle.rules.specs.Bits.{Bits}
use Rattle.rules.specs.Layout.{field}
use Rattle.rules.specs.LayoutLaws.{Binary}
use Rattle.bits.specs.Fields.{field_middle}
use Rattle.bits.specs.Packed.{bytes_at}
use Rattle.saying.specs.Said.{remaining, is_own}
use Rattle.saying.proofs.Comparing.{same_moved}
use Rattle.saying.proofs.Plain.{plain_on}

-- the byte k of them
pub head_byte : (b : Bits) → Binary b → (p x k : ℕ) → x ≡ field b 56 p → k < 7 → x / 2 ^ (48 - 8 * k) % 256 ≡ field b 8 (p + 8 * k)
head_byte b bin p x k e h =
    let v : 8 * k + 8 + (48 - 8 * k) ≡ 56 = omega arith in
    rw e (rw v at (field_middle b bin (8 * k) 8 (48 - 8 * k) p))

pub head_first : (b : Bits) → Binary b → (p x : ℕ) → x ≡ field b 56 p → x / 2 ^ 48 % 256 ≡ field b 8 p
head_first b bin p x e = head_byte b bin p x 0 e (omega arith) ∙ ap (field b 8) (omega arith)

module _ (s : Bytes) (b : Bits) where
  -- the same comparison
  pub same_places : (i j q r n m : ℕ) → i ≡ j → q ≡ r → n ≡ m → same (remaining s i 0) (bytes_at b q n) ≡ same (remaining s j 0) (bytes_at b r m)
  same_places i j q r n m e f g = rw e (same_moved b q (remaining s j 0) r n m f g)

  -- k bytes were met, and the next one is c in both
  pub headed_on : (i p n k c : ℕ) → c ≡ byte_at s (i + k) → is_own c ≡ true → i + k ≤ 65548 → (x : ℕ) → x ≡ field b 8 (p + 8 * k) → (n - k ≡ 0 → ⊥) → x ≡ c
      → same (remaining s (i + k) 0) (bytes_at b (p + 8 * k) (n - k)) ≡ same (remaining s (i + (k + 1)) 0) (bytes_at b (p + 8 * (k + 1)) (n - (k + 1)))
  headed_on i p n k c e own near x f some z =
      plain_on s b (i + k) (p + 8 * k) (n - k) c e own near x f some z
      ∙ same_places (i + k + 1) (i + (k + 1)) (p + 8 * k + 8) (p + 8 * (k + 1)) (n - k - 1) (n - (k + 1)) (omega arith) (omega arith) (omega arith)
