-- No text has more than 65,536 characters.
use Prim.Native.Nat.{ℕ, ◌≤◌}
use mathlib.Core.Path.{ap, ◌∙◌}
use native.Mathlib.Omega.{arith}
use lib.ListN.{length, take, drop, length-drop}
use Rattle.rules.specs.Bytes.{Bytes, digits}
use Rattle.rules.specs.Bits.{bits}
use Rattle.rules.specs.BundleLaws.{bits_size}
use Rattle.rules.specs.Context.{chars}
use Rattle.bits.specs.Packed.{bytes_at, bytes_length}
use Rattle.decimal.proofs.Digits.{counted}
use Rattle.saying.specs.Said.{remaining}
use Rattle.text.specs.Rest.{rest}
use Rattle.text.specs.declared.Text.{Text}
use Rattle.text.specs.declared.Text.TheVariants.{Said, Part, Packed, Digits, Minus}
use Rattle.chars.specs.Spelled.{Spelled}
use Rattle.chars.proofs.Chars.{chars_few}
use Rattle.chars.proofs.Strings.{said_few}

module _ (s b : Bytes) (hs : length s ≤ 65536) (hb : length b ≤ 65536) where
  pub count_few : (t : Text) → Spelled s b t → length (chars (rest s b t)) ≤ 65536
  count_few (Said at k) h =
      let f = chars_few (remaining s at k) in
      let l = said_few s at h.1 in
      let e = ap (λ (j : ℕ). length (remaining s at j)) h.0 in
      omega arith
  count_few (Part at k n) h =
      let f = ap length (ap (λ (j : ℕ). chars (take n (remaining s at j))) h.0 ∙ h.1.one.alone) in
      omega arith
  count_few (Packed p n) h =
      let f = chars_few (bytes_at (bits b) p n) in
      let l = bytes_length (bits b) p n in
      let z = bits_size b in
      let w = h.0 in
      omega arith
  count_few (Digits n k) h =
      let f = chars_few (drop k (digits n)) in
      let l = length-drop k (digits n) in
      let c = (counted n (omega arith)).few in
      omega arith
  count_few (Minus n) h = absurd h
