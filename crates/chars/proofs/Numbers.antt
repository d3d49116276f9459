-- The digits of a number: each is a character.
use Prim.Native.Nat.{ℕ, ◌+◌, ◌-◌, ◌≤◌, ◌<◌}
use mathlib.Core.Bool.{Bool, true, false}
use mathlib.Core.List.{[], ◌∷◌}
use mathlib.Core.Path.{◌≡◌, refl, ap, ◌∙◌}
use native.Mathlib.Numerals.{add-one}
use native.Mathlib.Omega.{arith}
use lib.Dec.{ltb}
use lib.ListN.{length, drop, drop_of_length-le}
use lib.Seq.{drop-cons}
use borrow.Author.Tests.{lt-ltb, ltb-true, ltb-false}
use Rattle.rules.specs.Bytes.{Bytes, byte_at, digits}
use Rattle.rules.specs.Json.{jstr}
use Rattle.rules.specs.Context.{goes_on, chars}
use Rattle.decimal.proofs.Digits.{digits_plain}
use Rattle.text.specs.declared.Text.TheVariants.{Digits}
use Rattle.value.specs.declared.Value.TheVariants.{IndexText}
use Rattle.chars.specs.Spelled.{First}
use Rattle.chars.proofs.Leads.{low_byte}

one_digit : (x : ℕ) → 48 ≤ x → x ≤ 57 → digits (x - 48) ≡ x ∷ []
one_digit x l h =
    let e : 48 + (x - 48) ≡ x = omega arith in
    rw (lt-ltb (x - 48) 10 (omega arith), e)

module _ (n k : ℕ) (h : n < 65536) where
  no_digit_goes_on : goes_on (drop k (digits n)) ≡ false
  no_digit_goes_on = go (ltb k (length (digits n))) refl
    where
      go : (t : Bool) → ltb k (length (digits n)) ≡ t → goes_on (drop k (digits n)) ≡ false
      go true e =
          let l = ltb-true k (length (digits n)) e in
          let p = digits_plain n k (omega arith) l in
          ap goes_on (drop-cons (digits n) k 0 l) ∙ low_byte (byte_at (digits n) k) (omega (arith, p.1))
      go false e = ap goes_on (drop_of_length-le (digits n) {i = k} (ltb-false k (length (digits n)) e))

module _ (s b : Bytes) (n k d : ℕ) (h : n < 65536) (l : k < length (digits n)) (byte : d ≡ byte_at (digits n) k) where
  pub digit_plain : (48 ≤ d) × (d ≤ 57)
  digit_plain = let p = digits_plain n k (omega arith) l in (omega (arith, p.0), omega (arith, p.1))

  here : drop k (digits n) ≡ d ∷ drop (k + 1) (digits n)
  here = drop-cons (digits n) k 0 l ∙ rw (← byte, add-one k)

  pub digit_first : First s b (Digits n k) (IndexText (d - 48)) (Digits n (k + 1))
  digit_first =
      let p = digit_plain in
      record {
        letter = d ∷ [];
        value = record { means = ap jstr (one_digit d p.0 p.1); plain = refl; stands = omega (arith, p.1) };
        first = ap chars here ∙ rw (no_digit_goes_on n (k + 1) h);
        spelled = h;
        shorter = omega (arith, ap length here);
      }
