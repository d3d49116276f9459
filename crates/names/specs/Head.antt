-- The count of a string and its first byte, read at once: the 24 bits that it starts with.
use Rattle.std.specs.Prelude.{ℕ, suc, ◌+◌, ◌*◌, ◌/◌, ◌<◌, Bool, true, false, [], ◌∷◌, ◌≡◌, refl, length, get_or}
use Rattle.std.proofs.Common.{sym, ap, ap₂, ◌∙◌, arith}
use Rattle.rules.specs.Bytes.{Bytes, same}
use Rattle.rules.specs.Bits.{Bits}
use Rattle.rules.specs.Layout.{field}
use Rattle.rules.specs.LayoutLaws.{Binary, field_lt}
use Rattle.rules.specs.Order.{same_eq}
use Rattle.bits.specs.Fields.{field_append, field_first}
use Rattle.bits.specs.Packed.{bytes_at, bytes_length, bytes_get}
use Rattle.layout.specs.Text.{text_at}

abbrev pub head_of : Bytes → ℕ
head_of [] = 0
head_of (y ∷ t) = suc (length t) * 256 + y

pub head_some : (t : Bytes) → 0 < length t → length t * 256 + get_or t 0 0 ≡ head_of t
head_some [] lt = absurd (omega arith)
head_some (y ∷ t) lt = refl

module _ (b : Bits) (p : ℕ) where
  pub head_is : (t : Bytes) → 0 < length t → text_at b p ≡ t → field b 24 p ≡ head_of t
  head_is [] lt e = absurd (omega arith)
  head_is (y ∷ t) lt e =
      let n : field b 16 p ≡ suc (length t) = sym (bytes_length b (p + 16) (field b 16 p)) ∙ ap length e in
      let f : field b 8 (p + 16) ≡ y =
      ap (field b 8) (omega arith) ∙ sym (bytes_get b (p + 16) (field b 16 p) 0 (omega arith)) ∙ ap (λ (l : Bytes). get_or l 0 0) e in
      field_append b 16 8 p ∙ ap₂ (λ (k z : ℕ). k * 256 + z) n f

  -- the string t has the head of t
  pub same_head : (t : Bytes) → 0 < length t → same (text_at b p) t ≡ true → field b 24 p ≡ head_of t
  same_head t lt e = head_is t lt (same_eq (text_at b p) t e)

  -- a string with another head is not t
  pub other_head : (t : Bytes) → 0 < length t → (field b 24 p ≡ head_of t → ⊥) → same (text_at b p) t ≡ false
  other_head t lt h = go (same (text_at b p) t) refl
    where
      go : (r : Bool) → same (text_at b p) t ≡ r → r ≡ false
      go true e = absurd (h (same_head t lt e))
      go false e = refl

  module _ (bin : Binary b) where
    pub head_count : field b 24 p / 256 ≡ field b 16 p
    head_count = field_first b bin 16 8 p

    -- what a string with the head of t starts with
    module _ (y : ℕ) (t : Bytes) (lt : y < 256) (e : field b 24 p ≡ head_of (y ∷ t)) where
      pub count_of : field b 16 p ≡ suc (length t)
      count_of = omega (arith, e, field_append b 16 8 p, field_lt b bin 8 (p + 16))

      pub first_of : field b 8 (p + 16) ≡ y
      first_of = omega (arith, e, field_append b 16 8 p, field_lt b bin 8 (p + 16))

      pub text_first : text_at b p ≡ y ∷ bytes_at b (p + 16 + 8) (length t)
      unfolding bytes_at
      text_first = rw (count_of, first_of)
