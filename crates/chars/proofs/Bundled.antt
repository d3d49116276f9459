-- The characters of a packed string: the first byte says how many bytes each has.
use Prim.Native.Nat.{ℕ, suc, ◌+◌, ◌-◌, ◌*◌, ◌≤◌, ◌<◌}
use mathlib.Core.Bool.{Bool, true, false}
use mathlib.Core.List.{[], ◌∷◌, ◌++◌}
use mathlib.Core.Path.{◌≡◌, refl, sym, ap, ◌∙◌, subst}
use native.Mathlib.Nat.{zero-add}
use native.Mathlib.Omega.{arith}
use lib.ListN.{length, take, drop}
use lib.Seq.{take_at, drop_at}
use Rattle.rules.specs.Bytes.{Bytes, pick, byte_at}
use Rattle.rules.specs.Order.{differ}
use Rattle.rules.specs.Bits.{bits}
use Rattle.rules.specs.Layout.{field}
use Rattle.rules.specs.Utf8.{Wants, wants, bad, lead, follows, utf8, never_follows, tails, length_by, utf8_length, length_inside}
use Rattle.rules.specs.Context.{chars}
use Rattle.bits.specs.Packed.{bytes_at, bytes_length, bytes_get, bytes_append}
use Rattle.utf8.proofs.Laws.{character, chars_at}
use Rattle.text.specs.declared.Text.TheVariants.{Packed}
use Rattle.value.specs.declared.Value.TheVariants.{PackedChar}
use Rattle.chars.specs.Leads.{lead_length}
use Rattle.chars.specs.Spelled.{First}
use Rattle.chars.proofs.Chars.{first_alone}
use Rattle.chars.proofs.Leads.{Leads, leads, enough}

pub packed_none : (b : Bytes) (p n : ℕ) → n ≡ 0 → bytes_at (bits b) p n ≡ []
unfolding bytes_at
packed_none b p n e = rw e

-- the first character of a valid text
record Split (l : Bytes) (m : ℕ) : Type 0 where
  pub some : 1 ≤ m
  pub few : m ≤ 4
  pub fits : m ≤ length l
  pub one : utf8 (take m l) ≡ true
  pub rest : utf8 (drop m l) ≡ true
  pub first : chars l ≡ take m l ∷ chars (drop m l)

length_by_lead : (l : Bytes) (c : ℕ) (w : Wants) → Leads c w → (length_by w l 0 ≡ 0 → ⊥) → length_by w l 0 ≡ lead_length c
length_by_lead l c bad k n = absurd (n refl)
length_by_lead l c (wants k low high) a n = go (tails k low high l 1) n
  where
    go : (t : Bool) → (◌≡◌ {A = ℕ} (pick t (suc k) 0) 0 → ⊥) → pick t (suc k) 0 ≡ lead_length c
    go true n = sym a.count
    go false n = absurd (n refl)

led : (l : Bytes) → 0 < length l → (utf8_length l 0 ≡ 0 → ⊥) → utf8_length l 0 ≡ lead_length (byte_at l 0)
led l h n = let e = length_inside l 0 h in e ∙ length_by_lead l (byte_at l 0) (lead (byte_at l 0)) (leads (byte_at l 0)) (λ z. n (e ∙ z))

-- as many bytes as the first one asks for are valid
one_valid : (c : ℕ) (t : Bytes) → utf8 (c ∷ t) ≡ true → utf8 (take (lead_length c) (c ∷ t)) ≡ true
one_valid c t e = go (lead c) (leads c) refl e
  where
    go : (w : Wants) → Leads c w → lead c ≡ w → follows t w ≡ true → utf8 (take (lead_length c) (c ∷ t)) ≡ true
    go bad a q e = differ (sym e ∙ never_follows t)
    go (wants k low high) a q e = ap (λ (n : ℕ). utf8 (take n (c ∷ t))) a.count ∙ ap (follows (take k t)) q ∙ enough k low high t e

split : (l : Bytes) → 1 ≤ length l → utf8 l ≡ true → Split l (lead_length (byte_at l 0))
split [] h e = absurd (omega arith)
split (c ∷ t) h e =
    let p = character (c ∷ t) 0 (omega arith) e in
    let some = p.some in
    let few = p.few in
    let fits = p.fits in
    let m = led (c ∷ t) (omega arith) (λ z. omega arith) in
    let z = zero-add (utf8_length (c ∷ t) 0) in
    record {
      some = omega arith;
      few = omega arith;
      fits = omega arith;
      one = one_valid c t e;
      rest = ap (λ (n : ℕ). utf8 (drop n (c ∷ t))) (sym m ∙ sym z) ∙ p.rest;
      first =
          chars_at (c ∷ t) 0 (omega arith) e
          ∙ ap (λ (n : ℕ). take (utf8_length (c ∷ t) 0) (c ∷ t) ∷ chars (drop n (c ∷ t))) z
          ∙ ap (λ (n : ℕ). take n (c ∷ t) ∷ chars (drop n (c ∷ t))) m;
    }

module _ (s b : Bytes) (p n m c : ℕ) (some : n ≡ 0 → ⊥) (byte : c ≡ field (bits b) 8 p) (asked : m ≡ lead_length c) where
  module _ (valid : utf8 (bytes_at (bits b) p n) ≡ true) where
    parted : Split (bytes_at (bits b) p n) m
    parted =
        let l = bytes_length (bits b) p n in
        let z : p + 8 * 0 ≡ p = omega arith in
        let g : byte_at (bytes_at (bits b) p n) 0 ≡ c = bytes_get (bits b) p n 0 (omega arith) ∙ ap (field (bits b) 8) z ∙ sym byte in
        subst (Split (bytes_at (bits b) p n)) (ap lead_length g ∙ sym asked) (split (bytes_at (bits b) p n) (omega arith) valid)

    pub packed_least : m ≤ n
    packed_least = let f = parted.fits in let l = bytes_length (bits b) p n in omega arith

    pub packed_most : m ≤ 4
    packed_most = parted.few

    seam : bytes_at (bits b) p n ≡ bytes_at (bits b) p m ++ bytes_at (bits b) (p + 8 * m) (n - m)
    seam =
        let h = packed_least in
        let e : n ≡ m + (n - m) = omega arith in
        ap (bytes_at (bits b) p) e ∙ bytes_append (bits b) p m (n - m)

    front : take m (bytes_at (bits b) p n) ≡ bytes_at (bits b) p m
    front = ap (take m) seam ∙ take_at (bytes_at (bits b) p m) (bytes_at (bits b) (p + 8 * m) (n - m)) m (bytes_length (bits b) p m)

    back : drop m (bytes_at (bits b) p n) ≡ bytes_at (bits b) (p + 8 * m) (n - m)
    back = ap (drop m) seam ∙ drop_at (bytes_at (bits b) p m) (bytes_at (bits b) (p + 8 * m) (n - m)) m (bytes_length (bits b) p m)

    begins : chars (bytes_at (bits b) p n) ≡ bytes_at (bits b) p m ∷ chars (bytes_at (bits b) (p + 8 * m) (n - m))
    begins = parted.first ∙ ap (λ (l : Bytes). l ∷ chars (drop m (bytes_at (bits b) p n))) front ∙ ap (λ (l : Bytes). bytes_at (bits b) p m ∷ chars l) back

    pub packed_first : p + 8 * n ≤ (bits b).size → First s b (Packed p n) (PackedChar p m) (Packed (p + 8 * m) (n - m))
    packed_first within =
        let h = packed_least in
        let f = packed_most in
        let o = parted.some in
        let x = bytes_length (bits b) p n in
        let y = bytes_length (bits b) (p + 8 * m) (n - m) in
        record {
          letter = bytes_at (bits b) p m;
          value = record {
            means = refl;
            plain = refl;
            stands = record {
              within = omega arith;
              one = record { alone = first_alone (bytes_at (bits b) p n) (bytes_at (bits b) p m) (chars (bytes_at (bits b) (p + 8 * m) (n - m))) begins; few = omega arith };
              valid = ap utf8 (sym front) ∙ parted.one;
            };
          };
          first = begins;
          spelled = (omega arith, ap utf8 (sym back) ∙ parted.rest);
          shorter = omega arith;
        }
