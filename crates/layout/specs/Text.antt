-- The bytes of a string that stands at a place.
use Rattle.std.specs.Prelude.{ℕ, zero, suc, ◌+◌, ◌*◌, ◌≤◌, ◌<◌, Bool, true, false, ◌∷◌, ◌≡◌, refl, leb}
use Rattle.std.proofs.Common.{sym, ap, ◌∙◌, arith, le-leb, leb-true, leb-false}
use Rattle.rules.specs.Bytes.{Bytes, pick}
use Rattle.rules.specs.Utf8.{utf8}
use Rattle.rules.specs.Bits.{Bits}
use Rattle.rules.specs.Layout.{read, broken, onward, field, num, dec_all, counted}
use Rattle.rules.specs.LayoutLaws.{not_read, tested_was, counted_was, pick_was}
use Rattle.rules.specs.Bundle.{string}
use Rattle.bits.specs.Packed.{bytes_at}

abbrev pub text_at : Bits → ℕ → Bytes
text_at b p = bytes_at b (p + 16) (field b 16 p)

-- n bytes that are there are read, and n that are not break the layout

pub bytes_read : (b : Bits) (n p : ℕ) → p + 8 * n ≤ b.size → dec_all (num 8) n b p ≡ read (bytes_at b p n) (p + 8 * n)
unfolding bytes_at
bytes_read b zero p h = let e : p + 8 * 0 ≡ p = omega arith in rw e
bytes_read b (suc n) p h =
    let e : p + 8 * suc n ≡ p + 8 + 8 * n = omega arith in
    rw (le-leb (p + 8) b.size (omega arith), bytes_read b n (p + 8) (omega arith), e)

pub bytes_broken : (b : Bits) (n p : ℕ) → p ≤ b.size → b.size < p + 8 * n → dec_all (num 8) n b p ≡ broken
bytes_broken b zero p g h = absurd (omega arith)
bytes_broken b (suc n) p g h = one (leb (p + 8) b.size) refl (λ i. bytes_broken b n (p + 8) i (omega arith))
  where
    one : (t : Bool) → leb (p + 8) b.size ≡ t → (p + 8 ≤ b.size → dec_all (num 8) n b (p + 8) ≡ broken)
        → onward (pick t (read (field b 8 p) (p + 8)) broken) (λ x r. onward (dec_all (num 8) n b r) (λ l r. read (x ∷ l) r)) ≡ broken
    one true e i = rw (i (leb-true (p + 8) b.size e))
    one false e i = refl

bytes_were : (b : Bits) (n p : ℕ) (s : Bytes) (q : ℕ) → p ≤ b.size → dec_all (num 8) n b p ≡ read s q
    → (bytes_at b p n ≡ s) × (p + 8 * n ≡ q) × (q ≤ b.size)
bytes_were b n p s q g h = fits (leb (p + 8 * n) b.size) refl
  where
    fits : (t : Bool) → leb (p + 8 * n) b.size ≡ t → (bytes_at b p n ≡ s) × (p + 8 * n ≡ q) × (q ≤ b.size)
    fits true e =
        let i = sym (bytes_read b n p (leb-true _ _ e)) ∙ h in
        let j : p + 8 * n ≡ q = cc in
        (cc, j, omega (arith, leb-true (p + 8 * n) b.size e))
    fits false e = not_read (sym (bytes_broken b n p g (leb-false _ _ e)) ∙ h)

-- what a string that was read says
pub string_was : (b : Bits) (p : ℕ) (s : Bytes) (q : ℕ) → string.dec b p ≡ read s q
    → (text_at b p ≡ s) × (p + 16 + 8 * field b 16 p ≡ q) × (q ≤ b.size)
string_was b p s q h =
    let m = tested_was utf8 (counted 16 (num 8)) b p s q h in
    let n = counted_was 16 (num 8) b p s q m.0 in
    let o = pick_was (leb (p + 16) b.size) (field b 16 p) n.0 (p + 16) n.1 n.2 in
    let i : dec_all (num 8) (field b 16 p) b (p + 16) ≡ read s q = ap (λ (k : ℕ). dec_all (num 8) k b (p + 16)) o.1 ∙ ap (dec_all (num 8) n.0 b) o.2 ∙ n.3 in
    bytes_were b (field b 16 p) (p + 16) s q (leb-true _ _ o.0) i
