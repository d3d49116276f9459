-- The bytes of a template's name, by the number that an answer has for it.
use Rattle.std.specs.Prelude.{ℕ, zero, suc, ◌+◌, ◌-◌, ◌*◌, ◌≤◌, ◌<◌, Bool, true, false, ◌&&◌, List, [], ◌++◌, ◌≡◌, leb, length, take, drop, replicate}
use Rattle.std.proofs.Common.{sym, ap, ◌∙◌, arith, length-append, length-take-le, leb-true, le-leb}
use Rattle.std.proofs.lemmas.List.{length-replicate}
use Rattle.std.proofs.lemmas.List.Edits.{sets, sets-eq}
use Rattle.std.proofs.lemmas.Bool.{lt-leb}
use Rattle.rules.specs.Bytes.{Bytes, pick}
use Rattle.rules.specs.Bits.{bits}
use Rattle.rules.specs.Picks.{and_no, and_yes}
use Rattle.rules.specs.Layout.{field}
use Rattle.bits.specs.Packed.{bytes_at, bytes_length}
use Rattle.layout.specs.Text.{text_at}
use Rattle.handlebars.specs.Answers.{both_are}

-- whether a string at the bit p lies within the bundle and has at most n bytes
abbrev pub fits : Bytes → ℕ → ℕ → Bool
fits b p n = leb (length b) 65536 && (leb (p + 16 + 8 * field (bits b) 16 p) (8 * length b) && leb (field (bits b) 16 p) n)

-- the name for a buffer of n bytes: none for the number 0, and where the string does not fit
abbrev pub template_name : Bytes → ℕ → ℕ → Bytes
template_name b zero n = []
template_name b (suc p) n = pick (fits b p n) (text_at (bits b) p) []

-- A buffer of n bytes that holds a text, and zeros behind it

pub record Filled (v : Bytes) (n r : ℕ) (out : Bytes) : Type 0 where
  pub count : r ≡ length v
  pub bytes : out ≡ v ++ replicate (n - length v) 0

-- r counts bytes of the buffer, so that they can be lent on
pub filled_counts : (v : Bytes) (n r : ℕ) (out : Bytes) → Filled v n r out → (r ≤ length out) × (r ≡ length (take r out))
filled_counts v n r out f =
    let x : length out ≡ length (v ++ replicate (n - length v) 0) = ap length f.bytes in
    let z : r ≤ length out = omega (arith, f.count, simp length-append at x) in
    (z, sym (length-take-le r out z))

pub none_filled : (v : Bytes) (n : ℕ) (out : Bytes) → v ≡ [] → out ≡ replicate n 0 → Filled v n 0 out
none_filled v n out e h =
    let x : n - 0 ≡ n = omega arith in
    record { count = sym (ap length e); bytes = h ∙ ap (λ (k : ℕ). replicate k 0) (sym x) ∙ ap (λ (v : Bytes). v ++ replicate (n - length v) 0) (sym e) }

drop_zeros : (k n : ℕ) → ◌≡◌ {A = List ℕ} (drop k (replicate n 0)) (replicate (n - k) 0)
drop_zeros zero n =
    let x : n - 0 ≡ n = omega arith in
    ap (λ (k : ℕ). replicate k 0) (sym x)
drop_zeros (suc k) zero =
    let x : 0 - suc k ≡ 0 = omega arith in
    ap (λ (k : ℕ). replicate k 0) (sym x)
drop_zeros (suc k) (suc n) =
    let x : suc n - suc k ≡ n - k = omega arith in
    drop_zeros k n ∙ ap (λ (k : ℕ). replicate k 0) (sym x)

pub sets_filled : (v : Bytes) (n : ℕ) (l : Bytes) → length v ≤ n → l ≡ replicate n 0 → sets l 0 v ≡ v ++ replicate (n - length v) 0
sets_filled v n l le e =
    let x : 0 + length v ≡ length v = omega arith in
    ap (λ (l : Bytes). sets l 0 v) e
    ∙ sets-eq v (replicate n 0) 0 (omega (arith, length-replicate {A = ℕ} n 0))
    ∙ ap (λ (k : ℕ). v ++ drop k (replicate n 0)) x
    ∙ ap (λ (l : Bytes). v ++ l) (drop_zeros (length v) n)

-- The name that a number stands for

module _ (b : Bytes) (n : ℕ) where
  pub name_zero : (t : ℕ) → t ≡ 0 → template_name b t n ≡ []
  name_zero t e = ap (λ (t : ℕ). template_name b t n) e

  by_place : (t : ℕ) → (t ≡ 0 → ⊥) → template_name b t n ≡ pick (fits b (t - 1) n) (text_at (bits b) (t - 1)) []
  by_place t ne =
      let x : t ≡ suc (t - 1) = omega arith in
      ap (λ (t : ℕ). template_name b t n) x

  pub name_none : (t : ℕ) → (t ≡ 0 → ⊥) → fits b (t - 1) n ≡ false → template_name b t n ≡ []
  name_none t ne e = by_place t ne ∙ ap (λ (y : Bool). pick y (text_at (bits b) (t - 1)) []) e

  pub name_found : (t : ℕ) → (t ≡ 0 → ⊥) → fits b (t - 1) n ≡ true → template_name b t n ≡ text_at (bits b) (t - 1)
  name_found t ne e = by_place t ne ∙ ap (λ (y : Bool). pick y (text_at (bits b) (t - 1)) []) e

  -- what a string that fits has
  pub fits_parts : (p : ℕ) → fits b p n ≡ true → (p + 16 + 8 * field (bits b) 16 p ≤ 8 * length b) × (field (bits b) 16 p ≤ n) × (length b ≤ 65536)
  fits_parts p e =
      let x = both_are (leb (length b) 65536) _ e in
      let y = both_are (leb (p + 16 + 8 * field (bits b) 16 p) (8 * length b)) _ x.1 in
      (leb-true _ _ y.0, leb-true _ _ y.1, leb-true _ _ x.0)

  -- what the tests on the way to an answer show
  pub fits_long : (p : ℕ) → 65536 < length b → false ≡ fits b p n
  fits_long p h = and_no _ _ (lt-leb _ _ h)

  pub fits_far : (p : ℕ) → length b ≤ 65536 → 8 * length b < p + 16 + 8 * field (bits b) 16 p → false ≡ fits b p n
  fits_far p le h = and_yes _ _ _ (le-leb _ _ le) (and_no _ _ (lt-leb _ _ h))

  pub fits_near : (p k : ℕ) → length b ≤ 65536 → p + 16 + 8 * field (bits b) 16 p ≤ 8 * length b → k ≡ field (bits b) 16 p → leb k n ≡ fits b p n
  fits_near p k le h e = and_yes _ _ _ (le-leb _ _ le) (and_yes _ _ _ (le-leb _ _ h) (ap (λ (k : ℕ). leb k n) e))

-- the bytes of a string that fits
pub found_filled : (b : Bytes) (n t r : ℕ) (l out : Bytes) → (t ≡ 0 → ⊥) → fits b (t - 1) n ≡ true → r ≡ field (bits b) 16 (t - 1) → l ≡ replicate n 0 → out ≡ sets l 0 (bytes_at (bits b) (t - 1 + 16) r) → Filled (template_name b t n) n r out
found_filled b n t r l out ne e q h g =
    let i : text_at (bits b) (t - 1) ≡ template_name b t n = sym (name_found b n t ne e) in
    let c : length (text_at (bits b) (t - 1)) ≡ field (bits b) 16 (t - 1) = bytes_length (bits b) (t - 1 + 16) (field (bits b) 16 (t - 1)) in
    let f = fits_parts b n (t - 1) e in
    record {
      count = q ∙ sym c ∙ ap length i;
      bytes = g ∙ ap (λ (k : ℕ). sets l 0 (bytes_at (bits b) (t - 1 + 16) k)) q ∙ sets_filled (text_at (bits b) (t - 1)) n l (omega (arith, f.1)) h ∙ ap (λ (v : Bytes). v ++ replicate (n - length v) 0) i;
    }
