-- Packed strings: n bytes of eight bits each, from the bit place p on.
use Prim.Native.Nat.{ℕ, zero, suc, ◌+◌, ◌*◌, ◌/◌, ◌%◌, ◌^◌, ◌≤◌, ◌<◌}
use Rattle.std.specs.Prelude.{Bool, ◌&&◌, [], ◌∷◌, ◌++◌, ◌≡◌, eqb, leb, length, get_or}
use Rattle.std.proofs.Math.Bool.{true, false}
use Rattle.std.proofs.Math.Path.{refl, sym, ap, ap₂}
use Rattle.std.proofs.Common.{◌∙◌, zero-add}
use Rattle.std.proofs.Math.Nat.{suc-add}
use native.Mathlib.Omega.{arith}
use borrow.Author.Tests.{le-leb, lt-leb, leb-true, leb-false, eq-eqb, eqb-true}
use Rattle.rules.specs.Bytes.{Bytes, pick, same}
use Rattle.rules.specs.Bits.{Bits}
use Rattle.rules.specs.Layout.{read, broken, onward, field, num, dec_all}
use Rattle.rules.specs.LayoutLaws.{Binary}
use Rattle.bits.specs.Fields.{field_none, field_append, field_first, field_last, field_middle}
use Rattle.bits.specs.Compare.{At}

unfoldable pub bytes_at : Bits → ℕ → ℕ → Bytes
bytes_at b p zero = []
bytes_at b p (suc n) = field b 8 p ∷ bytes_at b (p + 8) n

module _ (b : Bits) where
  pub bytes_length : (p n : ℕ) → length (bytes_at b p n) ≡ n
  unfolding bytes_at
  bytes_length p zero = refl
  bytes_length p (suc n) = ap suc (bytes_length (p + 8) n)

  -- the byte i
  pub bytes_get : (p n i : ℕ) → i < n → get_or (bytes_at b p n) i 0 ≡ field b 8 (p + 8 * i)
  unfolding bytes_at
  bytes_get p zero i h = absurd (omega arith)
  bytes_get p (suc n) zero h = ap (field b 8) (omega arith)
  bytes_get p (suc n) (suc i) h = bytes_get (p + 8) n i (omega arith) ∙ ap (field b 8) (omega arith)

  pub bytes_hold : (p n i : ℕ) {x : ℕ} → i < n → x ≡ field b 8 (p + 8 * i) → At (bytes_at b p n) i x
  bytes_hold p n i h e = record { within = rw bytes_length h; is = e ∙ sym (bytes_get p n i h) }

  -- n bytes and behind them m
  pub bytes_append : (p n m : ℕ) → bytes_at b p (n + m) ≡ bytes_at b p n ++ bytes_at b (p + 8 * n) m
  unfolding bytes_at
  bytes_append p zero m =
      let e : p + 8 * 0 ≡ p = omega arith in
      rw (zero-add, e)
  bytes_append p (suc n) m =
      let e : p + 8 * suc n ≡ p + 8 + 8 * n = omega arith in
      rw (suc-add, e, bytes_append (p + 8) n m)

  -- as the layout reads them
  pub bytes_dec : (p n : ℕ) → p ≤ b.size → dec_all (num 8) n b p ≡ pick (leb (p + 8 * n) b.size) (read (bytes_at b p n) (p + 8 * n)) broken
  unfolding bytes_at
  bytes_dec p zero h =
      let e : p + 8 * 0 ≡ p = omega arith in
      rw (e, le-leb p b.size h)
  bytes_dec p (suc n) h = first (λ k. bytes_dec (p + 8) n k) (leb (p + 8) b.size) refl
    where
      onto : (t : Bool) (l : Bytes) (q : ℕ) → onward (pick t (read l q) broken) (λ l r. read (field b 8 p ∷ l) r) ≡ pick t (read (field b 8 p ∷ l) q) broken
      onto true l q = refl
      onto false l q = refl

      first : (p + 8 ≤ b.size → dec_all (num 8) n b (p + 8) ≡ pick (leb (p + 8 + 8 * n) b.size) (read (bytes_at b (p + 8) n) (p + 8 + 8 * n)) broken)
          → (t : Bool) → leb (p + 8) b.size ≡ t → onward (pick t (read (field b 8 p) (p + 8)) broken) (λ x q. onward (dec_all (num 8) n b q) (λ l r. read (x ∷ l) r)) ≡ pick (leb (p + 8 * suc n) b.size) (read (field b 8 p ∷ bytes_at b (p + 8) n) (p + 8 * suc n)) broken
      first rest true e =
          let f : p + 8 * suc n ≡ p + 8 + 8 * n = omega arith in
          rw (rest (leb-true (p + 8) b.size e), f) (onto (leb (p + 8 + 8 * n) b.size) (bytes_at b (p + 8) n) (p + 8 + 8 * n))
      first rest false e = rw (lt-leb (p + 8 * suc n) b.size (omega (arith, leb-false (p + 8) b.size e)))

-- the last n bytes of a number, the most significant first
unfoldable pub number_bytes : ℕ → ℕ → Bytes
number_bytes zero x = []
number_bytes (suc n) x = x / 2 ^ (8 * n) % 256 ∷ number_bytes n x

-- those of a field are the packed ones, behind its first w bits
pub number_packed : (b : Bits) (bin : Binary b) (n w p x : ℕ) → x ≡ field b (w + 8 * n) p → number_bytes n x ≡ bytes_at b (p + w) n
unfolding bytes_at number_bytes
number_packed b bin zero w p x e = refl
number_packed b bin (suc n) w p x e =
    let d : w + 8 * suc n ≡ w + 8 + 8 * n = omega arith in
    let f : x ≡ field b (w + 8 + 8 * n) p = rw d at e in
    let g : p + w + 8 ≡ p + (w + 8) = omega arith in
    ap₂ ◌∷◌ (ap (λ (y : ℕ). y / 2 ^ (8 * n) % 256) f ∙ field_middle b bin w 8 (8 * n) p) (number_packed b bin n (w + 8) p x f ∙ ap (λ (q : ℕ). bytes_at b q n) (sym g))

-- k bytes of each string, compared as one number, and r bytes behind them
module _ (b : Bits) (bin : Binary b) (r : ℕ) where
  pub same_run : (k p q : ℕ) → field b (8 * k) p ≡ field b (8 * k) q → same (bytes_at b p (k + r)) (bytes_at b q (k + r)) ≡ same (bytes_at b (p + 8 * k) r) (bytes_at b (q + 8 * k) r)
  unfolding bytes_at
  same_run zero p q e =
      let f : p + 8 * 0 ≡ p = omega arith in
      let g : q + 8 * 0 ≡ q = omega arith in
      rw (zero-add, f, g)
  same_run (suc k) p q e =
      let d : 8 * suc k ≡ 8 + 8 * k = omega arith in
      let h : field b (8 + 8 * k) p ≡ field b (8 + 8 * k) q = rw d at e in
      let x : field b 8 p ≡ field b 8 q = sym (field_first b bin 8 (8 * k) p) ∙ ap (λ (n : ℕ). n / 2 ^ (8 * k)) h ∙ field_first b bin 8 (8 * k) q in
      let y : field b (8 * k) (p + 8) ≡ field b (8 * k) (q + 8) = sym (field_last b bin 8 (8 * k) p) ∙ ap (λ (n : ℕ). n % 2 ^ (8 * k)) h ∙ field_last b bin 8 (8 * k) q in
      let f : p + 8 * suc k ≡ p + 8 + 8 * k = omega arith in
      let g : q + 8 * suc k ≡ q + 8 + 8 * k = omega arith in
      rw (suc-add, eq-eqb (field b 8 p) (field b 8 q) x, f, g) (same_run k (p + 8) (q + 8) y)

  pub differ_run : (k p q : ℕ) → (field b (8 * k) p ≡ field b (8 * k) q → ⊥) → false ≡ same (bytes_at b p (k + r)) (bytes_at b q (k + r))
  unfolding bytes_at
  differ_run zero p q g = absurd (g (field_none b p ∙ sym (field_none b q)))
  differ_run (suc k) p q g = rw suc-add (first (differ_run k (p + 8) (q + 8)) (eqb (field b 8 p) (field b 8 q)) refl)
    where
      both : field b 8 p ≡ field b 8 q → field b (8 * k) (p + 8) ≡ field b (8 * k) (q + 8) → field b (8 * suc k) p ≡ field b (8 * suc k) q
      both e f =
          let d : 8 * suc k ≡ 8 + 8 * k = omega arith in
          rw d (field_append b 8 (8 * k) p ∙ ap₂ (λ (m n : ℕ). m * 2 ^ (8 * k) + n) e f ∙ sym (field_append b 8 (8 * k) q))

      first : ((field b (8 * k) (p + 8) ≡ field b (8 * k) (q + 8) → ⊥) → false ≡ same (bytes_at b (p + 8) (k + r)) (bytes_at b (q + 8) (k + r)))
          → (c : Bool) → eqb (field b 8 p) (field b 8 q) ≡ c → false ≡ (c && same (bytes_at b (p + 8) (k + r)) (bytes_at b (q + 8) (k + r)))
      first rest true e = rest (λ f. g (both (eqb-true (field b 8 p) (field b 8 q) e) f))
      first rest false e = refl
