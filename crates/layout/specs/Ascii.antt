-- ASCII bytes, which leave the machine of UTF-8 between two characters.
use Rattle.std.specs.Prelude.{ℕ, zero, suc, ◌+◌, ◌-◌, ◌*◌, ◌/◌, ◌%◌, ◌^◌, ◌≤◌, ◌<◌, Bool, true, false, ◌&&◌, [], ◌∷◌, ◌++◌, ◌≡◌, refl, T, ltb}
use Rattle.std.proofs.Common.{sym, ap, ◌∙◌, subst, zero-add, suc-add, arith}
use Rattle.rules.specs.Bytes.{Bytes}
use Rattle.rules.specs.Bits.{Bits}
use Rattle.rules.specs.Layout.{field}
use Rattle.rules.specs.LayoutLaws.{Binary}
use Rattle.rules.specs.Utf8.{Wants, wants, bad, more, done, follows}
use Rattle.utf8.specs.Machine.{begun, after}
use Rattle.bits.specs.Packed.{bytes_at, bytes_append, number_bytes, number_packed}

abbrev pub ascii : Bytes → Bool
ascii [] = true
ascii (c ∷ s) = ltb c 128 && ascii s

-- A run of bytes, and what follows them

pub follows_append : (s t : Bytes) (w : Wants) → follows (s ++ t) w ≡ follows t (after w s)
follows_append [] t w = refl
follows_append (c ∷ s) t w = follows_append s t (more w c)

-- the last k bytes of x are those at p, and r bytes stand behind them
pub follows_run : (b : Bits) (bin : Binary b) (p k r x : ℕ) (w : Wants) → x ≡ field b (8 * k) p
    → follows (bytes_at b (p + 8 * k) r) (after w (number_bytes k x)) ≡ follows (bytes_at b p (k + r)) w
follows_run b bin p k r x w e =
    let z : 8 * k ≡ 0 + 8 * k = omega arith in
    let n : p + 0 ≡ p = omega arith in
    let h = number_packed b bin k 0 p x (e ∙ ap (λ (m : ℕ). field b m p) z) ∙ ap (λ (q : ℕ). bytes_at b q k) n in
    rw (h, bytes_append b p k r) (sym (follows_append (bytes_at b p k) (bytes_at b (p + 8 * k) r) w))

-- the first of the last i bytes of x, fed to the machine
pub after_step : (i x : ℕ) (w v : Wants) → 0 < i → v ≡ more w (x / 2 ^ (8 * (i - 1)) % 256) → after v (number_bytes (i - 1) x) ≡ after w (number_bytes i x)
unfolding number_bytes
after_step zero x w v p e = absurd (omega arith)
after_step (suc i) x w v p e =
    let f : suc i - 1 ≡ i = omega arith in
    let g : v ≡ more w (x / 2 ^ (8 * i) % 256) = rw f at e in
    rw f (ap (λ (u : Wants). after u (number_bytes i x)) g)

-- A run of ASCII bytes

ascii_cons : (c : ℕ) (s : Bytes) → ascii (c ∷ s) ≡ true → (ltb c 128 ≡ true) × (ascii s ≡ true)
ascii_cons c s h = both (ltb c 128) refl h
  where
    both : (t : Bool) → ltb c 128 ≡ t → (t && ascii s) ≡ true → (ltb c 128 ≡ true) × (ascii s ≡ true)
    both true e h = (e, h)
    both false e h = absurd (subst T (sym h) tt)

ascii_stays : (s : Bytes) → ascii s ≡ true → after begun s ≡ begun
ascii_stays [] h = refl
ascii_stays (c ∷ s) h = let e = ascii_cons c s h in rw e.0 (ascii_stays s e.1)

-- from between any two characters
ascii_first : (w : Wants) (c : ℕ) (s : Bytes) → done w ≡ true → ascii (c ∷ s) ≡ true → after w (c ∷ s) ≡ begun
ascii_first (wants zero low high) c s d h = ascii_stays (c ∷ s) h
ascii_first (wants (suc k) low high) c s d h = absurd (subst T (sym d) tt)
ascii_first bad c s d h = absurd (subst T (sym d) tt)

-- the last k bytes of x, where more of them are ASCII
ascii_last : (d k x : ℕ) → ascii (number_bytes (d + k) x) ≡ true → ascii (number_bytes k x) ≡ true
unfolding number_bytes
ascii_last zero k x h = rw zero-add at h
ascii_last (suc d) k x h =
    let e : ascii (number_bytes (suc (d + k)) x) ≡ true = rw suc-add at h in
    ascii_last d k x (ascii_cons (x / 2 ^ (8 * (d + k)) % 256) (number_bytes (d + k) x) e).1

ascii_some : (m k x : ℕ) → k ≤ m → ascii (number_bytes m x) ≡ true → ascii (number_bytes k x) ≡ true
ascii_some m k x l h =
    let e : m ≡ m - k + k = omega arith in
    ascii_last (m - k) k x (rw e at h)

pub ascii_passed : (m k x : ℕ) → k ≤ m → ascii (number_bytes m x) ≡ true → after begun (number_bytes k x) ≡ begun
ascii_passed m k x l h = ascii_stays (number_bytes k x) (ascii_some m k x l h)

pub ascii_begun : (m k x : ℕ) (w : Wants) → 0 < k → k ≤ m → done w ≡ true → ascii (number_bytes m x) ≡ true → after w (number_bytes k x) ≡ begun
unfolding number_bytes
ascii_begun m zero x w p l d h = absurd (omega arith)
ascii_begun m (suc k) x w p l d h = ascii_first w (x / 2 ^ (8 * k) % 256) (number_bytes k x) d (ascii_some m (suc k) x l h)
