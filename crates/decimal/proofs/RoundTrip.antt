-- What is written is read back: the digits of a number parse to that number.
use Prim.Native.Nat.{ℕ, zero, suc, ◌+◌, ◌-◌, ◌*◌, ◌/◌, ◌%◌, ◌^◌, ◌≤◌, ◌<◌}
use native.Mathlib.Nat.{pow-suc, mul_assoc}
use native.Mathlib.Omega.{arith}
use mathlib.Core.List.{[], ◌∷◌, ◌++◌, append_assoc, append-nil}
use mathlib.Core.Option.{some}
use mathlib.Core.Path.{◌≡◌, refl, sym, ap, ◌∙◌}
use lib.ListN.{length, drop}
use lib.Seq.{drop-cons}
use borrow.Author.Tests.{le-leb, ne_eqb}
use Rattle.rules.specs.Bytes.{Bytes, byte_at, digits}
use Rattle.rules.specs.Context.{parse_digits, parse_usize}
use Rattle.decimal.specs.Digits.{places}
use Rattle.decimal.proofs.Digits.{counted, digits_places, digits_at}

-- a digit that still fits
parse_one : (acc d : ℕ) (s : Bytes) → d < 10 → acc * 10 + d ≤ 18446744073709551615 → parse_digits acc ((48 + d) ∷ s) ≡ parse_digits (acc * 10 + d) s
parse_one acc d s h f =
    let e : acc * 10 + (48 + d) - 48 ≡ acc * 10 + d = omega arith in
    rw (le-leb 48 (48 + d) (omega arith), le-leb (48 + d) 57 (omega arith), le-leb (acc * 10 + (48 + d)) (18446744073709551615 + 48) (omega arith), e)

pub parse_places : (k acc n : ℕ) (s : Bytes) → n < 10 ^ k → acc * 10 ^ k + n ≤ 18446744073709551615 → parse_digits acc (places k n ++ s) ≡ parse_digits (acc * 10 ^ k + n) s
parse_places zero acc n s h f =
    let e : acc ≡ acc * 1 + n = omega arith in
    ap (λ m. parse_digits m s) e
parse_places (suc k) acc n s h f =
    let p = pow-suc 10 k in
    let a : acc * 10 ^ suc k ≡ acc * 10 ^ k * 10 = ap (λ m. acc * m) p ∙ sym (mul_assoc acc (10 ^ k) 10) in
    let d = n % 10 in
    let e : (acc * 10 ^ k + n / 10) * 10 + d ≡ acc * 10 ^ suc k + n = omega arith in
    ap (parse_digits acc) (append_assoc (places k (n / 10)) ((48 + d) ∷ []) s) ∙ parse_places k acc (n / 10) ((48 + d) ∷ s) (omega arith) (omega arith)
    ∙ parse_one (acc * 10 ^ k + n / 10) d s (omega arith) (omega arith) ∙ ap (λ m. parse_digits m s) e

-- no plus in front
parse_plain : (c : ℕ) (s : Bytes) → (c ≡ 43 → ⊥) → parse_usize (c ∷ s) ≡ parse_digits 0 (c ∷ s)
parse_plain c [] h = refl
parse_plain c (d ∷ s) h = rw (ne_eqb c 43 h)

pub parse_written : (n : ℕ) → n < 2 ^ 64 → parse_usize (digits n) ≡ some n
parse_written n h =
    let k = length (digits n) in
    let c = counted n h in
    let some-digit : 0 < k = c.some in
    let first : digits n ≡ byte_at (digits n) 0 ∷ drop 1 (digits n) = drop-cons (digits n) 0 0 some-digit in
    let least = digits_at n 0 h some-digit in
    let all : digits n ≡ places k n ++ [] = digits_places n h ∙ sym (append-nil (places k n)) in
    let z : 0 * 10 ^ k + n ≡ n = omega arith in
    ap parse_usize first ∙ parse_plain (byte_at (digits n) 0) (drop 1 (digits n)) (λ e. omega arith) ∙ ap (parse_digits 0) (sym first ∙ all)
    ∙ parse_places k 0 n [] c.below (omega arith) ∙ ap some z
