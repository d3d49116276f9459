-- Digits written from the last to the first, into a buffer that has room for them.
use Prim.Native.Nat.{ℕ, suc, ◌+◌, ◌/◌, ◌%◌, ◌≤◌, ◌<◌}
use native.Mathlib.Nat.{add-zero}
use native.Mathlib.Omega.{arith}
use mathlib.Core.List.{[], ◌∷◌, ◌++◌, append_assoc, append-nil}
use mathlib.Core.Path.{◌≡◌, sym, ap, ◌∙◌}
use lib.ListN.{length, get_or, take, drop, set, take-append-drop}
use lib.Seq.{take-suc, set_at, drop_at, drop-length, length-take-le}
use Rattle.rules.specs.Bytes.{Bytes}
use Rattle.decimal.specs.Digits.{places}
use Rattle.decimal.specs.Place.{put}
use Rattle.decimal.proofs.Digits.{length_places}
use Rattle.decimal.proofs.Putting.{put_all}

-- the last of the bytes in front is replaced
set_last : (xs z : Bytes) (m v : ℕ) → m < length xs → set (take (suc m) xs ++ z) m v ≡ take m xs ++ (v ∷ z)
set_last xs z m v h =
    ap (λ l. set (l ++ z) m v) (take-suc xs m 0 h) ∙ ap (λ l. set l m v) (append_assoc (take m xs) (get_or xs m 0 ∷ []) z)
    ∙ set_at (take m xs) (get_or xs m 0) z v m (length-take-le m xs (omega arith))

-- the buffer xs with the digits d at `at`, but for the first i of them; `rest` has those
pub record Written (xs : Bytes) (at : ℕ) (d : Bytes) (rest i : ℕ) (out : Bytes) : Type 0 where
  pub left : i ≤ length d
  pub so_far : out ≡ take (at + i) xs ++ (drop i d ++ drop (at + length d) xs)
  pub to_come : d ≡ places i rest ++ drop i d

pub written_none : (xs : Bytes) (at n : ℕ) (d : Bytes) → d ≡ places (length d) n → Written xs at d n (length d) xs
written_none xs at n d e = record {
  left = omega arith;
  so_far = sym (ap (λ l. take (at + length d) xs ++ (l ++ drop (at + length d) xs)) (drop-length d) ∙ take-append-drop (at + length d) xs);
  to_come = e ∙ sym (append-nil (places (length d) n)) ∙ ap (λ l. places (length d) n ++ l) (sym (drop-length d));
}

pub written_more : (xs : Bytes) (at : ℕ) (d : Bytes) (rest m : ℕ) (out : Bytes) → at + length d ≤ length xs → Written xs at d rest (suc m) out → Written xs at d (rest / 10) m (set out (at + m) (48 + rest % 10))
written_more xs at d rest m out room w =
    let b = 48 + rest % 10 in
    let q = places m (rest / 10) in
    let l = w.left in
    let all : d ≡ q ++ (b ∷ drop (suc m) d) = w.to_come ∙ append_assoc q (b ∷ []) (drop (suc m) d) in
    let tail : drop m d ≡ b ∷ drop (suc m) d = ap (drop m) all ∙ drop_at q (b ∷ drop (suc m) d) m (length_places m (rest / 10)) in
    let e : at + suc m ≡ suc (at + m) = omega arith in
    record {
      left = omega arith;
      so_far =
          ap (λ o. set o (at + m) b) (w.so_far ∙ ap (λ k. take k xs ++ (drop (suc m) d ++ drop (at + length d) xs)) e)
          ∙ set_last xs (drop (suc m) d ++ drop (at + length d) xs) (at + m) b (omega arith)
          ∙ ap (λ l. take (at + m) xs ++ (l ++ drop (at + length d) xs)) (sym tail);
      to_come = all ∙ ap (λ l. q ++ l) (sym tail);
    }

pub written_all : (xs : Bytes) (at rest : ℕ) (d out : Bytes) → at + length d ≤ length xs → Written xs at d rest 0 out → out ≡ put xs at d
written_all xs at rest d out room w = w.so_far ∙ ap (λ k. take k xs ++ (d ++ drop (at + length d) xs)) (add-zero at) ∙ sym (put_all xs at d room)
