-- The digits of a number, put into a buffer that has room for the most that there can be.
use Prim.Native.Nat.{ℕ, ◌+◌, ◌^◌, ◌≤◌, ◌<◌}
use mathlib.Core.List.{◌++◌, append_assoc}
use mathlib.Core.Path.{◌≡◌, sym, ap, ◌∙◌}
use native.Mathlib.Omega.{arith}
use lib.ListN.{length, take, drop, length-append}
use lib.Seq.{length-take-le, take_at}
use Rattle.rules.specs.Bytes.{Bytes, digits}
use Rattle.decimal.specs.Place.{put, behind}
use Rattle.decimal.proofs.Digits.{counted}
use Rattle.decimal.proofs.Putting.{put_all, behind_all}

module _ (xs : Bytes) (at n : ℕ) (fits : at + 20 ≤ length xs) (h : n < 2 ^ 64) where
  room : at + length (digits n) ≤ length xs
  room = let c = (counted n h).few in omega arith

  module _ (e : ℕ) (ys : Bytes) (is_end : e ≡ behind xs at (digits n)) (is-put : ys ≡ put xs at (digits n)) where
    front_length : length (take at xs ++ digits n) ≡ e
    front_length =
        length-append (take at xs) (digits n) ∙ ap (λ (k : ℕ). k + length (digits n)) (length-take-le at xs (omega arith)) ∙ sym (is_end ∙ behind_all xs at (digits n) room)

    -- what stood in front, and the digits
    pub put_front : take e ys ≡ take at xs ++ digits n
    put_front =
        ap (take e) (is-put ∙ put_all xs at (digits n) room ∙ sym (append_assoc (take at xs) (digits n) (drop (at + length (digits n)) xs)))
        ∙ take_at (take at xs ++ digits n) (drop (at + length (digits n)) xs) e front_length

    pub put_length : e ≡ length (take e ys)
    put_length = sym (ap length put_front ∙ front_length)

    pub put_within : length ys ≡ length xs → e ≤ length ys
    put_within k = omega (arith, is_end, behind_all xs at (digits n) room, room)
