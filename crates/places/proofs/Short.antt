-- A short name as one number.
use Prim.Native.Nat.{ℕ, zero, suc, ◌+◌, ◌-◌, ◌*◌, ◌/◌, ◌%◌, ◌^◌, ◌≤◌, ◌<◌}
use mathlib.Core.Bool.{Bool, true, false, ◌&&◌}
use mathlib.Core.Path.{◌≡◌, sym, ap, ◌∙◌}
use native.Mathlib.Nat.{add-mul, mul_assoc, div-add-mod', div-le_self, div-mul-le_self, mod-eq_of_lt, mod-lt}
use native.Mathlib.Omega.{arith}
use lib.Dec.{eqb, leb}
use lib.Pow.{pow_pos, pow-add, high, shr-shr}
use borrow.Author.Tests.{eqb-true, ne_eqb, le-leb}
use Rattle.rules.specs.Order.{and_left, and_right}
use Rattle.saying.specs.Said.{is_own, IsShort}

-- one of 96 to 127
small_own : (c : ℕ) → c / 32 ≡ 3 → is_own c ≡ true
small_own c e =
    let a : leb 32 c ≡ true = le-leb 32 c (omega arith) in
    let b : eqb c 34 ≡ false = ne_eqb c 34 (λ f. omega arith) in
    let d : eqb c 92 ≡ false = ne_eqb c 92 (λ f. omega arith) in
    rw (a, b, d)

-- a number with others in front of it
high_sum : (a h k : ℕ) → (a + h * 2 ^ k) / 2 ^ k ≡ a / 2 ^ k + h
high_sum a h k =
    let b = 2 ^ k in
    let e : a + h * b ≡ (a / b + h) * b + a % b = rw (add-mul (a / b) h b) (omega (arith, div-add-mod' a b)) in
    ap (λ (x : ℕ). x / b) e ∙ high (a / b + h) k (mod-lt a (pow_pos k))

module _ (x m v g : ℕ) (e : v ≡ x / 2 ^ (56 - 8 * m) + g * 2 ^ (8 * m)) (le : m ≤ 7) (small : (t : ℕ) → t < 7 → v / 2 ^ (8 * t + 5) % 8 ≡ 3) where
  -- the byte t, from the last of the name on
  byte_is : (t : ℕ) → t < m → v / 2 ^ (8 * t) % 256 ≡ x / 2 ^ (56 - 8 * m + 8 * t) % 256
  byte_is t lt =
      let a = x / 2 ^ (56 - 8 * m) in
      let r = m - 1 - t in
      let d : 8 * m ≡ 8 * r + 8 + 8 * t = omega arith in
      let p : 2 ^ (8 * m) ≡ 2 ^ (8 * r) * 256 * 2 ^ (8 * t) = ap (λ (k : ℕ). 2 ^ k) d ∙ pow-add 2 (8 * r + 8) (8 * t) ∙ ap (λ (k : ℕ). k * 2 ^ (8 * t)) (pow-add 2 (8 * r) 8) in
      let q : g * 2 ^ (8 * m) ≡ g * 2 ^ (8 * r) * 256 * 2 ^ (8 * t) =
      ap (λ (k : ℕ). g * k) p ∙ sym (mul_assoc g (2 ^ (8 * r) * 256) (2 ^ (8 * t))) ∙ ap (λ (k : ℕ). k * 2 ^ (8 * t)) (sym (mul_assoc g (2 ^ (8 * r)) 256))
      in
      let u : v / 2 ^ (8 * t) ≡ a / 2 ^ (8 * t) + g * 2 ^ (8 * r) * 256 =
      ap (λ (k : ℕ). k / 2 ^ (8 * t)) (e ∙ ap (λ (k : ℕ). a + k) q) ∙ high_sum a (g * 2 ^ (8 * r) * 256) (8 * t)
      in
      let w : v / 2 ^ (8 * t) % 256 ≡ a / 2 ^ (8 * t) % 256 = omega (arith, u) in
      w ∙ ap (λ (k : ℕ). k % 256) (shr-shr x (56 - 8 * m) (8 * t))

  pub short_own : (j : ℕ) → j < m → is_own (x / 2 ^ (48 - 8 * j) % 256) ≡ true
  short_own j lt =
      let t = m - 1 - j in
      let d : 56 - 8 * m + 8 * t ≡ 48 - 8 * j = omega arith in
      let b : v / 2 ^ (8 * t) % 256 ≡ x / 2 ^ (48 - 8 * j) % 256 = byte_is t (omega arith) ∙ ap (λ (k : ℕ). x / 2 ^ k % 256) d in
      let f : v / 2 ^ (8 * t) / 32 % 8 ≡ 3 = ap (λ (k : ℕ). k % 8) (shr-shr v (8 * t) 5) ∙ small t (omega arith) in
      ap is_own (sym b) ∙ small_own (v / 2 ^ (8 * t) % 256) (omega (arith, f))

-- What is filled in, and the sum with it

pub fill_is : (k : ℕ) → 27127564814278752 / 2 ^ k * 2 ^ k % 2 ^ 64 ≡ 27127564814278752 / 2 ^ k * 2 ^ k
fill_is k = mod-eq_of_lt (omega (arith, div-mul-le_self 27127564814278752 (2 ^ k)))

pub fill_small : (k : ℕ) → 27127564814278752 / 2 ^ k * 2 ^ k % 2 ^ 64 ≤ 27127564814278752
fill_small k = omega (arith, fill_is k, div-mul-le_self 27127564814278752 (2 ^ k))

pub short_is : (x m r : ℕ) → m ≤ 7 → ((t : ℕ) → t < 7 → (x / 2 ^ (56 - 8 * m) + 27127564814278752 / 2 ^ (8 * m) * 2 ^ (8 * m) % 2 ^ 64) / 2 ^ (8 * t + 5) % 8 ≡ 3)
    → r ≡ x / 2 ^ (56 - 8 * m) * 256 + 34 → IsShort x m r
short_is x m r le small e = record {
  few = le;
  own = short_own x m _ (27127564814278752 / 2 ^ (8 * m)) (ap (λ (f : ℕ). x / 2 ^ (56 - 8 * m) + f) (fill_is (8 * m))) le small;
  is = e;
}

-- Seven tests at once

module _ (v : ℕ) where
  abbrev pub all_small : Bool
  all_small = (((((eqb (v / 32 % 8) 3 && eqb (v / 8192 % 8) 3) && eqb (v / 2097152 % 8) 3) && eqb (v / 536870912 % 8) 3) && eqb (v / 137438953472 % 8) 3) && eqb (v / 35184372088832 % 8) 3) && eqb (v / 9007199254740992 % 8) 3

  pub small_each : all_small ≡ true → (t : ℕ) → t < 7 → v / 2 ^ (8 * t + 5) % 8 ≡ 3
  small_each h t lt = go t lt
    where
      front6 : (((((eqb (v / 32 % 8) 3 && eqb (v / 8192 % 8) 3) && eqb (v / 2097152 % 8) 3) && eqb (v / 536870912 % 8) 3) && eqb (v / 137438953472 % 8) 3) && eqb (v / 35184372088832 % 8) 3) ≡ true
      front6 = and_left ((((((eqb (v / 32 % 8) 3 && eqb (v / 8192 % 8) 3) && eqb (v / 2097152 % 8) 3) && eqb (v / 536870912 % 8) 3) && eqb (v / 137438953472 % 8) 3) && eqb (v / 35184372088832 % 8) 3)) (eqb (v / 9007199254740992 % 8) 3) h

      front5 : ((((eqb (v / 32 % 8) 3 && eqb (v / 8192 % 8) 3) && eqb (v / 2097152 % 8) 3) && eqb (v / 536870912 % 8) 3) && eqb (v / 137438953472 % 8) 3) ≡ true
      front5 = and_left (((((eqb (v / 32 % 8) 3 && eqb (v / 8192 % 8) 3) && eqb (v / 2097152 % 8) 3) && eqb (v / 536870912 % 8) 3) && eqb (v / 137438953472 % 8) 3)) (eqb (v / 35184372088832 % 8) 3) front6

      front4 : (((eqb (v / 32 % 8) 3 && eqb (v / 8192 % 8) 3) && eqb (v / 2097152 % 8) 3) && eqb (v / 536870912 % 8) 3) ≡ true
      front4 = and_left ((((eqb (v / 32 % 8) 3 && eqb (v / 8192 % 8) 3) && eqb (v / 2097152 % 8) 3) && eqb (v / 536870912 % 8) 3)) (eqb (v / 137438953472 % 8) 3) front5

      front3 : ((eqb (v / 32 % 8) 3 && eqb (v / 8192 % 8) 3) && eqb (v / 2097152 % 8) 3) ≡ true
      front3 = and_left (((eqb (v / 32 % 8) 3 && eqb (v / 8192 % 8) 3) && eqb (v / 2097152 % 8) 3)) (eqb (v / 536870912 % 8) 3) front4

      front2 : (eqb (v / 32 % 8) 3 && eqb (v / 8192 % 8) 3) ≡ true
      front2 = and_left ((eqb (v / 32 % 8) 3 && eqb (v / 8192 % 8) 3)) (eqb (v / 2097152 % 8) 3) front3

      front1 : eqb (v / 32 % 8) 3 ≡ true
      front1 = and_left (eqb (v / 32 % 8) 3) (eqb (v / 8192 % 8) 3) front2

      go : (t : ℕ) → t < 7 → v / 2 ^ (8 * t + 5) % 8 ≡ 3
      go zero l = eqb-true (v / 32 % 8) 3 front1
      go (suc zero) l = eqb-true (v / 8192 % 8) 3 (and_right (eqb (v / 32 % 8) 3) (eqb (v / 8192 % 8) 3) front2)
      go (suc (suc zero)) l = eqb-true (v / 2097152 % 8) 3 (and_right ((eqb (v / 32 % 8) 3 && eqb (v / 8192 % 8) 3)) (eqb (v / 2097152 % 8) 3) front3)
      go (suc (suc (suc zero))) l = eqb-true (v / 536870912 % 8) 3 (and_right (((eqb (v / 32 % 8) 3 && eqb (v / 8192 % 8) 3) && eqb (v / 2097152 % 8) 3)) (eqb (v / 536870912 % 8) 3) front4)
      go (suc (suc (suc (suc zero)))) l = eqb-true (v / 137438953472 % 8) 3 (and_right ((((eqb (v / 32 % 8) 3 && eqb (v / 8192 % 8) 3) && eqb (v / 2097152 % 8) 3) && eqb (v / 536870912 % 8) 3)) (eqb (v / 137438953472 % 8) 3) front5)
      go (suc (suc (suc (suc (suc zero))))) l = eqb-true (v / 35184372088832 % 8) 3 (and_right (((((eqb (v / 32 % 8) 3 && eqb (v / 8192 % 8) 3) && eqb (v / 2097152 % 8) 3) && eqb (v / 536870912 % 8) 3) && eqb (v / 137438953472 % 8) 3)) (eqb (v / 35184372088832 % 8) 3) front6)
      go (suc (suc (suc (suc (suc (suc zero)))))) l = eqb-true (v / 9007199254740992 % 8) 3 (and_right ((((((eqb (v / 32 % 8) 3 && eqb (v / 8192 % 8) 3) && eqb (v / 2097152 % 8) 3) && eqb (v / 536870912 % 8) 3) && eqb (v / 137438953472 % 8) 3) && eqb (v / 35184372088832 % 8) 3)) (eqb (v / 9007199254740992 % 8) 3) h)
      go (suc (suc (suc (suc (suc (suc (suc t))))))) l = absurd (omega arith)
