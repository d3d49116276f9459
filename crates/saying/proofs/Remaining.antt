-- The bytes of a string, one by one: what is left at a place.
use mathlib.Core.Bool.{Bool, true, false, ◌&&◌, not}
use mathlib.Core.List.{[], ◌∷◌, ◌++◌}
use mathlib.Core.Path.{◌≡◌, refl, sym, ap, ◌∙◌, subst}
use Prim.Native.Nat.{ℕ, zero, suc, ◌+◌, ◌≤◌, ◌<◌}
use native.Mathlib.Numerals.{add-one}
use native.Mathlib.Omega.{arith}
use lib.Dec.{eqb, ltb, leb}
use lib.ListN.{length, get_or, take, drop, length-append, get_or-eq_default, get_or-append}
use lib.Seq.{drop-cons, drop-nil, drop_at}
use borrow.Author.Tests.{eq-eqb, ne_eqb, eqb-false, le-ltb, lt-ltb, ltb-true, ltb-false, leb-true}
use Rattle.rules.specs.Bytes.{Bytes, pick, run, byte_at}
use Rattle.rules.specs.Order.{differ}
use Rattle.rules.specs.Scan.{encoded, code_point, escaped_byte, escape_length, step_length, says, saying_from}
use Rattle.scan.proofs.Bounds.{by_cases, in_text}
use Rattle.scan.proofs.Runs.{run_on, run_off, run_end}
use Rattle.strings.proofs.Lengths.{Short, escape_most}
use Rattle.saying.specs.Said.{remaining, Inside, is_own, own_end}

-- something is said everywhere
record Some (l : Bytes) : Type 0 where
  pub some : 0 < length l

some_cons : (a : ℕ) (l : Bytes) → Some (a ∷ l)
some_cons a l = omega arith

some_pick : (t : Bool) (a b : Bytes) → Some a → Some b → Some (pick t a b)
some_pick t a b h k = by_cases Some t a b (λ _. h) (λ _. k)

encoded_some : (p : ℕ) → Some (encoded p)
unfolding encoded
encoded_some p = search (some_pick, some_cons) depth 9

says_some : (s : Bytes) (i : ℕ) → Some (says s i)
unfolding says
says_some s i = search (some_pick, some_cons, encoded_some) depth 9

-- Steps

step_none : (s : Bytes) (i : ℕ) → byte_at s i ≡ 0 → step_length s i ≡ 0
unfolding step_length
step_none s i z = rw z

pub step_in : (s : Bytes) (i : ℕ) → (step_length s i ≡ 0 → ⊥) → i < length s
step_in s i h = in_text s i (λ z. h (step_none s i z))

short_0 : Short 0
short_0 = omega arith

short_1 : Short 1
short_1 = omega arith

pub step_most : (s : Bytes) (i : ℕ) → Short (step_length s i)
unfolding step_length
step_most s i =
    by_cases Short (ltb (byte_at s i) 32) _ _ (λ _. short_0) (λ _. by_cases Short (eqb (byte_at s i) 92) _ _ (λ _. escape_most s i) (λ _. short_1))

-- a control character ends the string, a backslash starts an escape, any other byte stands for itself
module _ (s : Bytes) (i : ℕ) where
  pub step_control : byte_at s i < 32 → step_length s i ≡ 0
  unfolding step_length
  step_control h = rw (lt-ltb (byte_at s i) 32 h)

  pub step_escape : byte_at s i ≡ 92 → step_length s i ≡ escape_length s i
  unfolding step_length
  step_escape h = rw h

  pub step_plain : 32 ≤ byte_at s i → (byte_at s i ≡ 92 → ⊥) → step_length s i ≡ 1
  unfolding step_length
  step_plain h k = rw (le-ltb (byte_at s i) 32 h, ne_eqb (byte_at s i) 92 k)

  pub says_plain : (byte_at s i ≡ 92 → ⊥) → says s i ≡ byte_at s i ∷ []
  unfolding says
  says_plain k = rw (ne_eqb (byte_at s i) 92 k)

-- The fuel does not matter once it is enough

saying_end : (s : Bytes) (f i : ℕ) → step_length s i ≡ 0 → saying_from s f i ≡ []
unfolding saying_from
saying_end s zero i h = refl
saying_end s (suc f) i h = go (eqb (byte_at s i) 34) (eq-eqb (step_length s i) 0 h)
  where
    go : (t : Bool) → eqb (step_length s i) 0 ≡ true → pick t [] (pick (eqb (step_length s i) 0) [] (says s i ++ saying_from s f (i + step_length s i))) ≡ []
    go true e = refl
    go false e = rw e

saying_quote : (s : Bytes) (f i : ℕ) → byte_at s i ≡ 34 → saying_from s f i ≡ []
unfolding saying_from
saying_quote s zero i h = refl
saying_quote s (suc f) i h = rw (eq-eqb (byte_at s i) 34 h)

saying_more : (s : Bytes) (f i : ℕ) → (byte_at s i ≡ 34 → ⊥) → (step_length s i ≡ 0 → ⊥) → saying_from s (suc f) i ≡ says s i ++ saying_from s f (i + step_length s i)
unfolding saying_from
saying_more s f i q n = rw (ne_eqb (byte_at s i) 34 q, ne_eqb (step_length s i) 0 n)

past_end : (s : Bytes) (i : ℕ) → length s ≤ i → step_length s i ≡ 0
past_end s i h = step_none s i (get_or-eq_default s 0 {n = i} h)

saying_fuel : (s : Bytes) (f g i : ℕ) → length s < f + i → length s < g + i → saying_from s f i ≡ saying_from s g i
unfolding saying_from
saying_fuel s zero zero i h k = refl
saying_fuel s zero (suc g) i h k = sym (saying_end s (suc g) i (past_end s i (omega arith)))
saying_fuel s (suc f) zero i h k = saying_end s (suc f) i (past_end s i (omega arith))
saying_fuel s (suc f) (suc g) i h k =
    go (eqb (step_length s i) 0) refl
    (λ e. saying_fuel s f g (i + step_length s i) (let n = eqb-false (step_length s i) 0 e in omega arith) (let n = eqb-false (step_length s i) 0 e in omega arith))
  where
    go : (t : Bool) → eqb (step_length s i) 0 ≡ t → (eqb (step_length s i) 0 ≡ false → saying_from s f (i + step_length s i) ≡ saying_from s g (i + step_length s i))
        → pick (eqb (byte_at s i) 34) [] (pick t [] (says s i ++ saying_from s f (i + step_length s i)))
        ≡ pick (eqb (byte_at s i) 34) [] (pick t [] (says s i ++ saying_from s g (i + step_length s i)))
    go true e r = refl
    go false e r = ap (λ (y : Bytes). pick (eqb (byte_at s i) 34) [] (says s i ++ y)) (r e)

-- What is left

pub left_quote : (s : Bytes) (i k : ℕ) → byte_at s i ≡ 34 → remaining s i k ≡ []
left_quote s i k h = rw (saying_quote s (suc (length s)) i h) (drop-nil k)

pub left_end : (s : Bytes) (i k : ℕ) → step_length s i ≡ 0 → remaining s i k ≡ []
left_end s i k h = rw (saying_end s (suc (length s)) i h) (drop-nil k)

module _ (s : Bytes) (i : ℕ) (q : byte_at s i ≡ 34 → ⊥) (n : step_length s i ≡ 0 → ⊥) where
  -- what is said at i, and what is left behind
  pub left_whole : remaining s i 0 ≡ says s i ++ remaining s (i + step_length s i) 0
  left_whole =
      saying_more s (length s) i q n
      ∙ ap (λ (y : Bytes). says s i ++ y) (saying_fuel s (length s) (suc (length s)) (i + step_length s i) (omega arith) (omega arith))

  module _ (k : ℕ) (lt : k < length (says s i)) where
    head : remaining s i k ≡ get_or (says s i) k 0 ∷ drop (suc k) (remaining s i 0)
    head =
        let l : k < length (remaining s i 0) = omega (arith, ap length left_whole, length-append (says s i) (remaining s (i + step_length s i) 0)) in
        drop-cons (remaining s i 0) k 0 l
        ∙ ap (λ (y : ℕ). y ∷ drop (suc k) (remaining s i 0))
        (ap (λ (y : Bytes). get_or y k 0) left_whole ∙ get_or-append (says s i) (remaining s (i + step_length s i) 0) 0 k lt)

    pub left_within : remaining s i k ≡ get_or (says s i) k 0 ∷ remaining s i (k + 1)
    left_within = head ∙ ap (λ (y : ℕ). get_or (says s i) k 0 ∷ remaining s i y) (sym (add-one k))

    pub left_behind : length (says s i) ≤ k + 1 → remaining s i k ≡ get_or (says s i) k 0 ∷ remaining s (i + step_length s i) 0
    left_behind le =
        head
        ∙ ap (λ (y : Bytes). get_or (says s i) k 0 ∷ y)
        (ap (drop (suc k)) left_whole ∙ drop_at (says s i) (remaining s (i + step_length s i) 0) (suc k) (omega arith))

-- a byte that stands for itself
module _ (s : Bytes) (i : ℕ) (h : 32 ≤ byte_at s i) (q : byte_at s i ≡ 34 → ⊥) (b : byte_at s i ≡ 92 → ⊥) where
  pub left_plain : remaining s i 0 ≡ byte_at s i ∷ remaining s (i + 1) 0
  left_plain =
      let e = step_plain s i h b in
      left_whole s i q (λ z. omega arith)
      ∙ ap (λ (l : Bytes). l ++ remaining s (i + step_length s i) 0) (says_plain s i b)
      ∙ ap (λ (n : ℕ). byte_at s i ∷ remaining s (i + n) 0) e

  pub left_plain_at : (k : ℕ) → k < length (says s i) → remaining s i k ≡ byte_at s i ∷ remaining s (i + 1) 0
  left_plain_at k lt =
      let z : k ≡ 0 = omega (arith, ap length (says_plain s i b)) in
      ap (λ (n : ℕ). remaining s i n) z ∙ left_plain

-- Places

pub inside_start : (s : Bytes) (i : ℕ) → i ≤ 65548 → Inside s i 0
inside_start s i le = record { here = (says_some s i).some; near = le }

pub inside_behind : (s : Bytes) (i : ℕ) → (step_length s i ≡ 0 → ⊥) → length s ≤ 65536 → Inside s (i + step_length s i) 0
inside_behind s i n ls =
    let l = step_in s i n in
    inside_start s (i + step_length s i) (omega (arith, (step_most s i).most))

-- Bytes that stand for themselves

own_by : (a b c : Bool) → a && (not b && not c) ≡ true → (a ≡ true) × (b ≡ false) × (c ≡ false)
own_by true false false h = (refl, refl, refl)
own_by true false true h = differ (sym h)
own_by true true c h = differ (sym h)
own_by false b c h = differ (sym h)

module _ (s : Bytes) where
  pub own_in : (i : ℕ) → is_own (byte_at s i) ≡ true → i < length s
  own_in i h = in_text s i (λ z. differ (sym h ∙ ap is_own z))

  -- one
  pub own_step : (i k : ℕ) → is_own (byte_at s i) ≡ true → Inside s i k → remaining s i k ≡ byte_at s i ∷ remaining s (i + 1) 0
  own_step i k h q =
      let o = own_by (leb 32 (byte_at s i)) (eqb (byte_at s i) 34) (eqb (byte_at s i) 92) h in
      left_plain_at s i (leb-true 32 (byte_at s i) o.0) (eqb-false (byte_at s i) 34 o.1) (eqb-false (byte_at s i) 92 o.2) k q.here

  -- a run of them
  pub record OwnRun (i k : ℕ) : Type 0 where
    pub is : remaining s i k ≡ take (run is_own (drop i s)) (drop i s) ++ remaining s (own_end s i) k
    pub inside : Inside s (own_end s i) k

  own_none : (i k : ℕ) → run is_own (drop i s) ≡ 0 → Inside s i k → OwnRun i k
  own_none i k e q = let x : i + 0 ≡ i = omega arith in record { is = rw (e, x); inside = rw (e, x) q }

  own_more : (i k : ℕ) → i < length s → is_own (byte_at s i) ≡ true → Inside s i k → OwnRun (i + 1) 0 → OwnRun i k
  own_more i k lt h q r =
      let d : drop i s ≡ byte_at s i ∷ drop (i + 1) s = drop-cons s i 0 lt ∙ ap (λ (n : ℕ). byte_at s i ∷ drop n s) (sym (add-one i)) in
      let e : own_end s i ≡ own_end s (i + 1) = run_on is_own s i lt h in
      let n : run is_own (drop i s) ≡ suc (run is_own (drop (i + 1) s)) = omega arith in
      let z : k ≡ 0 = own_zero i k h q in
      record {
        is =
            own_step i k h q ∙ ap (λ (l : Bytes). byte_at s i ∷ l) r.is
            ∙ ap (λ (j : ℕ). byte_at s i ∷ (take (run is_own (drop (i + 1) s)) (drop (i + 1) s) ++ remaining s j 0)) (sym e)
            ∙ ap (λ (j : ℕ). byte_at s i ∷ (take (run is_own (drop (i + 1) s)) (drop (i + 1) s) ++ remaining s (own_end s i) j)) (sym z)
            ∙ ap (λ (l : Bytes). take (suc (run is_own (drop (i + 1) s))) l ++ remaining s (own_end s i) k) (sym d)
            ∙ ap (λ (m : ℕ). take m (drop i s) ++ remaining s (own_end s i) k) (sym n);
        inside = subst (λ (j : ℕ). Inside s j k) (sym e) (subst (Inside s (own_end s (i + 1))) (sym z) r.inside);
      }
    where
      own_zero : (i k : ℕ) → is_own (byte_at s i) ≡ true → Inside s i k → k ≡ 0
      own_zero i k h q =
          let o = own_by (leb 32 (byte_at s i)) (eqb (byte_at s i) 34) (eqb (byte_at s i) 92) h in
          omega (arith, q.here, ap length (says_plain s i (eqb-false (byte_at s i) 92 o.2)))

  own_from : (f i k : ℕ) → length s ≤ f + i → length s ≤ 65536 → Inside s i k → OwnRun i k
  own_from zero i k le ls q = own_none i k (let e = run_end is_own s i (omega arith) in omega arith) q
  own_from (suc f) i k le ls q =
      go (ltb i (length s)) refl (is_own (byte_at s i)) refl (λ lt. own_from f (i + 1) 0 (omega arith) ls (inside_start s (i + 1) (omega arith)))
    where
      go : (a : Bool) → ltb i (length s) ≡ a → (b : Bool) → is_own (byte_at s i) ≡ b → (i < length s → OwnRun (i + 1) 0) → OwnRun i k
      go false x b y r = own_none i k (let e = run_end is_own s i (ltb-false i (length s) x) in omega arith) q
      go true x true y r = let lt = ltb-true i (length s) x in own_more i k lt y q (r lt)
      go true x false y r = own_none i k (let e = run_off is_own s i (ltb-true i (length s) x) y in omega arith) q

  pub own_run : (i k : ℕ) → length s ≤ 65536 → Inside s i k → OwnRun i k
  own_run i k ls q = own_from (length s) i k (omega arith) ls q
