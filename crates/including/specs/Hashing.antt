-- What the hash of a call works out to, pair by pair: b is the bundle.
use Rattle.std.specs.Prelude.{ℕ, zero, suc, ◌+◌, ◌-◌, ◌≤◌, ◌<◌, Bool, true, false, List, [], ◌∷◌, ◌≡◌, refl, eqb, Option as RustOption}
use Rattle.std.proofs.Common.{sym, ap, ◌∙◌, arith, eqb-true, ne_eqb}
use Rattle.std.proofs.lemmas.Bool.{eqb-false}
use Rattle.rules.specs.Bytes.{Bytes, pick}
use Rattle.rules.specs.Bits.{Bits, bits}
use Rattle.rules.specs.Layout.{◌then◌}
use Rattle.rules.specs.Bundle.{string, param}
use Rattle.rules.specs.Error as rule
use Rattle.rules.specs.Error.{got, bad, wth}
use Rattle.rules.specs.Value.{ScopedJson}
use Rattle.rules.specs.State.{RenderContext}
use Rattle.rules.specs.Registry.{Registry}
use Rattle.rules.specs.Expand as rules
use Rattle.layout.specs.Text.{text_at}
use Rattle.parts.specs.Holds.{Holds, end, row}
use Rattle.parts.specs.HoldsLaws.{more_holds}
use Rattle.calls.specs.Calls.{param_at, hash_at, no_hash, hash_more}
use Rattle.expand.specs.Answers.{Refuses, Works}
use Rattle.including.specs.Values.{pair_place, content_place}
use Rattle.error.specs.declared.RenderErrorReason.{RenderErrorReason as Reason}
use Rattle.error.specs.Reasons.{refusal_some}

pub pick_first : (i x y : ℕ) → i ≡ 0 → x ≡ pick (eqb i 0) x y
pick_first i x y e = ap (λ (j : ℕ). pick (eqb j 0) x y) (sym e)

pub pick_later : (i x y : ℕ) → (i ≡ 0 → ⊥) → y ≡ pick (eqb i 0) x y
pick_later i x y h = rw (ne_eqb i 0 h)

pub next_place : (d : ℕ) (b : Bits) (p i : ℕ) → pick (eqb i 0) (pair_place d b p (i - 1)) (end (string then param d) b (pair_place d b p (i - 1))) ≡ pair_place d b p i
next_place d b p zero = refl
next_place d b p (suc i) = let e : suc i - 1 ≡ i = omega arith in rw (ne_eqb (suc i) 0 (λ z. absurd (omega (arith, z)))) (ap (λ (j : ℕ). end (string then param d) b (pair_place d b p j)) e)

pub refusal_works : {A : Type 0} (P : A → Type 0) (x : rule.Got A) (n : RustOption Reason) → Refuses x n → Works P x n
refusal_works P x n r = record { fine = λ e. absurd (refusal_some r.reason (r.by_reason ∙ e)); refused = λ e. r }

-- 0 for what is refused
abbrev unless_bad : {A : Type 0} → rule.Got A → ℕ → ℕ
unless_bad (got a) n = n
unless_bad (bad r) n = 0

module _ (b : Bytes) (d p : ℕ) (g : Registry) (st : RenderContext) where
  -- the value of the i-th pair
  abbrev value_of : ℕ → rule.Got ScopedJson
  value_of i = rules.expand g st (param_at d (bits b) (content_place d (bits b) p i))

  -- those in front of the m-th are worked out
  abbrev pub WorkedOut : ℕ → Type 0
  WorkedOut m = (i : ℕ) → i < m → (v : ScopedJson) × (value_of i ≡ got v)

  pub none_worked : WorkedOut 0
  none_worked i lt = absurd (omega arith)

  -- how many of the n from the i-th on are, up to the first that is refused
  abbrev pub worked : ℕ → ℕ → ℕ
  worked zero i = 0
  worked (suc n) i = unless_bad (value_of i) (suc (worked n (suc i)))

  all_counted : (n i m : ℕ) → i + n ≤ m → WorkedOut m → worked n i ≡ n
  all_counted zero i m le w = refl
  all_counted (suc n) i m le w =
      let v = w i (omega arith) in
      ap (λ (x : rule.Got ScopedJson). unless_bad x (suc (worked n (suc i)))) v.1 ∙ ap suc (all_counted n (suc i) m (omega arith) w)

  pub counted_all : (n : ℕ) → WorkedOut n → worked n 0 ≡ n
  counted_all n w = all_counted n 0 n (omega arith) w

  some_counted : (n i m : ℕ) (k : RustOption Reason) → i ≤ m → m < i + n → WorkedOut m → Refuses (value_of m) k → i + worked n i ≡ m
  some_counted zero i m k le lt w r = absurd (omega arith)
  some_counted (suc n) i m k le lt w r = go (eqb i m) refl (λ h. some_counted n (suc i) m k (omega arith) (omega arith) w r)
    where
      go : (y : Bool) → eqb i m ≡ y → (i < m → suc i + worked n (suc i) ≡ m) → i + worked (suc n) i ≡ m
      go true q f =
          let e = ap (λ (x : rule.Got ScopedJson). unless_bad x (suc (worked n (suc i)))) (ap value_of (eqb-true i m q) ∙ r.is) in
          omega (arith, e, eqb-true i m q)
      go false q f =
          let before : i < m = omega (arith, eqb-false i m q) in
          let e = ap (λ (x : rule.Got ScopedJson). unless_bad x (suc (worked n (suc i)))) (w i before).1 in
          omega (arith, e, f before)

  pub counted_some : (n m : ℕ) (k : RustOption Reason) → m < n → WorkedOut m → Refuses (value_of m) k → worked n 0 ≡ m
  counted_some n m k lt w r = omega (arith, some_counted n 0 m k (omega arith) (omega arith) w r)

  pub one_worked : (m : ℕ) → WorkedOut m → (v : ScopedJson) → value_of m ≡ got v → WorkedOut (suc m)
  one_worked m w v e i lt = go (eqb i m) refl
    where
      go : (y : Bool) → eqb i m ≡ y → (v : ScopedJson) × (value_of i ≡ got v)
      go true q = (v, ap value_of (eqb-true i m q) ∙ e)
      go false q = w i (omega (arith, eqb-false i m q))

  abbrev hash_from : ℕ → ℕ → rule.Got (List (Bytes × ScopedJson))
  hash_from n i = rules.expand_hash g st (hash_at d n (bits b) (pair_place d (bits b) p i))

  abbrev paired : ℕ → ℕ → rule.Got (List (Bytes × ScopedJson))
  paired n i = wth (value_of i) (λ v. wth (hash_from n (suc i)) (λ vs. got ((text_at (bits b) (pair_place d (bits b) p i), v) ∷ vs)))

  one_more : (n i : ℕ) → Holds (row (string then param d) (suc n)) (bits b) (pair_place d (bits b) p i) → hash_from (suc n) i ≡ paired n i
  one_more n i H = ap (rules.expand_hash g st) (hash_more d n (bits b) (pair_place d (bits b) p i) H)

  all_from : (n i m : ℕ) → i + n ≤ m → WorkedOut m → Holds (row (string then param d) n) (bits b) (pair_place d (bits b) p i) → (h : List (Bytes × ScopedJson)) × (hash_from n i ≡ got h)
  all_from zero i m le w H = ([], ap (rules.expand_hash g st) (no_hash d (bits b) (pair_place d (bits b) p i)))
  all_from (suc n) i m le w H =
      let v = w i (omega arith) in
      let vs = all_from n (suc i) m (omega arith) w (more_holds (string then param d) n (bits b) (pair_place d (bits b) p i) H).rest in
      let k = text_at (bits b) (pair_place d (bits b) p i) in (
        (k, v.0) ∷ vs.0,
        one_more n i H
            ∙ ap (λ (x : rule.Got ScopedJson). wth x (λ v. wth (hash_from n (suc i)) (λ vs. got ((k, v) ∷ vs)))) v.1
            ∙ ap (λ (x : rule.Got (List (Bytes × ScopedJson))). wth x (λ vs. got ((k, v.0) ∷ vs))) vs.1,
      )

  pub all_worked : (n : ℕ) → WorkedOut n → Holds (row (string then param d) n) (bits b) p → (h : List (Bytes × ScopedJson)) × (rules.expand_hash g st (hash_at d n (bits b) p) ≡ got h)
  all_worked n w H = all_from n 0 n (omega arith) w H

  refused_from : (n i m : ℕ) (k : RustOption Reason) → i ≤ m → m < i + n → WorkedOut m → Holds (row (string then param d) n) (bits b) (pair_place d (bits b) p i) → Refuses (value_of m) k → Refuses (hash_from n i) k
  refused_from zero i m k le lt w H r = absurd (omega arith)
  refused_from (suc n) i m k le lt w H r = go (eqb i m) refl (λ h. refused_from n (suc i) m k (omega arith) (omega arith) w (more_holds (string then param d) n (bits b) (pair_place d (bits b) p i) H).rest r)
    where
      go : (y : Bool) → eqb i m ≡ y → (i < m → Refuses (hash_from n (suc i)) k) → Refuses (hash_from (suc n) i) k
      go true q f =
          let e : value_of i ≡ bad r.reason = ap value_of (eqb-true i m q) ∙ r.is in
          record { reason = r.reason; is = one_more n i H ∙ ap (λ (x : rule.Got ScopedJson). wth x (λ v. wth (hash_from n (suc i)) (λ vs. got ((text_at (bits b) (pair_place d (bits b) p i), v) ∷ vs)))) e; by_reason = r.by_reason }
      go false q f =
          let before : i < m = omega (arith, eqb-false i m q) in
          let v = w i before in
          let s = f before in
          record {
            reason = s.reason;
            is = one_more n i H
                ∙ ap (λ (x : rule.Got ScopedJson). wth x (λ v. wth (hash_from n (suc i)) (λ vs. got ((text_at (bits b) (pair_place d (bits b) p i), v) ∷ vs)))) v.1
                ∙ ap (λ (x : rule.Got (List (Bytes × ScopedJson))). wth x (λ vs. got ((text_at (bits b) (pair_place d (bits b) p i), v.0) ∷ vs))) s.is;
            by_reason = s.by_reason;
          }

  pub one_refused : (n m : ℕ) (k : RustOption Reason) → m < n → WorkedOut m → Holds (row (string then param d) n) (bits b) p → Refuses (value_of m) k → Refuses (rules.expand_hash g st (hash_at d n (bits b) p)) k
  one_refused n m k lt w H r = refused_from n 0 m k (omega arith) (omega arith) w H r
