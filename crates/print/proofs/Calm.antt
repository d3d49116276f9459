-- What a value prints that stands in the plan, where nothing of it is escaped.
use Prim.Native.Nat.{ℕ, zero, suc, ◌+◌, ◌-◌, ◌/◌, ◌%◌, ◌≤◌, ◌<◌}
use mathlib.Core.Bool.{Bool, true, false, ◌&&◌, ◌||◌, not}
use mathlib.Core.List.{List, [], ◌∷◌}
use mathlib.Core.Logic.{inl, inr}
use mathlib.Core.Path.{◌≡◌, refl, sym, ap, ◌∙◌, subst}
use native.Mathlib.Numerals.{add-one}
use native.Mathlib.Omega.{arith}
use lib.Dec.{eqb, leb}
use lib.ListN.{length, get_or, take, drop}
use lib.Seq.{drop-cons, get_or-drop}
use borrow.Author.Tests.{eqb-true, leb-true, le-leb, ne_eqb, not-true}
use Rattle.rules.specs.Bytes.{Bytes, pick, byte_at, run}
use Rattle.rules.specs.Order.{and_left, and_right, differ}
use Rattle.rules.specs.Scan.{is_digit, minus_end, whole_end, slice}
use Rattle.scan.proofs.Bounds.{whole_goes}
use Rattle.support.specs.Runs.{quiet_byte}
use Rattle.support.specs.Table.{row_in, is_escaped}
use Rattle.saying.specs.Said.{is_own, own_end}
use Rattle.places.specs.Places.{start_of, tree_at}
use Rattle.value.specs.declared.Value.{Value}
use Rattle.value.specs.Numbers.{decoded, context_number, place_number, name_number}
use Rattle.print.specs.declared.Span.{Span}
use Rattle.print.specs.Span.{no_span, string_span, number_span, span_at, InPlan, value_span, is_calm, calm_end, calm_string, calm_at, calm_of, calm_value}

pub calm_number : (s : Bytes) (q : ℕ) → (byte_at s q ≡ 34 → ⊥) → calm_at s q ≡ number_span s q
unfolding calm_at
calm_number s q n = rw (ne_eqb (byte_at s q) 34 n)

-- A byte

module _ (c : ℕ) (h : is_calm c ≡ true) where
  low : leb 32 c ≡ true
  low = and_left (leb 32 c) (not (is_escaped c) && not (eqb c 92)) h

  others : (not (is_escaped c) && not (eqb c 92)) ≡ true
  others = and_right (leb 32 c) (not (is_escaped c) && not (eqb c 92)) h

  no_backslash : not (eqb c 92) ≡ true
  no_backslash = and_right (not (is_escaped c)) (not (eqb c 92)) others

  no_entity : not (is_escaped c) ≡ true
  no_entity = and_left (not (is_escaped c)) (not (eqb c 92)) others

  -- a quote has one
  no_quote : (t : Bool) → eqb c 34 ≡ t → not t ≡ true
  unfolding row_in
  no_quote true e = differ (sym no_entity ∙ ap (λ (x : ℕ). not (is_escaped x)) (eqb-true c 34 e))
  no_quote false e = refl

  calm_own : is_own c ≡ true
  calm_own = rw (low, no_quote (eqb c 34) refl, no_backslash)

  calm_quiet : (has : Bool) → quiet_byte has true c ≡ true
  calm_quiet has = let l = leb-true 32 c low in ap (λ (t : Bool). pick t (not has) (not (is_escaped c))) (ne_eqb c 10 (λ z. omega (arith, z, l))) ∙ no_entity

digit_calm : (c : ℕ) → is_digit c ≡ true → is_calm c ≡ true
unfolding is_digit row_in
digit_calm c d =
    let low = leb-true 48 c (and_left (leb 48 c) (leb c 57) d) in
    let high = leb-true c 57 (and_right (leb 48 c) (leb c 57) d) in
    rw (
      le-leb 32 c (omega arith),
      ne_eqb c 34 (λ z. omega arith),
      ne_eqb c 38 (λ z. omega arith),
      ne_eqb c 39 (λ z. omega arith),
      ne_eqb c 60 (λ z. omega arith),
      ne_eqb c 61 (λ z. omega arith),
      ne_eqb c 62 (λ z. omega arith),
      ne_eqb c 92 (λ z. omega arith),
      ne_eqb c 96 (λ z. omega arith),
    )

-- Bytes: nothing of them is escaped, and no line ends inside

abbrev pub Quiet : Bool → Bytes → Type 0
Quiet has v = run (quiet_byte has true) v ≡ length v

module _ (has : Bool) where
  quiet_cons : (c : ℕ) (v : Bytes) → is_calm c ≡ true → Quiet has v → Quiet has (c ∷ v)
  unfolding run
  quiet_cons c v h q = ap (λ (t : Bool). pick t (suc (run (quiet_byte has true) v)) 0) (calm_quiet c h has) ∙ ap suc q

  -- a run of them by any test that makes them so
  quiet_run : (p : ℕ → Bool) → ((c : ℕ) → p c ≡ true → is_calm c ≡ true) → (l : Bytes) → Quiet has (take (run p l) l)
  unfolding run
  quiet_run p f [] = refl
  quiet_run p f (c ∷ l) = by (p c) refl (quiet_run p f l)
    where
      by : (t : Bool) → p c ≡ t → Quiet has (take (run p l) l) → Quiet has (take (pick t (suc (run p l)) 0) (c ∷ l))
      by true e q = quiet_cons c (take (run p l) l) (f c e) q
      by false e q = refl

  -- the digits of a number
  slice_cons : (s : Bytes) (d w : ℕ) → d < w → w ≤ length s → slice s d w ≡ byte_at s d ∷ slice s (d + 1) w
  slice_cons s d w lt le =
      let z : w - d ≡ suc (w - (d + 1)) = omega arith in
      let l : d < length s = omega arith in
      rw (z, drop-cons s d 0 l, add-one d)

  quiet_none : (l : Bytes) → Quiet has (take 0 l)
  unfolding run
  quiet_none l = refl

  whole_quiet : (s : Bytes) (d w : ℕ) → w ≡ whole_end s d → (w ≡ 0 → ⊥) → Quiet has (slice s d w)
  unfolding whole_end row_in
  whole_quiet s d w e n = by (eqb (byte_at s d) 48) (is_digit (byte_at s d)) refl refl e
    where
      goes : (d + 1 ≤ w) × (w ≤ length s)
      goes = let g = whole_goes s d in (subst (λ (x : ℕ). (x ≡ 0 → ⊥) → d + 1 ≤ x) (sym e) g.on n, subst (λ (x : ℕ). x ≤ length s) (sym e) g.within)

      first : is_calm (byte_at s d) ≡ true → Quiet has (slice s (d + 1) w) → Quiet has (slice s d w)
      first h q = subst (Quiet has) (sym (slice_cons s d w (omega (arith, goes.0)) goes.1)) (quiet_cons (byte_at s d) (slice s (d + 1) w) h q)

      by : (t u : Bool) → eqb (byte_at s d) 48 ≡ t → is_digit (byte_at s d) ≡ u → w ≡ pick t (d + 1) (pick u ((d + 1) + run is_digit (drop (d + 1) s)) 0) → Quiet has (slice s d w)
      by true u f g m =
          let z : w - (d + 1) ≡ 0 = omega (arith, m) in
          first (ap is_calm (eqb-true (byte_at s d) 48 f)) (subst (λ (x : ℕ). Quiet has (take x (drop (d + 1) s))) (sym z) (quiet_none (drop (d + 1) s)))
      by false true f g m =
          let z : w - (d + 1) ≡ run is_digit (drop (d + 1) s) = omega (arith, m) in
          first (digit_calm (byte_at s d) g) (subst (λ (x : ℕ). Quiet has (take x (drop (d + 1) s))) (sym z) (quiet_run is_digit digit_calm (drop (d + 1) s)))
      by false false f g m = absurd (n m)

  number_quiet : (s : Bytes) (q : ℕ) → (whole_end s (minus_end s q) ≡ 0 → ⊥) → Quiet has (slice s q (whole_end s (minus_end s q)))
  unfolding row_in
  number_quiet s q n = by (eqb (byte_at s q) 45) refl (minus_end s q) refl n
    where
      by : (t : Bool) → eqb (byte_at s q) 45 ≡ t → (d : ℕ) → d ≡ pick t (q + 1) q → (whole_end s d ≡ 0 → ⊥) → Quiet has (slice s q (whole_end s d))
      by true f d m n =
          let w = whole_end s d in
          let on = (whole_goes s d).on n in
          let h : Quiet has (slice s (q + 1) w) = subst (λ (x : ℕ). Quiet has (slice s x w)) m (whole_quiet s d w refl n) in
          subst (Quiet has) (sym (slice_cons s q w (omega (arith, on, m)) (whole_goes s d).within)) (quiet_cons (byte_at s q) (slice s (q + 1) w) (ap is_calm (eqb-true (byte_at s q) 45 f)) h)
      by false f d m n = subst (λ (x : ℕ). Quiet has (slice s x (whole_end s d))) m (whole_quiet s d (whole_end s d) refl n)

-- a run of such bytes that a quote ends is all of a string
run_same : (l : Bytes) → get_or l (run is_calm l) 0 ≡ 34 → run is_own l ≡ run is_calm l
unfolding run row_in
run_same [] h = refl
run_same (c ∷ l) h = by (is_calm c) refl (run_same l) h
  where
    by : (t : Bool) → is_calm c ≡ t → (get_or l (run is_calm l) 0 ≡ 34 → run is_own l ≡ run is_calm l) → get_or (c ∷ l) (pick t (suc (run is_calm l)) 0) 0 ≡ 34 → pick (is_own c) (suc (run is_own l)) 0 ≡ pick t (suc (run is_calm l)) 0
    by true e f k = ap (λ (t : Bool). pick t (suc (run is_own l)) 0) (calm_own c e) ∙ ap suc (f k)
    by false e f k = ap (λ (x : ℕ). pick (is_own x) (suc (run is_own l)) 0) k

-- the number of a value that is a place of the plan
pub number_place : (n : ℕ) → (eqb (n % 16) 5 || eqb (n % 16) 6) ≡ true → InPlan (decoded n) (n / 16)
number_place n h = by (eqb (n % 16) 5) refl h
  where
    by : (t : Bool) → eqb (n % 16) 5 ≡ t → (t || eqb (n % 16) 6) ≡ true → InPlan (decoded n) (n / 16)
    by true e k = inl (context_number n (eqb-true (n % 16) 5 e))
    by false e k = inr (place_number n (eqb-true (n % 16) 6 k))

-- THE LAWS: such a span is the value's, and nothing of it is escaped

record Both (s : Bytes) (has : Bool) (p x : Span) : Type 0 where
  same : p ≡ x
  quiet : Quiet has (take (p.end - p.start) (drop p.start s))

module _ (s : Bytes) (has : Bool) (p : Span) (some : p.end ≡ 0 → ⊥) where
  text_both : (i : ℕ) → p ≡ calm_string s i → Both s has p (string_span s i)
  unfolding calm_string string_span
  text_both i k = by (eqb (byte_at s (calm_end s i)) 34) refl k
    where
      by : (t : Bool) → eqb (byte_at s (calm_end s i)) 34 ≡ t → p ≡ pick t (record { start = i; end = calm_end s i }) no_span → Both s has p (pick (eqb (byte_at s (own_end s i)) 34) (record { start = i; end = own_end s i }) no_span)
      by false x k = absurd (some (ap (λ (y : Span). y.end) k))
      by true x k =
          let r = run is_calm (drop i s) in
          let same : own_end s i ≡ calm_end s i = ap (λ (y : ℕ). i + y) (run_same (drop i s) (get_or-drop i s r 0 ∙ eqb-true (byte_at s (calm_end s i)) 34 x)) in
          let z : calm_end s i - i ≡ r = omega arith in
          record {
            same = k ∙ sym (rw (same, x));
            quiet = subst (λ (y : Span). Quiet has (take (y.end - y.start) (drop y.start s))) (sym k) (subst (λ (y : ℕ). Quiet has (take y (drop i s))) (sym z) (quiet_run has is_calm (λ c h. h) (drop i s)));
          }

  place_both : (q : ℕ) → p ≡ calm_at s q → Both s has p (span_at s q)
  unfolding calm_at span_at
  place_both q k = by (eqb (byte_at s q) 34) k
    where
      by : (t : Bool) → p ≡ pick t (calm_string s (q + 1)) (number_span s q) → Both s has p (pick t (string_span s (q + 1)) (number_span s q))
      by true k = text_both (q + 1) k
      by false k = record {
        same = k;
        quiet = subst (λ (y : Span). Quiet has (take (y.end - y.start) (drop y.start s))) (sym k) (number_quiet has s q (λ z. some (ap (λ (y : Span). y.end) k ∙ z)));
      }

  value_both : (n : ℕ) → p ≡ calm_value s n → Both s has p (value_span s (decoded n))
  unfolding calm_value
  value_both n k = by (eqb (n % 16) 5) (eqb (n % 16) 6) (eqb (n % 16) 10) refl refl refl k
    where
      by : (t u v : Bool) → eqb (n % 16) 5 ≡ t → eqb (n % 16) 6 ≡ u → eqb (n % 16) 10 ≡ v → p ≡ pick (t || u) (calm_of s (n / 16)) (pick v (calm_string s (n / 16 + 1)) no_span) → Both s has p (value_span s (decoded n))
      by true u v e f g k = subst (λ (x : Value). Both s has p (value_span s x)) (sym (context_number n (eqb-true (n % 16) 5 e))) (place_both (start_of (tree_at s (n / 16))) k)
      by false true v e f g k = subst (λ (x : Value). Both s has p (value_span s x)) (sym (place_number n (eqb-true (n % 16) 6 f))) (place_both (start_of (tree_at s (n / 16))) k)
      by false false true e f g k = subst (λ (x : Value). Both s has p (value_span s x)) (sym (name_number n (eqb-true (n % 16) 10 g))) (text_both (n / 16 + 1) k)
      by false false false e f g k = absurd (some (ap (λ (y : Span). y.end) k))

  pub calm_is : (n : ℕ) → p ≡ calm_value s n → p ≡ value_span s (decoded n)
  calm_is n e = (value_both n e).same

  pub calm_means : (n : ℕ) → p ≡ calm_value s n → run (quiet_byte has true) (take (p.end - p.start) (drop p.start s)) ≡ length (take (p.end - p.start) (drop p.start s))
  calm_means n e = (value_both n e).quiet
