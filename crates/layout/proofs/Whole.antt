-- The bundle as a whole: version, templates, zero bits to the end.
use Rattle.std.specs.Prelude.{Err}
use Prim.Native.Nat.{ℕ, ◌-◌, ◌*◌, ◌≤◌, ◌<◌}
use mathlib.Core.Bool.{Bool, true, false, not}
use mathlib.Core.List.{List}
use mathlib.Core.Option.{none, some}
use mathlib.Core.Path.{◌≡◌, refl, sym, ap, ◌∙◌}
use native.Mathlib.Omega.{arith}
use lib.Dec.{eqb}
use lib.ListN.{length}
use borrow.Author.Tests.{le-leb, lt-leb, eq-eqb, ne_eqb, eqb-true, eqb-false, not-true, not-false}
use Rattle.rules.specs.Bytes.{Bytes, pick}
use Rattle.rules.specs.Template.{Template}
use Rattle.rules.specs.Bits.{Bits, bits}
use Rattle.rules.specs.Layout.{Read, read, broken, onward, field, num, tested}
use Rattle.rules.specs.Bundle.{templates, versioned, ends, whole, bundle_of, partial_context}
use Rattle.rules.specs.BundleLaws.{bits_size, bundle_is}
use Rattle.layout.specs.Walk.{Place, At, Broken, next, from, past, unmarked, after, ahead}
use Rattle.layout.specs.WalkLaws.{or_false, next_at, past_then, headed}
use Rattle.layout.specs.Verdict.{accepted, verdict_number, read_answer, bundle_answer}
use Rattle.layout.specs.declared.BundleError.TheVariants.{TooLong, BadLayout, PartialContext}

abbrev Whole : Type 0
Whole = ℕ × List (Bytes × Template)

abbrev whole_context : Whole → Bool
whole_context x = partial_context x.1

abbrev start : Place
start = At 0 false

-- the version, and the place behind it
module _ (b : Bits) where
  version_from : (t : Bool) → eqb 1 (field b 8 0) ≡ t → after (tested (eqb 1) (num 8)) b start ≡ pick t (ahead b 8 start) Broken
  version_from t ht = headed unmarked (λ x. onward x (λ n q. pick (eqb 1 n) (read n q) broken)) refl 8 b start ∙ rw ht (picked t (ahead b 8 start))
    where
      picked : (t : Bool) (q : Place) → from unmarked (λ q. pick t (read (field b 8 0) q) broken) q ≡ pick t q Broken
      picked true (At q s) = refl
      picked true Broken = refl
      picked false (At q s) = refl
      picked false Broken = refl

  versioned_from : (t : Bool) → eqb 1 (field b 8 0) ≡ t → past whole_context (versioned 1 16) b start ≡ past partial_context (templates 16) b (pick t (ahead b 8 start) Broken)
  versioned_from t ht =
      past_then unmarked partial_context (tested (eqb 1) (num 8)) (templates 16) b start ∙ ap (past partial_context (templates 16) b) (version_from t ht)

  -- r says whether it is 1
  module _ (r : Bool) (h : r ≡ eqb (field b 8 0) 1) where
    pub other_version : not r ≡ true → past whole_context (versioned 1 16) b start ≡ Broken
    other_version t = versioned_from false (ne_eqb 1 (field b 8 0) (λ e. eqb-false (field b 8 0) 1 (sym h ∙ not-true r t) (sym e)))

    pub this_version : not r ≡ false → (q e : Place) → q ≡ ahead b 8 start → e ≡ past partial_context (templates 16) b q
        → past whole_context (versioned 1 16) b start ≡ e
    this_version t q e hq he =
        versioned_from true (eq-eqb 1 (field b 8 0) (sym (eqb-true (field b 8 0) 1 (sym h ∙ not-false r t))))
        ∙ ap (past partial_context (templates 16) b) (sym hq)
        ∙ sym he

pub too_long : (s : Bytes) → 65536 < length s → verdict_number (Err TooLong) ≡ bundle_answer s
unfolding bundle_answer
too_long s h = rw (lt-leb (length s) 65536 h)

module _ (s : Bytes) (small : length s ≤ 65536) where
  verdict_from : (r : Read Whole) → (versioned 1 16).dec (bits s) 0 ≡ r → bundle_answer s ≡ read_answer (whole (bits s) r)
  unfolding bundle_answer bundle_of
  verdict_from r e = rw (le-leb (length s) 65536 small) (ap read_answer (bundle_is s ∙ ap (whole (bits s)) e))

  pub verdict_broken : past whole_context (versioned 1 16) (bits s) start ≡ Broken → verdict_number (Err BadLayout) ≡ bundle_answer s
  verdict_broken h = at ((versioned 1 16).dec (bits s) 0) refl h
    where
      at : (r : Read Whole) → (versioned 1 16).dec (bits s) 0 ≡ r → next whole_context false r ≡ Broken → verdict_number (Err BadLayout) ≡ bundle_answer s
      at (read x p) e h = let z : ◌≡◌ {A = ℕ} 0 1 = cc in absurd (omega arith)
      at broken e h = sym (verdict_from broken e)

  -- the templates end at `at`, and m is the mark there
  module _ (at : ℕ) (m : Bool) (h : past whole_context (versioned 1 16) (bits s) start ≡ At at m) where
    verdict_ends : (t : Bool) → ends (bits s) at ≡ t → bundle_answer s ≡ pick t (pick m 4 0) 3
    verdict_ends t ht =
        let r = next_at whole_context false ((versioned 1 16).dec (bits s) 0) at m h in
        verdict_from (read r.0 at) r.1 ∙ ap (λ t. read_answer (pick t (some r.0.1) none)) ht
        ∙ picked t r.0.1 ∙ ap (λ u. pick t (pick u 4 0) 3) (or_false (partial_context r.0.1) ∙ sym r.2)
      where
        picked : (t : Bool) (l : List (Bytes × Template)) → read_answer (pick t (some l) none) ≡ pick t (pick (partial_context l) 4 0) 3
        picked true l = refl
        picked false l = refl

    pub verdict_short : 8 * length s < at → verdict_number (Err BadLayout) ≡ bundle_answer s
    verdict_short l = sym (verdict_ends false (rw (lt-leb at (bits s).size (omega (arith, bits_size s)))))

    pub verdict_more : at ≤ 8 * length s → 7 < 8 * length s - at → verdict_number (Err BadLayout) ≡ bundle_answer s
    verdict_more k l =
        let z = bits_size s in
        sym (verdict_ends false (rw (le-leb at (bits s).size (omega arith), lt-leb ((bits s).size - at) 7 (omega arith))))

    module _ (k : at ≤ 8 * length s) (l : 8 * length s - at ≤ 7) (u : ℕ) (hu : u ≡ field (bits s) (8 * length s - at) at) where
      ended : (t : Bool) → eqb u 0 ≡ t → ends (bits s) at ≡ t
      ended t ht =
          let z = bits_size s in
          let e : field (bits s) ((bits s).size - at) at ≡ u = ap (λ (n : ℕ). field (bits s) (n - at) at) z ∙ sym hu in
          rw (le-leb at (bits s).size (omega arith), le-leb ((bits s).size - at) 7 (omega arith), e) ht

      pub verdict_padding : (u ≡ 0 → ⊥) → verdict_number (Err BadLayout) ≡ bundle_answer s
      verdict_padding f = sym (verdict_ends false (ended false (ne_eqb u 0 f)))

      pub verdict_context : u ≡ 0 → m ≡ true → verdict_number (Err PartialContext) ≡ bundle_answer s
      verdict_context e f = sym (verdict_ends true (ended true (eq-eqb u 0 e)) ∙ ap (λ m. pick m 4 0) f)

      pub verdict_accepted : u ≡ 0 → m ≡ false → verdict_number accepted ≡ bundle_answer s
      verdict_accepted e f = sym (verdict_ends true (ended true (eq-eqb u 0 e)) ∙ ap (λ m. pick m 4 0) f)
