-- Checks 2, 3 and 4 of document 01.
use Rattle.std.specs.Prelude.{ℕ, ◌<◌, Bool, true, false, List, Result, Ok, Err, ◌≡◌, refl, leb, eqb, length}
use Rattle.std.proofs.Math.Option.{Option, none, some}
use Rattle.std.proofs.Common.{sym, ap, ◌∙◌, arith}
use Rattle.rules.specs.Bytes.{Bytes, pick}
use Rattle.rules.specs.Template.{Template}
use Rattle.rules.specs.Bundle.{bundle, partial_context}
use Rattle.layout.specs.declared.BundleError.{BundleError}
use Rattle.layout.specs.declared.BundleError.TheVariants.{TooLong, BadLayout, PartialContext}

-- accepted, or the first check that is not passed
abbrev pub Verdict : Type 0
Verdict = Result (Unit {0}) BundleError

abbrev pub accepted : Verdict
accepted = Ok tt

abbrev pub read_verdict : Option (List (Bytes × Template)) → Verdict
read_verdict none = Err BadLayout
read_verdict (some l) = pick (partial_context l) (Err PartialContext) accepted

unfoldable pub verdict : Bytes → Verdict
verdict s = pick (leb (length s) 65536) (read_verdict (bundle s)) (Err TooLong)

-- the paper's numbers
abbrev pub error_number : BundleError → ℕ
error_number TooLong = 2
error_number BadLayout = 3
error_number PartialContext = 4

-- that of the check that is not passed, or 0
abbrev pub verdict_number : Verdict → ℕ
verdict_number (Ok x) = 0
verdict_number (Err e) = error_number e

-- the number that the rules answer a bundle with: that of the first check that it does not pass, or 0
abbrev pub read_answer : Option (List (Bytes × Template)) → ℕ
read_answer none = 3
read_answer (some l) = pick (partial_context l) 4 0

unfoldable pub bundle_answer : Bytes → ℕ
bundle_answer s = pick (leb (length s) 65536) (read_answer (bundle s)) 2

pub answer_verdict : (s : Bytes) → verdict_number (verdict s) ≡ bundle_answer s
unfolding verdict bundle_answer
answer_verdict s = go (leb (length s) 65536) (bundle s)
  where
    context : (t : Bool) → verdict_number (pick t (Err PartialContext) accepted) ≡ pick t 4 0
    context true = refl
    context false = refl

    go : (t : Bool) (m : Option (List (Bytes × Template))) → verdict_number (pick t (read_verdict m) (Err TooLong)) ≡ pick t (read_answer m) 2
    go false m = refl
    go true none = refl
    go true (some l) = context (partial_context l)

-- a verdict is known by its number
numbered : ℕ → Verdict
numbered n = pick (eqb n 2) (Err TooLong) (pick (eqb n 3) (Err BadLayout) (pick (eqb n 4) (Err PartialContext) accepted))

number_verdict : (v : Verdict) → numbered (verdict_number v) ≡ v
unfolding numbered
number_verdict (Ok x) = refl
number_verdict (Err TooLong) = refl
number_verdict (Err BadLayout) = refl
number_verdict (Err PartialContext) = refl

pub verdict_is : (v : Verdict) (s : Bytes) → verdict_number v ≡ bundle_answer s → v ≡ verdict s
verdict_is v s e = sym (number_verdict v) ∙ ap numbered (e ∙ sym (answer_verdict s)) ∙ number_verdict (verdict s)

pub accepts : (v : Verdict) (s : Bytes) → verdict_number v ≡ bundle_answer s → v ≡ accepted → verdict s ≡ accepted
accepts v s e h = sym (verdict_is v s e) ∙ h

-- a verdict with a number accepts nothing
pub never_accepted : {A : Type 0} (v : Verdict) → 0 < verdict_number v → v ≡ accepted → A
never_accepted v h e = let z : verdict_number v ≡ 0 = ap verdict_number e in absurd (omega arith)
