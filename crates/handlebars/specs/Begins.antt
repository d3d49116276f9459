-- What the first six checks find, and how the rules go on from there.
use Rattle.std.specs.Prelude.{ℕ, ◌≤◌, ◌<◌, Bool, true, false, Err, ◌&&◌, not, List, [], ◌∷◌, ◌≡◌, refl, leb, length, replicate, Option as RustOption, Some, None, Result, Ok}
use Rattle.std.proofs.Math.Option.{Option, none, some}
use Rattle.std.proofs.Common.{sym, ap, ◌∙◌, subst, arith, le-leb, leb-true}
use Rattle.rules.specs.Bytes.{Bytes, pick}
use Rattle.rules.specs.Bits.{Bits, bits}
use Rattle.rules.specs.Layout.{field, counted}
use Rattle.rules.specs.Bundle.{string, body, template, templates, templates_allowed, bundle, partial_context, find_template}
use Rattle.rules.specs.Plan.{plan, answer}
use Rattle.rules.specs.Registry.{Limits, get_template}
use Rattle.rules.specs.Call.{Answer, Inputs, refused, check, checked, long_enough, scratch_lengths, render_call, render_bytes}
use Rattle.layout.specs.declared.BundleError.{BundleError}
use Rattle.layout.specs.declared.BundleError.TheVariants.{TooLong, PartialContext}
use Rattle.layout.specs.Listed.{BundleListed}
use Rattle.layout.specs.Text.{text_at}
use Rattle.layout.specs.Verdict.{Verdict, accepted as all_passed, error_number, verdict, read_verdict, verdict_number}
use Rattle.parts.specs.Holds.{Holds}
use Rattle.parts.specs.HoldsLaws.{value_is, tested_holds}
use Rattle.template.specs.Views.{template_at}
use Rattle.registry.specs.Index.{Indexed, listed_indexed}
use Rattle.registry.specs.Templates.{Standing, accepted_holds, templates_at, templates_count, found_view, found_says, FoundHolds, found_stands}
use Rattle.expand.specs.declared.Options.{Options}
use Rattle.drawing.specs.Renders.{options_of}
use Rattle.handlebars.specs.Answers.{both_are}
use Rattle.rules.specs.Template as rule
use Rattle.rules.specs.Registry as registry

-- the scratch buffers are long enough: places, entries, texts, indent
pub record Roomy (a e : List ℕ) (t i : Bytes) : Type 0 where
  pub places : 4096 ≤ length a
  pub entries : 8192 ≤ length e
  pub texts : 16384 ≤ length t
  pub indent : 256 ≤ length i

-- a call's inputs: b is the bundle, s the plan, n the start name, c the lengths of the scratch buffers
abbrev pub given : Bytes → Bytes → Bytes → registry.Options → Limits → List ℕ → Inputs
given b s n o l c = record { scratch = c; bundle_bytes = b; options = o; start = n; plan_text = s; limits = l }

-- how a call goes on behind the first six checks: p and q are the places of the template's name and of its body
abbrev pub goes_on : Bytes → Bytes → registry.Options → Limits → Result (ℕ × ℕ) ℕ → Answer
goes_on b s o l (Err k) = refused k
goes_on b s o l (Ok (p, q)) = checked (answer s) (plan s) (λ json. render_call (record { templates = templates_at 16 (bits b); plan = json; options = o; limits = l }) (text_at (bits b) p) (template_at 16 16 (bits b) q))

abbrev pub StartHolds : Bytes → Result (ℕ × ℕ) ℕ → Type 0
StartHolds b (Ok (p, q)) = Standing b × Holds string (bits b) p × Holds (body 16 16) (bits b) q
StartHolds b (Err k) = Unit {0}

-- a table has the places of a bundle's templates
abbrev pub Tabled : Bytes → List ℕ → Type 0
Tabled b l = (length l ≡ 64) × Indexed (body 16 16) (bits b) (field (bits b) 8 8) l

-- it has them where the bundle is accepted, else zeros
pub record Filled (b : Bytes) (l : List ℕ) : Type 0 where
  pub accepted : verdict b ≡ all_passed → Tabled b l
  pub refused : (verdict b ≡ all_passed → ⊥) → l ≡ replicate 64 0

pub filled : (b : Bytes) (k : List ℕ) → length k ≡ 64 → (l : List ℕ) → length l ≡ length k → (r : Verdict) → r ≡ verdict b → (r ≡ all_passed → BundleListed (bits b) l) → ((r ≡ all_passed → ⊥) → l ≡ replicate (length k) 0) → Filled b l
filled b k e l f r g x y =
    record {
      accepted = λ h. (f ∙ e, listed_indexed (bits b) (accepted_holds b h).templates l (x (g ∙ h)));
      refused = λ h. y (λ q. h (sym g ∙ q)) ∙ ap (λ (n : ℕ). replicate n 0) e;
    }

pub standing_accepted : (b : Bytes) → Standing b → verdict b ≡ all_passed
unfolding verdict
standing_accepted b h =
    ap (λ (t : Bool). pick t (read_verdict (bundle b)) (Err TooLong)) (le-leb (length b) 65536 h.small) ∙ ap read_verdict h.are ∙ ap (λ (t : Bool). pick t (Err PartialContext) all_passed) h.plain

-- r is what the checks 2 to 6 find
pub record Begins (b n : Bytes) (o : Options) (r : Result (ℕ × ℕ) ℕ) : Type 0 where
  pub is : (s : Bytes) (l : Limits) (c : List ℕ) → long_enough scratch_lengths c ≡ true → render_bytes (given b s n (options_of o) l c) ≡ goes_on b s (options_of o) l r
  pub parts : StartHolds b r

-- The rest of a call, by the checks that are passed

abbrev Templates : Type 0
Templates = List (Bytes × rule.Template)

abbrev from_five : Bytes → Bytes → registry.Options → Limits → Templates → Answer
from_five s n o l ts = check 5 (not (o.strict_mode && o.guide_truth)) (λ _. checked 6 (get_template ts n) (λ t. checked (answer s) (plan s) (λ json. render_call (record { templates = ts; plan = json; options = o; limits = l }) n t)))

abbrev from_two : Bytes → (Templates → Answer) → Answer
from_two b f = check 2 (leb (length b) 65536) (λ _. checked 3 (bundle b) (λ ts. check 4 (not (partial_context ts)) (λ _. f ts)))

-- 1
pub short : (x : Inputs) → long_enough scratch_lengths x.scratch ≡ false → render_bytes x ≡ refused 1
unfolding render_bytes
short x e = ap (λ (t : Bool). check 1 t (λ _. from_two x.bundle_bytes (from_five x.plan_text x.start x.options x.limits))) e

pub roomy : (a e : List ℕ) (t i : Bytes) → long_enough scratch_lengths (length a ∷ length e ∷ length t ∷ length i ∷ []) ≡ true → Roomy a e t i
roomy a e t i h =
    let x = both_are (leb 4096 (length a)) _ h in
    let y = both_are (leb 8192 (length e)) _ x.1 in
    let z = both_are (leb 16384 (length t)) _ y.1 in
    let w = both_are (leb 256 (length i)) _ z.1 in
    record { places = leb-true _ _ x.0; entries = leb-true _ _ y.0; texts = leb-true _ _ z.0; indent = leb-true _ _ w.0 }

passed_one : (x : Inputs) → long_enough scratch_lengths x.scratch ≡ true → render_bytes x ≡ from_two x.bundle_bytes (from_five x.plan_text x.start x.options x.limits)
unfolding render_bytes
passed_one x e = ap (λ (t : Bool). check 1 t (λ _. from_two x.bundle_bytes (from_five x.plan_text x.start x.options x.limits))) e

-- 2, 3 and 4
bundle_refused : (b : Bytes) (f : Templates → Answer) → (verdict b ≡ all_passed → ⊥) → from_two b f ≡ refused (verdict_number (verdict b))
unfolding verdict
bundle_refused b f h = go (leb (length b) 65536) (bundle b) h
  where
    context : (ts : Templates) (t : Bool) → (pick t (Err PartialContext) all_passed ≡ all_passed → ⊥) → check 4 (not t) (λ _. f ts) ≡ refused (verdict_number (pick t (Err PartialContext) all_passed))
    context ts true h = refl
    context ts false h = absurd (h refl)

    go : (t : Bool) (m : Option Templates) → (pick t (read_verdict m) (Err TooLong) ≡ all_passed → ⊥) → check 2 t (λ _. checked 3 m (λ ts. check 4 (not (partial_context ts)) (λ _. f ts))) ≡ refused (verdict_number (pick t (read_verdict m) (Err TooLong)))
    go false m h = refl
    go true none h = refl
    go true (some ts) h = context ts (partial_context ts) h

bundle_passed : (b : Bytes) (f : Templates → Answer) → Standing b → from_two b f ≡ f (templates_at 16 (bits b))
bundle_passed b f h =
    ap (λ (t : Bool). check 2 t (λ _. checked 3 (bundle b) (λ ts. check 4 (not (partial_context ts)) (λ _. f ts)))) (le-leb (length b) 65536 h.small)
    ∙ ap (λ (m : Option Templates). checked 3 m (λ ts. check 4 (not (partial_context ts)) (λ _. f ts))) h.are
    ∙ ap (λ (t : Bool). check 4 (not t) (λ _. f (templates_at 16 (bits b)))) h.plain

pub refused_at : (b n : Bytes) (o : Options) (e : BundleError) → verdict b ≡ Err e → (k : ℕ) → k ≡ error_number e → Begins b n o (Err k)
refused_at b n o e h k f = record {
  is = λ s l c q. passed_one (given b s n (options_of o) l c) q ∙ bundle_refused b _ (λ a. let z : ◌≡◌ {A = Verdict} (Err e) all_passed = sym h ∙ a in cc) ∙ ap (λ (v : Verdict). refused (verdict_number v)) h ∙ ap refused (sym f);
  parts = tt;
}

-- 5
module _ (b n : Bytes) (o : Options) (h : Standing b) where
  to_five : (s : Bytes) (l : Limits) (c : List ℕ) → long_enough scratch_lengths c ≡ true → render_bytes (given b s n (options_of o) l c) ≡ from_five s n (options_of o) l (templates_at 16 (bits b))
  to_five s l c q = passed_one (given b s n (options_of o) l c) q ∙ bundle_passed b _ h

  pub both_set : (o.strict && o.guide_truth) ≡ true → Begins b n o (Err 5)
  both_set e = record {
    is = λ s l c q. to_five s l c q ∙ ap (λ (t : Bool). check 5 (not t) (λ _. checked 6 (get_template (templates_at 16 (bits b)) n) (λ t. checked (answer s) (plan s) (λ json. render_call (record { templates = templates_at 16 (bits b); plan = json; options = options_of o; limits = l }) n t)))) e;
    parts = tt;
  }

  -- 6
  module _ (e : (o.strict && o.guide_truth) ≡ false) where
    to_six : (v : RustOption (ℕ × ℕ × ℕ)) → found_view (body 16 16) (bits b) (find_template (templates_at 16 (bits b)) n) ≡ v → (s : Bytes) (l : Limits) (c : List ℕ) → long_enough scratch_lengths c ≡ true
        → render_bytes (given b s n (options_of o) l c) ≡ checked 6 (found_says (body 16 16) (bits b) v) (λ t. checked (answer s) (plan s) (λ json. render_call (record { templates = templates_at 16 (bits b); plan = json; options = options_of o; limits = l }) n t))
    to_six v f s l c q =
        to_five s l c q
        ∙ ap (λ (t : Bool). check 5 (not t) (λ _. checked 6 (get_template (templates_at 16 (bits b)) n) (λ t. checked (answer s) (plan s) (λ json. render_call (record { templates = templates_at 16 (bits b); plan = json; options = options_of o; limits = l }) n t)))) e
        ∙ ap (λ (m : Option rule.Template). checked 6 m (λ t. checked (answer s) (plan s) (λ json. render_call (record { templates = templates_at 16 (bits b); plan = json; options = options_of o; limits = l }) n t)))
        ((found_stands 16 (bits b) h.templates n).is ∙ ap (found_says (body 16 16) (bits b)) f)

    pub missing : found_view (body 16 16) (bits b) (find_template (templates_at 16 (bits b)) n) ≡ None → Begins b n o (Err 6)
    missing f = record { is = to_six None f; parts = tt }

    pub found_at : (k p q : ℕ) → found_view (body 16 16) (bits b) (find_template (templates_at 16 (bits b)) n) ≡ Some (k, p, q) → Begins b n o (Ok (p, q))
    found_at k p q f =
        let x = subst (FoundHolds (body 16 16) (bits b) _ n) f (found_stands 16 (bits b) h.templates n).parts in
        record {
          is = λ s l c y. to_six (Some (k, p, q)) f s l c y
              ∙ ap (λ (m : Bytes). checked (answer s) (plan s) (λ json. render_call (record { templates = templates_at 16 (bits b); plan = json; options = options_of o; limits = l }) m (template_at 16 16 (bits b) q))) (sym x.2);
          parts = (h, x.1, x.3);
        }

-- A bundle has at most 64 templates

pub few_templates : (b : Bits) → Holds (templates 16) b 8 → field b 8 8 ≤ 64
few_templates b H =
    let t = tested_holds templates_allowed (counted 8 (template 16)) b 8 H in
    let x = both_are (leb 1 (length t.inner.found) && leb (length t.inner.found) 64) _ t.is.1 in
    let y = both_are (leb 1 (length t.inner.found)) _ x.0 in
    subst (λ (n : ℕ). n ≤ 64) (sym (templates_count 16 b H ∙ ap length (value_is [] H ∙ sym t.is.0))) (leb-true (length t.inner.found) 64 y.1)
