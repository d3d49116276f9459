-- What a call is given, what it returns and leaves in all that is lent, and what the rules say of that.
use Rattle.std.specs.Prelude.{ℕ, ◌-◌, ◌/◌, ◌%◌, ◌≤◌, Bool, List, [], ◌∷◌, ◌++◌, ◌≡◌, refl, eqb, length, take, replicate}
use Rattle.std.proofs.Math.Option.{Option, none}
use Rattle.std.proofs.Common.{sym, ap, ap₂, ◌∙◌, subst, arith, length-append, take_at, length-take-le, ne_eqb}
use Rattle.std.proofs.lemmas.List.{length-replicate}
use Rattle.rules.specs.Bytes.{Bytes, pick}
use Rattle.rules.specs.Json.{Json}
use Rattle.rules.specs.Plan.{plan, answer, meant, text}
use Rattle.rules.specs.Registry.{paper_limits}
use Rattle.rules.specs.Call.{Inputs, refused, checked, page_of, render_bytes}
use Rattle.clear.specs.Cleared.{cleared}
use Rattle.plan_read.specs.Table.{filled, table}
use Rattle.places.specs.Places.{json_at}
use Rattle.places.proofs.Paths.{plan_at}
use Rattle.expand.specs.declared.Options.{Options}
use Rattle.state.specs.World.{name_at}
use Rattle.drawing.specs.Renders.{options_of}
use Rattle.handlebars.specs.declared.Answer.{Answer}
use Rattle.handlebars.specs.Answers.{refusal, Shown}
use Rattle.handlebars.specs.Begins.{given}
use Rattle.rules.specs.Call as rules

-- b is the bundle, s the plan, n the start name, k the length of the page, c the lengths of the scratch buffers
abbrev pub inputs : Bytes → Bytes → Bytes → Options → ℕ → List ℕ → Inputs
inputs b s n o k c = given b s n (options_of o) (paper_limits k) c

-- the options by their bits
abbrev pub options_from : ℕ → Options
options_from n = record { strict = eqb (n % 2) 1; recursive_lookup = eqb (n / 2 % 2) 1; guide_truth = eqb (n / 4 % 2) 1 }

pub record Outcome : Type 0 where
  pub answer : rules.Answer
  pub length : ℕ
  pub page : Bytes
  pub scratch : List (List ℕ)

-- what was returned and what is left: b is the bundle, p the page, l the scratch buffers
abbrev pub left : Bytes → Answer → Bytes → List (List ℕ) → Outcome
left b r p l = record {
  answer = record { number = r.number; template_name = name_at b r.template; line = r.line; column = r.column; text = take r.length p };
  length = r.length;
  page = p;
  scratch = l;
}

abbrev pub zeros : List ℕ → List (List ℕ)
zeros [] = []
zeros (n ∷ l) = replicate n 0 ∷ zeros l

-- what the rules' answer a makes of a page of k bytes and scratch buffers of the lengths c
abbrev pub settled : ℕ → List ℕ → rules.Answer → Outcome
settled k c a = record { answer = a; length = length a.text; page = page_of k a; scratch = zeros c }

abbrev pub predicted : Inputs → Outcome
predicted x = settled x.limits.page x.scratch (render_bytes x)

-- What the functions below promise of all that is lent: page, places, entries, texts, indent

-- cleared: the page from the place k on, and all but the places
pub record Emptied (k : ℕ) (p : Bytes) (e : List ℕ) (t i p' : Bytes) (e' : List ℕ) (t' i' : Bytes) : Type 0 where
  pub page : p' ≡ cleared k 0 p
  pub entries : e' ≡ replicate (length e) 0
  pub texts : t' ≡ replicate (length t) 0
  pub indent : i' ≡ replicate (length i) 0

scratch_zero : (a e : ℕ) (t i : ℕ) (a' e' : List ℕ) (t' i' : Bytes) → a' ≡ replicate a 0 → e' ≡ replicate e 0 → t' ≡ replicate t 0 → i' ≡ replicate i 0 → ◌≡◌ {A = List (List ℕ)} (a' ∷ e' ∷ t' ∷ i' ∷ []) (zeros (a ∷ e ∷ t ∷ i ∷ []))
scratch_zero a e t i a' e' t' i' x y z w = cc

-- a refusal by one of the first ten checks
pub refused_shown : (b p : Bytes) (m : ℕ) (r : Answer) (o : rules.Answer) → r ≡ refusal m → o ≡ refused m → Shown b r p o
refused_shown b p m r o x y =
    subst (λ (r : Answer). Shown b r p o) (sym x) (subst (Shown b (refusal m) p) (sym y) (record { number = refl; template = refl; line = refl; column = refl; length = refl; text = refl }))

same_answer : (a : rules.Answer) (n : ℕ) (t : Option Bytes) (l c : ℕ) (x : Bytes) → n ≡ a.number → t ≡ a.template_name → l ≡ a.line → c ≡ a.column → x ≡ a.text
    → ◌≡◌ {A = rules.Answer} (record { number = n; template_name = t; line = l; column = c; text = x }) a
same_answer a n t l c x e f g h i =
    ap (λ (n : ℕ). record { number = n; template_name = t; line = l; column = c; text = x }) e
    ∙ ap (λ (t : Option Bytes). record { number = a.number; template_name = t; line = l; column = c; text = x }) f
    ∙ ap (λ (l : ℕ). record { number = a.number; template_name = a.template_name; line = l; column = c; text = x }) g
    ∙ ap (λ (c : ℕ). record { number = a.number; template_name = a.template_name; line = a.line; column = c; text = x }) h
    ∙ ap (λ (x : Bytes). record { number = a.number; template_name = a.template_name; line = a.line; column = a.column; text = x }) i

-- what was drawn on p, where all behind it is cleared
pub shown_left : (b : Bytes) (r : Answer) (k : ℕ) (o : rules.Answer) (p p' : Bytes) (a e t i : ℕ) (a' e' : List ℕ) (t' i' : Bytes) → Shown b r p o → length p ≡ k → p' ≡ cleared r.length 0 p → a' ≡ replicate a 0 → e' ≡ replicate e 0 → t' ≡ replicate t 0 → i' ≡ replicate i 0
    → left b r p' (a' ∷ e' ∷ t' ∷ i' ∷ []) ≡ settled k (a ∷ e ∷ t ∷ i ∷ []) o
shown_left b r k o p p' a e t i a' e' t' i' s n h x y z w =
    let q : p' ≡ page_of k o = h ∙ ap₂ (λ (u : Bytes) (m : ℕ). u ++ replicate m 0) s.text (ap₂ (λ (u v : ℕ). u - v) n s.length) in
    let u : take r.length p' ≡ o.text = ap₂ (λ (m : ℕ) (v : Bytes). take m v) s.length q ∙ take_at o.text (replicate (k - length o.text) 0) (length o.text) refl in
    ap (λ (o : rules.Answer). record { answer = o; length = r.length; page = p'; scratch = a' ∷ e' ∷ t' ∷ i' ∷ [] }) (same_answer o _ _ _ _ _ s.number s.template s.line s.column u)
    ∙ ap (λ (m : ℕ). record { answer = o; length = m; page = p'; scratch = a' ∷ e' ∷ t' ∷ i' ∷ [] }) s.length
    ∙ ap₂ (λ (p : Bytes) (l : List (List ℕ)). record { answer = o; length = length o.text; page = p; scratch = l }) q (scratch_zero a e t i a' e' t' i' x y z w)

-- Checks 7 to 10

pub plan_refused : (s : Bytes) (f : Json → rules.Answer) → (answer s ≡ 0 → ⊥) → checked (answer s) (plan s) f ≡ refused (answer s)
unfolding plan
plan_refused s f h = ap (λ (t : Bool). checked (answer s) (pick t (meant s (text s)) none) f) (ne_eqb _ _ h)

pub plan_table_zero : (n : ℕ) (s : Bytes) → (answer s ≡ 0 → ⊥) → table n s ≡ replicate n 0
unfolding table
plan_table_zero n s h = ap (λ (t : Bool). pick t (filled n (text s)) (replicate n 0)) (ne_eqb _ _ h)

pub plan_passed : (s : Bytes) (f : Json → rules.Answer) → answer s ≡ 0 → checked (answer s) (plan s) f ≡ f (json_at s 0)
plan_passed s f h = ap (λ (o : Option Json). checked (answer s) o f) (plan_at s h)

-- The answers of the functions

-- the plan is refused
pub plan_refused_shown : (b s p : Bytes) (f : Json → rules.Answer) (r : Answer) (n : ℕ) → n ≡ answer s → (n ≡ 0 → ⊥) → r ≡ refusal n → Shown b r p (checked (answer s) (plan s) f)
plan_refused_shown b s p f r n q ne g = refused_shown b p n r _ g (plan_refused s f (λ y. ne (q ∙ y)) ∙ ap refused (sym q))

-- it is read, and the template is drawn
pub drawn_shown : (b s p : Bytes) (f : Json → rules.Answer) (r : Answer) → answer s ≡ 0 → Shown b r p (f (json_at s 0)) → Shown b r p (checked (answer s) (plan s) f)
drawn_shown b s p f r q = subst (Shown b r p) (sym (plan_passed s f q))

-- the lengths that a call leaves as they were
pub record Sized (p : Bytes) (e : List ℕ) (t i p₁ : Bytes) (e₁ : List ℕ) (t₁ i₁ : Bytes) : Type 0 where
  pub page : length p₁ ≡ length p
  pub entries : length e₁ ≡ length e
  pub texts : length t₁ ≡ length t
  pub indent : length i₁ ≡ length i

-- all is cleared behind what was shown; the places a' are already
pub shown_emptied : (b p : Bytes) (a e : List ℕ) (t i p₁ : Bytes) (e₁ : List ℕ) (t₁ i₁ p' : Bytes) (a' e' : List ℕ) (t' i' : Bytes) (r : Answer) (o : rules.Answer) → Sized p e t i p₁ e₁ t₁ i₁ → Shown b r p₁ o → a' ≡ replicate (length a) 0 → Emptied r.length p₁ e₁ t₁ i₁ p' e' t' i'
    → left b r p' (a' ∷ e' ∷ t' ∷ i' ∷ []) ≡ settled (length p) (length a ∷ length e ∷ length t ∷ length i ∷ []) o
shown_emptied b p a e t i p₁ e₁ t₁ i₁ p' a' e' t' i' r o z d x h =
    shown_left b r (length p) o p₁ p' (length a) (length e) (length t) (length i) a' e' t' i' d z.page h.page
    x (h.entries ∙ ap (λ (n : ℕ). replicate n 0) z.entries) (h.texts ∙ ap (λ (n : ℕ). replicate n 0) z.texts) (h.indent ∙ ap (λ (n : ℕ). replicate n 0) z.indent)

-- the same call with its options said otherwise
pub same_options : (y : Outcome) (b s n : Bytes) (o o' : Options) (k : ℕ) (c : List ℕ) → y ≡ predicted (inputs b s n o k c) → o ≡ o' → y ≡ predicted (inputs b s n o' k c)
same_options y b s n o o' k c e q = e ∙ ap (λ (o : Options). predicted (inputs b s n o k c)) q

-- The length counts bytes of the page, so that the text can be lent on

pub text_counts : (b : Bytes) (r : Answer) (p : Bytes) (l : List (List ℕ)) (k : ℕ) (c : List ℕ) (o : rules.Answer) → left b r p l ≡ settled k c o → (r.length ≤ length p) × (r.length ≡ length (take r.length p))
text_counts b r p l k c o e =
    let x : r.length ≡ length o.text = ap (λ (y : Outcome). y.length) e in
    let y : length p ≡ length (page_of k o) = ap (λ (y : Outcome). length y.page) e in
    let z : r.length ≤ length p = omega (arith, simp length-append at y) in
    (z, sym (length-take-le r.length p z))
