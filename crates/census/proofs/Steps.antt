-- The steps of the count: an element, a body's next element, a template.
use Rattle.std.specs.Prelude.{Option as RustOption, Some, None}
use Prim.Native.Nat.{ℕ, ◌+◌, ◌-◌, ◌≤◌, ◌<◌}
use mathlib.Core.Bool.{Bool}
use mathlib.Core.Path.{◌≡◌, sym, ap, ◌∙◌, subst}
use native.Mathlib.Omega.{arith}
use Rattle.rules.specs.Bytes.{Bytes}
use Rattle.rules.specs.Template as rule
use Rattle.rules.specs.Bits.{Bits, bits}
use Rattle.rules.specs.Layout.{Layout, field, ◌then◌}
use Rattle.rules.specs.Bundle.{string, body, templates, bundle}
use Rattle.parts.specs.Holds.{Holds, end, value}
use Rattle.parts.specs.HoldsLaws.{moved, none_left_value, Passed, passed_first, passed_again, passed_value}
use Rattle.parts.specs.Says.{MaybeHolds}
use Rattle.template.specs.Views.{in_body, template_at, element_view, body_says, element_says, ElementHolds}
use Rattle.template.specs.Bodies.{elements_at, elements_end, elements_here}
use Rattle.template.specs.declared.Element.{Element}
use Rattle.template.specs.declared.Element.TheVariants.{HelperBlock, DecoratorBlock, PartialBlock}
use Rattle.template.specs.declared.ElementAt.{ElementAt}
use Rattle.registry.specs.Templates.{rest_at, template_view, TemplateStands, template_stands, templates_start, templates_are, Standing}
use Rattle.census.specs.Count.{bump, count_body, count_maybe, count_element, count_templates, count_bundle}

-- A body that may be there

module _ (w d : ℕ) (b : Bits) (kind n : ℕ) (m : RustOption ℕ) where
  pub maybe_nothing : m ≡ None → n ≡ count_maybe kind (body_says w d b m) n
  maybe_nothing e = ap (λ (m : RustOption ℕ). count_maybe kind (body_says w d b m) n) (sym e)

  pub maybe_body : (q : ℕ) → m ≡ Some q → MaybeHolds (body w d) b m → Holds (body w d) b q
  maybe_body q e h = subst (MaybeHolds (body w d) b) e h

  pub maybe_count : (q : ℕ) → m ≡ Some q → (r : ℕ) → r ≡ count_body kind (template_at w d b q) n → r ≡ count_maybe kind (body_says w d b m) n
  maybe_count q e r h = h ∙ ap (λ (m : RustOption ℕ). count_maybe kind (body_says w d b m) n) (sym e)

-- An element: e is what was read, r the count behind it

module _ (w d : ℕ) (b : Bits) (kind n : ℕ) (e : Element) where
  pub plain : (v : Element) → e ≡ v → (r : ℕ) → r ≡ count_element kind (element_says w d b v) n → r ≡ count_element kind (element_says w d b e) n
  plain v h r g = g ∙ ap (λ (e : Element). count_element kind (element_says w d b e) n) (sym h)

  pub helper_template : (c x : ℕ) (t i : RustOption ℕ) (f : Bool) → e ≡ HelperBlock c x t i f → ElementHolds w d b e → MaybeHolds (body w d) b t
  helper_template c x t i f h H = (subst (ElementHolds w d b) h H).2

  pub helper_inverse : (c x : ℕ) (t i : RustOption ℕ) (f : Bool) → e ≡ HelperBlock c x t i f → ElementHolds w d b e → MaybeHolds (body w d) b i
  helper_inverse c x t i f h H = (subst (ElementHolds w d b) h H).3

  pub helper : (c x : ℕ) (t i : RustOption ℕ) (f : Bool) → e ≡ HelperBlock c x t i f → (m : ℕ) → m ≡ bump kind 3 n
      → (o : ℕ) → o ≡ count_maybe kind (body_says w d b t) m → (r : ℕ) → r ≡ count_maybe kind (body_says w d b i) o → r ≡ count_element kind (element_says w d b e) n
  helper c x t i f h m hm o ho r hr =
      plain (HelperBlock c x t i f) h r (hr ∙ ap (count_maybe kind (body_says w d b i)) (ho ∙ ap (count_maybe kind (body_says w d b t)) hm))

  pub decorator_body : (c t : ℕ) (i : RustOption ℕ) (f : Bool) → e ≡ DecoratorBlock c t i f → ElementHolds w d b e → Holds (body w d) b t
  decorator_body c t i f h H = (subst (ElementHolds w d b) h H).1

  pub decorator : (c t : ℕ) (i : RustOption ℕ) (f : Bool) → e ≡ DecoratorBlock c t i f → (m : ℕ) → m ≡ bump kind 5 n
      → (r : ℕ) → r ≡ count_body kind (template_at w d b t) m → r ≡ count_element kind (element_says w d b e) n
  decorator c t i f h m hm r hr = plain (DecoratorBlock c t i f) h r (hr ∙ ap (count_body kind (template_at w d b t)) hm)

  pub partial_body : (c t : ℕ) (i : RustOption ℕ) (f : Bool) → e ≡ PartialBlock c t i f → ElementHolds w d b e → Holds (body w d) b t
  partial_body c t i f h H = (subst (ElementHolds w d b) h H).1

  pub partial : (c t : ℕ) (i : RustOption ℕ) (f : Bool) → e ≡ PartialBlock c t i f → (m : ℕ) → m ≡ bump kind 7 n
      → (r : ℕ) → r ≡ count_body kind (template_at w d b t) m → r ≡ count_element kind (element_says w d b e) n
  partial c t i f h m hm r hr = plain (PartialBlock c t i f) h r (hr ∙ ap (count_body kind (template_at w d b t)) hm)

-- A body: i elements of n are passed

module _ (w d : ℕ) (b : Bits) (kind n i p q : ℕ) (P : Passed (in_body w d) b n i p q) (sum : ℕ) where
  pub body_on : i < n → (v : ElementAt) → v ≡ element_view w d b p → (r : ℕ) → r ≡ count_element kind (element_says w d b v.element) sum
      → count_body kind (elements_at w d (n - (i + 1)) b v.next) r ≡ count_body kind (elements_at w d (n - i) b p) sum
  body_on h v hv r hr =
      ap (count_body kind (elements_at w d (n - (i + 1)) b v.next)) hr
      ∙ sym (ap (λ t. count_body kind t sum) (elements_here w d b n i p q P h v hv))

  pub body_done : n ≤ i → sum ≡ count_body kind (elements_at w d (n - i) b p) sum
  body_done h = sym (ap (λ t. count_body kind t sum) (elements_end w d b n i p q P h))

-- The templates: i of n are passed

pub record Counting (c : Layout rule.Template) (b : Bits) (kind n i p q sum all : ℕ) : Type 0 where
  pub passed : Passed (string then c) b n i p q
  pub is : count_templates kind (rest_at c (n - i) b p) sum ≡ all

module _ (c : Layout rule.Template) (b : Bits) (kind n i p q sum all : ℕ) (C : Counting c b kind n i p q sum all) where
  pub all_counted : n ≤ i → sum ≡ all
  all_counted h =
      let e : n - i ≡ 0 = omega arith in
      sym (ap (λ l. count_templates kind l sum) (ap (λ (k : ℕ). rest_at c k b p) e ∙ none_left_value (string then c) b p)) ∙ C.is

  module _ (h : i < n) where
    here : Holds (string then c) b p
    here = passed_first (string then c) b n i p q C.passed h

    pub template_here : TemplateStands c b p (template_view b p)
    template_here = template_stands c b p here

    module _ (r : ℕ) (hr : r ≡ end string b p) where
      pub body_here : Holds c b r
      body_here = moved c b _ _ (sym hr) template_here.content

      pub template_on : (z s : ℕ) → z ≡ end c b r → s ≡ count_body kind (value rule.tnil c b r) sum → Counting c b kind n (i + 1) z q s all
      template_on z s hz hs =
          let e : z ≡ end (string then c) b p = hz ∙ ap (end c b) hr ∙ template_here.next in
          let x = here.found in
          record {
            passed = passed_again (string then c) b n i p q C.passed h z e;
            is = ap (λ (z : ℕ). count_templates kind (rest_at c (n - (i + 1)) b z) s) e
                ∙ ap (count_templates kind (rest_at c (n - (i + 1)) b (end (string then c) b p))) (hs ∙ ap (λ (r : ℕ). count_body kind (value rule.tnil c b r) sum) hr)
                ∙ ap (λ (y : Bytes × rule.Template). count_templates kind (rest_at c (n - (i + 1)) b (end (string then c) b p)) (count_body kind y.1 sum)) (sym (template_here.is x))
                ∙ sym (ap (λ l. count_templates kind l sum) (passed_value (string then c) b n i p q C.passed h x))
                ∙ C.is;
          }

pub count_start : (s : Bytes) (kind : ℕ) → Standing s → (n : ℕ) → n ≡ field (bits s) 8 8
    → Counting (body 16 16) (bits s) kind n 0 16 (end (templates 16) (bits s) 8) 0 (count_bundle kind (bundle s))
count_start s kind S n e =
    let z : n - 0 ≡ field (bits s) 8 8 = omega arith in
    record {
      passed = templates_start 16 (bits s) S.templates n e;
      is = ap (λ l. count_templates kind l 0) (ap (λ (k : ℕ). rest_at (body 16 16) k (bits s) 16) z ∙ templates_are 16 (bits s) S.templates)
          ∙ sym (ap (count_bundle kind) S.are);
    }
