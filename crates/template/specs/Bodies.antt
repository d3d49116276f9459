-- Bodies and their elements, one record for each that gives a caller what stands where and what it says.
use Rattle.std.specs.Prelude.{ℕ, suc, ◌+◌, ◌-◌, ◌≤◌, ◌<◌, ◌≡◌}
use mathlib.Core.List.{[]}
use Rattle.std.proofs.Math.Path.{sym, ap}
use Rattle.std.proofs.Common.{◌∙◌, subst, arith}
use Rattle.rules.specs.Template as rule
use Rattle.rules.specs.Bits.{Bits}
use Rattle.rules.specs.Layout.{Layout, field, num, ◌then◌, shaped, counted}
use Rattle.rules.specs.LayoutLaws.{not_read}
use Rattle.rules.specs.Bundle.{call_of, param}
use Rattle.rules.specs.Bundle.{element_of, Placed, body_out, body_make, placed, body}
use Rattle.parts.specs.Holds.{Holds, end, value, row}
use Rattle.parts.specs.HoldsLaws.{end_is, value_is, moved, moved_found, Then, then_holds, Same, shaped_holds, num_holds, Counted, counted_holds, more_holds}
use Rattle.parts.specs.HoldsLaws.{none_left_value, more_value, Passed, row_start, passed_row, passed_first, passed_again}
use Rattle.template.specs.declared.ElementAt.{ElementAt}
use Rattle.template.specs.declared.Body.{Body}
use Rattle.template.specs.Views.{in_body, template_at, element_says, ElementHolds, element_view, body_view}
use Rattle.template.specs.Content.{element_is}

-- n elements from p on
abbrev pub elements_at : ℕ → ℕ → ℕ → Bits → ℕ → rule.Template
elements_at w d n b p = body_make (value [] (row (in_body w d) n) b p)

-- an element with its line and column
module _ (w : ℕ) (c : Layout rule.Call) (t : Layout rule.Template) (b : Bits) (p : ℕ) (H : Holds (placed w c t) b p) where
  lined : Then (num w) (num w then element_of c t) b p H.found (end (placed w c t) b p)
  lined = then_holds (num w) (num w then element_of c t) b p H

  line_num : (p + w ≤ b.size) × (field b w p ≡ lined.first.found) × (p + w ≡ end (num w) b p)
  line_num = num_holds w b p lined.first

  columned : Then (num w) (element_of c t) b (end (num w) b p) lined.second.found (end (num w then element_of c t) b (end (num w) b p))
  columned = then_holds (num w) (element_of c t) b (end (num w) b p) lined.second

  column_num : (end (num w) b p + w ≤ b.size) × (field b w (end (num w) b p) ≡ columned.first.found) × (end (num w) b p + w ≡ end (num w) b (end (num w) b p))
  column_num = num_holds w b (end (num w) b p) columned.first

  kind_place : p + w + w ≡ end (num w) b (end (num w) b p)
  kind_place = ap (λ (n : ℕ). n + w) line_num.2 ∙ column_num.2

  pub placed_fits : p + w + w ≤ b.size
  placed_fits = omega (arith, line_num.2, column_num.0)

  pub placed_holds : Holds (element_of c t) b (p + w + w)
  placed_holds = moved (element_of c t) b _ _ (sym kind_place) columned.second

  pub placed_end : end (element_of c t) b (p + w + w) ≡ end (placed w c t) b p
  placed_end = ap (end (element_of c t) b) kind_place ∙ columned.ends ∙ lined.ends

  -- r is the place behind the content
  pub placed_next : (r : ℕ) → r ≡ end (element_of c t) b (p + w + w) → r ≡ end (placed w c t) b p
  placed_next r e = e ∙ placed_end

  pub placed_is : (field b w p, (field b w (p + w), placed_holds.found)) ≡ H.found
  unfolding placed_holds
  placed_is =
      let l : field b w p ≡ H.found.0 = line_num.1 ∙ lined.one in
      let k : field b w (p + w) ≡ H.found.1.0 = ap (field b w) line_num.2 ∙ column_num.1 ∙ columned.one ∙ ap (λ x. x.0) lined.other in
      let e : placed_holds.found ≡ H.found.1.1 =
      moved_found (element_of c t) b (sym kind_place) columned.second ∙ columned.other ∙ ap (λ x. x.1) lined.other in
      ap (λ (n : ℕ). (n, (field b w (p + w), placed_holds.found))) l
      ∙ ap (λ (n : ℕ). (H.found.0, (n, placed_holds.found))) k
      ∙ ap (λ x. (H.found.0, (H.found.1.0, x))) e

-- The view of an element says what it is, and its parts stand

abbrev pub placed_at : ℕ → ℕ → Bits → ℕ → Placed
placed_at w d b p = value (0, (0, rule.raw_string [])) (in_body w d) b p

abbrev pub mapping_of : ElementAt → rule.TemplateMapping
mapping_of v = record { line = v.line; column = v.column }

pub record ElementStands (w d : ℕ) (b : Bits) (p : ℕ) (v : ElementAt) : Type 0 where
  pub fits : p + w + w ≤ b.size
  pub is : placed_at w d b p ≡ (v.line, (v.column, element_says w d b v.element))
  pub next : v.next ≡ end (in_body w d) b p
  pub parts : ElementHolds w d b v.element

pub element_stands : (w d : ℕ) (b : Bits) (p : ℕ) → Holds (in_body w d) b p → ElementStands w d b p (element_view w d b p)
element_stands w d b p H =
    let c = call_of (param d) in
    let t = body w d in
    let m = element_is w d b (p + w + w) (placed_holds w c t b p H) in
    record {
      fits = placed_fits w c t b p H;
      is = value_is (0, (0, rule.raw_string [])) H ∙ sym (placed_is w c t b p H) ∙ ap (λ x. (field b w p, (field b w (p + w), x))) (sym m.0);
      next = placed_end w c t b p H;
      parts = m.1;
    }

pub element_read : (w d : ℕ) (b : Bits) (p : ℕ) → Holds (in_body w d) b p → (v : ElementAt) → v ≡ element_view w d b p → ElementStands w d b p v
element_read w d b p H v e = subst (ElementStands w d b p) (sym e) (element_stands w d b p H)

-- Elements one by one

pub no_elements : (w d : ℕ) (b : Bits) (p : ℕ) → elements_at w d 0 b p ≡ rule.tnil
no_elements w d b p = ap body_make (none_left_value (in_body w d) b p)

pub elements_more : (w d n : ℕ) (b : Bits) (p : ℕ) → Holds (row (in_body w d) (suc n)) b p → (v : ElementAt) → v ≡ element_view w d b p
    → elements_at w d (suc n) b p ≡ rule.tcons (mapping_of v) (element_says w d b v.element) (elements_at w d n b v.next)
elements_more w d n b p H v hv =
    let s = element_stands w d b p (more_holds (in_body w d) n b p H).first in
    let u = element_view w d b p in
    ap body_make (more_value (0, (0, rule.raw_string [])) (in_body w d) n b p H)
    ∙ ap (λ (x : Placed). rule.tcons (record { line = x.0; column = x.1.0 }) x.1.1 (elements_at w d n b (end (in_body w d) b p))) s.is
    ∙ ap (λ (q : ℕ). rule.tcons (mapping_of u) (element_says w d b u.element) (elements_at w d n b q)) (sym s.next)
    ∙ ap (λ (v : ElementAt). rule.tcons (mapping_of v) (element_says w d b v.element) (elements_at w d n b v.next)) (sym hv)

-- A body with d depths left, its own included: a count, and elements one deeper

module _ (w d : ℕ) (b : Bits) (p : ℕ) (H : Holds (body w d) b p) where
  pub body_deep : d ≡ 0 → ⊥
  body_deep e = not_read (sym (ap (λ (n : ℕ). (body w n).dec b p) e) ∙ H.reads)

  abbrev whole : Layout rule.Template
  whole = shaped body_out body_make (counted 12 (in_body w (d - 1)))

  here : Holds whole b p
  here =
      let e : suc (d - 1) ≡ d = omega (arith, body_deep) in
      record { found = H.found; behind = H.behind; reads = ap (λ (n : ℕ). (body w n).dec b p) e ∙ H.reads }

  inside : Same (counted 12 (in_body w (d - 1))) b p (λ x. body_make x ≡ here.found) (end whole b p)
  inside = shaped_holds body_out body_make (counted 12 (in_body w (d - 1))) b p here

  counted_body : Counted 12 (in_body w (d - 1)) b p inside.inner.found (end (counted 12 (in_body w (d - 1))) b p)
  counted_body = counted_holds 12 (in_body w (d - 1)) b p inside.inner

  pub body_fits : p + 12 ≤ b.size
  body_fits = counted_body.fits

  body_end_is : end (row (in_body w (d - 1)) (field b 12 p)) b (p + 12) ≡ end (body w d) b p
  unfolding here
  body_end_is = counted_body.ends ∙ inside.ends ∙ end_is here ∙ sym (end_is H)

  body_found : elements_at w (d - 1) (field b 12 p) b (p + 12) ≡ H.found
  unfolding here
  body_found = ap body_make (value_is [] counted_body.inner ∙ counted_body.is) ∙ inside.is

-- The view of a body says what it is, and its elements stand

pub record BodyStands (w d : ℕ) (b : Bits) (p : ℕ) (v : Body) : Type 0 where
  pub deep : 1 ≤ d
  pub fits : p + 12 ≤ b.size
  pub elements : Holds (row (in_body w (d - 1)) v.count) b v.first
  pub ends : end (row (in_body w (d - 1)) v.count) b v.first ≡ end (body w d) b p
  pub is : template_at w d b p ≡ elements_at w (d - 1) v.count b v.first

pub body_stands : (w d : ℕ) (b : Bits) (p : ℕ) → Holds (body w d) b p → BodyStands w d b p (body_view b p)
body_stands w d b p H = record {
  deep = omega (arith, body_deep w d b p H);
  fits = body_fits w d b p H;
  elements = (counted_body w d b p H).inner;
  ends = body_end_is w d b p H;
  is = value_is rule.tnil H ∙ sym (body_found w d b p H);
}

pub body_read : (w d : ℕ) (b : Bits) (p : ℕ) → Holds (body w d) b p → (v : Body) → v ≡ body_view b p → BodyStands w d b p v
body_read w d b p H v e = subst (BodyStands w d b p) (sym e) (body_stands w d b p H)

-- A loop over the elements of a body, and what is left of it

module _ (w d : ℕ) (b : Bits) (p : ℕ) (H : Holds (body w d) b p) where
  pub body_start : (n : ℕ) → n ≡ field b 12 p → Passed (in_body w (d - 1)) b n 0 (p + 12) (end (body w d) b p)
  body_start n e =
      let m = body_stands w d b p H in
      let s = row_start (in_body w (d - 1)) b (field b 12 p) (p + 12) m.elements in
      subst (λ (n : ℕ). Passed (in_body w (d - 1)) b n 0 (p + 12) (end (body w d) b p)) (sym e) (record { within = s.within; left = s.left; ends = s.ends ∙ m.ends })

  -- the same for a body that was read
  pub body_begin : (v : Body) → v ≡ body_view b p
      → Passed (in_body w (d - 1)) b v.count 0 v.first (end (body w d) b p) × (elements_at w (d - 1) (v.count - 0) b v.first ≡ template_at w d b p)
  body_begin v e =
      let m = body_read w d b p H v e in
      let s = row_start (in_body w (d - 1)) b v.count v.first m.elements in
      let z : v.count - 0 ≡ v.count = omega arith in
      (record { within = s.within; left = s.left; ends = s.ends ∙ m.ends }, ap (λ (k : ℕ). elements_at w (d - 1) k b v.first) z ∙ sym m.is)

module _ (w d : ℕ) (b : Bits) (n i p q : ℕ) (P : Passed (in_body w d) b n i p q) where
  pub elements_end : n ≤ i → elements_at w d (n - i) b p ≡ rule.tnil
  elements_end h = let e : n - i ≡ 0 = omega arith in ap (λ (k : ℕ). elements_at w d k b p) e ∙ no_elements w d b p

  module _ (h : i < n) where
    pub element_here : Holds (in_body w d) b p
    element_here = passed_first (in_body w d) b n i p q P h

    pub elements_here : (v : ElementAt) → v ≡ element_view w d b p
        → elements_at w d (n - i) b p ≡ rule.tcons (mapping_of v) (element_says w d b v.element) (elements_at w d (n - (i + 1)) b v.next)
    elements_here v hv =
        let e : n - i ≡ suc (n - (i + 1)) = omega arith in
        ap (λ (k : ℕ). elements_at w d k b p) e ∙ elements_more w d (n - (i + 1)) b p (passed_row (in_body w d) b n i p q P h) v hv

    pub elements_again : (v : ElementAt) → v ≡ element_view w d b p → Passed (in_body w d) b n (i + 1) v.next q
    elements_again v hv = passed_again (in_body w d) b n i p q P h v.next (ap (λ (v : ElementAt). v.next) hv ∙ (element_stands w d b p element_here).next)
