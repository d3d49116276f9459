-- Demand 3, the part about the rules: what siblings leave each other, in every body that a call draws.
use Rattle.std.specs.Prelude.{ℕ, suc, ◌≤◌, Bool, true, false, [], ◌++◌, ◌≡◌, refl, ltb, length}
use Rattle.std.proofs.Common.{append_assoc, append-nil, sym, ap, ◌∙◌, subst, arith, ltb-false, le-ltb}
use Rattle.std.proofs.Math.Option.{Option, none, some}
use Rattle.rules.specs.Bytes.{Bytes}
use Rattle.rules.specs.Template.{TemplateMapping, Template, tnil, tcons, Body, no_body, body, TemplateElement, raw_string, html_expression, expression, helper_block, decorator_expression, decorator_block, partial_expression, partial_block, comment}
use Rattle.rules.specs.Partials.{alike}
use Rattle.rules.specs.State.{Kept, RenderContext, depth, set_current_template_name, Res, ok, err, Draw, ◌then◌, prefixed, located}
use Rattle.rules.specs.Registry.{Registry}
use Rattle.rules.specs.Partial.{Rendering}
use Rattle.rules.specs.Render.{render_elements, render_element, render_template}
use Rattle.rules.specs.RenderLaws.{no_elements, first_element}
use Rattle.rules.specs.Call.{answer, fresh, render_call}
use Rattle.rules.specs.Keeps.{Keeps, Good, GoodBody}
use Rattle.rules.proofs.Keeps.{located_keeps, render_elements_good, render_element_good, render_template_good}
use Rattle.siblings.specs.Agree.{Begins, Agree, AgreeBody, render_helper_agree, render_partial_element_agree}
use Rattle.siblings.specs.Siblings.{succeeds, first, inner, Whole, End, onto, list, single, chain, AsBefore, Alike, EndTheSame, Siblings, body_with, render_element_with, Matters, BodyBegun, BodyState, end_answer}

-- the rules are that, with bodies drawn by the rules
pub as_rules : (g : Registry) (k : ℕ) (e : TemplateElement) (s : RenderContext)
    → render_element g (render_template g k) e s ≡ render_element_with g (render_template g (suc k) none) (render_template g k) e s
unfolding render_elements render_template
as_rules g k (raw_string v) s = refl
as_rules g k (html_expression c f) s = refl
as_rules g k (expression c f) s = refl
as_rules g k (helper_block c ns no_body no_body f) s = refl
as_rules g k (helper_block c ns no_body (body i) f) s = refl
as_rules g k (helper_block c ns (body t) no_body f) s = refl
as_rules g k (helper_block c ns (body t) (body i) f) s = refl
as_rules g k (decorator_expression c i f) s = refl
as_rules g k (decorator_block c t i f) s = refl
as_rules g k (partial_expression c i f) s = refl
as_rules g k (partial_block c t i f) s = refl
as_rules g k (comment v) s = refl

-- A list is drawn element by element

onto_prefixed : (w v : Bytes) (r : Res) → onto w (prefixed v r) ≡ onto (w ++ v) r
unfolding prefixed
onto_prefixed w v (ok t u) = ap {B = End} (λ (x : Bytes). succeeds (record { state = t; text = x })) (sym (append_assoc w v u))
onto_prefixed w v (err e) = refl

onto_then : (w : Bytes) (r : Res) (f : Draw) → onto w (r then f) ≡ chain (onto w r) (λ y. onto y.text (f y.state))
unfolding ◌then◌
onto_then w (ok s v) f = onto_prefixed w v (f s)
onto_then w (err e) f = refl

list_nil : (g : Registry) (k : ℕ) (n : Option Bytes) (x : Whole) → list g k n tnil x ≡ succeeds x
list_nil g k n x =
    ap (onto x.text) (no_elements g (render_template g k) n x.state)
    ∙ ap {B = End} (λ (w : Bytes). succeeds (record { state = x.state; text = w })) (append-nil x.text)

list_cons : (g : Registry) (k : ℕ) (n : Option Bytes) (p : TemplateMapping) (e : TemplateElement) (t : Template) (x : Whole) → list g k n (tcons p e t) x ≡ chain (single g k n p e x) (list g k n t)
list_cons g k n p e t x =
    ap (onto x.text) (first_element g (render_template g k) n p e t x.state)
    ∙ onto_then x.text (located n p (render_element g (render_template g k) e x.state)) (render_elements g (render_template g k) n t)

-- Proofs

kept_of : (k : Kept) (r : Res) (w : Bytes) (y : Whole) → Keeps k r → onto w r ≡ succeeds y → y.state.kept ≡ k
kept_of k (ok s v) w y h e = let q : Path Whole (record { state = s; text = w ++ v }) y = cc in sym (ap (λ (z : Whole). z.state.kept) q) ∙ h.holds
kept_of k (err d) w y h e = cc

list_keeps : (g : Registry) (k : ℕ) (n : Option Bytes) (t : Template) (start x : Whole) → start.state.kept.disable_escape ≡ false → list g k n t start ≡ succeeds x → x.state.kept ≡ start.state.kept
list_keeps g k n t start x q h =
    kept_of start.state.kept (render_elements g (render_template g k) n t start.state) start.text x (render_elements_good g (render_template g k) (render_template_good g k) t n start.state q) h

same_end : (x y : Whole) (r : Res) → EndTheSame x y (onto x.text r) (onto y.text r)
same_end x y (ok s v) = (v, refl, refl, record { inline_partials = λ n. refl; current_template = refl; marks = refl; room = refl })
same_end x y (err d) = refl

-- from every state with escaping on
pub siblings : (g : Registry) (k : ℕ) (n : Option Bytes) (start : Whole) → start.state.kept.disable_escape ≡ false → Siblings g k n start
siblings g k n start q = record {
  empty = list_nil g k n;
  one_by_one = list_cons g k n;
  kept = λ elder x h p e y i.
      before x y (kept_of x.state.kept (located n p (render_element g (render_template g k) e x.state)) x.text y
      (located_keeps n p (render_element_good g (render_template g k) (render_template_good g k) e x.state (ap (λ (j : Kept). j.disable_escape) (list_keeps g k n elder start x q h) ∙ q))) i);
  seen = λ one other x y h i a next. follows x y (list_keeps g k n one start x q h ∙ sym (list_keeps g k n other start y q i)) a next;
}
  where
    before : (x y : Whole) → y.state.kept ≡ x.state.kept → AsBefore x y
    before x y e = record {
      scope_depth = ap (λ (j : Kept). suc (length j.blocks_beneath)) e;
      partial_block_depth = ap (λ (j : Kept). length j.partial_block_stack) e;
      indent = ap (λ (j : Kept). j.indent_string) e;
      escaping = ap (λ (j : Kept). j.disable_escape) e;
      beneath = ap (λ (j : Kept). j.blocks_beneath) e;
    }

    follows : (x y : Whole) → x.state.kept ≡ y.state.kept → Alike x y → (next : Template) → EndTheSame x y (list g k n next x) (list g k n next y)
    follows x y e a next =
        subst (λ (s : RenderContext). EndTheSame x y (list g k n next x) (onto y.text (render_elements g (render_template g k) n next s))) same_state
        (same_end x y (render_elements g (render_template g k) n next x.state))
      where
        same_state : x.state ≡ y.state
        same_state = λ i. record {
          kept = e i;
          seen = record { block_partials = alike x.state.seen.block_partials y.state.seen.block_partials a.inline_partials i; current_template = a.current_template i; marks = a.marks i; room = a.room i };
        }

-- bodies begin in no other states
body_with_agree : (g : Registry) (E E' : Template → Draw) → ((t : Template) → Agree g 0 (E t) (E' t)) → (b : Body) → AgreeBody g 0 (body_with E b) (body_with E' b)
body_with_agree g E E' h no_body = tt
body_with_agree g E E' h (body t) = h t

body_with_good : (E : Template → Draw) → ((t : Template) → Good false (E t)) → (b : Body) → GoodBody false (body_with E b)
body_with_good E h no_body = tt
body_with_good E h (body t) = h t

pub with_agree : (g : Registry) (E E' : Template → Draw) (R R' : Rendering) → ((t : Template) → Good false (E t))
    → ((t : Template) → Agree g 0 (E t) (E' t)) → ((n : Option Bytes) (t : Template) → Agree g 1 (R n t) (R' n t))
    → (e : TemplateElement) → Agree g 0 (render_element_with g E R e) (render_element_with g E' R' e)
with_agree g E E' R R' ge ae ar (raw_string v) s i = refl
with_agree g E E' R R' ge ae ar (html_expression c f) s i = refl
with_agree g E E' R R' ge ae ar (expression c f) s i = refl
with_agree g E E' R R' ge ae ar (helper_block c ns t n f) s i =
    render_helper_agree g 0 c f ns (body_with E t) (body_with E' t) (body_with E n) (body_with E' n) (body_with_good E ge t) (body_with_agree g E E' ae t) (body_with_agree g E E' ae n) s i
with_agree g E E' R R' ge ae ar (decorator_expression c n f) s i = refl
with_agree g E E' R R' ge ae ar (decorator_block c t n f) s i = refl
with_agree g E E' R R' ge ae ar (partial_expression c n f) s i = render_partial_element_agree g 0 R R' ar c none none n f tt tt s i
with_agree g E E' R R' ge ae ar (partial_block c t n f) s i = render_partial_element_agree g 0 R R' ar c (some (E t)) (some (E' t)) n f (ge t) (ae t) s i
with_agree g E E' R R' ge ae ar (comment v) s i = refl

-- what matters in no state that bodies begin in does not matter
only_begins : (g : Registry) (e : TemplateElement) (s : RenderContext) (P : RenderContext → Bool) → Begins g 0 s.kept → ((v : RenderContext) → Begins g 0 v.kept → P v ≡ false) → Matters g e s P → ⊥
only_begins g e s P i h b =
    b.differ (with_agree g b.E b.E' b.R b.R' b.keeps (λ t v j. b.elsewhere t v (h v j))
    (λ n t v j. b.elsewhere_found n t v (h v (record { escaping = j.escaping; least = omega arith; most = j.most }))) e s i)

pub begun_begins : (g : Registry) (e : TemplateElement) (s u : RenderContext) → Begins g 0 s.kept → BodyBegun g e s u → Begins g 0 u.kept
begun_begins g e s u i b = go u.kept.disable_escape refl (ltb g.limits.scopes (depth u)) refl
  where
    go : (x : Bool) → u.kept.disable_escape ≡ x → (y : Bool) → ltb g.limits.scopes (depth u) ≡ y → Begins g 0 u.kept
    go false p false q = record { escaping = p; least = omega arith; most = ltb-false g.limits.scopes (depth u) q }
    go false p true q = absurd (only_begins g e s (λ v. ltb g.limits.scopes (depth v)) i (λ v j. le-ltb g.limits.scopes (depth v) j.most) (b (λ v. ltb g.limits.scopes (depth v)) q))
    go true p y q = absurd (only_begins g e s (λ v. v.kept.disable_escape) i (λ v j. j.escaping) (b (λ v. v.kept.disable_escape) p))

pub body_begins : (g : Registry) → 1 ≤ g.limits.scopes → {s : RenderContext} → BodyState g s → Begins g 0 s.kept
body_begins g l (first n) = record { escaping = refl; least = omega arith; most = l }
body_begins g l (inner {s} b k n elder w x h e u j m) =
    let i : Begins g 0 s.kept = body_begins g l b in
    begun_begins g e x.state u (subst (λ (k : Kept). Begins g 0 k) (sym (list_keeps g k n elder (record { state = s; text = w }) x i.escaping h)) i) j

-- demand 3: in every body that a call draws
pub every_body : (g : Registry) → 1 ≤ g.limits.scopes → (s : RenderContext) → BodyState g s → (k : ℕ) (n : Option Bytes) (w : Bytes) → Siblings g k n (record { state = s; text = w })
every_body g l s b k n w = siblings g k n (record { state = s; text = w }) (body_begins g l b).escaping

answer_onto : (r : Res) → answer r ≡ end_answer (onto [] r)
answer_onto (ok s w) = refl
answer_onto (err e) = refl

template_is : (g : Registry) (k : ℕ) (n : Option Bytes) (t : Template) (s : RenderContext) → render_template g (suc k) n t s ≡ render_elements g (render_template g k) n t (set_current_template_name n s)
unfolding render_template
template_is g k n t s = refl

call_is : (g : Registry) (n : Bytes) (t : Template) → render_call g n t ≡ answer (render_template g g.limits.scopes (some n) t (fresh g.limits))
unfolding render_call
call_is g n t = refl

pub call_is_list : (g : Registry) (n : Bytes) (t : Template) (k : ℕ) → g.limits.scopes ≡ suc k
    → render_call g n t ≡ end_answer (list g k (some n) t (record { state = set_current_template_name (some n) (fresh g.limits); text = [] }))
call_is_list g n t k l =
    call_is g n t ∙ ap (λ (j : ℕ). answer (render_template g j (some n) t (fresh g.limits))) l ∙ ap answer (template_is g k (some n) t (fresh g.limits))
    ∙ answer_onto (render_elements g (render_template g k) (some n) t (set_current_template_name (some n) (fresh g.limits)))
