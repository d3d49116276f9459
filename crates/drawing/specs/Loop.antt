-- Drawing the elements of a body one by one.
use Rattle.std.specs.Prelude.{ℕ, zero, suc, ◌+◌, ◌-◌, ◌≤◌, ◌<◌, List, [], ◌∷◌, ◌++◌, ◌≡◌, refl, length, drop, None}
use Rattle.std.proofs.Common.{append_assoc, append-nil, sym, ap₂, ◌∙◌, subst, arith}
use Rattle.std.proofs.Math.Option.{Option}
use Rattle.std.proofs.Math.Path.{ap}
use Rattle.std.proofs.Math.Seq.{drop-append_seam}
use Rattle.rules.specs.Bytes.{Bytes}
use Rattle.rules.specs.Bits.{bits}
use Rattle.rules.specs.Bundle.{body}
use Rattle.rules.specs.Template.{Template, tnil, tcons, TemplateElement, TemplateMapping}
use Rattle.rules.specs.State.{RenderContext, Res, ok, err, Draw, prefixed, ◌then◌, located}
use Rattle.rules.specs.Registry.{Registry}
use Rattle.rules.specs.Partial.{Rendering}
use Rattle.rules.specs.Render.{render_elements, render_element, render_template}
use Rattle.output.specs.Outputs.{so_far}
use Rattle.parts.specs.Holds.{Holds, end}
use Rattle.parts.specs.HoldsLaws.{Passed}
use Rattle.template.specs.declared.ElementAt.{ElementAt}
use Rattle.template.specs.declared.Body.{Body}
use Rattle.template.specs.Views.{template_at, element_says, in_body, element_view, body_view}
use Rattle.template.specs.Bodies.{elements_at, mapping_of, body_begin, elements_end, element_here, elements_here, elements_again}
use Rattle.expand.specs.declared.Options.{Options}
use Rattle.state.specs.Setters as set
use Rattle.state.specs.World.{World, over, outputs_of, name_at, abs, error_of, Ready, Goes, Drawn, Draws}
use Rattle.state.specs.Laws.{goes_self, goes_trans, draws_located}
use Rattle.drawing.specs.Renders.{registry_of, Renders}

-- what was written is settled by the buffers
pub goes_text : (s b u v : Bytes) (w w' : World) → Goes s b u w w' → Goes s b v w w' → u ≡ v
goes_text s b u v w w' g h =
    let x : Bytes = so_far 0 (outputs_of w) in
    sym (drop-append_seam x u) ∙ ap (drop (length x)) (sym (g.grows.text 0 (omega arith)) ∙ h.grows.text 0 (omega arith)) ∙ drop-append_seam x v

-- what is drawn, and what it wrote by any other account
pub drawn_as : (s b v : Bytes) (w w' : World) (x : Res) → Draws s b w w' x → w'.rc.bad ≡ None → Goes s b v w w' → x ≡ ok (abs s b w') v
drawn_as s b v w w' x d e g = let y = d.fine e in y.is ∙ ap (ok (abs s b w')) (goes_text s b y.text v w w' y.goes g)

pub prefixed_nothing : (x : Res) → prefixed [] x ≡ x
unfolding prefixed
prefixed_nothing (ok s v) = refl
prefixed_nothing (err e) = refl

pub prefixed_both : (u v : Bytes) (x : Res) → prefixed u (prefixed v x) ≡ prefixed (u ++ v) x
unfolding prefixed
prefixed_both u v (ok s t) = ap (ok s) (sym (append_assoc u v t))
prefixed_both u v (err e) = refl

-- a text, and a drawing behind it
pub draws_prefixed : (s b v : Bytes) (w l w' : World) (x : Res) → Goes s b v w l → Draws s b l w' x → Draws s b w w' (prefixed v x)
unfolding prefixed
draws_prefixed s b v w l w' x g d = record {
  fine = λ e. let y = d.fine e in record { text = v ++ y.text; is = ap (prefixed v) y.is; goes = goes_trans s b v y.text w l w' g y.goes };
  refused = λ n. ap (prefixed v) (d.refused n);
}

-- the same rule under the registry of a page as long
same_registry : (s b : Bytes) (o : Options) (w l : World) → length l.page ≡ length w.page → registry_of s b o (length l.page) ≡ registry_of s b o (length w.page)
same_registry s b o w l e = ap (registry_of s b o) e

pub renders_at : (s b : Bytes) (o : Options) (w l l' : World) (rule : Registry → Rendering → Draw) → length l.page ≡ length w.page → l.rc.used ≡ w.rc.used → Renders s b o l l' rule
    → (f : ℕ) → 32 ≤ f + w.rc.used → Draws s b l l' (rule (registry_of s b o (length w.page)) (render_template (registry_of s b o (length w.page)) f) (abs s b l))
renders_at s b o w l l' rule e u r f le =
    subst (λ (n : ℕ). Draws s b l l' (rule (registry_of s b o n) (render_template (registry_of s b o n) f) (abs s b l))) e (r.at f (subst (λ (n : ℕ). 32 ≤ f + n) (sym u) le))

-- i elements of count are drawn and l is left; the next one stands at p. T is the whole body.
pub record Drawing (s b : Bytes) (o : Options) (n : Option Bytes) (T : Template) (d count z : ℕ) (w l : World) (i p : ℕ) : Type 0 where
  pub passed : Passed (in_body 16 d) (bits b) count i p z
  pub text : Bytes
  pub goes : Goes s b text w l
  pub rest : (f : ℕ) → 32 ≤ f + w.rc.used → render_elements (registry_of s b o (length w.page)) (render_template (registry_of s b o (length w.page)) f) n T (abs s b w)
      ≡ prefixed text (render_elements (registry_of s b o (length w.page)) (render_template (registry_of s b o (length w.page)) f) n (elements_at 16 d (count - i) (bits b) p) (abs s b l))

module _ (s b : Bytes) (o : Options) (n : Option Bytes) (w : World) where
  abbrev g : Registry
  g = registry_of s b o (length w.page)

  abbrev R : ℕ → Rendering
  R f = render_template g f

  pub drawing_start : (d p : ℕ) → Ready s b w → Holds (body 16 d) (bits b) p → (v : Body) → v ≡ body_view (bits b) p
      → Drawing s b o n (template_at 16 d (bits b) p) (d - 1) v.count (end (body 16 d) (bits b) p) w w 0 v.first
  drawing_start d p r h v e =
      let m = body_begin 16 d (bits b) p h v e in
      record {
        passed = m.0;
        text = [];
        goes = goes_self s b w r;
        rest = λ f le.
            ap (λ (t : Template). render_elements g (R f) n t (abs s b w)) (sym m.1)
            ∙ sym (prefixed_nothing (render_elements g (R f) n (elements_at 16 (d - 1) (v.count - 0) (bits b) v.first) (abs s b w)));
      }

  module _ (T : Template) (d count z : ℕ) (l : World) (i p : ℕ) (D : Drawing s b o n T d count z w l i p) where
    pub drawing_end : count ≤ i → Renders s b o w l (λ g R. render_elements g R n T)
    unfolding render_elements prefixed
    drawing_end h = record {
      at = λ f le.
          let is : render_elements g (R f) n T (abs s b w) ≡ ok (abs s b l) D.text =
          D.rest f le ∙ ap (λ (t : Template). prefixed D.text (render_elements g (R f) n t (abs s b l))) (elements_end 16 d (bits b) count i p z D.passed h)
          ∙ ap (ok (abs s b l)) (append-nil D.text) in
          record { fine = λ e. record { text = D.text; is = is; goes = D.goes }; refused = λ e. absurd (e D.goes.ready.fine) };
    }

    module _ (h : i < count) (v : ElementAt) (hv : v ≡ element_view 16 d (bits b) p) (l' : World) (r : Renders s b o l l' (λ g R. render_element g R (element_says 16 d (bits b) v.element))) where
      one : (f : ℕ) → 32 ≤ f + w.rc.used → Draws s b l l' (render_element g (R f) (element_says 16 d (bits b) v.element) (abs s b l))
      one f le = renders_at s b o w l l' (λ g R. render_element g R (element_says 16 d (bits b) v.element)) D.goes.sizes.page D.goes.used r f le

      abbrev next : ℕ → Res
      next f = located n (mapping_of v) (render_element g (R f) (element_says 16 d (bits b) v.element) (abs s b l)) then render_elements g (R f) n (elements_at 16 d (count - (i + 1)) (bits b) v.next)

      unrolled : (f : ℕ) → 32 ≤ f + w.rc.used → render_elements g (R f) n T (abs s b w) ≡ prefixed D.text (next f)
      unfolding render_elements
      unrolled f le = D.rest f le ∙ ap (λ (t : Template). prefixed D.text (render_elements g (R f) n t (abs s b l))) (elements_here 16 d (bits b) count i p z D.passed h v hv)

      pub drawing_stop : (k : ℕ) → n ≡ name_at b k → (l'.rc.bad ≡ None → ⊥) → Renders s b o w (over (set.located l'.rc k v.line v.column) l') (λ g R. render_elements g R n T)
      unfolding ◌then◌ prefixed
      drawing_stop k e bad = record {
        at = λ f le.
            let m = draws_located s b l l' (render_element g (R f) (element_says 16 d (bits b) v.element) (abs s b l)) k v.line v.column (one f le) bad in
            let x : located n (mapping_of v) (render_element g (R f) (element_says 16 d (bits b) v.element) (abs s b l)) ≡ err (error_of b (set.located l'.rc k v.line v.column)) =
            ap (λ (q : Option Bytes). located q (mapping_of v) (render_element g (R f) (element_says 16 d (bits b) v.element) (abs s b l))) e ∙ m.refused bad in
            record {
              fine = λ q. absurd (bad q);
              refused = λ q. unrolled f le ∙ ap (prefixed D.text) (ap (λ (q : Res). q then render_elements g (R f) n (elements_at 16 d (count - (i + 1)) (bits b) v.next)) x);
            };
      }

      pub drawing_more : l'.rc.bad ≡ None → Drawing s b o n T d count z w l' (i + 1) v.next
      unfolding ◌then◌ located
      drawing_more e =
          let y = (one 32 (omega arith)).fine e in
          record {
            passed = elements_again 16 d (bits b) count i p z D.passed h v hv;
            text = D.text ++ y.text;
            goes = goes_trans s b D.text y.text w l l' D.goes y.goes;
            rest = λ f le.
                unrolled f le
                ∙ ap (λ (q : Res). prefixed D.text (located n (mapping_of v) q then render_elements g (R f) n (elements_at 16 d (count - (i + 1)) (bits b) v.next))) (drawn_as s b y.text l l' (render_element g (R f) (element_says 16 d (bits b) v.element) (abs s b l)) (one f le) e y.goes)
                ∙ prefixed_both D.text y.text (render_elements g (R f) n (elements_at 16 d (count - (i + 1)) (bits b) v.next) (abs s b l'));
          }
