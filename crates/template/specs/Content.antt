-- What stands behind an element's kind, and where it ends.
use Rattle.std.specs.Prelude.{ℕ, zero, suc, ◌+◌, ◌≤◌, Bool, [], ◌≡◌, refl}
use Rattle.std.proofs.Common.{inl, inr, sym, ◌∙◌, arith}
use Rattle.std.proofs.Math.Option.{Option, none}
use Rattle.std.proofs.Math.Path.{ap}
use Rattle.rules.specs.Bytes.{Bytes}
use Rattle.rules.specs.Template as rule
use Rattle.rules.specs.Bits.{Bits}
use Rattle.rules.specs.Layout.{Layout, field, num, ◌then◌}
use Rattle.rules.specs.Bundle.{string, flag_out, flag_make, flag, call_of, param, block_names, maybe_out, maybe_make, maybe_body, indent, Tail as TailShape}
use Rattle.rules.specs.Bundle.{element_out, element_make, element_of, body}
use Rattle.layout.specs.Arms.{option_kinds, option_1, written, block, bodiless, bodied, element_kinds}
use Rattle.layout.specs.Arms.{element_0, element_1, element_2, element_3, element_4, element_5, element_6, element_7, element_8}
use Rattle.parts.specs.Holds.{Holds, end}
use Rattle.parts.specs.HoldsLaws.{value_is, Then, then_holds, Same, shaped_holds, num_holds}
use Rattle.parts.specs.HoldsLaws.{tag_fits, kind_holds, kind_stood, kind_never, string_found}
use Rattle.parts.specs.Views.{maybe_of, maybe_view}
use Rattle.parts.specs.Says.{MaybeHolds, indent_says, indent_stands}
use Rattle.calls.specs.Calls.{call_at}
use Rattle.template.specs.declared.Element.{Element}
use Rattle.template.specs.Views.{template_at, flag_at, tail_view, call_end, names_end, template_end, inverse_end, body_end, kind_view, content_view, body_says, element_says, ElementHolds}

-- Where the parts stand

pub flag_holds : (b : Bits) (p : ℕ) (H : Holds flag b p) → (p + 1 ≤ b.size) × (flag_at b p ≡ H.found) × (p + 1 ≡ end flag b p)
flag_holds b p H =
    let m = shaped_holds flag_out flag_make (num 1) b p H in
    let n = num_holds 1 b p m.inner in
    (n.0, ap flag_make n.1 ∙ m.is, n.2 ∙ m.ends)

-- an indent and a flag
module _ (b : Bits) (p : ℕ) (H : Holds (indent then flag) b p) where
  tail_parts : Then indent flag b p H.found (end (indent then flag) b p)
  tail_parts = then_holds indent flag b p H

  tail_flag : (end indent b p + 1 ≤ b.size) × (flag_at b (end indent b p) ≡ tail_parts.second.found) × (end indent b p + 1 ≡ end flag b (end indent b p))
  tail_flag = flag_holds b (end indent b p) tail_parts.second

  pub tail_indent : Holds indent b p
  tail_indent = tail_parts.first

  pub tail_fits : end indent b p + 1 ≤ b.size
  tail_fits = tail_flag.0

  pub tail_end : (tail_view b p).next ≡ end (indent then flag) b p
  tail_end = tail_flag.2 ∙ tail_parts.ends

  pub tail_is : ((indent_says b (tail_view b p).indent, (tail_view b p).before) ≡ H.found) × MaybeHolds string b (tail_view b p).indent
  unfolding tail_indent
  tail_is =
      let i = indent_stands b p tail_indent in (
        ap (λ x. (x, flag_at b (end indent b p))) (sym i.is ∙ value_is none tail_indent ∙ tail_parts.one)
            ∙ ap (λ f. (H.found.0, f)) (tail_flag.1 ∙ tail_parts.other),
        i.parts,
      )

-- a bit and a body
module _ (t : Layout rule.Template) (b : Bits) (p : ℕ) (H : Holds (maybe_body t) b p) where
  pub maybe_fits : p + 1 ≤ b.size
  maybe_fits = tag_fits maybe_out maybe_make 1 (option_kinds t) b p H

  pub maybe_none : field b 1 p ≡ 0 → (p + 1 ≡ end (maybe_body t) b p) × (rule.no_body ≡ H.found)
  maybe_none e = kind_stood maybe_out maybe_make 1 (option_kinds t) b p H 0 (inl tt) (λ q. refl) e

  pub maybe_some : field b 1 p ≡ 1 → Same t b (p + 1) (λ x. rule.body x ≡ H.found) (end (maybe_body t) b p)
  maybe_some e = kind_holds maybe_out maybe_make 1 (option_kinds t) b p H 1 t (λ x. inr (inl x)) (option_1 t) e

  pub maybe_there : (field b 1 p ≡ 0 → ⊥) → field b 1 p ≡ 1
  maybe_there h = at (field b 1 p) refl h
    where
      at : (k : ℕ) → field b 1 p ≡ k → (k ≡ 0 → ⊥) → k ≡ 1
      at zero e h = absurd (h refl)
      at (suc zero) e h = refl
      at (suc (suc k)) e h = kind_never maybe_out maybe_make 1 (option_kinds t) b p H (suc (suc k)) (λ q. refl) e

pub maybe_is : (w d : ℕ) (b : Bits) (p : ℕ) (H : Holds (maybe_body (body w d)) b p)
    → (body_says w d b (maybe_view b p) ≡ H.found) × MaybeHolds (body w d) b (maybe_view b p)
maybe_is w d b p H = at (field b 1 p) refl
  where
    at : (k : ℕ) → field b 1 p ≡ k → (body_says w d b (maybe_of (p + 1) k) ≡ H.found) × MaybeHolds (body w d) b (maybe_of (p + 1) k)
    at zero e = ((maybe_none (body w d) b p H e).1, tt)
    at (suc k) e =
        let f : field b 1 p ≡ 1 = maybe_there (body w d) b p H (λ z. let y : ◌≡◌ {A = ℕ} 0 1 = cc in absurd (omega arith)) in
        let m = maybe_some (body w d) b p H f in
        (ap rule.body (value_is rule.tnil m.inner) ∙ m.is, m.inner)

-- Elements: the rows behind each kind

module _ (w d : ℕ) (b : Bits) (p : ℕ) (H : Holds (element_of (call_of (param d)) (body w d)) b p) where
  abbrev C : Layout rule.Call
  C = call_of (param d)

  abbrev T : Layout rule.Template
  T = body w d

  abbrev E : Layout rule.TemplateElement
  E = element_of C T

  pub element_fits : p + 4 ≤ b.size
  element_fits = tag_fits element_out element_make 4 (element_kinds C T) b p H

  pub raw_string_holds : field b 4 p ≡ 0 → Same string b (p + 4) (λ s. rule.raw_string s ≡ H.found) (end E b p)
  raw_string_holds e = kind_holds element_out element_make 4 (element_kinds C T) b p H 0 string inl (element_0 C T) e

  pub html_holds : field b 4 p ≡ 1 → Same (written C T) b (p + 4) (λ x. rule.html_expression x.0 x.1 ≡ H.found) (end E b p)
  html_holds e = kind_holds element_out element_make 4 (element_kinds C T) b p H 1 (written C T) (λ x. inr (inl x)) (element_1 C T) e

  pub expression_holds : field b 4 p ≡ 2 → Same (written C T) b (p + 4) (λ x. rule.expression x.0 x.1 ≡ H.found) (end E b p)
  expression_holds e = kind_holds element_out element_make 4 (element_kinds C T) b p H 2 (written C T) (λ x. inr (inr (inl x))) (element_2 C T) e

  pub helper_holds : field b 4 p ≡ 3
      → Same (block C T) b (p + 4) (λ x. rule.helper_block x.0 x.1.0 x.1.1.0 x.1.1.1.0 x.1.1.1.1 ≡ H.found) (end E b p)
  helper_holds e = kind_holds element_out element_make 4 (element_kinds C T) b p H 3 (block C T) (λ x. inr (inr (inr (inl x)))) (element_3 C T) e

  pub decorator_holds : field b 4 p ≡ 4 → Same (bodiless C T) b (p + 4) (λ x. rule.decorator_expression x.0 x.1.0 x.1.1 ≡ H.found) (end E b p)
  decorator_holds e = kind_holds element_out element_make 4 (element_kinds C T) b p H 4 (bodiless C T) (λ x. inr (inr (inr (inr (inl x))))) (element_4 C T) e

  pub decorator_block_holds : field b 4 p ≡ 5
      → Same (bodied C T) b (p + 4) (λ x. rule.decorator_block x.0 x.1.0 x.1.1.0 x.1.1.1 ≡ H.found) (end E b p)
  decorator_block_holds e =
      kind_holds element_out element_make 4 (element_kinds C T) b p H 5 (bodied C T) (λ x. inr (inr (inr (inr (inr (inl x)))))) (element_5 C T) e

  pub partial_holds : field b 4 p ≡ 6 → Same (bodiless C T) b (p + 4) (λ x. rule.partial_expression x.0 x.1.0 x.1.1 ≡ H.found) (end E b p)
  partial_holds e =
      kind_holds element_out element_make 4 (element_kinds C T) b p H 6 (bodiless C T) (λ x. inr (inr (inr (inr (inr (inr (inl x))))))) (element_6 C T) e

  pub partial_block_holds : field b 4 p ≡ 7
      → Same (bodied C T) b (p + 4) (λ x. rule.partial_block x.0 x.1.0 x.1.1.0 x.1.1.1 ≡ H.found) (end E b p)
  partial_block_holds e =
      kind_holds element_out element_make 4 (element_kinds C T) b p H 7 (bodied C T) (λ x. inr (inr (inr (inr (inr (inr (inr (inl x)))))))) (element_7 C T) e

  pub comment_holds : field b 4 p ≡ 8 → Same string b (p + 4) (λ s. rule.comment s ≡ H.found) (end E b p)
  comment_holds e =
      kind_holds element_out element_make 4 (element_kinds C T) b p H 8 string (λ x. inr (inr (inr (inr (inr (inr (inr (inr (inl x))))))))) (element_8 C T) e

  pub element_never : {X : Type 0} (k : ℕ) → field b 4 p ≡ suc (suc (suc (suc (suc (suc (suc (suc (suc k)))))))) → X
  element_never k e =
      kind_never element_out element_make 4 (element_kinds C T) b p H (suc (suc (suc (suc (suc (suc (suc (suc (suc k))))))))) (λ q. refl) e

-- The rows of parts: a call and a flag, a call and a tail, a call, a body and a tail, a block

module _ (w d : ℕ) (b : Bits) (q : ℕ) where
  pub record FlaggedHolds (x : rule.Call × Bool) (z : ℕ) : Type 0 where
    pub call : Holds (call_of (param d)) b q
    pub fits : call_end d b q + 1 ≤ b.size
    pub ends : call_end d b q + 1 ≡ z
    pub is : (call.found, flag_at b (call_end d b q)) ≡ x

  pub written_holds : (H : Holds (written (call_of (param d)) (body w d)) b q) → FlaggedHolds H.found (end (written (call_of (param d)) (body w d)) b q)
  written_holds H =
      let t = then_holds (call_of (param d)) flag b q H in
      let f = flag_holds b (call_end d b q) t.second in
      record { call = t.first; fits = f.0; ends = f.2 ∙ t.ends; is = rw (f.1, t.one, t.other) }

  pub record BodilessHolds (x : rule.Call × TailShape) (z : ℕ) : Type 0 where
    pub call : Holds (call_of (param d)) b q
    pub tail : Holds (indent then flag) b (call_end d b q)
    pub ends : end (indent then flag) b (call_end d b q) ≡ z
    pub is : (call.found, tail.found) ≡ x

  pub bodiless_holds : (H : Holds (bodiless (call_of (param d)) (body w d)) b q) → BodilessHolds H.found (end (bodiless (call_of (param d)) (body w d)) b q)
  bodiless_holds H =
      let t = then_holds (call_of (param d)) (indent then flag) b q H in
      record { call = t.first; tail = t.second; ends = t.ends; is = rw (t.one, t.other) }

  pub record BodiedHolds (x : rule.Call × (rule.Template × TailShape)) (z : ℕ) : Type 0 where
    pub call : Holds (call_of (param d)) b q
    pub template : Holds (body w d) b (call_end d b q)
    pub tail : Holds (indent then flag) b (body_end w d b q)
    pub ends : end (indent then flag) b (body_end w d b q) ≡ z
    pub is : (call.found, (template.found, tail.found)) ≡ x

  pub bodied_holds : (H : Holds (bodied (call_of (param d)) (body w d)) b q) → BodiedHolds H.found (end (bodied (call_of (param d)) (body w d)) b q)
  bodied_holds H =
      let t = then_holds (call_of (param d)) (body w d then indent then flag) b q H in
      let u = then_holds (body w d) (indent then flag) b (call_end d b q) t.second in
      record { call = t.first; template = u.first; tail = u.second; ends = u.ends ∙ t.ends; is = rw (t.one, u.one, u.other, t.other) }

  pub record BlockHolds (x : rule.Call × (rule.BlockParam × (rule.Body × (rule.Body × Bool)))) (z : ℕ) : Type 0 where
    pub call : Holds (call_of (param d)) b q
    pub names : Holds block_names b (call_end d b q)
    pub template : Holds (maybe_body (body w d)) b (names_end w d b q)
    pub inverse : Holds (maybe_body (body w d)) b (template_end w d b q)
    pub fits : inverse_end w d b q + 1 ≤ b.size
    pub ends : inverse_end w d b q + 1 ≡ z
    pub is : (call.found, (names.found, (template.found, (inverse.found, flag_at b (inverse_end w d b q))))) ≡ x

  pub block_holds : (H : Holds (block (call_of (param d)) (body w d)) b q) → BlockHolds H.found (end (block (call_of (param d)) (body w d)) b q)
  block_holds H =
      let m = maybe_body (body w d) in
      let t = then_holds (call_of (param d)) (block_names then m then m then flag) b q H in
      let u = then_holds block_names (m then m then flag) b (call_end d b q) t.second in
      let v = then_holds m (m then flag) b (names_end w d b q) u.second in
      let x = then_holds m flag b (template_end w d b q) v.second in
      let f = flag_holds b (inverse_end w d b q) x.second in
      record {
        call = t.first;
        names = u.first;
        template = v.first;
        inverse = x.first;
        fits = f.0;
        ends = f.2 ∙ x.ends ∙ v.ends ∙ u.ends ∙ t.ends;
        is = rw (f.1, t.one, u.one, v.one, x.one, x.other, v.other, u.other, t.other);
      }

-- The view of an element says what it is, and its parts stand

module _ (w d : ℕ) (b : Bits) (p : ℕ) (H : Holds (element_of (call_of (param d)) (body w d)) b p) where
  abbrev Said : Element → Type 0
  Said v = (element_says w d b v ≡ H.found) × ElementHolds w d b v

  said_call : {c : rule.Call} (q : ℕ) (h : Holds (call_of (param d)) b q) → h.found ≡ c → call_at d b q ≡ c
  said_call q h e = value_is (rule.call (rule.name []) rule.pnil rule.hnil) h ∙ e

  written_said : {x : rule.Call × Bool} {z : ℕ} (f : rule.Call → Bool → rule.TemplateElement) (m : FlaggedHolds w d b (p + 4) x z) → f x.0 x.1 ≡ H.found
      → f (call_at d b (p + 4)) (flag_at b (call_end d b (p + 4))) ≡ H.found
  written_said f m e =
      rw (value_is (rule.call (rule.name []) rule.pnil rule.hnil) m.call) (ap (λ y. f y.0 y.1) m.is ∙ e)

  bodiless_said : {x : rule.Call × TailShape} {z : ℕ} (f : rule.Call → Option Bytes → Bool → rule.TemplateElement) (m : BodilessHolds w d b (p + 4) x z)
      → f x.0 x.1.0 x.1.1 ≡ H.found
      → (f (call_at d b (p + 4)) (indent_says b (tail_view b (call_end d b (p + 4))).indent) (tail_view b (call_end d b (p + 4))).before ≡ H.found)
      × (Holds (call_of (param d)) b (p + 4) × MaybeHolds string b (tail_view b (call_end d b (p + 4))).indent)
  bodiless_said f m e =
      let t = tail_is b (call_end d b (p + 4)) m.tail in (
        rw (value_is (rule.call (rule.name []) rule.pnil rule.hnil) m.call) (ap (λ y. f m.call.found y.0 y.1) t.0 ∙ ap (λ y. f y.0 y.1.0 y.1.1) m.is ∙ e),
        (m.call, t.1),
      )

  bodied_said : {x : rule.Call × (rule.Template × TailShape)} {z : ℕ} (f : rule.Call → rule.Template → Option Bytes → Bool → rule.TemplateElement)
      (m : BodiedHolds w d b (p + 4) x z) → f x.0 x.1.0 x.1.1.0 x.1.1.1 ≡ H.found
      → (f (call_at d b (p + 4)) (template_at w d b (call_end d b (p + 4))) (indent_says b (tail_view b (body_end w d b (p + 4))).indent) (tail_view b (body_end w d b (p + 4))).before ≡ H.found)
      × (Holds (call_of (param d)) b (p + 4) × Holds (body w d) b (call_end d b (p + 4)) × MaybeHolds string b (tail_view b (body_end w d b (p + 4))).indent)
  bodied_said f m e =
      let t = tail_is b (body_end w d b (p + 4)) m.tail in (
        rw (value_is (rule.call (rule.name []) rule.pnil rule.hnil) m.call, value_is rule.tnil m.template)
            (ap (λ y. f m.call.found m.template.found y.0 y.1) t.0 ∙ ap (λ y. f y.0 y.1.0 y.1.1.0 y.1.1.1) m.is ∙ e),
        (m.call, m.template, t.1),
      )

  block_said : {x : rule.Call × (rule.BlockParam × (rule.Body × (rule.Body × Bool)))} {z : ℕ} (m : BlockHolds w d b (p + 4) x z)
      → rule.helper_block x.0 x.1.0 x.1.1.0 x.1.1.1.0 x.1.1.1.1 ≡ H.found → Said (kind_view w d b (p + 4) 3)
  block_said m e =
      let t = maybe_is w d b (names_end w d b (p + 4)) m.template in
      let i = maybe_is w d b (template_end w d b (p + 4)) m.inverse in (
        rw (value_is (rule.call (rule.name []) rule.pnil rule.hnil) m.call, value_is rule.no_names m.names, t.0, i.0)
            (ap (λ y. rule.helper_block y.0 y.1.0 y.1.1.0 y.1.1.1.0 y.1.1.1.1) m.is ∙ e),
        (m.call, m.names, t.1, i.1),
      )

  pub element_is : Said (content_view w d b p).element
  element_is = at (field b 4 p) refl
    where
      at : (k : ℕ) → field b 4 p ≡ k → Said (kind_view w d b (p + 4) k)
      at zero e = let m = raw_string_holds w d b p H e in (ap rule.raw_string (string_found b (p + 4) m.inner) ∙ m.is, m.inner)
      at (suc zero) e =
          let m = html_holds w d b p H e in
          let r = written_holds w d b (p + 4) m.inner in
          (written_said rule.html_expression r m.is, r.call)
      at (suc (suc zero)) e =
          let m = expression_holds w d b p H e in
          let r = written_holds w d b (p + 4) m.inner in
          (written_said rule.expression r m.is, r.call)
      at (suc (suc (suc zero))) e = let m = helper_holds w d b p H e in block_said (block_holds w d b (p + 4) m.inner) m.is
      at (suc (suc (suc (suc zero)))) e = let m = decorator_holds w d b p H e in bodiless_said rule.decorator_expression (bodiless_holds w d b (p + 4) m.inner) m.is
      at (suc (suc (suc (suc (suc zero))))) e =
          let m = decorator_block_holds w d b p H e in bodied_said rule.decorator_block (bodied_holds w d b (p + 4) m.inner) m.is
      at (suc (suc (suc (suc (suc (suc zero)))))) e =
          let m = partial_holds w d b p H e in bodiless_said rule.partial_expression (bodiless_holds w d b (p + 4) m.inner) m.is
      at (suc (suc (suc (suc (suc (suc (suc zero))))))) e =
          let m = partial_block_holds w d b p H e in bodied_said rule.partial_block (bodied_holds w d b (p + 4) m.inner) m.is
      at (suc (suc (suc (suc (suc (suc (suc (suc zero)))))))) e =
          let m = comment_holds w d b p H e in (ap rule.comment (string_found b (p + 4) m.inner) ∙ m.is, m.inner)
      at (suc (suc (suc (suc (suc (suc (suc (suc (suc k))))))))) e = element_never w d b p H k e
