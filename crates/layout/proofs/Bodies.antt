-- Bodies and elements: a row of parts for each kind, and the elements of a body one by one.
use Prim.Native.Nat.{ℕ, suc, ◌-◌, ◌<◌}
use mathlib.Core.Bool.{Bool, false, ◌||◌}
use mathlib.Core.List.{List}
use mathlib.Core.Logic.{inl, inr}
use mathlib.Core.Path.{◌≡◌, refl, sym, ap, ◌∙◌}
use native.Mathlib.Omega.{arith}
use Rattle.rules.specs.Template.{Call, Template, Body, BlockParam}
use Rattle.rules.specs.Bits.{Bits}
use Rattle.rules.specs.Layout.{Layout, num, ◌then◌, dec_all, counted}
use Rattle.rules.specs.Bundle.{string, flag, call_of, param, block_names, maybe_out, maybe_make, maybe_body, indent, Tail, element_out, element_make}
use Rattle.rules.specs.Bundle.{element_of, Placed, body_out, body_make, placed, body, call_context, maybe_context, element_context, body_context}
use Rattle.layout.specs.Walk.{Place, At, Broken, from, past, unmarked, after, number_at, ahead}
use Rattle.layout.specs.WalkLaws.{or_false, past_shaped, past_ext, past_then, after_num, counted_is, kind_is, kind_stays, kind_none}
use Rattle.layout.specs.Arms.{option_kinds, option_1, written, block, bodiless, bodied, element_kinds}
use Rattle.layout.specs.Arms.{element_0, element_1, element_2, element_3, element_4, element_5, element_6, element_7, element_8}

-- A bit, and a body if it is 1

module _ (t : Layout Template) (b : Bits) (p q : Place) (n : ℕ) (hn : n ≡ number_at b 1 p) (hq : q ≡ ahead b 1 p) where
  pub maybe_none : n ≡ 0 → q ≡ past maybe_context (maybe_body t) b p
  maybe_none e = kind_stays maybe_context maybe_out maybe_make 1 (option_kinds t) b p q n hn hq 0 (inl tt) (λ q. refl) refl e

  pub maybe_some : n ≡ 1 → past body_context t b q ≡ past maybe_context (maybe_body t) b p
  maybe_some e = kind_is maybe_context maybe_out maybe_make 1 (option_kinds t) b p q n hn hq 1 t (λ x. inr (inl x)) (option_1 t) e

  pub maybe_other : 1 < n → Broken ≡ past maybe_context (maybe_body t) b p
  maybe_other h = kind_none maybe_context maybe_out maybe_make 1 (option_kinds t) b p q n hn hq (suc (suc (n - 2))) (λ q. refl) (omega arith)

-- Elements

module _ (c : Layout Call) (t : Layout Template) (b : Bits) where
  written_row : (p : Place) → after flag b (after c b p) ≡ after (written c t) b p
  written_row p = sym (past_then unmarked unmarked c flag b p)

  -- f marks the call
  bodiless_row : (f : Call → Bool) (p : Place) → after (indent then flag) b (past f c b p) ≡ past (λ (x : Call × Tail). f x.0) (bodiless c t) b p
  bodiless_row f p =
      sym (past_ext (λ (x : Call × Tail). f x.0) (λ x. f x.0 || false) (bodiless c t) b p (λ x. or_false (f x.0))
      ∙ past_then f unmarked c (indent then flag) b p)

  bodied_row : (f : Call → Bool) (p : Place)
      → after (indent then flag) b (past body_context t b (past f c b p)) ≡ past (λ (x : Call × (Template × Tail)). f x.0 || body_context x.1.0) (bodied c t) b p
  bodied_row f p =
      sym (past_ext _ (λ (x : Call × (Template × Tail)). f x.0 || (body_context x.1.0 || false)) (bodied c t) b p
      (λ x. ap (λ s. f x.0 || s) (or_false (body_context x.1.0)))
      ∙ past_then f (λ (y : Template × Tail). body_context y.0 || false) c (t then indent then flag) b p
      ∙ past_then body_context unmarked t (indent then flag) b (past f c b p))

  block_row : (p : Place)
      → after flag b (past maybe_context (maybe_body t) b (past maybe_context (maybe_body t) b (after block_names b (after c b p))))
      ≡ past (λ (x : Call × (BlockParam × (Body × (Body × Bool)))). maybe_context x.1.1.0 || maybe_context x.1.1.1.0) (block c t) b p
  block_row p =
      let m = maybe_body t in
      sym (past_ext _ (λ (x : Call × (BlockParam × (Body × (Body × Bool)))). maybe_context x.1.1.0 || (maybe_context x.1.1.1.0 || false)) (block c t) b p
      (λ x. ap (λ s. maybe_context x.1.1.0 || s) (or_false (maybe_context x.1.1.1.0)))
      ∙ past_then unmarked (λ (y : BlockParam × (Body × (Body × Bool))). maybe_context y.1.0 || (maybe_context y.1.1.0 || false)) c
      (block_names then m then m then flag) b p
      ∙ past_then unmarked (λ (y : Body × (Body × Bool)). maybe_context y.0 || (maybe_context y.1.0 || false)) block_names (m then m then flag) b (after c b p)
      ∙ past_then maybe_context (λ (y : Body × Bool). maybe_context y.0 || false) m (m then flag) b (after block_names b (after c b p))
      ∙ past_then maybe_context unmarked m flag b (past maybe_context m b (after block_names b (after c b p))))

  module _ (p q : Place) (n : ℕ) (hn : n ≡ number_at b 4 p) (hq : q ≡ ahead b 4 p) where
    abbrev Whole : Place
    Whole = past element_context (element_of c t) b p

    pub raw_string_is : n ≡ 0 → after string b q ≡ Whole
    raw_string_is e = kind_is element_context element_out element_make 4 (element_kinds c t) b p q n hn hq 0 string inl (element_0 c t) e

    pub html_is : n ≡ 1 → after flag b (after c b q) ≡ Whole
    html_is e =
        written_row q ∙ kind_is element_context element_out element_make 4 (element_kinds c t) b p q n hn hq 1 (written c t) (λ x. inr (inl x)) (element_1 c t) e

    pub expression_is : n ≡ 2 → after flag b (after c b q) ≡ Whole
    expression_is e =
        written_row q
        ∙ kind_is element_context element_out element_make 4 (element_kinds c t) b p q n hn hq 2 (written c t) (λ x. inr (inr (inl x))) (element_2 c t) e

    pub helper_is : n ≡ 3
        → after flag b (past maybe_context (maybe_body t) b (past maybe_context (maybe_body t) b (after block_names b (after c b q)))) ≡ Whole
    helper_is e =
        block_row q
        ∙ kind_is element_context element_out element_make 4 (element_kinds c t) b p q n hn hq 3 (block c t) (λ x. inr (inr (inr (inl x)))) (element_3 c t) e

    pub decorator_is : n ≡ 4 → after (indent then flag) b (after c b q) ≡ Whole
    decorator_is e =
        bodiless_row unmarked q
        ∙ kind_is element_context element_out element_make 4 (element_kinds c t) b p q n hn hq 4 (bodiless c t) (λ x. inr (inr (inr (inr (inl x))))) (element_4 c t) e

    pub decorator_block_is : n ≡ 5 → after (indent then flag) b (past body_context t b (after c b q)) ≡ Whole
    decorator_block_is e =
        bodied_row unmarked q
        ∙ kind_is element_context element_out element_make 4 (element_kinds c t) b p q n hn hq 5 (bodied c t) (λ x. inr (inr (inr (inr (inr (inl x)))))) (element_5 c t) e

    pub partial_is : n ≡ 6 → after (indent then flag) b (past call_context c b q) ≡ Whole
    partial_is e =
        bodiless_row call_context q
        ∙ kind_is element_context element_out element_make 4 (element_kinds c t) b p q n hn hq 6 (bodiless c t) (λ x. inr (inr (inr (inr (inr (inr (inl x)))))))
        (element_6 c t) e

    pub partial_block_is : n ≡ 7 → after (indent then flag) b (past body_context t b (past call_context c b q)) ≡ Whole
    partial_block_is e =
        bodied_row call_context q
        ∙ kind_is element_context element_out element_make 4 (element_kinds c t) b p q n hn hq 7 (bodied c t)
        (λ x. inr (inr (inr (inr (inr (inr (inr (inl x)))))))) (element_7 c t) e

    pub comment_is : n ≡ 8 → after string b q ≡ Whole
    comment_is e =
        kind_is element_context element_out element_make 4 (element_kinds c t) b p q n hn hq 8 string
        (λ x. inr (inr (inr (inr (inr (inr (inr (inr (inl x))))))))) (element_8 c t) e

    pub element_other : 8 < n → Broken ≡ Whole
    element_other h =
        kind_none element_context element_out element_make 4 (element_kinds c t) b p q n hn hq
        (suc (suc (suc (suc (suc (suc (suc (suc (suc (n - 9)))))))))) (λ q. refl) (omega arith)

-- Bodies, at a depth that is left

pub body_deep : (w d : ℕ) (b : Bits) (p : Place) → d ≡ 0 → Broken ≡ past body_context (body w d) b p
body_deep w d b p e = rw e (none p)
  where
    none : (p : Place) → Broken ≡ past body_context (body w 0) b p
    none (At p s) = refl
    none Broken = refl

abbrev pub elements_context : List Placed → Bool
elements_context l = body_context (body_make l)

abbrev pub placed_context : Placed → Bool
placed_context x = element_context x.1.1

-- an element of a body at the depth d
abbrev pub in_body : ℕ → ℕ → Layout Placed
in_body w d = placed w (call_of (param (d - 1))) (body w (d - 1))

pub placed_is : (w : ℕ) (c : Layout Call) (t : Layout Template) (b : Bits) (p : Place)
    → past element_context (element_of c t) b (ahead b w (ahead b w p)) ≡ past placed_context (placed w c t) b p
placed_is w c t b p =
    sym (past_then unmarked (λ y. element_context y.1) (num w) (num w then element_of c t) b p
    ∙ past_then unmarked element_context (num w) (element_of c t) b (after (num w) b p)
    ∙ ap (past element_context (element_of c t) b) (after_num w b (after (num w) b p) ∙ ap (ahead b w) (after_num w b p)))

pub body_is : (w d : ℕ) (b : Bits) (p q : Place) (n : ℕ) → (d ≡ 0 → ⊥) → n ≡ number_at b 12 p → q ≡ ahead b 12 p
    → from elements_context (dec_all (in_body w d) n b) q ≡ past body_context (body w d) b p
body_is w d b p q n h hn hq =
    let e : suc (d - 1) ≡ d = omega arith in
    counted_is elements_context 12 (in_body w d) b p q n hn hq
    ∙ sym (past_shaped body_context body_out body_make (counted 12 (in_body w d)) b p)
    ∙ ap (λ (d : ℕ). past body_context (body w d) b p) e
