-- The text of a list, value by value.
use Prim.Native.Nat.{ℕ, zero, suc, ◌+◌, ◌≤◌, ◌<◌}
use mathlib.Core.Bool.{Bool, true, false}
use mathlib.Core.List.{List, [], ◌∷◌, ◌++◌, append_assoc}
use mathlib.Core.Option.{Option, none, some}
use mathlib.Core.Path.{◌≡◌, refl, sym, ap, ap₂, ◌∙◌, subst}
use native.Mathlib.Omega.{arith}
use lib.Dec.{ltb}
use lib.ListN.{length, get_elem?, drop}
use borrow.Author.Tests.{ltb-true, ltb-false}
use Rattle.rules.specs.Bytes.{Bytes, maybe}
use Rattle.rules.specs.Json.{Json, jnull, jbool, jpos, jneg, jstr, jarr, jobj, Jsons, jnil, jcons, get_item}
use Rattle.rules.specs.Plan.{answer}
use Rattle.rules.specs.Value.{render, render_all}
use Rattle.places.specs.Places.{places, tree_at, json_at, children, items_from, value_at}
use Rattle.places.specs.Kinds.{items_of}
use Rattle.places.specs.Nodes.{size_positive}
use Rattle.places.specs.Children.{end_at, Walk, Child, is_child, child_walk, walk_child, walk_on, walk_end, none_some, some_eq}
use Rattle.places.specs.Items.{list_item, list_rest}
use Rattle.value.specs.declared.Value.{Value}
use Rattle.value.specs.declared.Value.TheVariants.{Place}
use Rattle.meaning.specs.Standing.{Stands, plain}
use Rattle.meaning.specs.MeaningLaws.{plain_is}
use Rattle.meaning.specs.Means.{Means}
use Rattle.print.specs.Printed.{IsList}

-- what the value at a place prints, by what holds of it whatever the entries
pub means_place : (s b : Bytes) (P : Json → Type 0) (c : ℕ) → c < places s → Means s b (Place c) P → P (json_at s c)
means_place s b P c lt m = subst P (plain_is s b [] (Place c) refl) (m.at [] 0 (plain refl lt))

-- A list weighs more than each value in it: the measure of code that goes down

abbrev mutual
  pub weight : Json → ℕ
  weight jnull = 0
  weight (jbool b) = 0
  weight (jpos n) = 0
  weight (jneg n) = 0
  weight (jstr w) = 0
  weight (jarr l) = suc (weights l)
  weight (jobj m) = 0

  pub weights : Jsons → ℕ
  weights jnil = 0
  weights (jcons j l) = weight j + weights l

item_weight : (l : Jsons) (k : ℕ) (j : Json) → get_item l k ≡ some j → weight j ≤ weights l
item_weight jnil k j h = none_some h
item_weight (jcons x l) zero j h = let e = ap weight (some_eq h) in omega arith
item_weight (jcons x l) (suc k) j h = let i = item_weight l k j h in omega arith

module _ (s : Bytes) (h : answer s ≡ 0) (i : ℕ) (lt : i < places s) where
  -- the next one stands behind
  pub next_behind : (k c d : ℕ) → get_elem? (children s i) k ≡ some c → get_elem? (children s i) (suc k) ≡ some d → c < d
  next_behind k c d p q =
      let w = child_walk s i k c h lt p in
      let v = walk_on s i k c w.0 w.1 in
      at (ltb (end_at s c) (end_at s i)) refl v
    where
      more : c < end_at s c
      more = omega (arith, size_positive (tree_at s c))

      at : (t : Bool) → ltb (end_at s c) (end_at s i) ≡ t → Walk s i (suc k) (end_at s c) → c < d
      at true e v =
          let r : end_at s c ≡ d = some_eq (sym (walk_child s i (suc k) (end_at s c) v (ltb-true _ _ e)).is ∙ q) in
          omega (arith, more)
      at false e v =
          let n = sym (walk_end s i (suc k) (end_at s c) v (ltb-false _ _ e)) ∙ (is_child s i (suc k) d h lt q).others in
          let z : ◌≡◌ {A = ℕ} 0 1 = cc in
          absurd (omega arith)

  module _ (e : IsList (json_at s i)) where
    abbrev items : Jsons
    items = items_of (json_at s i)

    pub child_weight : (k c : ℕ) → get_elem? (children s i) k ≡ some c → weight (json_at s c) < weight (json_at s i)
    child_weight k c q =
        let w = item_weight items k (json_at s c) (list_item s h i lt items e k ∙ ap (value_at s) q) in
        omega (arith, ap weight e)

    -- what is left to print behind k values
    abbrev pub left_text : ℕ → Bytes
    left_text k = render_all (items_from k items) ++ (93 ∷ [])

    whole : render (json_at s i) ≡ (91 ∷ []) ++ left_text 0
    whole = ap render e

    none_left : (k : ℕ) → get_elem? (children s i) k ≡ none → left_text k ≡ 93 ∷ []
    none_left k q = ap (λ (x : Jsons). render_all x ++ (93 ∷ [])) (list_rest s h i lt items e k ∙ ap (λ (x : Option ℕ). maybe x jnil (λ c. jcons (json_at s c) (items_from (suc k) items))) q)

    first_left : (k c : ℕ) → get_elem? (children s i) k ≡ some c → items_from k items ≡ jcons (json_at s c) (items_from (suc k) items)
    first_left k c q = list_rest s h i lt items e k ∙ ap (λ (x : Option ℕ). maybe x jnil (λ c. jcons (json_at s c) (items_from (suc k) items))) q

    last_left : (k c : ℕ) → get_elem? (children s i) k ≡ some c → get_elem? (children s i) (suc k) ≡ none → left_text k ≡ render (json_at s c) ++ (93 ∷ [])
    last_left k c p q =
        ap (λ (x : Jsons). render_all x ++ (93 ∷ [])) (first_left k c p ∙ ap (jcons (json_at s c)) (list_rest s h i lt items e (suc k) ∙ ap (λ (x : Option ℕ). maybe x jnil (λ c. jcons (json_at s c) (items_from (suc (suc k)) items))) q))

    more_left : (k c d : ℕ) → get_elem? (children s i) k ≡ some c → get_elem? (children s i) (suc k) ≡ some d
        → left_text k ≡ render (json_at s c) ++ ((44 ∷ 32 ∷ []) ++ left_text (suc k))
    more_left k c d p q =
        let r = first_left (suc k) d q in
        ap (λ (x : Jsons). render_all x ++ (93 ∷ [])) (first_left k c p ∙ ap (jcons (json_at s c)) r)
        ∙ append_assoc (render (json_at s c)) _ (93 ∷ [])
        ∙ ap (λ (x : Jsons). render (json_at s c) ++ ((44 ∷ 32 ∷ []) ++ (render_all x ++ (93 ∷ [])))) (sym r)

    -- what texts do, one by one, to a state: they are printed, or stripped
    module _ (S : Type 0) (act : Bytes → S → S) (act-append : (u v : Bytes) (o : S) → act (u ++ v) o ≡ act v (act u o)) where
      -- c is the next value; o is the state, and o₀ was it behind the bracket
      pub record Left (c : ℕ) (o o₀ : S) : Type 0 where
        pub number : ℕ
        pub at : get_elem? (children s i) number ≡ some c
        pub text : act (left_text number) o ≡ act (left_text 0) o₀

      pub left_within : (c : ℕ) (o o₀ : S) → Left c o o₀ → c < places s
      left_within c o o₀ l = (is_child s i l.number c h lt l.at).within

      pub left_weight : (c : ℕ) (o o₀ : S) → Left c o o₀ → weight (json_at s c) < weight (json_at s i)
      left_weight c o o₀ l = child_weight l.number c l.at

      pub left_start : (c : ℕ) (o : S) → some c ≡ get_elem? (children s i) 0 → Left c o o
      left_start c o q = record { number = 0; at = sym q; text = refl }

      -- the whole, from what comes behind the bracket
      pub list_is : (o o₀ o' : S) → o₀ ≡ act (91 ∷ []) o → o' ≡ act (left_text 0) o₀ → o' ≡ act (render (json_at s i)) o
      list_is o o₀ o' p q =
          q ∙ ap (act (left_text 0)) p ∙ sym (act-append (91 ∷ []) (left_text 0) o)
          ∙ ap (λ (x : Bytes). act x o) (sym whole)

      pub list_none : (o o₀ o' : S) → none ≡ get_elem? (children s i) 0 → o₀ ≡ act (91 ∷ []) o → o' ≡ act (93 ∷ []) o₀
          → o' ≡ act (render (json_at s i)) o
      list_none o o₀ o' n p q = list_is o o₀ o' p (q ∙ ap (λ (x : Bytes). act x o₀) (sym (none_left 0 (sym n))))

      module _ (c : ℕ) (o o₀ o₁ o₂ : S) (l : Left c o o₀) (p : o₁ ≡ act (render (json_at s c)) o) where
        pub left_end : none ≡ get_elem? (children s i) (suc l.number) → o₂ ≡ act (93 ∷ []) o₁ → o₂ ≡ act (left_text 0) o₀
        left_end n q =
            q ∙ ap (act (93 ∷ [])) p ∙ sym (act-append (render (json_at s c)) (93 ∷ []) o)
            ∙ ap (λ (x : Bytes). act x o) (sym (last_left l.number c l.at (sym n)))
            ∙ l.text

        pub left_on : (d : ℕ) → some d ≡ get_elem? (children s i) (suc l.number) → o₂ ≡ act (44 ∷ 32 ∷ []) o₁ → Left d o₂ o₀
        left_on d n q =
            let r = left_text (suc l.number) in
            record {
              number = suc l.number;
              at = sym n;
              text =
                  ap (act r) (q ∙ ap (act (44 ∷ 32 ∷ [])) p)
                  ∙ sym (act-append (44 ∷ 32 ∷ []) r _)
                  ∙ sym (act-append (render (json_at s c)) ((44 ∷ 32 ∷ []) ++ r) o)
                  ∙ ap (λ (x : Bytes). act x o) (sym (more_left l.number c d l.at (sym n)))
                  ∙ l.text;
            }

      -- where nothing changes the state any more
      pub left_stuck : (c : ℕ) (o o₀ : S) → Left c o o₀ → ((v : Bytes) → act v o ≡ o) → o ≡ act (left_text 0) o₀
      left_stuck c o o₀ l f = sym (f (left_text l.number)) ∙ l.text

      pub left_broken : (c : ℕ) (o o₀ o₁ : S) → Left c o o₀ → o₁ ≡ act (render (json_at s c)) o → ((v : Bytes) → act v o₁ ≡ o₁) → o₁ ≡ act (left_text 0) o₀
      left_broken c o o₀ o₁ l p f = go (get_elem? (children s i) (suc l.number)) refl
        where
          by : (x : Bytes) → left_text l.number ≡ render (json_at s c) ++ x → o₁ ≡ act (left_text 0) o₀
          by x q =
              sym (f x) ∙ ap (act x) p ∙ sym (act-append (render (json_at s c)) x o) ∙ ap (λ (y : Bytes). act y o) (sym q) ∙ l.text

          go : (x : Option ℕ) → get_elem? (children s i) (suc l.number) ≡ x → o₁ ≡ act (left_text 0) o₀
          go none q = by (93 ∷ []) (last_left l.number c l.at q)
          go (some d) q = by ((44 ∷ 32 ∷ []) ++ left_text (suc l.number)) (more_left l.number c d l.at q)

      pub list_broken : (o o₀ : S) → o₀ ≡ act (91 ∷ []) o → ((v : Bytes) → act v o₀ ≡ o₀) → o₀ ≡ act (render (json_at s i)) o
      list_broken o o₀ p f = list_is o o₀ o₀ p (sym (f (left_text 0)))
