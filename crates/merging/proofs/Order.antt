-- Walking a merged object by ascending name: the next member is the one with the least name above the last one's.
use Rattle.std.specs.Prelude.{ℕ, zero, suc, ◌+◌, ◌≤◌, Bool, true, false, List, [], ◌∷◌, ◌++◌, ◌≡◌, refl, length}
use Rattle.std.proofs.Math.Option.{Option, none, some}
use Rattle.std.proofs.Common.{sym, ap, ◌∙◌, arith}
use Rattle.rules.specs.Bytes.{Bytes, digits, pick, same, before}
use Rattle.rules.specs.Order.{differ, same_refl, same_eq, before_irrefl, before_trans, before_total}
use Rattle.rules.specs.Json.{Json, jstr, Jsons, jnil, jcons, Map, mnil, mcons, get_item, get_member, insert, Leads}
use Rattle.rules.specs.Context.{numbered, numbered_chars, base_map, insert_all, merge_json}
use Rattle.merging.specs.Lookup.{count_items, texts}
use Rattle.merging.proofs.Lookup.{insert_all_more, base_merged, numbered_texts, count_texts}
use Rattle.merging.specs.Counting.{Ascends}
use Rattle.merging.proofs.Counting.{before_differ, before_asym}
use Rattle.merging.specs.Order.{is_above, above, first_of, combine, nearer, least_onto, least, with_item, first_items}

-- The members above a name

pub above_none : (m : Map) → above none m ≡ m
above_none mnil = refl
above_none (mcons n j l) = ap (mcons n j) (above_none l)

pub above_trans : (k : Option Bytes) (x y : Bytes) → is_above k x ≡ true → before x y ≡ true → is_above k y ≡ true
above_trans none x y h i = refl
above_trans (some k) x y h i = before_trans k x y h i

-- all are above what is before the first
above_all : (k : Option Bytes) (n : Bytes) (m : Map) → is_above k n ≡ true → Leads n m → Ascends m → above k m ≡ m
above_all k n mnil a h s = refl
above_all k n (mcons p j l) a h s =
    let b = above_trans k n p a h in
    rw b (ap (mcons p j) (above_all k p l b s.0 s.1))

above_leads : (n : Bytes) (m : Map) → Leads n m → Ascends m → above (some n) m ≡ m
above_leads n mnil h s = refl
above_leads n (mcons p j l) h s = rw h (ap (mcons p j) (above_all (some n) p l h s.0 s.1))

some_eq : {a b : Bytes × Json} → some a ≡ some b → a ≡ b
some_eq h = cc

name_eq : (a b : Bytes × Json) → some a ≡ some b → a.0 ≡ b.0
name_eq a b h = ap (λ (x : Bytes × Json). x.0) (some_eq h)

value_eq : (a b : Bytes × Json) → some a ≡ some b → a.1 ≡ b.1
value_eq a b h = ap (λ (x : Bytes × Json). x.1) (some_eq h)

-- a name before all members is before the first of those above k
leads_first : (p : Bytes) (k : Option Bytes) (m : Map) (n : Bytes) (j : Json) → Leads p m → Ascends m → first_of (above k m) ≡ some (n, j) → before p n ≡ true
leads_first p k mnil n j h s e = cc
leads_first p k (mcons q i l) n j h s e = go (is_above k q) e (leads_first q k l n j s.0 s.1)
  where
    go : (a : Bool) → first_of (pick a (mcons q i (above k l)) (above k l)) ≡ some (n, j) → (first_of (above k l) ≡ some (n, j) → before q n ≡ true) → before p n ≡ true
    go true f ih =
        let g : q ≡ n = name_eq (q, i) (n, j) f in
        ap (before p) (sym g) ∙ h
    go false f ih = before_trans p q n h (ih f)

-- The walk

pub first_above : (k : Option Bytes) (m : Map) (n : Bytes) (j : Json) → first_of (above k m) ≡ some (n, j) → is_above k n ≡ true
first_above k mnil n j e = cc
first_above k (mcons q i l) n j e = go (is_above k q) refl e (first_above k l n j)
  where
    go : (a : Bool) → is_above k q ≡ a → first_of (pick a (mcons q i (above k l)) (above k l)) ≡ some (n, j) → (first_of (above k l) ≡ some (n, j) → is_above k n ≡ true)
        → is_above k n ≡ true
    go true b f ih =
        let g : q ≡ n = name_eq (q, i) (n, j) f in
        ap (is_above k) (sym g) ∙ b
    go false b f ih = ih f

-- there is no next one: the walk ends
pub above_end : (k : Option Bytes) (m : Map) → first_of (above k m) ≡ none → above k m ≡ mnil
above_end k m e = go (above k m) e
  where
    go : (l : Map) → first_of l ≡ none → l ≡ mnil
    go mnil f = refl
    go (mcons n j l) f = cc

-- the next one is found: behind it stand those above its name
pub above_next : (k : Option Bytes) (m : Map) (n : Bytes) (j : Json) → Ascends m → first_of (above k m) ≡ some (n, j) → above k m ≡ mcons n j (above (some n) m)
above_next k mnil n j s e = cc
above_next k (mcons p i l) n j s e = go (is_above k p) refl e (above_next k l n j s.1)
  where
    go : (a : Bool) → is_above k p ≡ a → first_of (pick a (mcons p i (above k l)) (above k l)) ≡ some (n, j)
        → (first_of (above k l) ≡ some (n, j) → above k l ≡ mcons n j (above (some n) l))
        → pick a (mcons p i (above k l)) (above k l) ≡ mcons n j (above (some n) (mcons p i l))
    go true b f ih =
        let g : p ≡ n = name_eq (p, i) (n, j) f in
        let d : i ≡ j = value_eq (p, i) (n, j) f in
        rw (← g, ← d, before_irrefl p) (ap (mcons p i) (above_all k p l b s.0 s.1 ∙ sym (above_leads p l s.0 s.1) ∙ ap (λ (x : Bytes). above (some x) l) g))
    go false b f ih = rw (before_asym p n (leads_first p k l n j s.0 s.1 f)) (ih f)

pub above_step : (k : Option Bytes) (m : Map) (n : Bytes) (j : Json) (l : Map) → Ascends m → above k m ≡ mcons n j l → above (some n) m ≡ l
above_step k m n j l s e =
    let f = above_next k m n j s (ap first_of e) in
    cc

-- what stands under the next name is the next value
pub first_get : (k : Option Bytes) (m : Map) (n : Bytes) (j : Json) → Ascends m → first_of (above k m) ≡ some (n, j) → get_member m n ≡ some j
first_get k mnil n j s e = cc
first_get k (mcons p i l) n j s e = go (is_above k p) e (first_get k l n j s.1)
  where
    go : (a : Bool) → first_of (pick a (mcons p i (above k l)) (above k l)) ≡ some (n, j) → (first_of (above k l) ≡ some (n, j) → get_member l n ≡ some j)
        → pick (same p n) (some i) (get_member l n) ≡ some j
    go true f ih =
        let g : p ≡ n = name_eq (p, i) (n, j) f in
        let d : i ≡ j = value_eq (p, i) (n, j) f in
        rw (← g, ← d, same_refl p)
    go false f ih = rw (before_differ p n (leads_first p k l n j s.0 s.1 f)) (ih f)

-- The nearest of several

pub combine_none : (a : Option (Bytes × Json)) → combine a none ≡ a
combine_none none = refl
combine_none (some a) = refl

-- a before c, and b not before c: a before b
before_least : (a b c : Bytes) → before a c ≡ true → before b c ≡ false → before a b ≡ true
before_least a b c h i = go (same b c) refl
  where
    go : (t : Bool) → same b c ≡ t → before a b ≡ true
    go true e = ap (before a) (same_eq b c e) ∙ h
    go false e = before_trans a c b h (before_total b c e i)

-- for a loop from the outermost inwards
pub combine_assoc : (a b c : Option (Bytes × Json)) → combine (combine a b) c ≡ combine a (combine b c)
combine_assoc none b c = refl
combine_assoc (some a) none c = refl
combine_assoc (some a) (some b) none = combine_none (pick (before b.0 a.0) (some b) (some a))
combine_assoc (some a) (some b) (some c) = go (before b.0 a.0) refl (before c.0 b.0) refl (before c.0 a.0) refl
  where
    go : (p : Bool) → before b.0 a.0 ≡ p → (q : Bool) → before c.0 b.0 ≡ q → (r : Bool) → before c.0 a.0 ≡ r
        → combine (pick p (some b) (some a)) (some c) ≡ combine (some a) (pick q (some c) (some b))
    go true h true i r k = rw (i, before_trans c.0 b.0 a.0 i h)
    go true h false i r k = rw (i, h)
    go false h true i r k = refl
    go false h false i true k = differ (sym (before_least c.0 b.0 a.0 k h) ∙ i)
    go false h false i false k = rw (k, h)

pub first_insert : (k : Option Bytes) (x : Bytes) (v : Json) (m : Map) → first_of (above k (insert x v m)) ≡ nearer k x v (first_of (above k m))
first_insert k x v mnil = go (is_above k x)
  where
    go : (a : Bool) → first_of (pick a (mcons x v mnil) mnil) ≡ pick a (some (x, v)) none
    go true = refl
    go false = refl
first_insert k x v (mcons n j l) = go (same x n) refl (before x n) refl (is_above k x) refl (is_above k n) refl (first_insert k x v l)
  where
    go : (a : Bool) → same x n ≡ a → (b : Bool) → before x n ≡ b → (c : Bool) → is_above k x ≡ c → (d : Bool) → is_above k n ≡ d
        → first_of (above k (insert x v l)) ≡ nearer k x v (first_of (above k l))
        → first_of (above k (pick a (mcons x v l) (pick b (mcons x v (mcons n j l)) (mcons n j (insert x v l)))))
        ≡ pick c (combine (some (x, v)) (first_of (pick d (mcons n j (above k l)) (above k l)))) (first_of (pick d (mcons n j (above k l)) (above k l)))
    go true p b q true r true t ih = rw (r, ← same_eq x n p, before_irrefl x)
    go true p b q true r false t ih = differ (sym r ∙ ap (is_above k) (same_eq x n p) ∙ t)
    go true p b q false r true t ih = differ (sym t ∙ ap (is_above k) (sym (same_eq x n p)) ∙ r)
    go true p b q false r false t ih = rw r
    go false p true q true r true t ih = rw (r, before_asym x n q)
    go false p true q true r false t ih = differ (sym (above_trans k x n r q) ∙ t)
    go false p true q false r d t ih = rw (r, t)
    go false p false q true r true t ih = rw (t, before_total x n p q)
    go false p false q true r false t ih = rw t (ih ∙ rw r)
    go false p false q false r true t ih = differ (sym (above_trans k n x t (before_total x n p q)) ∙ r)
    go false p false q false r false t ih = rw t (ih ∙ rw r)

-- The entries of the hash

pub least_more : (k : Option Bytes) (o : Option (Bytes × Json)) (h : List (Bytes × Json)) (e : Bytes × Json) → least_onto k o (h ++ (e ∷ [])) ≡ nearer k e.0 e.1 (least_onto k o h)
least_more k o [] e = refl
least_more k o (f ∷ h) e = least_more k (nearer k f.0 f.1 o) h e

nearer_combine : (k : Option Bytes) (x : Bytes) (v : Json) (o : Option (Bytes × Json)) → nearer k x v o ≡ combine (nearer k x v none) o
nearer_combine k x v o = go (is_above k x)
  where
    go : (a : Bool) → pick a (combine (some (x, v)) o) o ≡ combine (pick a (some (x, v)) none) o
    go true = refl
    go false = refl

pub least_combine : (k : Option Bytes) (o : Option (Bytes × Json)) (h : List (Bytes × Json)) → least_onto k o h ≡ combine (least k h) o
least_combine k o [] = refl
least_combine k o (e ∷ h) =
    least_combine k (nearer k e.0 e.1 o) h ∙ ap (combine (least k h)) (nearer_combine k e.0 e.1 o) ∙ sym (combine_assoc (least k h) (nearer k e.0 e.1 none) o)
    ∙ ap (λ (p : Option (Bytes × Json)). combine p o) (sym (least_combine k (nearer k e.0 e.1 none) h))

pub first_more : (k : Option Bytes) (h : List (Bytes × Json)) (e : Bytes × Json) (m : Map)
    → first_of (above k (insert_all (h ++ (e ∷ [])) m)) ≡ nearer k e.0 e.1 (first_of (above k (insert_all h m)))
first_more k h e m = ap (λ (n : Map). first_of (above k n)) (insert_all_more h e m) ∙ first_insert k e.0 e.1 (insert_all h m)

pub first_onto : (k : Option Bytes) (h : List (Bytes × Json)) (m : Map) → first_of (above k (insert_all h m)) ≡ least_onto k (first_of (above k m)) h
first_onto k [] m = refl
first_onto k (e ∷ h) m = first_onto k h (insert e.0 e.1 m) ∙ ap (λ (o : Option (Bytes × Json)). least_onto k o h) (first_insert k e.0 e.1 m)

pub first_merged : (k : Option Bytes) (h : List (Bytes × Json)) (m : Map) → first_of (above k (insert_all h m)) ≡ combine (least k h) (first_of (above k m))
first_merged k h m = first_onto k h m ∙ least_combine k (first_of (above k m)) h

pub first_base_merged : (k : Option Bytes) (base : Json) (h : List (Bytes × Json))
    → first_of (above k (base_map (merge_json base h))) ≡ combine (least k h) (first_of (above k (base_map base)))
first_base_merged k base h = ap (λ (m : Map). first_of (above k m)) (base_merged base h) ∙ first_merged k h (base_map base)

-- Items and characters under their numbers

numbered_more : (i : ℕ) (l : Jsons) (x : Json) (m : Map) → numbered i (with_item l x) m ≡ insert (digits (i + count_items l)) x (numbered i l m)
numbered_more i jnil x m =
    let e : i ≡ i + 0 = omega arith in
    ap (λ (n : ℕ). insert (digits n) x m) e
numbered_more i (jcons j l) x m =
    let e : 1 + i + count_items l ≡ i + suc (count_items l) = omega arith in
    numbered_more (1 + i) l x (insert (digits i) j m) ∙ ap (λ (n : ℕ). insert (digits n) x (numbered (1 + i) l (insert (digits i) j m))) e

pub first_item_more : (k : Option Bytes) (l : Jsons) (x : Json)
    → first_of (above k (numbered 0 (with_item l x) mnil)) ≡ nearer k (digits (count_items l)) x (first_of (above k (numbered 0 l mnil)))
first_item_more k l x =
    let e : 0 + count_items l ≡ count_items l = omega arith in
    ap (λ (m : Map). first_of (above k m)) (numbered_more 0 l x mnil) ∙ first_insert k (digits (0 + count_items l)) x (numbered 0 l mnil)
    ∙ ap (λ (n : ℕ). nearer k (digits n) x (first_of (above k (numbered 0 l mnil)))) e

pub first_items_more : (n : ℕ) (l : Jsons) (x : Json) → get_item l n ≡ some x → first_items (suc n) l ≡ with_item (first_items n l) x
first_items_more n jnil x h = cc
first_items_more zero (jcons j l) x h =
    let e : j ≡ x = cc in
    rw e
first_items_more (suc n) (jcons j l) x h = ap (jcons j) (first_items_more n l x h)

pub count_first_items : (n : ℕ) (l : Jsons) → n ≤ count_items l → count_items (first_items n l) ≡ n
count_first_items zero l h = refl
count_first_items (suc n) jnil h = absurd (omega arith)
count_first_items (suc n) (jcons j l) h = ap suc (count_first_items n l (omega arith))

pub first_items_all : (l : Jsons) → first_items (count_items l) l ≡ l
first_items_all jnil = refl
first_items_all (jcons j l) = ap (jcons j) (first_items_all l)

-- for a loop over the items by index
pub first_item_at : (k : Option Bytes) (l : Jsons) (n : ℕ) (x : Json) → get_item l n ≡ some x
    → first_of (above k (numbered 0 (first_items (suc n) l) mnil)) ≡ nearer k (digits n) x (first_of (above k (numbered 0 (first_items n l) mnil)))
first_item_at k l n x h =
    ap (λ (i : Jsons). first_of (above k (numbered 0 i mnil))) (first_items_more n l x h) ∙ first_item_more k (first_items n l) x
    ∙ ap (λ (i : ℕ). nearer k (digits i) x (first_of (above k (numbered 0 (first_items n l) mnil)))) (count_first_items n l (has n l h))
  where
    has : (i : ℕ) (r : Jsons) → get_item r i ≡ some x → i ≤ count_items r
    has i jnil g = let z : ◌≡◌ {A = ℕ} 0 1 = cc in absurd (omega arith)
    has zero (jcons j r) g = omega arith
    has (suc i) (jcons j r) g =
        let e = has i r g in
        omega arith

pub texts_more : (l : List Bytes) (c : Bytes) → texts (l ++ (c ∷ [])) ≡ with_item (texts l) (jstr c)
texts_more [] c = refl
texts_more (d ∷ l) c = ap (jcons (jstr d)) (texts_more l c)

-- for a loop over the characters
pub first_char_more : (k : Option Bytes) (l : List Bytes) (c : Bytes)
    → first_of (above k (numbered_chars 0 (l ++ (c ∷ [])) mnil)) ≡ nearer k (digits (length l)) (jstr c) (first_of (above k (numbered_chars 0 l mnil)))
first_char_more k l c =
    ap (λ (m : Map). first_of (above k m)) (numbered_texts 0 (l ++ (c ∷ [])) mnil ∙ ap (λ (i : Jsons). numbered 0 i mnil) (texts_more l c))
    ∙ first_item_more k (texts l) (jstr c) ∙ ap (λ (n : ℕ). nearer k (digits n) (jstr c) (first_of (above k (numbered 0 (texts l) mnil)))) (count_texts l)
    ∙ ap (λ (m : Map). nearer k (digits (length l)) (jstr c) (first_of (above k m))) (sym (numbered_texts 0 l mnil))
