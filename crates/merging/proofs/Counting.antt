-- The names of a merged object ascend, and how many there are.
use Rattle.std.specs.Prelude.{ℕ, suc, ◌+◌, ◌≤◌, ◌<◌, Bool, true, false, List, [], ◌∷◌, ◌++◌, ◌≡◌, refl, length}
use Rattle.std.proofs.Math.Option.{Option, none, some}
use Rattle.std.proofs.Common.{sym, ap, ◌∙◌, subst, arith, ne_eqb}
use Rattle.rules.specs.Bytes.{Bytes, digits, pick, maybe, same, before}
use Rattle.rules.specs.Order.{differ, same_refl, same_eq, before_irrefl, before_trans, before_total}
use Rattle.rules.specs.Json.{Json, jnull, jbool, jpos, jneg, jstr, jarr, jobj, Jsons, jnil, jcons, Map, mnil, mcons, get_member, insert, count, Leads, Fits, FitsAll, FitsMembers}
use Rattle.rules.specs.PlanLaws.{get_insert_other, insert_fits}
use Rattle.rules.specs.Context.{chars, numbered, numbered_chars, base_map, insert_all, merge_json}
use Rattle.merging.specs.Lookup.{find_last, count_items, texts}
use Rattle.merging.proofs.Lookup.{get_merged, base_merged, digits_differ, numbered_texts, count_texts}
use Rattle.merging.specs.Counting.{Ascends, FitsEntries, one_if_new, new_names, KeysAscend, lacking}

-- Order

pub fits_ascends : (m : Map) → FitsMembers m → Ascends m
fits_ascends mnil f = tt
fits_ascends (mcons k v l) f = (f.1.0, fits_ascends l f.1.1)

-- of two names of which one is before the other neither is the other
pub before_differ : (a b : Bytes) → before a b ≡ true → same a b ≡ false
before_differ a b h = go (same a b) refl
  where
    go : (t : Bool) → same a b ≡ t → t ≡ false
    go true e = differ (sym h ∙ ap (λ (x : Bytes). before x b) (same_eq a b e) ∙ before_irrefl b)
    go false e = refl

pub before_asym : (a b : Bytes) → before a b ≡ true → before b a ≡ false
before_asym a b h = go (before b a) refl
  where
    go : (t : Bool) → before b a ≡ t → t ≡ false
    go true e = differ (sym (before_trans a b a h e) ∙ before_irrefl a)
    go false e = refl

leads_trans : (k n : Bytes) (m : Map) → before k n ≡ true → Leads n m → Leads k m
leads_trans k n mnil h i = tt
leads_trans k n (mcons p j l) h i = before_trans k n p h i

leads_insert : (n k : Bytes) (v : Json) (m : Map) → before n k ≡ true → Leads n m → Leads n (insert k v m)
leads_insert n k v mnil h i = h
leads_insert n k v (mcons p j l) h i = go (same k p) (before k p)
  where
    go : (a b : Bool) → Leads n (pick a (mcons k v l) (pick b (mcons k v (mcons p j l)) (mcons p j (insert k v l))))
    go true b = h
    go false true = h
    go false false = i

pub insert_ascends : (k : Bytes) (v : Json) (m : Map) → Ascends m → Ascends (insert k v m)
insert_ascends k v mnil s = (tt, tt)
insert_ascends k v (mcons n j l) s = go (same k n) refl (before k n) refl (insert_ascends k v l s.1)
  where
    go : (a : Bool) → same k n ≡ a → (b : Bool) → before k n ≡ b → Ascends (insert k v l)
        → Ascends (pick a (mcons k v l) (pick b (mcons k v (mcons n j l)) (mcons n j (insert k v l))))
    go true p b q ih = (subst (λ (x : Bytes). Leads x l) (sym (same_eq k n p)) s.0, s.1)
    go false p true q ih = (q, s)
    go false p false q ih = (leads_insert n k v l (before_total k n p q) s.0, ih)

pub insert_all_ascends : (h : List (Bytes × Json)) (m : Map) → Ascends m → Ascends (insert_all h m)
insert_all_ascends [] m s = s
insert_all_ascends (e ∷ h) m s = insert_all_ascends h (insert e.0 e.1 m) (insert_ascends e.0 e.1 m s)

pub numbered_ascends : (i : ℕ) (l : Jsons) (m : Map) → Ascends m → Ascends (numbered i l m)
numbered_ascends i jnil m s = s
numbered_ascends i (jcons j l) m s = numbered_ascends (1 + i) l (insert (digits i) j m) (insert_ascends (digits i) j m s)

pub numbered_chars_ascends : (i : ℕ) (l : List Bytes) (m : Map) → Ascends m → Ascends (numbered_chars i l m)
numbered_chars_ascends i l m s = subst Ascends (sym (numbered_texts i l m)) (numbered_ascends i (texts l) m s)

pub merged_ascends : (base : Json) (h : List (Bytes × Json)) → Ascends (base_map base) → Ascends (base_map (merge_json base h))
merged_ascends base h s = subst Ascends (sym (base_merged base h)) (insert_all_ascends h (base_map base) s)

-- The values fit too, where those of the base and of the entries do

pub insert_all_fits : (h : List (Bytes × Json)) (m : Map) → FitsEntries h → FitsMembers m → FitsMembers (insert_all h m)
insert_all_fits [] m g f = f
insert_all_fits (e ∷ h) m g f = insert_all_fits h (insert e.0 e.1 m) g.1 (insert_fits e.0 e.1 m g.0 f)

numbered_fits : (i : ℕ) (l : Jsons) (m : Map) → FitsAll l → FitsMembers m → FitsMembers (numbered i l m)
numbered_fits i jnil m g f = f
numbered_fits i (jcons j l) m g f = numbered_fits (1 + i) l (insert (digits i) j m) g.1 (insert_fits (digits i) j m g.0 f)

texts_fit : (l : List Bytes) → FitsAll (texts l)
texts_fit [] = tt
texts_fit (c ∷ l) = (tt, texts_fit l)

pub base_fits : (j : Json) → Fits j → FitsMembers (base_map j)
base_fits jnull f = tt
base_fits (jbool b) f = tt
base_fits (jpos n) f = tt
base_fits (jneg n) f = tt
base_fits (jstr s) f = subst FitsMembers (sym (numbered_texts 0 (chars s) mnil)) (numbered_fits 0 (texts (chars s)) mnil (texts_fit (chars s)) tt)
base_fits (jarr l) f = numbered_fits 0 l mnil f tt
base_fits (jobj m) f = f

pub base_ascends : (j : Json) → Fits j → Ascends (base_map j)
base_ascends j f = fits_ascends (base_map j) (base_fits j f)

pub merged_fits : (base : Json) (h : List (Bytes × Json)) → Fits base → FitsEntries h → Fits (merge_json base h)
merged_fits base [] f g = f
merged_fits base (e ∷ h) f g = insert_all_fits (e ∷ h) (base_map base) g (base_fits base f)

-- Counting

-- a name before all of the members is none of theirs
leads_none : (k : Bytes) (m : Map) → Leads k m → Ascends m → get_member m k ≡ none
leads_none k mnil h s = refl
leads_none k (mcons n j l) h s = go (same n k) refl (leads_none k l (leads_trans k n l h s.0) s.1)
  where
    go : (a : Bool) → same n k ≡ a → get_member l k ≡ none → pick a (some j) (get_member l k) ≡ none
    go true p ih = differ (sym h ∙ ap (λ (x : Bytes). before k x) (same_eq n k p) ∙ before_irrefl k)
    go false p ih = ih

pub count_inserted : (k : Bytes) (v : Json) (m : Map) → Ascends m → count (insert k v m) ≡ count m + one_if_new (get_member m k)
count_inserted k v mnil s = refl
count_inserted k v (mcons n j l) s = go (same k n) refl (before k n) refl (count_inserted k v l s.1)
  where
    go : (a : Bool) → same k n ≡ a → (b : Bool) → before k n ≡ b → count (insert k v l) ≡ count l + one_if_new (get_member l k)
        → count (pick a (mcons k v l) (pick b (mcons k v (mcons n j l)) (mcons n j (insert k v l))))
        ≡ suc (count l) + one_if_new (pick (same n k) (some j) (get_member l k))
    go true p b q ih = rw (same_eq k n p, same_refl n) (omega arith)
    go false p true q ih = rw (leads_none k (mcons n j l) q s) (omega arith)
    go false p false q ih = rw (before_differ n k (before_total k n p q)) (omega arith)

pub count_new : (h : List (Bytes × Json)) (m : Map) → Ascends m → count (insert_all h m) ≡ count m + new_names h m
count_new [] m s = omega arith
count_new (e ∷ h) m s =
    let p = count_new h (insert e.0 e.1 m) (insert_ascends e.0 e.1 m s) in
    let q = count_inserted e.0 e.1 m s in
    omega arith

-- for a loop from the first entry to the last
pub new_names_more : (h : List (Bytes × Json)) (e : Bytes × Json) (m : Map)
    → new_names (h ++ (e ∷ [])) m ≡ new_names h m + maybe (find_last h e.0) (one_if_new (get_member m e.0)) (λ _. 0)
new_names_more h e m = plain h m ∙ ap (λ (o : Option Json). new_names h m + one_if_new o) (get_merged h m e.0) ∙ ap (λ (n : ℕ). new_names h m + n) (go (find_last h e.0))
  where
    plain : (l : List (Bytes × Json)) (n : Map) → new_names (l ++ (e ∷ [])) n ≡ new_names l n + one_if_new (get_member (insert_all l n) e.0)
    plain [] n = omega arith
    plain (f ∷ l) n =
        let p = plain l (insert f.0 f.1 n) in
        omega arith

    go : (o : Option Json) → one_if_new (maybe o (get_member m e.0) some) ≡ maybe o (one_if_new (get_member m e.0)) (λ _. 0)
    go none = refl
    go (some j) = refl

-- Keys that ascend

pub lacking_more : (h : List (Bytes × Json)) (e : Bytes × Json) (m : Map) → lacking (h ++ (e ∷ [])) m ≡ lacking h m + one_if_new (get_member m e.0)
lacking_more [] e m = omega arith
lacking_more (f ∷ h) e m =
    let p = lacking_more h e m in
    omega arith

without_second : (e f : Bytes × Json) (h : List (Bytes × Json)) → before e.0 f.0 ≡ true → KeysAscend (f ∷ h) → KeysAscend (e ∷ h)
without_second e f [] b s = tt
without_second e f (g ∷ h) b s = (before_trans e.0 f.0 g.0 b s.0, s.1)

-- an entry in front does not change what is lacking of the others
lacking_first : (e : Bytes × Json) (h : List (Bytes × Json)) (m : Map) → KeysAscend (e ∷ h) → lacking h (insert e.0 e.1 m) ≡ lacking h m
lacking_first e [] m s = refl
lacking_first e (f ∷ h) m s =
    let p = ap one_if_new (get_insert_other e.0 e.1 m f.0 (before_differ e.0 f.0 s.0)) in
    let q = lacking_first e h m (without_second e f h s.0 s.1) in
    omega arith

new_lacking : (h : List (Bytes × Json)) (m : Map) → KeysAscend h → new_names h m ≡ lacking h m
new_lacking [] m s = refl
new_lacking (e ∷ h) m s =
    let p = new_lacking h (insert e.0 e.1 m) (rest h s) in
    let q = lacking_first e h m s in
    omega arith
  where
    rest : (l : List (Bytes × Json)) → KeysAscend (e ∷ l) → KeysAscend l
    rest [] t = tt
    rest (f ∷ l) t = t.1

pub count_merged : (h : List (Bytes × Json)) (m : Map) → KeysAscend h → Ascends m → count (insert_all h m) ≡ count m + lacking h m
count_merged h m s t = count_new h m t ∙ ap (λ (n : ℕ). count m + n) (new_lacking h m s)

pub count_base_merged : (base : Json) (h : List (Bytes × Json)) → KeysAscend h → Ascends (base_map base)
    → count (base_map (merge_json base h)) ≡ count (base_map base) + lacking h (base_map base)
count_base_merged base h s t = ap count (base_merged base h) ∙ count_merged h (base_map base) s t

-- Items and characters under their numbers

-- no member has a number from i on as its name
abbrev NoneFrom : ℕ → Map → Type 0
NoneFrom i m = (n : ℕ) → i ≤ n → n < 18446744073709551616 → get_member m (digits n) ≡ none

count_from : (i : ℕ) (l : Jsons) (m : Map) → i + count_items l ≤ 18446744073709551616 → Ascends m → NoneFrom i m → count (numbered i l m) ≡ count m + count_items l
count_from i jnil m h s f = omega arith
count_from i (jcons j l) m h s f =
    let p = count_from (1 + i) l (insert (digits i) j m) (omega arith) (insert_ascends (digits i) j m s) later in
    let q = count_inserted (digits i) j m s in
    let r = ap one_if_new (f i (omega arith) (omega arith)) in
    omega arith
  where
    later : NoneFrom (1 + i) (insert (digits i) j m)
    later n a b =
        get_insert_other (digits i) j m (digits n) (digits_differ i n (omega arith) b ∙ ne_eqb i n (λ e. omega arith))
        ∙ f n (omega arith) b

pub count_numbered : (l : Jsons) → count_items l ≤ 65536 → count (numbered 0 l mnil) ≡ count_items l
count_numbered l h =
    let p = count_from 0 l mnil (omega arith) tt (λ n a b. refl) in
    omega arith

pub count_numbered_chars : (l : List Bytes) → length l ≤ 65536 → count (numbered_chars 0 l mnil) ≡ length l
count_numbered_chars l h =
    let t = count_texts l in
    ap count (numbered_texts 0 l mnil) ∙ count_numbered (texts l) (omega arith) ∙ t
