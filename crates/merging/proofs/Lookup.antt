-- What is found in a merged object: the last entry of the name, and where there is none what the base has.
use Rattle.std.specs.Prelude.{ℕ, zero, suc, ◌+◌, ◌-◌, ◌≤◌, ◌<◌, Bool, true, false, List, [], ◌∷◌, ◌++◌, ◌≡◌, refl, eqb, leb, length, take}
use Rattle.std.proofs.Math.Option.{Option, none, some}
use Rattle.std.proofs.Common.{sym, ap, ◌∙◌, arith, le-leb, leb-true, leb-false, eqb-true, eq-eqb}
use Rattle.std.proofs.Math.ListN.{get_elem?}
use Rattle.std.proofs.lemmas.Bool.{lt-leb, eqb-false}
use Rattle.rules.specs.Bytes.{Bytes, digits, pick, maybe, same}
use Rattle.rules.specs.Order.{differ, same_refl, same_eq}
use Rattle.rules.specs.Json.{Json, jstr, jobj, Jsons, jnil, jcons, Map, mnil, get_item, get_member, insert}
use Rattle.rules.specs.PlanLaws.{get_insert}
use Rattle.rules.specs.Context.{parse_usize, numbered, numbered_chars, base_map, insert_all, merge_json}
use Rattle.decimal.proofs.RoundTrip.{parse_written}
use Rattle.merging.specs.Lookup.{find_last, canonical, count_items, texts}

-- The entries of the hash

-- for a loop from the last entry to the first
pub find_last_more : (h : List (Bytes × Json)) (e : Bytes × Json) (k : Bytes) → find_last (h ++ (e ∷ [])) k ≡ pick (same e.0 k) (some e.1) (find_last h k)
find_last_more [] e k = refl
find_last_more (f ∷ h) e k = rw (find_last_more h e k) (go (same e.0 k))
  where
    go : (a : Bool) → maybe (pick a (some e.1) (find_last h k)) (pick (same f.0 k) (some f.1) none) some ≡ pick a (some e.1) (maybe (find_last h k) (pick (same f.0 k) (some f.1) none) some)
    go true = refl
    go false = refl

pub get_merged : (h : List (Bytes × Json)) (m : Map) (k : Bytes) → get_member (insert_all h m) k ≡ maybe (find_last h k) (get_member m k) some
get_merged [] m k = refl
get_merged (e ∷ h) m k = get_merged h (insert e.0 e.1 m) k ∙ rw (get_insert e.0 e.1 m k) (go (find_last h k) (same e.0 k))
  where
    go : (o : Option Json) (a : Bool) → maybe o (pick a (some e.1) (get_member m k)) some ≡ maybe (maybe o (pick a (some e.1) none) some) (get_member m k) some
    go (some j) a = refl
    go none true = refl
    go none false = refl

pub insert_all_more : (h : List (Bytes × Json)) (e : Bytes × Json) (m : Map) → insert_all (h ++ (e ∷ [])) m ≡ insert e.0 e.1 (insert_all h m)
insert_all_more [] e m = refl
insert_all_more (f ∷ h) e m = insert_all_more h e (insert f.0 f.1 m)

-- a loop over a list by index meets one more at the end of those before it
pub take_more : {A : Type 0} (l : List A) (i : ℕ) (a : A) → get_elem? l i ≡ some a → take (suc i) l ≡ take i l ++ (a ∷ [])
take_more [] i a h = cc
take_more (b ∷ l) zero a h =
    let e : b ≡ a = cc in
    rw e
take_more (b ∷ l) (suc i) a h = ap (◌∷◌ b) (take_more l i a h)

-- A base that is itself merged

-- the map of a merged value, also where nothing is merged
pub base_merged : (base : Json) (h : List (Bytes × Json)) → base_map (merge_json base h) ≡ insert_all h (base_map base)
base_merged base [] = refl
base_merged base (e ∷ h) = refl

pub merged_object : (base : Json) (e : Bytes × Json) (h : List (Bytes × Json)) → merge_json base (e ∷ h) ≡ jobj (insert_all (e ∷ h) (base_map base))
merged_object base e h = refl

pub get_base_merged : (base : Json) (h : List (Bytes × Json)) (k : Bytes) → get_member (base_map (merge_json base h)) k ≡ maybe (find_last h k) (get_member (base_map base) k) some
get_base_merged base h k = ap (λ (m : Map). get_member m k) (base_merged base h) ∙ get_merged h (base_map base) k

-- Names that are numbers

pub canonical_none : (k : Bytes) → parse_usize k ≡ none → canonical k ≡ none
unfolding canonical
canonical_none k h = rw h

pub canonical_parsed : (k : Bytes) (n : ℕ) → parse_usize k ≡ some n → canonical k ≡ pick (same (digits n) k) (some n) none
unfolding canonical
canonical_parsed k n h = rw h

pub canonical_digits : (n : ℕ) → n < 18446744073709551616 → canonical (digits n) ≡ some n
canonical_digits n h = canonical_parsed (digits n) n (parse_written n h) ∙ ap (λ (a : Bool). pick a (some n) none) (same_refl (digits n))

pub canonical_is : (k : Bytes) (n : ℕ) → canonical k ≡ some n → digits n ≡ k
canonical_is k n h = go (parse_usize k) refl
  where
    one : (i : ℕ) (a : Bool) → same (digits i) k ≡ a → pick a (some i) none ≡ some n → digits n ≡ k
    one i true e g =
        let p : i ≡ n = cc in
        ap digits (sym p) ∙ same_eq (digits i) k e
    one i false e g = cc

    go : (o : Option ℕ) → parse_usize k ≡ o → digits n ≡ k
    go none e = cc (canonical_none k e)
    go (some i) e = one i (same (digits i) k) refl (sym (canonical_parsed k i e) ∙ h)

-- only one number has these digits
pub same_digits : (i : ℕ) (k : Bytes) → i < 18446744073709551616 → same (digits i) k ≡ maybe (canonical k) false (λ n. eqb i n)
same_digits i k h = go (same (digits i) k) refl (canonical k) refl
  where
    other : (n : ℕ) (a : Bool) → eqb i n ≡ a → same (digits i) k ≡ false → canonical k ≡ some n → false ≡ a
    other n true e g c = differ (sym (same_refl (digits i)) ∙ ap (same (digits i)) (ap digits (eqb-true i n e) ∙ canonical_is k n c) ∙ g)
    other n false e g c = refl

    go : (a : Bool) → same (digits i) k ≡ a → (o : Option ℕ) → canonical k ≡ o → a ≡ maybe o false (λ n. eqb i n)
    go true e o c =
        let d : o ≡ some i = sym c ∙ ap canonical (sym (same_eq (digits i) k e)) ∙ canonical_digits i h in
        sym (eq-eqb i i refl) ∙ ap (λ (p : Option ℕ). maybe p false (λ n. eqb i n)) (sym d)
    go false e none c = refl
    go false e (some n) c = other n (eqb i n) refl e c

pub digits_differ : (i n : ℕ) → i < 18446744073709551616 → n < 18446744073709551616 → same (digits i) (digits n) ≡ eqb i n
digits_differ i n h g = same_digits i (digits n) h ∙ ap (λ (o : Option ℕ). maybe o false (λ m. eqb i m)) (canonical_digits n g)

-- The items of a list under their numbers

-- what stands under a number when the items have those from i on
abbrev found_from : Option ℕ → ℕ → Jsons → Option Json → Option Json
found_from o i l g = maybe o g (λ n. pick (leb i n) (maybe (get_item l (n - i)) g some) g)

found_nil : (o : Option ℕ) (i : ℕ) (g : Option Json) → g ≡ found_from o i jnil g
found_nil none i g = refl
found_nil (some n) i g = go (leb i n)
  where
    go : (a : Bool) → g ≡ pick a g g
    go true = refl
    go false = refl

found_cons : (o : Option ℕ) (i : ℕ) (j : Json) (l : Jsons) (g : Option Json) → found_from o (1 + i) l (pick (maybe o false (λ n. eqb i n)) (some j) g) ≡ found_from o i (jcons j l) g
found_cons none i j l g = refl
found_cons (some n) i j l g = go (eqb i n) refl (leb i n) refl
  where
    go : (a : Bool) → eqb i n ≡ a → (b : Bool) → leb i n ≡ b → found_from (some n) (1 + i) l (pick a (some j) g) ≡ pick b (maybe (get_item (jcons j l) (n - i)) g some) g
    go true e true f =
        let p : i ≡ n = eqb-true i n e in
        let z : n - i ≡ 0 = omega arith in
        rw (lt-leb (1 + i) n (omega arith), z)
    go true e false f =
        let p : i ≡ n = eqb-true i n e in
        let q = leb-false i n f in
        absurd (omega arith)
    go false e true f =
        let p = eqb-false i n e in
        let q = leb-true i n f in
        let r : i < n = omega arith in
        let z : n - i ≡ suc (n - (1 + i)) = omega arith in
        rw (le-leb (1 + i) n (omega arith), z)
    go false e false f =
        let q = leb-false i n f in
        rw (lt-leb (1 + i) n (omega arith))

numbered_found : (i : ℕ) (l : Jsons) (m : Map) (k : Bytes) → i + count_items l ≤ 18446744073709551616 → get_member (numbered i l m) k ≡ found_from (canonical k) i l (get_member m k)
numbered_found i jnil m k h = found_nil (canonical k) i (get_member m k)
numbered_found i (jcons j l) m k h =
    numbered_found (1 + i) l (insert (digits i) j m) k (omega arith)
    ∙ ap (found_from (canonical k) (1 + i) l) (get_insert (digits i) j m k ∙ ap (λ (a : Bool). pick a (some j) (get_member m k)) (same_digits i k (omega arith)))
    ∙ found_cons (canonical k) i j l (get_member m k)

pub numbered_get : (l : Jsons) (k : Bytes) → count_items l ≤ 65536 → get_member (numbered 0 l mnil) k ≡ maybe (canonical k) none (λ n. get_item l n)
numbered_get l k h = numbered_found 0 l mnil k (omega arith) ∙ go (canonical k)
  where
    plain : (o : Option Json) → maybe o none some ≡ o
    plain none = refl
    plain (some j) = refl

    go : (o : Option ℕ) → found_from o 0 l none ≡ maybe o none (λ n. get_item l n)
    go none = refl
    go (some n) =
        let z : n - 0 ≡ n = omega arith in
        rw (le-leb 0 n (omega arith), z) (plain (get_item l n))

-- The characters of a text under their numbers

pub numbered_texts : (i : ℕ) (l : List Bytes) (m : Map) → numbered_chars i l m ≡ numbered i (texts l) m
numbered_texts i [] m = refl
numbered_texts i (c ∷ l) m = numbered_texts (1 + i) l (insert (digits i) (jstr c) m)

pub count_texts : (l : List Bytes) → count_items (texts l) ≡ length l
count_texts [] = refl
count_texts (c ∷ l) = ap suc (count_texts l)

pub get_text : (l : List Bytes) (n : ℕ) → get_item (texts l) n ≡ maybe (get_elem? l n) none (λ c. some (jstr c))
get_text [] n = refl
get_text (c ∷ l) zero = refl
get_text (c ∷ l) (suc n) = get_text l n

pub numbered_chars_get : (l : List Bytes) (k : Bytes) → length l ≤ 65536 → get_member (numbered_chars 0 l mnil) k ≡ maybe (canonical k) none (λ n. maybe (get_elem? l n) none (λ c. some (jstr c)))
numbered_chars_get l k h =
    ap (λ (m : Map). get_member m k) (numbered_texts 0 l mnil) ∙ numbered_get (texts l) k (omega (arith, count_texts l)) ∙ go (canonical k)
  where
    go : (o : Option ℕ) → maybe o none (λ n. get_item (texts l) n) ≡ maybe o none (λ n. maybe (get_elem? l n) none (λ c. some (jstr c)))
    go none = refl
    go (some n) = get_text l n
