-- The templates of a bundle, and what check_bundle's acceptance gives: they stand at bit 8.
-- The laws hold for any layout c of a template's body; a bundle has `body w 16`.
use Prim.Native.Nat.{ℕ, zero, suc, ◌+◌, ◌-◌, ◌≤◌, ◌<◌}
use Rattle.std.specs.Prelude.{Bool, true, false, Err, List, [], ◌∷◌, ◌≡◌, refl, leb, eqb, length, Option as RustOption, Some, None}
use Rattle.std.proofs.Math.Option.{Option, none, some}
use Rattle.std.proofs.Common.{sym, ◌∙◌, add-one, leb-true}
use Rattle.std.proofs.Math.Path.{ap, subst}
use native.Mathlib.Omega.{arith}
use Rattle.std.proofs.Math.ListN.{get_or}
use Rattle.rules.specs.Bytes.{Bytes, pick, same}
use Rattle.rules.specs.Order.{same_eq}
use Rattle.rules.specs.Template as rule
use Rattle.rules.specs.Registry.{get_template}
use Rattle.rules.specs.Bits.{Bits, bits}
use Rattle.rules.specs.Layout.{Read, read, broken, Layout, field, num, ◌then◌, tested, counted}
use Rattle.rules.specs.LayoutLaws.{then_was, tested_was, pick_was}
use Rattle.rules.specs.Bundle.{string, body, templates_allowed, template, templates, versioned, ends, whole, bundle_of, bundle, partial_context, find_from, find_template}
use Rattle.rules.specs.BundleLaws.{bundle_is}
use Rattle.layout.specs.Text.{text_at}
use Rattle.layout.specs.Verdict.{accepted, read_verdict, verdict}
use Rattle.layout.specs.declared.BundleError.TheVariants.{TooLong, PartialContext}
use Rattle.parts.specs.Holds.{Holds, end, value, row}
use Rattle.parts.specs.HoldsLaws.{value_is, then_holds, Same, tested_holds, Counted, counted_holds, none_left_value, more_value, row_length, Passed, counted_start, passed_first, passed_again, passed_value, string_found, string_in}
use Rattle.registry.specs.declared.Template.{Template}

-- what a bundle that stands holds
abbrev pub templates_at : ℕ → Bits → List (Bytes × rule.Template)
templates_at w b = value [] (templates w) b 8

-- n templates from p on
abbrev pub rest_at : Layout rule.Template → ℕ → Bits → ℕ → List (Bytes × rule.Template)
rest_at c n b p = value [] (row (string then c) n) b p

-- where the template k begins
unfoldable pub place_of : Layout rule.Template → Bits → ℕ → ℕ
place_of c b zero = 16
place_of c b (suc k) = end (string then c) b (place_of c b k)

abbrev pub template_view : Bits → ℕ → Template
template_view b p = record { name = p; body = end string b p }

abbrev pub found_view : Layout rule.Template → Bits → Option ℕ → RustOption (ℕ × ℕ × ℕ)
found_view c b (some k) = Some (k, place_of c b k, end string b (place_of c b k))
found_view c b none = None

-- What a search finds: a number below n, a name that is m, and a body that is what the rules get

abbrev pub found_says : Layout rule.Template → Bits → RustOption (ℕ × ℕ × ℕ) → Option rule.Template
found_says c b (Some (k, p, q)) = some (value rule.tnil c b q)
found_says c b None = none

abbrev pub FoundHolds : Layout rule.Template → Bits → ℕ → Bytes → RustOption (ℕ × ℕ × ℕ) → Type 0
FoundHolds c b n m (Some (k, p, q)) = (k < n) × Holds string b p × (text_at b p ≡ m) × Holds c b q
FoundHolds c b n m None = Unit {0}

pub record FoundStands (c : Layout rule.Template) (b : Bits) (n : ℕ) (m : Bytes) (l : List (Bytes × rule.Template)) (v : RustOption (ℕ × ℕ × ℕ)) : Type 0 where
  pub is : get_template l m ≡ found_says c b v
  pub parts : FoundHolds c b n m v

-- A template: name, body

pub record TemplateStands (c : Layout rule.Template) (b : Bits) (p : ℕ) (v : Template) : Type 0 where
  pub name : Holds string b v.name
  pub content : Holds c b v.body
  pub next : end c b v.body ≡ end (string then c) b p
  pub is : (x : Bytes × rule.Template) → value x (string then c) b p ≡ (text_at b v.name, value rule.tnil c b v.body)

pub template_stands : (c : Layout rule.Template) (b : Bits) (p : ℕ) → Holds (string then c) b p → TemplateStands c b p (template_view b p)
template_stands c b p H =
    let t = then_holds string c b p H in
    record {
      name = t.first;
      content = t.second;
      next = t.ends;
      is = λ x. value_is x H
          ∙ ap (λ (y : Bytes). (y, H.found.1)) (sym (string_found b p t.first ∙ t.one))
          ∙ ap (λ (y : rule.Template). (text_at b p, y)) (sym (value_is rule.tnil t.second ∙ t.other));
    }

-- The templates: a count at bit 8, and as many from bit 16 on

module _ (w : ℕ) (b : Bits) (H : Holds (templates w) b 8) where
  allowed : Same (counted 8 (template w)) b 8 (λ x. (x ≡ H.found) × (templates_allowed x ≡ true)) (end (templates w) b 8)
  allowed = tested_holds templates_allowed (counted 8 (template w)) b 8 H

  count : Counted 8 (template w) b 8 allowed.inner.found (end (counted 8 (template w)) b 8)
  count = counted_holds 8 (template w) b 8 allowed.inner

  pub templates_row : Holds (row (template w) (field b 8 8)) b 16
  templates_row = count.inner

  pub templates_are : rest_at (body w 16) (field b 8 8) b 16 ≡ templates_at w b
  templates_are = value_is [] count.inner ∙ count.is ∙ allowed.is.0 ∙ sym (value_is [] H)

  pub templates_count : field b 8 8 ≡ length (templates_at w b)
  templates_count = sym (row_length (template w) (field b 8 8) b 16 count.inner) ∙ ap length templates_are

  pub templates_start : (n : ℕ) → n ≡ field b 8 8 → Passed (template w) b n 0 16 (end (templates w) b 8)
  templates_start n e =
      let s = counted_start (template w) b 8 8 allowed.inner n e in
      record { within = s.within; left = s.left; ends = s.ends ∙ allowed.ends }

pub place_zero : (c : Layout rule.Template) (b : Bits) → 16 ≡ place_of c b 0
unfolding place_of
place_zero c b = refl

-- the next place
pub place_next : (c : Layout rule.Template) (b : Bits) (i p z : ℕ) → p ≡ place_of c b i → z ≡ end (string then c) b p → z ≡ place_of c b (i + 1)
unfolding place_of
place_next c b i p z e h = h ∙ ap (end (string then c) b) e ∙ ap (place_of c b) (sym (add-one i))

-- A search that has passed i templates of n and stands at p, that of the next

pub record Searching (c : Layout rule.Template) (b : Bits) (m : Bytes) (n i p q : ℕ) (f : RustOption (ℕ × ℕ × ℕ)) : Type 0 where
  pub passed : Passed (string then c) b n i p q
  pub place : p ≡ place_of c b i
  pub is : found_view c b (find_from i (rest_at c (n - i) b p) m) ≡ f

module _ (c : Layout rule.Template) (b : Bits) (m : Bytes) (n i p q : ℕ) (f : RustOption (ℕ × ℕ × ℕ)) (S : Searching c b m n i p q f) where
  pub search_end : n ≤ i → None ≡ f
  search_end h =
      let e : n - i ≡ 0 = omega arith in
      ap (λ l. found_view c b (find_from i l m)) (sym (ap (λ (k : ℕ). rest_at c k b p) e ∙ none_left_value (string then c) b p)) ∙ S.is

  module _ (h : i < n) where
    here : Holds (string then c) b p
    here = passed_first (string then c) b n i p q S.passed h

    pub search_template : TemplateStands c b p (template_view b p)
    search_template = template_stands c b p here

    pub search_fits : p ≤ b.size
    search_fits = omega (arith, string_in b p search_template.name)

    step : (t : Bool) → t ≡ same (text_at b p) m
        → found_view c b (pick t (some i) (find_from (suc i) (rest_at c (n - (i + 1)) b (end (string then c) b p)) m)) ≡ f
    step t e =
        let x = here.found in
        ap (λ t. found_view c b (pick t (some i) (find_from (suc i) (rest_at c (n - (i + 1)) b (end (string then c) b p)) m))) e
        ∙ ap (λ (y : Bytes × rule.Template). found_view c b (find_from i (y ∷ rest_at c (n - (i + 1)) b (end (string then c) b p)) m)) (sym (search_template.is x))
        ∙ ap (λ l. found_view c b (find_from i l m)) (sym (passed_value (string then c) b n i p q S.passed h x))
        ∙ S.is

    pub search_here : (r : ℕ) (t : Bool) → r ≡ end string b p → t ≡ same (text_at b p) m → t ≡ true → Some (i, p, r) ≡ f
    search_here r t hr e g =
        ap (λ (u : ℕ). Some (i, p, u)) hr ∙ ap (λ (p : ℕ). Some (i, p, end string b p)) S.place ∙ step true (sym g ∙ e)

    pub search_on : (r z : ℕ) (t : Bool) → r ≡ end string b p → z ≡ end c b r → t ≡ same (text_at b p) m → t ≡ false → Searching c b m n (i + 1) z q f
    search_on r z t hr hz e g =
        let hq : z ≡ end (string then c) b p = hz ∙ ap (end c b) hr ∙ search_template.next in
        record {
          passed = passed_again (string then c) b n i p q S.passed h z hq;
          place = place_next c b i p z S.place hq;
          is = ap (λ (z : ℕ). found_view c b (find_from (i + 1) (rest_at c (n - (i + 1)) b z) m)) hq
              ∙ ap (λ (j : ℕ). found_view c b (find_from j (rest_at c (n - (i + 1)) b (end (string then c) b p)) m)) (add-one i)
              ∙ step false (sym g ∙ e);
        }

pub search_start : (w : ℕ) (b : Bits) (m : Bytes) → Holds (templates w) b 8 → (n : ℕ) → n ≡ field b 8 8
    → Searching (body w 16) b m n 0 16 (end (templates w) b 8) (found_view (body w 16) b (find_template (templates_at w b) m))
unfolding place_of
search_start w b m H n e =
    let z : n - 0 ≡ field b 8 8 = omega arith in
    record {
      passed = templates_start w b H n e;
      place = refl;
      is = ap (λ l. found_view (body w 16) b (find_from 0 l m)) (ap (λ (k : ℕ). rest_at (body w 16) k b 16) z ∙ templates_are w b H);
    }

-- Where templates stand: the template k at its place

module _ (c : Layout rule.Template) (b : Bits) (n : ℕ) (H : Holds (row (string then c) n) b 16) where
  at_place : (i : ℕ) → i ≤ n → Passed (string then c) b n i (place_of c b i) (end (row (string then c) n) b 16)
  unfolding place_of
  at_place zero h = let z : n - 0 ≡ n = omega arith in record { within = h; left = subst (λ (k : ℕ). Holds (row (string then c) k) b 16) (sym z) H; ends = ap (λ (k : ℕ). end (row (string then c) k) b 16) z }
  at_place (suc i) h =
      subst (λ (k : ℕ). Passed (string then c) b n k (end (string then c) b (place_of c b i)) (end (row (string then c) n) b 16)) (add-one i)
      (passed_again (string then c) b n i (place_of c b i) _ (at_place i (omega arith)) (omega arith) _ refl)

  pub stands_at : (k : ℕ) → k < n → Holds (string then c) b (place_of c b k)
  stands_at k h = passed_first (string then c) b n k (place_of c b k) _ (at_place k (omega arith)) h

  row_at : (r i : ℕ) → i + suc r ≡ n → Holds (row (string then c) (suc r)) b (place_of c b i)
  row_at r i e = let z : n - i ≡ suc r = omega arith in subst (λ (k : ℕ). Holds (row (string then c) k) b (place_of c b i)) z (at_place i (omega arith)).left

  abbrev said_at : ℕ → Bytes × rule.Template
  said_at p = (text_at b p, value rule.tnil c b (end string b p))

  list_at : (r i : ℕ) → i + suc r ≡ n → rest_at c (suc r) b (place_of c b i) ≡ said_at (place_of c b i) ∷ rest_at c r b (place_of c b (suc i))
  unfolding place_of
  list_at r i e =
      let H = stands_at i (omega arith) in
      more_value H.found (string then c) r b (place_of c b i) (row_at r i e)
      ∙ ap (λ x. x ∷ rest_at c r b (end (string then c) b (place_of c b i))) ((template_stands c b (place_of c b i) H).is H.found)

  -- what a search from the template i on finds is what the rules get
  got_more : (m : Bytes) (i : ℕ) → i < n → (l : List (Bytes × rule.Template)) → FoundStands c b n m l (found_view c b (find_from (suc i) l m))
      → (t : Bool) → same (text_at b (place_of c b i)) m ≡ t
      → FoundStands c b n m (said_at (place_of c b i) ∷ l) (found_view c b (find_from i (said_at (place_of c b i) ∷ l) m))
  got_more m i h l I t f = record { is = subst Says (sym f) (both t f).0; parts = subst Parts (sym f) (both t f).1 }
    where
      Says : Bool → Type 0
      Says t = pick t (some (said_at (place_of c b i)).1) (get_template l m) ≡ found_says c b (found_view c b (pick t (some i) (find_from (suc i) l m)))

      Parts : Bool → Type 0
      Parts t = FoundHolds c b n m (found_view c b (pick t (some i) (find_from (suc i) l m)))

      both : (t : Bool) → same (text_at b (place_of c b i)) m ≡ t → Says t × Parts t
      both true f =
          let T = template_stands c b (place_of c b i) (stands_at i h) in
          (refl, (h, T.name, same_eq (text_at b (place_of c b i)) m f, T.content))
      both false f = (I.is, I.parts)

  got : (m : Bytes) (r i : ℕ) → i + r ≡ n → FoundStands c b n m (rest_at c r b (place_of c b i)) (found_view c b (find_from i (rest_at c r b (place_of c b i)) m))
  got m zero i e =
      subst (λ l. FoundStands c b n m l (found_view c b (find_from i l m))) (sym (none_left_value (string then c) b (place_of c b i))) (record { is = refl; parts = tt })
  got m (suc r) i e =
      subst (λ l. FoundStands c b n m l (found_view c b (find_from i l m))) (sym (list_at r i e))
      (got_more m i (omega arith) (rest_at c r b (place_of c b (suc i))) (got m r (suc i) (omega arith)) (same (text_at b (place_of c b i)) m) refl)

  nth : (x : Bytes × rule.Template) (k r i : ℕ) → i + r ≡ n → k < r → get_or (rest_at c r b (place_of c b i)) k x ≡ said_at (place_of c b (i + k))
  nth x k zero i e h = absurd (omega arith)
  nth x zero (suc r) i e h =
      let z : i ≡ i + 0 = omega arith in
      ap (λ l. get_or l 0 x) (list_at r i e) ∙ ap (λ (i : ℕ). said_at (place_of c b i)) z
  nth x (suc k) (suc r) i e h =
      let z : suc i + k ≡ i + suc k = omega arith in
      ap (λ l. get_or l (suc k) x) (list_at r i e) ∙ nth x k r (suc i) (omega arith) (omega arith) ∙ ap (λ (i : ℕ). said_at (place_of c b i)) z

-- The same for the templates of a bundle

module _ (w : ℕ) (b : Bits) (H : Holds (templates w) b 8) where
  pub found_stands : (m : Bytes) → FoundStands (body w 16) b (field b 8 8) m (templates_at w b) (found_view (body w 16) b (find_template (templates_at w b) m))
  unfolding place_of
  found_stands m =
      subst (λ l. FoundStands (body w 16) b (field b 8 8) m l (found_view (body w 16) b (find_template l m))) (templates_are w b H)
      (got (body w 16) b (field b 8 8) (templates_row w b H) m (field b 8 8) 0 (omega arith))

  pub number_stands : (k : ℕ) → k < field b 8 8 → TemplateStands (body w 16) b (place_of (body w 16) b k) (template_view b (place_of (body w 16) b k))
  number_stands k h = template_stands (body w 16) b (place_of (body w 16) b k) (stands_at (body w 16) b (field b 8 8) (templates_row w b H) k h)

  -- p is the place of the template k
  pub number_at : (k p : ℕ) → p ≡ place_of (body w 16) b k → k < field b 8 8 → TemplateStands (body w 16) b p (template_view b p)
  number_at k p e h = subst (λ (p : ℕ). TemplateStands (body w 16) b p (template_view b p)) (sym e) (number_stands k h)

  pub number_is : (x : Bytes × rule.Template) (k : ℕ) → k < field b 8 8 → get_or (templates_at w b) k x
      ≡ (text_at b (place_of (body w 16) b k), value rule.tnil (body w 16) b (end string b (place_of (body w 16) b k)))
  unfolding place_of
  number_is x k h =
      let z : 0 + k ≡ k = omega arith in
      ap (λ l. get_or l k x) (sym (templates_are w b H)) ∙ nth (body w 16) b (field b 8 8) (templates_row w b H) x k (field b 8 8) 0 (omega arith) h
      ∙ ap (λ (k : ℕ). (text_at b (place_of (body w 16) b k), value rule.tnil (body w 16) b (end string b (place_of (body w 16) b k)))) z

-- Acceptance

pub record Standing (s : Bytes) : Type 0 where
  pub small : length s ≤ 65536
  pub templates : Holds (templates 16) (bits s) 8
  pub are : bundle s ≡ some (templates_at 16 (bits s))
  -- check 4 has found nothing
  pub plain : partial_context (templates_at 16 (bits s)) ≡ false

-- what was read of the whole
whole_read : (s : Bytes) (l : List (Bytes × rule.Template)) → length s ≤ 65536 → partial_context l ≡ false → (r : Read (ℕ × List (Bytes × rule.Template)))
    → (versioned 1 16).dec (bits s) 0 ≡ r → whole (bits s) r ≡ some l → bundle s ≡ some l → Standing s
whole_read s l small plain broken f g e = let z : ◌≡◌ {A = ℕ} 0 1 = cc in absurd (omega arith)
whole_read s l small plain (read x p) f g e =
    let m = then_was (tested (eqb 1) (num 8)) (templates 16) (bits s) 0 x p f in
    let t = tested_was (eqb 1) (num 8) (bits s) 0 x.0 m.0 m.1 in
    let k = pick_was (leb (0 + 8) (bits s).size) (field (bits s) 8 0) x.0 (0 + 8) m.0 t.0 in
    let H : Holds (templates 16) (bits s) 8 = record { found = x.1; behind = p; reads = ap ((templates 16).dec (bits s)) k.2 ∙ m.2 } in
    let i : l ≡ templates_at 16 (bits s) = said (ends (bits s) p) g ∙ sym (value_is [] H) in
    record { small = small; templates = H; are = e ∙ ap some i; plain = ap partial_context (sym i) ∙ plain }
  where
    said : (t : Bool) → pick t (some x.1) none ≡ some l → l ≡ x.1
    said true g = cc
    said false g = let z : ◌≡◌ {A = ℕ} 0 1 = cc in absurd (omega arith)

accepted_list : (s : Bytes) → length s ≤ 65536 → (o : Option (List (Bytes × rule.Template))) → bundle s ≡ o → read_verdict o ≡ accepted → Standing s
unfolding bundle_of
accepted_list s small none e h = let z : ◌≡◌ {A = ℕ} 0 1 = cc in absurd (omega arith)
accepted_list s small (some l) e h = whole_read s l small (plain (partial_context l) h) ((versioned 1 16).dec (bits s) 0) refl (sym (bundle_is s) ∙ e) e
  where
    plain : (t : Bool) → pick t (Err PartialContext) accepted ≡ accepted → t ≡ false
    plain true h = let z : ◌≡◌ {A = ℕ} 0 1 = cc in absurd (omega arith)
    plain false h = refl

-- what check_bundle accepts stands
pub accepted_holds : (s : Bytes) → verdict s ≡ accepted → Standing s
unfolding verdict
accepted_holds s h = sized (leb (length s) 65536) refl h
  where
    sized : (t : Bool) → leb (length s) 65536 ≡ t → pick t (read_verdict (bundle s)) (Err TooLong) ≡ accepted → Standing s
    sized true e h = accepted_list s (leb-true _ _ e) (bundle s) refl h
    sized false e h = let z : ◌≡◌ {A = ℕ} 0 1 = cc in absurd (omega arith)
