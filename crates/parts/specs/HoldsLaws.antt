-- Where a whole stands its parts stand: one law for each way to build a layout.
use Rattle.std.specs.Prelude.{ℕ, zero, suc, ◌+◌, ◌-◌, ◌*◌, ◌≤◌, ◌<◌, Bool, true, List, [], ◌∷◌, ◌≡◌, refl, leb, length}
use Rattle.std.proofs.Common.{sym, ap, ◌∙◌, subst, arith, leb-true}
use Rattle.rules.specs.Bits.{Bits}
use Rattle.rules.specs.Layout.{read, broken, Layout, field, num, ◌then◌, shaped, tested, dec_all, counted, Choice, tagged}
use Rattle.rules.specs.LayoutLaws.{not_read, pick_was, mapped_was, then_was, shaped_was, tested_was, counted_was, more_was, tagged_was}
use Rattle.rules.specs.Bundle.{string}
use Rattle.layout.specs.WalkLaws.{Arm}
use Rattle.layout.specs.Text.{text_at, string_was}
use Rattle.parts.specs.Holds.{Holds, end_of, value_of, end, value, row}

pub end_is : {A : Type 0} {c : Layout A} {b : Bits} {p : ℕ} (H : Holds c b p) → end c b p ≡ H.behind
unfolding end
end_is H = ap end_of H.reads

pub value_is : {A : Type 0} {c : Layout A} {b : Bits} {p : ℕ} (x : A) (H : Holds c b p) → value x c b p ≡ H.found
unfolding value
value_is x H = ap (value_of x) H.reads

-- what stands at a place stands at an equal one
pub moved : {A : Type 0} (c : Layout A) (b : Bits) (p q : ℕ) → p ≡ q → Holds c b p → Holds c b q
moved c b p q e H = subst (λ (n : ℕ). Holds c b n) e H

pub moved_found : {A : Type 0} (c : Layout A) (b : Bits) {p q : ℕ} (e : p ≡ q) (H : Holds c b p) → (moved c b p q e H).found ≡ H.found
moved_found c b e H = sym (value_is H.found (moved c b _ _ e H)) ∙ sym (ap (value H.found c b) e) ∙ value_is H.found H

-- One part behind the other

pub record Then {A B : Type 0} (c : Layout A) (d : Layout B) (b : Bits) (p : ℕ) (x : A × B) (q : ℕ) : Type 0 where
  pub first : Holds c b p
  pub second : Holds d b (end c b p)
  pub ends : end d b (end c b p) ≡ q
  pub one : first.found ≡ x.0
  pub other : second.found ≡ x.1

pub then_holds : {A B : Type 0} (c : Layout A) (d : Layout B) (b : Bits) (p : ℕ) (H : Holds (c then d) b p)
    → Then c d b p H.found (end (c then d) b p)
then_holds c d b p H =
    let m = then_was c d b p H.found H.behind H.reads in
    let one : Holds c b p = record { found = H.found.0; behind = m.0; reads = m.1 } in
    let place : m.0 ≡ end c b p = sym (end_is one) in
    let other : Holds d b (end c b p) = record { found = H.found.1; behind = H.behind; reads = ap (d.dec b) (sym place) ∙ m.2 } in
    record { first = one; second = other; ends = end_is other ∙ sym (end_is H); one = refl; other = refl }

-- Another type

pub record Same {A : Type 0} (c : Layout A) (b : Bits) (p : ℕ) (t : A → Type 0) (q : ℕ) : Type 0 where
  pub inner : Holds c b p
  pub ends : end c b p ≡ q
  pub is : t inner.found

pub shaped_holds : {A B : Type 0} (out : B → A) (make : A → B) (c : Layout A) (b : Bits) (p : ℕ) (H : Holds (shaped out make c) b p)
    → Same c b p (λ x. make x ≡ H.found) (end (shaped out make c) b p)
shaped_holds out make c b p H =
    let m = shaped_was out make c b p H.found H.behind H.reads in
    let inner : Holds c b p = record { found = m.0; behind = H.behind; reads = m.1 } in
    record { inner = inner; ends = end_is inner ∙ sym (end_is H); is = m.2 }

pub tested_holds : {A : Type 0} (t : A → Bool) (c : Layout A) (b : Bits) (p : ℕ) (H : Holds (tested t c) b p)
    → Same c b p (λ x. (x ≡ H.found) × (t x ≡ true)) (end (tested t c) b p)
tested_holds t c b p H =
    let m = tested_was t c b p H.found H.behind H.reads in
    let inner : Holds c b p = record { found = H.found; behind = H.behind; reads = m.0 } in
    record { inner = inner; ends = end_is inner ∙ sym (end_is H); is = (refl, m.1) }

-- A number

pub num_holds : (w : ℕ) (b : Bits) (p : ℕ) (H : Holds (num w) b p) → (p + w ≤ b.size) × (field b w p ≡ H.found) × (p + w ≡ end (num w) b p)
num_holds w b p H =
    let m = pick_was (leb (p + w) b.size) (field b w p) H.found (p + w) H.behind H.reads in
    (leb-true _ _ m.0, m.1, m.2 ∙ sym (end_is H))

-- A count and as many parts

pub record Counted {A : Type 0} (w : ℕ) (c : Layout A) (b : Bits) (p : ℕ) (x : List A) (q : ℕ) : Type 0 where
  pub fits : p + w ≤ b.size
  pub inner : Holds (row c (field b w p)) b (p + w)
  pub ends : end (row c (field b w p)) b (p + w) ≡ q
  pub is : inner.found ≡ x

pub counted_holds : {A : Type 0} (w : ℕ) (c : Layout A) (b : Bits) (p : ℕ) (H : Holds (counted w c) b p)
    → Counted w c b p H.found (end (counted w c) b p)
counted_holds w c b p H =
    let m = counted_was w c b p H.found H.behind H.reads in
    let n = num_holds w b p (record { found = m.0; behind = m.1; reads = m.2 }) in
    let o = pick_was (leb (p + w) b.size) (field b w p) m.0 (p + w) m.1 m.2 in
    let inner : Holds (row c (field b w p)) b (p + w) =
    record { found = H.found; behind = H.behind; reads = ap (λ (k : ℕ). dec_all c k b (p + w)) o.1 ∙ ap (dec_all c m.0 b) o.2 ∙ m.3 } in
    record { fits = n.0; inner = inner; ends = end_is inner ∙ sym (end_is H); is = refl }

pub record More {A : Type 0} (c : Layout A) (n : ℕ) (b : Bits) (p : ℕ) (x : List A) (q : ℕ) : Type 0 where
  pub first : Holds c b p
  pub rest : Holds (row c n) b (end c b p)
  pub ends : end (row c n) b (end c b p) ≡ q
  pub is : first.found ∷ rest.found ≡ x

pub more_holds : {A : Type 0} (c : Layout A) (n : ℕ) (b : Bits) (p : ℕ) (H : Holds (row c (suc n)) b p) → More c n b p H.found (end (row c (suc n)) b p)
more_holds c n b p H =
    let m = more_was c n b p H.found H.behind H.reads in
    let first : Holds c b p = record { found = m.0; behind = m.2; reads = m.3 } in
    let place : m.2 ≡ end c b p = sym (end_is first) in
    let rest : Holds (row c n) b (end c b p) = record { found = m.1; behind = H.behind; reads = ap (dec_all c n b) (sym place) ∙ m.4 } in
    record { first = first; rest = rest; ends = end_is rest ∙ sym (end_is H); is = m.5 }

pub none_left : {A : Type 0} (c : Layout A) (b : Bits) (p : ℕ) → end (row c 0) b p ≡ p
unfolding end
none_left c b p = refl

pub none_left_value : {A : Type 0} (c : Layout A) (b : Bits) (p : ℕ) → value [] (row c 0) b p ≡ []
unfolding value
none_left_value c b p = refl

-- the list that stands: its first part, and the list of the others
pub more_value : {A : Type 0} (x : A) (c : Layout A) (n : ℕ) (b : Bits) (p : ℕ) (H : Holds (row c (suc n)) b p)
    → value [] (row c (suc n)) b p ≡ value x c b p ∷ value [] (row c n) b (end c b p)
more_value x c n b p H =
    let m = more_holds c n b p H in
    value_is [] H ∙ sym m.is ∙ sym (ap (λ y. y ∷ value [] (row c n) b (end c b p)) (value_is x m.first) ∙ ap (λ l. m.first.found ∷ l) (value_is [] m.rest))

pub row_length : {A : Type 0} (c : Layout A) (n : ℕ) (b : Bits) (p : ℕ) → Holds (row c n) b p → length (value [] (row c n) b p) ≡ n
row_length c zero b p H = ap length (none_left_value c b p)
row_length c (suc n) b p H =
    let m = more_holds c n b p H in
    ap length (more_value m.first.found c n b p H) ∙ ap suc (row_length c n b (end c b p) m.rest)

-- A loop: i parts of n are passed, p is the place of the next, q the place behind them all

pub record Passed {A : Type 0} (c : Layout A) (b : Bits) (n i p q : ℕ) : Type 0 where
  pub within : i ≤ n
  pub left : Holds (row c (n - i)) b p
  pub ends : end (row c (n - i)) b p ≡ q

module _ {A : Type 0} (c : Layout A) (b : Bits) where
  pub row_start : (n p : ℕ) → Holds (row c n) b p → Passed c b n 0 p (end (row c n) b p)
  row_start n p H = let e : n - 0 ≡ n = omega arith in record { within = omega arith; left = rw e H; ends = rw e }

  pub counted_start : (w p : ℕ) → Holds (counted w c) b p → (n : ℕ) → n ≡ field b w p → Passed c b n 0 (p + w) (end (counted w c) b p)
  counted_start w p H n e =
      let m = counted_holds w c b p H in
      let s = row_start (field b w p) (p + w) m.inner in
      let t : Passed c b (field b w p) 0 (p + w) (end (counted w c) b p) = record { within = s.within; left = s.left; ends = s.ends ∙ m.ends } in
      subst (λ (n : ℕ). Passed c b n 0 (p + w) (end (counted w c) b p)) (sym e) t

  module _ (n i p q : ℕ) (P : Passed c b n i p q) where
    pub passed_end : n ≤ i → p ≡ q
    passed_end h = let e : n - i ≡ 0 = omega arith in sym (none_left c b p) ∙ sym (ap (λ (k : ℕ). end (row c k) b p) e) ∙ P.ends

    module _ (h : i < n) where
      one_more_left : suc (n - (i + 1)) ≡ n - i
      one_more_left = omega arith

      pub passed_row : Holds (row c (suc (n - (i + 1)))) b p
      passed_row = subst (λ (k : ℕ). Holds (row c k) b p) (sym one_more_left) P.left

      passed_more : More c (n - (i + 1)) b p passed_row.found (end (row c (suc (n - (i + 1)))) b p)
      passed_more = more_holds c (n - (i + 1)) b p passed_row

      pub passed_first : Holds c b p
      passed_first = passed_more.first

      pub passed_again : (r : ℕ) → r ≡ end c b p → Passed c b n (i + 1) r q
      passed_again r e = record {
        within = omega arith;
        left = moved (row c (n - (i + 1))) b (end c b p) r (sym e) passed_more.rest;
        ends = ap (end (row c (n - (i + 1))) b) e ∙ passed_more.ends ∙ ap (λ (k : ℕ). end (row c k) b p) one_more_left ∙ P.ends;
      }

      -- the list from here on
      pub passed_value : (x : A) → value [] (row c (n - i)) b p ≡ value x c b p ∷ value [] (row c (n - (i + 1))) b (end c b p)
      passed_value x = sym (ap (λ (k : ℕ). value [] (row c k) b p) one_more_left) ∙ more_value x c (n - (i + 1)) b p passed_row

-- A tag

module _ {A B : Type 0} (out : B → A) (make : A → B) (w : ℕ) (d : Choice A) (b : Bits) (p : ℕ) (H : Holds (shaped out make (tagged w d)) b p) where
  tag_was : (y : A) × (d.dec (field b w p) b (p + w) ≡ read y H.behind) × (make y ≡ H.found) × (p + w ≤ b.size)
  tag_was =
      let s = shaped_was out make (tagged w d) b p H.found H.behind H.reads in
      let t = tagged_was w d b p s.0 H.behind s.1 in
      let o = pick_was (leb (p + w) b.size) (field b w p) t.0 (p + w) t.1 t.2 in
      (s.0, ap (λ (k : ℕ). d.dec k b (p + w)) o.1 ∙ ap (d.dec t.0 b) o.2 ∙ t.3, s.2, leb-true _ _ o.0)

  pub tag_fits : p + w ≤ b.size
  tag_fits = tag_was.3

  tag_at : (k : ℕ) → field b w p ≡ k → d.dec k b (p + w) ≡ read tag_was.0 H.behind
  tag_at k e = ap (λ (k : ℕ). d.dec k b (p + w)) (sym e) ∙ tag_was.1

  pub kind_holds : {C : Type 0} (k : ℕ) (c : Layout C) (i : C → A) → Arm d k c i → field b w p ≡ k
      → Same c b (p + w) (λ x. make (i x) ≡ H.found) (end (shaped out make (tagged w d)) b p)
  kind_holds k c i arm e =
      let m = mapped_was (c.dec b (p + w)) i tag_was.0 H.behind (sym (arm.reads b (p + w)) ∙ tag_at k e) in
      let inner : Holds c b (p + w) = record { found = m.0; behind = H.behind; reads = m.1 } in
      record { inner = inner; ends = end_is inner ∙ sym (end_is H); is = ap make m.2 ∙ tag_was.2 }

  -- nothing stands behind the tag
  pub kind_stood : (k : ℕ) (x : A) → ((q : ℕ) → d.dec k b q ≡ read x q) → field b w p ≡ k → (p + w ≡ end (shaped out make (tagged w d)) b p) × (make x ≡ H.found)
  kind_stood k x arm e =
      let f = sym (arm (p + w)) ∙ tag_at k e in
      let g : p + w ≡ H.behind = cc in
      let h : x ≡ tag_was.0 = cc in
      (g ∙ sym (end_is H), ap make h ∙ tag_was.2)

  pub kind_never : {C : Type 0} (k : ℕ) → ((q : ℕ) → d.dec k b q ≡ broken) → field b w p ≡ k → C
  kind_never k arm e = not_read (sym (arm (p + w)) ∙ tag_at k e)

-- A string

module _ (b : Bits) (p : ℕ) (H : Holds string b p) where
  pub string_found : text_at b p ≡ H.found
  string_found = (string_was b p H.found H.behind H.reads).0

  pub string_end : p + 16 + 8 * field b 16 p ≡ end string b p
  string_end = (string_was b p H.found H.behind H.reads).1 ∙ sym (end_is H)

  pub string_in : p + 16 + 8 * field b 16 p ≤ b.size
  string_in = let m = string_was b p H.found H.behind H.reads in omega (arith, m.1, m.2)
