-- Laws of hash pairs: where they stand, and what is found where they are stored.
use Rattle.std.specs.Prelude.{ℕ, zero, suc, ◌+◌, ◌-◌, ◌*◌, ◌/◌, ◌%◌, ◌≤◌, ◌<◌, Bool, true, false, ◌&&◌, List, [], ◌∷◌, ◌≡◌, refl, eqb, length, get_or}
use Rattle.std.proofs.Common.{sym, ap, ap₂, ◌∙◌, subst, arith, eqb-true}
use Rattle.std.proofs.lemmas.Bool.{eqb-false}
use Rattle.rules.specs.Bytes.{Bytes, before}
use Rattle.rules.specs.Order.{and_left, and_right}
use Rattle.rules.specs.Bits.{Bits}
use Rattle.rules.specs.Layout.{field, ◌then◌, counted}
use Rattle.rules.specs.LayoutLaws.{Binary, field_lt}
use Rattle.rules.specs.Bundle.{string, param, call_of, ascend_from, ascending}
use Rattle.rules.specs.Template.{Parameter}
use Rattle.layout.specs.Text.{text_at}
use Rattle.parts.specs.Holds.{Holds, end, value, row}
use Rattle.parts.specs.HoldsLaws.{value_is, then_holds, tested_holds, counted_holds, more_holds, more_value, string_found}
use Rattle.calls.specs.declared.Call.{Call}
use Rattle.calls.specs.Calls.{params_end, call_view, call_pairs}
use Rattle.meaning.specs.Entries.{low, high, place}
use Rattle.meaning.specs.Kept.{Agree}
use Rattle.entries.specs.Stored.{stored, stored_length, stored_other, stored_low, stored_high, stored_place}
use Rattle.including.specs.Values.{pair_place}
use Rattle.including.specs.Pairs.{PairsStand, with_pairs}

-- Where they stand

module _ (d : ℕ) (b : Bits) where
  -- from the second on
  place_later : (p i : ℕ) → pair_place d b (end (string then param d) b p) i ≡ pair_place d b p (suc i)
  place_later p zero = refl
  place_later p (suc i) = ap (end (string then param d) b) (place_later p i)

  -- i of them are passed
  pub pairs_behind : (p n i : ℕ) → Holds (row (string then param d) (i + n)) b p → Holds (row (string then param d) n) b (pair_place d b p i)
  pairs_behind p n zero H = let e : 0 + n ≡ n = omega arith in subst (λ (k : ℕ). Holds (row (string then param d) k) b p) e H
  pairs_behind p n (suc i) H =
      let e : suc i + n ≡ i + suc n = omega arith in
      (more_holds (string then param d) n b (pair_place d b p i) (pairs_behind p (suc n) i (subst (λ (k : ℕ). Holds (row (string then param d) k) b p) e H))).rest

  pub pair_holds : (p n i : ℕ) → i < n → Holds (row (string then param d) n) b p → Holds (string then param d) b (pair_place d b p i)
  pair_holds p n i lt H =
      let k : ℕ = n - suc i in
      let e : n ≡ i + suc k = omega arith in
      (more_holds (string then param d) k b (pair_place d b p i) (pairs_behind p (suc k) i (subst (λ (x : ℕ). Holds (row (string then param d) x) b p) e H))).first

  pub key_holds : (p n i : ℕ) → i < n → Holds (row (string then param d) n) b p → Holds string b (pair_place d b p i)
  key_holds p n i lt H = (then_holds string (param d) b (pair_place d b p i) (pair_holds p n i lt H)).first

  -- Their keys ascend

  first_pair : (p n : ℕ) (H : Holds (row (string then param d) (suc n)) b p)
      → (x : Parameter) × (value [] (row (string then param d) (suc n)) b p ≡ (text_at b p, x) ∷ value [] (row (string then param d) n) b (end (string then param d) b p))
  first_pair p n H =
      let m = more_holds (string then param d) n b p H in
      let t = then_holds string (param d) b p m.first in (
        m.first.found.1,
        more_value m.first.found (string then param d) n b p H
            ∙ ap (λ (y : Bytes × Parameter). y ∷ value [] (row (string then param d) n) b (end (string then param d) b p)) (value_is m.first.found m.first)
            ∙ ap (λ (k : Bytes). (k, m.first.found.1) ∷ value [] (row (string then param d) n) b (end (string then param d) b p)) (sym (string_found b p t.first ∙ t.one)),
      )

  -- the n pairs at p, behind the key k
  record AscendFrom (k : Bytes) (n p : ℕ) : Type 0 where
    first : 0 < n → before k (text_at b p) ≡ true
    others : (i : ℕ) → suc i < n → before (text_at b (pair_place d b p i)) (text_at b (pair_place d b p (suc i))) ≡ true

  one_before : (n p : ℕ) → AscendFrom (text_at b p) n (end (string then param d) b p) → (i : ℕ) → i < n
      → before (text_at b (pair_place d b p i)) (text_at b (pair_place d b p (suc i))) ≡ true
  one_before n p later zero lt = later.first lt
  one_before n p later (suc i) lt = ap₂ (λ (x y : ℕ). before (text_at b x) (text_at b y)) (sym (place_later p i)) (sym (place_later p (suc i))) ∙ later.others i lt

  keys_from : (n p : ℕ) → Holds (row (string then param d) n) b p → (k : Bytes) → ascend_from k (value [] (row (string then param d) n) b p) ≡ true → AscendFrom k n p
  keys_from zero p H k a = record { first = λ lt. absurd (omega arith); others = λ i lt. absurd (omega arith) }
  keys_from (suc n) p H k a =
      let more = value [] (row (string then param d) n) b (end (string then param d) b p) in
      let r : (before k (text_at b p) && ascend_from (text_at b p) more) ≡ true = sym (ap (ascend_from k) (first_pair p n H).1) ∙ a in
      let later = keys_from n (end (string then param d) b p) (more_holds (string then param d) n b p H).rest (text_at b p) (and_right (before k (text_at b p)) (ascend_from (text_at b p) more) r) in
      record { first = λ lt. and_left (before k (text_at b p)) (ascend_from (text_at b p) more) r; others = λ i lt. one_before n p later i (omega arith) }

  pub pairs_ascend : (n p : ℕ) → Holds (row (string then param d) n) b p → ascending (value [] (row (string then param d) n) b p) ≡ true
      → (i : ℕ) → suc i < n → before (text_at b (pair_place d b p i)) (text_at b (pair_place d b p (suc i))) ≡ true
  pairs_ascend zero p H a i lt = absurd (omega arith)
  pairs_ascend (suc n) p H a i lt =
      let later = keys_from n (end (string then param d) b p) (more_holds (string then param d) n b p H).rest (text_at b p) (sym (ap ascending (first_pair p n H).1) ∙ a) in
      one_before n p later i (omega arith)

  -- those of a call
  pub call_pairs_stand : (p : ℕ) (v : Call) → Binary b → Holds (call_of (param d)) b p → v ≡ call_view d b p → PairsStand b d v.pair v.pairs
  call_pairs_stand p v bin H e = subst (λ (x : Call). PairsStand b d x.pair x.pairs) (sym e) stand
    where
      stand : PairsStand b d (params_end d b p + 4) (field b 4 (params_end d b p))
      stand =
          let t = tested_holds ascending (counted 4 (string then param d)) b (params_end d b p) (call_pairs d b p H) in
          let c = counted_holds 4 (string then param d) b (params_end d b p) t.inner in
          record {
            few = field_lt b bin 4 (params_end d b p);
            holds = c.inner;
            ascend = pairs_ascend (field b 4 (params_end d b p)) (params_end d b p + 4) c.inner (ap ascending (value_is [] c.inner ∙ c.is) ∙ t.is.1);
          }

-- Where they are stored

-- the entry e has a value, a base and the place of a key
pub record PairAt (ent : List ℕ) (e v w q : ℕ) : Type 0 where
  pub value : low ent e ≡ v
  pub base : high ent e ≡ w
  pub key : place ent e ≡ q

module _ (ent : List ℕ) (b : Bits) (t base : ℕ) (l : List ℕ) (d p : ℕ) where
  abbrev before_it : ℕ → List ℕ
  before_it n = with_pairs ent b t base l d p n

  pub pairs_length : (n : ℕ) → length (with_pairs ent b t base l d p n) ≡ length ent
  pairs_length zero = refl
  pairs_length (suc n) = stored_length (with_pairs ent b t base l d p n) (t + n) (get_or l n 0) base (pair_place d b p n) ∙ pairs_length n

  pub pairs_agree : (n : ℕ) → Agree ent (with_pairs ent b t base l d p n) t
  pairs_agree zero = record { same = λ i lt. refl }
  pairs_agree (suc n) =
      record {
        same = λ i lt.
            (pairs_agree n).same i lt
            ∙ sym (stored_other (with_pairs ent b t base l d p n) (t + n) (get_or l n 0) base (pair_place d b p n) i (λ z. omega arith) (λ z. omega arith));
      }

  pub pair_stored : base < 4294967296 → (n : ℕ) → 2 * (t + n) ≤ length ent → ((i : ℕ) → i < n → get_or l i 0 < 4294967296)
      → (i : ℕ) → i < n → PairAt (with_pairs ent b t base l d p n) (t + i) (get_or l i 0) base (pair_place d b p i)
  pair_stored near zero room small i lt = absurd (omega arith)
  pair_stored near (suc n) room small i lt = go (eqb i n) refl (pair_stored near n (omega arith) (λ j lt. small j (omega arith)) i)
    where
      within : 2 * (t + n) + 1 < length (with_pairs ent b t base l d p n)
      within = omega (arith, pairs_length n)

      go : (y : Bool) → eqb i n ≡ y → (i < n → PairAt (before_it n) (t + i) (get_or l i 0) base (pair_place d b p i)) → PairAt (stored (before_it n) (t + n) (get_or l n 0) base (pair_place d b p n)) (t + i) (get_or l i 0) base (pair_place d b p i)
      go true e earlier =
          subst (λ (j : ℕ). PairAt (stored (before_it n) (t + n) (get_or l n 0) base (pair_place d b p n)) (t + j) (get_or l j 0) base (pair_place d b p j)) (sym (eqb-true i n e))
          (record {
            value = stored_low (before_it n) (t + n) (get_or l n 0) base (pair_place d b p n) within (small n (omega arith));
            base = stored_high (before_it n) (t + n) (get_or l n 0) base (pair_place d b p n) within (small n (omega arith)) near;
            key = stored_place (before_it n) (t + n) (get_or l n 0) base (pair_place d b p n) within;
          })
      go false e earlier =
          let ne : i ≡ n → ⊥ = eqb-false i n e in
          let h = earlier (omega (arith, ne)) in
          let x = stored_other (before_it n) (t + n) (get_or l n 0) base (pair_place d b p n) (2 * (t + i)) (λ z. omega (arith, ne)) (λ z. omega arith) in
          let y = stored_other (before_it n) (t + n) (get_or l n 0) base (pair_place d b p n) (2 * (t + i) + 1) (λ z. omega arith) (λ z. omega (arith, ne)) in
          record { value = ap (λ (w : ℕ). w % 4294967296) x ∙ h.value; base = ap (λ (w : ℕ). w / 4294967296 % 4294967296) x ∙ h.base; key = y ∙ h.key }
