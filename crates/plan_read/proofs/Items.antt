-- The loop over the items of an array or an object: what is left to read decides what the whole comes to.
use mathlib.Core.List.{List, append-nil}
use mathlib.Core.Path.{◌≡◌, refl, sym, ap, ◌∙◌, subst}
use Prim.Native.Nat.{ℕ, zero, suc, ◌+◌, ◌≤◌, ◌<◌}
use native.Mathlib.Omega.{arith}
use lib.ListN.{length}
use lib.Seq.{sets}
use borrow.Author.Tests.{eq-eqb, ne_eqb}
use Rattle.rules.specs.Bytes.{Bytes, byte_at}
use Rattle.rules.specs.Scan.{spaces_end}
use Rattle.rules.specs.Tree.{Tree, tree_nil, Value, no_value, value, Values, no_values, values, Reader}
use Rattle.rules.specs.Tree.{item_place, item_name, item, prepend, joined, behind, items}
use Rattle.rules.specs.Plan.{size, refused}
use Rattle.scan.proofs.Bounds.{in_text, spaces_go}
use Rattle.plan_read.specs.Table.{entries, entries_all}
use Rattle.plan_read.specs.Reading.{Met, Meets, MeetsAll}
use Rattle.plan_read.specs.declared.Read.{Read}
use Rattle.plan_read.proofs.Stored.{sets_append, entries_length}
use Rattle.plan_read.proofs.Opens.{place_goes}
use Rattle.plan_read.proofs.Values.{reading, Fine, fine_value}

-- An item, read at p, and what stands behind it: f of the place behind the item
module _ (s : Bytes) (j p m b : ℕ) (tab : List ℕ) (jp : j ≤ p) (f : ℕ → Values) (r : Read) (mid : List ℕ) where
  join_none : (v : Value) → Meets s p m b tab v r mid → r.at ≡ 0 → MeetsAll s j m b tab (joined v f) r mid
  join_none no_value h z = z
  join_none (value t e) h z = absurd (omega (arith, h.place, h.something))

  module _ (ne : r.at ≡ 0 → ⊥) where
    join_broken : (v : Value) (q : Read) → Meets s p m b tab v r mid → f r.at ≡ no_values → q.at ≡ 0 → MeetsAll s j m b tab (joined v f) q mid
    join_broken no_value q h k z = absurd (ne h)
    join_broken (value t e) q h k z = rw (ap f (sym h.place) ∙ k) z

    join_end : (v : Value) (x : ℕ) → Meets s p m b tab v r mid → f r.at ≡ values tree_nil x → r.at ≤ x → x ≤ length s
        → MeetsAll s j m b tab (joined v f) (reading x r.count r.bad) mid
    join_end no_value x h k le ls = absurd (ne h)
    join_end (value t e) x h k le ls = rw (ap f (sym h.place) ∙ k) (record {
      place = refl;
      number = omega (arith, h.number);
      wrong = omega (arith, h.wrong);
      table = h.table ∙ ap (λ (l : List ℕ). sets tab m l) (sym (append-nil (entries m t)));
      goes = omega (arith, h.goes, h.place);
      within = ls;
      few = omega (arith, h.few);
      something = omega (arith, h.something, h.place);
    })

    prepend_met : (t : Tree) (e q : ℕ) (z : Read) (after : List ℕ) → Met s p m b tab (size t) (refused s t) (entries m t) e r mid → r.at ≤ q
        → (w : Values) → MeetsAll s q r.count r.bad mid w z after → MeetsAll s j m b tab (prepend t w) z after
    prepend_met t e q z after h le no_values k = k
    prepend_met t e q z after h le (values l x) k = record {
      place = k.place;
      number = omega (arith, k.number, h.number);
      wrong = omega (arith, k.wrong, h.wrong);
      table =
          k.table
          ∙ ap (λ (y : List ℕ). sets y r.count (entries_all r.count l)) h.table
          ∙ ap (λ (y : ℕ). sets (sets tab m (entries m t)) y (entries_all y l)) h.number
          ∙ ap (λ (y : ℕ). sets (sets tab m (entries m t)) (m + y) (entries_all (m + size t) l)) (sym (entries_length t m))
          ∙ sym (sets_append (entries m t) (entries_all (m + size t) l) tab m);
      goes = omega (arith, k.goes, h.goes, h.place);
      within = k.within;
      few = omega (arith, k.few, h.few);
      something = k.something;
    }

    join_more : (v : Value) (q : ℕ) (z : Read) (after : List ℕ) → Meets s p m b tab v r mid → r.at ≤ q
        → MeetsAll s q r.count r.bad mid (f r.at) z after → MeetsAll s j m b tab (joined v f) z after
    join_more no_value q z after h le k = absurd (ne h)
    join_more (value t e) q z after h le k =
        prepend_met t e q z after h le (f e) (subst (λ (y : ℕ). MeetsAll s q r.count r.bad mid (f y) z after) h.place k)

-- The items at j, of which fuel is the number at most

next_items : Bytes → Reader → ℕ → ℕ → ℕ → Values
next_items s v close k e = behind s close (λ q. items s v close k q) (spaces_end s e)

items_none : (s : Bytes) (v : Reader) (close k j : ℕ) → item_place s close j ≡ 0 → items s v close (suc k) j ≡ no_values
unfolding items item
items_none s v close k j z = rw (eq-eqb (item_place s close j) 0 z)

items_step : (s : Bytes) (v : Reader) (close k j p nm : ℕ) → p ≡ item_place s close j → (p ≡ 0 → ⊥) → nm ≡ item_name close j
    → items s v close (suc k) j ≡ joined (v p nm) (next_items s v close k)
unfolding items item next_items
items_step s v close k j p nm hp ne hn = rw (← hp, ne_eqb p 0 ne, ← hn)

-- the byte c stands at e, behind an item and white space
module _ (s : Bytes) (close e c : ℕ) (v : Reader) (k at : ℕ) (he : e ≡ spaces_end s at) (hc : c ≡ byte_at s e) where
  next_end : c ≡ close → next_items s v close k at ≡ values tree_nil (e + 1)
  unfolding next_items behind
  next_end h = rw (← he, ← hc, eq-eqb c close h)

  next_broken : (c ≡ close → ⊥) → (c ≡ 44 → ⊥) → next_items s v close k at ≡ no_values
  unfolding next_items behind
  next_broken h g = rw (← he, ← hc, ne_eqb c close h, ne_eqb c 44 g)

  next_more : (c ≡ close → ⊥) → c ≡ 44 → (q : ℕ) → q ≡ spaces_end s (e + 1) → next_items s v close k at ≡ items s v close k q
  unfolding next_items behind
  next_more h g q hq = rw (← he, ← hc, ne_eqb c close h, eq-eqb c 44 g, ← hq)

-- the loop has come from i to j: what the items from j on come to, all of them do
pub record Left (s : Bytes) (v : Reader) (close i n b : ℕ) (tab₀ : List ℕ) (j m c : ℕ) (tab : List ℕ) : Type 0 where
  pub fuel : ℕ
  pub enough : length s < fuel + j
  pub here : j ≤ length s
  pub low : m ≤ j
  pub few : c ≤ m
  pub kept : length tab ≡ length tab₀
  pub rest : (r : Read) (after : List ℕ) → MeetsAll s j m c tab (items s v close fuel j) r after → MeetsAll s i n b tab₀ (items s v close (suc (length s)) i) r after

pub left_start : (s : Bytes) (v : Reader) (close i n b : ℕ) (tab : List ℕ) → i ≤ length s → n ≤ i → b ≤ n → Left s v close i n b tab i n b tab
left_start s v close i n b tab le ln lb =
    record { fuel = suc (length s); enough = omega arith; here = le; low = ln; few = lb; kept = refl; rest = λ r after h. h }

module _ {s : Bytes} {v : Reader} {close i n b : ℕ} {tab₀ : List ℕ} {j m w : ℕ} {tab : List ℕ} (g : Left s v close i n b tab₀ j m w tab) where
  -- some fuel is left
  by_fuel : (r : Read) (after : List ℕ) → ((k : ℕ) → MeetsAll s j m w tab (items s v close (suc k) j) r after)
      → MeetsAll s i n b tab₀ (items s v close (suc (length s)) i) r after
  by_fuel r after h = go g.fuel g.enough g.rest
    where
      go : (k : ℕ) → length s < k + j
          → ((r : Read) (after : List ℕ) → MeetsAll s j m w tab (items s v close k j) r after → MeetsAll s i n b tab₀ (items s v close (suc (length s)) i) r after)
          → MeetsAll s i n b tab₀ (items s v close (suc (length s)) i) r after
      go zero e f = absurd (omega (arith, g.here))
      go (suc k) e f = f r after (h k)

  pub turn_none : (r : Read) → item_place s close j ≡ 0 → r.at ≡ 0 → MeetsAll s i n b tab₀ (items s v close (suc (length s)) i) r tab
  turn_none r z h = by_fuel r tab (λ k. rw (items_none s v close k j z) h)

  -- the item's value was read at p
  module _ (p nm : ℕ) (hp : p ≡ item_place s close j) (pn : p ≡ 0 → ⊥) (hn : nm ≡ item_name close j) (r : Read) (mid : List ℕ) (h : Meets s p m w tab (v p nm) r mid) where
    up : j ≤ p
    up =
        let o = (place_goes s close j g.here).on (λ z. pn (hp ∙ z)) in
        omega arith

    pub turn_broken : r.at ≡ 0 → MeetsAll s i n b tab₀ (items s v close (suc (length s)) i) r mid
    turn_broken z =
        by_fuel r mid (λ k. rw (items_step s v close k j p nm hp pn hn) (join_none s j p m w tab up (next_items s v close k) r mid (v p nm) h z))

    module _ (ne : r.at ≡ 0 → ⊥) where
      pub turn_fine : Fine s p r
      turn_fine = fine_value s p m w tab r mid (v p nm) h ne (let o = up in omega (arith, g.low)) g.few

      module _ (e c : ℕ) (he : e ≡ spaces_end s r.at) (hc : c ≡ byte_at s e) where
        -- what closes stands within the text, as it is not 0
        pub turn_end : c ≡ close → (close ≡ 0 → ⊥) → MeetsAll s i n b tab₀ (items s v close (suc (length s)) i) (reading (e + 1) r.count r.bad) mid
        turn_end q cn =
            let l = in_text s e (λ z. cn (sym q ∙ hc ∙ z)) in
            by_fuel (reading (e + 1) r.count r.bad) mid
            (λ k. rw (items_step s v close k j p nm hp pn hn)
            (join_end s j p m w tab up (next_items s v close k) r mid ne (v p nm) (e + 1) h (next_end s close e c v k r.at he hc q) (omega arith) (omega arith)))

        pub turn_stop : (z : Read) → (c ≡ close → ⊥) → (c ≡ 44 → ⊥) → z.at ≡ 0 → MeetsAll s i n b tab₀ (items s v close (suc (length s)) i) z mid
        turn_stop z q q4 hz =
            by_fuel z mid
            (λ k. rw (items_step s v close k j p nm hp pn hn)
            (join_broken s j p m w tab up (next_items s v close k) r mid ne (v p nm) z h (next_broken s close e c v k r.at he hc q q4) hz))

        pub turn_down : (q : ℕ) → q ≡ spaces_end s (e + 1) → j < q
        turn_down q hq =
            let o = up in
            omega (arith, turn_fine.up)

        pub turn_on : (c ≡ close → ⊥) → c ≡ 44 → (q : ℕ) → q ≡ spaces_end s (e + 1) → length mid ≡ length tab → Left s v close i n b tab₀ q r.count r.bad mid
        turn_on cn c4 q hq hl = go g.fuel g.enough g.rest
          where
            inside : e < length s
            inside = in_text s e (λ z. omega arith)

            go : (k : ℕ) → length s < k + j
                → ((r : Read) (after : List ℕ) → MeetsAll s j m w tab (items s v close k j) r after → MeetsAll s i n b tab₀ (items s v close (suc (length s)) i) r after)
                → Left s v close i n b tab₀ q r.count r.bad mid
            go zero x f = absurd (omega (arith, g.here))
            go (suc k) x f =
                let o = up in
                let y = inside in
                let z = spaces_go s (e + 1) (omega arith) in
                let d = turn_fine in
                record {
                  fuel = k;
                  enough = omega (arith, d.up);
                  here = omega (arith, z.within);
                  low = omega (arith, d.low);
                  few = d.few;
                  kept = hl ∙ g.kept;
                  rest = λ u after t. f u after
                      (rw (items_step s v close k j p nm hp pn hn)
                      (join_more s j p m w tab up (next_items s v close k) r mid ne (v p nm) q u after h (omega arith)
                      (rw (next_more s close e c v k r.at he hc cn c4 q hq) t)));
                }
