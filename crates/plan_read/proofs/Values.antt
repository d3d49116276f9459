-- The ways through the reader of a value: one law for each.
use mathlib.Core.Bool.{true, false}
use mathlib.Core.List.{List}
use mathlib.Core.Path.{◌≡◌, refl, ap, ◌∙◌}
use Prim.Native.Nat.{ℕ, zero, suc, ◌+◌, ◌≤◌, ◌<◌}
use native.Mathlib.Numerals.{add-one}
use native.Mathlib.Omega.{arith}
use lib.ListN.{length, set}
use lib.Seq.{sets}
use borrow.Author.Tests.{eq-eqb, ne_eqb}
use Rattle.rules.specs.Bytes.{Bytes, byte_at}
use Rattle.rules.specs.Scan.{spaces_end, scalar_end}
use Rattle.rules.specs.Tree.{Value, no_value, value, Values, no_values, values, Reader, leaf, is_open, items, whole, container, value_of}
use Rattle.rules.specs.Plan.{size, sizes, refused, refused_all, refused_at}
use Rattle.scan.proofs.Bounds.{in_text}
use Rattle.plan_read.specs.Table.{entry, entries, entries_all}
use Rattle.plan_read.specs.Reading.{Met, Meets, MeetsAll}
use Rattle.plan_read.specs.declared.Read.{Read}
use Rattle.plan_read.proofs.Stored.{sets_before}
use Rattle.plan_read.proofs.Opens.{scalar_goes, refused_most, open_refused}

abbrev pub reading : ℕ → ℕ → ℕ → Read
reading e n b = record { at = e; count = n; bad = b }

module _ (s : Bytes) (i name n b : ℕ) (tab : List ℕ) where
  -- a value without others in it
  pub leaf_none : (r : Read) (after : List ℕ) → scalar_end s i ≡ 0 → r.at ≡ 0 → Meets s i n b tab (leaf s i name) r after
  unfolding leaf
  leaf_none r after z h = rw (eq-eqb (scalar_end s i) 0 z) h

  pub leaf_met : (e w : ℕ) (after : List ℕ) → e ≡ scalar_end s i → (e ≡ 0 → ⊥) → w ≡ refused_at s i → i ≤ length s → after ≡ set tab n (entry i name (n + 1))
      → Meets s i n b tab (leaf s i name) (reading e (n + 1) (b + w)) after
  unfolding leaf
  leaf_met e w after he ne hw le ha =
      let g = scalar_goes s i le in
      let o = g.on (λ z. ne (he ∙ z)) in
      rw (← he, ne_eqb e 0 ne) (record {
        place = refl;
        number = refl;
        wrong = omega arith;
        table = ha;
        goes = omega arith;
        within = omega arith;
        few = omega (arith, refused_most s i);
        something = omega arith;
      })

  pub value_leaf : (d : ℕ) (r : Read) (after : List ℕ) → is_open (byte_at s i) ≡ false → Meets s i n b tab (leaf s i name) r after
      → Meets s i n b tab (value_of s d i name) r after
  unfolding value_of
  value_leaf zero r after h m = rw h m
  value_leaf (suc d) r after h m = rw h m

  -- an array or an object that is too deep
  pub value_deep : (d : ℕ) (r : Read) (after : List ℕ) → is_open (byte_at s i) ≡ true → d ≡ 0 → r.at ≡ 0 → Meets s i n b tab (value_of s d i name) r after
  unfolding value_of
  value_deep zero r after h z m = rw h m
  value_deep (suc d) r after h z m = absurd (omega arith)

  -- nothing inside
  container_empty : (v : Reader) (j : ℕ) (after : List ℕ) → is_open (byte_at s i) ≡ true → j ≡ spaces_end s (i + 1) → byte_at s j ≡ byte_at s i + 2
      → after ≡ set tab n (entry i name (n + 1)) → Meets s i n b tab (container s v i name) (reading (j + 1) (n + 1) b) after
  unfolding container
  container_empty v j after o hj hc ha =
      let z = open_refused s i o in
      let l = in_text s j (λ e. omega arith) in
      rw (← hj, eq-eqb (byte_at s j) (byte_at s i + 2) hc) (record {
        place = refl;
        number = refl;
        wrong = omega arith;
        table = ha;
        goes = omega arith;
        within = omega arith;
        few = omega arith;
        something = omega arith;
      })

  pub value_empty : (d left j : ℕ) (after : List ℕ) → left ≡ suc d → is_open (byte_at s i) ≡ true → j ≡ spaces_end s (i + 1) → byte_at s j ≡ byte_at s i + 2
      → after ≡ set tab n (entry i name (n + 1)) → Meets s i n b tab (value_of s left i name) (reading (j + 1) (n + 1) b) after
  unfolding value_of
  value_empty d left j after hd o hj hc ha = rw (hd, o) (container_empty (λ q m. value_of s d q m) j after o hj hc ha)

  -- items inside: their entries stand behind the value's own, which is stored last
  whole_met : (j : ℕ) (r : Read) (mid after : List ℕ) (w : Values) → MeetsAll s j (n + 1) b tab w r mid → (r.at ≡ 0 → ⊥)
      → after ≡ set mid n (entry i name r.count) → i < j → refused_at s i ≡ 0 → Meets s i n b tab (whole i name w) r after
  whole_met j r mid after no_values m ne ha lt z = absurd (ne m)
  whole_met j r mid after (values l e) m ne ha lt z =
      let c : r.count ≡ n + (1 + sizes l) = omega (arith, m.number) in
      record {
        place = m.place;
        number = c;
        wrong = omega (arith, m.wrong);
        table =
            ha
            ∙ ap (λ (q : List ℕ). set q n (entry i name r.count)) m.table
            ∙ sets_before (entries_all (n + 1) l) tab n (n + 1) (entry i name r.count) (omega arith)
            ∙ ap (λ (k : ℕ). sets (set tab n (entry i name k)) (n + 1) (entries_all (n + 1) l)) c
            ∙ ap (λ (k : ℕ). sets (set tab n (entry i name (n + (1 + sizes l)))) k (entries_all (n + 1) l)) (add-one n);
        goes = omega (arith, m.goes);
        within = m.within;
        few = omega (arith, m.few);
        something = m.something;
      }

  whole_none : (j : ℕ) (r : Read) (after : List ℕ) (w : Values) → MeetsAll s j (n + 1) b tab w r after → r.at ≡ 0 → Meets s i n b tab (whole i name w) r after
  whole_none j r after no_values m z = z
  whole_none j r after (values l e) m z = absurd (omega (arith, m.place, m.something))

  module _ (d left j close : ℕ) (r : Read) (mid : List ℕ) (hd : left ≡ suc d) (o : is_open (byte_at s i) ≡ true) (hj : j ≡ spaces_end s (i + 1))
      (hc : close ≡ byte_at s i + 2) (hn : byte_at s j ≡ close → ⊥) (m : MeetsAll s j (n + 1) b tab (items s (value_of s d) close (suc (length s)) j) r mid) where
    inside : (after : List ℕ) → Meets s i n b tab (whole i name (items s (value_of s d) close (suc (length s)) j)) r after
        → Meets s i n b tab (value_of s left i name) r after
    unfolding value_of container
    inside after h = rw (hd, o, ← hj, ← hc, ne_eqb (byte_at s j) close hn) h

    pub value_items : (after : List ℕ) → (r.at ≡ 0 → ⊥) → after ≡ set mid n (entry i name r.count) → Meets s i n b tab (value_of s left i name) r after
    value_items after ne ha =
        inside after (whole_met j r mid after (items s (value_of s d) close (suc (length s)) j) m ne ha (omega arith) (open_refused s i o))

    pub value_none : r.at ≡ 0 → Meets s i n b tab (value_of s left i name) r mid
    value_none z = inside mid (whole_none j r mid (items s (value_of s d) close (suc (length s)) j) m z)

-- what was read stands within the text, and the counts are small
pub record Fine (s : Bytes) (i : ℕ) (r : Read) : Type 0 where
  pub inside : r.at ≤ length s
  pub up : i ≤ r.at
  pub low : r.count ≤ r.at
  pub few : r.bad ≤ r.count

met_fine : {s : Bytes} {i n b : ℕ} {tab : List ℕ} {more worse e : ℕ} {es : List ℕ} {r : Read} {after : List ℕ}
    → Met s i n b tab more worse es e r after → n ≤ i → b ≤ n → Fine s i r
met_fine h ln lb = record {
  inside = omega (arith, h.place, h.within);
  up = omega (arith, h.place, h.goes);
  low = omega (arith, h.place, h.goes, h.number);
  few = omega (arith, h.wrong, h.number, h.few);
}

pub fine_value : (s : Bytes) (i n b : ℕ) (tab : List ℕ) (r : Read) (after : List ℕ) (v : Value) → Meets s i n b tab v r after → (r.at ≡ 0 → ⊥) → n ≤ i → b ≤ n → Fine s i r
fine_value s i n b tab r after no_value h ne ln lb = absurd (ne h)
fine_value s i n b tab r after (value t e) h ne ln lb = met_fine h ln lb

pub fine_values : (s : Bytes) (i n b : ℕ) (tab : List ℕ) (r : Read) (after : List ℕ) (v : Values) → MeetsAll s i n b tab v r after → (r.at ≡ 0 → ⊥) → n ≤ i → b ≤ n → Fine s i r
fine_values s i n b tab r after no_values h ne ln lb = absurd (ne h)
fine_values s i n b tab r after (values l e) h ne ln lb = met_fine h ln lb
