-- The whole reader: the answer's number and the table belong together.
use mathlib.Core.List.{List}
use mathlib.Core.Path.{◌≡◌, refl, sym, ap, ◌∙◌}
use mathlib.Core.Bool.{Bool, true, false}
use Prim.Native.Nat.{ℕ, zero, suc, ◌≤◌, ◌<◌}
use native.Mathlib.Omega.{arith}
use lib.Dec.{eqb, leb}
use lib.ListN.{length, replicate}
use lib.Seq.{sets}
use borrow.Author.Tests.{eq-eqb, ne_eqb, le-leb, lt-leb, eqb-true}
use Rattle.rules.specs.Bytes.{Bytes, pick}
use Rattle.rules.specs.Scan.{spaces_end}
use Rattle.rules.specs.Tree.{Tree, Value, no_value, value, value_of}
use Rattle.rules.specs.Plan.{size, refused, nothing_behind, text, verdict, answer}
use Rattle.plan_read.specs.Table.{entries, filled, table}
use Rattle.plan_read.specs.Reading.{Met, Meets, judged}
use Rattle.plan_read.specs.declared.Read.{Read}

pub long_text : (s : Bytes) → 65536 < length s → 7 ≡ answer s
unfolding answer
long_text s lt = rw (lt-leb (length s) 65536 lt)

-- a refusal leaves zeros
pub table_zero : (s : Bytes) (n k : ℕ) → k ≡ answer s → (k ≡ 0 → ⊥) → replicate n 0 ≡ table n s
unfolding table
table_zero s n k h ne = rw (← h, ne_eqb k 0 ne)

module _ (s : Bytes) (le : length s ≤ 65536) where
  answer_is : (v : Value) → value_of s 32 (spaces_end s 0) 0 ≡ v → verdict s (nothing_behind s v) ≡ answer s
  unfolding answer text
  answer_is v h = rw (le-leb (length s) 65536 le, h)

  -- a text that is followed by nothing but white space
  judged_met : (n b : ℕ) (t : Tree) (e : ℕ) (es : List ℕ) (r : Read) (tab after : List ℕ) → Met s n 0 0 tab (size t) (refused s t) es e r after
      → judged s r ≡ verdict s (nothing_behind s (value t e))
  unfolding judged
  judged_met n b t e es r tab after m =
      let z : (e ≡ 0 → ⊥) = λ q. omega (arith, m.something) in
      let c : r.count ≡ size t = omega (arith, m.number) in
      let w : r.bad ≡ refused s t = omega (arith, m.wrong) in
      rw (m.place, ne_eqb e 0 z, c, w) (step (eqb (spaces_end s e) (length s)))
    where
      step : (a : Bool) → pick a (pick (eqb (refused s t) 0) (pick (leb (size t) 4096) 0 10) 9) 8 ≡ verdict s (pick a (value t e) no_value)
      step true = refl
      step false = refl

  judged_none : (r : Read) → r.at ≡ 0 → judged s r ≡ 8
  unfolding judged
  judged_none r h = rw (eq-eqb r.at 0 h)

  module _ (n : ℕ) (r : Read) (after : List ℕ) where
    judged_is : (v : Value) → value_of s 32 (spaces_end s 0) 0 ≡ v → Meets s (spaces_end s 0) 0 0 (replicate n 0) v r after → judged s r ≡ answer s
    judged_is no_value h m = judged_none r m ∙ answer_is no_value h
    judged_is (value t e) h m = judged_met (spaces_end s 0) 0 t e (entries 0 t) r (replicate n 0) after m ∙ answer_is (value t e) h

    -- where the answer is 0 the value stands alone, and its entries are the table
    accepted : (t : Tree) (e : ℕ) (a : Bool) → verdict s (pick a (value t e) no_value) ≡ 0 → pick a (value t e) no_value ≡ value t e
    accepted t e true h = refl
    accepted t e false h = absurd (omega arith)

    table_is : (v : Value) → value_of s 32 (spaces_end s 0) 0 ≡ v → Meets s (spaces_end s 0) 0 0 (replicate n 0) v r after → answer s ≡ 0 → after ≡ table n s
    unfolding table text
    table_is no_value h m z = absurd (omega (arith, answer_is no_value h))
    table_is (value t e) h m z =
        let q = accepted t e (eqb (spaces_end s e) (length s)) (answer_is (value t e) h ∙ z) in
        m.table ∙ rw (z, h, q)

-- i is where the value starts, tab the cleared table
pub judged_answer : (s : Bytes) (n i : ℕ) (tab : List ℕ) (r : Read) (after : List ℕ) → length s ≤ 65536 → i ≡ spaces_end s 0 → tab ≡ replicate n 0
    → Meets s i 0 0 tab (value_of s 32 i 0) r after → judged s r ≡ answer s
judged_answer s n i tab r after le hi ht m = judged_is s le n r after (value_of s 32 (spaces_end s 0) 0) refl (rw (← hi, ← ht) m)

pub judged_table : (s : Bytes) (n i : ℕ) (tab : List ℕ) (r : Read) (after : List ℕ) → length s ≤ 65536 → i ≡ spaces_end s 0 → tab ≡ replicate n 0
    → Meets s i 0 0 tab (value_of s 32 i 0) r after → answer s ≡ 0 → after ≡ table n s
judged_table s n i tab r after le hi ht m z = table_is s le n r after (value_of s 32 (spaces_end s 0) 0) refl (rw (← hi, ← ht) m) z
