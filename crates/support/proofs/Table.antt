-- The rule of the table of entities, by one computed test: its rows are the rules' list.
use mathlib.Core.Path.{◌≡◌, refl, sym}
use mathlib.Core.Bool.{Bool, true, false, ◌&&◌}
use mathlib.Core.Logic.{⊎_elim}
use mathlib.Core.List.{List, [], ◌∷◌, ◌++◌, map}
use Prim.Native.Nat.{ℕ, zero, suc, ◌-◌, ◌≤◌, ◌<◌}
use native.Mathlib.Nat.{le_of_suc-le-suc, eq-or-lt_of_le}
use native.Mathlib.Omega.{arith}
use borrow.Author.Tests.{eq-eqb, ne_eqb}
use lib.Dec.{T, eqb, leb, leb→le, eqb→eq}
use lib.ListN.{length, get_or, drop, replicate, get_or-map}
use lib.Seq.{drop-cons}
use Rattle.rules.specs.Bytes.{Bytes, pick}
use Rattle.rules.specs.Support.{entities, entity_in}
use Rattle.support.specs.Table.{row_in, row_of, row_bytes, row_read}
use Rattle.support.specs.declared.Entity.{Entity}
use Rattle.support.specs.Feed.{entity_or}
use Rattle.support.specs.Runs.{calm}

-- a list of characters and entities

module _ (l : List (ℕ × Bytes)) (k c : ℕ) (h : k < length l) where
  pub row_hit : (get_or l k (0, [])).0 ≡ c → row_in (drop k l) c ≡ 0
  unfolding row_in
  row_hit e = rw (drop-cons l k (0, []) h, e, eq-eqb c c refl)

  pub row_miss : ((get_or l k (0, [])).0 ≡ c → ⊥) → row_in (drop k l) c ≡ suc (row_in (drop (suc k) l) c)
  unfolding row_in
  row_miss e = rw (drop-cons l k (0, []) h, ne_eqb c (get_or l k (0, [])).0 (λ q. e (sym q)))

entity_by : (b : Bool) (e : ℕ × Bytes) (l : List (ℕ × Bytes)) (c : ℕ) → (row_in l c < length l → entity_in l c ≡ (get_or l (row_in l c) (0, [])).1) → pick b 0 (suc (row_in l c)) < suc (length l) → pick b e.1 (entity_in l c) ≡ (get_or (e ∷ l) (pick b 0 (suc (row_in l c))) (0, [])).1
entity_by true e l c f h = refl
entity_by false e l c f h = f (le_of_suc-le-suc h)

pub entity_row : (l : List (ℕ × Bytes)) (c : ℕ) → row_in l c < length l → entity_in l c ≡ (get_or l (row_in l c) (0, [])).1
unfolding row_in
entity_row [] c h = absurd (omega arith)
entity_row (e ∷ l) c h = entity_by (eqb c e.0) e l c (entity_row l c) h

none_by : (b : Bool) (e : ℕ × Bytes) (l : List (ℕ × Bytes)) (c : ℕ) → (length l ≤ row_in l c → entity_in l c ≡ c ∷ []) → suc (length l) ≤ pick b 0 (suc (row_in l c)) → pick b e.1 (entity_in l c) ≡ c ∷ []
none_by true e l c f h = absurd (omega arith)
none_by false e l c f h = f (le_of_suc-le-suc h)

pub entity_none : (l : List (ℕ × Bytes)) (c : ℕ) → length l ≤ row_in l c → entity_in l c ≡ c ∷ []
unfolding row_in
entity_none [] c h = refl
entity_none (e ∷ l) c h = none_by (eqb c e.0) e l c (entity_none l c) h

-- what a byte becomes
module _ (e : Bool) (c k : ℕ) (h : k ≡ row_of c) (t : e ≡ true) where
  pub escaped_row : k < 7 → row_bytes k ≡ entity_or e c
  escaped_row l = rw (t, h) (sym (entity_row entities c (rw h at l)))

  pub escaped_none : 7 ≤ k → c ∷ [] ≡ entity_or e c
  escaped_none l = rw t (sym (entity_none entities c (rw h at l)))

pub escaped_not : (e : Bool) (c : ℕ) → e ≡ false → c ∷ [] ≡ entity_or e c
escaped_not e c t = rw t

-- a test that is computed at each number below n
abbrev all_below : ℕ → (ℕ → Bool) → Bool
all_below zero f = true
all_below (suc n) f = f n && all_below n f

and_left : (a b : Bool) → T (a && b) → T a
and_left true b t = tt
and_left false b t = t

and_right : (a b : Bool) → T (a && b) → T b
and_right true b t = t
and_right false b t = absurd t

below : (n : ℕ) (f : ℕ → Bool) → T (all_below n f) → (k : ℕ) → k < n → T (f k)
below zero f t k h = absurd (omega arith)
below (suc n) f t k h = ⊎_elim (λ (e : k ≡ n). rw e (and_left (f n) (all_below n f) t)) (λ (l : k < n). below n f (and_right (f n) (all_below n f) t) k l) (eq-or-lt_of_le (le_of_suc-le-suc h))

-- the code's table: the rules' list, each entity filled up with zeros
abbrev filled : ℕ × Bytes → Entity
filled e = record { character = e.0; count = length e.1; bytes = e.1 ++ replicate (6 - length e.1) 0 }

abbrev pub table : List Entity
table = map filled entities

abbrev none : Entity
none = record { character = 0; count = 0; bytes = [] }

abbrev fits : Entity → Bool
fits e = leb e.count 6 && eqb (length e.bytes) 6

module _ (k : ℕ) where
  pub row_right : row_read (get_or table k none) ≡ get_or entities k (0, [])
  row_right = sym (get_or-map row_read table k none)

  pub row_fits : k < 7 → ((get_or table k none).count ≤ 6) × (length (get_or table k none).bytes ≡ 6)
  row_fits h =
      let e = get_or table k none in
      let t = below 7 (λ (m : ℕ). fits (get_or table m none)) tt k h in
      (leb→le e.count 6 (and_left (leb e.count 6) (eqb (length e.bytes) 6) t), eqb→eq (length e.bytes) 6 (and_right (leb e.count 6) (eqb (length e.bytes) 6) t))

-- an entity has no line feed
pub row_calm : (k : ℕ) → k < 7 → T (calm true (row_bytes k))
row_calm k h = below 7 (λ (m : ℕ). calm true (row_bytes m)) tt k h
