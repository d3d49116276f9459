-- The block texts: what a finished one's move leaves, and what a write leaves of the finished ones.
use mathlib.Core.Path.{◌≡◌, refl, sym, ap, ◌∙◌}
use mathlib.Core.Bool.{Bool, true, false}
use mathlib.Core.List.{[], ◌∷◌, ◌++◌}
use Prim.Native.Nat.{ℕ, suc, ◌+◌, ◌-◌, ◌≤◌, ◌<◌, min}
use native.Mathlib.Nat.{add-zero}
use native.Mathlib.Numerals.{add-one}
use native.Mathlib.Omega.{arith}
use borrow.Author.Tests.{ltb-true}
use lib.Dec.{ltb}
use lib.ListN.{length, get_or, take, drop, set, length-append}
use lib.Seq.{sets, sets-eq, slice, slice-cons, slice_empty, length-slice, length-take-le, take-suc, take_at, drop-append-le, set_comm, get_or-set_other, drop-set-lt, take-set-le}
use Rattle.rules.specs.Bytes.{Bytes, pick}
use Rattle.output.specs.Writer.{Output, over, stored, filled, place_of, limit_of, put}

-- a run of stores, and what lies below it
pub set_sets : (v l : Bytes) (i j x : ℕ) → i < j → set (sets l j v) i x ≡ sets (set l i x) j v
set_sets [] l i j x h = refl
set_sets (a ∷ v) l i j x h = set_sets v (set l j a) i (suc j) x (omega arith) ∙ ap (λ (m : Bytes). sets m (suc j) v) (set_comm l j i a x (λ e. omega (arith, e)))

pub get_d_sets : (v l : Bytes) (i j : ℕ) → i < j → get_or (sets l j v) i 0 ≡ get_or l i 0
get_d_sets [] l i j h = refl
get_d_sets (a ∷ v) l i j h = get_d_sets v (set l j a) i (suc j) (omega arith) ∙ get_or-set_other l j i a 0 (λ e. omega (arith, e))

pub drop_sets : (v l : Bytes) (i k : ℕ) → i + length v ≤ k → drop k (sets l i v) ≡ drop k l
drop_sets [] l i k h = refl
drop_sets (a ∷ v) l i k h = drop_sets v (set l i a) (suc i) k (omega arith) ∙ drop-set-lt k l i a (omega arith)

pub take_sets : (v l : Bytes) (i k : ℕ) → k ≤ i → take k (sets l i v) ≡ take k l
take_sets [] l i k h = refl
take_sets (a ∷ v) l i k h = take_sets v (set l i a) (suc i) k (omega arith) ∙ take-set-le k l i a h

pub take_behind : (v l : Bytes) (i : ℕ) → i + length v ≤ length l → take (i + length v) (sets l i v) ≡ take i l ++ v
take_behind v l i h =
    let n : length (take i l ++ v) ≡ i + length v = length-append (take i l) v ∙ ap (λ (m : ℕ). m + length v) (length-take-le i l (omega arith)) in
    ap (take (i + length v)) (sets-eq v l i h) ∙ take_at (take i l ++ v) (drop (i + length v) l) (i + length v) n

pub slice_behind : (v l : Bytes) (i k : ℕ) → k ≤ i → i + length v ≤ length l → slice k (i + length v) (sets l i v) ≡ slice k i l ++ v
slice_behind v l i k g h = let n = length-take-le i l (omega arith) in ap (drop k) (take_behind v l i h) ∙ drop-append-le k (take i l) v (omega arith)

pub slice_stored : (v l : Bytes) (i : ℕ) → i + length v ≤ length l → slice i (i + length v) (sets l i v) ≡ v
slice_stored v l i h = slice_behind v l i i (omega arith) h ∙ rw (slice_empty i l)

-- a block text that is finished: where it is then, and what stays
module _ (t : Bytes) (begin low high : ℕ) (bl : begin ≤ low) (lh : low ≤ high) (ht : high ≤ length t) where
  text_length : length (slice begin low t) ≡ low - begin
  text_length = length-slice begin low t (omega arith)

  pub moved_text : slice (high - (low - begin)) high (sets t (high - (low - begin)) (slice begin low t)) ≡ slice begin low t
  moved_text =
      let n = text_length in
      let e : high - (low - begin) + length (slice begin low t) ≡ high = omega arith in
      ap (λ (k : ℕ). slice (high - (low - begin)) k (sets t (high - (low - begin)) (slice begin low t))) (sym e) ∙ slice_stored (slice begin low t) t (high - (low - begin)) (omega arith)

  pub moved_finished : drop high (sets t (high - (low - begin)) (slice begin low t)) ≡ drop high t
  moved_finished = let n = text_length in drop_sets (slice begin low t) t (high - (low - begin)) high (omega arith)

  pub moved_beneath : take begin (sets t (high - (low - begin)) (slice begin low t)) ≡ take begin t
  moved_beneath = take_sets (slice begin low t) t (high - (low - begin)) begin (omega arith)

-- one byte more is moved, from the last one down
pub move_more : (t₀ t : Bytes) (i j i' j' low : ℕ) → suc i ≡ i' → suc j ≡ j' → i < low → low ≤ length t₀ → i ≤ j → t ≡ sets t₀ j' (slice i' low t₀) → set t j (get_or t i 0) ≡ sets t₀ j (slice i low t₀)
move_more t₀ t i j i' j' low ei ej il lt ij e =
    rw (e, ← ei, ← ej, slice-cons i low t₀ 0 il lt, get_d_sets (slice (suc i) low t₀) t₀ i (suc j) (omega arith)) (set_sets (slice (suc i) low t₀) t₀ j (suc j) (get_or t₀ i 0) (omega arith))

-- a run of stores behind another
pub sets_behind : (u v l : Bytes) (i : ℕ) → sets (sets l i u) (i + length u) v ≡ sets l i (u ++ v)
sets_behind [] v l i = rw add-zero
sets_behind (a ∷ u) v l i = let e : i + suc (length u) ≡ suc i + length u = omega arith in rw e (sets_behind u v (set l i a) (suc i))

-- a byte more is copied
pub set_behind : (v l : Bytes) (i x : ℕ) → set (sets l i v) (i + length v) x ≡ sets l i (v ++ (x ∷ []))
set_behind v l i x = sets_behind v (x ∷ []) l i

pub copy_more : (l v : Bytes) (at i : ℕ) → i < length v → set (sets l at (take i v)) (at + i) (get_or v i 0) ≡ sets l at (take (i + 1) v)
copy_more l v at i h =
    let n = length-take-le i v (omega arith) in
    ap (λ (k : ℕ). set (sets l at (take i v)) (at + k) (get_or v i 0)) (sym n) ∙ set_behind (take i v) l at (get_or v i 0) ∙ rw (add-one, take-suc v i 0 h)

-- what is written into a block text lies below the finished ones
above_by : (b t : Bool) (h low m n k : ℕ) (l : Bytes) (c : ℕ) → t ≡ true → ltb (pick t low m) (pick t (min h n) n) ≡ b → h ≤ k → drop k (pick b (set l (pick t low m) c) l) ≡ drop k l
above_by true true h low m n k l c e f g = let z = ltb-true low (min h n) f in drop-set-lt k l low c (omega arith)
above_by true false h low m n k l c e f g = let z : ◌≡◌ {A = ℕ} 0 1 = cc in absurd (omega arith)
above_by false t h low m n k l c e f g = refl

out_by : (b : Bool) (c : ℕ) (o : Output) → (pick b (stored (c ∷ []) o) (over filled o)).out ≡ pick b (set o.out (place_of o.writer) c) o.out
out_by true c o = refl
out_by false c o = refl

pub put_above : (o : Output) (c k : ℕ) → o.writer.block_text ≡ true → o.writer.high ≤ k → drop k (put c o).out ≡ drop k o.out
unfolding put
put_above o c k t h =
    let b = ltb (place_of o.writer) (limit_of o.writer (length o.out)) in
    ap (drop k) (out_by b c o)
    ∙ above_by b o.writer.block_text o.writer.high o.writer.low o.writer.written (length o.out) k o.out c t refl h

kept_by : (b : Bool) (o : Output) (c : ℕ) → ((pick b (stored (c ∷ []) o) (over filled o)).writer.high ≡ o.writer.high) × ((pick b (stored (c ∷ []) o) (over filled o)).writer.block_text ≡ o.writer.block_text)
kept_by true o c = (refl, refl)
kept_by false o c = (refl, refl)

pub put_kept : (o : Output) (c : ℕ) → ((put c o).writer.high ≡ o.writer.high) × ((put c o).writer.block_text ≡ o.writer.block_text)
unfolding put
put_kept o c = kept_by (ltb (place_of o.writer) (limit_of o.writer (length o.out))) o c
