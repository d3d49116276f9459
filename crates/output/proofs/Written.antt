-- A list of bytes written at once.
use mathlib.Core.Path.{◌≡◌, refl, sym, ap, ◌∙◌}
use mathlib.Core.Bool.{Bool, true, false}
use mathlib.Core.List.{[], ◌∷◌}
use Prim.Native.Nat.{ℕ, suc, ◌+◌, ◌≤◌, ◌<◌, min}
use native.Mathlib.Nat.{add-zero}
use native.Mathlib.Numerals.{add-one}
use native.Mathlib.Omega.{arith}
use borrow.Author.Tests.{lt-ltb, le-ltb, ltb-true, ltb-false}
use lib.Dec.{ltb}
use lib.ListN.{length, take, drop, set, length-drop, take-append-drop}
use lib.Seq.{sets, length-sets, length-take-le, take_all}
use Rattle.rules.specs.Bytes.{Bytes, pick}
use Rattle.output.specs.declared.Writer.{Writer}
use Rattle.output.specs.Writer.{Output, output, over, moved, advanced, filled, filled_if, place_of, limit_of, stored, room, put, all_put, wrote}
use Rattle.output.proofs.Steps.{all_put_append}

pick_same : {A : Type 0} (b : Bool) (x : A) → pick b x x ≡ x
pick_same true x = refl
pick_same false x = refl

-- Storing

stored_nil : (o : Output) → stored [] o ≡ o
stored_nil o = rw (add-zero o.writer.written, add-zero o.writer.low, pick_same o.writer.block_text o.writer.written, pick_same o.writer.block_text o.writer.low)

stays_or_moves : (b : Bool) (m n : ℕ) → pick b (pick b m (m + 1)) (pick b m (m + 1) + n) ≡ pick b m (m + suc n)
stays_or_moves true m n = refl
stays_or_moves false m n = omega arith

moves_or_stays : (b : Bool) (m n : ℕ) → pick b (pick b (m + 1) m + n) (pick b (m + 1) m) ≡ pick b (m + suc n) m
moves_or_stays true m n = omega arith
moves_or_stays false m n = refl

-- the place moves on, the limit stays
place_by : (b : Bool) (l m n : ℕ) → pick b (pick b (l + n) l) (pick b m (m + n)) ≡ pick b l m + n
place_by true l m n = refl
place_by false l m n = refl

pub place_stored : (v : Bytes) (o : Output) → place_of (stored v o).writer ≡ place_of o.writer + length v
place_stored v o = place_by o.writer.block_text o.writer.low o.writer.written (length v)

pub limit_stored : (v : Bytes) (o : Output) → limit_of (stored v o).writer (length (stored v o).out) ≡ limit_of o.writer (length o.out)
limit_stored v o = ap (limit_of o.writer) (length-sets o.out (place_of o.writer) v)

stored_cons : (c : ℕ) (v : Bytes) (o : Output) → stored v (stored (c ∷ []) o) ≡ stored (c ∷ v) o
stored_cons c v o =
    let b = o.writer.block_text in
    let e₁ = stays_or_moves b o.writer.written (length v) in
    let e₂ = moves_or_stays b o.writer.low (length v) in
    let e₃ : place_of (stored (c ∷ []) o).writer ≡ suc (place_of o.writer) = place_stored (c ∷ []) o ∙ add-one (place_of o.writer) in
    let e₄ = ap (λ (k : ℕ). sets (set o.out (place_of o.writer) c) k v) e₃ in
    cc

-- All of it, or what fits

pub all_put_fits : (v : Bytes) (o : Output) → length v ≤ room o → all_put v o ≡ stored v o
unfolding all_put put
all_put_fits [] o h = sym (stored_nil o)
all_put_fits (c ∷ v) o h =
    let p = place_stored (c ∷ []) o in
    let l = limit_stored (c ∷ []) o in
    let k = lt-ltb (place_of o.writer) (limit_of o.writer (length o.out)) (omega arith) in
    rw k (all_put_fits v (stored (c ∷ []) o) (omega arith) ∙ stored_cons c v o)

full_stays : (v : Bytes) (o : Output) → limit_of o.writer (length o.out) ≤ place_of o.writer → all_put v (over filled o) ≡ over filled o
unfolding all_put put
full_stays [] o h = refl
full_stays (c ∷ v) o h = let k = le-ltb (place_of o.writer) (limit_of o.writer (length o.out)) h in rw k (full_stays v o h)

all_put_none : (v : Bytes) (o : Output) → limit_of o.writer (length o.out) ≤ place_of o.writer → 0 < length v → all_put v o ≡ over filled o
unfolding all_put put
all_put_none [] o h g = absurd (omega arith)
all_put_none (c ∷ v) o h g = let k = le-ltb (place_of o.writer) (limit_of o.writer (length o.out)) h in rw k (full_stays v o h)

pub all_put_over : (v : Bytes) (o : Output) → room o < length v → all_put v o ≡ over filled (stored (take (room o) v) o)
all_put_over v o h =
    let n = length-take-le (room o) v (omega arith) in
    let d = length-drop (room o) v in
    let p = place_stored (take (room o) v) o in
    let l = limit_stored (take (room o) v) o in
    ap (λ (u : Bytes). all_put u o) (sym (take-append-drop (room o) v))
    ∙ all_put_append (take (room o) v) (drop (room o) v) o
    ∙ ap (all_put (drop (room o) v)) (all_put_fits (take (room o) v) o (omega arith))
    ∙ all_put_none (drop (room o) v) (stored (take (room o) v) o) (omega arith) (omega arith)

by_room : (b : Bool) (v : Bytes) (o : Output) → ltb (room o) (length v) ≡ b → all_put v o ≡ pick b (over filled (stored (take (room o) v) o)) (stored v o)
by_room true v o e = all_put_over v o (ltb-true (room o) (length v) e)
by_room false v o e = all_put_fits v o (ltb-false (room o) (length v) e)

pub all_put_is : (v : Bytes) (o : Output) → all_put v o ≡ wrote v o
all_put_is v o = by_room (ltb (room o) (length v)) v o refl

-- n is what fits: the least of the length and the room
module _ (v : Bytes) (n : ℕ) (o : Output) (h : n ≡ min (length v) (room o)) where
  part_over : n < length v → output (filled (advanced n o.writer)) (sets o.out (place_of o.writer) (take n v)) ≡ all_put v o
  part_over l =
      let e : n ≡ room o = omega arith in
      let k : length (take (room o) v) ≡ n = length-take-le (room o) v (omega arith) ∙ sym e in
      ap (λ (m : ℕ). output (filled (advanced n o.writer)) (sets o.out (place_of o.writer) (take m v))) e
      ∙ ap (λ (m : ℕ). output (filled (advanced m o.writer)) (sets o.out (place_of o.writer) (take (room o) v))) (sym k)
      ∙ sym (all_put_over v o (omega arith))

  part_fits : length v ≤ n → output (advanced n o.writer) (sets o.out (place_of o.writer) (take n v)) ≡ all_put v o
  part_fits l =
      let e : n ≡ length v = omega arith in
      ap (λ (u : Bytes). output (advanced n o.writer) (sets o.out (place_of o.writer) u)) (take_all n v l)
      ∙ ap (λ (m : ℕ). output (advanced m o.writer) (sets o.out (place_of o.writer) v)) e
      ∙ sym (all_put_fits v o (omega arith))

  part_by : (b : Bool) → ltb n (length v) ≡ b → output (pick b (filled (advanced n o.writer)) (advanced n o.writer)) (sets o.out (place_of o.writer) (take n v)) ≡ all_put v o
  part_by true e = part_over (ltb-true n (length v) e)
  part_by false e = part_fits (ltb-false n (length v) e)

  -- of a copy of the first n to the place
  pub part_written : (q w : Writer) (b : Bytes) (k : ℕ) → w ≡ filled_if n (length v) q → q ≡ advanced n o.writer → b ≡ sets o.out k (take n v) → k ≡ place_of o.writer → output w b ≡ all_put v o
  part_written q w b k ew eq eb ek =
      ap (λ (x : Writer). output x b) (ew ∙ ap (filled_if n (length v)) eq)
      ∙ ap (output (filled_if n (length v) (advanced n o.writer))) (eb ∙ ap (λ (m : ℕ). sets o.out m (take n v)) ek)
      ∙ part_by (ltb n (length v)) refl

-- It moves on, and that is all that it does to the writer

moved_by : (b : Bool) (u v : Bytes) (o : Output) → (pick b (over filled (stored u o)) (stored v o)).writer ≡ moved (pick b (over filled (stored u o)) (stored v o)).writer.written (pick b (over filled (stored u o)) (stored v o)).writer.low (pick b (over filled (stored u o)) (stored v o)).writer.full o.writer
moved_by true u v o = refl
moved_by false u v o = refl

pub all_put_moved : (v : Bytes) (o : Output) → (all_put v o).writer ≡ moved (all_put v o).writer.written (all_put v o).writer.low (all_put v o).writer.full o.writer
all_put_moved v o = rw (all_put_is v o) (moved_by (ltb (room o) (length v)) (take (room o) v) v o)
