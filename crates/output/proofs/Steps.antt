-- One byte more: what the loops that write cite.
use mathlib.Core.Path.{◌≡◌, refl, ap, ◌∙◌}
use mathlib.Core.Bool.{Bool, true, false}
use mathlib.Core.List.{[], ◌∷◌, ◌++◌}
use Prim.Native.Nat.{ℕ, zero, suc, ◌+◌, ◌≤◌, ◌<◌, min}
use native.Mathlib.Nat.{zero-min, min-zero, suc-min-suc}
use native.Mathlib.Numerals.{add-one}
use native.Mathlib.Omega.{arith}
use borrow.Author.Tests.{lt-ltb, le-ltb}
use lib.ListN.{length, get_or, take, drop, drop_of_length-le}
use lib.Seq.{drop-cons, get_or-take, length-take-le}
use Rattle.rules.specs.Bytes.{Bytes, pick}
use Rattle.output.specs.declared.Writer.{Writer}
use Rattle.output.specs.Writer.{Output, over, moved, advanced, stored, filled, place_of, limit_of, put, all_put}

-- one byte, plainly
module _ (c : ℕ) (o : Output) where
  pub put_fits : place_of o.writer < limit_of o.writer (length o.out) → stored (c ∷ []) o ≡ put c o
  unfolding put
  put_fits h = let k = lt-ltb (place_of o.writer) (limit_of o.writer (length o.out)) h in rw k

  pub put_full : limit_of o.writer (length o.out) ≤ place_of o.writer → over filled o ≡ put c o
  unfolding put
  put_full h = let k = le-ltb (place_of o.writer) (limit_of o.writer (length o.out)) h in rw k

limit_by : (b : Bool) (h n : ℕ) → pick b (min h n) n ≤ n
limit_by true h n = omega arith
limit_by false h n = omega arith

pub limit_le : (w : Writer) (n : ℕ) → limit_of w n ≤ n
limit_le w n = limit_by w.block_text w.high n

-- one byte more of the output in force is taken; k is its place
module _ (w : Writer) (k : ℕ) (e : k ≡ place_of w) where
  pub low_more : w.block_text ≡ true → moved w.written (k + 1) w.full w ≡ advanced 1 w
  low_more t = rw (e, t)

  pub written_more : w.block_text ≡ false → moved (k + 1) w.low w.full w ≡ advanced 1 w
  written_more t = rw (e, t)

-- a list of bytes
pub all_put_append : (u v : Bytes) (o : Output) → all_put (u ++ v) o ≡ all_put v (all_put u o)
unfolding all_put
all_put_append [] v o = refl
all_put_append (c ∷ u) v o = all_put_append u v (put c o)

module _ (v : Bytes) (i : ℕ) where
  put_more : (o o' : Output) → i < length v → o' ≡ put (get_or v i 0) o → all_put (drop (i + 1) v) o' ≡ all_put (drop i v) o
  unfolding all_put
  put_more o o' h e = rw (add-one, drop-cons v i 0 h, e)

  put_done : (o : Output) → length v ≤ i → all_put (drop i v) o ≡ o
  unfolding all_put
  put_done o h = rw (drop_of_length-le v h)

-- the first n of them
module _ (v : Bytes) (n i : ℕ) (h : n ≤ length v) where
  pub put_part_more : (o o' : Output) → i < n → o' ≡ put (get_or v i 0) o → all_put (drop (i + 1) (take n v)) o' ≡ all_put (drop i (take n v)) o
  put_part_more o o' g e = let k = length-take-le n v h in put_more (take n v) i o o' (omega arith) (e ∙ rw (get_or-take n v i 0 g))

  pub put_part_done : (o : Output) → n ≤ i → all_put (drop i (take n v)) o ≡ o
  put_part_done o g = let k = length-take-le n v h in put_done (take n v) i o (omega arith)

pub take_min : (n : ℕ) (l : Bytes) → take (min n (length l)) l ≡ take n l
take_min zero l = rw zero-min
take_min (suc n) [] = rw min-zero
take_min (suc n) (c ∷ l) = rw suc-min-suc (ap (λ (r : Bytes). c ∷ r) (take_min n l))

pub put_least : (v : Bytes) (n m : ℕ) (o : Output) → m ≡ min n (length v) → all_put (take m v) o ≡ all_put (take n v) o
put_least v n m o e = rw (e, take_min n v)
