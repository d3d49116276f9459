-- One byte more of a text: what the loops that feed cite.
use mathlib.Core.Path.{◌≡◌, refl, ap, ◌∙◌}
use mathlib.Core.Bool.{Bool, true, false}
use mathlib.Core.List.{[], ◌∷◌, ◌++◌}
use Prim.Native.Nat.{ℕ, zero, suc, ◌+◌, ◌-◌, ◌≤◌, ◌<◌}
use native.Mathlib.Numerals.{add-one}
use native.Mathlib.Omega.{arith}
use lib.ListN.{length, get_or, drop, drop_of_length-le}
use lib.Seq.{drop-cons}
use Rattle.rules.specs.Bytes.{Bytes}
use Rattle.rules.specs.Support.{newline_matcher}
use Rattle.output.specs.declared.Writer.{Writer}
use Rattle.output.specs.Writer.{Output}
use Rattle.support.specs.Feed.{marked, finished_by, emitted, all_emitted, entity_or, escaped}

-- the pen
pub finished_marked : (w : Writer) (n : ℕ) (b : Bool) → (n ≡ 0 → ⊥) → b ≡ newline_matcher (n - 1) → marked b w ≡ finished_by n w
finished_marked w zero b h e = absurd (h refl)
finished_marked w (suc c) b h e = let k : suc c - 1 ≡ c = omega arith in ap (λ (t : Bool). marked t w) (e ∙ ap newline_matcher k)

-- a text
pub all_emitted_append : (i u v : Bytes) (o : Output) → all_emitted i (u ++ v) o ≡ all_emitted i v (all_emitted i u o)
unfolding all_emitted
all_emitted_append i [] v o = refl
all_emitted_append i (c ∷ u) v o = all_emitted_append i u v (emitted i c o)

pub emit_one : (i : Bytes) (c : ℕ) (o : Output) → emitted i c o ≡ all_emitted i (c ∷ []) o
unfolding all_emitted
emit_one i c o = refl

pub escaped_cons : (e : Bool) (c : ℕ) (v : Bytes) → escaped e (c ∷ v) ≡ entity_or e c ++ escaped e v
escaped_cons true c v = refl
escaped_cons false c v = refl

-- the loop of a source that gives the bytes of v one by one
module _ (i v : Bytes) (k : ℕ) where
  pub emit_more : (o o' : Output) → k < length v → o' ≡ emitted i (get_or v k 0) o → all_emitted i (drop (k + 1) v) o' ≡ all_emitted i (drop k v) o
  unfolding all_emitted
  emit_more o o' h e = rw (add-one, drop-cons v k 0 h, e)

  pub emit_done : (o : Output) → length v ≤ k → all_emitted i (drop k v) o ≡ o
  unfolding all_emitted
  emit_done o h = rw (drop_of_length-le v h)

  pub feed_more : (e : Bool) (o o' : Output) → k < length v → o' ≡ all_emitted i (entity_or e (get_or v k 0)) o → all_emitted i (escaped e (drop (k + 1) v)) o' ≡ all_emitted i (escaped e (drop k v)) o
  feed_more e o o' h q = rw (add-one, drop-cons v k 0 h, escaped_cons e (get_or v k 0), all_emitted_append, q)

  pub feed_done : (e : Bool) (o : Output) → length v ≤ k → all_emitted i (escaped e (drop k v)) o ≡ o
  unfolding all_emitted
  feed_done true o h = rw (drop_of_length-le v h)
  feed_done false o h = rw (drop_of_length-le v h)
