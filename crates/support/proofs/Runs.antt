-- Runs of quiet bytes.
use mathlib.Core.Path.{◌≡◌, refl, sym, ap, ◌∙◌}
use mathlib.Core.Bool.{Bool, true, false, ◌&&◌, not}
use mathlib.Core.List.{[], ◌∷◌, ◌++◌, append_assoc}
use Prim.Native.Nat.{ℕ, suc, ◌+◌, ◌-◌, ◌≤◌, ◌<◌}
use native.Mathlib.Nat.{min_comm}
use native.Mathlib.Numerals.{add-one}
use native.Mathlib.Omega.{arith}
use borrow.Author.Tests.{ltb-false, eqb-true, not-true}
use lib.Dec.{T, eqb}
use lib.ListN.{length, get_or, take, drop, take-append-drop, length-drop, drop_of_length-le}
use lib.Seq.{drop-cons, drop-drop}
use Rattle.rules.specs.Bytes.{Bytes, pick, run}
use Rattle.rules.specs.Support.{entity, entities, escape_html}
use Rattle.output.specs.Writer.{Output, over, all_put}
use Rattle.output.proofs.Steps.{take_min}
use Rattle.support.specs.Feed.{penned, indent_before, all_emitted, entity_or, escaped}
use Rattle.support.specs.Table.{row_of, row_bytes, is_escaped}
use Rattle.support.specs.Runs.{calm, quiet_byte, inner_byte, line_length}
use Rattle.support.proofs.Steps.{escaped_cons, all_emitted_append}
use Rattle.support.proofs.Table.{entity_none, row_calm}
use Rattle.support.proofs.Fed.{run_is}

-- how many of the first bytes pass a test
module _ (p : ℕ → Bool) (l : Bytes) (j : ℕ) (h : j < length l) where
  pub run_more : p (get_or l j 0) ≡ true → run p (drop j l) ≡ suc (run p (drop (suc j) l))
  unfolding run
  run_more e = rw (drop-cons l j 0 h, e)

  pub run_end : p (get_or l j 0) ≡ false → run p (drop j l) ≡ 0
  unfolding run
  run_end e = rw (drop-cons l j 0 h, e)

  -- m bytes have passed, with those that still do
  pub run_next : (m : ℕ) → p (get_or l j 0) ≡ true → m ≡ j + run p (drop j l) → m ≡ j + 1 + run p (drop (j + 1) l)
  run_next m e f =
      let g : run p (drop j l) ≡ run p (drop (j + 1) l) + 1 = rw (add-one (run p (drop (j + 1) l)), add-one j) (run_more e) in
      omega arith

  pub run_stop : (m : ℕ) → p (get_or l j 0) ≡ false → m ≡ j + run p (drop j l) → j ≡ m
  run_stop m e f = let g = run_end e in omega arith

pub run_over : (p : ℕ → Bool) (l : Bytes) (j m : ℕ) → length l ≤ j → m ≡ j + run p (drop j l) → j ≡ m
unfolding run
run_over p l j m h f =
    let g : run p (drop j l) ≡ 0 = rw (drop_of_length-le l h) in
    omega arith

-- a quiet byte
calm_by : (b has x : Bool) → pick b (not has) x ≡ true → not (has && b) ≡ true
calm_by true true x h = h
calm_by true false x h = refl
calm_by false true x h = refl
calm_by false false x h = refl

plain_by : (b has e : Bool) (c : ℕ) → eqb c 10 ≡ b → pick b (not has) (not (e && is_escaped c)) ≡ true → entity_or e c ≡ c ∷ []
plain_by b has false c k h = refl
plain_by true has true c k h = let n : c ≡ 10 = eqb-true c 10 k in ap entity n ∙ ap (λ (x : ℕ). x ∷ []) (sym n)
plain_by false has true c k h = entity_none entities c (ltb-false (row_of c) (length entities) (not-true (is_escaped c) h))

calm_cons : (has : Bool) (c : ℕ) (v : Bytes) → not (has && eqb c 10) ≡ true → calm has v ≡ true → calm has (c ∷ v) ≡ true
calm_cons has c [] h k = refl
calm_cons has c (d ∷ v) h k = ap (λ (t : Bool). t && calm has (d ∷ v)) h ∙ k

-- a run of them
calm_step : (b : Bool) (has e : Bool) (c n : ℕ) (l : Bytes) → quiet_byte has e c ≡ b → calm has (take n l) ≡ true → calm has (take (pick b (suc n) 0) (c ∷ l)) ≡ true
calm_step true has e c n l q h = calm_cons has c (take n l) (calm_by (eqb c 10) has (not (e && is_escaped c)) q) h
calm_step false has e c n l q h = refl

pub calm_run : (has e : Bool) (l : Bytes) → calm has (take (run (quiet_byte has e) l) l) ≡ true
unfolding run
calm_run has e [] = refl
calm_run has e (c ∷ l) = calm_step (quiet_byte has e c) has e c (run (quiet_byte has e) l) l refl (calm_run has e l)

plain_step : (b : Bool) (has e : Bool) (c n : ℕ) (l : Bytes) → quiet_byte has e c ≡ b → escaped e (take n l) ≡ take n l → escaped e (take (pick b (suc n) 0) (c ∷ l)) ≡ take (pick b (suc n) 0) (c ∷ l)
plain_step true has e c n l q h = escaped_cons e c (take n l) ∙ ap (λ (u : Bytes). u ++ escaped e (take n l)) (plain_by (eqb c 10) has e c refl q) ∙ ap (λ (u : Bytes). c ∷ u) h
plain_step false has true c n l q h = refl
plain_step false has false c n l q h = refl

pub plain_run : (has e : Bool) (l : Bytes) → escaped e (take (run (quiet_byte has e) l) l) ≡ take (run (quiet_byte has e) l) l
unfolding run
plain_run has true [] = refl
plain_run has false [] = refl
plain_run has e (c ∷ l) = plain_step (quiet_byte has e c) has e c (run (quiet_byte has e) l) l refl (plain_run has e l)

-- feeding one
pub run_whole : (i v : Bytes) (o : Output) → (length v ≡ 0 → ⊥) → calm o.writer.has_indent v ≡ true → all_emitted i v o ≡ over (penned (get_or v (length v - 1) 0)) (all_put v (all_put (indent_before i (get_or v 0 0) o.writer) o))
run_whole i [] o h k = absurd (h refl)
run_whole i (c ∷ v) o h k =
    let e : length v ≡ suc (length v) - 1 = omega arith in
    run_is i v c o k ∙ ap (λ (n : ℕ). over (penned (get_or (c ∷ v) n 0)) (all_put (c ∷ v) (all_put (indent_before i c o.writer) o))) e

escape_append : (u v : Bytes) → escape_html (u ++ v) ≡ escape_html u ++ escape_html v
escape_append [] v = refl
escape_append (c ∷ u) v = ap (λ (r : Bytes). entity c ++ r) (escape_append u v) ∙ sym (append_assoc (entity c) (escape_html u) (escape_html v))

pub escaped_append : (e : Bool) (u v : Bytes) → escaped e (u ++ v) ≡ escaped e u ++ escaped e v
escaped_append true u v = escape_append u v
escaped_append false u v = refl

-- the text is fed from k on: after a run of m bytes, from k + m on
pub run_step : (i v : Bytes) (k m : ℕ) (e : Bool) (o o' : Output) → escaped e (take m (drop k v)) ≡ take m (drop k v) → o' ≡ all_emitted i (take m (drop k v)) o → all_emitted i (escaped e (drop (k + m) v)) o' ≡ all_emitted i (escaped e (drop k v)) o
run_step i v k m e o o' p q =
    let d : Bytes = drop k v in
    ap (λ (u : Bytes). all_emitted i (escaped e u) o') (sym (drop-drop m k v))
    ∙ ap (all_emitted i (escaped e (drop m d))) q
    ∙ sym (all_emitted_append i (take m d) (escaped e (drop m d)) o)
    ∙ ap (λ (u : Bytes). all_emitted i (u ++ escaped e (drop m d)) o) (sym p)
    ∙ ap (λ (u : Bytes). all_emitted i u o) (sym (escaped_append e (take m d) (drop m d)) ∙ ap (escaped e) (take-append-drop m d))

-- the entities
calm_not : (v : Bytes) → calm false v ≡ true
calm_not [] = refl
calm_not (c ∷ []) = refl
calm_not (c ∷ d ∷ v) = calm_not (d ∷ v)

calm_any : (has : Bool) (v : Bytes) → calm true v ≡ true → calm has v ≡ true
calm_any true v h = h
calm_any false v h = calm_not v

is_true : (b : Bool) → T b → b ≡ true
is_true true t = refl
is_true false t = absurd t

pub entity_calm : (has : Bool) (k : ℕ) → k < 7 → calm has (row_bytes k) ≡ true
entity_calm has k h = calm_any has (row_bytes k) (is_true (calm true (row_bytes k)) (row_calm k h))

-- a line
inner_by : (b has : Bool) → not b ≡ true → not (has && b) ≡ true
inner_by true has h = let z : ◌≡◌ {A = ℕ} 0 1 = cc in absurd (omega arith)
inner_by false true h = refl
inner_by false false h = refl

line_step : (b : Bool) (c n : ℕ) (l : Bytes) → inner_byte c ≡ b → calm true (take (suc n) l) ≡ true → calm true (take (suc (pick b (suc n) 0)) (c ∷ l)) ≡ true
line_step true c n l q h = calm_cons true c (take (suc n) l) (inner_by (eqb c 10) true q) h
line_step false c n l q h = refl

calm_line : (l : Bytes) → calm true (take (suc (run inner_byte l)) l) ≡ true
unfolding run
calm_line [] = refl
calm_line (c ∷ l) = line_step (inner_byte c) c (run inner_byte l) l refl (calm_line l)

pub line_calm : (has : Bool) (l : Bytes) → calm has (take (line_length has l) l) ≡ true
line_calm false l = calm_not (take (length l) l)
line_calm true l = ap (calm true) (ap (λ (n : ℕ). take n l) (min_comm (length l) (suc (run inner_byte l))) ∙ take_min (suc (run inner_byte l)) l) ∙ calm_line l

pub line_some : (has : Bool) (l : Bytes) → 0 < length l → 0 < line_length has l
line_some false l h = h
line_some true l h = omega arith

pub line_le : (has : Bool) (l : Bytes) → line_length has l ≤ length l
line_le false l = omega arith
line_le true l = omega arith

-- the line from i on: the bytes from i to j are passed
module _ (has : Bool) (l : Bytes) (i j : ℕ) (t : has ≡ true) (p : i ≤ j) (h : i + run inner_byte (drop i l) ≡ j + run inner_byte (drop j l)) where
  pub line_found : j < length l → inner_byte (get_or l j 0) ≡ false → j + 1 ≡ i + line_length has (drop i l)
  line_found k e =
      let z : run inner_byte (drop j l) ≡ 0 = run_end inner_byte l j k e in
      let d = length-drop i l in
      rw t (omega arith)

  pub line_last : j ≡ length l → j ≡ i + line_length has (drop i l)
  unfolding run
  line_last e =
      let k : length l ≤ j = omega arith in
      let z : run inner_byte (drop j l) ≡ 0 = rw (drop_of_length-le l k) in
      let d = length-drop i l in
      rw t (omega arith)

pub line_all : (has : Bool) (l : Bytes) (i : ℕ) → has ≡ false → i ≤ length l → length l ≡ i + line_length has (drop i l)
line_all has l i t h = let d = length-drop i l in rw t (omega arith)
