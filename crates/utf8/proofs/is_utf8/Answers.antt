use Rattle.utf8.proofs.Laws.{utf8_stop, utf8_go, length_fits}
use Rattle.rules.specs.Utf8.{utf8, utf8_length}
use Rattle.rules.specs.Bytes.{Bytes}
use lib.ListN.{length, take, drop, length-drop}
use lib.Seq.{take_all}
use lib.Dec.{eqb}
use borrow.Author.Rules.{rules}
use mathlib.Core.Bool.{false}
use mathlib.Core.Path.{◌≡◌, sym, ◌∙◌}
use native.Mathlib.Nat.{zero-add}
use native.Mathlib.Omega.{arith}
use Prim.Native.Nat.{ℕ, ◌<◌, ◌-◌, ◌≤◌}
use Rattle.utf8.proofs.is_utf8.Goals as goal

some : (s : Bytes) → eqb (length s) 0 ≡ false → 0 < length s
some s e = search rules

-- a character less
less : (s : Bytes) (n : ℕ) → 0 < length s → n ≡ utf8_length s 0 → (n ≡ 0 → ⊥) → utf8 (take (length s - n) (drop n s)) ≡ utf8 s
less s n h e z = let k : length (drop n s) ≤ length s - n = omega (arith, length-drop n s) in
    rw (take_all (length s - n) (drop n s) k, e) (sym (rw zero-add at (utf8_go s 0 h (λ f. z (e ∙ f)))))

pub returns-then-n-eq0 : goal.returns-then-n-eq0
returns-then-n-eq0 c = let l = c.loop-rest in let s = l.rest.now in
    let h = some s (sym c.is_empty.ensures ∙ c.loop-rest-test.true) in
    sym (utf8_stop s 0 h (sym c.utf8_length-n.ensures ∙ c.if-n-eq0.true)) ∙ l.invariant

pub slice_bounds-rest-count : goal.slice_bounds-rest-count
slice_bounds-rest-count c = let s = c.loop-rest.rest.now in
    omega (arith, length_fits s 0 (some s (sym c.is_empty.ensures ∙ c.loop-rest-test.true)), c.utf8_length-n.ensures)

pub slice_bounds-rest-start : goal.slice_bounds-rest-start
slice_bounds-rest-start c = let s = c.loop-rest.rest.now in
    let h : c.utf8_length-n.result ≤ length s = omega (arith, length_fits s 0 (some s (sym c.is_empty.ensures ∙ c.loop-rest-test.true)), c.utf8_length-n.ensures) in
    search rules

pub loop-rest-preserved : goal.loop-rest-preserved
loop-rest-preserved c = let s = c.loop-rest.rest.now in
    less s c.utf8_length-n.result (some s (sym c.is_empty.ensures ∙ c.loop-rest-test.true)) c.utf8_length-n.ensures c.if-n-eq0.false ∙ c.loop-rest.invariant
