use mathlib.Core.Path.{◌≡◌, sym, ap, ◌∙◌}
use Prim.Native.Nat.{ℕ, ◌+◌, ◌≤◌}
use native.Mathlib.Omega.{arith}
use lib.ListN.{length, get_or, drop, length-drop}
use lib.Seq.{get_or-drop}
use Rattle.output.specs.Writer.{Output, output, put}
use Rattle.output.proofs.Steps.{put_part_more, put_part_done}
use Rattle.output.proofs.Texts.{put_above, put_kept}
use Rattle.output.proofs.write_low.Goals as goal

pub loop-i-preserved : goal.loop-i-preserved
loop-i-preserved c = let a = c.args in
    let l = c.loop-i in
    let p = c.put-q in
    let o = output l.q l.texts in
    let x = get_or l.texts (a.from + l.i) 0 in
    let v = drop a.from a.texts.now in
    let fits : a.n ≤ length v = omega (arith, length-drop a.from a.texts.now) in
    let same : x ≡ get_or v l.i 0 = sym (get_or-drop a.from l.texts l.i 0) ∙ rw l.invariant.2 in
    let high : l.q.high ≤ a.from = omega arith in (
      ap (λ (u : Output). u.writer.high) p.ensures ∙ (put_kept o x).0 ∙ l.invariant.0,
      ap (λ (u : Output). u.writer.block_text) p.ensures ∙ (put_kept o x).1 ∙ l.invariant.1,
      ap (λ (u : Output). drop a.from u.out) p.ensures ∙ put_above o x a.from (l.invariant.1 ∙ c.requires.0) high ∙ l.invariant.2,
      put_part_more v a.n l.i fits o (output p.result p.new.out) c.loop-i-test.true (p.ensures ∙ ap (λ (y : ℕ). put y o) same) ∙ l.invariant.3,
    )

pub returns : goal.returns
returns c = let a = c.args in
    let l = c.loop-i in
    let v = drop a.from a.texts.now in
    let fits : a.n ≤ length v = omega (arith, length-drop a.from a.texts.now) in
    sym (put_part_done v a.n l.i fits (output l.q l.texts) c.loop-i-test.false) ∙ l.invariant.3
