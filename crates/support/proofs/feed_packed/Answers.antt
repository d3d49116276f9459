use mathlib.Core.Path.{◌≡◌, refl, sym, ap, ◌∙◌}
use mathlib.Core.Bool.{false}
use Prim.Native.Nat.{ℕ, ◌+◌, ◌-◌, ◌≤◌, ◌<◌}
use native.Mathlib.Omega.{arith}
use lib.ListN.{take, drop, length-drop}
use Rattle.rules.specs.Bytes.{Bytes}
use Rattle.rules.specs.Bits.{bits}
use Rattle.bits.specs.Packed.{bytes_at, bytes_length}
use Rattle.output.specs.Writer.{output}
use Rattle.output.proofs.Packed.{part_packed}
use Rattle.support.specs.Feed.{all_emitted}
use Rattle.support.specs.Runs.{calm, line_length}
use Rattle.support.proofs.Steps.{emit_done}
use Rattle.support.proofs.Runs.{run_step, line_calm, line_some, line_le}
use borrow.Author.Rules.{rules}
use Rattle.support.proofs.feed_packed.Goals as goal

pub feed_packed_run-q-requires : goal.feed_packed_run-q-requires
feed_packed_run-q-requires c = let a = c.args in
    let l = c.loop-i in
    let b = bits a.s.now in
    let v = bytes_at b a.p a.n in
    let has = l.q.has_indent in
    let d = drop l.i v in
    let n = bytes_length b a.p a.n in
    let z = length-drop l.i v in
    let k = line_le has d in
    let e : c.line_end-e.result - l.i ≡ line_length has d = omega (arith, c.line_end-e.ensures) in
    let f : l.i + (c.line_end-e.result - l.i) ≤ a.n = omega arith in
    (omega arith, ap (calm has) (sym (part_packed b a.p a.n l.i (c.line_end-e.result - l.i) f) ∙ ap (λ (m : ℕ). take m d) e) ∙ line_calm has d)

pub loop-i-smaller : goal.loop-i-smaller
loop-i-smaller c = let a = c.args in
    let l = c.loop-i in
    let v = bytes_at (bits a.s.now) a.p a.n in
    let n = bytes_length (bits a.s.now) a.p a.n in
    let z = length-drop l.i v in
    let k : 0 < line_length l.q.has_indent (drop l.i v) = line_some l.q.has_indent (drop l.i v) (omega (arith, c.loop-i-test.true)) in
    omega (arith, c.line_end-e.ensures, c.loop-i-test.true)

pub loop-i-preserved : goal.loop-i-preserved
loop-i-preserved c = let a = c.args in
    let l = c.loop-i in
    let b = bits a.s.now in
    let v = bytes_at b a.p a.n in
    let has = l.q.has_indent in
    let r = c.line_end-e.result in
    let m = r - l.i in
    let o = output l.q l.out in
    let n = bytes_length b a.p a.n in
    let z = length-drop l.i v in
    let k = line_le has (drop l.i v) in
    let e : l.i + m ≡ r = omega (arith, c.line_end-e.ensures) in
    let f : l.i + m ≤ a.n = omega (arith, c.line_end-e.ensures) in
    let p = c.feed_packed_run-q in (
      omega arith,
      search rules,
      ap (λ (x : ℕ). all_emitted a.indent.now (drop x v) (output p.result p.new.out)) (sym e)
          ∙ run_step a.indent.now v l.i m false o (output p.result p.new.out) refl (p.ensures ∙ ap (λ (u : Bytes). all_emitted a.indent.now u o) (sym (part_packed b a.p a.n l.i m f)))
          ∙ l.invariant.2,
    )

pub returns : goal.returns
returns c = let a = c.args in
    let l = c.loop-i in
    let v = bytes_at (bits a.s.now) a.p a.n in
    let n = bytes_length (bits a.s.now) a.p a.n in
    sym (emit_done a.indent.now v l.i (output l.q l.out) (omega (arith, c.loop-i-test.false))) ∙ l.invariant.2
