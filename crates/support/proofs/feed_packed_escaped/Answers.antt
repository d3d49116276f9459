use mathlib.Core.Path.{◌≡◌, sym, ap, ◌∙◌}
use mathlib.Core.Bool.{true}
use Prim.Native.Nat.{ℕ, ◌+◌, ◌-◌, ◌≤◌}
use native.Mathlib.Omega.{arith}
use lib.ListN.{get_or, take, drop}
use Rattle.rules.specs.Bytes.{Bytes, run}
use Rattle.rules.specs.Bits.{bits}
use Rattle.bits.specs.Packed.{bytes_at, bytes_length, bytes_get}
use Rattle.output.specs.Writer.{output}
use Rattle.output.proofs.Packed.{part_packed}
use Rattle.support.specs.Feed.{all_emitted, entity_or, escaped}
use Rattle.support.specs.Runs.{quiet_byte}
use Rattle.support.proofs.Steps.{feed_more, feed_done}
use Rattle.support.proofs.Runs.{plain_run, run_step}
use borrow.Author.Rules.{rules}
use Rattle.support.proofs.feed_packed_escaped.Goals as goal

pub returns-then-n-e : goal.returns-then-n-e
returns-then-n-e c = let a = c.args in
    let l = c.loop-i in
    let b = bits a.s.now in
    let v = bytes_at b a.p a.n in
    let n = bytes_length b a.p a.n in
    let has = l.q.has_indent in
    let d = drop l.i v in
    let m = c.quiet_packed-e.result - l.i in
    let e : m ≡ run (quiet_byte has true) d = omega (arith, c.quiet_packed-e.ensures.0) in
    let k : l.i + m ≡ c.quiet_packed-e.result = omega (arith, c.quiet_packed-e.ensures.0) in
    let f : l.i + m ≤ a.n = omega (arith, c.quiet_packed-e.ensures.1) in
    let p = c.feed_packed-q in
    let o = output l.q l.out in
    let o' = output p.result p.new.out in
    let plain : escaped true (take m d) ≡ take m d = rw e (plain_run has true d) in
    let fed : o' ≡ all_emitted a.indent.now (take m d) o = p.ensures ∙ ap (λ (u : Bytes). all_emitted a.indent.now u o) (sym (part_packed b a.p a.n l.i m f)) in
    sym (feed_done a.indent.now v (l.i + m) true o' (omega (arith, c.if-n-e.true)))
    ∙ run_step a.indent.now v l.i m true o o' plain fed
    ∙ l.invariant.2

pub loop-i-preserved : goal.loop-i-preserved
loop-i-preserved c = let a = c.args in
    let l = c.loop-i in
    let b = bits a.s.now in
    let v = bytes_at b a.p a.n in
    let n = bytes_length b a.p a.n in
    let has = l.q.has_indent in
    let d = drop l.i v in
    let m = c.quiet_packed-e.result - l.i in
    let e : m ≡ run (quiet_byte has true) d = omega (arith, c.quiet_packed-e.ensures.0) in
    let k : l.i + m ≡ c.quiet_packed-e.result = omega (arith, c.quiet_packed-e.ensures.0) in
    let f : l.i + m ≤ a.n = omega (arith, c.quiet_packed-e.ensures.1) in
    let p = c.feed_packed-q in
    let o = output l.q l.out in
    let o' = output p.result p.new.out in
    let plain : escaped true (take m d) ≡ take m d = rw e (plain_run has true d) in
    let fed : o' ≡ all_emitted a.indent.now (take m d) o = p.ensures ∙ ap (λ (u : Bytes). all_emitted a.indent.now u o) (sym (part_packed b a.p a.n l.i m f)) in
    let r = c.quiet_packed-e.result in
    let g = c.feed_escaped-q in
    let x : c.byte.result ≡ get_or v r 0 = c.byte.ensures ∙ sym (bytes_get b a.p a.n r (omega (arith, c.if-n-e.false))) in (
      omega (arith, c.if-n-e.false),
      search rules,
      feed_more a.indent.now v r true o' (output g.result g.new.out) (omega (arith, c.if-n-e.false)) (g.ensures ∙ ap (λ (y : ℕ). all_emitted a.indent.now (entity_or true y) o') x)
          ∙ ap (λ (y : ℕ). all_emitted a.indent.now (escaped true (drop y v)) o') (sym k)
          ∙ run_step a.indent.now v l.i m true o o' plain fed
          ∙ l.invariant.2,
    )

pub returns : goal.returns
returns c = let a = c.args in
    let l = c.loop-i in
    let v = bytes_at (bits a.s.now) a.p a.n in
    let n = bytes_length (bits a.s.now) a.p a.n in
    sym (feed_done a.indent.now v l.i true (output l.q l.out) (omega (arith, c.loop-i-test.false))) ∙ l.invariant.2
