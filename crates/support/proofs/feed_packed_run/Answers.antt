use mathlib.Core.Path.{◌≡◌, sym, ap, ◌∙◌}
use Prim.Native.Nat.{ℕ, suc, ◌+◌, ◌-◌, ◌*◌, ◌<◌}
use native.Mathlib.Numerals.{add-one}
use native.Mathlib.Omega.{arith}
use lib.ListN.{length, get_or}
use Rattle.rules.specs.Bits.{bits}
use Rattle.rules.specs.Layout.{field}
use Rattle.bits.specs.Packed.{bytes_at, bytes_length, bytes_get}
use Rattle.output.specs.Writer.{output, over, all_put}
use Rattle.support.specs.Feed.{with_pen, penned, indent_before}
use Rattle.support.proofs.Runs.{run_whole}
use Rattle.support.proofs.Steps.{emit_done}
use Rattle.support.proofs.feed_packed_run.Goals as goal

pub returns-then-n-eq0 : goal.returns-then-n-eq0
returns-then-n-eq0 c = let a = c.args in
    let n = bytes_length (bits a.s.now) a.p a.n in
    sym (emit_done a.indent.now (bytes_at (bits a.s.now) a.p a.n) 0 (output a.w a.out.now) (omega (arith, c.if-n-eq0.true)))

pub returns : goal.returns
returns c = let a = c.args in
    let b = bits a.s.now in
    let v = bytes_at b a.p a.n in
    let n = bytes_length b a.p a.n in
    let some : 0 < a.n = omega (arith, c.if-n-eq0.false) in
    let p = c.write_packed-r in
    let o = output a.w a.out.now in
    let z : a.p + 8 * 0 ≡ a.p = omega arith in
    let first : c.byte.result ≡ get_or v 0 0 = c.byte.ensures ∙ ap (field b 8) (sym z) ∙ sym (bytes_get b a.p a.n 0 some) in
    let x = get_or v (length v - 1) 0 in
    let last : c.byte-2.result ≡ x = c.byte-2.ensures ∙ sym (bytes_get b a.p a.n (a.n - 1) (omega arith)) ∙ ap (λ (k : ℕ). get_or v (k - 1) 0) (sym n) in
    let e : c.from.result + 1 ≡ suc x = ap (λ (k : ℕ). k + 1) (c.from.ensures ∙ last) ∙ add-one x in
    ap (λ (k : ℕ). output (with_pen k p.result) p.new.out) e
    ∙ ap (over (penned x)) (p.ensures ∙ ap (all_put v) (c.indent_before-q.ensures ∙ ap (λ (k : ℕ). all_put (indent_before a.indent.now k a.w) o) first))
    ∙ sym (run_whole a.indent.now v o (λ k. c.if-n-eq0.false (sym n ∙ k)) c.requires.1)
