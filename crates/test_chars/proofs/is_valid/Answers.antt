use Rattle.std.proofs.Common.{arith, ◌≡◌, ap, ◌∙◌, ℕ}
use Rattle.bits.specs.Packed.{bytes_at}
use Rattle.rules.specs.Bits.{bits}
use Rattle.test_chars.proofs.Laws.{feed_none, feed_one}
use Rattle.utf8.proofs.Laws.{fed_end}
use Rattle.utf8.specs.Machine.{wanted, begun, after}
use Rattle.test_chars.proofs.is_valid.Goals as goal

pub loop-i-init : goal.loop-i-init
loop-i-init c = feed_none (bits c.args.b.now) c.args.p _ c.start-u.ensures

pub loop-i-preserved : goal.loop-i-preserved
loop-i-preserved c = feed_one (bits c.args.b.now) c.args.p c.loop-i.i c.byte.result (wanted c.loop-i.u) _ c.loop-i.invariant c.byte.ensures c.step-u.ensures

pub returns : goal.returns
returns c =
    let a = c.args in
    let l = c.loop-i in
    let e : l.i ≡ a.n = omega arith in
    c.is_done.ensures ∙ fed_end (bytes_at (bits a.b.now) a.p a.n) (wanted l.u) (l.invariant ∙ ap (λ (x : ℕ). after begun (bytes_at (bits a.b.now) a.p x)) e)
