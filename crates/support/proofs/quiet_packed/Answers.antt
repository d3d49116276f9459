use mathlib.Core.Bool.{true}
use mathlib.Core.Path.{◌≡◌, sym, ap, ◌∙◌}
use native.Mathlib.Omega.{arith}
use lib.ListN.{get_or}
use Rattle.rules.specs.Bits.{bits}
use Rattle.bits.specs.Packed.{bytes_at, bytes_length, bytes_get}
use Rattle.support.specs.Runs.{quiet_byte}
use Rattle.support.proofs.Runs.{run_next, run_stop, run_over}
use Rattle.support.proofs.quiet_packed.Goals as goal

pub returns-then-not-is_quiet : goal.returns-then-not-is_quiet
returns-then-not-is_quiet c = let a = c.args in
    let l = c.loop-j in
    let b = bits a.s.now in
    let v = bytes_at b a.p a.n in
    let p = quiet_byte a.has_indent true in
    let n = bytes_length b a.p a.n in
    let x : get_or v l.j 0 ≡ c.byte.result = bytes_get b a.p a.n l.j c.loop-j-test.true ∙ sym c.byte.ensures in
    (run_stop p v l.j (omega arith) _ (ap p x ∙ sym c.is_quiet.ensures ∙ c.if-not-is_quiet.true) l.invariant, omega arith)

pub loop-j-preserved : goal.loop-j-preserved
loop-j-preserved c = let a = c.args in
    let l = c.loop-j in
    let b = bits a.s.now in
    let v = bytes_at b a.p a.n in
    let p = quiet_byte a.has_indent true in
    let n = bytes_length b a.p a.n in
    let x : get_or v l.j 0 ≡ c.byte.result = bytes_get b a.p a.n l.j c.loop-j-test.true ∙ sym c.byte.ensures in
    run_next p v l.j (omega arith) _ (ap p x ∙ sym c.is_quiet.ensures ∙ c.if-not-is_quiet.false) l.invariant

pub returns : goal.returns
returns c = let a = c.args in
    let l = c.loop-j in
    let b = bits a.s.now in
    let n = bytes_length b a.p a.n in
    let e : l.j ≡ a.n = omega arith in
    (sym e ∙ run_over (quiet_byte a.has_indent true) (bytes_at b a.p a.n) l.j _ (omega arith) l.invariant, omega arith)
