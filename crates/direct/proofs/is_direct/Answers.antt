use native.Mathlib.Omega.{arith}
use Prim.Native.Nat.{◌≤◌}
use mathlib.Core.Path.{◌≡◌, sym, ap, ◌∙◌}
use lib.ListN.{length}
use lib.Seq.{take_all}
use borrow.Author.Tests.{eqb-true}
use Rattle.rules.specs.Bits.{bits}
use Rattle.bits.specs.Packed.{bytes_at, bytes_length}
use Rattle.support.specs.Runs.{calm, line_length}
use Rattle.support.proofs.Runs.{line_calm}
use Rattle.direct.proofs.is_direct.Goals as goal

pub returns-then-takes : goal.returns-then-takes
returns-then-takes c = let a = c.args in
    let has = a.w.has_indent in
    let v = bytes_at (bits a.s.now) a.p a.n in
    let n : length v ≡ a.n = bytes_length (bits a.s.now) a.p a.n in
    λ h.
    let e : c.line_end.result ≡ a.n = eqb-true c.line_end.result a.n h in
    let l : length v ≤ line_length has v = omega (arith, e, n, c.line_end.ensures) in
    (sym c.takes.ensures ∙ c.if-takes.true, ap (calm has) (sym (take_all (line_length has v) v l)) ∙ line_calm has v)
