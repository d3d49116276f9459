use Rattle.layout.proofs.Parts.{utf8_again, utf8_end, utf8_start}
use Rattle.rules.specs.Bits.{bits}
use Rattle.rules.specs.BundleLaws.{bits_binary}
use Rattle.utf8.specs.Machine.{wanted}
use mathlib.Core.Path.{◌∙◌}
use native.Mathlib.Omega.{arith}
use Rattle.layout.proofs.part.mixed_at.Goals as goal

pub loop-i-init : goal.loop-i-init
loop-i-init c = let a = c.args in
    (omega arith, utf8_start (bits a.b.now) a.at a.n _ _ c.start-u.ensures)

pub loop-i-preserved : goal.loop-i-preserved
loop-i-preserved c = let a = c.args in
    let l = c.loop-i in
    let k = c.min-k.result in
    (omega arith, utf8_again (bits a.b.now) a.at a.n l.i (wanted l.u) (bits_binary a.b.now) k _ _ (omega arith) c.field.ensures c.fed-u.ensures ∙ l.invariant.1)

pub returns : goal.returns
returns c = let a = c.args in
    let l = c.loop-i in
    c.is_done.ensures ∙ utf8_end (bits a.b.now) a.at a.n l.i (wanted l.u) (omega arith) ∙ l.invariant.1
