use Rattle.layout.proofs.Parts.{utf8_again, utf8_end, utf8_start}
use Rattle.layout.specs.Ascii.{ascii_passed}
use Rattle.rules.specs.Bits.{bits}
use Rattle.rules.specs.BundleLaws.{bits_binary}
use Rattle.utf8.specs.Machine.{begun}
use mathlib.Core.Path.{◌∙◌, refl, sym}
use native.Mathlib.Omega.{arith}
use Rattle.layout.proofs.part.utf8_at.Goals as goal

pub loop-i-init : goal.loop-i-init
loop-i-init c = let a = c.args in
    (omega arith, utf8_start (bits a.b.now) a.at a.n begun begun refl)

pub returns-then-not-is_ascii : goal.returns-then-not-is_ascii
returns-then-not-is_ascii c = let l = c.loop-i in
    c.mixed_at.ensures ∙ l.invariant.1

pub loop-i-preserved : goal.loop-i-preserved
loop-i-preserved c = let a = c.args in
    let l = c.loop-i in
    let k = c.min-k.result in
    let x = c.field.result in
    let plain = sym c.is_ascii.ensures ∙ c.if-not-is_ascii.false in
    (omega arith, utf8_again (bits a.b.now) a.at a.n l.i begun (bits_binary a.b.now) k x begun (omega arith) c.field.ensures (sym (ascii_passed 7 k x (omega arith) plain)) ∙ l.invariant.1)

pub returns : goal.returns
returns c = let a = c.args in
    let l = c.loop-i in
    utf8_end (bits a.b.now) a.at a.n l.i begun (omega arith) ∙ l.invariant.1
