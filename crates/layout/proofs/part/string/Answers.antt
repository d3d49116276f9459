use Rattle.layout.proofs.Parts.{string_bad, string_is, string_none}
use Rattle.layout.specs.Walk.{place_by, ahead}
use Rattle.layout.specs.WalkLaws.{ahead_in, number_small, place_none, place_some}
use Rattle.rules.specs.Bits.{bits}
use Rattle.rules.specs.BundleLaws.{bits_size}
use mathlib.Core.Path.{◌∙◌, sym, ap}
use native.Mathlib.Omega.{arith}
use Prim.Native.Nat.{◌*◌}
use Rattle.layout.proofs.part.string.Goals as goal

pub returns-then-q-lt-START : goal.returns-then-q-lt-START
returns-then-q-lt-START c = let a = c.args in
    string_none (bits a.b.now) (place_by a.p) _ _ c.number-n.ensures c.ahead-q.ensures (place_none _ c.if-q-lt-START.true)

pub utf8_at-requires : goal.utf8_at-requires
utf8_at-requires c = let a = c.args in
    let e = place_some c.ahead-q.result (omega arith) in
    (omega (arith, ahead_in (bits a.b.now) 16 (place_by a.p) _ _ (sym c.ahead-q.ensures ∙ e), bits_size a.b.now), omega (arith, number_small 16 a.b.now (place_by a.p) _ c.number-n.ensures))

pub overflow_mul-n : goal.overflow_mul-n
overflow_mul-n c = let a = c.args in
    omega (arith, number_small 16 a.b.now (place_by a.p) _ c.number-n.ensures)

pub returns-then-utf8_at : goal.returns-then-utf8_at
returns-then-utf8_at c = let a = c.args in
    let b = bits a.b.now in
    let e = place_some c.ahead-q.result (omega arith) in
    c.ahead.ensures ∙ ap (ahead b (8 * c.number-n.result)) e
    ∙ string_is b (place_by a.p) _ _ c.number-n.ensures c.ahead-q.ensures _ _ e _ c.utf8_at.ensures c.if-utf8_at.true

pub returns : goal.returns
returns c = let a = c.args in
    let e = place_some c.ahead-q.result (omega arith) in
    string_bad (bits a.b.now) (place_by a.p) _ _ c.number-n.ensures c.ahead-q.ensures _ _ e _ c.utf8_at.ensures c.if-utf8_at.false
