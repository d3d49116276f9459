use Rattle.utf8.proofs.Laws.{fed_byte}
use Rattle.utf8.specs.Machine.{wanted, after}
use Rattle.rules.specs.Bytes.{byte_at}
use lib.Seq.{take-suc, take_all}
use lib.ListN.{take}
use mathlib.Core.Path.{refl, ap, ◌∙◌}
use native.Mathlib.Omega.{arith}
use native.Mathlib.Numerals.{add-one}
use Rattle.test_utf8.proofs.fed.Goals as goal

pub loop-c-preserved : goal.loop-c-preserved
loop-c-preserved c = let s = c.args.s.now in
    let l = c.loop-c in
    let more = fed_byte (wanted c.args.from) (take l.c-index s) _ (wanted l.u) (wanted c.step-u.result) l.invariant c.step-u.ensures in
    rw (add-one l.c-index, take-suc s l.c-index 0 c.loop-c-test.true) more

pub returns : goal.returns
returns c = let s = c.args.s.now in
    let l = c.loop-c in
    l.invariant ∙ ap (after (wanted c.args.from)) (take_all l.c-index s c.loop-c-test.false)
