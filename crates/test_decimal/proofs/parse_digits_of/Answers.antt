use Rattle.decimal.proofs.RoundTrip.{parse_written}
use Rattle.decimal.proofs.Parsing.{fed_byte, fed_end}
use Rattle.decimal.specs.Parsing.{fed_all, parsed}
use Rattle.decimal.specs.declared.Parse.TheVariants.{Empty}
use Rattle.rules.specs.Bytes.{digits, byte_at}
use lib.Seq.{take-suc, take_all}
use lib.ListN.{take}
use mathlib.Core.Path.{ap, ◌∙◌}
use native.Mathlib.Omega.{arith}
use native.Mathlib.Numerals.{add-one}
use Rattle.test_decimal.proofs.parse_digits_of.Goals as goal

pub loop-i-init : goal.loop-i-init
loop-i-init c = c.start-p.ensures

pub loop-i-preserved : goal.loop-i-preserved
loop-i-preserved c = let d = digits c.args.n in
    let l = c.loop-i in
    let more = fed_byte (take l.i d) (byte_at d l.i) l.p c.feed-p.result l.invariant (rw c.digit.ensures at c.feed-p.ensures) in
    rw (add-one l.i, take-suc d l.i 0 (rw c.digit_count-count.ensures at c.loop-i-test.true)) more

pub returns : goal.returns
returns c = let n = c.args.n in
    let l = c.loop-i in
    let all = take_all l.i (digits n) (rw c.digit_count-count.ensures at c.loop-i-test.false) in
    c.finish.ensures ∙ ap parsed (fed_end (digits n) l.p (l.invariant ∙ ap (fed_all Empty) all) ∙ parse_written n (omega arith))
