use Rattle.scan.proofs.Runs.{run_off, run_on}
use Rattle.strings.proofs.Quick.{quote_found, quote_missed}
use Rattle.strings.specs.Plain.{is_plain}
use mathlib.Core.Path.{◌∙◌, ap, sym}
use Rattle.strings.proofs.plain_string_end.Goals as goal

pub returns-then-c-eq34 : goal.returns-then-c-eq34
returns-then-c-eq34 c = let l = c.loop-j in
    quote_found c.args.s.now c.args.i l.j (l.invariant ∙ run_off is_plain c.args.s.now l.j c.loop-j-test.true (ap is_plain c.if-c-eq34.true)) c.if-c-eq34.true

pub returns-then-not-is_plain : goal.returns-then-not-is_plain
returns-then-not-is_plain c = let l = c.loop-j in
    quote_missed c.args.s.now c.args.i l.j (l.invariant ∙ run_off is_plain c.args.s.now l.j c.loop-j-test.true (sym c.is_plain.ensures ∙ c.if-not-is_plain.true)) c.if-c-eq34.false

pub loop-j-preserved : goal.loop-j-preserved
loop-j-preserved c = let l = c.loop-j in
    l.invariant ∙ run_on is_plain c.args.s.now l.j c.loop-j-test.true (sym c.is_plain.ensures ∙ c.if-not-is_plain.false)
