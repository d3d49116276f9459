use Rattle.saying.proofs.Chars.{char_escape, char_none, char_raw}
use Rattle.saying.proofs.Remaining.{left_quote}
use Rattle.strings.proofs.Lengths.{char_most}
use borrow.Author.Rules.{rules}
use mathlib.Core.Path.{◌∙◌, sym}
use native.Mathlib.Omega.{arith}
use Rattle.saying.proofs.next_char.Goals as goal

pub returns-then-c-eq34 : goal.returns-then-c-eq34
returns-then-c-eq34 c = λ w. left_quote c.args.s.now c.args.at 0 (sym c.byte-c.ensures ∙ c.if-c-eq34.true)

pub returns-then-n-eq0 : goal.returns-then-n-eq0
returns-then-n-eq0 c = char_none c.args.s.now c.args.at c.char_length-n.result (λ q. c.if-c-eq34.false (c.byte-c.ensures ∙ q)) c.char_length-n.ensures c.if-n-eq0.true

pub overflow_add-result : goal.overflow_add-result
overflow_add-result c = omega (arith, c.char_length-n.ensures, (char_most c.args.s.now c.args.at).most)

pub returns-then-c-eq92 : goal.returns-then-c-eq92
returns-then-c-eq92 c = char_escape c.args.s.now c.args.at c.char_length-n.result (λ q. c.if-c-eq34.false (c.byte-c.ensures ∙ q)) c.char_length-n.ensures c.said_count.result
    (sym c.byte-c.ensures ∙ c.if-c-eq92.true) c.said_count.ensures

pub overflow_add-result-2 : goal.overflow_add-result-2
overflow_add-result-2 c = omega (arith, c.char_length-n.ensures, (char_most c.args.s.now c.args.at).most)

pub returns : goal.returns
returns c = char_raw c.args.s.now c.args.at c.char_length-n.result (λ q. c.if-c-eq34.false (c.byte-c.ensures ∙ q)) c.char_length-n.ensures
    (λ e. c.if-c-eq92.false (c.byte-c.ensures ∙ e))
