use mathlib.Core.Bool.{Bool}
use mathlib.Core.Path.{◌∙◌, ap, sym}
use Rattle.rules.specs.Bits.{bits}
use Rattle.bits.specs.Packed.{bytes_at}
use Rattle.output.specs.Writer.{output}
use Rattle.print.specs.Printed.{printed}
use borrow.Author.Rules.{rules}
use Rattle.print.proofs.write_packed.Goals as goal

pub returns-then-escape : goal.returns-then-escape
returns-then-escape c = let a = c.args in
    c.feed_packed_escaped.ensures ∙ ap (λ (x : Bool). printed a.indent.now x (bytes_at (bits a.b.now) a.p a.n) (output a.w a.out.now)) (sym c.if-escape.true)

pub returns : goal.returns
returns c = let a = c.args in
    c.feed_packed.ensures ∙ ap (λ (x : Bool). printed a.indent.now x (bytes_at (bits a.b.now) a.p a.n) (output a.w a.out.now)) (sym c.if-escape.false)
