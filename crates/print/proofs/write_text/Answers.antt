use mathlib.Core.Path.{◌∙◌, ap, subst, sym}
use Rattle.output.specs.Writer.{output}
use Rattle.text.specs.declared.Text.{Text}
use Rattle.text.specs.Rest.{Stands, rest}
use Rattle.print.specs.Printed.{printed}
use borrow.Author.Rules.{rules}
use Rattle.print.proofs.write_text.Goals as goal

pub write_said-requires : goal.write_said-requires
write_said-requires c = (c.requires.0, subst (Stands c.args.s.now c.args.b.now) c.in-Said.is c.requires.1)

pub write_packed-requires : goal.write_packed-requires
write_packed-requires c = subst (Stands c.args.s.now c.args.b.now) c.in-Packed.is c.requires.1

pub returns-in-Said : goal.returns-in-Said
returns-in-Said c = let a = c.args in
    c.write_said.ensures ∙ ap (λ (x : Text). printed a.indent.now a.escape (rest a.s.now a.b.now x) (output a.w a.out.now)) (sym c.in-Said.is)

pub returns-in-Packed : goal.returns-in-Packed
returns-in-Packed c = let a = c.args in
    c.write_packed.ensures ∙ ap (λ (x : Text). printed a.indent.now a.escape (rest a.s.now a.b.now x) (output a.w a.out.now)) (sym c.in-Packed.is)
