use Prim.Native.Nat.{◌+◌, ◌≤◌}
use mathlib.Core.Option.{Option}
use mathlib.Core.Path.{sym, ap, ap₂, ◌∙◌, subst}
use lib.ListN.{length}
use lib.Seq.{sets}
use borrow.Author.Rules.{rules}
use Rattle.rules.specs.Bytes.{Bytes}
use Rattle.rules.specs.Bits.{bits}
use Rattle.rules.specs.State.{text_size}
use Rattle.decorators.specs.Indents.{bytes_of}
use Rattle.inlining.specs.Rule.{own_stands}
use Rattle.state.specs.Context.{RenderContext, whole}
use Rattle.state.specs.Setters.{with_template}
use Rattle.texts.specs.Setters.{indented}
use Rattle.drawing.specs.Enclosed.{own_says}
use Rattle.beginning.proofs.begin_body.Goals as goal

pub append_indent-n-requires : goal.append_indent-n-requires
append_indent-n-requires c = let z = c in
    let a = z.args in
    (z.requires.0, own_stands (bits a.b.now) a.at z.requires.1.held, subst (λ (o : Option Bytes). a.rc.writer.indent + text_size o ≤ length a.indent.now) (sym (own_says a.b.now a.at)) z.requires.1.fits)

pub returns : goal.returns
returns c = let z = c in
    let a = z.args in
    let says = own_says a.b.now a.at in
    let appended = c.append_indent-n.ensures in (
      λ l.
          c.set_current_template_name.ensures l
          ∙ ap (λ (x : RenderContext). with_template x a.name)
          (c.with_indent-u.ensures l
          ∙ ap₂ (indented (whole a.rc l)) c.has_indent.ensures (appended.0 ∙ ap (λ (o : Option Bytes). a.rc.writer.indent + text_size o) says)),
      appended.1 ∙ ap (λ (o : Option Bytes). sets a.indent.now a.rc.writer.indent (bytes_of o)) says,
    )
