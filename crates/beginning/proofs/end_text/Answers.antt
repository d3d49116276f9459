use mathlib.Core.List.{[]}
use mathlib.Core.Path.{sym, ap, ◌∙◌, subst}
use lib.ListN.{length}
use borrow.Author.Rules.{rules}
use Rattle.rules.specs.Bits.{bits}
use Rattle.output.specs.declared.Writer.{Writer}
use Rattle.state.specs.Context.{RenderContext}
use Rattle.beginning.specs.Opened.{body_context, body_buffer, BodyFits}
use Rattle.beginning.proofs.end_text.Goals as goal

pub close_text-u-requires : goal.close_text-u-requires
close_text-u-requires c = let e = c.requires.1 in (e.from, e.low, e.high, e.short)

pub begin_body-requires : goal.begin_body-requires
begin_body-requires c = let z = c in
    let a = z.args in
    let is = ap (λ (x : RenderContext). x.writer) (c.close_text-u.ensures.0 []) in
    (z.requires.0, subst (λ (w : Writer). BodyFits (bits a.b.now) a.at w (length a.indent.now)) (sym is) (record { held = z.requires.1.body.held; fits = z.requires.1.body.fits }))

pub returns : goal.returns
returns c = let z = c in
    let a = z.args in
    let close = c.close_text-u in
    let body = c.begin_body in
    let is = ap (λ (x : RenderContext). x.writer) (close.ensures.0 []) in (
      λ l. body.ensures.0 l ∙ ap (body_context (bits a.b.now) a.at a.name) (close.ensures.0 l),
      close.ensures.1,
      body.ensures.1 ∙ ap (λ (w : Writer). body_buffer (bits a.b.now) a.at w a.indent.now) is,
    )
