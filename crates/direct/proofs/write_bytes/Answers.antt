use Rattle.direct.specs.Direct.{plain_means, written_text}
use Rattle.support.specs.Runs.{calm}
use Rattle.output.specs.Writer.{output}
use Rattle.rules.specs.Bytes.{Bytes}
use mathlib.Core.Path.{sym, ap, ◌∙◌}
use mathlib.Core.Bool.{Bool}
use Rattle.direct.proofs.write_bytes.Goals as goal

pub put_bytes-requires : goal.put_bytes-requires
put_bytes-requires c = let a = c.args in let d = plain_means a.w.has_indent a.escape a.v.now (sym c.is_plain.ensures ∙ (c.if-not-is_plain.false)) in (sym c.takes.ensures ∙ c.if-takes.true, ap (λ (t : Bool). calm t c.args.v.now) c.led_bytes-u.ensures.0 ∙ d.0)

pub returns-then-takes : goal.returns-then-takes
returns-then-takes c = let a = c.args in
    let i = a.indent.now in
    let d = plain_means a.w.has_indent a.escape a.v.now (sym c.is_plain.ensures ∙ (c.if-not-is_plain.false)) in
    c.put_bytes.ensures i ∙ c.led_bytes-u.ensures.1 ∙ ap (λ (u : Bytes). written_text i u (output a.w a.out.now)) (sym d.1)

pub returns : goal.returns
returns c = let a = c.args in
    let i = a.indent.now in
    let d = plain_means a.w.has_indent a.escape a.v.now (sym c.is_plain.ensures ∙ (c.if-not-is_plain.false)) in
    c.feed_bytes-2.ensures ∙ ap (λ (u : Bytes). written_text i u (output c.led_bytes-u.result c.led_bytes-u.new.out)) d.1 ∙ c.led_bytes-u.ensures.1 ∙ ap (λ (u : Bytes). written_text i u (output a.w a.out.now)) (sym d.1)
