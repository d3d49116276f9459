use lib.ListN.{length}
use Rattle.direct.specs.Direct.{written_text, short_packed, short_taken}
use Rattle.output.specs.Writer.{output}
use Rattle.rules.specs.BundleLaws.{bits_binary}
use Rattle.rules.specs.Bits.{bits}
use Rattle.rules.specs.Bytes.{Bytes}
use mathlib.Core.Path.{sym, ap, ◌∙◌}
use Rattle.direct.proofs.write_packed.Goals as goal

pub put_short-requires : goal.put_short-requires
put_short-requires c = let u = c.led_packed-u in short_taken u.result (length u.new.out) c.args.n c.field-x.result (sym c.takes_short.ensures ∙ c.if-takes_short.true)

pub returns-then-takes_short : goal.returns-then-takes_short
returns-then-takes_short c = let a = c.args in
    let d = short_taken c.led_packed-u.result (length c.led_packed-u.new.out) a.n c.field-x.result (sym c.takes_short.ensures ∙ c.if-takes_short.true) in
    let u = c.led_packed-u in
    c.put_short.ensures a.indent.now
    ∙ ap (λ (v : Bytes). written_text a.indent.now v (output u.result u.new.out)) (short_packed (bits a.s.now) (bits_binary a.s.now) a.p a.n c.field-x.result d.0 c.field-x.ensures)
    ∙ u.ensures
