use Prim.Native.Nat.{◌/◌, ◌%◌}
use mathlib.Core.Path.{◌≡◌, sym, subst}
use Rattle.rules.specs.Value.{render}
use Rattle.output.specs.Outputs.{outputs}
use Rattle.support.specs.Feed.{escaped, fed}
use Rattle.value.specs.Numbers.{decoded}
use Rattle.value.specs.declared.Value.{Value}
use Rattle.meaning.specs.Means.{Means}
use Rattle.meaning.specs.Forms.{Known}
use Rattle.plain.specs.Put.{value_same, value_by}
use borrow.Author.Rules.{rules}
use Rattle.plain.proofs.write_number.Goals as goal

pub write_value-requires : goal.write_value-requires
write_value-requires c = let z = c in
    let a = z.args in
    (z.requires.0, z.requires.1, subst (Known a.s.now a.b.now) (sym c.decode-v.ensures) z.requires.2)

pub returns-then-put-eq0 : goal.returns-then-put-eq0
returns-then-put-eq0 c = let z = c in
    let a = z.args in
    let y = c.put_number-put in
    let u = c.write_value in
    value_same a.s.now a.b.now (decoded a.n) a.indent.now a.escape a.w u.result a.page.now a.texts.now y.new.page y.new.texts u.new.page u.new.texts (y.ensures.none c.if-put-eq0.true)
    (subst (λ (v : Value). Means a.s.now a.b.now v (λ j. outputs u.result u.new.page u.new.texts ≡ fed a.indent.now (escaped a.escape (render j)) (outputs a.w y.new.page y.new.texts))) c.decode-v.ensures u.ensures)

pub behind-requires : goal.behind-requires
behind-requires c = (c.put_number-put.ensures.some c.if-put-eq0.false).fits

pub returns : goal.returns
returns c = let z = c in
    let a = z.args in
    let y = c.put_number-put in
    value_by a.s.now a.b.now (decoded a.n) a.indent.now a.escape a.w c.behind.result a.page.now a.texts.now y.new.page y.new.texts (y.result / 256) (y.result % 256) c.behind.ensures (y.ensures.some c.if-put-eq0.false) z.requires.2
