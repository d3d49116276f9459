use mathlib.Core.Path.{sym, ap, ◌∙◌, subst}
use Rattle.rules.specs.Bits.{bits}
use Rattle.layout.specs.Text.{text_at}
use Rattle.scope.proofs.NamesLaws.{string_near}
use Rattle.context.specs.declared.Start.{Start}
use Rattle.context.specs.Start.{NameStarts}
use Rattle.context.proofs.Starting.{name_based, name_found}
use Rattle.context.proofs.Nearing.{lacks_here, none_is, lacked, needs_none, needs_more}
use Rattle.context.proofs.Nearing.{based_front, front_found}
use Rattle.rules.specs.Order.{differ}
use Rattle.context.proofs.name_near.Goals as goal

pub returns-then-names-name_bit-eq0 : goal.returns-then-names-name_bit-eq0
returns-then-names-name_bit-eq0 c = (
  λ far l u w.
      let z = c in
      let b = z.args.b.now in
      let ent = z.args.ent.now in
      let k = text_at (bits b) z.args.q in
      subst (NameStarts b ent l u z.args.p z.args.n 0) (sym c.start_at.ensures)
      (name_based b ent l u z.args.p z.args.n 0 z.args.q z.args.next z.requires.2 z.args.front.base (based_front b ent z.args.front z.args.names l u w)
      (λ s t st. none_is s b ent l u t z.args.names k (lacks_here z.args.names c.name_bit.result k c.name_bit.ensures c.if-names-name_bit-eq0.true) st w.covered)),
  ap (λ (y : Start). y.far) c.start_at.ensures ∙ lacked c.args.b.now c.args.ent.now c.args.front c.args.names c.name_bit.result (text_at (bits c.args.b.now) c.args.q) c.name_bit.ensures c.if-names-name_bit-eq0.true,
)

pub own_number-found-requires : goal.own_number-found-requires
own_number-found-requires c = let z = c in (z.requires.0, string_near z.args.b.now z.args.q z.requires.0 z.requires.2.text, z.requires.1, c.field-x.ensures, c.spare.ensures)

pub returns-then-found-ne0 : goal.returns-then-found-ne0
returns-then-found-ne0 c = (
  λ far l u w.
      let z = c in
      let b = z.args.b.now in
      let ent = z.args.ent.now in
      let k = text_at (bits b) z.args.q in
      subst (NameStarts b ent l u z.args.p z.args.n 0) (sym c.start_at-then-found-ne0.ensures)
      (name_found b ent l u z.args.p z.args.n 0 z.args.q z.args.next z.requires.2 _
      (λ s t st. front_found s b ent z.args.front z.args.names l u t k w st c.own_number-found.result c.own_number-found.ensures c.if-found-ne0.true)),
  ap (λ (y : Start). y.far) c.start_at-then-found-ne0.ensures ∙ needs_none c.args.b.now c.args.ent.now c.args.front c.args.names c.name_bit.result (text_at (bits c.args.b.now) c.args.q) c.name_bit.ensures c.if-names-name_bit-eq0.false c.own_number-found.result c.own_number-found.ensures c.if-found-ne0.true,
)

pub returns : goal.returns
returns c = (λ far l u w. differ (sym c.far_start.ensures ∙ far), c.far_start.ensures ∙ needs_more c.args.b.now c.args.ent.now c.args.front c.args.names c.name_bit.result (text_at (bits c.args.b.now) c.args.q) c.name_bit.ensures c.if-names-name_bit-eq0.false c.own_number-found.result c.own_number-found.ensures c.if-found-ne0.false)
