use mathlib.Core.Path.{refl, sym, ap, ◌∙◌, subst}
use Rattle.rules.specs.Bits.{bits}
use Rattle.layout.specs.Text.{text_at}
use Rattle.value.specs.declared.Value.{Value}
use Rattle.meaning.specs.Meaning.{is_missing}
use Rattle.lookup.specs.Answers.{Led, DataGot}
use Rattle.context.proofs.Walking.{present_led}
use Rattle.context.proofs.named.Goals as goal

pub returns-in-Is : goal.returns-in-Is
returns-in-Is c = let s = c.args.s.now in
    let b = c.args.b.now in
    let ent = c.args.ent.now in
    let v = c.args.v in
    let k = text_at (bits b) c.args.q in
    let w = c.in-Is.w in
    let l = present_led s b ent v k w (subst (DataGot s b ent v k) c.in-Is.is c.get_data-found.ensures) in
    (refl, subst (λ (x : Value). Led s b ent v k x) (sym c.present.ensures) l.0, ap is_missing c.present.ensures ∙ l.1)

pub returns-in-Nothing : goal.returns-in-Nothing
returns-in-Nothing c = subst (DataGot c.args.s.now c.args.b.now c.args.ent.now c.args.v (text_at (bits c.args.b.now) c.args.q)) c.in-Nothing.is c.get_data-found.ensures

pub returns-in-BadIndex : goal.returns-in-BadIndex
returns-in-BadIndex c = subst (DataGot c.args.s.now c.args.b.now c.args.ent.now c.args.v (text_at (bits c.args.b.now) c.args.q)) c.in-BadIndex.is c.get_data-found.ensures
