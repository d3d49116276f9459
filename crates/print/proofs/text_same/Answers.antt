use mathlib.Core.Path.{◌∙◌, ap, subst}
use Rattle.rules.specs.Value.{render}
use Rattle.places.specs.Nodes.{short}
use Rattle.text.specs.Rest as text
use Rattle.meaning.specs.declared.Form.TheVariants.{String}
use Rattle.meaning.specs.Forms.{Formed}
use Rattle.meaning.specs.Means.{means, means_so}
use Rattle.print.proofs.Held.{held, held_means}
use Rattle.print.specs.Target as target
use borrow.Author.Rules.{rules}
use Rattle.print.proofs.text_same.Goals as goal

pub held_same-requires : goal.held_same-requires
held_same-requires c = let z = c in
    let a = z.args in
    (short a.s.now z.requires.0.answers, z.requires.1, held a.s.now a.b.now a.v c.in-Text.p c.in-Text.is z.requires.2, z.requires.3)

pub returns-in-Text : goal.returns-in-Text
returns-in-Text c = let z = c in
    let a = z.args in
    held_means a.s.now a.b.now a.v c.in-Text.p c.in-Text.is z.requires.2 _ z.requires.1 c.held_same.ensures

pub all_met-requires : goal.all_met-requires
all_met-requires c = let z = c in (short z.args.s.now z.requires.0.answers, c.strip_value.ensures.stands)

pub returns-in_default-form_of : goal.returns-in_default-form_of
returns-in_default-form_of c = let a = c.args in
    means_so a.s.now a.b.now a.v _ _ (λ j e. c.all_met.ensures ∙ ap target.met e ∙ target.met_same (render j) (text.rest a.s.now a.b.now a.t)) c.strip_value.ensures.means

pub same-requires : goal.same-requires
same-requires c = let z = c in
    let h = subst (Formed z.args.s.now z.args.b.now z.args.v) c.in-String.is c.form_of.ensures in
    (short z.args.s.now z.requires.0.answers, h.is.stands, z.requires.3)

pub returns : goal.returns
returns c = let a = c.args in
    let h = subst (Formed a.s.now a.b.now a.v) c.in-String.is c.form_of.ensures in
    means a.s.now a.b.now _ a.v (String c.in-String.u) h (λ _. c.same.ensures)
