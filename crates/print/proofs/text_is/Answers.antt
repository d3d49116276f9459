use mathlib.Core.Path.{◌∙◌, ap, subst}
use native.Mathlib.Omega.{arith}
use Rattle.rules.specs.Value.{render}
use Rattle.places.specs.Nodes.{short}
use Rattle.meaning.specs.declared.Form.TheVariants.{String}
use Rattle.meaning.specs.Forms.{Formed}
use Rattle.meaning.specs.Means.{means, means_so}
use Rattle.meaning.proofs.Forming.{string_near}
use Rattle.print.proofs.Held.{held, held_means}
use Rattle.print.specs.Target as target
use borrow.Author.Rules.{rules}
use Rattle.print.proofs.text_is.Goals as goal

pub text_is-requires : goal.text_is-requires
text_is-requires c = let z = c in
    string_near z.args.b.now c.in-Text.p z.requires.1 (held z.args.s.now z.args.b.now z.args.v c.in-Text.p c.in-Text.is z.requires.2)

pub returns-in-Text : goal.returns-in-Text
returns-in-Text c = let z = c in
    let a = z.args in
    held_means a.s.now a.b.now a.v c.in-Text.p c.in-Text.is z.requires.2 _ z.requires.1 c.text_is.ensures

pub strip_value-requires : goal.strip_value-requires
strip_value-requires c = let z = c in (z.requires.0, z.requires.1, omega arith, z.requires.2)

pub all_met-requires : goal.all_met-requires
all_met-requires c = let z = c in (short z.args.s.now z.requires.0.answers, c.strip_value.ensures.stands)

pub returns-in_default-form_of : goal.returns-in_default-form_of
returns-in_default-form_of c = let a = c.args in
    means_so a.s.now a.b.now a.v _ _ (λ j e. c.all_met.ensures ∙ ap target.met e ∙ target.met_same (render j) a.w.now) c.strip_value.ensures.means

pub is-requires : goal.is-requires
is-requires c = let z = c in
    let h = subst (Formed z.args.s.now z.args.b.now z.args.v) c.in-String.is c.form_of.ensures in
    (short z.args.s.now z.requires.0.answers, h.is.stands)

pub returns : goal.returns
returns c = let a = c.args in
    let h = subst (Formed a.s.now a.b.now a.v) c.in-String.is c.form_of.ensures in
    means a.s.now a.b.now _ a.v (String c.in-String.t) h (λ _. c.is.ensures)
