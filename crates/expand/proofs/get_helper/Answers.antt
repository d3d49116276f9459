use native.Mathlib.Omega.{arith}
use mathlib.Core.Path.{refl, sym, ap, ◌∙◌, subst}
use Rattle.rules.specs.Json.{Json}
use Rattle.rules.specs.Bits.{bits}
use Rattle.rules.specs.BundleLaws.{bits_size}
use Rattle.rules.specs.Value.{render}
use Rattle.rules.specs.Registry.{get_helper}
use Rattle.parts.specs.HoldsLaws.{string_in}
use Rattle.places.specs.Nodes.{short}
use Rattle.value.specs.declared.Value.TheVariants.{Text}
use Rattle.meaning.specs.declared.Form.TheVariants.{String}
use Rattle.meaning.specs.Forms.{Known, Formed}
use Rattle.meaning.specs.Meaning.{json_of}
use Rattle.meaning.specs.MeaningLaws.{plain_is}
use Rattle.meaning.specs.Means.{means}
use Rattle.expand.specs.Answers.{helper_of}
use Rattle.expand.proofs.Naming.{get_other}
use borrow.Author.Rules.{rules}
use borrow.Enum.Refused.{opened}
use Rattle.expand.proofs.get_helper.Goals as goal

pub helper_at-requires : goal.helper_at-requires
helper_at-requires c = let z = c in
    let h = subst (Known z.args.s.now z.args.b.now) c.in-Text.is z.requires.2 refl in
    omega (arith, z.requires.1, string_in (bits z.args.b.now) c.in-Text.p h, bits_size z.args.b.now)

pub returns-in-Text : goal.returns-in-Text
returns-in-Text c = let a = c.args in
    record { at = λ ent t st. c.helper_at.ensures ∙ ap (λ (j : Json). helper_of (get_helper (render j))) (sym (ap (json_of a.s.now a.b.now ent) c.in-Text.is ∙ plain_is a.s.now a.b.now ent (Text c.in-Text.p) refl)) }

pub returns-in_default-form_of : goal.returns-in_default-form_of
returns-in_default-form_of c = let a = c.args in
    get_other a.s.now a.b.now a.v c.form_of.result (opened c.in_default-form_of.in_default-form_of-own.keys2) c.form_of.ensures

pub named_helper-requires : goal.named_helper-requires
named_helper-requires c = let z = c in
    let h = subst (Formed z.args.s.now z.args.b.now z.args.v) c.in-String.is c.form_of.ensures in
    (short z.args.s.now z.requires.0.answers, h.is.stands)

pub returns : goal.returns
returns c = let a = c.args in
    let h = subst (Formed a.s.now a.b.now a.v) c.in-String.is c.form_of.ensures in
    means a.s.now a.b.now _ a.v (String c.in-String.t) h (λ _. c.named_helper.ensures)
