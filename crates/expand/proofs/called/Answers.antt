use mathlib.Core.Path.{subst, sym, ◌∙◌}
use Rattle.meaning.specs.Means.{stands_known}
use Rattle.rules.specs.Value.{ScopedJson}
use Rattle.rules.specs.Error as rule
use Rattle.expand.specs.Answers.{Expands, name_of}
use Rattle.expand.proofs.Calling.{chosen, written_given, each_is, if_is, unless_is, refuse_is}
use borrow.Author.Rules.{rules}
use Rattle.expand.proofs.called.Goals as goal

pub get_helper-h-requires : goal.get_helper-h-requires
get_helper-h-requires c = let z = c in (z.requires.0, z.requires.1, stands_known z.args.s.now z.args.b.now z.args.ent.now _ _ z.requires.2.name)

pub with_value-requires : goal.with_value-requires
with_value-requires c = let z = c in (z.requires.0, z.requires.1, stands_known z.args.s.now z.args.b.now z.args.ent.now _ _ z.requires.2.first)

pub returns-in-Each : goal.returns-in-Each
returns-in-Each c = let z = c in λ g st t e A E. written_given z.args.s.now z.args.b.now z.args.ent.now t z.args.used z.args.options z.args.w g st e A E _ c.written.result (chosen g st e (name_of z.args.s.now z.args.b.now z.args.ent.now z.args.w.name) _ _ E.name (c.get_helper-h.ensures.at z.args.ent.now t E.name_stands) c.in-Each.is ∙ each_is g st e) c.written.ensures

pub returns-in-With : goal.returns-in-With
returns-in-With c = let z = c in λ g st t e A E. subst (λ (y : rule.Got ScopedJson). Expands z.args.s.now z.args.b.now z.args.ent.now t y c.with_value.result) (sym (chosen g st e (name_of z.args.s.now z.args.b.now z.args.ent.now z.args.w.name) _ _ E.name (c.get_helper-h.ensures.at z.args.ent.now t E.name_stands) c.in-With.is)) (c.with_value.ensures z.args.ent.now g st t e A E)

pub returns-in-If : goal.returns-in-If
returns-in-If c = let z = c in λ g st t e A E. written_given z.args.s.now z.args.b.now z.args.ent.now t z.args.used z.args.options z.args.w g st e A E _ c.written-in-If.result (chosen g st e (name_of z.args.s.now z.args.b.now z.args.ent.now z.args.w.name) _ _ E.name (c.get_helper-h.ensures.at z.args.ent.now t E.name_stands) c.in-If.is ∙ if_is g st e) c.written-in-If.ensures

pub returns-in-Unless : goal.returns-in-Unless
returns-in-Unless c = let z = c in λ g st t e A E. written_given z.args.s.now z.args.b.now z.args.ent.now t z.args.used z.args.options z.args.w g st e A E _ c.written-in-Unless.result (chosen g st e (name_of z.args.s.now z.args.b.now z.args.ent.now z.args.w.name) _ _ E.name (c.get_helper-h.ensures.at z.args.ent.now t E.name_stands) c.in-Unless.is ∙ unless_is g st e) c.written-in-Unless.ensures

pub returns-in-Lookup : goal.returns-in-Lookup
returns-in-Lookup c = let z = c in λ g st t e A E. subst (λ (y : rule.Got ScopedJson). Expands z.args.s.now z.args.b.now z.args.ent.now t y c.lookup_value.result) (sym (chosen g st e (name_of z.args.s.now z.args.b.now z.args.ent.now z.args.w.name) _ _ E.name (c.get_helper-h.ensures.at z.args.ent.now t E.name_stands) c.in-Lookup.is)) (c.lookup_value.ensures g st t e A E)

pub returns-in-Unknown : goal.returns-in-Unknown
returns-in-Unknown c = let z = c in λ g st t e A E. refuse_is rule.helper-not-found _ (chosen g st e (name_of z.args.s.now z.args.b.now z.args.ent.now z.args.w.name) _ _ E.name (c.get_helper-h.ensures.at z.args.ent.now t E.name_stands) c.in-Unknown.is)
