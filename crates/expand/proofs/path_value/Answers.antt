use mathlib.Core.Path.{subst}
use Rattle.rules.specs.Error.{invalid-json-index}
use Rattle.context.specs.Evaluated.{Evaluates}
use Rattle.expand.proofs.Calling.{refuse_is, nothing_given}
use borrow.Author.Rules.{rules}
use borrow.Enum.Refused.{opened}
use Rattle.expand.proofs.path_value.Goals as goal

pub returns-in-BadIndex : goal.returns-in-BadIndex
returns-in-BadIndex c = let z = c in
    λ g st t h. refuse_is invalid-json-index _ (subst (Evaluates z.args.s.now z.args.b.now z.args.ent.now t _) c.in-BadIndex.is (c.evaluate2-found.ensures g st t h.plan h.recursive h.open_scopes h.stand))

pub returns-in_default-found : goal.returns-in_default-found
returns-in_default-found c = let z = c in
    λ g st t h. nothing_given z.args.s.now z.args.b.now z.args.ent.now t _ c.evaluate2-found.result (opened c.in_default.in_default-own.keys2) (opened c.in_default-found.in_default-found-own.keys2) (c.evaluate2-found.ensures g st t h.plan h.recursive h.open_scopes h.stand)

pub returns : goal.returns
returns c = let z = c in
    λ g st t h.
    let e = subst (Evaluates z.args.s.now z.args.b.now z.args.ent.now t _) c.in-Is.is (c.evaluate2-found.ensures g st t h.plan h.recursive h.open_scopes h.stand) in
    (e.0, e.1)
