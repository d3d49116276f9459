use Prim.Native.Nat.{◌-◌}
use lib.ListN.{get_or}
use mathlib.Core.Path.{◌≡◌, sym, ap, ◌∙◌, subst}
use mathlib.Core.List.{List}
use Rattle.rules.specs.Value.{ScopedJson}
use Rattle.rules.specs.Partial.{partial_context}
use Rattle.scope.specs.declared.Scope.{Scope}
use Rattle.scope.specs.Scopes.{blank, base_of}
use Rattle.scope.specs.Names.{without_path}
use Rattle.including.specs.Starting.{GivesContext, current_given, param_given, no_param}
use borrow.Author.Rules.{rules}
use Rattle.including.proofs.partial_context.Goals as goal

pub returns-then-count-eq0 : goal.returns-then-count-eq0
returns-then-count-eq0 c = let z = c in
    λ s b ent l used o g st t w ps h lt f S F.
    let v : c.without_path.result ≡ without_path (base_of z.args.front) = c.without_path.ensures ∙ ap without_path c.decode.ensures in
    subst (GivesContext s b ent t (partial_context g st ps)) (sym (v ∙ ap (λ (x : Scope). without_path (base_of x)) f))
    (subst (λ (x : List ScopedJson). GivesContext s b ent t (partial_context g st x) (without_path (base_of (get_or l (used - 1) blank)))) (sym (no_param s b ent t z.args.count z.args.first w ps F g st c.if-count-eq0.true))
    (current_given s b ent l used o g st t S lt h))

pub returns : goal.returns
returns c = let z = c in
    λ s b ent l used o g st t w ps h lt f S F.
    subst (GivesContext s b ent t (partial_context g st ps)) (sym c.without_path-2.ensures) (param_given s b ent t z.args.count z.args.first w ps F g st c.if-count-eq0.false)
