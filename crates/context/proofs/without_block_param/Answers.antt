use Prim.Native.Nat.{ℕ, ◌-◌}
use mathlib.Core.Path.{refl, sym, ap, ◌∙◌, subst}
use native.Mathlib.Omega.{arith}
use lib.ListN.{get_or}
use Rattle.value.specs.Numbers.{decoded}
use Rattle.scope.specs.declared.Scope.{Scope}
use Rattle.scope.specs.Scopes.{blank, base_of}
use Rattle.scope.proofs.NamesLaws.{in_stack}
use Rattle.context.specs.Start.{Based}
use borrow.Author.Tests.{lt-ltb, le-ltb}
use Rattle.rules.specs.Picks.{yes, no}
use Rattle.context.proofs.Starting.{based_first, based_scope, whole_plan}
use Rattle.context.proofs.without_block_param.Goals as goal

pub returns-then-ups-root : goal.returns-then-ups-root
returns-then-ups-root c = let a = c.args in subst (Based a.scopes a.used a.ups a.root) (sym whole_plan) (based_first a.scopes a.used a.ups a.root c.if-ups-root.true)

pub returns-then-ups-used : goal.returns-then-ups-used
returns-then-ups-used c = let z = c in
    let a = z.args in
    based_scope a.scopes a.used a.ups a.root _ z.requires.0 c.if-ups-root.false
    (ap (λ (x : Scope). decoded x.base) (sym (in_stack a.scopes (a.used - 1 - a.ups) z.well_formed.0.1.0.1 (omega arith)))
    ∙ ap (λ (i : ℕ). base_of (get_or a.scopes i blank)) (yes _ _ _ _ (lt-ltb a.ups a.used (omega arith)) refl))

pub returns : goal.returns
returns c = let z = c in
    let a = z.args in
    based_scope a.scopes a.used a.ups a.root _ z.requires.0 c.if-ups-root.false
    (ap (λ (x : Scope). decoded x.base) (sym (in_stack a.scopes (a.used - 1) z.well_formed.0.1.0.1 (omega arith)))
    ∙ ap (λ (i : ℕ). base_of (get_or a.scopes i blank)) (no _ _ _ _ (le-ltb a.ups a.used (omega arith)) refl))
