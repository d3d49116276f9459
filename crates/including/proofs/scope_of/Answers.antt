use Prim.Native.Nat.{ℕ, ◌+◌}
use mathlib.Core.Path.{ap, ◌∙◌}
use borrow.Author.Tests.{eq-eqb, ne_eqb}
use Rattle.scope.specs.declared.Scope.{Scope}
use Rattle.scope.specs.Made.{child, with_names, with_locals}
use borrow.Author.Rules.{rules}
use Rattle.including.proofs.scope_of.Goals as goal

pub returns-then-n-eq0 : goal.returns-then-n-eq0
returns-then-n-eq0 c = let z = c in
    rw (eq-eqb z.args.n 0 c.if-n-eq0.true) (c.with_locals.ensures ∙ ap (λ (x : Scope). with_locals x z.args.front) (c.child.ensures ∙ ap (λ (k : ℕ). child k z.args.t) c.encode.ensures))

pub returns : goal.returns
returns c = let z = c in
    rw (ne_eqb z.args.n 0 c.if-n-eq0.false) (c.with_names.ensures ∙ ap (λ (x : Scope). with_names x 3 0) (c.with_locals-2.ensures ∙ ap (λ (x : Scope). with_locals x z.args.front) (c.child-c.ensures ∙ ap (λ (k : ℕ). child k (z.args.t + z.args.n)) c.encode-2.ensures)))
