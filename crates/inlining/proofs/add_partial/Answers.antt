use Prim.Native.Nat.{ℕ, ◌+◌}
use mathlib.Core.List.{List}
use mathlib.Core.Path.{ap, ◌∙◌}
use native.Mathlib.Omega.{arith}
use Rattle.entries.specs.Stored.{stored}
use Rattle.scope.specs.declared.Scope.{Scope}
use Rattle.state.specs.Context.{whole}
use Rattle.state.specs.Setters.{with_scopes}
use Rattle.inlining.proofs.Fronts.{gained_one}
use borrow.Author.Rules.{rules}
use Rattle.inlining.proofs.add_partial.Goals as goal

pub overflow_add-k : goal.overflow_add-k
overflow_add-k c = omega (arith, c.requires.0.near)

pub encode-requires : goal.encode-requires
encode-requires c = c.requires.0.name

pub set_local_partial-requires : goal.set_local_partial-requires
set_local_partial-requires c = (omega (arith, c.requires.0.near, c.requires.0.table), c.requires.1)

pub overflow_add-more : goal.overflow_add-more
overflow_add-more c = omega (arith, c.requires.0.near)

pub overflow_add-rc : goal.overflow_add-rc
overflow_add-rc c = omega (arith, c.requires.0.few)

pub returns : goal.returns
returns c = let z = c in
    let a = z.args in (
      λ l sized F.
          c.set_total.ensures l
          ∙ ap (λ (k : List Scope). with_scopes (whole a.rc l) k a.rc.used (a.rc.total + 1)) (gained_one l a.rc a.c sized z.requires.0.most F),
      c.set_local_partial.ensures ∙ ap (λ (u : ℕ). stored a.ent.now (a.c.inline + a.c.count) u a.d a.q) c.encode.ensures,
    )
