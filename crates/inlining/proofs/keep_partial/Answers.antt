use Prim.Native.Nat.{ℕ}
use mathlib.Core.Path.{sym, ap, ◌∙◌, subst}
use native.Mathlib.Omega.{arith}
use Rattle.entries.specs.Stored.{stored}
use Rattle.state.specs.Context.{whole}
use Rattle.inlining.specs.Decorated.{context_after, entries_after, Keepable}
use borrow.Author.Rules.{rules}
use Rattle.inlining.proofs.keep_partial.Goals as goal

pub add_partial-requires : goal.add_partial-requires
add_partial-requires c = let z = c in let a = z.args in (subst (Keepable a.ent.now a.c a.rc.used a.rc.total) c.in-New.is z.requires.0, z.requires.1)

pub low-name-requires : goal.low-name-requires
low-name-requires c = let z = c in let a = z.args in let k = subst (Keepable a.ent.now a.c a.rc.used a.rc.total) c.in-Again.is z.requires.0 in omega (arith, k)

pub set_local_partial-requires : goal.set_local_partial-requires
set_local_partial-requires c = let z = c in let a = z.args in (subst (Keepable a.ent.now a.c a.rc.used a.rc.total) c.in-Again.is z.requires.0, z.requires.1)

pub returns-in-Bad : goal.returns-in-Bad
returns-in-Bad c = let a = c.args in
    (λ l sized F. c.failed.ensures l ∙ sym (ap (context_after (whole a.rc l)) c.in-Bad.is), sym (ap (entries_after a.c a.ent.now a.d a.q) c.in-Bad.is))

pub returns-in-New : goal.returns-in-New
returns-in-New c = let a = c.args in (
  λ l sized F. c.add_partial.ensures.0 l sized F ∙ sym (ap (context_after (whole a.rc l)) c.in-New.is),
  c.add_partial.ensures.1 ∙ sym (ap (entries_after a.c a.ent.now a.d a.q) c.in-New.is),
)

pub returns-in-Again : goal.returns-in-Again
returns-in-Again c = let a = c.args in (
  λ l sized F. sym (ap (context_after (whole a.rc l)) c.in-Again.is),
  c.set_local_partial.ensures ∙ ap (λ (u : ℕ). stored a.ent.now c.in-Again.k u a.d a.q) c.low-name.ensures
      ∙ sym (ap (entries_after a.c a.ent.now a.d a.q) c.in-Again.is),
)
