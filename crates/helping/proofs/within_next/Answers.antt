use Rattle.std.specs.Prelude.{Option as RustOption, ℕ}
use mathlib.Core.Path.{sym, ap, ◌∙◌, subst}
use Rattle.scope.specs.Names.{Readable}
use Rattle.helping.specs.declared.Next.TheVariants.{Within}
use Rattle.helping.specs.Begun.{done, WithinBegun}
use Rattle.helping.proofs.Beginning.{with_opened}
use borrow.Author.Rules.{rules}
use Rattle.helping.proofs.within_next.Goals as goal

pub returns-in_default : goal.returns-in_default
returns-in_default c = let a = c.args in
    subst (λ (k : RustOption ℕ). WithinBegun a.b.now a.ent.now a.at k a.v a.front a.rc a.before c.done.result) (sym c.in_default.is)
    (record { top = c.done.ensures.top; is = λ l. c.done.ensures.is l ∙ ap done (c.settle.ensures l) })

pub names_of-requires : goal.names_of-requires
names_of-requires c = let z = c in (z.requires.0, subst (Readable z.args.b.now z.args.ent.now) (sym c.open_with-c.ensures) z.requires.4)

pub deeper-q-requires : goal.deeper-q-requires
deeper-q-requires c = c.requires.5

pub returns : goal.returns
returns c = let a = c.args in
    subst (λ (k : RustOption ℕ). WithinBegun a.b.now a.ent.now a.at k a.v a.front a.rc a.before (record { rc = c.set_current_template_name.result; top = c.open_with-c.result; next = Within c.in-Some.p })) (sym c.in-Some.is)
    (with_opened a.b.now a.ent.now a.at c.in-Some.p a.v a.front a.rc c.deeper-q.result c.set_current_template_name.result c.open_with-c.result c.names_of.result c.open_with-c.ensures c.names_of.ensures c.deeper-q.ensures c.set_current_template_name.ensures)
