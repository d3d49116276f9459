use Rattle.members.proofs.Nearing.{above_name}
use Rattle.members.specs.Next.{after_name, key_name, Keyed}
use Rattle.merging.specs.Order as order
use mathlib.Core.Path.{ap, sym, subst}
use borrow.Author.Rules.{rules}
use Rattle.members.proofs.is_above.Goals as goal

pub returns-in_default : goal.returns-in_default
returns-in_default c = sym (ap (λ m. order.is_above (after_name c.args.s.now c.args.b.now m) (key_name c.args.s.now c.args.b.now c.args.k)) c.in_default.is)

pub is_before-requires : goal.is_before-requires
is_before-requires c = (c.requires.0, c.requires.1, subst (Keyed c.args.s.now c.args.b.now) c.in-Some.is c.requires.2, c.requires.3)

pub returns : goal.returns
returns c = above_name c.args.s.now c.args.b.now c.args.after _ _ c.args.k c.is_before.result c.in-Some.is c.is_before.ensures
