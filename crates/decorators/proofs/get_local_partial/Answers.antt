use Rattle.decorators.proofs.Naming.{text_name, text_held}
use Rattle.decorators.specs.Inlined.{LocalIs}
use Rattle.rules.specs.Bytes.{Bytes}
use mathlib.Core.Path.{sym, subst}
use borrow.Author.Rules.{rules}
use Rattle.decorators.proofs.get_local_partial.Goals as goal

pub get_named_partial-requires : goal.get_named_partial-requires
get_named_partial-requires c = let z = c in (z.requires.0, z.requires.1, text_held z.args.s.now z.args.b.now z.args.v _ c.in-Text.is z.requires.2, z.requires.3, z.requires.4)

pub returns-in-Text : goal.returns-in-Text
returns-in-Text c = let z = c in
    λ t st. subst (λ (m : Bytes). LocalIs z.args.s.now z.args.b.now z.args.ent.now z.args.e z.args.n m c.get_named_partial.result)
    (sym (text_name z.args.s.now z.args.b.now z.args.ent.now z.args.v _ c.in-Text.is))
    c.get_named_partial.ensures

pub get_printed_partial-requires : goal.get_printed_partial-requires
get_printed_partial-requires c = c.requires

pub returns : goal.returns
returns c = c.get_printed_partial.ensures
