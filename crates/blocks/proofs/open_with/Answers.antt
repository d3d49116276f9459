use mathlib.Core.Path.{◌∙◌, ap, sym, subst}
use Rattle.parts.specs.declared.BlockParam.{BlockParam}
use Rattle.blocks.specs.Laws.{names_near}
use Rattle.blocks.specs.Opened.{NamesNear, with_scope}
use borrow.Author.Rules.{rules}
use Rattle.blocks.proofs.open_with.Goals as goal

pub with_scope-requires : goal.with_scope-requires
with_scope-requires c = let z = c in
    (z.requires.2, subst NamesNear (sym c.block_names_at-names.ensures) (names_near z.args.b.now z.requires.0 z.args.at z.requires.1), z.requires.3)

pub returns : goal.returns
returns c = let a = c.args in c.with_scope.ensures ∙ ap (λ (ns : BlockParam). with_scope a.v ns a.front) c.block_names_at-names.ensures
