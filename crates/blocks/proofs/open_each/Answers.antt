use mathlib.Core.Path.{◌∙◌, ap, sym, subst}
use Rattle.parts.specs.declared.BlockParam.{BlockParam}
use Rattle.blocks.specs.Laws.{names_near}
use Rattle.blocks.specs.Opened.{NamesNear, each_scope}
use borrow.Author.Rules.{rules}
use Rattle.blocks.proofs.open_each.Goals as goal

pub each_scope-requires : goal.each_scope-requires
each_scope-requires c = let z = c in
    (z.requires.2, subst NamesNear (sym c.block_names_at-names.ensures) (names_near z.args.b.now z.requires.0 z.args.at z.requires.1), z.requires.3)

pub returns : goal.returns
returns c = let a = c.args in c.each_scope.ensures ∙ ap (λ (ns : BlockParam). each_scope a.v ns a.front) c.block_names_at-names.ensures
