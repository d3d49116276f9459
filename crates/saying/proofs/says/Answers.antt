use Rattle.rules.specs.Bytes.{same}
use Rattle.rules.specs.Scan.{saying}
use Rattle.saying.specs.Compared.{NameFits, name_bytes}
use borrow.Author.Rules.{rules}
use mathlib.Core.Path.{◌∙◌, ap, subst, sym}
use Rattle.saying.proofs.says.Goals as goal

pub is_same-requires : goal.is_same-requires
is_same-requires c = (c.requires.0, c.requires.1, subst NameFits c.in-Quoted.is c.requires.2)

pub says_packed-requires : goal.says_packed-requires
says_packed-requires c = (c.requires.0, c.requires.1, subst NameFits c.in-Packed.is c.requires.2)

pub returns-in-Lent : goal.returns-in-Lent
returns-in-Lent c = c.says_bytes.ensures
    ∙ ap (λ x. same (saying c.args.s.now c.args.i) (name_bytes c.args.s.now c.args.w.now x)) (sym c.in-Lent.is)

pub returns-in-Quoted : goal.returns-in-Quoted
returns-in-Quoted c = c.is_same.ensures
    ∙ ap (λ x. same (saying c.args.s.now c.args.i) (name_bytes c.args.s.now c.args.w.now x)) (sym c.in-Quoted.is)

pub returns-in-Packed : goal.returns-in-Packed
returns-in-Packed c = c.says_packed.ensures
    ∙ ap (λ x. same (saying c.args.s.now c.args.i) (name_bytes c.args.s.now c.args.w.now x)) (sym c.in-Packed.is)
