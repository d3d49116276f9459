use mathlib.Core.Path.{◌∙◌, ap, subst, sym}
use Rattle.rules.specs.Bytes.{same}
use Rattle.text.specs.declared.Text.{Text}
use Rattle.text.specs.Rest.{Stands, rest}
use Rattle.text.proofs.is.Goals as goal

pub same_bytes-requires : goal.same_bytes-requires
same_bytes-requires c = let z = c in
    subst (Stands z.args.s.now z.args.b.now) c.in-Packed.is z.requires.1

pub returns-in-Packed : goal.returns-in-Packed
returns-in-Packed c = let a = c.args in
    c.same_bytes.ensures ∙ ap (λ (x : Text). same (rest a.s.now a.b.now x) a.w.now) (sym c.in-Packed.is)
