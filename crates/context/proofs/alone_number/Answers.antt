use native.Mathlib.Omega.{arith}
use mathlib.Core.Path.{sym, subst}
use Rattle.context.specs.Evaluated.{Evaluates, found_evaluates}
use Rattle.context.specs.Near.{stands_fits}
use Rattle.context.proofs.Numbers.{number_told}
use Rattle.context.proofs.alone_number.Goals as goal

pub overflow_cast-v : goal.overflow_cast-v
overflow_cast-v c = omega arith

pub alone-requires : goal.alone-requires
alone-requires c = c.requires

pub encode-requires : goal.encode-requires
encode-requires c = let a = c.args in
    stands_fits a.s.now a.b.now a.ent.now 0 c.requires.0.answers c.requires.1 (omega arith) c.alone.result (c.alone.ensures.1 0)

pub returns : goal.returns
returns c = let a = c.args in
    let w = c.alone.result in
    let f = stands_fits a.s.now a.b.now a.ent.now 0 c.requires.0.answers c.requires.1 (omega arith) w (c.alone.ensures.1 0) in (
      omega arith,
      λ t. subst (Evaluates a.s.now a.b.now a.ent.now t _) (sym (number_told w f c.encode.result c.encode.ensures)) (found_evaluates a.s.now a.b.now a.ent.now t _ w c.alone.ensures.0 (c.alone.ensures.1 t)),
    )
