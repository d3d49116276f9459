use Prim.Native.Nat.{suc, ◌-◌}
use native.Mathlib.Omega.{arith}
use mathlib.Core.Path.{refl, sym, ◌∙◌, subst}
use Rattle.rules.specs.Bits.{bits}
use Rattle.layout.specs.Text.{text_at}
use Rattle.scope.specs.Standing.{NamesStand}
use Rattle.scope.proofs.NamesLaws.{string_near, merged_param}
use Rattle.scope.proofs.Numbers.{settled}
use Rattle.scope.proofs.own_number.Goals as goal

pub returns-in-0 : goal.returns-in-0
returns-in-0 c = let a = c.args in
    settled a.b.now a.ent.now a.c (text_at (bits a.b.now) a.p) 0 (λ z. absurd (omega arith)) c.in-0.is 0 refl (omega arith)

pub one_number-requires : goal.one_number-requires
one_number-requires c = (c.requires.1, string_near c.args.b.now c.args.c.names c.requires.0 (subst (NamesStand c.args.b.now c.args.c) c.in-1.is c.requires.2.names), c.requires.3, c.requires.4)

pub returns-in-1 : goal.returns-in-1
returns-in-1 c = let a = c.args in
    settled a.b.now a.ent.now a.c (text_at (bits a.b.now) a.p) 1 (λ z. absurd (omega arith)) c.in-1.is c.one_number.result c.one_number.ensures.0 c.one_number.ensures.1

pub returns-in-2 : goal.returns-in-2
returns-in-2 c = let a = c.args in
    settled a.b.now a.ent.now a.c (text_at (bits a.b.now) a.p) 2 (λ z. c.two_number.ensures.2) c.in-2.is c.two_number.result c.two_number.ensures.0 c.two_number.ensures.1

pub returns-in-Merged : goal.returns-in-Merged
returns-in-Merged c = let a = c.args in
    settled a.b.now a.ent.now a.c (text_at (bits a.b.now) a.p) (suc (suc (suc (c.args.c.kind - 3)))) (λ z. absurd (omega arith)) (omega arith) c.hash_number.result (c.hash_number.ensures.0 ∙ merged_param c.args.b.now c.args.ent.now c.args.c (text_at (bits c.args.b.now) c.args.p) (c.args.c.kind - 3) _ _ (sym c.decode.ensures ∙ c.in-Merged.is)) c.hash_number.ensures.1
