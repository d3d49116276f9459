use Rattle.std.specs.Prelude.{Some}
use Prim.Native.Nat.{ℕ}
use native.Mathlib.Omega.{arith}
use mathlib.Core.Path.{refl, sym, ap, ◌∙◌}
use Rattle.rules.specs.Bits.{bits}
use Rattle.rules.specs.Bytes.{same}
use Rattle.layout.specs.Text.{text_at}
use Rattle.value.specs.Numbers.{decoded}
use Rattle.scope.proofs.NamesLaws.{string_near, hash_here, hash_on, hash_none}
use Rattle.scope.specs.Names.{without_path}
use Rattle.scope.proofs.Numbers.{number_one}
use Rattle.scope.proofs.hash_number.Goals as goal

pub same_headed-requires : goal.same_headed-requires
same_headed-requires c = (omega (arith, c.place-q.ensures, string_near c.args.b.now _ c.requires.0 (c.requires.2.keys c.loop-i.i (omega arith))), c.requires.1, c.field.ensures, c.requires.3, c.requires.4)

pub overflow_add-result : goal.overflow_add-result
overflow_add-result c = omega arith

pub returns-then-same_headed : goal.returns-then-same_headed
returns-then-same_headed c = let a = c.args in (
  number_one c.bare.result _ refl ∙ ap Some (c.bare.ensures ∙ ap (λ (n : ℕ). without_path (decoded n)) c.low-low.ensures)
      ∙ sym (hash_here a.b.now a.ent.now (text_at (bits a.b.now) a.p) a.h a.n c.loop-i.i (omega arith) (sym (c.same_headed.ensures ∙ ap (λ (q : ℕ). same (text_at (bits c.args.b.now) q) (text_at (bits c.args.b.now) c.args.p)) c.place-q.ensures) ∙ c.if-same_headed.true)) ∙ sym c.loop-i.invariant,
  omega arith,
)

pub loop-i-preserved : goal.loop-i-preserved
loop-i-preserved c = let a = c.args in
    c.loop-i.invariant ∙ hash_on a.b.now a.ent.now (text_at (bits a.b.now) a.p) a.h a.n c.loop-i.i (omega arith) (sym (c.same_headed.ensures ∙ ap (λ (q : ℕ). same (text_at (bits c.args.b.now) q) (text_at (bits c.args.b.now) c.args.p)) c.place-q.ensures) ∙ c.if-same_headed.false)

pub returns : goal.returns
returns c = let a = c.args in
    (sym (c.loop-i.invariant ∙ hash_none a.b.now a.ent.now (text_at (bits a.b.now) a.p) a.h a.n c.loop-i.i (omega arith)), omega arith)
