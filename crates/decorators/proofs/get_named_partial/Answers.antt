use Rattle.decorators.proofs.Naming.{one_more_unnamed}
use Rattle.decorators.specs.Inlined.{Unnamed}
use Rattle.layout.specs.Text.{text_at}
use Rattle.rules.specs.Bits.{bits}
use Prim.Native.Nat.{ℕ, ◌-◌, ◌≤◌}
use mathlib.Core.Path.{◌≡◌, refl, sym, ◌∙◌, subst}
use native.Mathlib.Omega.{arith}
use borrow.Author.Rules.{rules}
use Rattle.decorators.proofs.get_named_partial.Goals as goal

pub loop-i-init : goal.loop-i-init
loop-i-init c = λ i lt. absurd (omega arith)

pub overflow_add-e : goal.overflow_add-e
overflow_add-e c = omega (arith, c.requires.3, c.loop-i-test.true)

pub has_name-requires : goal.has_name-requires
has_name-requires c = let z = c in (z.requires.0, z.requires.1, omega (arith, z.requires.3, c.loop-i-test.true), z.requires.4 c.loop-i.i c.loop-i-test.true, z.requires.2)

pub overflow_add-result : goal.overflow_add-result
overflow_add-result c = omega (arith, c.requires.3, c.loop-i-test.true)

pub returns-then-has_name : goal.returns-then-has_name
returns-then-has_name c = record { turn = c.loop-i.i; within = c.loop-i-test.true; at = refl; is = sym c.has_name.ensures ∙ c.if-has_name.true; first = c.loop-i.invariant }

pub loop-i-preserved : goal.loop-i-preserved
loop-i-preserved c = let z = c in one_more_unnamed z.args.s.now z.args.b.now z.args.ent.now z.args.e c.loop-i.i (text_at (bits z.args.b.now) z.args.q) c.loop-i.invariant (sym c.has_name.ensures ∙ c.if-has_name.false)

pub returns : goal.returns
returns c = let z = c in let e : c.loop-i.i ≡ z.args.n = omega (arith, c.loop-i-test.false) in subst (λ (k : ℕ). Unnamed z.args.s.now z.args.b.now z.args.ent.now z.args.e k (text_at (bits z.args.b.now) z.args.q)) e c.loop-i.invariant
