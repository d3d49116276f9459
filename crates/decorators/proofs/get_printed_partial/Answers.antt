use Rattle.decorators.proofs.Naming.{one_compared, one_more_unnamed}
use Rattle.decorators.specs.Inlined.{Unnamed}
use Rattle.expand.specs.Answers.{name_of}
use Rattle.meaning.specs.Standing.{Stands}
use Rattle.scope.specs.Scopes.{inline_name}
use Prim.Native.Nat.{ℕ, ◌+◌, ◌-◌, ◌≤◌}
use mathlib.Core.Path.{◌≡◌, refl, subst}
use mathlib.Core.Bool.{true, false}
use native.Mathlib.Omega.{arith}
use borrow.Author.Rules.{rules}
use Rattle.decorators.proofs.get_printed_partial.Goals as goal

pub loop-i-init : goal.loop-i-init
loop-i-init c = λ t st i lt. absurd (omega arith)

pub overflow_add-e : goal.overflow_add-e
overflow_add-e c = omega (arith, c.requires.3, c.loop-i-test.true)

pub inline_name-name-requires : goal.inline_name-name-requires
inline_name-name-requires c = let z = c in (z.requires.0, z.requires.1, omega (arith, z.requires.3, c.loop-i-test.true), z.requires.4 c.loop-i.i c.loop-i-test.true)

pub text_same-requires : goal.text_same-requires
text_same-requires c = let z = c in (z.requires.0, z.requires.1, z.requires.2, c.inline_name-name.ensures.1)

pub overflow_add-result : goal.overflow_add-result
overflow_add-result c = omega (arith, c.requires.3, c.loop-i-test.true)

pub returns-then-text_same : goal.returns-then-text_same
returns-then-text_same c = let z = c in λ t st. record { turn = c.loop-i.i; within = c.loop-i-test.true; at = refl; is = one_compared z.args.s.now z.args.b.now z.args.ent.now (z.args.e + c.loop-i.i) z.args.v _ _ (c.text_same.ensures.at z.args.ent.now t st) c.inline_name-name.ensures.0 true c.if-text_same.true; first = c.loop-i.invariant t st }

pub loop-i-preserved : goal.loop-i-preserved
loop-i-preserved c = let z = c in λ t st. one_more_unnamed z.args.s.now z.args.b.now z.args.ent.now z.args.e c.loop-i.i (name_of z.args.s.now z.args.b.now z.args.ent.now z.args.v) (c.loop-i.invariant t st) (one_compared z.args.s.now z.args.b.now z.args.ent.now (z.args.e + c.loop-i.i) z.args.v _ _ (c.text_same.ensures.at z.args.ent.now t st) c.inline_name-name.ensures.0 false c.if-text_same.false)

pub returns : goal.returns
returns c = let z = c in let e : c.loop-i.i ≡ z.args.n = omega (arith, c.loop-i-test.false) in λ t st. subst (λ (k : ℕ). Unnamed z.args.s.now z.args.b.now z.args.ent.now z.args.e k (name_of z.args.s.now z.args.b.now z.args.ent.now z.args.v)) e (c.loop-i.invariant t st)
