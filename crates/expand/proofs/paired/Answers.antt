use Rattle.std.specs.Prelude.{Result, Some}
use mathlib.Core.Bool.{false}
use mathlib.Core.Path.{sym, subst, refl}
use Rattle.expand.specs.Answers.{GotKnown, Paired}
use borrow.Author.Rules.{rules}
use Rattle.expand.proofs.paired.Goals as goal
use Rattle.error.specs.declared.RenderErrorReason.{RenderErrorReason as Reason}
use Rattle.value.specs.declared.Value.{Value}

pub zero_or-requires : goal.zero_or-requires
zero_or-requires c = let z = c in (z.requires.0, z.requires.1, z.requires.2, subst (GotKnown _ _) c.in-Ok.is z.requires.3)

pub returns-in-Ok : goal.returns-in-Ok
returns-in-Ok c = let z = c in subst (λ (x : Result Value Reason). Paired z.args.s.now z.args.b.now z.args.p x z.args.rest (record { zero = c.zero_or.result; bad = z.args.rest.bad })) (sym c.in-Ok.is) (record { zero = c.zero_or.ensures; bad = refl })

pub returns-in-Err : goal.returns-in-Err
returns-in-Err c = let z = c in subst (λ (x : Result Value Reason). Paired z.args.s.now z.args.b.now z.args.p x z.args.rest (record { zero = false; bad = Some c.in-Err.e })) (sym c.in-Err.is) refl
