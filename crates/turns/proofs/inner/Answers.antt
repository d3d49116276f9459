use Rattle.lookup.proofs.Told.{no_context}
use Rattle.rules.specs.Bytes.{maybe}
use Rattle.value.specs.declared.Value.TheVariants.{Context, Place}
use Rattle.turns.specs.Turning as spec
use mathlib.Core.Option.{Option}
use mathlib.Core.Path.{ap, sym}
use Prim.Native.Nat.{ℕ}
use borrow.Author.Rules.{rules}
use borrow.Enum.Refused.{opened}
use Rattle.turns.proofs.inner.Goals as goal

pub returns-in_default : goal.returns-in_default
returns-in_default c = sym (ap (λ (o : Option ℕ). maybe o (Place c.args.c) (λ i. Context c.args.c)) (no_context c.args.v (opened c.in_default.in_default-own.keys2)).0)

pub returns : goal.returns
returns c = sym (ap (λ v. spec.inner v c.args.c) c.in-Context.is)
