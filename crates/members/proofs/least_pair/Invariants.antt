use Rattle.members.proofs.Nearing.{has_keyed}
use Rattle.members.proofs.Stepping.{Pairing, pairing_start, pairing_on, text_key}
use Rattle.members.specs.Next.{after_name, PairItem}
use Rattle.members.specs.Next as spec
use Rattle.meaning.specs.Meaning.{json_of, pairs}
use Rattle.value.specs.Numbers.{decoded}
use Rattle.merging.specs.Order.{least}
use Rattle.parts.specs.Holds.{Holds}
use Rattle.rules.specs.Bits.{bits}
use Rattle.rules.specs.Bundle.{string}
use native.Mathlib.Omega.{arith}
use Prim.Native.Nat.{ℕ, ◌-◌, ◌≤◌}
use mathlib.Core.Path.{◌≡◌, ◌∙◌, ap, sym, subst}
use borrow.Author.Rules.{rules}
use Rattle.members.proofs.least_pair.Given as goal

abbrev pub invariant-loop-k : goal.invariant-loop-k
invariant-loop-k l = Pairing l.s l.b l.ent l.h l.n (after_name l.s l.b l.after) l.k l.best
