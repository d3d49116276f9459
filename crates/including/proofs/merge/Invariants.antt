use Prim.Native.Nat.{ℕ, suc, ◌+◌, ◌-◌, ◌≤◌}
use mathlib.Core.Path.{◌≡◌, refl, sym, ap, ap₂, ◌∙◌, subst}
use mathlib.Core.List.{List}
use native.Mathlib.Omega.{arith}
use borrow.Author.Rules.{rules}
use lib.Dec.{eqb}
use lib.ListN.{length, get_or}
use Rattle.rules.specs.Bytes.{pick}
use Rattle.rules.specs.Bits.{bits}
use Rattle.rules.specs.Layout.{◌then◌}
use Rattle.rules.specs.Bundle.{string, param}
use Rattle.parts.specs.Holds.{Holds, end}
use Rattle.value.specs.Numbers.{encoded}
use Rattle.entries.specs.Stored.{stored}
use Rattle.including.specs.Values.{pair_place}
use Rattle.including.specs.Pairs.{with_pairs}
use Rattle.including.specs.PairsLaws.{pairs_length, pair_holds}
use Rattle.including.specs.Hashing.{next_place}
use Rattle.including.proofs.merge.Given as goal

abbrev pub invariant-loop-i : goal.invariant-loop-i
invariant-loop-i l = (l.ent ≡ with_pairs l.initial.ent (bits l.b) l.t l.k l.values l.d l.p l.i) × (l.at ≡ pair_place l.d (bits l.b) l.p (l.i - 1))
