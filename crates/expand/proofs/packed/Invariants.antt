use Prim.Native.Nat.{ℕ, ◌+◌, ◌-◌, ◌*◌, ◌^◌, ◌≤◌, ◌<◌}
use mathlib.Core.List.{◌∷◌}
use mathlib.Core.Path.{◌≡◌, refl, sym, ap, ◌∙◌}
use native.Mathlib.Omega.{arith}
use native.Mathlib.Numerals.{add-one}
use lib.ListN.{length, get_or, drop, drop_of_length-le}
use lib.Pow.{pow_mono, pow-add}
use lib.Seq.{drop-cons}
use Rattle.rules.specs.Bytes.{Bytes}
use Rattle.expand.specs.Answers.{packed_onto, packed}
use borrow.Author.Rules.{rules}
use Rattle.expand.proofs.packed.Given as goal

abbrev pub invariant-loop-c : goal.invariant-loop-c
invariant-loop-c l = (l.x < 2 ^ (8 * l.c-index)) × (packed_onto l.x (drop l.c-index l.t) ≡ packed l.t)
