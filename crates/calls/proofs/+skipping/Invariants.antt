use Prim.Native.Nat.{◌+◌, ◌*◌}
use Rattle.parts.specs.HoldsLaws.{Passed}
use Rattle.parts.specs.Holds.{end}
use Rattle.rules.specs.Layout.{◌then◌}
use Rattle.rules.specs.Bundle.{string, param, params, pairs}
use Rattle.rules.specs.Bits.{bits}
use Rattle.calls.proofs.+skipping.Given as goal

abbrev pub decreases-skip_call : goal.decreases-skip_call
decreases-skip_call l = 4 * l.d + 3

abbrev pub decreases-skip_pairs : goal.decreases-skip_pairs
decreases-skip_pairs l = 4 * l.d + 2

abbrev pub decreases-skip_param : goal.decreases-skip_param
decreases-skip_param l = 4 * l.d

abbrev pub decreases-skip_params : goal.decreases-skip_params
decreases-skip_params l = 4 * l.d + 1

abbrev pub invariant-skip_pairs-loop : goal.invariant-skip_pairs-loop
invariant-skip_pairs-loop l = Passed (string then param l.d) (bits l.b) l.n l.counter l.cur (end (pairs (param l.d)) (bits l.b) l.p)

abbrev pub invariant-skip_params-loop : goal.invariant-skip_params-loop
invariant-skip_params-loop l = Passed (param l.d) (bits l.b) l.n l.counter l.cur (end (params (param l.d)) (bits l.b) l.p)
