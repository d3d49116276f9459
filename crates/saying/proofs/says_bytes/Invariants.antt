use Rattle.rules.specs.Bytes.{same}
use Rattle.rules.specs.Scan.{saying}
use Rattle.saying.specs.Said.{Inside, remaining}
use lib.ListN.{drop}
use mathlib.Core.Path.{◌≡◌}
use Rattle.saying.proofs.says_bytes.Given as goal

abbrev pub invariant-loop-b : goal.invariant-loop-b
invariant-loop-b l = Inside l.s l.at l.k × (same (saying l.s l.i) l.w ≡ same (remaining l.s l.at l.k) (drop l.b-index l.w))
