use Rattle.layout.specs.Names.{seen_at}
use Rattle.layout.specs.Text.{text_at}
use Rattle.rules.specs.Bits.{bits}
use Rattle.rules.specs.Bundle.{among}
use mathlib.Core.Path.{◌≡◌}
use Rattle.layout.proofs.known.Given as goal

abbrev pub invariant-loop-j : goal.invariant-loop-j
invariant-loop-j l = among (text_at (bits l.b) l.at) (seen_at (bits l.b) l.places l.j) ≡ among (text_at (bits l.b) l.at) (seen_at (bits l.b) l.places l.n)
