-- The last k digits of a number, zeros in front where it has fewer.
use Rattle.std.specs.Prelude.{ℕ, zero, suc, ◌+◌, ◌/◌, ◌%◌, [], ◌∷◌, ◌++◌}
use Rattle.rules.specs.Bytes.{Bytes}

abbrev pub places : ℕ → ℕ → Bytes
places zero n = []
places (suc k) n = places k (n / 10) ++ ((48 + n % 10) ∷ [])
