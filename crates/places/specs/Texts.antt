-- The strings of a plan: where a value or a name is a string, what it says, and that it ends.
use Rattle.std.specs.Prelude.{ℕ, ◌+◌, ◌≡◌}
use Rattle.rules.specs.Bytes.{Bytes}
use Rattle.rules.specs.Scan.{saying}
use Rattle.saying.specs.Characters.{Whole}

-- the string whose first quote stands at q says b, and ends
pub record Says (s : Bytes) (q : ℕ) (b : Bytes) : Type 0 where
  pub says : saying s q ≡ b
  pub whole : Whole s (q + 1)
