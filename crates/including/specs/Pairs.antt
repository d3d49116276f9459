-- The hash pairs of a call as entries of the lent table.
use Rattle.std.specs.Prelude.{ℕ, zero, suc, ◌+◌, ◌<◌, true, List, ◌≡◌, get_or}
use Rattle.rules.specs.Bytes.{before}
use Rattle.rules.specs.Bits.{Bits}
use Rattle.rules.specs.Layout.{◌then◌}
use Rattle.rules.specs.Bundle.{string, param}
use Rattle.layout.specs.Text.{text_at}
use Rattle.parts.specs.Holds.{Holds, row}
use Rattle.entries.specs.Stored.{stored}
use Rattle.including.specs.Values.{pair_place}

-- the n hash pairs of a call, which stand at p
pub record PairsStand (b : Bits) (d p n : ℕ) : Type 0 where
  pub few : n < 16
  pub holds : Holds (row (string then param d) n) b p
  pub ascend : (i : ℕ) → suc i < n → before (text_at b (pair_place d b p i)) (text_at b (pair_place d b p (suc i))) ≡ true

-- the table with the first n of the pairs at p as entries from t on: l has the numbers of their values, base is the number of what they are merged into
abbrev pub with_pairs : List ℕ → Bits → ℕ → ℕ → List ℕ → ℕ → ℕ → ℕ → List ℕ
with_pairs ent b t base l d p zero = ent
with_pairs ent b t base l d p (suc n) = stored (with_pairs ent b t base l d p n) (t + n) (get_or l n 0) base (pair_place d b p n)
