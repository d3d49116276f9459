-- The table of powers of ten: its rule is one computed test.
use Prim.Native.Nat.{ℕ, ◌^◌, ◌<◌}
use mathlib.Core.Bool.{Bool}
use mathlib.Core.List.{List, [], ◌∷◌}
use mathlib.Core.Path.{◌≡◌}
use lib.Dec.{eqb, eqb→eq}
use lib.ListN.{get_or}
use Rattle.decimal.proofs.Table.{at}

abbrev pub powers : List ℕ
powers = 1 ∷ 10 ∷ 100 ∷ 1000 ∷ 10000 ∷ 100000 ∷ 1000000 ∷ 10000000 ∷ 100000000 ∷ 1000000000 ∷ 10000000000 ∷ 100000000000 ∷ 1000000000000 ∷ 10000000000000 ∷ 100000000000000 ∷ 1000000000000000 ∷ 10000000000000000 ∷ 100000000000000000 ∷ 1000000000000000000 ∷ 10000000000000000000 ∷ []

abbrev right : ℕ → ℕ → Bool
right k x = eqb x (10 ^ k)

pub power_at : (k : ℕ) → k < 20 → get_or powers k 0 ≡ 10 ^ k
power_at k h = eqb→eq (get_or powers k 0) (10 ^ k) (at right powers k tt h)
