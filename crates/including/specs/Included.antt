-- The scope of a partial, and the entries that its merged object takes.
use Rattle.std.specs.Prelude.{ℕ, ◌+◌, ◌*◌, ◌≤◌, ◌<◌, List, eqb, length, get_or}
use Rattle.rules.specs.Bytes.{Bytes, pick}
use Rattle.rules.specs.Bits.{bits}
use Rattle.rules.specs.Json.{Json, count}
use Rattle.rules.specs.Context.{base_map}
use Rattle.value.specs.declared.Value.{Value}
use Rattle.value.specs.declared.Value.TheVariants.{Merged}
use Rattle.value.specs.Numbers.{Fits, encoded, decoded}
use Rattle.meaning.specs.Standing.{Stands}
use Rattle.scope.specs.declared.Scope.{Scope}
use Rattle.scope.specs.Made.{child, with_names, with_locals}
use Rattle.including.specs.Pairs.{PairsStand}

-- with n hash pairs in the entries from t on, or with the base alone
abbrev pub included : Value → ℕ → ℕ → Scope → Scope
included base t n front =
    pick (eqb n 0) (with_locals (child (encoded base) t) front) (with_names (with_locals (child (encoded (Merged t n)) (t + n)) front) 3 0)

-- none where there is no hash
abbrev pub entries_of : ℕ → Json → ℕ
entries_of n j = pick (eqb n 0) 0 (count (base_map j))

-- n hash pairs at p, the numbers l of their values, and the base that they are merged into, where t is behind the entries in use
pub record Mergeable (s b : Bytes) (ent : List ℕ) (t : ℕ) (base : Value) (l : List ℕ) (d p n : ℕ) : Type 0 where
  pub pairs : PairsStand (bits b) d p n
  pub room : 2 * (t + n) ≤ length ent
  pub few : t + n ≤ 4096
  pub fits : Fits base
  pub stands : Stands s b ent t base
  pub near : (i : ℕ) → i < n → get_or l i 0 < 4294967296
  pub values : (i : ℕ) → i < n → Stands s b ent t (decoded (get_or l i 0))
