-- The bytes of a string that are left from a place on.
use Rattle.std.specs.Prelude.{ℕ, suc, ◌+◌, ◌-◌, ◌*◌, ◌/◌, ◌%◌, ◌^◌, ◌≤◌, ◌<◌, Bool, true, ◌&&◌, not, [], ◌∷◌, ◌≡◌, eqb, leb, length, drop, Option as RustOption, Some, None}
use Rattle.rules.specs.Bytes.{Bytes, run}
use Rattle.rules.specs.Scan.{says, saying_from}
use Rattle.saying.specs.declared.Cursor.{Cursor}

-- from the byte k of what the text says at i
abbrev pub remaining : Bytes → ℕ → ℕ → Bytes
remaining s i k = drop k (saying_from s (suc (length s)) i)

-- a place in a string
pub record Inside (s : Bytes) (i k : ℕ) : Type 0 where
  pub here : k < length (says s i)
  pub near : i ≤ 65548

-- the first byte of l, and the place behind it
abbrev pub Stepped : Bytes → Bytes → RustOption (ℕ × Cursor) → Type 0
Stepped s l (Some (b, c)) = (l ≡ b ∷ remaining s c.at c.k) × Inside s c.at c.k
Stepped s l None = l ≡ []

-- a byte that stands for itself
abbrev pub is_own : ℕ → Bool
is_own c = leb 32 c && (not (eqb c 34) && not (eqb c 92))

-- the first place from i on that has no such byte
abbrev pub own_end : Bytes → ℕ → ℕ
own_end s i = i + run is_own (drop i s)

-- the first n of the seven bytes x stand for themselves, and v is they with a quote behind them
pub record IsShort (x n v : ℕ) : Type 0 where
  pub few : n ≤ 7
  pub own : (j : ℕ) → j < n → is_own (x / 2 ^ (48 - 8 * j) % 256) ≡ true
  pub is : v ≡ x / 2 ^ (56 - 8 * n) * 256 + 34

-- or v is 0
abbrev pub Short : ℕ → ℕ → ℕ → Type 0
Short x n v = (v ≡ 0 → ⊥) → IsShort x n v
