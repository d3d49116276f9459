-- A merged object before its members are counted: s is the plan, b the bundle, ent the entries of open partials.
use Rattle.std.specs.Prelude.{ℕ, ◌+◌, ◌*◌, ◌≤◌, ◌<◌, List, length}
use Rattle.rules.specs.Bytes.{Bytes}
use Rattle.meaning.specs.Entries.{hash_value, hash_base}
use Rattle.meaning.specs.Standing.{KeysStand, Stands}

-- the parts of the one with n hash pairs from h on; it stands itself where limit 22 admits as many members
pub record Parts (s b : Bytes) (ent : List ℕ) (h n : ℕ) : Type 0 where
  pub room : 2 * (h + n) ≤ length ent
  pub keys : KeysStand b ent h n
  pub base : Stands s b ent h (hash_base ent h)
  pub values : (i : ℕ) → i < n → Stands s b ent h (hash_value ent (h + i))
