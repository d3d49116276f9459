-- Strings of plain characters only, which are read quickly.
use mathlib.Core.Bool.{Bool, true, false}
use mathlib.Core.Path.{◌≡◌, refl}
use Prim.Native.Nat.{ℕ, ◌+◌, ◌≤◌}
use native.Mathlib.Omega.{arith}
use lib.Dec.{eqb}
use lib.ListN.{length}
use borrow.Author.Tests.{eq-eqb, ne_eqb, eqb-true}
use Rattle.rules.specs.Bytes.{Bytes, pick, byte_at}
use Rattle.rules.specs.Scan.{string_end}
use Rattle.scan.proofs.Bounds.{eq_in}
use Rattle.strings.specs.Plain.{plain_end, plain_string_end}
use Rattle.strings.proofs.Ends.{going_start, going_run, going_end}

-- the plain characters from i on end at j
module _ (s : Bytes) (i j : ℕ) (h : plain_end s i ≡ j) where
  pub quote_found : byte_at s j ≡ 34 → j + 1 ≡ plain_string_end s i
  quote_found q = rw (h, eq-eqb (byte_at s j) 34 q)

  pub quote_missed : (byte_at s j ≡ 34 → ⊥) → 0 ≡ plain_string_end s i
  quote_missed q = rw (h, ne_eqb (byte_at s j) 34 q)

-- no quote stands behind the end
pub no_quote : (s : Bytes) (j : ℕ) → length s ≤ j → byte_at s j ≡ 34 → ⊥
no_quote s j le q = let l = eq_in s j 34 refl (eq-eqb (byte_at s j) 34 q) in omega arith

-- a string of plain characters is a string
pub plain_string : (s : Bytes) (i : ℕ) → i ≤ length s + 1 → (plain_string_end s i ≡ 0 → ⊥) → plain_string_end s i ≡ string_end s i
plain_string s i le n = go (eqb (byte_at s (plain_end s i)) 34) refl n
  where
    go : (t : Bool) → eqb (byte_at s (plain_end s i)) 34 ≡ t → (pick t (plain_end s i + 1) 0 ≡ 0 → ⊥) → pick t (plain_end s i + 1) 0 ≡ string_end s i
    go true e n = going_end s i (plain_end s i) (going_run s i i (plain_end s i) (going_start s i le) refl) (eqb-true (byte_at s (plain_end s i)) 34 e)
    go false e n = absurd (n refl)
