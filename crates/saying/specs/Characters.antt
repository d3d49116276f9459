-- The characters of a string, one by one.
use Rattle.std.specs.Prelude.{ℕ, ◌+◌, ◌≤◌, [], ◌∷◌, ◌≡◌, length, take, drop, Option as RustOption, Some, None}
use Rattle.rules.specs.Bytes.{Bytes}
use Rattle.rules.specs.Scan.{string_end}
use Rattle.rules.specs.Context.{chars}
use Rattle.saying.specs.Said.{remaining}

-- from the place i on the text is a string's, up to its last quote
pub record Whole (s : Bytes) (i : ℕ) : Type 0 where
  pub ends : string_end s i ≡ 0 → ⊥

-- n bytes of what is left are a character, and the next one starts at e
pub record OneChar (s : Bytes) (i n e : ℕ) : Type 0 where
  pub first : chars (remaining s i 0) ≡ take n (remaining s i 0) ∷ chars (remaining s e 0)
  pub others : drop n (remaining s i 0) ≡ remaining s e 0
  pub enough : n ≤ length (remaining s i 0)
  pub something : 1 ≤ n
  pub whole : Whole s e
  pub near : e ≤ length s

abbrev pub Charred : Bytes → ℕ → RustOption (ℕ × ℕ) → Type 0
Charred s i (Some (n, e)) = Whole s i → OneChar s i n e
Charred s i None = Whole s i → remaining s i 0 ≡ []
