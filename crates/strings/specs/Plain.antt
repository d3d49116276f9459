-- A string is passed quickly where its characters stand for themselves and are one byte long.
use Rattle.std.specs.Prelude.{ℕ, ◌+◌, Bool, ◌&&◌, not, eqb, leb, ltb, drop}
use Rattle.rules.specs.Bytes.{Bytes, pick, byte_at, run}

abbrev pub is_plain : ℕ → Bool
is_plain c = (leb 32 c && ltb c 128) && (not (eqb c 34) && not (eqb c 92))

-- the first place from i on that has no such character
abbrev pub plain_end : Bytes → ℕ → ℕ
plain_end s i = i + run is_plain (drop i s)

-- the place behind the string of such characters only whose first quote stands before i; 0 for any other
abbrev pub plain_string_end : Bytes → ℕ → ℕ
plain_string_end s i = pick (eqb (byte_at s (plain_end s i)) 34) (plain_end s i + 1) 0
