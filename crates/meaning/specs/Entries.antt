-- The entries of open partials. Each takes two numbers of the lent table: two halves of 32 bits in the first, a bit place in the second.
-- A hash pair has its value, the value that the hash is merged into, and the place of its key; an inline partial its name, the depths that its
-- body has left, and the place of its body.
use Rattle.std.specs.Prelude.{ℕ, ◌+◌, ◌*◌, ◌/◌, ◌%◌, List, get_or}
use Rattle.value.specs.declared.Value.{Value}
use Rattle.value.specs.Numbers.{decoded}

abbrev pub low : List ℕ → ℕ → ℕ
low ent e = get_or ent (2 * e) 0 % 4294967296

abbrev pub high : List ℕ → ℕ → ℕ
high ent e = get_or ent (2 * e) 0 / 4294967296 % 4294967296

abbrev pub place : List ℕ → ℕ → ℕ
place ent e = get_or ent (2 * e + 1) 0

-- of a hash pair
abbrev pub hash_value : List ℕ → ℕ → Value
hash_value ent e = decoded (low ent e)

abbrev pub hash_base : List ℕ → ℕ → Value
hash_base ent e = decoded (high ent e)
