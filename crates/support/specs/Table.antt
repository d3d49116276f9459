-- The table of entities.
use Rattle.std.specs.Prelude.{ℕ, suc, Bool, List, [], ◌∷◌, eqb, ltb, length, take, get_or}
use Rattle.rules.specs.Bytes.{Bytes, pick}
use Rattle.rules.specs.Support.{entities}
use Rattle.support.specs.declared.Entity.{Entity}

-- the place of a character's entity; the list's length where it has none
unfoldable pub row_in : List (ℕ × Bytes) → ℕ → ℕ
row_in [] c = 0
row_in (e ∷ l) c = let later = suc (row_in l c) in pick (eqb c e.0) 0 later

abbrev pub row_of : ℕ → ℕ
row_of c = row_in entities c

abbrev pub row_bytes : ℕ → Bytes
row_bytes k = (get_or entities k (0, [])).1

-- a row of the code's table: the character and its entity
abbrev pub row_read : Entity → ℕ × Bytes
row_read e = (e.character, take e.count e.bytes)

-- whether a character has an entity
abbrev pub is_escaped : ℕ → Bool
is_escaped c = ltb (row_of c) (length entities)
