-- How many bytes a character of UTF-8 has, by its first byte.
use Rattle.std.specs.Prelude.{ℕ, ltb}
use Rattle.rules.specs.Bytes.{pick}

unfoldable pub lead_length : ℕ → ℕ
lead_length c = pick (ltb c 128) 1 (pick (ltb c 224) 2 (pick (ltb c 240) 3 4))
