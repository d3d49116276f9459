-- Bytes of a text that go out at once.
use Rattle.std.specs.Prelude.{ℕ, suc, min, Bool, true, ◌&&◌, not, [], ◌∷◌, eqb, length}
use Rattle.rules.specs.Bytes.{Bytes, pick, run}
use Rattle.support.specs.Table.{is_escaped}

-- an indent follows none of them but the last
abbrev pub calm : Bool → Bytes → Bool
calm has [] = true
calm has (c ∷ []) = true
calm has (c ∷ d ∷ v) = not (has && eqb c 10) && calm has (d ∷ v)

-- nothing comes behind the byte or in its place
abbrev pub quiet_byte : Bool → Bool → ℕ → Bool
quiet_byte has escape c = pick (eqb c 10) (not has) (not (escape && is_escaped c))

-- how long the first line is, where an indent makes lines matter
abbrev pub inner_byte : ℕ → Bool
inner_byte c = not (eqb c 10)

abbrev pub line_length : Bool → Bytes → ℕ
line_length has v = pick has (min (length v) (suc (run inner_byte v))) (length v)
