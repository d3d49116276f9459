-- Names and keys that were passed, known by their places.
use Rattle.std.specs.Prelude.{ℕ, zero, suc, Bool, true, List, [], ◌∷◌, eqb, get_or}
use Rattle.std.proofs.Math.Option.{Option, none, some}
use Rattle.rules.specs.Bytes.{Bytes, pick, before}
use Rattle.rules.specs.Bits.{Bits}
use Rattle.layout.specs.Text.{text_at}

-- the key before the key i, at the place prev; the first has none
abbrev pub key_before : Bits → ℕ → ℕ → Option Bytes
key_before b i prev = pick (eqb i 0) none (some (text_at b prev))

abbrev pub key_ok : Option Bytes → Bytes → Bool
key_ok none s = true
key_ok (some k) s = before k s

-- the names at the first i of the places ps, the last first
abbrev pub seen_at : Bits → List ℕ → ℕ → List Bytes
seen_at b ps zero = []
seen_at b ps (suc i) = text_at b (get_or ps i 0) ∷ seen_at b ps i
