-- The machine of the rules, fed one byte at a time, as the code holds it; and a text as a run of characters.
use Rattle.std.specs.Prelude.{ℕ, suc, ◌+◌, ◌<◌, [], ◌∷◌, ◌≡◌, length}
use Rattle.rules.specs.Bytes.{Bytes}
use Rattle.rules.specs.Utf8.{Wants, wants, bad, more, utf8_length}
use Rattle.utf8.specs.declared.Utf.{Utf}
use Rattle.utf8.specs.declared.Utf.TheVariants.{Wants as Wanting, Bad}

abbrev pub wanted : Utf → Wants
wanted (Wanting k low high) = wants k low high
wanted Bad = bad

-- before the first byte, and between two characters
abbrev pub begun : Wants
begun = wants 0 128 191

-- what is wanted after these bytes
abbrev pub after : Wants → Bytes → Wants
after w [] = w
after w (c ∷ s) = after (more w c) s

-- from i on, character by character, to the end
pub data Run (s : Bytes) : ℕ → Type 0 where
  end : Run s (length s)
  one : {i : ℕ} (n : ℕ) → i < length s → utf8_length s i ≡ suc n → Run s (i + suc n) → Run s i
