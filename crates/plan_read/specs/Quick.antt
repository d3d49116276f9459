-- What most values and the white space around them are like, which is read quickly.
use Rattle.std.specs.Prelude.{ℕ, ◌+◌, ◌≡◌, eqb}
use Rattle.rules.specs.Bytes.{Bytes, pick, byte_at, ascii}
use Rattle.rules.specs.Scan.{spaces_end, word_end}
use Rattle.scan.specs.Short.{plain_number_end}
use Rattle.strings.specs.Plain.{plain_string_end}
use Rattle.plan_read.specs.declared.Mark.{Mark}

-- the first place from i on that is no white space, and the byte there
pub record Marked (s : Bytes) (i : ℕ) (m : Mark) : Type 0 where
  pub place : m.at ≡ spaces_end s i
  pub here : m.byte ≡ byte_at s m.at

-- the place behind a number of few digits, a string of plain characters or a word; 0 for any other value
unfoldable pub plain_end : Bytes → ℕ → ℕ
plain_end s i =
    pick (eqb (plain_number_end s i) 0)
    (pick (eqb (byte_at s i) 34) (plain_string_end s (i + 1))
    (pick (eqb (byte_at s i) 116) (word_end (ascii "true") s i)
    (pick (eqb (byte_at s i) 102) (word_end (ascii "false") s i)
    (pick (eqb (byte_at s i) 110) (word_end (ascii "null") s i)
    0))))
    (plain_number_end s i)
