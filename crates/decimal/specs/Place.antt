-- Bytes put at a place of a lent buffer: all of them, or none where they do not fit.
use Rattle.std.specs.Prelude.{ℕ, ◌+◌, Bool, ◌++◌, leb, length, take, drop}
use Rattle.rules.specs.Bytes.{Bytes, pick}

abbrev pub has_room : Bytes → ℕ → Bytes → Bool
has_room xs at s = leb (at + length s) (length xs)

-- the buffer after it
unfoldable pub put : Bytes → ℕ → Bytes → Bytes
put xs at s = pick (has_room xs at s) (take at xs ++ (s ++ drop (at + length s) xs)) xs

-- the place behind; the same place where nothing was put
unfoldable pub behind : Bytes → ℕ → Bytes → ℕ
behind xs at s = pick (has_room xs at s) (at + length s) at
