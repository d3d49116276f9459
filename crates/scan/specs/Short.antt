-- A number is read quickly where it has few digits and nothing else.
use Rattle.std.specs.Prelude.{ℕ, ◌+◌, ◌||◌, eqb, ltb}
use Rattle.rules.specs.Bytes.{Bytes, pick, byte_at}
use Rattle.rules.specs.Scan.{whole_end}

-- the place behind a whole part of eighteen digits at most, behind which no point and no exponent stands
unfoldable pub plain_number_end : Bytes → ℕ → ℕ
plain_number_end s i =
    let w = whole_end s i in
    pick (eqb w 0) 0
    (pick (eqb (byte_at s w) 46 || (eqb (byte_at s w) 101 || (eqb (byte_at s w) 69 || ltb (i + 18) w))) 0 w)
