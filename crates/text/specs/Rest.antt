-- The bytes that a text still has.
use Rattle.std.specs.Prelude.{ℕ, ◌+◌, ◌*◌, ◌<◌, [], ◌∷◌, ◌≡◌, take, drop, Option as RustOption, Some, None}
use Rattle.rules.specs.Bytes.{Bytes, digits}
use Rattle.rules.specs.Bits.{bits}
use Rattle.bits.specs.Packed.{bytes_at}
use Rattle.saying.specs.Said.{remaining, Inside}
use Rattle.text.specs.declared.Text.{Text}
use Rattle.text.specs.declared.Text.TheVariants.{Said, Part, Packed, Digits, Minus}

-- s is the plan, b the bundle
abbrev pub rest : Bytes → Bytes → Text → Bytes
rest s b (Said at k) = remaining s at k
rest s b (Part at k n) = take n (remaining s at k)
rest s b (Packed p n) = bytes_at (bits b) p n
rest s b (Digits n k) = drop k (digits n)
rest s b (Minus n) = 45 ∷ digits n

-- its places are such as a plan and a bundle have
abbrev pub Stands : Bytes → Bytes → Text → Type 0
Stands s b (Said at k) = Inside s at k
Stands s b (Part at k n) = Inside s at k
Stands s b (Packed p n) = p + 8 * n < 18446744073709551616
Stands s b (Digits n k) = Unit {0}
Stands s b (Minus n) = Unit {0}

-- the first byte of t, and the text behind it
abbrev pub Stepped : Bytes → Bytes → Text → RustOption (ℕ × Text) → Type 0
Stepped s b t (Some (c, u)) = (rest s b t ≡ c ∷ rest s b u) × Stands s b u
Stepped s b t None = rest s b t ≡ []
