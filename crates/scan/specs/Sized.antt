-- A number as the code holds it: one of 64 bits, or a larger one.
use Rattle.std.specs.Prelude.{ℕ, leb, Option as RustOption, Some, None}
use Rattle.rules.specs.Bytes.{pick}

abbrev pub sized : ℕ → RustOption ℕ
sized n = pick (leb n 18446744073709551615) (Some n) None
