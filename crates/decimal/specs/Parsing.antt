-- `parse::<usize>` one byte at a time.
use Rattle.std.specs.Prelude.{ℕ, ◌+◌, ◌-◌, ◌*◌, [], ◌∷◌, eqb, leb, Option as RustOption, Some, None}
use Rattle.std.proofs.Math.Option.{Option, none, some}
use Rattle.rules.specs.Bytes.{Bytes, pick, between}
use Rattle.rules.specs.Context.{parse_digits, parse_usize}
use Rattle.decimal.specs.declared.Parse.{Parse}
use Rattle.decimal.specs.declared.Parse.TheVariants.{Empty, Plus, Is, Refused}

-- one digit more, if it is one and the number still fits 64 bits
unfoldable pub with_digit : ℕ → ℕ → Parse
with_digit n c = pick (between 48 57 c) (pick (leb (n * 10 + c) (18446744073709551615 + 48)) (Is (n * 10 + c - 48)) Refused) Refused

-- one byte more
abbrev pub fed : Parse → ℕ → Parse
fed Empty c = pick (eqb c 43) Plus (with_digit 0 c)
fed Plus c = with_digit 0 c
fed (Is n) c = with_digit n c
fed Refused c = Refused

abbrev pub fed_all : Parse → Bytes → Parse
fed_all p [] = p
fed_all p (c ∷ s) = fed_all (fed p c) s

-- what the bytes fed so far come to
abbrev pub value : Parse → Option ℕ
value Empty = none
value Plus = none
value (Is n) = some n
value Refused = none

-- what `parse-usize` gives of all the bytes, if these are still to come
abbrev pub coming : Parse → Bytes → Option ℕ
coming Empty s = parse_usize s
coming Plus [] = none
coming Plus (c ∷ s) = parse_digits 0 (c ∷ s)
coming (Is n) s = parse_digits n s
coming Refused s = none

-- the answer
abbrev pub parsed : Option ℕ → RustOption ℕ
parsed none = None
parsed (some n) = Some n
