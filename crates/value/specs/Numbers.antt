-- A value as one number: its kind in the last four bits, and in front of them its place.
use Rattle.std.specs.Prelude.{ℕ, ◌+◌, ◌*◌, ◌/◌, ◌%◌, ◌<◌, ◌≡◌, eqb, ltb}
use Rattle.std.proofs.Common.{ap₂, ◌∙◌, arith}
use Rattle.rules.specs.Bytes.{pick}
use Rattle.value.specs.declared.Value.{Value}
use Rattle.value.specs.declared.Value.TheVariants.{Missing, Null, False, True, Empty, Context, Place, Literal, Index, IndexText, Name, Text, SaidChar, PackedChar, Merged}

-- places of plans and bundles are below this
abbrev pub Near : ℕ → Type 0
Near x = x < 1048576

abbrev pub Fits : Value → Type 0
Fits Missing = Unit {0}
Fits Null = Unit {0}
Fits False = Unit {0}
Fits True = Unit {0}
Fits Empty = Unit {0}
Fits (Context i) = Near i
Fits (Place i) = Near i
Fits (Literal p) = Near p
Fits (Index n) = Near n
Fits (IndexText n) = Near n
Fits (Name o) = Near o
Fits (Text p) = Near p
Fits (SaidChar o n) = Near o × (n < 8)
Fits (PackedChar p n) = Near p × (n < 8)
Fits (Merged h n) = Near h × (n < 16)

abbrev pub encoded : Value → ℕ
encoded Missing = 0
encoded Null = 1
encoded False = 2
encoded True = 3
encoded Empty = 4
encoded (Context i) = 5 + 16 * i
encoded (Place i) = 6 + 16 * i
encoded (Literal p) = 7 + 16 * p
encoded (Index n) = 8 + 16 * n
encoded (IndexText n) = 9 + 16 * n
encoded (Name o) = 10 + 16 * o
encoded (Text p) = 11 + 16 * p
encoded (SaidChar o n) = 12 + 16 * (8 * o + n)
encoded (PackedChar p n) = 13 + 16 * (8 * p + n)
encoded (Merged h n) = 14 + 16 * (16 * h + n)

-- the kinds that say all, those of one number, and those of two
unfoldable pub word_of : ℕ → Value
word_of t = pick (eqb t 0) Missing (pick (eqb t 1) Null (pick (eqb t 2) False (pick (eqb t 3) True Empty)))

unfoldable pub place_of : ℕ → ℕ → Value
place_of t x =
    pick (eqb t 5) (Context x)
    (pick (eqb t 6) (Place x)
    (pick (eqb t 7) (Literal x)
    (pick (eqb t 8) (Index x) (pick (eqb t 9) (IndexText x) (pick (eqb t 10) (Name x) (Text x))))))

unfoldable pub pair_of : ℕ → ℕ → Value
pair_of t x = pick (eqb t 12) (SaidChar (x / 8) (x % 8)) (pick (eqb t 13) (PackedChar (x / 8) (x % 8)) (Merged (x / 16) (x % 16)))

unfoldable pub decoded : ℕ → Value
decoded n = pick (ltb (n % 16) 5) (word_of (n % 16)) (pick (ltb (n % 16) 12) (place_of (n % 16) (n / 16)) (pair_of (n % 16) (n / 16)))

-- the kinds of the plan, by their last four bits
pub context_number : (n : ℕ) → n % 16 ≡ 5 → decoded n ≡ Context (n / 16)
unfolding decoded place_of
context_number n e = rw e

pub place_number : (n : ℕ) → n % 16 ≡ 6 → decoded n ≡ Place (n / 16)
unfolding decoded place_of
place_number n e = rw e

pub name_number : (n : ℕ) → n % 16 ≡ 10 → decoded n ≡ Name (n / 16)
unfolding decoded place_of
name_number n e = rw e

-- what was stored is read back
tagged : (t x : ℕ) → t < 16 → decoded (t + 16 * x) ≡ pick (ltb t 5) (word_of t) (pick (ltb t 12) (place_of t x) (pair_of t x))
unfolding decoded
tagged t x h =
    let a : (t + 16 * x) % 16 ≡ t = omega arith in
    let b : (t + 16 * x) / 16 ≡ x = omega arith in
    rw (a, b)

pub decoded_encoded : (v : Value) → Fits v → decoded (encoded v) ≡ v
unfolding word_of place_of pair_of
decoded_encoded Missing f = tagged 0 0 (omega arith)
decoded_encoded Null f = tagged 1 0 (omega arith)
decoded_encoded False f = tagged 2 0 (omega arith)
decoded_encoded True f = tagged 3 0 (omega arith)
decoded_encoded Empty f = tagged 4 0 (omega arith)
decoded_encoded (Context i) f = tagged 5 i (omega arith)
decoded_encoded (Place i) f = tagged 6 i (omega arith)
decoded_encoded (Literal p) f = tagged 7 p (omega arith)
decoded_encoded (Index n) f = tagged 8 n (omega arith)
decoded_encoded (IndexText n) f = tagged 9 n (omega arith)
decoded_encoded (Name o) f = tagged 10 o (omega arith)
decoded_encoded (Text p) f = tagged 11 p (omega arith)
decoded_encoded (SaidChar o n) f = tagged 12 (8 * o + n) (omega arith) ∙ ap₂ SaidChar (omega arith) (omega arith)
decoded_encoded (PackedChar p n) f = tagged 13 (8 * p + n) (omega arith) ∙ ap₂ PackedChar (omega arith) (omega arith)
decoded_encoded (Merged h n) f = tagged 14 (16 * h + n) (omega arith) ∙ ap₂ Merged (omega arith) (omega arith)
