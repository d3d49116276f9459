-- What the functions' proofs cite: the machine and the length of a character, by what is wanted.
use Prim.Native.Nat.{ℕ, suc, ◌+◌, ◌≤◌, ◌<◌}
use native.Mathlib.Omega.{arith}
use mathlib.Core.Bool.{Bool, true, false}
use mathlib.Core.Path.{◌≡◌}
use lib.Dec.{ltb, eqb}
use lib.ListN.{length}
use Rattle.rules.specs.Bytes.{Bytes, pick, byte_at, between}
use Rattle.rules.specs.Utf8.{Wants, wants, bad, lead, tails, utf8_length, length_inside}

-- What a first byte can ask for

abbrev pub Sane : Wants → Type 0
Sane (wants k low high) = (k ≤ 3) × (128 ≤ low) × (high ≤ 191)
Sane bad = Unit {0}

either : (t : Bool) (a b : Wants) → Sane a → Sane b → Sane (pick t a b)
either true a b x y = x
either false a b x y = y

pub lead_sane : (c : ℕ) → Sane (lead c)
lead_sane c =
    either (ltb c 128) _ _ (omega arith)
    (either (ltb c 194) _ _ tt
    (either (ltb c 224) _ _ (omega arith)
    (either (eqb c 224) _ _ (omega arith)
    (either (eqb c 237) _ _ (omega arith)
    (either (ltb c 240) _ _ (omega arith)
    (either (eqb c 240) _ _ (omega arith)
    (either (ltb c 244) _ _ (omega arith)
    (either (eqb c 244) _ _ (omega arith)
    tt))))))))

pub lead_few : (c k low high : ℕ) → wants k low high ≡ lead c → (k ≤ 3) × (128 ≤ low) × (high ≤ 191)
lead_few c k low high e = rw (← e) at (lead_sane c)

-- The length of a character, by what its first byte asks for

pub length_is : (s : Bytes) (i k m low high : ℕ) (b : Bool) → i < length s → wants k low high ≡ lead (byte_at s i) → k ≡ m → tails m low high s (i + 1) ≡ b → pick b (suc m) 0 ≡ utf8_length s i
length_is s i k m low high b h e z t = rw (length_inside s i h, ← e, z, t)

pub length_none : (s : Bytes) (i : ℕ) → i < length s → bad ≡ lead (byte_at s i) → 0 ≡ utf8_length s i
length_none s i h e = rw (length_inside s i h, ← e)

pub tails_no : (s : Bytes) (j k low high : ℕ) → between low high (byte_at s j) ≡ false → tails (suc k) low high s j ≡ false
tails_no s j k low high e = rw e

pub tails_on : (s : Bytes) (j next k low high : ℕ) (b : Bool) → between low high (byte_at s j) ≡ true → j + 1 ≡ next → tails k 128 191 s next ≡ b → tails (suc k) low high s j ≡ b
tails_on s j next k low high b e n r = rw (e, n) r
