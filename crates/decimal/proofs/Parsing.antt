-- Feeding the parser byte by byte gives what the rules give of all the bytes.
use Prim.Native.Nat.{ℕ, ◌+◌, ◌-◌, ◌*◌, ◌≤◌, ◌<◌}
use mathlib.Core.Bool.{Bool, true, false}
use mathlib.Core.List.{[], ◌∷◌, ◌++◌}
use mathlib.Core.Option.{none}
use mathlib.Core.Path.{◌≡◌, refl, sym, ap, ◌∙◌}
use lib.Dec.{eqb, leb}
use lib.ListN.{length, drop}
use lib.Seq.{drop-cons}
use native.Mathlib.Numerals.{add-one}
use borrow.Author.Tests.{le-leb, lt-leb, eqb-true}
use Rattle.rules.specs.Bytes.{Bytes, pick, byte_at, between}
use Rattle.rules.specs.Context.{parse_digits, parse_usize}
use Rattle.decimal.specs.declared.Parse.{Parse}
use Rattle.decimal.specs.declared.Parse.TheVariants.{Empty, Plus, Is, Refused}
use Rattle.decimal.specs.Parsing.{with_digit, fed, fed_all, value, coming}

-- a digit more, and the rest still to come
coming_digit : (n c : ℕ) (s : Bytes) → coming (with_digit n c) s ≡ parse_digits n (c ∷ s)
unfolding with_digit
coming_digit n c s = go (between 48 57 c) (leb (n * 10 + c) (18446744073709551615 + 48))
  where
    go : (a b : Bool) → coming (pick a (pick b (Is (n * 10 + c - 48)) Refused) Refused) s ≡ pick a (pick b (parse_digits (n * 10 + c - 48) s) none) none
    go true true = refl
    go true false = refl
    go false b = refl

-- the byte that is fed was the first of those to come
pub coming_fed : (p : Parse) (c : ℕ) (s : Bytes) → coming (fed p c) s ≡ coming p (c ∷ s)
coming_fed Empty c s = go s (eqb c 43) refl
  where
    go : (t : Bytes) (b : Bool) → eqb c 43 ≡ b → coming (pick (eqb c 43) Plus (with_digit 0 c)) t ≡ parse_usize (c ∷ t)
    go [] true e = rw (eqb-true c 43 e)
    go [] false e = rw e (coming_digit 0 c [])
    go (d ∷ t) true e = rw e
    go (d ∷ t) false e = rw e (coming_digit 0 c (d ∷ t))
coming_fed Plus c s = coming_digit 0 c s
coming_fed (Is n) c s = coming_digit n c s
coming_fed Refused c s = refl

-- nothing to come: what was fed so far is all
pub coming_none : (p : Parse) → coming p [] ≡ value p
coming_none Empty = refl
coming_none Plus = refl
coming_none (Is n) = refl
coming_none Refused = refl

-- a whole text at once
pub value_all : (p : Parse) (s : Bytes) → value (fed_all p s) ≡ coming p s
value_all p [] = sym (coming_none p)
value_all p (c ∷ s) = value_all (fed p c) s ∙ coming_fed p c s

-- after the bytes l one byte more makes it the bytes l and that one
pub fed_more : (p : Parse) (l : Bytes) (c : ℕ) → fed_all p (l ++ (c ∷ [])) ≡ fed (fed_all p l) c
fed_more p [] c = refl
fed_more p (d ∷ l) c = fed_more (fed p d) l c

-- FOR A LOOP OVER ANY SOURCE, with p the machine after the bytes l: one byte more, and the end
pub fed_byte : (l : Bytes) (c : ℕ) (p next : Parse) → p ≡ fed_all Empty l → next ≡ fed p c → next ≡ fed_all Empty (l ++ (c ∷ []))
fed_byte l c p next e n = n ∙ ap (λ q. fed q c) e ∙ sym (fed_more Empty l c)

pub fed_end : (l : Bytes) (p : Parse) → p ≡ fed_all Empty l → value p ≡ parse_usize l
fed_end l p e = ap value e ∙ value_all Empty l

-- a loop over lent bytes feeds the byte at i
pub coming_next : (p : Parse) (s : Bytes) (i : ℕ) → i < length s → coming (fed p (byte_at s i)) (drop (i + 1) s) ≡ coming p (drop i s)
coming_next p s i h = coming_fed p (byte_at s i) (drop (i + 1) s) ∙ ap (coming p) (ap (λ j. byte_at s i ∷ drop j s) (add-one i) ∙ sym (drop-cons s i 0 h))

-- What a byte does, by what it is

pub below_digits : (n c : ℕ) → c < 48 → Refused ≡ with_digit n c
unfolding with_digit
below_digits n c h = rw (lt-leb 48 c h)

pub above_digits : (n c : ℕ) → 48 ≤ c → 57 < c → Refused ≡ with_digit n c
unfolding with_digit
above_digits n c l h = rw (le-leb 48 c l, lt-leb c 57 h)

pub too_large : (n c : ℕ) → 48 ≤ c → c ≤ 57 → 18446744073709551615 + 48 < n * 10 + c → Refused ≡ with_digit n c
unfolding with_digit
too_large n c l h g = rw (le-leb 48 c l, le-leb c 57 h, lt-leb (n * 10 + c) (18446744073709551615 + 48) g)

pub one_more : (n c m : ℕ) → 48 ≤ c → c ≤ 57 → n * 10 + c ≤ 18446744073709551615 + 48 → m ≡ n * 10 + c - 48 → Is m ≡ with_digit n c
unfolding with_digit
one_more n c m l h g e = rw (le-leb 48 c l, le-leb c 57 h, le-leb (n * 10 + c) (18446744073709551615 + 48) g, e)
