-- The places that the code goes through. `past f c b p` is the place behind what the layout c finds at the place p; its mark is set
-- where it was set before, or where f says so of what was found. `after c b p` sets no mark.
use Rattle.std.specs.Prelude.{ℕ, zero, suc, ◌+◌, ◌/◌, ◌%◌, Bool, true, false, ◌||◌, leb, eqb}
use Rattle.rules.specs.Bytes.{pick}
use Rattle.rules.specs.Bits.{Bits}
use Rattle.rules.specs.Layout.{Read, read, broken, Layout, field}

-- a bit, and whether a partial with a context stands before it; or that the layout is broken
pub data Place : Type 0 where
  At : ℕ → Bool → Place
  Broken : Place

-- the place that a number of the code stands for
abbrev pub place_by : ℕ → Place
place_by zero = Broken
place_by (suc zero) = Broken
place_by (suc (suc n)) = At (n / 2) (eqb (n % 2) 1)

-- what was read, where s is the mark before it
abbrev pub next : {A : Type 0} → (A → Bool) → Bool → Read A → Place
next f s (read a q) = At q (f a || s)
next f s broken = Broken

-- what is read from a place on
abbrev pub from : {A : Type 0} → (A → Bool) → (ℕ → Read A) → Place → Place
from f x (At p s) = next f s (x p)
from f x Broken = Broken

abbrev pub past : {A : Type 0} → (A → Bool) → Layout A → Bits → Place → Place
past f c b p = from f (c.dec b) p

abbrev pub unmarked : {A : Type 0} → A → Bool
unmarked a = false

abbrev pub after : {A : Type 0} → Layout A → Bits → Place → Place
after c b p = past unmarked c b p

-- the number of w bits at a place
abbrev pub number_at : Bits → ℕ → Place → ℕ
number_at b w (At p s) = field b w p
number_at b w Broken = 0

-- the place n bits on
abbrev pub ahead : Bits → ℕ → Place → Place
ahead b n (At p s) = pick (leb (p + n) b.size) (At (p + n) s) Broken
ahead b n Broken = Broken

abbrev pub marked : Place → Place
marked (At p s) = At p true
marked Broken = Broken
