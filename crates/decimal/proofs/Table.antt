-- A rule of a table, proved at all of its entries by one test that antt computes.
use Prim.Native.Nat.{ℕ, zero, suc, ◌+◌, ◌<◌}
use native.Mathlib.Omega.{arith}
use mathlib.Core.Bool.{Bool, true, false, ◌&&◌}
use mathlib.Core.List.{List, [], ◌∷◌}
use mathlib.Core.Path.{◌≡◌, subst}
use lib.Dec.{T}
use lib.ListN.{length, get_or}

-- the test f passes at each entry of the list and its place, counted from i
abbrev pub every : (ℕ → ℕ → Bool) → ℕ → List ℕ → Bool
every f i [] = true
every f i (x ∷ xs) = f i x && every f (suc i) xs

first : (a b : Bool) → T (a && b) → T a
first true b t = tt
first false b t = t

second : (a b : Bool) → T (a && b) → T b
second true b t = t
second false b t = absurd t

from : (f : ℕ → ℕ → Bool) (xs : List ℕ) (i k : ℕ) → T (every f i xs) → k < length xs → T (f (i + k) (get_or xs k 0))
from f [] i k t h = absurd (omega arith)
from f (x ∷ xs) i zero t h =
    let e : i ≡ i + 0 = omega arith in
    subst (λ m. T (f m x)) e (first (f i x) (every f (suc i) xs) t)
from f (x ∷ xs) i (suc k) t h =
    let e : suc i + k ≡ i + suc k = omega arith in
    subst (λ m. T (f m (get_or xs k 0))) e (from f xs (suc i) k (second (f i x) (every f (suc i) xs) t) (omega arith))

pub at : (f : ℕ → ℕ → Bool) (xs : List ℕ) (k : ℕ) → T (every f 0 xs) → k < length xs → T (f k (get_or xs k 0))
at f xs k t h =
    let e : 0 + k ≡ k = omega arith in
    subst (λ m. T (f m (get_or xs k 0))) e (from f xs 0 k t h)
