-- Bytes put at a place: where there is room, and where there is none.
use Prim.Native.Nat.{ℕ, ◌+◌, ◌≤◌, ◌<◌}
use native.Mathlib.Omega.{arith}
use mathlib.Core.Bool.{Bool, true, false}
use mathlib.Core.List.{◌++◌}
use mathlib.Core.Path.{◌≡◌, refl}
use lib.ListN.{length, take, drop}
use borrow.Author.Tests.{le-leb, lt-leb, leb-true}
use Rattle.rules.specs.Bytes.{Bytes, pick}
use Rattle.decimal.specs.Place.{put, behind, has_room}

pub put_all : (xs : Bytes) (at : ℕ) (s : Bytes) → at + length s ≤ length xs → put xs at s ≡ take at xs ++ (s ++ drop (at + length s) xs)
unfolding put
put_all xs at s room = rw (le-leb (at + length s) (length xs) room)

pub behind_all : (xs : Bytes) (at : ℕ) (s : Bytes) → at + length s ≤ length xs → behind xs at s ≡ at + length s
unfolding behind
behind_all xs at s room = rw (le-leb (at + length s) (length xs) room)

pub put_none : (xs : Bytes) (at : ℕ) (s : Bytes) → length xs < at + length s → put xs at s ≡ xs
unfolding put
put_none xs at s h = rw (lt-leb (at + length s) (length xs) h)

pub behind_none : (xs : Bytes) (at : ℕ) (s : Bytes) → length xs < at + length s → behind xs at s ≡ at
unfolding behind
behind_none xs at s h = rw (lt-leb (at + length s) (length xs) h)

-- a place further on says that there was room
pub behind_room : (xs : Bytes) (at : ℕ) (s : Bytes) → at < behind xs at s → at + length s ≤ length xs
unfolding behind
behind_room xs at s h = go (has_room xs at s) refl h
  where
    go : (b : Bool) → has_room xs at s ≡ b → at < pick b (at + length s) at → at + length s ≤ length xs
    go true e l = leb-true (at + length s) (length xs) e
    go false e l = absurd (omega arith)
