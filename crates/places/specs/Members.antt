-- The members of an object by their places: of equal names the last one counts.
use Rattle.std.specs.Prelude.{ℕ, ◌≡◌}
use Rattle.rules.specs.Bytes.{Bytes}
use Rattle.places.specs.Places.{live_at, name_at}
use Rattle.places.specs.Children.{Child}

-- the member at c has the name w, and none behind it has
pub record Latest (s : Bytes) (i : ℕ) (w : Bytes) (c : ℕ) : Type 0 where
  pub number : ℕ
  pub child : Child s i number c
  pub name : name_at s c ≡ w
  pub live : live_at s c ≡ live_at s i
