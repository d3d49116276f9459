-- The path of a live place leads to it, and is in its plain spelling.
use Rattle.std.specs.Prelude.{ℕ, ◌<◌, [], ◌∷◌, ◌++◌, ◌≡◌}
use Rattle.std.proofs.Math.Bool.{true}
use Rattle.std.proofs.Math.Option.{some}
use Rattle.rules.specs.Bytes.{Bytes}
use Rattle.rules.specs.Error.{got}
use Rattle.rules.specs.Context.{get_data, plain_path}
use Rattle.places.specs.Places.{places, path_at, live_at, json_at}

-- A segment that leads from the place i to its child c

-- the plain spelling of path and segment is the path of c, which is as live as i
pub record Segment (s : Bytes) (i : ℕ) (q : Bytes) (c : ℕ) : Type 0 where
  pub within : c < places s
  pub behind : i < c
  pub plain : live_at s i ≡ true → plain_path (json_at s 0) (path_at s i ++ (q ∷ [])) ≡ path_at s c
  pub live : live_at s c ≡ live_at s i
  pub value : get_data (some (json_at s i)) q ≡ got (some (json_at s c))
