-- Places of the plan as answers.
use Rattle.std.specs.Prelude.{ℕ, List, ◌≡◌, Option as RustOption, Some, None}
use Rattle.std.proofs.Math.Option.{Option, none, some}
use Rattle.std.proofs.Math.ListN.{get_elem?}
use Rattle.rules.specs.Bytes.{Bytes, maybe}
use Rattle.rules.specs.Error.{got, bad, invalid-json-index}
use Rattle.rules.specs.Context.{get_data}
use Rattle.places.specs.Places.{json_at}
use Rattle.places.specs.Paths.{Segment}
use Rattle.places.specs.Kinds.{found}
use Rattle.value.specs.declared.Value.TheVariants.{Context, Place}
use Rattle.lookup.specs.declared.Reached.{Reached}
use Rattle.lookup.specs.declared.Reached.TheVariants.{At as ReachedAt, Nothing as ReachedNothing, BadIndex as ReachedBad}
use Rattle.lookup.specs.declared.Got.{Got}
use Rattle.lookup.specs.declared.Got.TheVariants.{Is as GotIs, Nothing as GotNothing, BadIndex}
use Rattle.value.specs.declared.Value.{Value}

-- without its path
abbrev pub placed_at : Option ℕ → RustOption Value
placed_at o = maybe o None (λ c. Some (Place c))

abbrev pub placed : RustOption ℕ → RustOption Value
placed at = placed_at (found at)

-- what a segment leads to: with its path, and without

abbrev pub reached_at : Option ℕ → Reached
reached_at o = maybe o ReachedNothing ReachedAt

abbrev pub list_reached : List ℕ → Option ℕ → Reached
list_reached l o = maybe o ReachedBad (λ n. reached_at (get_elem? l n))

abbrev pub Reaches : Bytes → ℕ → Bytes → Reached → Type 0
Reaches s i q (ReachedAt c) = Segment s i q c
Reaches s i q ReachedNothing = get_data (some (json_at s i)) q ≡ got none
Reaches s i q ReachedBad = get_data (some (json_at s i)) q ≡ bad invalid-json-index

abbrev pub with_path : Reached → Got
with_path (ReachedAt c) = GotIs (Context c)
with_path ReachedNothing = GotNothing
with_path ReachedBad = BadIndex

abbrev pub without_path : Reached → Got
without_path (ReachedAt c) = GotIs (Place c)
without_path ReachedNothing = GotNothing
without_path ReachedBad = BadIndex

abbrev pub from_member : RustOption Value → Got
from_member (Some w) = GotIs w
from_member None = GotNothing
