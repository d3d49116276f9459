-- Where a name is told by numbers: in an object of the plan, and in a merged object whose pairs have it or whose base, through merged objects, is
-- such a one. What stands in a list, in a string and in other values is looked for another way.
use Rattle.std.specs.Prelude.{ℕ, zero, suc, Bool, true, false, ◌||◌, List, eqb}
use Rattle.std.proofs.Math.Option.{Option, none, some}
use Rattle.rules.specs.Bytes.{Bytes, pick, maybe}
use Rattle.places.specs.Children.{is_object}
use Rattle.merging.specs.Lookup.{find_last}
use Rattle.value.specs.declared.Value.{Value}
use Rattle.value.specs.declared.Value.TheVariants.{Missing, Null, False, True, Empty, Context, Place, Literal, Index, IndexText, Name, Text, SaidChar, PackedChar, Merged}
use Rattle.meaning.specs.Entries.{hash_base}
use Rattle.meaning.specs.Meaning.{pairs, merged_of, rank, json_of}

-- the place of the plan that a value is
abbrev pub place_in : Value → Option ℕ
place_in Missing = none
place_in Null = none
place_in False = none
place_in True = none
place_in Empty = none
place_in (Context i) = some i
place_in (Place i) = some i
place_in (Literal p) = none
place_in (Index n) = none
place_in (IndexText n) = none
place_in (Name o) = none
place_in (Text p) = none
place_in (SaidChar o n) = none
place_in (PackedChar p n) = none
place_in (Merged h n) = none

abbrev pub stands_object : Bytes → Value → Bool
stands_object s v = maybe (place_in v) false (is_object s)

-- whether one of the n hash pairs from h on has the key k
abbrev pub has_pair : Bytes → Bytes → List ℕ → ℕ → ℕ → Bytes → Bool
has_pair s b ent h n k = maybe (find_last (pairs b ent (json_of s b ent) h n) k) false (λ j. true)

-- a merged object's base was there before it, so its own number bounds where to look
unfoldable pub tells_below : Bytes → Bytes → List ℕ → Bytes → ℕ → Value → Bool
tells_below s b ent k zero v = stands_object s v
tells_below s b ent k (suc f) v =
    let inner : Value → Bool = tells_below s b ent k f in
    maybe (merged_of v) (stands_object s v) (λ m. pick (eqb m.0 f) (has_pair s b ent m.0 m.1 k || inner (hash_base ent m.0)) (inner v))

unfoldable pub tells : Bytes → Bytes → List ℕ → Bytes → Value → Bool
tells s b ent k v = tells_below s b ent k (rank v) v
