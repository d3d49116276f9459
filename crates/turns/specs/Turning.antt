-- What a turn says: s is the plan, b the bundle, ent the entries of open partials, t is behind those in use.
use Rattle.std.specs.Prelude.{ℕ, suc, ◌+◌, ◌*◌, ◌≤◌, ◌<◌, Bool, true, false, List, [], ◌∷◌, ◌++◌, ◌≡◌, eqb, length, Option as RustOption, Some, None}
use Rattle.std.proofs.Math.Option.{Option, none, some}
use Rattle.std.proofs.Math.ListN.{get_elem?}
use Rattle.rules.specs.Bytes.{Bytes, maybe}
use Rattle.rules.specs.Json.{Json, jnull, jbool, jpos, jneg, jstr, jarr, jobj, Jsons, Map}
use Rattle.rules.specs.LocalVars.{LocalVars}
use Rattle.rules.specs.HelperEach.{Turn}
use Rattle.merging.specs.Order.{above, first_of}
use Rattle.places.specs.Places.{places, path_at, json_at, name_at, children}
use Rattle.places.specs.Kinds.{found_name, FoundIn}
use Rattle.value.specs.declared.Value.{Value}
use Rattle.value.specs.declared.Value.TheVariants.{Missing, Null, False, True, Empty, Context, Place, Literal, Index, IndexText, Name, Text, SaidChar, PackedChar, Merged}
use Rattle.meaning.specs.Meaning.{merged_of, context_place, is_missing, json_of}
use Rattle.meaning.specs.Standing.{PlainStands, Stands}
use Rattle.members.specs.Turns.{each_turns}
use Rattle.turns.specs.Listed.{is_end, member_nth, turn_vars}
use Rattle.turns.specs.declared.Turn.{Turn as Told}

-- the place of a value of the plan
abbrev pub place_of : Value → Option ℕ
place_of Missing = none
place_of Null = none
place_of False = none
place_of True = none
place_of Empty = none
place_of (Context i) = some i
place_of (Place i) = some i
place_of (Literal p) = none
place_of (Index n) = none
place_of (IndexText n) = none
place_of (Name o) = none
place_of (Text p) = none
place_of (SaidChar o n) = none
place_of (PackedChar p n) = none
place_of (Merged h n) = none

-- the place c inside v, with a path if v has one
abbrev pub inner : Value → ℕ → Value
inner v c = maybe (context_place v) (Place c) (λ i. Context c)

abbrev pub is_map : Json → Bool
is_map jnull = false
is_map (jbool t) = false
is_map (jpos n) = false
is_map (jneg n) = false
is_map (jstr l) = false
is_map (jarr l) = false
is_map (jobj m) = true

-- where v has a path, the item's is one step behind it; else it has none
abbrev pub Leads : Bytes → Option ℕ → Bytes → Value → Type 0
Leads s none q item = context_place item ≡ none
Leads s (some i) q item = (c : ℕ) × (item ≡ Context c) × (path_at s c ≡ path_at s i ++ (q ∷ []))

-- the item of the turn k over the value at i is the place c
pub record PlaceIs (s : Bytes) (i k : ℕ) (q : Bytes) (c : ℕ) : Type 0 where
  pub within : c < places s
  pub item : (l : Jsons) → json_at s i ≡ jarr l → get_elem? (children s i) k ≡ some c
  pub name : (m : Map) → json_at s i ≡ jobj m → name_at s c ≡ q

abbrev pub Placed : Bytes → ℕ → ℕ → Bytes → Option ℕ → Type 0
Placed s i k q none = ⊥
Placed s i k q (some c) = PlaceIs s i k q c

-- the turn k over v
pub record TurnIs (s b : Bytes) (ent : List ℕ) (t : ℕ) (v : Value) (k : ℕ) (item key : Value) (object last : Bool) : Type 0 where
  pub turn : Turn
  pub is : get_elem? (each_turns (json_of s b ent v)) k ≡ some turn
  pub ends : last ≡ is_end (get_elem? (each_turns (json_of s b ent v)) (suc k))
  pub over : object ≡ is_map (json_of s b ent v)
  pub means : json_of s b ent item ≡ turn.item
  pub keyed : json_of s b ent key ≡ turn.key
  pub numbered : object ≡ false → key ≡ Index k
  pub first : turn.is_first ≡ eqb k 0
  pub locals : (x : LocalVars) → turn.set_locals x ≡ turn_vars object turn.key k last x
  pub leads : Leads s (context_place v) turn.relative_path item
  pub present : is_missing item ≡ false
  pub stands : Stands s b ent t item
  pub key_plain : merged_of key ≡ none
  pub key_stands : PlainStands s b key
  pub placed : (i : ℕ) → place_of v ≡ some i → Placed s i k turn.relative_path (place_of item)

abbrev pub TurnAt : Bytes → Bytes → List ℕ → ℕ → Value → ℕ → RustOption Told → Type 0
TurnAt s b ent t v k (Some u) = TurnIs s b ent t v k u.item u.key u.object u.last
TurnAt s b ent t v k None = length (each_turns (json_of s b ent v)) ≤ k

-- u is the turn in front of the turn k
pub record TurnBefore (s b : Bytes) (ent : List ℕ) (v : Value) (k : ℕ) (u : RustOption Told) : Type 0 where
  pub used : ℕ
  pub room : 2 * used ≤ length ent
  pub stands : Stands s b ent used v
  pub number : ℕ
  pub next : k ≡ suc number
  pub turn : TurnAt s b ent used v number u

-- Where the walk over the value at i is: the turn k comes behind that of the place `after`, or is the first

abbrev pub ItemBefore : Bytes → ℕ → ℕ → RustOption ℕ → Type 0
ItemBefore s i k (Some c) = (j : ℕ) × (k ≡ suc j) × (get_elem? (children s i) j ≡ some c)
ItemBefore s i k None = k ≡ 0

pub record Behind (s : Bytes) (i k : ℕ) (after : RustOption ℕ) : Type 0 where
  pub within : FoundIn s after
  pub item : (l : Jsons) → json_at s i ≡ jarr l → ItemBefore s i k after
  pub name : (m : Map) → json_at s i ≡ jobj m → first_of (above (found_name s after) m) ≡ member_nth m k

-- whatever bundle and entries there are
abbrev pub PlaceTurn : Bytes → Value → ℕ → RustOption Told → Type 0
PlaceTurn s v k r = (b : Bytes) (ent : List ℕ) (t : ℕ) → Stands s b ent t v → TurnAt s b ent t v k r
