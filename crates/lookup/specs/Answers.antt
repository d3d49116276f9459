-- What is found in a value: s is the plan, b the bundle, ent the entries of open partials.
use Rattle.std.specs.Prelude.{ℕ, ◌*◌, ◌≤◌, List, ◌≡◌, length, Option as RustOption, Some, None}
use Rattle.std.proofs.Math.Option.{Option, none, some}
use Rattle.rules.specs.Bytes.{Bytes}
use Rattle.rules.specs.Json.{Json, jstr}
use Rattle.rules.specs.Error.{got, bad, invalid-json-index}
use Rattle.rules.specs.Context.{get_data}
use Rattle.text.specs.declared.Text.{Text as Spelling}
use Rattle.text.specs.Rest.{rest}
use Rattle.chars.specs.Spelled.{Spelled}
use Rattle.places.specs.Paths.{Segment}
use Rattle.value.specs.declared.Value.{Value}
use Rattle.value.specs.declared.Value.TheVariants.{Missing, Null, False, True, Empty, Context, Place, Literal, Index, IndexText, Name, Text, SaidChar, PackedChar, Merged}
use Rattle.meaning.specs.Meaning.{plain_json, merged_of, context_place, json_of}
use Rattle.meaning.specs.Standing.{PlainStands, Stands, plain}
use Rattle.lookup.specs.declared.Got.{Got}
use Rattle.lookup.specs.declared.Got.TheVariants.{Is as GotIs, Nothing as GotNothing, BadIndex}

-- v stands, and the table has the entries that are in use
pub record Held (s b : Bytes) (ent : List ℕ) (v : Value) : Type 0 where
  pub used : ℕ
  pub room : 2 * used ≤ length ent
  pub stands : Stands s b ent used v

-- of a value that is not merged
pub record PlainHeld (s b : Bytes) (v : Value) : Type 0 where
  pub plain : merged_of v ≡ none
  pub stands : PlainStands s b v

-- the string that j is, if it is one
pub record IsText (s b : Bytes) (r : Spelling) (l : Bytes) : Type 0 where
  pub is : rest s b r ≡ l
  pub spelled : Spelled s b r

abbrev pub Spells : Bytes → Bytes → Json → Spelling → Type 0
Spells s b j r = (l : Bytes) → j ≡ jstr l → IsText s b r l

-- the same without its path
abbrev pub pathless : Value → Value
pathless Missing = Missing
pathless Null = Null
pathless False = False
pathless True = True
pathless Empty = Empty
pathless (Context i) = Place i
pathless (Place i) = Place i
pathless (Literal p) = Literal p
pathless (Index n) = Index n
pathless (IndexText n) = IndexText n
pathless (Name o) = Name o
pathless (Text p) = Text p
pathless (SaidChar o n) = SaidChar o n
pathless (PackedChar p n) = PackedChar p n
pathless (Merged h n) = Merged h n

-- w is what there is, and stands as long as v does
pub record IsFound (s b : Bytes) (ent : List ℕ) (v : Value) (o : Option Json) (w : Value) : Type 0 where
  pub value : o ≡ some (json_of s b ent w)
  pub stands : (t : ℕ) → Stands s b ent t v → Stands s b ent t w
  pub no_path : context_place w ≡ none

abbrev pub Finds : Bytes → Bytes → List ℕ → Value → Option Json → RustOption Value → Type 0
Finds s b ent v o (Some w) = IsFound s b ent v o w
Finds s b ent v o None = o ≡ none

-- the same of values that are not merged
pub record PlainFound (s b : Bytes) (o : Option Json) (w : Value) : Type 0 where
  pub value : o ≡ some (plain_json s b w)
  pub plain : merged_of w ≡ none
  pub stands : PlainStands s b w
  pub no_path : context_place w ≡ none

abbrev pub PlainFinds : Bytes → Bytes → Option Json → RustOption Value → Type 0
PlainFinds s b o (Some w) = PlainFound s b o w
PlainFinds s b o None = o ≡ none

-- the segment q leads from v to w: by its path from a place that has one, else without
abbrev pub Leads : Bytes → Option ℕ → Bytes → Value → Type 0
Leads s none q w = context_place w ≡ none
Leads s (some i) q w = (c : ℕ) × (w ≡ Context c) × Segment s i q c

pub record Led (s b : Bytes) (ent : List ℕ) (v : Value) (q : Bytes) (w : Value) : Type 0 where
  pub value : get_data (some (json_of s b ent v)) q ≡ got (some (json_of s b ent w))
  pub stands : (t : ℕ) → Stands s b ent t v → Stands s b ent t w
  pub leads : Leads s (context_place v) q w

abbrev pub DataGot : Bytes → Bytes → List ℕ → Value → Bytes → Got → Type 0
DataGot s b ent v q (GotIs w) = Led s b ent v q w
DataGot s b ent v q GotNothing = get_data (some (json_of s b ent v)) q ≡ got none
DataGot s b ent v q BadIndex = get_data (some (json_of s b ent v)) q ≡ bad invalid-json-index
