-- What a value means: s is the plan, b the bundle, ent the entries of open partials.
use Rattle.std.specs.Prelude.{ℕ, zero, suc, ◌+◌, Bool, true, false, List, [], ◌∷◌, eqb, take}
use Rattle.std.proofs.Math.Option.{Option, none, some}
use Rattle.rules.specs.Bytes.{Bytes, pick, maybe, digits}
use Rattle.rules.specs.Json.{Json, jnull, jbool, jpos, jstr}
use Rattle.rules.specs.Template.{literal_json}
use Rattle.rules.specs.Bits.{bits}
use Rattle.rules.specs.Scan.{saying}
use Rattle.rules.specs.Value.{ScopedJson, derived, context, missing}
use Rattle.rules.specs.Context.{merge_json}
use Rattle.bits.specs.Packed.{bytes_at}
use Rattle.layout.specs.Text.{text_at}
use Rattle.parts.specs.Says.{literal_at}
use Rattle.saying.specs.Said.{remaining}
use Rattle.places.specs.Places.{json_at, path_at}
use Rattle.value.specs.declared.Value.{Value}
use Rattle.value.specs.declared.Value.TheVariants.{Missing, Null, False, True, Empty, Context, Place, Literal, Index, IndexText, Name, Text, SaidChar, PackedChar, Merged}
use Rattle.meaning.specs.Entries.{place, hash_value, hash_base}

-- of all but a merged object
abbrev pub plain_json : Bytes → Bytes → Value → Json
plain_json s b Missing = jnull
plain_json s b Null = jnull
plain_json s b False = jbool false
plain_json s b True = jbool true
plain_json s b Empty = jstr []
plain_json s b (Context i) = json_at s i
plain_json s b (Place i) = json_at s i
plain_json s b (Literal p) = literal_json (literal_at (bits b) p)
plain_json s b (Index n) = jpos n
plain_json s b (IndexText n) = jstr (digits n)
plain_json s b (Name o) = jstr (saying s o)
plain_json s b (Text p) = jstr (text_at (bits b) p)
plain_json s b (SaidChar o n) = jstr (take n (remaining s o 0))
plain_json s b (PackedChar p n) = jstr (bytes_at (bits b) p n)
plain_json s b (Merged h n) = jnull

-- the n hash pairs from e on, where f says what their values mean
abbrev pub pairs : Bytes → List ℕ → (Value → Json) → ℕ → ℕ → List (Bytes × Json)
pairs b ent f e zero = []
pairs b ent f e (suc n) = (text_at (bits b) (place ent e), f (hash_value ent e)) ∷ pairs b ent f (suc e) n

abbrev pub merged : Bytes → List ℕ → (Value → Json) → ℕ → ℕ → Json
merged b ent f h n = merge_json (f (hash_base ent h)) (pairs b ent f h n)

-- its first entry, and how many hash pairs
abbrev pub merged_of : Value → Option (ℕ × ℕ)
merged_of Missing = none
merged_of Null = none
merged_of False = none
merged_of True = none
merged_of Empty = none
merged_of (Context i) = none
merged_of (Place i) = none
merged_of (Literal p) = none
merged_of (Index n) = none
merged_of (IndexText n) = none
merged_of (Name o) = none
merged_of (Text p) = none
merged_of (SaidChar o n) = none
merged_of (PackedChar p n) = none
merged_of (Merged h n) = some (h, n)

-- its place, where its path is known
abbrev pub context_place : Value → Option ℕ
context_place Missing = none
context_place Null = none
context_place False = none
context_place True = none
context_place Empty = none
context_place (Context i) = some i
context_place (Place i) = none
context_place (Literal p) = none
context_place (Index n) = none
context_place (IndexText n) = none
context_place (Name o) = none
context_place (Text p) = none
context_place (SaidChar o n) = none
context_place (PackedChar p n) = none
context_place (Merged h n) = none

abbrev pub is_missing : Value → Bool
is_missing Missing = true
is_missing Null = false
is_missing False = false
is_missing True = false
is_missing Empty = false
is_missing (Context i) = false
is_missing (Place i) = false
is_missing (Literal p) = false
is_missing (Index n) = false
is_missing (IndexText n) = false
is_missing (Name o) = false
is_missing (Text p) = false
is_missing (SaidChar o n) = false
is_missing (PackedChar p n) = false
is_missing (Merged h n) = false

-- What a merged object has inside was there before it, so its own number bounds where to look: k is behind it.
unfoldable pub json_below : Bytes → Bytes → List ℕ → ℕ → Value → Json
json_below s b ent zero v = plain_json s b v
json_below s b ent (suc k) v =
    let further = json_below s b ent k v in
    maybe (merged_of v) (plain_json s b v) (λ m. pick (eqb m.0 k) (merged b ent (json_below s b ent k) m.0 m.1) further)

abbrev pub rank : Value → ℕ
rank v = maybe (merged_of v) 0 (λ m. suc m.0)

unfoldable pub json_of : Bytes → Bytes → List ℕ → Value → Json
json_of s b ent v = json_below s b ent (rank v) v

-- as the rules hold it
abbrev pub scoped_of : Bytes → Bytes → List ℕ → Value → ScopedJson
scoped_of s b ent v = pick (is_missing v) missing (maybe (context_place v) (derived (json_of s b ent v)) (λ i. context (json_of s b ent v) (path_at s i)))
