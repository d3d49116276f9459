-- Members one by one, by ascending name: s is the plan, b the bundle, ent the entries of open partials.
use Rattle.std.specs.Prelude.{ℕ, ◌+◌, ◌<◌, false, List, [], ◌≡◌, Option as RustOption, Some, None}
use Rattle.std.proofs.Math.Option.{Option, none, some}
use Rattle.rules.specs.Bytes.{Bytes, pick, maybe, before}
use Rattle.rules.specs.Json.{Json, jstr, as_str}
use Rattle.rules.specs.Context.{base_map}
use Rattle.merging.specs.Order.{is_above, above, first_of}
use Rattle.value.specs.declared.Value.{Value}
use Rattle.value.specs.declared.Value.TheVariants.{Null}
use Rattle.meaning.specs.Entries.{hash_value}
use Rattle.meaning.specs.Meaning.{plain_json, context_place, is_missing}
use Rattle.meaning.specs.Standing.{Stands}
use Rattle.lookup.specs.Answers.{PlainHeld, pathless}

-- as the rules hold it by value: what is missing is null, and there is no path
abbrev pub by_value : Value → Value
by_value v = pick (is_missing v) Null (pathless v)

-- the name that a key says
abbrev pub key_name : Bytes → Bytes → Value → Bytes
key_name s b k = maybe (as_str (plain_json s b k)) [] (λ n. n)

-- a key is a string
pub record KeyHeld (s b : Bytes) (k : Value) : Type 0 where
  pub held : PlainHeld s b k
  pub says : plain_json s b k ≡ jstr (key_name s b k)

-- the name behind which the next one stands, if there is one
abbrev pub after_name : Bytes → Bytes → RustOption (Value × Value) → Option Bytes
after_name s b (Some (k, v)) = some (key_name s b k)
after_name s b None = none

abbrev pub Keyed : Bytes → Bytes → RustOption (Value × Value) → Type 0
Keyed s b (Some (k, v)) = KeyHeld s b k
Keyed s b None = Unit {0}

-- name and value, where f says what values mean
abbrev pub shown : Bytes → Bytes → (Value → Json) → RustOption (Value × Value) → Option (Bytes × Json)
shown s b f (Some (k, v)) = some (key_name s b k, f v)
shown s b f None = none

-- the item of a member, by value; it stands as long as v does
pub record ItemHeld (s b : Bytes) (ent : List ℕ) (v item : Value) : Type 0 where
  pub stands : (t : ℕ) → Stands s b ent t v → Stands s b ent t item
  pub no_path : context_place item ≡ none
  pub present : is_missing item ≡ false

-- of a value that is not merged
pub record PlainItem (s b : Bytes) (item : Value) : Type 0 where
  pub held : PlainHeld s b item
  pub no_path : context_place item ≡ none
  pub present : is_missing item ≡ false

abbrev pub MemberHas : Bytes → Bytes → (Value → Type 0) → RustOption (Value × Value) → Type 0
MemberHas s b P (Some (k, v)) = KeyHeld s b k × P v
MemberHas s b P None = Unit {0}

abbrev pub MemberHeld : Bytes → Bytes → List ℕ → Value → RustOption (Value × Value) → Type 0
MemberHeld s b ent v r = MemberHas s b (ItemHeld s b ent v) r

-- Which of two is nearer

-- of an outer and an inner one that whose name is before the other's; the outer one of the same name
abbrev pub combined : Bytes → Bytes → RustOption (Value × Value) → RustOption (Value × Value) → RustOption (Value × Value)
combined s b None m = m
combined s b (Some (k, v)) None = Some (k, v)
combined s b (Some (k, v)) (Some (l, w)) = pick (before (key_name s b l) (key_name s b k)) (Some (l, w)) (Some (k, v))

-- a member more
abbrev pub nearer_of : Bytes → Bytes → Option Bytes → Value → Value → RustOption (Value × Value) → RustOption (Value × Value)
nearer_of s b after k v best = pick (is_above after (key_name s b k)) (combined s b (Some (k, v)) best) best

-- What the scans answer

-- of a value that is not merged, whose meaning is j
pub record PlainNext (s b : Bytes) (j : Json) (after : Option Bytes) (r : RustOption (Value × Value)) : Type 0 where
  pub is : shown s b (plain_json s b) r ≡ first_of (above after (base_map j))
  pub holds : MemberHas s b (PlainItem s b) r

-- the value of one of the n hash pairs from h on
pub record PairItem (ent : List ℕ) (h n : ℕ) (item : Value) : Type 0 where
  pub number : ℕ
  pub within : number < n
  pub is : item ≡ by_value (hash_value ent (h + number))
