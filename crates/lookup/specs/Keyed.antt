-- What the helper `lookup` finds, as a number: 0 where it is not told so, 1 for nothing, else two more than the number of a value.
use Rattle.std.specs.Prelude.{ℕ, ◌+◌, ◌<◌, Bool, false, ◌||◌, List, ◌≡◌, ltb}
use Rattle.rules.specs.Bytes.{Bytes, pick, maybe}
use Rattle.rules.specs.Bits.{bits}
use Rattle.rules.specs.Layout.{field}
use Rattle.rules.specs.Json.{jobj, get_member}
use Rattle.rules.specs.Template.{literal_json}
use Rattle.rules.specs.Context.{base_map}
use Rattle.rules.specs.HelperLookup.{looked_up}
use Rattle.layout.specs.Text.{text_at}
use Rattle.parts.specs.Says.{literal_at}
use Rattle.places.specs.Children.{is_object}
use Rattle.places.specs.Kinds.{members_of}
use Rattle.places.specs.Places.{json_at}
use Rattle.value.specs.declared.Value.{Value}
use Rattle.meaning.specs.Entries.{hash_base}
use Rattle.meaning.specs.Meaning.{merged_of, json_of}
use Rattle.lookup.specs.Answers.{Finds, PlainFinds}
use Rattle.lookup.specs.Numbers.{numbered_found}
use Rattle.lookup.specs.Telling.{stands_object, has_pair}

-- whether what v has under k is told so: v is an object of the plan, or merged and one of its pairs has k, or its base is an object of the plan
abbrev pub key_told : Bytes → Bytes → List ℕ → Bytes → Value → Bool
key_told s b ent k v = maybe (merged_of v) (stands_object s v) (λ m. has_pair s b ent m.0 m.1 k || stands_object s (hash_base ent m.0))

-- what the object at i has under k
pub record KeyNumber (s b : Bytes) (i : ℕ) (k : Bytes) (r : ℕ) : Type 0 where
  pub small : r < 4294967298
  pub known : ltb 0 r ≡ is_object s i
  pub object : (r ≡ 0 → ⊥) → json_at s i ≡ jobj (members_of (json_at s i))
  pub told : (r ≡ 0 → ⊥) → PlainFinds s b (get_member (base_map (json_at s i)) k) (numbered_found r)

-- what v, taken as an object, has under k
pub record MergedNumber (s b : Bytes) (ent : List ℕ) (v : Value) (k : Bytes) (r : ℕ) : Type 0 where
  pub small : r < 4294967298
  pub known : ltb 0 r ≡ key_told s b ent k v
  pub told : (r ≡ 0 → ⊥) → Finds s b ent v (get_member (base_map (json_of s b ent v)) k) (numbered_found r)

-- what v has under the literal at l. Only a string is a key; from 327680 on, which is 5 * 65536, the literal's first 19 bits are those of a string: its kind and count.
pub record LookedNumber (s b : Bytes) (ent : List ℕ) (v : Value) (l r : ℕ) : Type 0 where
  pub small : r < 4294967298
  pub known : ltb 0 r ≡ pick (ltb (field (bits b) 19 l) 327680) false (key_told s b ent (text_at (bits b) (l + 3)) v)
  pub told : (r ≡ 0 → ⊥) → Finds s b ent v (looked_up (json_of s b ent v) (literal_json (literal_at (bits b) l))) (numbered_found r)
