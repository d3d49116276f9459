-- Answers as numbers.
use Rattle.std.specs.Prelude.{ℕ, zero, suc, ◌+◌, ◌*◌, ◌-◌, ◌/◌, ◌%◌, ◌≤◌, ◌<◌, true, false, ◌||◌, List, ◌≡◌, eqb, ltb, Option as RustOption, Some, None}
use Rattle.std.proofs.Math.Option.{none}
use Rattle.rules.specs.Bytes.{Bytes, pick}
use Rattle.rules.specs.Json.{get_member}
use Rattle.rules.specs.Context.{base_map}
use Rattle.places.specs.Accepted.{Accepted}
use Rattle.places.specs.Places.{places, member}
use Rattle.places.specs.Kinds.{numbered}
use Rattle.places.specs.Children.{is_object}
use Rattle.value.specs.declared.Value.{Value}
use Rattle.value.specs.Numbers.{decoded}
use Rattle.meaning.specs.Meaning.{plain_json, json_of, context_place}
use Rattle.lookup.specs.Answers.{PlainHeld, IsFound, Finds, PlainFinds, DataGot}
use Rattle.lookup.specs.Telling.{stands_object, tells}
use Rattle.lookup.specs.declared.Got.{Got}
use Rattle.lookup.specs.declared.Got.TheVariants.{Is, Nothing}

-- one more than the place of the member k, or than 0 for none; 0 where no object stands at i
pub record IsMember (s : Bytes) (i : ℕ) (k : Bytes) (r : ℕ) : Type 0 where
  pub object : is_object s i ≡ true
  pub place : numbered (r - 1) ≡ member s i k

pub record MemberNumber (s : Bytes) (i : ℕ) (k : Bytes) (r : ℕ) : Type 0 where
  pub small : r ≤ 4096
  pub known : ltb 0 r ≡ is_object s i
  pub told : (r ≡ 0 → ⊥) → IsMember s i k r

-- what it is as a value of a kind
abbrev pub placed_number : ℕ → ℕ → ℕ
placed_number r tag = pick (ltb r 2) r (2 + tag + 16 * (r - 1))

-- 1 for nothing, and two more than a value's number
abbrev pub numbered_got : ℕ → Got
numbered_got zero = Nothing
numbered_got (suc zero) = Nothing
numbered_got (suc (suc n)) = Is (decoded n)

-- 0 where the name is not told by numbers, and nowhere else
pub record NumberGot (s b : Bytes) (ent : List ℕ) (v : Value) (k : Bytes) (r : ℕ) : Type 0 where
  pub small : r < 4294967298
  pub known : ltb 0 r ≡ tells s b ent k v
  pub told : (r ≡ 0 → ⊥) → DataGot s b ent v k (numbered_got r)

-- One of a merged object's pairs, from h on: 0 for none, else one more than its number

abbrev pub pair_at : ℕ → ℕ → RustOption ℕ
pair_at h zero = None
pair_at h (suc k) = Some (h + k)

-- What stands under k in a value taken as an object

abbrev pub numbered_found : ℕ → RustOption Value
numbered_found zero = None
numbered_found (suc zero) = None
numbered_found (suc (suc n)) = Some (decoded n)

-- Where a name is to be looked for

-- what stands under k in v stands under k in u, which is not merged
pub record Within (s b : Bytes) (ent : List ℕ) (v : Value) (k : Bytes) (u : Value) : Type 0 where
  pub held : PlainHeld s b u
  pub no_path : context_place u ≡ none
  pub known : tells s b ent k v ≡ stands_object s u
  pub finds : (x : RustOption Value) → PlainFinds s b (get_member (base_map (plain_json s b u)) k) x → Finds s b ent v (get_member (base_map (json_of s b ent v)) k) x

-- the number of that value; with 2 ^ 32 added the number of what one of the pairs has
pub record Inner (s b : Bytes) (ent : List ℕ) (v : Value) (k : Bytes) (r : ℕ) : Type 0 where
  pub small : r < 8589934592
  pub pair : 4294967296 ≤ r → IsFound s b ent v (get_member (base_map (json_of s b ent v)) k) (decoded (r - 4294967296))
  pub known : 4294967296 ≤ r → tells s b ent k v ≡ true
  pub base : r < 4294967296 → Within s b ent v k (decoded r)

-- the same as what is left to do: the place that the number is to be followed from, or the answer
pub record Asked (s b : Bytes) (ent : List ℕ) (v : Value) (k : Bytes) (r : ℕ) : Type 0 where
  pub small : r < 8589934592
  pub pair : 4294967296 ≤ r → NumberGot s b ent v k (r - 4294967294)
  pub within : r < 4294967296 → (eqb (r % 16) 5 || eqb (r % 16) 6) ≡ true → r / 16 < places s
  pub place : r < 4294967296 → (eqb (r % 16) 5 || eqb (r % 16) 6) ≡ true → (tab : List ℕ) → Accepted s tab → (x : ℕ) → MemberNumber s (r / 16) k x → NumberGot s b ent v k (placed_number x (r % 16))
  pub other : r < 4294967296 → (eqb (r % 16) 5 || eqb (r % 16) 6) ≡ false → NumberGot s b ent v k 0
