-- The kind of a value, and what code hands out, in terms of the rules' values.
use Rattle.std.specs.Prelude.{ℕ, zero, suc, ◌<◌, Bool, true, false, ◌&&◌, ◌||◌, not, eqb, ltb, ◌≡◌, refl, Option as RustOption, Some, None}
use Rattle.std.proofs.Math.Option.{Option, none, some}
use Rattle.rules.specs.Bytes.{Bytes, pick}
use Rattle.rules.specs.Json.{Json, jnull, jbool, jpos, jneg, jstr, jarr, jobj, Jsons, jnil, Map, mnil, no_items, no_members}
use Rattle.places.specs.declared.Kind.{Kind}
use Rattle.places.specs.declared.Kind.TheVariants.{Null, False, True, Unsigned, Negative, Text, List, Object}
use Rattle.places.specs.Places.{places, name_at}

abbrev pub found : RustOption ℕ → Option ℕ
found (Some p) = some p
found None = none

-- a member's place as a number: 0, the whole plan, is no member
abbrev pub numbered : ℕ → Option ℕ
numbered zero = none
numbered (suc n) = some (suc n)

-- what was found is a place of the plan
abbrev pub FoundIn : Bytes → RustOption ℕ → Type 0
FoundIn s (Some p) = p < places s
FoundIn s None = Unit {0}

-- the name of the member that was found
abbrev pub found_name : Bytes → RustOption ℕ → Option Bytes
found_name s (Some p) = some (name_at s p)
found_name s None = none

abbrev pub kind_of : Json → Kind
kind_of jnull = Null
kind_of (jbool true) = True
kind_of (jbool false) = False
kind_of (jpos n) = Unsigned
kind_of (jneg n) = Negative
kind_of (jstr s) = Text
kind_of (jarr l) = List
kind_of (jobj m) = Object

-- by the first byte
unfoldable pub kind_by : ℕ → Kind
kind_by c =
    pick (eqb c 91) List
    (pick (eqb c 123) Object
    (pick (eqb c 34) Text
    (pick (eqb c 116) True
    (pick (eqb c 102) False
    (pick (eqb c 110) Null
    (pick (eqb c 45) Negative Unsigned))))))

unfoldable pub is_other : ℕ → Bool
is_other c = (eqb c 91 || eqb c 123) || (eqb c 34 || (eqb c 116 || (eqb c 102 || eqb c 110)))

-- a byte of a string that stands for itself: all but a space and an exclamation mark
abbrev pub is_plain : ℕ → Bool
is_plain c = ltb 34 c && not (eqb c 92)

-- a number without its sign; 0 for no number
abbrev pub magnitude_of : Json → ℕ
magnitude_of jnull = 0
magnitude_of (jbool b) = 0
magnitude_of (jpos n) = n
magnitude_of (jneg n) = n
magnitude_of (jstr s) = 0
magnitude_of (jarr l) = 0
magnitude_of (jobj m) = 0

abbrev pub items_of : Json → Jsons
items_of jnull = jnil
items_of (jbool b) = jnil
items_of (jpos n) = jnil
items_of (jneg n) = jnil
items_of (jstr s) = jnil
items_of (jarr l) = l
items_of (jobj m) = jnil

abbrev pub members_of : Json → Map
members_of jnull = mnil
members_of (jbool b) = mnil
members_of (jpos n) = mnil
members_of (jneg n) = mnil
members_of (jstr s) = mnil
members_of (jarr l) = mnil
members_of (jobj m) = m

-- nothing stands inside
abbrev pub is_empty : Json → Bool
is_empty jnull = true
is_empty (jbool b) = true
is_empty (jpos n) = true
is_empty (jneg n) = true
is_empty (jstr s) = true
is_empty (jarr l) = no_items l
is_empty (jobj m) = no_members m

-- What a kind says of a value

pub list_kind : (j : Json) → List ≡ kind_of j → j ≡ jarr (items_of j)
list_kind jnull h = cc
list_kind (jbool true) h = cc
list_kind (jbool false) h = cc
list_kind (jpos n) h = cc
list_kind (jneg n) h = cc
list_kind (jstr s) h = cc
list_kind (jarr l) h = refl
list_kind (jobj m) h = cc

pub object_kind : (j : Json) → Object ≡ kind_of j → j ≡ jobj (members_of j)
object_kind jnull h = cc
object_kind (jbool true) h = cc
object_kind (jbool false) h = cc
object_kind (jpos n) h = cc
object_kind (jneg n) h = cc
object_kind (jstr s) h = cc
object_kind (jarr l) h = cc
object_kind (jobj m) h = refl

pub unsigned_kind : (j : Json) → Unsigned ≡ kind_of j → j ≡ jpos (magnitude_of j)
unsigned_kind jnull h = cc
unsigned_kind (jbool true) h = cc
unsigned_kind (jbool false) h = cc
unsigned_kind (jpos n) h = refl
unsigned_kind (jneg n) h = cc
unsigned_kind (jstr s) h = cc
unsigned_kind (jarr l) h = cc
unsigned_kind (jobj m) h = cc

pub negative_kind : (j : Json) → Negative ≡ kind_of j → j ≡ jneg (magnitude_of j)
negative_kind jnull h = cc
negative_kind (jbool true) h = cc
negative_kind (jbool false) h = cc
negative_kind (jpos n) h = cc
negative_kind (jneg n) h = refl
negative_kind (jstr s) h = cc
negative_kind (jarr l) h = cc
negative_kind (jobj m) h = cc
