-- Truth of both kinds in one: z says that zero is true, o that every object is.
use Rattle.std.specs.Prelude.{ℕ, Bool, true, false, ◌||◌, not, [], ◌∷◌, ◌≡◌, refl, eqb}
use Rattle.rules.specs.Bytes.{Bytes, maybe}
use Rattle.rules.specs.Json.{Json, jnull, jbool, jpos, jneg, jstr, jarr, jobj, Jsons, jnil, jcons, Map, mnil, mcons, no_items, no_members, as_bool}
use Rattle.rules.specs.Value.{is_truthy, guide_truthy}

abbrev pub has_bytes : Bytes → Bool
has_bytes [] = false
has_bytes (c ∷ l) = true

abbrev pub truthy : Bool → Bool → Json → Bool
truthy z o jnull = false
truthy z o (jbool b) = b
truthy z o (jpos n) = z || not (eqb n 0)
truthy z o (jneg n) = true
truthy z o (jstr w) = has_bytes w
truthy z o (jarr l) = not (no_items l)
truthy z o (jobj m) = o || not (no_members m)

pub truthy_is : (z : Bool) (j : Json) → truthy z false j ≡ is_truthy z j
truthy_is z jnull = refl
truthy_is z (jbool b) = refl
truthy_is z (jpos n) = refl
truthy_is z (jneg n) = refl
truthy_is z (jstr []) = refl
truthy_is z (jstr (c ∷ w)) = refl
truthy_is z (jarr jnil) = refl
truthy_is z (jarr (jcons j l)) = refl
truthy_is z (jobj mnil) = refl
truthy_is z (jobj (mcons k v l)) = refl

pub truthy_guide : (j : Json) → truthy false true j ≡ guide_truthy j
truthy_guide jnull = refl
truthy_guide (jbool b) = refl
truthy_guide (jpos n) = refl
truthy_guide (jneg n) = refl
truthy_guide (jstr []) = refl
truthy_guide (jstr (c ∷ w)) = refl
truthy_guide (jarr jnil) = refl
truthy_guide (jarr (jcons j l)) = refl
truthy_guide (jobj m) = refl

-- `as_bool`, and false where it is none
abbrev pub bool_of : Json → Bool
bool_of j = maybe (as_bool j) false (λ b. b)

-- an object that has a member
pub truthy_some : (z o : Bool) (m : Map) → no_members m ≡ false → true ≡ truthy z o (jobj m)
truthy_some z true m h = refl
truthy_some z false m h = rw h
