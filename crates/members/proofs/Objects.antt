-- The members of an object of the plan, by its place.
use Prim.Native.Nat.{ℕ, zero, suc, ◌+◌, ◌/◌, ◌%◌, ◌≤◌, ◌<◌}
use mathlib.Core.Bool.{Bool, true, false, ◌||◌}
use mathlib.Core.List.{List}
use mathlib.Core.Path.{◌≡◌, refl, sym, ap, ◌∙◌}
use native.Mathlib.Omega.{arith}
use lib.Dec.{eqb}
use borrow.Author.Tests.{eqb-true}
use Rattle.rules.specs.Bytes.{Bytes}
use Rattle.rules.specs.Json.{Json, jobj, mnil, get_member, count}
use Rattle.rules.specs.Context.{base_map}
use Rattle.merging.specs.Counting.{one_if_new, lacking}
use Rattle.places.specs.Accepted.{Accepted}
use Rattle.places.specs.Places.{places, inside, tree_at, json_at, children, member, value_at}
use Rattle.places.specs.Items.{is_map}
use Rattle.places.specs.Kinds.{numbered, members_of}
use Rattle.value.specs.declared.Value.TheVariants.{Place, Merged}
use Rattle.value.specs.Numbers.{place_of, decoded}
use Rattle.meaning.specs.Entries.{hash_base}
use Rattle.meaning.specs.Meaning.{pairs, json_of}
use Rattle.lookup.specs.Answers.{pathless}
use Rattle.lookup.proofs.Finding.{few_children, object_found}
use Rattle.lookup.proofs.Leading.{placed_json, placed_within}
use Rattle.members.specs.Parts.{Parts}
use Rattle.members.proofs.Counting.{members_few, parts_held, parts_counted}

-- whether there is one under k
module _ (s : Bytes) (tab : List ℕ) (a : Accepted s tab) (i : ℕ) (lt : i < places s) (e : json_at s i ≡ jobj (members_of (json_at s i))) (k : Bytes) where
  pub new_member : (c : ℕ) → numbered c ≡ member s i k → c ≡ 0 → (1 ≡ one_if_new (get_member (base_map (json_at s i)) k)) × (1 ≤ 1)
  new_member zero f z = (ap (λ o. one_if_new (value_at s o)) f ∙ ap one_if_new (sym (object_found s tab a i lt (members_of (json_at s i)) e k)), omega arith)
  new_member (suc c) f z = absurd (omega arith)

  pub old_member : (c : ℕ) → numbered c ≡ member s i k → (c ≡ 0 → ⊥) → (0 ≡ one_if_new (get_member (base_map (json_at s i)) k)) × (0 ≤ 1)
  old_member zero f ne = absurd (ne refl)
  old_member (suc c) f ne = (ap (λ o. one_if_new (value_at s o)) f ∙ ap one_if_new (sym (object_found s tab a i lt (members_of (json_at s i)) e k)), omega arith)

-- they are few
pub object_few : (s : Bytes) (tab : List ℕ) (a : Accepted s tab) (i : ℕ) → i < places s → json_at s i ≡ jobj (members_of (json_at s i)) → count (members_of (json_at s i)) ≤ 65536
unfolding children
object_few s tab a i lt e =
    let w = few_children s tab a i lt in
    let m = members_few s (inside (tree_at s i)) (i + 1) mnil in
    let g = ap count (is_map s i (members_of (json_at s i)) e).means in
    omega arith

-- places are told by the last four bits
told_place : (u : ℕ) → (eqb (u % 16) 5 || eqb (u % 16) 6) ≡ true → pathless (decoded u) ≡ Place (u / 16)
unfolding decoded place_of
told_place u h = go (eqb (u % 16) 5) refl h
  where
    go : (x : Bool) → eqb (u % 16) 5 ≡ x → (x || eqb (u % 16) 6) ≡ true → pathless (decoded u) ≡ Place (u / 16)
    go true e q = rw (eqb-true (u % 16) 5 e)
    go false e q = rw (eqb-true (u % 16) 6 q)

-- as the base of n hash pairs from h on: u is its number
module _ (s b : Bytes) (tab : List ℕ) (a : Accepted s tab) (ent : List ℕ) (h n : ℕ) (p : Parts s b ent h n) (u : ℕ) (f : decoded u ≡ hash_base ent h) (t : (eqb (u % 16) 5 || eqb (u % 16) 6) ≡ true) where
  pub base_place : u / 16 < places s
  base_place = placed_within s b ent (decoded u) (u / 16) (told_place u t) (parts_held s b tab a ent h n p (decoded u) f)

  base_json : json_of s b ent (decoded u) ≡ json_at s (u / 16)
  base_json = placed_json s b ent (decoded u) (u / 16) (told_place u t)

  pub object_parts : (r q : ℕ) → json_at s (u / 16) ≡ jobj (members_of (json_at s (u / 16))) → r ≡ lacking (pairs b ent (json_of s b ent) h n) (base_map (json_at s (u / 16))) → q ≡ count (members_of (json_at s (u / 16)))
      → r + q ≡ count (base_map (json_of s b ent (Merged h n)))
  object_parts r q e g k =
      parts_counted s b tab a ent h n p (decoded u) f r q (g ∙ ap (λ (j : Json). lacking (pairs b ent (json_of s b ent) h n) (base_map j)) (sym base_json))
      (k ∙ ap (λ (j : Json). count (base_map j)) (sym e ∙ sym base_json))
