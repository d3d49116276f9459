-- Members as numbers.
use Rattle.std.specs.Prelude.{Some}
use Prim.Native.Nat.{ℕ, zero, suc, ◌+◌, ◌*◌, ◌-◌, ◌/◌, ◌%◌, ◌≤◌, ◌<◌}
use mathlib.Core.Bool.{Bool, true, false, ◌||◌}
use mathlib.Core.List.{List}
use mathlib.Core.Option.{Option, none}
use mathlib.Core.Path.{◌≡◌, refl, sym, ap, ◌∙◌, subst}
use native.Mathlib.Omega.{arith}
use lib.Dec.{eqb, ltb}
use borrow.Author.Tests.{eqb-true, eqb-false, ne_eqb, le-ltb, lt-ltb, ltb-false}
use Rattle.rules.specs.Bytes.{Bytes, pick, maybe, same}
use Rattle.rules.specs.Json.{Json, get_member}
use Rattle.rules.specs.Bits.{Bits}
use Rattle.rules.specs.Layout.{field}
use Rattle.rules.specs.Context.{base_map}
use Rattle.bits.specs.Compare.{same_lengths}
use Rattle.bits.specs.Packed.{bytes_length}
use Rattle.layout.specs.Text.{text_at}
use Rattle.places.specs.Accepted.{Accepted}
use Rattle.places.specs.Places.{places, json_at, member, value_at}
use Rattle.places.specs.Kinds.{numbered, kind_of, members_of}
use Rattle.places.specs.Children.{is_object, none_some}
use Rattle.places.specs.Items.{object_at}
use Rattle.places.proofs.MemberLaws.{member_latest}
use Rattle.places.specs.Nodes.{few_places}
use Rattle.places.specs.declared.Kind.TheVariants as kind
use Rattle.value.specs.declared.Value.{Value}
use Rattle.value.specs.declared.Value.TheVariants.{Missing, Null, False, True, Empty, Context, Place, Literal, Index, IndexText, Name, Text, SaidChar, PackedChar, Merged}
use Rattle.value.specs.Numbers.{word_of, place_of, pair_of, decoded, context_number, place_number, decoded_encoded}
use Rattle.merging.specs.Lookup.{find_last}
use Rattle.meaning.specs.Entries.{hash_value}
use Rattle.meaning.specs.Meaning.{plain_json, pairs, merged_of, context_place, json_of}
use Rattle.meaning.specs.Standing.{PlainStands}
use Rattle.meaning.specs.declared.Form.TheVariants as form
use Rattle.lookup.specs.Answers.{Held, PlainHeld, pathless, IsFound, Finds, PlainFinds, DataGot}
use Rattle.lookup.specs.Keys.{KeyAt, KeyFound}
use Rattle.lookup.specs.Telling.{place_in, stands_object, tells}
use Rattle.lookup.specs.Places.{placed_at, reached_at, Reaches, with_path, without_path, from_member}
use Rattle.lookup.specs.Numbers.{IsMember, MemberNumber, placed_number, numbered_got, NumberGot, pair_at, numbered_found, Within, Inner, Asked}
use Rattle.lookup.specs.declared.Got.{Got}
use Rattle.lookup.specs.declared.Got.TheVariants.{Is}
use Rattle.lookup.proofs.Told.{pathless_none, pathless_plain, pathless_held}
use Rattle.lookup.proofs.Telling.{tells_plain}
use Rattle.lookup.proofs.Finding.{object_found, member_placed, Inward, inward_plain, inward_end, inward_told, inward_known, inward_found}
use Rattle.lookup.proofs.Leading.{means, object_reaches, derived_place, derived_member, placed_json, placed_within, placed_context}

module _ (s : Bytes) (tab : List ℕ) (a : Accepted s tab) (i : ℕ) (lt : i < places s) (k : Bytes) where
  pub member_small : (c : ℕ) → numbered c ≡ member s i k → c < 4096
  member_small zero e = omega arith
  member_small (suc c) e = omega (arith, (member_latest s i k a.answers lt (suc c) (sym e)).child.within, few_places s a.answers)

  pub is_member : (c r : ℕ) → is_object s i ≡ true → numbered c ≡ member s i k → r ≡ c + 1 → MemberNumber s i k r
  is_member c r o e f = record {
    small = omega (arith, member_small c e);
    known = lt-ltb 0 r (omega arith) ∙ sym o;
    told = λ ne. record { object = o; place = let g : r - 1 ≡ c = omega arith in ap numbered g ∙ e };
  }

  pub reaches_number : (r : ℕ) → IsMember s i k r → Reaches s i k (reached_at (numbered (r - 1)))
  reaches_number r m = object_reaches s tab a i lt k kind.Object (sym (ap kind_of (object_at s i (eqb-true _ 123 m.object)))) refl (numbered (r - 1)) m.place

pub no_member : (s : Bytes) (i : ℕ) (k : Bytes) → is_object s i ≡ false → MemberNumber s i k 0
no_member s i k o = record { small = omega arith; known = sym o; told = λ ne. absurd (ne refl) }

-- Values by their last four bits

module _ (v : ℕ) (h : (eqb (v % 16) 5 || eqb (v % 16) 6) ≡ true) where
  either_place : (C : Type 0) → (v % 16 ≡ 5 → C) → (v % 16 ≡ 6 → C) → C
  either_place C f g = go (eqb (v % 16) 5) refl h
    where
      go : (x : Bool) → eqb (v % 16) 5 ≡ x → (x || eqb (v % 16) 6) ≡ true → C
      go true e q = f (eqb-true (v % 16) 5 e)
      go false e q = g (eqb-true (v % 16) 6 q)

  pub pathless_number : pathless (decoded v) ≡ Place (v / 16)
  pathless_number = either_place (pathless (decoded v) ≡ Place (v / 16)) (λ e. ap pathless (context_number v e)) (λ e. ap pathless (place_number v e))

  pub number_object : (s : Bytes) → stands_object s (decoded v) ≡ is_object s (v / 16)
  number_object s = either_place (stands_object s (decoded v) ≡ is_object s (v / 16)) (λ e. ap (stands_object s) (context_number v e)) (λ e. ap (stands_object s) (place_number v e))

  pub number_plain : merged_of (decoded v) ≡ none
  number_plain = either_place (merged_of (decoded v) ≡ none) (λ e. ap merged_of (context_number v e)) (λ e. ap merged_of (place_number v e))

-- A member's place as a value

placed_more : (c tag : ℕ) → placed_number (suc (suc c)) tag ≡ suc (suc (tag + 16 * suc c))
placed_more c tag =
    let f : ltb (suc (suc c)) 2 ≡ false = le-ltb (suc (suc c)) 2 (omega arith) in
    rw f (omega arith)

pub placed_small : (r tag : ℕ) → r ≤ 4096 → tag < 16 → placed_number r tag < 4294967298
placed_small zero tag le lt = omega arith
placed_small (suc zero) tag le lt = omega arith
placed_small (suc (suc c)) tag le lt = omega (arith, placed_more c tag)

got_context : (r : ℕ) → (r ≡ 0 → ⊥) → r ≤ 4096 → with_path (reached_at (numbered (r - 1))) ≡ numbered_got (placed_number r 5)
got_context zero h le = absurd (h refl)
got_context (suc zero) h le = refl
got_context (suc (suc c)) h le =
    let g : suc (suc c) - 1 ≡ suc c = omega arith in
    ap (λ (n : ℕ). with_path (reached_at (numbered n))) g ∙ sym (ap numbered_got (placed_more c 5) ∙ ap Is (decoded_encoded (Context (suc c)) (omega arith)))

got_place : (r : ℕ) → (r ≡ 0 → ⊥) → r ≤ 4096 → without_path (reached_at (numbered (r - 1))) ≡ numbered_got (placed_number r 6)
got_place zero h le = absurd (h refl)
got_place (suc zero) h le = refl
got_place (suc (suc c)) h le =
    let g : suc (suc c) - 1 ≡ suc c = omega arith in
    ap (λ (n : ℕ). without_path (reached_at (numbered n))) g ∙ sym (ap numbered_got (placed_more c 6) ∙ ap Is (decoded_encoded (Place (suc c)) (omega arith)))

module _ (s b : Bytes) (ent : List ℕ) (v : ℕ) (k : Bytes) (r : ℕ) (le : r ≤ 4096) (ne : r ≡ 0 → ⊥) (m : Reaches s (v / 16) k (reached_at (numbered (r - 1)))) where
  data_context : v % 16 ≡ 5 → DataGot s b ent (decoded v) k (numbered_got (placed_number r (v % 16)))
  data_context e =
      let f = context_number v e in
      subst (DataGot s b ent (decoded v) k) (got_context r ne le ∙ ap (λ (t : ℕ). numbered_got (placed_number r t)) (sym e))
      (placed_context s b ent (decoded v) (v / 16) (ap pathless f) (v / 16) f k (reached_at (numbered (r - 1))) m)

  data_place : v % 16 ≡ 6 → DataGot s b ent (decoded v) k (numbered_got (placed_number r (v % 16)))
  data_place e =
      let f = place_number v e in
      subst (DataGot s b ent (decoded v) k) (got_place r ne le ∙ ap (λ (t : ℕ). numbered_got (placed_number r t)) (sym e))
      (derived_place s b ent (decoded v) k (ap Rattle.meaning.specs.Meaning.context_place f) (v / 16) (placed_json s b ent (decoded v) (v / 16) (ap pathless f)) (reached_at (numbered (r - 1))) m)

  pub data_number : (eqb (v % 16) 5 || eqb (v % 16) 6) ≡ true → DataGot s b ent (decoded v) k (numbered_got (placed_number r (v % 16)))
  data_number h = either_place v h (DataGot s b ent (decoded v) k (numbered_got (placed_number r (v % 16)))) data_context data_place

-- it is 0 where the place is
pub placed_known : (r tag : ℕ) → ltb 0 (placed_number r tag) ≡ ltb 0 r
placed_known zero tag = refl
placed_known (suc zero) tag = refl
placed_known (suc (suc c)) tag = lt-ltb 0 (placed_number (suc (suc c)) tag) (omega (arith, placed_more c tag)) ∙ sym (lt-ltb 0 (suc (suc c)) (omega arith))

-- where the number is 0, nothing is told
pub placed_told : (r tag : ℕ) → (placed_number r tag ≡ 0 → ⊥) → (r ≡ 0 → ⊥)
placed_told r tag h e = h (ap (λ (n : ℕ). placed_number n tag) e)

-- Keys

pub other_count : (b : Bits) (p q n m : ℕ) → n ≡ field b 16 p → m ≡ field b 16 q → (n ≡ m → ⊥) → false ≡ same (text_at b p) (text_at b q)
other_count b p q n m e f h =
    same_lengths (text_at b p) (text_at b q) (λ k. h (e ∙ sym (bytes_length b (p + 16) (field b 16 p)) ∙ k ∙ bytes_length b (q + 16) (field b 16 q) ∙ sym f))

pub pair_some : (h k : ℕ) → 0 < k → pair_at h k ≡ Some (h + (k - 1))
pair_some h k lt = let e : k ≡ suc (k - 1) = omega arith in ap (pair_at h) e

pub pair_key : (s b : Bytes) (ent : List ℕ) (h n : ℕ) (o : Option Json) (r : ℕ) → (r ≡ 0 → ⊥) → KeyFound s b ent h n o (pair_at h r) → KeyAt s b ent h n o (h + (r - 1))
pair_key s b ent h n o r ne f = subst (KeyFound s b ent h n o) (pair_some h r (omega arith)) f

-- A value without its path, by the last four bits of its number

either_pathless : (r : Bool) (v w : Value) → v ≡ pathless v → w ≡ pathless w → pick r v w ≡ pathless (pick r v w)
either_pathless true v w e f = e
either_pathless false v w e f = f

word_pathless : (t : ℕ) → word_of t ≡ pathless (word_of t)
unfolding word_of
word_pathless t =
    either_pathless (eqb t 0) Missing _ refl
    (either_pathless (eqb t 1) Null _ refl (either_pathless (eqb t 2) False _ refl (either_pathless (eqb t 3) True Empty refl refl)))

place_pathless : (t x : ℕ) → (t ≡ 5 → ⊥) → place_of t x ≡ pathless (place_of t x)
unfolding place_of
place_pathless t x h = go (eqb t 5) refl
  where
    go : (r : Bool) → eqb t 5 ≡ r → place_of t x ≡ pathless (place_of t x)
    go true e = absurd (h (eqb-true t 5 e))
    go false e =
        rw e
        (either_pathless (eqb t 6) (Place x) _ refl
        (either_pathless (eqb t 7) (Literal x) _ refl
        (either_pathless (eqb t 8) (Index x) _ refl
        (either_pathless (eqb t 9) (IndexText x) _ refl (either_pathless (eqb t 10) (Name x) (Text x) refl refl)))))

pair_pathless : (t x : ℕ) → pair_of t x ≡ pathless (pair_of t x)
unfolding pair_of
pair_pathless t x = either_pathless (eqb t 12) (SaidChar (x / 8) (x % 8)) _ refl (either_pathless (eqb t 13) (PackedChar (x / 8) (x % 8)) (Merged (x / 16) (x % 16)) refl refl)

module _ (n : ℕ) where
  pub pathless_context : n % 16 ≡ 5 → decoded (n + 1) ≡ pathless (decoded n)
  unfolding decoded place_of
  pathless_context e =
      let a : (n + 1) % 16 ≡ 6 = omega arith in
      let b : (n + 1) / 16 ≡ n / 16 = omega arith in
      rw (a, b, e)

  pub pathless_other : (n % 16 ≡ 5 → ⊥) → decoded n ≡ pathless (decoded n)
  unfolding decoded
  pathless_other g =
      either_pathless (ltb (n % 16) 5) (word_of (n % 16)) _ (word_pathless (n % 16))
      (either_pathless (ltb (n % 16) 12) (place_of (n % 16) (n / 16)) (pair_of (n % 16) (n / 16)) (place_pathless (n % 16) (n / 16) g) (pair_pathless (n % 16) (n / 16)))

-- What a merged object has

found_got : (r : ℕ) → from_member (numbered_found r) ≡ numbered_got r
found_got zero = refl
found_got (suc zero) = refl
found_got (suc (suc n)) = refl

pub found_place : (r : ℕ) → (r ≡ 0 → ⊥) → r ≤ 4096 → placed_at (numbered (r - 1)) ≡ numbered_found (placed_number r 6)
found_place zero h le = absurd (h refl)
found_place (suc zero) h le = refl
found_place (suc (suc c)) h le =
    let g : suc (suc c) - 1 ≡ suc c = omega arith in
    ap (λ (n : ℕ). placed_at (numbered n)) g ∙ sym (ap numbered_found (placed_more c 6) ∙ ap Some (decoded_encoded (Place (suc c)) (omega arith)))

pub number_found : (r n : ℕ) → r ≡ 2 + n → Some (decoded n) ≡ numbered_found r
number_found r n e = let f : r ≡ suc (suc n) = omega arith in sym (ap numbered_found f)

pub number_some : (n : ℕ) → ltb 0 (2 + n) ≡ true
number_some n = lt-ltb 0 (2 + n) (omega arith)

module _ (s b : Bytes) (u : ℕ) (h : (eqb (u % 16) 5 || eqb (u % 16) 6) ≡ true) where
  base_within : PlainHeld s b (decoded u) → u / 16 < places s
  base_within held =
      either_place u h (u / 16 < places s) (λ e. (subst (PlainStands s b) (context_number u e) held.stands).0) (λ e. subst (PlainStands s b) (place_number u e) held.stands)

  base_json : plain_json s b (decoded u) ≡ json_at s (u / 16)
  base_json = either_place u h (plain_json s b (decoded u) ≡ json_at s (u / 16)) (λ e. ap (plain_json s b) (context_number u e)) (λ e. ap (plain_json s b) (place_number u e))

  base_found : (tab : List ℕ) → Accepted s tab → PlainHeld s b (decoded u) → (k : Bytes) (r : ℕ) → MemberNumber s (u / 16) k r → (placed_number r 6 ≡ 0 → ⊥)
      → PlainFinds s b (get_member (base_map (plain_json s b (decoded u))) k) (numbered_found (placed_number r 6))
  base_found tab a held k r m ne =
      let n0 = placed_told r 6 ne in
      let x = m.told n0 in
      subst (PlainFinds s b (get_member (base_map (plain_json s b (decoded u))) k)) (found_place r n0 m.small)
      (member_placed s tab a (u / 16) (base_within held) b (get_member (base_map (plain_json s b (decoded u))) k) k (numbered (r - 1))
      (ap (λ (j : Json). get_member (base_map j) k) base_json
      ∙ object_found s tab a (u / 16) (base_within held) (members_of (json_at s (u / 16))) (object_at s (u / 16) (eqb-true _ 123 x.object)) k
      ∙ ap (value_at s) (sym x.place))
      x.place)

-- Values that are no places, by the last four bits of their numbers

either_none : (r : Bool) (v w : Value) → place_in v ≡ none → place_in w ≡ none → place_in (pick r v w) ≡ none
either_none true v w e f = e
either_none false v w e f = f

word_none : (t : ℕ) → place_in (word_of t) ≡ none
unfolding word_of
word_none t =
    either_none (eqb t 0) Missing _ refl
    (either_none (eqb t 1) Null _ refl (either_none (eqb t 2) False _ refl (either_none (eqb t 3) True Empty refl refl)))

true_false : {C : Type 0} → true ≡ false → C
true_false h = let z : ◌≡◌ {A = ℕ} 0 1 = cc in absurd (omega arith)

place_none : (t x : ℕ) → (eqb t 5 || eqb t 6) ≡ false → place_in (place_of t x) ≡ none
unfolding place_of
place_none t x h = go (eqb t 5) (eqb t 6) refl refl h
  where
    go : (p q : Bool) → eqb t 5 ≡ p → eqb t 6 ≡ q → (p || q) ≡ false → place_in (place_of t x) ≡ none
    go true q e f g = true_false g
    go false true e f g = true_false g
    go false false e f g =
        rw (e, f)
        (either_none (eqb t 7) (Literal x) _ refl
        (either_none (eqb t 8) (Index x) _ refl
        (either_none (eqb t 9) (IndexText x) _ refl (either_none (eqb t 10) (Name x) (Text x) refl refl))))

pair_none : (t x : ℕ) → place_in (pair_of t x) ≡ none
unfolding pair_of
pair_none t x = either_none (eqb t 12) (SaidChar (x / 8) (x % 8)) _ refl (either_none (eqb t 13) (PackedChar (x / 8) (x % 8)) (Merged (x / 16) (x % 16)) refl refl)

number_none : (n : ℕ) → (eqb (n % 16) 5 || eqb (n % 16) 6) ≡ false → place_in (decoded n) ≡ none
unfolding decoded
number_none n g =
    either_none (ltb (n % 16) 5) (word_of (n % 16)) _ (word_none (n % 16))
    (either_none (ltb (n % 16) 12) (place_of (n % 16) (n / 16)) (pair_of (n % 16) (n / 16)) (place_none (n % 16) (n / 16) g) (pair_none (n % 16) (n / 16)))

pub no_object : (s : Bytes) (n : ℕ) → (eqb (n % 16) 5 || eqb (n % 16) 6) ≡ false → stands_object s (decoded n) ≡ false
no_object s n g = ap (λ (o : Option ℕ). maybe o false (is_object s)) (number_none n g)

-- Values that are not merged

either_plain : (r : Bool) (v w : Value) → merged_of v ≡ none → merged_of w ≡ none → merged_of (pick r v w) ≡ none
either_plain true v w e f = e
either_plain false v w e f = f

word_plain : (t : ℕ) → merged_of (word_of t) ≡ none
unfolding word_of
word_plain t =
    either_plain (eqb t 0) Missing _ refl
    (either_plain (eqb t 1) Null _ refl (either_plain (eqb t 2) False _ refl (either_plain (eqb t 3) True Empty refl refl)))

place_plain : (t x : ℕ) → merged_of (place_of t x) ≡ none
unfolding place_of
place_plain t x =
    either_plain (eqb t 5) (Context x) _ refl
    (either_plain (eqb t 6) (Place x) _ refl
    (either_plain (eqb t 7) (Literal x) _ refl
    (either_plain (eqb t 8) (Index x) _ refl
    (either_plain (eqb t 9) (IndexText x) _ refl (either_plain (eqb t 10) (Name x) (Text x) refl refl)))))

pair_plain : (t x : ℕ) → t < 14 → 12 ≤ t → merged_of (pair_of t x) ≡ none
unfolding pair_of
pair_plain t x lt ge = go (eqb t 12) (eqb t 13) refl refl
  where
    go : (p q : Bool) → eqb t 12 ≡ p → eqb t 13 ≡ q → merged_of (pair_of t x) ≡ none
    go true q e f = rw e
    go false true e f = rw (e, f)
    go false false e f = absurd (omega (arith, eqb-false t 12 e, eqb-false t 13 f))

pub tag_plain : (n : ℕ) → n % 16 < 14 → merged_of (decoded n) ≡ none
unfolding decoded
tag_plain n lt = go (ltb (n % 16) 5) (ltb (n % 16) 12) refl refl
  where
    go : (p q : Bool) → ltb (n % 16) 5 ≡ p → ltb (n % 16) 12 ≡ q → merged_of (decoded n) ≡ none
    go true q e f = rw e (word_plain (n % 16))
    go false true e f = rw (e, f) (place_plain (n % 16) (n / 16))
    go false false e f = rw (e, f) (pair_plain (n % 16) (n / 16) lt (ltb-false (n % 16) 12 f))

pub tag_merged : (n : ℕ) → 14 ≤ n % 16 → decoded n ≡ Merged (n / 16 / 16) (n / 16 % 16)
unfolding decoded pair_of
tag_merged n le =
    let a : ltb (n % 16) 5 ≡ false = le-ltb (n % 16) 5 (omega arith) in
    let b : ltb (n % 16) 12 ≡ false = le-ltb (n % 16) 12 (omega arith) in
    let c : eqb (n % 16) 12 ≡ false = ne_eqb (n % 16) 12 (λ e. omega arith) in
    let d : eqb (n % 16) 13 ≡ false = ne_eqb (n % 16) 13 (λ e. omega arith) in
    rw (a, b, c, d)

-- What a merged object has is what a path finds

record MergedNumber (s b : Bytes) (ent : List ℕ) (v : Value) (k : Bytes) (r : ℕ) : Type 0 where
  small : r < 4294967298
  known : ltb 0 r ≡ tells s b ent k v
  told : (r ≡ 0 → ⊥) → Finds s b ent v (get_member (base_map (json_of s b ent v)) k) (numbered_found r)

module _ (s b : Bytes) (ent : List ℕ) (v : ℕ) (held : Held s b ent (decoded v)) (k : Bytes) where
  merged_got : 14 ≤ v % 16 → (r : ℕ) → MergedNumber s b ent (decoded v) k r → NumberGot s b ent (decoded v) k r
  merged_got e r m =
      let f = tag_merged v e in
      record {
        small = m.small;
        known = m.known;
        told = λ ne.
            subst (DataGot s b ent (decoded v) k) (found_got r)
            (derived_member s b ent (decoded v) k (ap context_place f)
            (means s b ent (decoded v) held (form.Merged (v / 16 / 16) (v / 16 % 16)) (form.Merged (v / 16 / 16) (v / 16 % 16)) (ap merged_of f) refl) (numbered_found r) (m.told ne));
      }

  -- what is not merged, and has no path
  inner_tag : (u : ℕ) → (eqb (u % 16) 5 || eqb (u % 16) 6) ≡ true → context_place (decoded u) ≡ none → u % 16 ≡ 6
  inner_tag u h n = either_place u h (u % 16 ≡ 6) (λ e. none_some (sym n ∙ ap context_place (context_number u e))) (λ e. e)

  pub asked_inner : 14 ≤ v % 16 → (r : ℕ) → Inner s b ent (decoded v) k r → Asked s b ent (decoded v) k r
  asked_inner le r i = record {
    small = i.small;
    pair = λ ge.
        merged_got le (r - 4294967294) (record {
          small = omega (arith, i.small);
          known = lt-ltb 0 (r - 4294967294) (omega arith) ∙ sym (i.known ge);
          told = λ ne. subst (Finds s b ent (decoded v) (get_member (base_map (json_of s b ent (decoded v))) k)) (number_found (r - 4294967294) (r - 4294967296) (omega arith)) (i.pair ge);
        });
    within = λ lt h. base_within s b r h (i.base lt).held;
    place = λ lt h tab a x m.
        let w = i.base lt in
        subst (λ (t : ℕ). NumberGot s b ent (decoded v) k (placed_number x t)) (sym (inner_tag r h w.no_path))
        (merged_got le (placed_number x 6) (record {
          small = placed_small x 6 m.small (omega arith);
          known = placed_known x 6 ∙ m.known ∙ sym (number_object r h s) ∙ sym w.known;
          told = λ ne. w.finds (numbered_found (placed_number x 6)) (base_found s b r h tab a w.held k x m ne);
        }));
    other = λ lt h. merged_got le 0 (record { small = omega arith; known = sym (no_object s r h) ∙ sym (i.base lt).known; told = λ ne. absurd (ne refl) });
  }

  pub asked_plain : v % 16 < 14 → v < 4294967296 → Asked s b ent (decoded v) k v
  asked_plain lt few =
      let t = tells_plain s b ent k (decoded v) (tag_plain v lt) in
      record {
        small = omega arith;
        pair = λ ge. absurd (omega arith);
        within = λ l h. placed_within s b ent (decoded v) (v / 16) (pathless_number v h) held;
        place = λ l h tab a x m. record {
          small = placed_small x (v % 16) m.small (omega arith);
          known = placed_known x (v % 16) ∙ m.known ∙ sym (number_object v h s) ∙ sym t;
          told = λ ne.
              let n0 = placed_told x (v % 16) ne in
              data_number s b ent v k x m.small n0
              (reaches_number s tab a (v / 16) (placed_within s b ent (decoded v) (v / 16) (pathless_number v h) held) k x (m.told n0)) h;
        };
        other = λ l h. record { small = omega arith; known = sym (no_object s v h) ∙ sym t; told = λ ne. absurd (ne refl) };
      }

-- A value without its path

pathless_object : (s : Bytes) (v : Value) → stands_object s (pathless v) ≡ stands_object s v
pathless_object s Missing = refl
pathless_object s Null = refl
pathless_object s False = refl
pathless_object s True = refl
pathless_object s Empty = refl
pathless_object s (Context i) = refl
pathless_object s (Place i) = refl
pathless_object s (Literal p) = refl
pathless_object s (Index n) = refl
pathless_object s (IndexText n) = refl
pathless_object s (Name o) = refl
pathless_object s (Text p) = refl
pathless_object s (SaidChar o n) = refl
pathless_object s (PackedChar p n) = refl
pathless_object s (Merged h n) = refl

-- From what was found on the way inward

module _ (s b : Bytes) (ent : List ℕ) (v : Value) (k : Bytes) (u : ℕ) (w : Inward s b ent v k (decoded u)) where
  pub inner_base : merged_of (decoded u) ≡ none → (n r : ℕ) → decoded n ≡ pathless (decoded u) → n < 4294967296 → r ≡ n → Inner s b ent v k r
  inner_base e n r f lt g = subst (Inner s b ent v k) (sym g) (record {
    small = omega arith;
    pair = λ ge. absurd (omega arith);
    known = λ ge. absurd (omega arith);
    base = λ l.
        subst (Within s b ent v k) (sym f)
        (record {
          held = pathless_held s b (decoded u) (inward_plain s b ent v k (decoded u) w e);
          no_path = pathless_none (decoded u);
          known = inward_told s b ent v k (decoded u) w e ∙ sym (pathless_object s (decoded u));
          finds = λ x h.
              inward_end s b ent v k (decoded u) w e x
              (subst (λ (j : Json). PlainFinds s b (get_member (base_map j) k) x) (pathless_plain s b (decoded u)) h);
        });
  })

  pub inner_pair : (h n : ℕ) → decoded u ≡ Merged h n → (i : ℕ) → KeyAt s b ent h n (find_last (pairs b ent (json_of s b ent) h n) k) i
      → (x r : ℕ) → decoded x ≡ pathless (hash_value ent i) → x < 4294967296 → r ≡ 4294967296 + x → Inner s b ent v k r
  inner_pair h n e i a x r f lt g =
      let d : r - 4294967296 ≡ x = omega arith in
      record {
        small = omega arith;
        pair = λ ge. subst (λ (y : ℕ). IsFound s b ent v (get_member (base_map (json_of s b ent v)) k) (decoded y)) (sym d) (inward_found s b ent v k (decoded u) w h n e i a (decoded x) f);
        known = λ ge. inward_known s b ent v k (decoded u) w h n e _ a.value;
        base = λ l. absurd (omega arith);
      }
