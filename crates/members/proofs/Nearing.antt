-- Members that are compared: which of them is nearer, and what that means for the rules' map.
use Rattle.std.specs.Prelude.{Option as RustOption, Some, None}
use Prim.Native.Nat.{ℕ, ◌≤◌}
use mathlib.Core.Bool.{Bool, true, false}
use mathlib.Core.List.{List, [], ◌∷◌}
use mathlib.Core.Option.{Option, none, some}
use mathlib.Core.Path.{◌≡◌, refl, sym, ap, ◌∙◌, subst}
use native.Mathlib.Omega.{arith}
use lib.ListN.{length}
use types.Run.{OneOf, miss}
use denote.Enum.Declared.{tag_of}
use Rattle.value.specs.contracts.Value.{the_type}
use Rattle.rules.specs.Bytes.{Bytes, pick, before}
use Rattle.rules.specs.BundleLaws.{bits_size}
use Rattle.rules.specs.Json.{Json}
use Rattle.merging.specs.Order.{is_above, combine, nearer}
use Rattle.saying.proofs.Remaining.{inside_start}
use Rattle.saying.specs.Said.{Inside}
use Rattle.chars.specs.Spelled.{Spelled}
use Rattle.text.specs.Rest as text
use Rattle.text.specs.declared.Text.{Text as Spelling}
use Rattle.text.specs.declared.Text.TheVariants as spelling
use Rattle.value.specs.declared.Value.{Value}
use Rattle.value.specs.declared.Value.TheVariants.{Missing, Null, False, True, Empty, Context, Place, Literal, Index, IndexText, Name, Text, SaidChar, PackedChar, Merged}
use Rattle.meaning.specs.Meaning.{plain_json, context_place, is_missing, json_of}
use Rattle.meaning.specs.MeaningLaws.{plain_is}
use Rattle.meaning.specs.Standing.{Stands, plain, stands_plain}
use Rattle.lookup.specs.Answers.{PlainHeld}
use Rattle.members.specs.Next.{by_value, key_name, KeyHeld, after_name, Keyed, shown, PlainItem, MemberHas, combined, nearer_of}

-- By value

-- what holds of null for a missing value, of a place for one with a path, and of any other as it is
by_value_cases : (C : Value → Value → Type 0) → C Missing Null → ((i : ℕ) → C (Context i) (Place i))
    → ((v : Value) → context_place v ≡ none → is_missing v ≡ false → C v v) → (v : Value) → C v (by_value v)
by_value_cases C m p o Missing = m
by_value_cases C m p o Null = o Null refl refl
by_value_cases C m p o False = o False refl refl
by_value_cases C m p o True = o True refl refl
by_value_cases C m p o Empty = o Empty refl refl
by_value_cases C m p o (Context i) = p i
by_value_cases C m p o (Place i) = o (Place i) refl refl
by_value_cases C m p o (Literal q) = o (Literal q) refl refl
by_value_cases C m p o (Index n) = o (Index n) refl refl
by_value_cases C m p o (IndexText n) = o (IndexText n) refl refl
by_value_cases C m p o (Name q) = o (Name q) refl refl
by_value_cases C m p o (Text q) = o (Text q) refl refl
by_value_cases C m p o (SaidChar q n) = o (SaidChar q n) refl refl
by_value_cases C m p o (PackedChar q n) = o (PackedChar q n) refl refl
by_value_cases C m p o (Merged h n) = o (Merged h n) refl refl

pub by_value_other : (v : Value) → OneOf (1 ∷ 2 ∷ 3 ∷ 4 ∷ 6 ∷ 7 ∷ 8 ∷ 9 ∷ 10 ∷ 11 ∷ 12 ∷ 13 ∷ 14 ∷ []) (tag_of the_type v) → v ≡ by_value v
by_value_other =
    by_value_cases (λ v w. OneOf (1 ∷ 2 ∷ 3 ∷ 4 ∷ 6 ∷ 7 ∷ 8 ∷ 9 ∷ 10 ∷ 11 ∷ 12 ∷ 13 ∷ 14 ∷ []) (tag_of the_type v) → v ≡ w)
    (λ k. absurd (miss (1 ∷ 2 ∷ 3 ∷ 4 ∷ 6 ∷ 7 ∷ 8 ∷ 9 ∷ 10 ∷ 11 ∷ 12 ∷ 13 ∷ 14 ∷ []) 0 tt k))
    (λ i k. absurd (miss (1 ∷ 2 ∷ 3 ∷ 4 ∷ 6 ∷ 7 ∷ 8 ∷ 9 ∷ 10 ∷ 11 ∷ 12 ∷ 13 ∷ 14 ∷ []) 5 tt k))
    (λ v p q k. refl)

pub by_value_no_path : (v : Value) → context_place (by_value v) ≡ none
by_value_no_path = by_value_cases (λ v w. context_place w ≡ none) refl (λ i. refl) (λ v p q. p)

pub by_value_present : (v : Value) → is_missing (by_value v) ≡ false
by_value_present = by_value_cases (λ v w. is_missing w ≡ false) refl (λ i. refl) (λ v p q. q)

module _ (s b : Bytes) where
  pub by_value_means : (v : Value) → plain_json s b (by_value v) ≡ plain_json s b v
  by_value_means = by_value_cases (λ v w. plain_json s b w ≡ plain_json s b v) refl (λ i. refl) (λ v p q. refl)

  pub by_value_held : (v : Value) → PlainHeld s b v → PlainHeld s b (by_value v)
  by_value_held =
      by_value_cases (λ v w. PlainHeld s b v → PlainHeld s b w) (λ h. record { plain = refl; stands = tt })
      (λ i h. record { plain = refl; stands = h.stands.0 })
      (λ v p q h. h)

  module _ (ent : List ℕ) where
    pub by_value_json : (v : Value) → json_of s b ent (by_value v) ≡ json_of s b ent v
    by_value_json =
        by_value_cases (λ v w. json_of s b ent w ≡ json_of s b ent v) (plain_is s b ent Null refl ∙ sym (plain_is s b ent Missing refl))
        (λ i. plain_is s b ent (Place i) refl ∙ sym (plain_is s b ent (Context i) refl))
        (λ v p q. refl)

    pub by_value_stands : (t : ℕ) (v : Value) → Stands s b ent t v → Stands s b ent t (by_value v)
    by_value_stands t =
        by_value_cases (λ v w. Stands s b ent t v → Stands s b ent t w) (λ h. plain {v = Null} refl tt)
        (λ i h. plain {v = Place i} refl (stands_plain s b ent t (Context i) refl h).0)
        (λ v p q h. h)

-- Texts

pub spelled_stands : (s b : Bytes) → length b ≤ 65536 → (t : Spelling) → Spelled s b t → text.Stands s b t
spelled_stands s b le (spelling.Said at k) h = subst (Inside s at) (sym h.0) (inside_start s at h.2)
spelled_stands s b le (spelling.Part at k n) h = subst (Inside s at) (sym h.0) h.1.inside
spelled_stands s b le (spelling.Packed p n) h = omega (arith, h.0, bits_size b)
spelled_stands s b le (spelling.Digits n k) h = tt
spelled_stands s b le (spelling.Minus n) h = absurd h

-- Two members, and one more

module _ (s b : Bytes) where
  pub combined_only : (o i : RustOption (Value × Value)) (k v : Value) → o ≡ Some (k, v) → i ≡ None → Some (k, v) ≡ combined s b o i
  combined_only o i k v e f = rw (e, f)

  module _ (o i : RustOption (Value × Value)) (k v l w : Value) (e : o ≡ Some (k, v)) (f : i ≡ Some (l, w)) where
    pub combined_inner : before (key_name s b l) (key_name s b k) ≡ true → Some (l, w) ≡ combined s b o i
    combined_inner h = rw (e, f, h)

    pub combined_outer : before (key_name s b l) (key_name s b k) ≡ false → Some (k, v) ≡ combined s b o i
    combined_outer h = rw (e, f, h)

  pub above_name : (after : RustOption (Value × Value)) (l w k : Value) (r : Bool) → after ≡ Some (l, w) → r ≡ before (key_name s b l) (key_name s b k) → r ≡ is_above (after_name s b after) (key_name s b k)
  above_name after l w k r e f = rw e f

  module _ (f : Value → Json) where
    pub shown_combined : (m n : RustOption (Value × Value)) → shown s b f (combined s b m n) ≡ combine (shown s b f m) (shown s b f n)
    shown_combined None n = refl
    shown_combined (Some (k, v)) None = refl
    shown_combined (Some (k, v)) (Some (l, w)) = go (before (key_name s b l) (key_name s b k))
      where
        go : (t : Bool) → shown s b f (pick t (Some (l, w)) (Some (k, v))) ≡ pick t (some (key_name s b l, f w)) (some (key_name s b k, f v))
        go true = refl
        go false = refl

    pub shown_nearer : (after : Option Bytes) (k v : Value) (best : RustOption (Value × Value))
        → shown s b f (nearer_of s b after k v best) ≡ nearer after (key_name s b k) (f v) (shown s b f best)
    shown_nearer after k v best = go (is_above after (key_name s b k))
      where
        go : (t : Bool) → shown s b f (pick t (combined s b (Some (k, v)) best) best) ≡ pick t (combine (some (key_name s b k, f v)) (shown s b f best)) (shown s b f best)
        go true = shown_combined (Some (k, v)) best
        go false = refl

  module _ (P : Value → Type 0) where
    pub has_keyed : (m : RustOption (Value × Value)) → MemberHas s b P m → Keyed s b m
    has_keyed (Some (k, v)) h = h.0
    has_keyed None h = tt

    pub has_combined : (m n : RustOption (Value × Value)) → MemberHas s b P m → MemberHas s b P n → MemberHas s b P (combined s b m n)
    has_combined None n h g = g
    has_combined (Some (k, v)) None h g = h
    has_combined (Some (k, v)) (Some (l, w)) h g = go (before (key_name s b l) (key_name s b k))
      where
        go : (t : Bool) → MemberHas s b P (pick t (Some (l, w)) (Some (k, v)))
        go true = g
        go false = h

    pub has_nearer : (after : Option Bytes) (k v : Value) (best : RustOption (Value × Value)) → KeyHeld s b k → P v → MemberHas s b P best → MemberHas s b P (nearer_of s b after k v best)
    has_nearer after k v best q p h = go (is_above after (key_name s b k))
      where
        go : (t : Bool) → MemberHas s b P (pick t (combined s b (Some (k, v)) best) best)
        go true = has_combined (Some (k, v)) best (q, p) h
        go false = h

  pub has_so : (P Q : Value → Type 0) → ((v : Value) → P v → Q v) → (m : RustOption (Value × Value)) → MemberHas s b P m → MemberHas s b Q m
  has_so P Q f (Some (k, v)) h = (h.0, f v h.1)
  has_so P Q f None h = tt

  -- a value that is not merged means the same with entries
  pub shown_plain : (ent : List ℕ) (m : RustOption (Value × Value)) → MemberHas s b (PlainItem s b) m → shown s b (json_of s b ent) m ≡ shown s b (plain_json s b) m
  shown_plain ent (Some (k, v)) h = ap (λ (j : Json). some (key_name s b k, j)) (plain_is s b ent v h.1.held.plain)
  shown_plain ent None h = refl
