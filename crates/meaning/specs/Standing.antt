-- Which values there are in a call: the places that they hold are such as plan, bundle and entries have.
use Rattle.std.specs.Prelude.{ℕ, zero, suc, ◌+◌, ◌*◌, ◌≤◌, ◌<◌, Bool, true, false, List, [], ◌∷◌, ◌≡◌, refl, length, take}
use Rattle.std.proofs.Math.Option.{Option, none, some}
use Rattle.std.proofs.Common.{sym, ap, ◌∙◌, subst, arith}
use Rattle.rules.specs.Bytes.{Bytes, before, maybe}
use Rattle.rules.specs.Utf8.{utf8}
use Rattle.rules.specs.Bits.{bits}
use Rattle.rules.specs.Bundle.{string, literal}
use Rattle.rules.specs.Json.{count}
use Rattle.rules.specs.Context.{chars, base_map}
use Rattle.bits.specs.Packed.{bytes_at}
use Rattle.layout.specs.Text.{text_at}
use Rattle.parts.specs.Holds.{Holds}
use Rattle.saying.specs.Said.{remaining, Inside}
use Rattle.saying.specs.Characters.{Whole}
use Rattle.places.specs.Places.{places, live_at}
use Rattle.value.specs.declared.Value.{Value}
use Rattle.value.specs.declared.Value.TheVariants.{Missing, Null, False, True, Empty, Context, Place, Literal, Index, IndexText, Name, Text, SaidChar, PackedChar, Merged}
use Rattle.meaning.specs.Entries.{place, hash_value, hash_base}
use Rattle.meaning.specs.Meaning.{merged_of, rank, json_of}

-- the first quote of a string of the plan
pub record NameStands (s : Bytes) (o : ℕ) : Type 0 where
  pub within : o < length s
  pub whole : Whole s (o + 1)

-- one character, of n bytes
pub record OneCharacter (l : Bytes) (n : ℕ) : Type 0 where
  pub alone : chars l ≡ l ∷ []
  pub few : n < 8

pub record SaidStands (s : Bytes) (o n : ℕ) : Type 0 where
  pub inside : Inside s o 0
  pub one : OneCharacter (take n (remaining s o 0)) n

pub record PackedStands (b : Bytes) (p n : ℕ) : Type 0 where
  pub within : p + 8 * n ≤ (bits b).size
  pub one : OneCharacter (bytes_at (bits b) p n) n
  pub valid : utf8 (bytes_at (bits b) p n) ≡ true

abbrev pub PlainStands : Bytes → Bytes → Value → Type 0
PlainStands s b Missing = Unit {0}
PlainStands s b Null = Unit {0}
PlainStands s b False = Unit {0}
PlainStands s b True = Unit {0}
PlainStands s b Empty = Unit {0}
PlainStands s b (Context i) = (i < places s) × (live_at s i ≡ true)
PlainStands s b (Place i) = i < places s
PlainStands s b (Literal p) = Holds literal (bits b) p
PlainStands s b (Index n) = n < 65536
PlainStands s b (IndexText n) = n < 65536
PlainStands s b (Name o) = NameStands s o
PlainStands s b (Text p) = Holds string (bits b) p
PlainStands s b (SaidChar o n) = SaidStands s o n
PlainStands s b (PackedChar p n) = PackedStands b p n
PlainStands s b (Merged h n) = ⊥

-- the n hash pairs from h on: their keys are strings of the bundle, and ascend
pub record KeysStand (b : Bytes) (ent : List ℕ) (h n : ℕ) : Type 0 where
  pub some : 0 < n
  pub few : n < 16
  pub keys : (i : ℕ) → i < n → Holds string (bits b) (place ent (h + i))
  pub ascend : (i : ℕ) → suc i < n → before (text_at (bits b) (place ent (h + i))) (text_at (bits b) (place ent (h + suc i))) ≡ true

-- t is behind the entries in use; what a merged object has inside was there before it; limit 22 bounds its members
pub data Stands (s b : Bytes) (ent : List ℕ) : ℕ → Value → Type 0 where
  plain : {t : ℕ} {v : Value} → merged_of v ≡ none → PlainStands s b v → Stands s b ent t v
  merged : {t : ℕ} (h n : ℕ) → h + n ≤ t → KeysStand b ent h n → Stands s b ent h (hash_base ent h)
      → ((i : ℕ) → i < n → Stands s b ent h (hash_value ent (h + i))) → count (base_map (json_of s b ent (Merged h n))) ≤ 4096 → Stands s b ent t (Merged h n)

module _ (s b : Bytes) (ent : List ℕ) where
  -- its rank is not behind t
  pub stands_rank : (t : ℕ) (v : Value) → Stands s b ent t v → rank v ≤ t
  stands_rank t v (plain e p) = rw e (omega arith)
  stands_rank t v (merged h n le k base values few) = omega (arith, k.some)

  pub stands_plain : (t : ℕ) (v : Value) → merged_of v ≡ none → Stands s b ent t v → PlainStands s b v
  stands_plain t v e (plain f p) = p
  stands_plain t v e (merged h n le k base values few) = let z : ◌≡◌ {A = ℕ} 0 1 = cc in absurd (omega arith)

  -- with more entries in use
  pub stands_later : (t u : ℕ) (v : Value) → t ≤ u → Stands s b ent t v → Stands s b ent u v
  stands_later t u v le (plain e p) = plain e p
  stands_later t u v le (merged h n l k base values few) = merged {t = u} h n (omega arith) k base values few

-- what a merged object has inside
pub record MergedStands (s b : Bytes) (ent : List ℕ) (t h n : ℕ) : Type 0 where
  pub within : h + n ≤ t
  pub keys : KeysStand b ent h n
  pub base : Stands s b ent h (hash_base ent h)
  pub values : (i : ℕ) → i < n → Stands s b ent h (hash_value ent (h + i))
  pub few : count (base_map (json_of s b ent (Merged h n))) ≤ 4096

module _ (s b : Bytes) (ent : List ℕ) where
  pub stands_merged : (t : ℕ) (v : Value) (h n : ℕ) → merged_of v ≡ some (h, n) → Stands s b ent t v → MergedStands s b ent t h n
  stands_merged t v h n e (plain f p) = let z : ◌≡◌ {A = ℕ} 0 1 = cc in absurd (omega arith)
  stands_merged t v h n e (merged g m le k base values few) =
      let p : g ≡ h = ap (λ (o : Option (ℕ × ℕ)). maybe o 0 (λ m. m.0)) e in
      let q : m ≡ n = ap (λ (o : Option (ℕ × ℕ)). maybe o 0 (λ m. m.1)) e in
      subst (λ (x : ℕ). MergedStands s b ent t x n) p
      (subst (λ (x : ℕ). MergedStands s b ent t g x) q (record { within = le; keys = k; base = base; values = values; few = few }))
