-- Values that stand have numbers.
use Rattle.std.specs.Prelude.{ℕ, ◌≤◌, ◌<◌, false, List, ◌≡◌, length}
use Rattle.std.proofs.Common.{arith}
use Rattle.rules.specs.Bytes.{Bytes}
use Rattle.rules.specs.Bits.{bits}
use Rattle.rules.specs.BundleLaws.{bits_size}
use Rattle.rules.specs.Plan.{answer}
use Rattle.parts.specs.Parts.{literal_fits}
use Rattle.parts.specs.HoldsLaws.{string_in}
use Rattle.places.specs.Nodes.{few_places, short}
use Rattle.value.specs.declared.Value.{Value}
use Rattle.value.specs.declared.Value.TheVariants.{Missing, Null, False, True, Empty, Context, Place, Literal, Index, IndexText, Name, Text, SaidChar, PackedChar, Merged}
use Rattle.value.specs.Numbers.{Fits}
use Rattle.meaning.specs.Meaning.{is_missing}
use Rattle.meaning.specs.Standing.{PlainStands, Stands, plain, merged}
use Rattle.scope.specs.declared.Scope.{Scope}
use Rattle.scope.specs.Standing.{ScopesStand}

plain_fits : (s b : Bytes) → answer s ≡ 0 → length b ≤ 65536 → (v : Value) → PlainStands s b v → Fits v
plain_fits s b h le Missing p = tt
plain_fits s b h le Null p = tt
plain_fits s b h le False p = tt
plain_fits s b h le True p = tt
plain_fits s b h le Empty p = tt
plain_fits s b h le (Context i) p = omega (arith, p.0, few_places s h)
plain_fits s b h le (Place i) p = omega (arith, p, few_places s h)
plain_fits s b h le (Literal q) p = omega (arith, literal_fits (bits b) q p, bits_size b)
plain_fits s b h le (Index n) p = omega (arith, p)
plain_fits s b h le (IndexText n) p = omega (arith, p)
plain_fits s b h le (Name o) p = omega (arith, p.within, short s h)
plain_fits s b h le (Text q) p = omega (arith, string_in (bits b) q p, bits_size b)
plain_fits s b h le (SaidChar o n) p = (omega (arith, p.inside.near), p.one.few)
plain_fits s b h le (PackedChar q n) p = (omega (arith, p.within, bits_size b), p.one.few)
plain_fits s b h le (Merged k n) p = absurd p

pub stands_fits : (s b : Bytes) (ent : List ℕ) (t : ℕ) → answer s ≡ 0 → length b ≤ 65536 → t < 1048576 → (v : Value) → Stands s b ent t v → Fits v
stands_fits s b ent t h le near v (plain e p) = plain_fits s b h le v p
stands_fits s b ent t h le near v (merged k n within keys base values bound) = (omega arith, keys.few)

-- a value to follow a path from, before entries that have numbers
pub record Near (s b : Bytes) (ent : List ℕ) (v : Value) : Type 0 where
  pub top : ℕ
  pub near : top < 1048576
  pub stands : Stands s b ent top v
  pub present : is_missing v ≡ false

-- the scopes are those of a call: they stand before entries that have numbers
pub record NearScopes (s b : Bytes) (ent : List ℕ) (l : List Scope) (used : ℕ) : Type 0 where
  pub top : ℕ
  pub near : top < 1048576
  pub stand : ScopesStand s b ent l used top
