-- Laws of where a name is told.
use Prim.Native.Nat.{ℕ, zero, suc, ◌≤◌, ◌<◌}
use mathlib.Core.Bool.{Bool, true, false, ◌||◌}
use mathlib.Core.List.{List}
use mathlib.Core.Option.{Option, none, some}
use mathlib.Core.Path.{◌≡◌, refl, sym, ap, ◌∙◌}
use native.Mathlib.Omega.{arith}
use lib.Dec.{eqb}
use borrow.Author.Tests.{eqb-true, eqb-false}
use Rattle.rules.specs.Bytes.{Bytes, pick, maybe}
use Rattle.value.specs.declared.Value.{Value}
use Rattle.value.specs.declared.Value.TheVariants.{Merged}
use Rattle.meaning.specs.Entries.{hash_base}
use Rattle.meaning.specs.Meaning.{merged_of, rank}
use Rattle.lookup.specs.Telling.{stands_object, has_pair, tells_below, tells}

module _ (s b : Bytes) (ent : List ℕ) (k : Bytes) where
  plain_below : (f : ℕ) (v : Value) → merged_of v ≡ none → tells_below s b ent k f v ≡ stands_object s v
  unfolding tells_below
  plain_below zero v e = refl
  plain_below (suc f) v e = rw e

  merged_below : (f : ℕ) (v : Value) (h n : ℕ) → merged_of v ≡ some (h, n) → suc h ≤ f → tells_below s b ent k f v ≡ (has_pair s b ent h n k || tells_below s b ent k h (hash_base ent h))
  unfolding tells_below
  merged_below zero v h n e le = absurd (omega arith)
  merged_below (suc f) v h n e le = go (eqb h f) refl (merged_below f v h n e)
    where
      go : (t : Bool) → eqb h f ≡ t → (suc h ≤ f → tells_below s b ent k f v ≡ (has_pair s b ent h n k || tells_below s b ent k h (hash_base ent h)))
          → maybe (merged_of v) (stands_object s v) (λ m. pick (eqb m.0 f) (has_pair s b ent m.0 m.1 k || tells_below s b ent k f (hash_base ent m.0)) (tells_below s b ent k f v))
          ≡ (has_pair s b ent h n k || tells_below s b ent k h (hash_base ent h))
      go true g ih = rw (e, g) (ap (λ (x : ℕ). has_pair s b ent h n k || tells_below s b ent k x (hash_base ent h)) (sym (eqb-true h f g)))
      go false g ih = rw (e, g) (ih (omega (arith, eqb-false h f g)))

  below_is : (f : ℕ) (v : Value) → rank v ≤ f → tells_below s b ent k f v ≡ tells s b ent k v
  unfolding tells
  below_is f v le = at (merged_of v) refl
    where
      ranked : (m : ℕ × ℕ) → merged_of v ≡ some m → rank v ≡ suc m.0
      ranked m e = rw e

      at : (o : Option (ℕ × ℕ)) → merged_of v ≡ o → tells_below s b ent k f v ≡ tells_below s b ent k (rank v) v
      at none e = plain_below f v e ∙ sym (plain_below (rank v) v e)
      at (some m) e =
          merged_below f v m.0 m.1 e (omega (arith, ranked m e))
          ∙ sym (merged_below (rank v) v m.0 m.1 e (omega (arith, ranked m e)))

  pub tells_plain : (v : Value) → merged_of v ≡ none → tells s b ent k v ≡ stands_object s v
  unfolding tells
  tells_plain v e = plain_below (rank v) v e

  pub tells_merged : (h n : ℕ) → rank (hash_base ent h) ≤ h → tells s b ent k (Merged h n) ≡ (has_pair s b ent h n k || tells s b ent k (hash_base ent h))
  unfolding tells
  tells_merged h n le = merged_below (suc h) (Merged h n) h n refl (omega arith) ∙ ap (λ (x : Bool). has_pair s b ent h n k || x) (below_is h (hash_base ent h) le)
