-- Laws of meaning.
use Prim.Native.Nat.{ℕ, zero, suc, ◌+◌, ◌≤◌, ◌<◌}
use Rattle.std.specs.Prelude.{Bool, List, [], ◌∷◌, ◌≡◌}
use Rattle.std.proofs.Math.Bool.{true, false}
use Rattle.std.proofs.Math.Option.{Option, none, some}
use Rattle.std.proofs.Math.Path.{refl, ap₂}
use Rattle.std.proofs.Common.{sym, ap, ◌∙◌, arith}
use Rattle.std.proofs.Math.Dec.{eqb}
use borrow.Author.Tests.{eqb-true, eqb-false}
use Rattle.rules.specs.Bytes.{Bytes, pick, maybe}
use Rattle.rules.specs.Json.{Json}
use Rattle.rules.specs.Bits.{bits}
use Rattle.rules.specs.Context.{merge_json}
use Rattle.layout.specs.Text.{text_at}
use Rattle.value.specs.declared.Value.{Value}
use Rattle.value.specs.declared.Value.TheVariants.{Merged}
use Rattle.meaning.specs.Entries.{place, hash_value, hash_base}
use Rattle.meaning.specs.Meaning.{plain_json, pairs, merged, merged_of, json_below, rank, json_of}

module _ (s b : Bytes) (ent : List ℕ) where
  plain_below : (k : ℕ) (v : Value) → merged_of v ≡ none → json_below s b ent k v ≡ plain_json s b v
  unfolding json_below
  plain_below zero v e = refl
  plain_below (suc k) v e = rw e

  merged_below : (k : ℕ) (v : Value) (h n : ℕ) → merged_of v ≡ some (h, n) → suc h ≤ k → json_below s b ent k v ≡ merged b ent (json_below s b ent h) h n
  unfolding json_below
  merged_below zero v h n e le = absurd (omega arith)
  merged_below (suc k) v h n e le = go (eqb h k) refl (merged_below k v h n e)
    where
      go : (t : Bool) → eqb h k ≡ t → (suc h ≤ k → json_below s b ent k v ≡ merged b ent (json_below s b ent h) h n)
          → maybe (merged_of v) (plain_json s b v) (λ m. pick (eqb m.0 k) (merged b ent (json_below s b ent k) m.0 m.1) (json_below s b ent k v))
          ≡ merged b ent (json_below s b ent h) h n
      go true f ih = rw (e, f) (ap (λ (x : ℕ). merged b ent (json_below s b ent x) h n) (sym (eqb-true h k f)))
      go false f ih = rw (e, f) (ih (omega (arith, eqb-false h k f)))

  -- a bound that is enough is as good as any
  pub below_is : (k : ℕ) (v : Value) → rank v ≤ k → json_below s b ent k v ≡ json_of s b ent v
  unfolding json_of
  below_is k v le = at (merged_of v) refl
    where
      ranked : (m : ℕ × ℕ) → merged_of v ≡ some m → rank v ≡ suc m.0
      ranked m e = rw e

      at : (o : Option (ℕ × ℕ)) → merged_of v ≡ o → json_below s b ent k v ≡ json_below s b ent (rank v) v
      at none e = plain_below k v e ∙ sym (plain_below (rank v) v e)
      at (some m) e =
          merged_below k v m.0 m.1 e (omega (arith, ranked m e))
          ∙ sym (merged_below (rank v) v m.0 m.1 e (omega (arith, ranked m e)))

  pub plain_is : (v : Value) → merged_of v ≡ none → json_of s b ent v ≡ plain_json s b v
  unfolding json_of
  plain_is v e = plain_below (rank v) v e

  -- the values of n hash pairs from e on were there before h
  abbrev pub Older : ℕ → ℕ → ℕ → Type 0
  Older h e zero = Unit {0}
  Older h e (suc n) = (rank (hash_value ent e) ≤ h) × Older h (suc e) n

  pairs_are : (h e n : ℕ) → Older h e n → pairs b ent (json_below s b ent h) e n ≡ pairs b ent (json_of s b ent) e n
  pairs_are h e zero o = refl
  pairs_are h e (suc n) o =
      ap₂ (λ (j : Json) (l : List (Bytes × Json)). (text_at (bits b) (place ent e), j) ∷ l) (below_is h (hash_value ent e) o.0) (pairs_are h (suc e) n o.1)

  -- a merged object, by what its parts mean
  pub merged_is : (h n : ℕ) → rank (hash_base ent h) ≤ h → Older h h n → json_of s b ent (Merged h n) ≡ merged b ent (json_of s b ent) h n
  unfolding json_of
  merged_is h n le o =
      merged_below (suc h) (Merged h n) h n refl (omega arith)
      ∙ ap₂ merge_json (below_is h (hash_base ent h) le) (pairs_are h h n o)
