-- A value that stands keeps its meaning while entries behind it come and go.
use Rattle.std.specs.Prelude.{ℕ, zero, suc, ◌+◌, ◌-◌, ◌*◌, ◌/◌, ◌%◌, ◌≤◌, ◌<◌, List, [], ◌∷◌, ◌≡◌, refl, get_or}
use Rattle.std.proofs.Math.Option.{none}
use Rattle.std.proofs.Common.{sym, ap, ap₂, ◌∙◌, subst, arith}
use Rattle.rules.specs.Bytes.{Bytes, before}
use Rattle.rules.specs.Json.{Json, count}
use Rattle.rules.specs.Bits.{bits}
use Rattle.rules.specs.Bundle.{string}
use Rattle.rules.specs.Context.{base_map, merge_json}
use Rattle.layout.specs.Text.{text_at}
use Rattle.parts.specs.Holds.{Holds}
use Rattle.value.specs.declared.Value.{Value}
use Rattle.value.specs.declared.Value.TheVariants.{Merged}
use Rattle.value.specs.Numbers.{decoded}
use Rattle.meaning.specs.Entries.{place, hash_value, hash_base}
use Rattle.meaning.specs.Meaning.{plain_json, pairs, merged_of, rank, json_of}
use Rattle.meaning.specs.MeaningLaws.{Older, plain_is, merged_is}
use Rattle.meaning.specs.Standing.{KeysStand, Stands, plain, merged, stands_rank}

-- the first t entries of both are the same
pub record Agree (ent ent' : List ℕ) (t : ℕ) : Type 0 where
  pub same : (i : ℕ) → i < 2 * t → get_or ent i 0 ≡ get_or ent' i 0

module _ (s b : Bytes) (ent : List ℕ) where
  -- the values of a merged object are older than it
  older : (h n : ℕ) → ((i : ℕ) → i < n → Stands s b ent h (hash_value ent (h + i))) → (e k : ℕ) → e + k ≡ h + n → h ≤ e → Older s b ent h e k
  older h n values e zero q le = tt
  older h n values e (suc k) q le =
      let i : ℕ = e - h in
      let x : h + i ≡ e = omega arith in
      (stands_rank s b ent h (hash_value ent e) (subst (λ (y : ℕ). Stands s b ent h (hash_value ent y)) x (values i (omega arith))), older h n values (suc e) k (omega arith) (omega arith))

  pub stands_merged_is : (h n : ℕ) → Stands s b ent h (hash_base ent h) → ((i : ℕ) → i < n → Stands s b ent h (hash_value ent (h + i)))
      → json_of s b ent (Merged h n) ≡ merge_json (json_of s b ent (hash_base ent h)) (pairs b ent (json_of s b ent) h n)
  stands_merged_is h n base values = merged_is s b ent h n (stands_rank s b ent h (hash_base ent h) base) (older h n values h n refl (omega arith))

pub record Kept (s b : Bytes) (ent ent' : List ℕ) (t : ℕ) (v : Value) : Type 0 where
  pub stands : Stands s b ent' t v
  pub means : json_of s b ent v ≡ json_of s b ent' v

module _ (s b : Bytes) (ent ent' : List ℕ) where
  value_same : (t e : ℕ) → Agree ent ent' t → e < t → hash_value ent e ≡ hash_value ent' e
  value_same t e a lt = ap (λ (x : ℕ). decoded (x % 4294967296)) (a.same (2 * e) (omega arith))

  base_same : (t e : ℕ) → Agree ent ent' t → e < t → hash_base ent e ≡ hash_base ent' e
  base_same t e a lt = ap (λ (x : ℕ). decoded (x / 4294967296 % 4294967296)) (a.same (2 * e) (omega arith))

  place_same : (t e : ℕ) → Agree ent ent' t → e < t → place ent e ≡ place ent' e
  place_same t e a lt = a.same (2 * e + 1) (omega arith)

  keys_same : (t h n : ℕ) → Agree ent ent' t → h + n ≤ t → KeysStand b ent h n → KeysStand b ent' h n
  keys_same t h n a le k =
      record {
        some = k.some;
        few = k.few;
        keys = λ i lt. subst (Holds string (bits b)) (place_same t (h + i) a (omega arith)) (k.keys i lt);
        ascend = λ i lt.
            ap₂ (λ (x y : ℕ). before (text_at (bits b) x) (text_at (bits b) y)) (sym (place_same t (h + i) a (omega arith))) (sym (place_same t (h + suc i) a (omega arith)))
            ∙ k.ascend i lt;
      }

  pairs_same : (t e n : ℕ) → Agree ent ent' t → e + n ≤ t → ((i : ℕ) → e ≤ i → i < e + n → json_of s b ent (hash_value ent i) ≡ json_of s b ent' (hash_value ent i))
      → pairs b ent (json_of s b ent) e n ≡ pairs b ent' (json_of s b ent') e n
  pairs_same t e zero a le f = refl
  pairs_same t e (suc n) a le f =
      let x : json_of s b ent (hash_value ent e) ≡ json_of s b ent' (hash_value ent' e) = f e (omega arith) (omega arith) ∙ ap (json_of s b ent') (value_same t e a (omega arith)) in
      ap₂ (λ (p : Bytes × Json) (l : List (Bytes × Json)). p ∷ l)
      (ap₂ (λ (q : ℕ) (j : Json). (text_at (bits b) q, j)) (place_same t e a (omega arith)) x)
      (pairs_same t (suc e) n a (omega arith) (λ i ge lt. f i (omega arith) (omega arith)))

  pub kept : (t : ℕ) (v : Value) → Agree ent ent' t → Stands s b ent t v → Kept s b ent ent' t v
  kept t v a (plain e p) = record { stands = plain e p; means = plain_is s b ent v e ∙ sym (plain_is s b ent' v e) }
  kept t v a (merged h n le k base values few) =
      let lower : Agree ent ent' h = record { same = λ i lt. a.same i (omega arith) } in
      let c = kept h (hash_base ent h) lower base in
      let f : (i : ℕ) → i < n → Kept s b ent ent' h (hash_value ent (h + i)) = λ i lt. kept h (hash_value ent (h + i)) lower (values i lt) in
      let base' : Stands s b ent' h (hash_base ent' h) = subst (Stands s b ent' h) (base_same t h a (omega (arith, k.some))) c.stands in
      let values' : (i : ℕ) → i < n → Stands s b ent' h (hash_value ent' (h + i)) = λ i lt. subst (Stands s b ent' h) (value_same t (h + i) a (omega arith)) (f i lt).stands in
      let means : json_of s b ent (Merged h n) ≡ json_of s b ent' (Merged h n) =
      stands_merged_is s b ent h n base values
      ∙ ap₂ merge_json (c.means ∙ ap (json_of s b ent') (base_same t h a (omega (arith, k.some))))
      (pairs_same t h n a le (λ i ge lt. let x : h + (i - h) ≡ i = omega arith in subst (λ (y : ℕ). json_of s b ent (hash_value ent y) ≡ json_of s b ent' (hash_value ent y)) x (f (i - h) (omega arith)).means))
      ∙ sym (stands_merged_is s b ent' h n base' values') in
      record { stands = merged {t = t} h n le (keys_same t h n a le k) base' values' (subst (λ (j : Json). count (base_map j) ≤ 4096) means few); means = means }
