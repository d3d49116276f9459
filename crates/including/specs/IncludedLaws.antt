-- What the table, the merged object and the scope of a partial are for the rules.
use Rattle.std.specs.Prelude.{ℕ, zero, suc, ◌+◌, ◌≤◌, ◌<◌, Bool, true, false, List, [], ◌∷◌, ◌≡◌, refl, eqb, get_or}
use Rattle.std.proofs.Math.Option.{none, some}
use Rattle.std.proofs.Common.{sym, ap, ap₂, ◌∙◌, subst, arith, eqb-true, ne_eqb}
use Rattle.std.proofs.lemmas.Bool.{eqb-false}
use Rattle.rules.specs.Bytes.{Bytes, pick, before}
use Rattle.rules.specs.Bits.{bits}
use Rattle.rules.specs.Json.{Json, count}
use Rattle.rules.specs.Value.{as_json}
use Rattle.rules.specs.Context.{base_map, merge_json}
use Rattle.rules.specs.Block.{BlockContext}
use Rattle.rules.specs.State.{RenderContext}
use Rattle.rules.specs.Partial.{hash_ctx, merged_entries, include_block}
use Rattle.layout.specs.Text.{text_at}
use Rattle.parts.specs.Holds.{Holds}
use Rattle.rules.specs.Bundle.{string}
use Rattle.value.specs.declared.Value.{Value}
use Rattle.value.specs.declared.Value.TheVariants.{Merged}
use Rattle.value.specs.Numbers.{Fits, encoded, decoded, decoded_encoded}
use Rattle.meaning.specs.Entries.{hash_value, hash_base}
use Rattle.meaning.specs.Meaning.{pairs, merged_of, context_place, is_missing, json_of, scoped_of}
use Rattle.meaning.specs.Standing.{KeysStand, Stands, merged}
use Rattle.meaning.specs.Kept.{Agree, kept, stands_merged_is}
use Rattle.scope.specs.declared.Scope.{Scope}
use Rattle.scope.specs.Scopes.{locals_of, context_of}
use Rattle.scope.specs.Standing.{ScopeStands}
use Rattle.scope.proofs.StackLaws.{context_kept, scope_kept}
use Rattle.scope.specs.Made.{child, with_names, with_locals}
use Rattle.scope.proofs.MadeLaws.{child_stands, with_locals_stands, with_names_stands, partial_is, partial_hash_is}
use Rattle.members.specs.Parts.{Parts}
use Rattle.expand.proofs.Calling.{as_json_of}
use Rattle.including.specs.Values.{pair_place, hash_pairs}
use Rattle.including.specs.ValuesLaws.{encoded_near}
use Rattle.including.specs.Pairs.{with_pairs}
use Rattle.including.specs.PairsLaws.{PairAt, key_holds, pairs_length, pairs_agree, pair_stored}
use Rattle.including.specs.Included.{included, entries_of, Mergeable}

module _ (s b : Bytes) (ent : List ℕ) (t : ℕ) (base : Value) (l : List ℕ) (d p n : ℕ) (M : Mergeable s b ent t base l d p n) where
  -- the table behind the merge, and the hash
  abbrev after : List ℕ
  after = with_pairs ent (bits b) t (encoded base) l d p n

  abbrev hash : List (Bytes × Json)
  hash = hash_ctx (hash_pairs s b ent d p l 0 n)

  agree : Agree ent after t
  agree = pairs_agree ent (bits b) t (encoded base) l d p n

  at : (i : ℕ) → i < n → PairAt after (t + i) (get_or l i 0) (encoded base) (pair_place d (bits b) p i)
  at = pair_stored ent (bits b) t (encoded base) l d p (encoded_near base M.fits) n M.room M.near

  value_at : (i : ℕ) → i < n → hash_value after (t + i) ≡ decoded (get_or l i 0)
  value_at i lt = ap decoded (at i lt).value

  base_at : 0 < n → hash_base after t ≡ base
  base_at lt = let e : t ≡ t + 0 = omega arith in ap (hash_base after) e ∙ ap decoded (at 0 lt).base ∙ decoded_encoded base M.fits

  keys_stand : 0 < n → KeysStand b after t n
  keys_stand lt = record {
    some = lt;
    few = M.pairs.few;
    keys = λ i h. subst (Holds string (bits b)) (sym (at i h).key) (key_holds d (bits b) p n i h M.pairs.holds);
    ascend = λ i h. ap₂ (λ (x y : ℕ). before (text_at (bits b) x) (text_at (bits b) y)) (at i (omega arith)).key (at (suc i) h).key ∙ M.pairs.ascend i h;
  }

  base_stands : 0 < n → Stands s b after t (hash_base after t)
  base_stands lt = subst (Stands s b after t) (sym (base_at lt)) (kept s b ent after t base agree M.stands).stands

  values_stand : (i : ℕ) → i < n → Stands s b after t (hash_value after (t + i))
  values_stand i lt = subst (Stands s b after t) (sym (value_at i lt)) (kept s b ent after t (decoded (get_or l i 0)) agree (M.values i lt)).stands

  pub merged_parts : 0 < n → Parts s b after t n
  merged_parts lt = record {
    room = omega (arith, M.room, pairs_length ent (bits b) t (encoded base) l d p n);
    keys = keys_stand lt;
    base = base_stands lt;
    values = values_stand;
  }

  -- the pairs in the table are the hash
  pairs_from : (m i : ℕ) → i + m ≤ n → pairs b after (json_of s b after) (t + i) m ≡ hash_ctx (hash_pairs s b ent d p l i m)
  pairs_from zero i le = refl
  pairs_from (suc m) i le =
      let lt : i < n = omega arith in
      let e : suc (t + i) ≡ t + suc i = omega arith in
      let j : json_of s b after (hash_value after (t + i)) ≡ as_json (scoped_of s b ent (decoded (get_or l i 0))) =
      ap (json_of s b after) (value_at i lt) ∙ sym (kept s b ent after t (decoded (get_or l i 0)) agree (M.values i lt)).means ∙ sym (as_json_of s b ent (decoded (get_or l i 0))) in
      ap₂ (λ (x : Bytes × Json) (y : List (Bytes × Json)). x ∷ y) (ap₂ (λ (q : ℕ) (v : Json). (text_at (bits b) q, v)) (at i lt).key j)
      (ap (λ (k : ℕ). pairs b after (json_of s b after) k m) e ∙ pairs_from m (suc i) (omega arith))

  pub pairs_are : pairs b after (json_of s b after) t n ≡ hash
  pairs_are = let e : t ≡ t + 0 = omega arith in ap (λ (k : ℕ). pairs b after (json_of s b after) k n) e ∙ pairs_from n 0 (omega arith)

  pub merged_means : 0 < n → json_of s b after (Merged t n) ≡ merge_json (json_of s b ent base) hash
  merged_means lt =
      stands_merged_is s b after t n (base_stands lt) values_stand
      ∙ ap₂ merge_json (ap (json_of s b after) (base_at lt) ∙ sym (kept s b ent after t base agree M.stands).means) pairs_are

  -- Entries

  pub entries_are : entries_of n (json_of s b after (Merged t n)) ≡ merged_entries hash (merge_json (json_of s b ent base) hash)
  entries_are = go (eqb n 0) refl
    where
      some_entries : (m : ℕ) → 0 < m → count (base_map (merge_json (json_of s b ent base) (hash_ctx (hash_pairs s b ent d p l 0 m)))) ≡ merged_entries (hash_ctx (hash_pairs s b ent d p l 0 m)) (merge_json (json_of s b ent base) (hash_ctx (hash_pairs s b ent d p l 0 m)))
      some_entries zero lt = absurd (omega arith)
      some_entries (suc m) lt = refl

      go : (y : Bool) → eqb n 0 ≡ y → pick y 0 (count (base_map (json_of s b after (Merged t n)))) ≡ merged_entries hash (merge_json (json_of s b ent base) hash)
      go true e = ap (λ (k : ℕ). merged_entries (hash_ctx (hash_pairs s b ent d p l 0 k)) (merge_json (json_of s b ent base) (hash_ctx (hash_pairs s b ent d p l 0 k)))) (sym (eqb-true n 0 e))
      go false e =
          let lt : 0 < n = omega (arith, eqb-false n 0 e) in
          ap (λ (j : Json). count (base_map j)) (merged_means lt) ∙ some_entries n lt

  -- within limit 22 the merged object stands
  abbrev Admitted : Type 0
  Admitted = merged_entries hash (merge_json (json_of s b ent base) hash) ≤ 4096

  pub merged_stands : Admitted → 0 < n → Stands s b after (t + n) (Merged t n)
  merged_stands few lt =
      let e : entries_of n (json_of s b after (Merged t n)) ≡ count (base_map (json_of s b after (Merged t n))) = rw (ne_eqb n 0 (λ z. omega arith)) in
      merged {t = t + n} t n (omega arith) (keys_stand lt) (base_stands lt) values_stand (omega (arith, few, entries_are))

  -- The scope

  merged_fits : Fits (Merged t n)
  merged_fits = (omega (arith, M.few), M.pairs.few)

  merged_number : decoded (encoded (Merged t n)) ≡ Merged t n
  merged_number = decoded_encoded (Merged t n) merged_fits

  base_number : decoded (encoded base) ≡ base
  base_number = decoded_encoded base M.fits

  module _ (front : Scope) (F : ScopeStands s b ent front) (ends : front.inline + front.count ≤ t) where
    le : front.inline ≤ t
    le = omega arith

    around : ScopeStands s b after front
    around = scope_kept s b ent after front t agree F le ends

    pub included_stands : Admitted → is_missing base ≡ false → ScopeStands s b after (included base t n front)
    included_stands bound present = go (eqb n 0) refl
      where
        go : (y : Bool) → eqb n 0 ≡ y → ScopeStands s b after (pick y (with_locals (child (encoded base) t) front) (with_names (with_locals (child (encoded (Merged t n)) (t + n)) front) 3 0))
        go true e =
            with_locals_stands s b after (child (encoded base) t) front
            (child_stands s b after (encoded base) t (ap is_missing base_number ∙ present) (subst (Stands s b after t) (sym base_number) (kept s b ent after t base agree M.stands).stands)) around le
        go false e =
            let lt : 0 < n = omega (arith, eqb-false n 0 e) in
            with_names_stands s b after (with_locals (child (encoded (Merged t n)) (t + n)) front) 3 0
            (with_locals_stands s b after (child (encoded (Merged t n)) (t + n)) front
            (child_stands s b after (encoded (Merged t n)) (t + n) (ap is_missing merged_number) (subst (Stands s b after (t + n)) (sym merged_number) (merged_stands bound lt))) around (omega arith))
            (refl, λ q. let x : some (t, n) ≡ none = sym (ap merged_of merged_number) ∙ q in let z : ◌≡◌ {A = ℕ} 0 1 = cc in absurd (omega arith))

    module _ (st : RenderContext) (block : st.kept.block ≡ context_of s b ent front) where
      locals : st.kept.block.local_variables ≡ locals_of s b after front
      locals = ap (λ (x : BlockContext). x.local_variables) (block ∙ context_kept s b ent after front t agree F le)

      pub included_is : context_place base ≡ none → context_of s b after (included base t n front) ≡ include_block st hash (merge_json (json_of s b ent base) hash)
      included_is q = go (eqb n 0) refl
        where
          go : (y : Bool) → eqb n 0 ≡ y → context_of s b after (pick y (with_locals (child (encoded base) t) front) (with_names (with_locals (child (encoded (Merged t n)) (t + n)) front) 3 0)) ≡ include_block st hash (merge_json (json_of s b ent base) hash)
          go true e =
              let z : n ≡ 0 = eqb-true n 0 e in
              partial_is s b after (encoded base) t front st locals (ap context_place base_number ∙ q)
              ∙ ap (include_block st []) (ap (json_of s b after) base_number ∙ sym (kept s b ent after t base agree M.stands).means)
              ∙ ap (λ (k : ℕ). include_block st (hash_ctx (hash_pairs s b ent d p l 0 k)) (merge_json (json_of s b ent base) (hash_ctx (hash_pairs s b ent d p l 0 k)))) (sym z)
          go false e =
              let lt : 0 < n = omega (arith, eqb-false n 0 e) in
              partial_hash_is s b after (encoded (Merged t n)) (t + n) front st locals t n merged_number lt
              ∙ ap₂ (include_block st) pairs_are (merged_means lt)
