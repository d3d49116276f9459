-- Laws of hash values as numbers.
use Rattle.std.specs.Prelude.{ℕ, zero, suc, ◌+◌, ◌≤◌, ◌<◌, Bool, true, false, List, [], ◌∷◌, ◌≡◌, refl, eqb, length, set, get_or, replicate, Result, Ok, Err}
use Rattle.std.proofs.Common.{sym, ap, ap₂, ◌∙◌, subst, arith, get_or-set_same, get_or-set_other, eqb-true}
use Rattle.std.proofs.lemmas.Bool.{eqb-false}
use Rattle.rules.specs.Bytes.{Bytes}
use Rattle.rules.specs.Bits.{bits}
use Rattle.rules.specs.Layout.{◌then◌}
use Rattle.rules.specs.Bundle.{string, param}
use Rattle.rules.specs.Plan.{answer}
use Rattle.rules.specs.Error as rule
use Rattle.rules.specs.Error.{RenderErrorReason, got, bad, wth}
use Rattle.rules.specs.Value.{ScopedJson}
use Rattle.rules.specs.State.{RenderContext}
use Rattle.rules.specs.Registry.{Registry}
use Rattle.rules.specs.Expand as rules
use Rattle.layout.specs.Text.{text_at}
use Rattle.parts.specs.Holds.{Holds, row}
use Rattle.parts.specs.HoldsLaws.{more_holds}
use Rattle.calls.specs.Calls.{param_at, hash_at, no_hash, hash_more}
use Rattle.value.specs.declared.Value.{Value}
use Rattle.value.specs.declared.Value.TheVariants.{Missing, Null, False, True, Empty, Context, Place, Literal, Index, IndexText, Name, Text, SaidChar, PackedChar, Merged}
use Rattle.value.specs.Numbers.{Fits, encoded, decoded, decoded_encoded}
use Rattle.meaning.specs.Meaning.{scoped_of}
use Rattle.meaning.specs.Standing.{Stands, plain}
use Rattle.context.specs.Near as near
use Rattle.expand.specs.Answers.{Expands}
use Rattle.including.specs.Values.{pair_place, content_place, number_of, GotFits, Numbered, HashValuesIn, HashValues, hash_pairs}
use Rattle.error.specs.declared.RenderErrorReason.{RenderErrorReason as Reason}

-- A value that stands has a number

pub stands_fits : (s b : Bytes) (ent : List ℕ) (t : ℕ) → answer s ≡ 0 → length b ≤ 65536 → t ≤ 4096 → (v : Value) → Stands s b ent t v → Fits v
stands_fits s b ent t h le few = near.stands_fits s b ent t h le (omega arith)

pub encoded_near : (v : Value) → Fits v → encoded v < 4294967296
encoded_near Missing f = omega arith
encoded_near Null f = omega arith
encoded_near False f = omega arith
encoded_near True f = omega arith
encoded_near Empty f = omega arith
encoded_near (Context i) f = omega arith
encoded_near (Place i) f = omega arith
encoded_near (Literal p) f = omega arith
encoded_near (Index n) f = omega arith
encoded_near (IndexText n) f = omega arith
encoded_near (Name o) f = omega arith
encoded_near (Text p) f = omega arith
encoded_near (SaidChar o n) f = omega (arith, f.0, f.1)
encoded_near (PackedChar p n) f = omega (arith, f.0, f.1)
encoded_near (Merged h n) f = omega (arith, f.0, f.1)

-- The number of what is worked out

pub got_is : {A C : Type 0} {x : rule.Got A} (a : A) (r : RenderErrorReason) → x ≡ got a → x ≡ bad r → C
got_is a r e f = let y : got a ≡ bad r = sym e ∙ f in let z : ◌≡◌ {A = ℕ} 0 1 = cc in absurd (omega arith)

module _ (s b : Bytes) (ent : List ℕ) (t : ℕ) where
  pub got_fits : answer s ≡ 0 → length b ≤ 65536 → t < 1048576 → (x : rule.Got ScopedJson) (r : Result Value Reason) → Expands s b ent t x r → GotFits r
  got_fits h le few x (Ok v) e = near.stands_fits s b ent t h le few v e.1
  got_fits h le few x (Err n) e = tt

  pub numbered : (x : rule.Got ScopedJson) (r : Result Value Reason) → Expands s b ent t x r → GotFits r → Numbered s b ent t x (number_of r)
  numbered x (Ok v) e f =
      let same : decoded (encoded v) ≡ v = decoded_encoded v f in
      record {
        value = λ w q. let y : got w ≡ got (scoped_of s b ent v) = sym q ∙ e.0 in let z : w ≡ scoped_of s b ent v = cc in z ∙ ap (scoped_of s b ent) (sym same);
        refused = λ r q. got_is (scoped_of s b ent v) r e.0 q;
        near = encoded_near v f;
        stands = subst (Stands s b ent t) (sym same) e.1;
      }
  numbered x (Err n) e f =
      record {
        value = λ w q. got_is w e.reason q e.is;
        refused = λ r q. refl;
        near = omega arith;
        stands = subst (Stands s b ent t) (sym (decoded_encoded Missing tt)) (plain refl tt);
      }

-- One value after the other

module _ (s b : Bytes) (ent : List ℕ) (t d p : ℕ) (g : Registry) (st : RenderContext) where
  zeros : (m i : ℕ) → ◌≡◌ {A = ℕ} (get_or (replicate m 0) i 0) 0
  zeros zero i = refl
  zeros (suc m) zero = refl
  zeros (suc m) (suc i) = zeros m i

  pub values_as_were : (o : List ℕ) → HashValuesIn s b ent t d p 0 g st o o
  values_as_were o = record { each = λ i lt. absurd (omega arith); rest = λ i le. refl }

  -- in a list that was cleared
  pub values_in_zeros : (m n : ℕ) (l : List ℕ) → HashValuesIn s b ent t d p n g st (replicate m 0) l → HashValues s b ent t d p n g st l
  values_in_zeros m n l h = record { each = h.each; rest = λ i le. h.rest i le ∙ zeros m i }

  pub values_more : {o : List ℕ} (i : ℕ) (l : List ℕ) (k : ℕ) → i < length l → HashValuesIn s b ent t d p i g st o l
      → Numbered s b ent t (rules.expand g st (param_at d (bits b) (content_place d (bits b) p i))) k → HashValuesIn s b ent t d p (suc i) g st o (set l i k)
  values_more i l k lt h x = record { each = each; rest = λ j le. get_or-set_other l i j k 0 (λ e. omega arith) ∙ h.rest j (omega arith) }
    where
      each : (j : ℕ) → j < suc i → Numbered s b ent t (rules.expand g st (param_at d (bits b) (content_place d (bits b) p j))) (get_or (set l i k) j 0)
      each j le = go (eqb j i) refl
        where
          go : (y : Bool) → eqb j i ≡ y → Numbered s b ent t (rules.expand g st (param_at d (bits b) (content_place d (bits b) p j))) (get_or (set l i k) j 0)
          go true e =
              subst (λ (m : ℕ). Numbered s b ent t (rules.expand g st (param_at d (bits b) (content_place d (bits b) p m))) (get_or (set l i k) m 0)) (sym (eqb-true j i e))
              (subst (Numbered s b ent t _) (sym (get_or-set_same l i k 0 lt)) x)
          go false e =
              let ne : j ≡ i → ⊥ = eqb-false j i e in
              subst (Numbered s b ent t _) (sym (get_or-set_other l i j k 0 ne)) (h.each j (omega (arith, ne)))

  -- where all are worked out, these are the pairs of the rules

  both : {A B C : Type 0} (x : rule.Got A) (y : rule.Got B) (f : A → B → C) (c : C) → wth x (λ a. wth y (λ z. got (f a z))) ≡ got c → (a : A) × (z : B) × (x ≡ got a) × (y ≡ got z) × (c ≡ f a z)
  both (got a) (got z) f c e = (a, z, refl, refl, let q : f a z ≡ c = cc in sym q)
  both (got a) (bad r) f c e = got_is c r e refl
  both (bad r) y f c e = got_is c r e refl

  pub values_are : (l : List ℕ) (m : ℕ) → HashValues s b ent t d p m g st l → (n i : ℕ) → i + n ≤ m → Holds (row (string then param d) n) (bits b) (pair_place d (bits b) p i)
      → (kvs : List (Bytes × ScopedJson)) → rules.expand_hash g st (hash_at d n (bits b) (pair_place d (bits b) p i)) ≡ got kvs → kvs ≡ hash_pairs s b ent d p l i n
  values_are l m h zero i le H kvs e = let y : got [] ≡ got kvs = sym (ap (rules.expand_hash g st) (no_hash d (bits b) (pair_place d (bits b) p i))) ∙ e in let z : [] ≡ kvs = cc in sym z
  values_are l m h (suc n) i le H kvs e =
      let k = text_at (bits b) (pair_place d (bits b) p i) in
      let x = param_at d (bits b) (content_place d (bits b) p i) in
      let more = hash_at d n (bits b) (pair_place d (bits b) p (suc i)) in
      let w = both (rules.expand g st x) (rules.expand_hash g st more) (λ v vs. (k, v) ∷ vs) kvs (sym (ap (rules.expand_hash g st) (hash_more d n (bits b) (pair_place d (bits b) p i) H)) ∙ e) in
      let one : w.0 ≡ scoped_of s b ent (decoded (get_or l i 0)) = (h.each i (omega arith)).value w.0 w.2 in
      let others = values_are l m h n (suc i) (omega arith) (more_holds (string then param d) n (bits b) (pair_place d (bits b) p i) H).rest w.1 w.3 in
      w.4 ∙ ap₂ (λ (v : ScopedJson) (vs : List (Bytes × ScopedJson)). (k, v) ∷ vs) one others
