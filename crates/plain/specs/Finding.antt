-- Values that a path leads to by the front alone, and the numbers of what is found in them.
use Rattle.std.specs.Prelude.{ℕ, suc, ◌+◌, ◌-◌, List, ◌≡◌, refl}
use Rattle.std.proofs.Math.Option.{Option}
use Rattle.std.proofs.Common.{sym, ap, ◌∙◌, subst, arith}
use Rattle.rules.specs.Bytes.{Bytes}
use Rattle.rules.specs.Json.{Json}
use Rattle.value.specs.declared.Value.{Value}
use Rattle.value.specs.declared.Value.TheVariants.{Missing, Null, False, True, Empty, Context, Place, Literal, Index, IndexText, Name, Text, SaidChar, PackedChar, Merged}
use Rattle.value.specs.Numbers.{Fits, encoded, decoded, decoded_encoded}
use Rattle.meaning.specs.Standing.{Stands}
use Rattle.scope.specs.declared.Scope.{Scope}
use Rattle.lookup.specs.Answers.{Held, IsFound, Finds}
use Rattle.lookup.specs.Numbers.{numbered_found}
use Rattle.context.specs.Evaluated.{Evaluates, refusal, evaluates_led, found_of, led_found, some_evaluated}
use Rattle.context.specs.Start.{NearFront}
use Rattle.expand.specs.declared.Options.{Options}
use Rattle.expand.proofs.Parts.{some_setting, some_used}
use Rattle.plain.specs.Looked.{NearValue, Led}

pub found_fine : (v : Value) → refusal (found_of v) ≡ 0
found_fine Missing = refl
found_fine Null = refl
found_fine False = refl
found_fine True = refl
found_fine Empty = refl
found_fine (Context i) = refl
found_fine (Place i) = refl
found_fine (Literal p) = refl
found_fine (Index n) = refl
found_fine (IndexText n) = refl
found_fine (Name o) = refl
found_fine (Text p) = refl
found_fine (SaidChar o n) = refl
found_fine (PackedChar p n) = refl
found_fine (Merged h n) = refl

-- the value stands
module _ (s b : Bytes) (ent : List ℕ) (front : Scope) (names : ℕ) (o : Options) (N : NearFront s b ent front names) (v r : ℕ) (L : Led s b ent front names o v r) (some : r ≡ 0 → ⊥) where
  pub led_near : NearValue s b ent (decoded (r - 1))
  led_near =
      let z = some_setting s b ent N.stack N.used o N.newest.some N.near in
      let e = subst (Evaluates s b ent z.t _) (some_evaluated r some) (L.some some N.stack N.used N.newest z.g z.st z.t z.setting) in
      let w = subst (Stands s b ent z.t) (led_found (decoded (r - 1))) (evaluates_led s b ent z.t _ (found_of (decoded (r - 1))) e (found_fine (decoded (r - 1)))).1 in
      record {
        top = N.near.top;
        near = N.near.near;
        room = N.near.stand.entries;
        stands = subst (λ (t : ℕ). Stands s b ent t (decoded (r - 1))) (some_used s b ent N.stack N.used o N.newest.some N.near) w;
      }

  pub led_held : Held s b ent (decoded (r - 1))
  led_held = let n = led_near in record { used = n.top; room = n.room; stands = n.stands }

-- n is the number of a value that is found
pub found_number : (s b : Bytes) (ent : List ℕ) (v : Value) (j : Option Json) (w : Value) → Fits w → (n : ℕ) → n ≡ encoded w → IsFound s b ent v j w → (r : ℕ) → r ≡ 2 + n
    → Finds s b ent v j (numbered_found r)
found_number s b ent v j w f n hn F r hr =
    let e : r ≡ suc (suc n) = omega (arith, hr) in
    subst (λ (k : ℕ). Finds s b ent v j (numbered_found k)) (sym e) (subst (IsFound s b ent v j) (sym (ap decoded hn ∙ decoded_encoded w f)) F)
