-- The bundle of the cases with names: three strings, one behind the other.
use Prim.Native.Nat.{ℕ, zero, suc, ◌+◌, ◌<◌}
use mathlib.Core.List.{List, [], ◌∷◌}
use mathlib.Core.Option.{Option}
use mathlib.Core.Path.{◌≡◌, refl, sym, ap, ◌∙◌, subst}
use native.Mathlib.Omega.{arith}
use lib.ListN.{set, replicate}
use Rattle.rules.specs.Bytes.{Bytes, maybe}
use Rattle.rules.specs.Bits.{bits}
use Rattle.rules.specs.Layout.{field}
use Rattle.rules.specs.Bundle.{string}
use Rattle.parts.specs.Holds.{Holds, end}
use Rattle.value.specs.declared.Value.{Value}
use Rattle.value.specs.declared.Value.TheVariants.{Context, Merged}
use Rattle.value.specs.Numbers.{decoded, word_of, place_of, pair_of}
use Rattle.meaning.specs.Entries.{place}
use Rattle.meaning.specs.Meaning.{merged_of}
use Rattle.scope.specs.declared.Scope.{Scope}
use Rattle.scope.specs.Scopes.{blank}
use Rattle.scope.specs.Names.{HashReadable, Readable, AllReadable}

abbrev pub bundle : Bytes
bundle = 0 ∷ 1 ∷ 97 ∷ 0 ∷ 1 ∷ 98 ∷ 0 ∷ 1 ∷ 99 ∷ []

pub holds_a : Holds string (bits bundle) 0
unfolding bits field
holds_a = record { found = 97 ∷ []; behind = 24; reads = refl }

pub holds_b : Holds string (bits bundle) 24
unfolding bits field
holds_b = record { found = 98 ∷ []; behind = 48; reads = refl }

pub holds_c : Holds string (bits bundle) 48
unfolding bits field
holds_c = record { found = 99 ∷ []; behind = 72; reads = refl }

pub behind_a : end string (bits bundle) 0 ≡ 24
unfolding bits field end
behind_a = refl

turn_place : decoded 101 ≡ Context 6
unfolding decoded word_of place_of pair_of
turn_place = refl

partial : decoded 46 ≡ Merged 0 2
unfolding decoded word_of place_of pair_of
partial = refl

-- a scope with two names, and one with a hash, whatever stands in its other fields

pub two_readable : (ent : List ℕ) (c : Scope) → c.kind ≡ 2 → c.names ≡ 0 → c.base ≡ 101 → Readable bundle ent c
two_readable ent c k n e =
    record {
      names = rw (k, n) (holds_a, subst (Holds string (bits bundle)) (sym behind_a) holds_b);
      hash = λ h m f. let z : ◌≡◌ {A = ℕ} 0 1 = ap tag (sym (ap decoded e ∙ turn_place) ∙ f) in absurd (omega arith);
    }
  where
    tag : Value → ℕ
    tag v = maybe (merged_of v) 0 (λ m. 1)

abbrev pub hash_entries : List ℕ
hash_entries = 120 ∷ 0 ∷ 149 ∷ 48 ∷ []

pub hash_readable : (c : Scope) → c.kind ≡ 3 → c.base ≡ 46 → Readable bundle hash_entries c
hash_readable c k e =
    record {
      names = rw (k, e) (refl, λ z. let x : ◌≡◌ {A = ℕ} 0 1 = ap (λ (o : Option (ℕ × ℕ)). maybe o 0 (λ m. 1)) (sym z ∙ ap merged_of partial) in omega arith);
      hash = λ h m f. let g : Merged 0 2 ≡ Merged h m = sym (ap decoded e ∙ partial) ∙ f in
          let p : 0 ≡ h = cc in let q : 2 ≡ m = cc in subst (λ (x : ℕ). HashReadable bundle hash_entries x m) p (subst (HashReadable bundle hash_entries 0) q both);
    }
  where
    keys : (i : ℕ) → i < 2 → Holds string (bits bundle) (place hash_entries (0 + i))
    keys zero lt = holds_a
    keys (suc zero) lt = holds_c
    keys (suc (suc i)) lt = absurd (omega arith)

    both : HashReadable bundle hash_entries 0 2
    both = record { few = omega arith; within = omega arith; keys = keys }

-- the first of the stack, where it was put
pub only : (ent : List ℕ) (l x : List Scope) (c : Scope) → Readable bundle ent c → l ≡ replicate 32 blank → x ≡ set l 0 c → AllReadable bundle ent x 1
only ent l x c r z e zero lt = rw (e, z) r
only ent l x c r z e (suc i) lt = absurd (omega arith)

abbrev pub two : Scope
two = record { base = 101; names = 0; key = 395; index = 0; inline = 0; count = 0; text = 0; kind = 2; locals = 6; block = 0 }

abbrev pub hash : Scope
hash = record { base = 46; names = 0; key = 0; index = 0; inline = 2; count = 0; text = 0; kind = 3; locals = 0; block = 0 }
