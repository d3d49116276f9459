-- The hash pairs of a merged object, one by one.
use Rattle.std.specs.Prelude.{ℕ, zero, suc, ◌+◌, ◌≤◌, ◌<◌, List, [], ◌∷◌, ◌++◌, ◌≡◌, Option as RustOption, Some, None}
use Rattle.std.proofs.Math.Option.{Option, none, some}
use Rattle.std.proofs.Common.{ap, ◌∙◌, arith}
use Rattle.rules.specs.Bytes.{Bytes}
use Rattle.rules.specs.Json.{Json}
use Rattle.rules.specs.Bits.{bits}
use Rattle.layout.specs.Text.{text_at}
use Rattle.value.specs.declared.Value.{Value}
use Rattle.meaning.specs.Entries.{place, hash_value}
use Rattle.meaning.specs.Meaning.{pairs, json_of}

-- the value of the entry e is what there is; it is one of the n from h on
pub record KeyAt (s b : Bytes) (ent : List ℕ) (h n : ℕ) (o : Option Json) (e : ℕ) : Type 0 where
  pub low : h ≤ e
  pub high : e < h + n
  pub value : o ≡ some (json_of s b ent (hash_value ent e))

abbrev pub KeyFound : Bytes → Bytes → List ℕ → ℕ → ℕ → Option Json → RustOption ℕ → Type 0
KeyFound s b ent h n o (Some e) = KeyAt s b ent h n o e
KeyFound s b ent h n o None = o ≡ none

-- one pair more at the end
pub pairs_more : (b : Bytes) (ent : List ℕ) (f : Value → Json) (e n : ℕ)
    → pairs b ent f e (suc n) ≡ pairs b ent f e n ++ ((text_at (bits b) (place ent (e + n)), f (hash_value ent (e + n))) ∷ [])
pairs_more b ent f e zero = let x : e + 0 ≡ e = omega arith in rw x
pairs_more b ent f e (suc n) =
    let x : suc e + n ≡ e + suc n = omega arith in
    ap (◌∷◌ (text_at (bits b) (place ent e), f (hash_value ent e)))
    (pairs_more b ent f (suc e) n ∙ ap (λ (y : ℕ). pairs b ent f (suc e) n ++ ((text_at (bits b) (place ent y), f (hash_value ent y)) ∷ [])) x)
