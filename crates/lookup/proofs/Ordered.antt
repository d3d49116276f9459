-- The machine that parses a text.
use Rattle.std.specs.Prelude.{Option as RustOption, Some, None}
use Prim.Native.Nat.{ℕ, ◌≤◌}
use mathlib.Core.Bool.{Bool, true, false}
use mathlib.Core.List.{◌∷◌}
use mathlib.Core.Option.{Option, none, some}
use mathlib.Core.Path.{◌≡◌, refl, sym, ap, ◌∙◌}
use native.Mathlib.Omega.{arith}
use lib.ListN.{length}
use Rattle.rules.specs.Bytes.{Bytes, pick, same, digits}
use Rattle.rules.specs.Bits.{bits}
use Rattle.rules.specs.Bundle.{string}
use Rattle.rules.specs.BundleLaws.{bits_size}
use Rattle.rules.specs.Scan.{saying}
use Rattle.rules.specs.Plan.{name_of}
use Rattle.rules.specs.Context.{parse_usize}
use Rattle.merging.specs.Lookup.{canonical}
use Rattle.merging.proofs.Lookup.{canonical_none, canonical_parsed}
use Rattle.parts.specs.Holds.{Holds}
use Rattle.parts.specs.HoldsLaws.{string_in}
use Rattle.places.specs.Places.{tree_at, name_at}
use Rattle.decimal.specs.Parsing.{fed, coming, parsed}
use Rattle.decimal.specs.declared.Parse.{Parse}
use Rattle.decimal.proofs.Parsing.{coming_fed}

-- one byte more of the text
pub coming_step : (p : Parse) (c : ℕ) (t u : Bytes) (o : Option ℕ) → coming p t ≡ o → t ≡ c ∷ u → coming (fed p c) u ≡ o
coming_step p c t u o e f = coming_fed p c u ∙ ap (coming p) (sym f) ∙ e

-- what was parsed
pub parsed_some : (o : Option ℕ) (n : ℕ) → Some n ≡ parsed o → o ≡ some n
parsed_some none n e = cc
parsed_some (some m) n e = cc

pub parsed_none : (o : Option ℕ) → None ≡ parsed o → o ≡ none
parsed_none none e = refl
parsed_none (some m) e = cc

-- a name of the plan
pub named_same : (s : Bytes) (c n : ℕ) (w : Bytes) (r : Bool) → r ≡ same (saying s n) w → n ≡ name_of (tree_at s c) → r ≡ same (name_at s c) w
unfolding name_at
named_same s c n w r e f = e ∙ ap (λ (x : ℕ). same (saying s x) w) f

-- a string of the bundle
pub string_near : (b : Bytes) (p : ℕ) → length b ≤ 65536 → Holds string (bits b) p → p ≤ 524288
string_near b p le h = omega (arith, string_in (bits b) p h, bits_size b)

-- what `canonical` says, by the number that was parsed
pub canonical_refused : (k : Bytes) (r : RustOption ℕ) → r ≡ parsed (parse_usize k) → r ≡ None → None ≡ parsed (canonical k)
canonical_refused k r e f = ap parsed (sym (canonical_none k (parsed_none (parse_usize k) (sym f ∙ e))))

module _ (k : Bytes) (r : RustOption ℕ) (n : ℕ) (e : r ≡ parsed (parse_usize k)) (f : r ≡ Some n) (t : Bool) (g : t ≡ same (digits n) k) where
  is_canonical : canonical k ≡ pick t (some n) none
  is_canonical = canonical_parsed k n (parsed_some (parse_usize k) n (sym f ∙ e)) ∙ ap (λ (x : Bool). pick x (some n) none) (sym g)

  pub canonical_found : t ≡ true → Some n ≡ parsed (canonical k)
  canonical_found h = ap parsed (sym (is_canonical ∙ ap (λ (x : Bool). pick x (some n) none) h))

  pub canonical_other : t ≡ false → None ≡ parsed (canonical k)
  canonical_other h = ap parsed (sym (is_canonical ∙ ap (λ (x : Bool). pick x (some n) none) h))
