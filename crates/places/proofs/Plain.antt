-- The byte a of a string at p that stands for itself.
use Prim.Native.Nat.{ℕ, ◌+◌, ◌<◌}
use mathlib.Core.Bool.{true, not}
use mathlib.Core.List.{◌∷◌}
use mathlib.Core.Path.{◌≡◌, sym, ap, ap₂, ◌∙◌}
use native.Mathlib.Omega.{arith}
use lib.Dec.{eqb, ltb}
use lib.ListN.{length}
use borrow.Author.Tests.{ltb-true, eqb-false}
use Rattle.rules.specs.Bytes.{Bytes, byte_at}
use Rattle.rules.specs.Order.{and_left, and_right, cmp}
use Rattle.scan.proofs.Bounds.{in_text}
use Rattle.saying.specs.Said.{remaining}
use Rattle.saying.proofs.Remaining.{left_plain}
use Rattle.saying.proofs.Comparing.{cmp_differ, cmp_on}
use Rattle.saying.specs.Compared.{ordering}
use Rattle.std.specs.Ordering.{nat_cmp}
use Rattle.places.proofs.Walking.{no_not}
use Rattle.places.specs.Kinds.{is_plain}

module _ (s : Bytes) (p a : ℕ) (e : a ≡ byte_at s p) (h : is_plain a ≡ true) where
  high : 34 < byte_at s p
  high = omega (arith, ltb-true 34 a (and_left (ltb 34 a) (not (eqb a 92)) h))

  other : byte_at s p ≡ 92 → ⊥
  other z = eqb-false a 92 (no_not (eqb a 92) (and_right (ltb 34 a) (not (eqb a 92)) h)) (e ∙ z)

  pub plain_in : p < length s
  plain_in = in_text s p (λ z. omega (arith, high))

  pub plain_first : remaining s p 0 ≡ a ∷ remaining s (p + 1) 0
  plain_first = left_plain s p (omega (arith, high)) (λ z. omega (arith, high)) other ∙ ap (λ (x : ℕ). x ∷ remaining s (p + 1) 0) (sym e)

-- Two such bytes, a at p and b at q
module _ (s : Bytes) (p a : ℕ) (e : a ≡ byte_at s p) (h : is_plain a ≡ true) (q b : ℕ) (f : b ≡ byte_at s q) (k : is_plain b ≡ true) where
  both : cmp (remaining s p 0) (remaining s q 0) ≡ cmp (a ∷ remaining s (p + 1) 0) (b ∷ remaining s (q + 1) 0)
  both = ap₂ cmp (plain_first s p a e h) (plain_first s q b f k)

  pub plain_differ : (a ≡ b → ⊥) → ordering (nat_cmp a b) ≡ cmp (remaining s p 0) (remaining s q 0)
  plain_differ ne = cmp_differ a b (remaining s (p + 1) 0) (remaining s (q + 1) 0) ne ∙ sym both

  pub plain_on : a ≡ b → cmp (remaining s p 0) (remaining s q 0) ≡ cmp (remaining s (p + 1) 0) (remaining s (q + 1) 0)
  plain_on h = both ∙ cmp_on a b (remaining s (p + 1) 0) (remaining s (q + 1) 0) h
