-- What the readers answer, as functions of the tag that stands at a place.
use Rattle.std.specs.Prelude.{ℕ, zero, suc, ◌+◌, ◌-◌, true, false, ◌≡◌, Option as RustOption, Some, None}
use Rattle.std.proofs.Common.{sym, ap, ◌∙◌, arith}
use Rattle.rules.specs.Bits.{Bits}
use Rattle.rules.specs.Layout.{field}
use Rattle.rules.specs.Bundle.{string, twos_complement}
use Rattle.parts.specs.Holds.{end}
use Rattle.parts.specs.declared.Text.{Text}
use Rattle.parts.specs.declared.Segment.{Segment}
use Rattle.parts.specs.declared.Segment.TheVariants.{Named, Root, Up}
use Rattle.parts.specs.declared.Path.{Path}
use Rattle.parts.specs.declared.Path.TheVariants.{Relative, Local}
use Rattle.parts.specs.declared.Literal.{Literal}
use Rattle.parts.specs.declared.Literal.TheVariants.{Null, Boolean, Unsigned, Negative, String}
use Rattle.parts.specs.declared.BlockParam.{BlockParam}
use Rattle.parts.specs.declared.BlockParam.TheVariants.{None, Single, Pair}

abbrev pub text_view : Bits → ℕ → Text
text_view b p = record { count = field b 16 p; first = p + 16 }

-- q is the place behind the tag

abbrev pub segment_of : Bits → ℕ → ℕ → Segment
segment_of b q zero = Named q (end string b q)
segment_of b q (suc zero) = Root q
segment_of b q (suc (suc k)) = Up q

abbrev pub segment_view : Bits → ℕ → Segment
segment_view b p = segment_of b (p + 2) (field b 2 p)

abbrev pub path_of : Bits → ℕ → ℕ → Path
path_of b q zero = Relative (field b 8 q) (q + 8)
path_of b q (suc k) = Local (field b 8 q) (q + 8)

abbrev pub path_view : Bits → ℕ → Path
path_view b p = path_of b (end string b p + 1) (field b 1 (end string b p))

-- the code's sums, q + 9 for q + 1 + 8
module _ (b : Bits) (p q k n : ℕ) (hq : q ≡ end string b p) (hk : k ≡ field b 1 q) (hn : n ≡ field b 8 (q + 1)) where
  view : (m : ℕ) → k ≡ m → path_of b (q + 1) m ≡ path_view b p
  view m e = ap (path_of b (q + 1)) (sym e ∙ hk) ∙ ap (λ (q : ℕ). path_of b (q + 1) (field b 1 q)) hq

  pub path_relative_view : k ≡ 0 → Relative n (q + 9) ≡ path_view b p
  path_relative_view e =
      let s : q + 9 ≡ q + 1 + 8 = omega arith in
      ap (λ (m : ℕ). Relative m (q + 9)) hn ∙ ap (Relative (field b 8 (q + 1))) s ∙ view 0 e

  pub path_local_view : (k ≡ 0 → ⊥) → Local n (q + 9) ≡ path_view b p
  path_local_view h =
      let s : q + 9 ≡ q + 1 + 8 = omega arith in
      let e : k ≡ suc (k - 1) = omega arith in
      ap (λ (m : ℕ). Local m (q + 9)) hn ∙ ap (Local (field b 8 (q + 1))) s ∙ view (suc (k - 1)) e

abbrev pub literal_of : Bits → ℕ → ℕ → Literal
literal_of b q zero = Null
literal_of b q (suc zero) = Boolean false
literal_of b q (suc (suc zero)) = Boolean true
literal_of b q (suc (suc (suc zero))) = Unsigned (field b 64 q)
literal_of b q (suc (suc (suc (suc zero)))) = Negative (twos_complement (field b 64 q))
literal_of b q (suc (suc (suc (suc (suc k))))) = String q

abbrev pub literal_view : Bits → ℕ → Literal
literal_view b p = literal_of b (p + 3) (field b 3 p)

abbrev pub names_of : Bits → ℕ → ℕ → BlockParam
names_of b q zero = None
names_of b q (suc zero) = Single q
names_of b q (suc (suc k)) = Pair q (end string b q)

abbrev pub names_view : Bits → ℕ → BlockParam
names_view b p = names_of b (p + 2) (field b 2 p)

abbrev pub maybe_of : ℕ → ℕ → RustOption ℕ
maybe_of q zero = None
maybe_of q (suc k) = Some q

abbrev pub maybe_view : Bits → ℕ → RustOption ℕ
maybe_view b p = maybe_of (p + 1) (field b 1 p)
