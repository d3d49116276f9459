-- Strings of the bundle that are no helper's name, by their count and first byte.
use Rattle.std.specs.Prelude.{ℕ, true, false, ◌≡◌, refl}
use Rattle.std.proofs.Common.{arith, sym, ap, ◌∙◌, lit<}
use Rattle.rules.specs.Bytes.{ascii}
use Rattle.rules.specs.Bits.{Bits}
use Rattle.rules.specs.Layout.{field}
use Rattle.rules.specs.Registry.{get_helper}
use Rattle.layout.specs.Text.{text_at}
use Rattle.names.specs.Head.{head_of, other_head}
use Rattle.expand.specs.declared.HelperDef.TheVariants.{Unknown}
use Rattle.expand.specs.Answers.{helper_of, may_name}

module _ (b : Bits) (p : ℕ) where
  pub get_elsewhere : (x : ℕ) → x ≡ field b 24 p → (x ≡ head_of (ascii "each") → ⊥) → (x ≡ head_of (ascii "with") → ⊥) → (x ≡ head_of (ascii "if") → ⊥)
      → (x ≡ head_of (ascii "unless") → ⊥) → (x ≡ head_of (ascii "lookup") → ⊥) → Unknown ≡ helper_of (get_helper (text_at b p))
  get_elsewhere x e f g h i j =
      rw (
        other_head b p (ascii "each") (lit< tt) (λ q. f (e ∙ q)),
        other_head b p (ascii "with") (lit< tt) (λ q. g (e ∙ q)),
        other_head b p (ascii "if") (lit< tt) (λ q. h (e ∙ q)),
        other_head b p (ascii "unless") (lit< tt) (λ q. i (e ∙ q)),
        other_head b p (ascii "lookup") (lit< tt) (λ q. j (e ∙ q)),
      )

  -- the same by the test of the 24 bits
  pub no_name : may_name (field b 24 p) ≡ false → Unknown ≡ helper_of (get_helper (text_at b p))
  no_name h = get_elsewhere (field b 24 p) refl (other _ refl) (other _ refl) (other _ refl) (other _ refl) (other _ refl)
    where
      other : (n : ℕ) → may_name n ≡ true → field b 24 p ≡ n → ⊥
      other n t e =
          let c : true ≡ false = sym t ∙ sym (ap may_name e) ∙ h in
          let z : ◌≡◌ {A = ℕ} 0 1 = cc in
          omega arith
