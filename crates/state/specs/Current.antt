-- The array that stands beside a context, and the scopes that both say.
use Rattle.std.specs.Prelude.{ℕ, zero, suc, ◌+◌, ◌-◌, ◌≤◌, ◌<◌, List, [], ◌∷◌, ◌≡◌, refl, length, get_or, set, replicate}
use Rattle.std.proofs.Common.{sym, ap, ap₂, ◌∙◌, subst, arith, length-set, get_or-set_same, get_or-set_other}
use Rattle.scope.specs.declared.Scope.{Scope}
use Rattle.scope.specs.Scopes.{blank}
use Rattle.scope.specs.Made.{with_count}
use Rattle.state.specs.declared.RenderContext as code
use Rattle.state.specs.Context.{gained, whole}

set_self : (l : List Scope) (i : ℕ) (c : Scope) → get_or l i blank ≡ c → i < length l → set l i c ≡ l
set_self [] i c e lt = absurd (omega arith)
set_self (x ∷ l) zero c e lt = ap (λ (y : Scope). y ∷ l) (sym e)
set_self (x ∷ l) (suc i) c e lt = ap (λ (y : List Scope). x ∷ y) (set_self l i c e (omega arith))

set_again : (l : List Scope) (i : ℕ) (c d : Scope) → set (set l i c) i d ≡ set l i d
set_again [] i c d = refl
set_again (x ∷ l) zero c d = refl
set_again (x ∷ l) (suc i) c d = ap (λ (y : List Scope). x ∷ y) (set_again l i c d)

counted_self : (c : Scope) (n : ℕ) → c.count ≡ n → c ≡ with_count c n
counted_self c n e = ap (with_count c) e

module _ (l : List Scope) (n k : ℕ) where
  -- an array that knows of all inline partials says the scopes as they are
  pub gained_current : length l ≡ 32 → n ≤ 32 → (get_or l (n - 1) blank).count ≡ k → gained l n k ≡ l
  gained_current e le f = set_self l (n - 1) (with_count (get_or l (n - 1) blank) k) (counted_self (get_or l (n - 1) blank) k f) (omega arith)

  pub gained_push : (c : Scope) → length l ≡ 32 → n < 32 → (get_or l (n - 1) blank).count ≡ k → c.count ≡ 0 → gained (set l n c) (n + 1) 0 ≡ set (gained l n k) n c
  gained_push c e lt f g =
      let x : n + 1 - 1 ≡ n = omega arith in
      ap (λ (i : ℕ). set (set l n c) i (with_count (get_or (set l n c) i blank) 0)) x
      ∙ ap (λ (d : Scope). set (set l n c) n (with_count d 0)) (get_or-set_same l n c blank (omega arith))
      ∙ set_again l n c (with_count c 0)
      ∙ ap (set l n) (sym (counted_self c 0 g))
      ∙ ap (λ (m : List Scope). set m n c) (sym (gained_current e (omega arith) f))

  pub gained_length : length l ≡ 32 → length (gained l n k) ≡ 32
  gained_length e = length-set l (n - 1) (with_count (get_or l (n - 1) blank) k) ∙ e

  pub newest_gained : length l ≡ 32 → n ≤ 32 → (get_or (gained l n k) (n - 1) blank).count ≡ k
  newest_gained e le = ap (λ (d : Scope). d.count) (get_or-set_same l (n - 1) (with_count (get_or l (n - 1) blank) k) blank (omega arith))

-- contexts that say the same scopes of every array have as many inline partials
pub same_count : (c d : code.RenderContext) → c.used ≡ d.used → d.used ≤ 32 → ((l : List Scope) → (whole c l).scopes ≡ (whole d l).scopes) → c.count ≡ d.count
same_count c d e most h =
    let l : List Scope = replicate 32 blank in
    let f : c.used ≤ 32 = omega (arith, e, most) in
    sym (newest_gained l c.used c.count refl f)
    ∙ ap (λ (m : List Scope). (get_or m (c.used - 1) blank).count) (h l)
    ∙ ap (λ (n : ℕ). (get_or (gained l d.used d.count) (n - 1) blank).count) e
    ∙ newest_gained l d.used d.count refl most
