-- Packed bytes fed to the machine of UTF-8, one by one.
use Prim.Native.Nat.{ℕ, ◌+◌, ◌*◌}
use mathlib.Core.List.{[], ◌∷◌, ◌++◌}
use mathlib.Core.Path.{◌≡◌, refl, sym, ap, ◌∙◌}
use Rattle.rules.specs.Bits.{Bits}
use Rattle.rules.specs.Layout.{field}
use Rattle.rules.specs.Utf8.{Wants, more}
use Rattle.bits.specs.Packed.{bytes_at, bytes_append}
use Rattle.utf8.specs.Machine.{begun, after}
use Rattle.utf8.proofs.Laws.{fed_byte}

module _ (b : Bits) (p : ℕ) where
  pub feed_none : (w : Wants) → w ≡ begun → w ≡ after begun (bytes_at b p 0)
  unfolding bytes_at
  feed_none w e = e

  one : (q : ℕ) → bytes_at b q 1 ≡ field b 8 q ∷ []
  unfolding bytes_at
  one q = refl

  pub feed_one : (i c : ℕ) (w next : Wants) → w ≡ after begun (bytes_at b p i) → c ≡ field b 8 (p + 8 * i) → next ≡ more w c → next ≡ after begun (bytes_at b p (i + 1))
  feed_one i c w next e h n =
      fed_byte begun (bytes_at b p i) c w next e n
      ∙ ap (after begun) (sym (bytes_append b p i 1 ∙ ap (λ l. bytes_at b p i ++ l) (one (p + 8 * i) ∙ ap (λ (x : ℕ). x ∷ []) (sym h))))
