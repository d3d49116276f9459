-- Parts of packed strings.
use mathlib.Core.Path.{◌≡◌, sym, ap, ◌∙◌}
use Prim.Native.Nat.{ℕ, ◌+◌, ◌-◌, ◌*◌, ◌≤◌}
use native.Mathlib.Omega.{arith}
use mathlib.Core.List.{◌++◌}
use lib.ListN.{take, drop}
use lib.Seq.{sets, take_at, drop_at}
use Rattle.rules.specs.Bytes.{Bytes}
use Rattle.rules.specs.Bits.{Bits}
use Rattle.bits.specs.Packed.{bytes_at, bytes_length, bytes_append}
use Rattle.output.proofs.Texts.{sets_behind}

module _ (b : Bits) (p n k : ℕ) (h : k ≤ n) where
  parts : bytes_at b p n ≡ bytes_at b p k ++ bytes_at b (p + 8 * k) (n - k)
  parts = let e : n ≡ k + (n - k) = omega arith in ap (bytes_at b p) e ∙ bytes_append b p k (n - k)

  pub take_packed : take k (bytes_at b p n) ≡ bytes_at b p k
  take_packed = ap (take k) parts ∙ take_at (bytes_at b p k) (bytes_at b (p + 8 * k) (n - k)) k (bytes_length b p k)

  pub drop_packed : drop k (bytes_at b p n) ≡ bytes_at b (p + 8 * k) (n - k)
  drop_packed = ap (drop k) parts ∙ drop_at (bytes_at b p k) (bytes_at b (p + 8 * k) (n - k)) k (bytes_length b p k)

-- m bytes from the byte k on
pub part_packed : (b : Bits) (p n k m : ℕ) → k + m ≤ n → take m (drop k (bytes_at b p n)) ≡ bytes_at b (p + 8 * k) m
part_packed b p n k m h = ap (take m) (drop_packed b p n k (omega arith)) ∙ take_packed b (p + 8 * k) (n - k) m (omega arith)

-- k bytes more are copied
pub copy_packed_more : (l : Bytes) (b : Bits) (at p i k : ℕ) → sets (sets l at (bytes_at b p i)) (at + i) (bytes_at b (p + 8 * i) k) ≡ sets l at (bytes_at b p (i + k))
copy_packed_more l b at p i k =
    ap (λ (j : ℕ). sets (sets l at (bytes_at b p i)) (at + j) (bytes_at b (p + 8 * i) k)) (sym (bytes_length b p i))
    ∙ sets_behind (bytes_at b p i) (bytes_at b (p + 8 * i) k) l at ∙ ap (sets l at) (sym (bytes_append b p i k))
