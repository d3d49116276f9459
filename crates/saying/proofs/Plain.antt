-- The byte c of a text at i, where a character starts, against n bytes packed from the bit place q on.
use Prim.Native.Nat.{ℕ, zero, suc, ◌+◌, ◌-◌, ◌≤◌, ◌<◌}
use mathlib.Core.Bool.{true, false}
use mathlib.Core.List.{◌∷◌}
use mathlib.Core.Path.{◌≡◌, refl, sym, ap, ◌∙◌, subst}
use native.Mathlib.Omega.{arith}
use lib.Dec.{eqb}
use lib.ListN.{length}
use Rattle.rules.specs.Bytes.{Bytes, same, byte_at}
use Rattle.rules.specs.Bits.{Bits}
use Rattle.rules.specs.Layout.{field}
use Rattle.bits.specs.Packed.{bytes_at}
use Rattle.saying.specs.Said.{remaining, is_own}
use Rattle.saying.proofs.Remaining.{left_quote, inside_start, own_in, own_step}
use Rattle.saying.proofs.Comparing.{packed_end, packed_past, packed_other, packed_on}

module _ (s : Bytes) (b : Bits) (i q n c : ℕ) (e : c ≡ byte_at s i) where
  pub plain_end : c ≡ 34 → eqb n 0 ≡ same (remaining s i 0) (bytes_at b q n)
  plain_end h = packed_end b q n ∙ ap (λ (l : Bytes). same l (bytes_at b q n)) (sym (left_quote s i 0 (sym e ∙ h)))

  module _ (own : is_own c ≡ true) (near : i ≤ 65548) where
    here : is_own (byte_at s i) ≡ true
    here = subst (λ (x : ℕ). is_own x ≡ true) e own

    first : remaining s i 0 ≡ c ∷ remaining s (i + 1) 0
    first = own_step s i 0 here (inside_start s i near) ∙ ap (λ (x : ℕ). x ∷ remaining s (i + 1) 0) (sym e)

    pub plain_near : length s ≤ 65536 → i + 1 ≤ 65548
    plain_near h = omega (arith, own_in s i here)

    pub plain_past : n ≡ 0 → false ≡ same (remaining s i 0) (bytes_at b q n)
    plain_past z = rw first (packed_past b q c (remaining s (i + 1) 0) n z)

    module _ (x : ℕ) (f : x ≡ field b 8 q) where
      -- where there is none, another one than the first does as well
      pub plain_other : (x ≡ c → ⊥) → false ≡ same (remaining s i 0) (bytes_at b q n)
      plain_other ne = go n refl
        where
          go : (m : ℕ) → n ≡ m → false ≡ same (remaining s i 0) (bytes_at b q n)
          go zero z = plain_past z
          go (suc m) z = rw first (packed_other b q c (remaining s (i + 1) 0) n (λ y. omega arith) (λ y. ne (f ∙ y)))

      pub plain_on : (n ≡ 0 → ⊥) → x ≡ c → same (remaining s i 0) (bytes_at b q n) ≡ same (remaining s (i + 1) 0) (bytes_at b (q + 8) (n - 1))
      plain_on some z = rw first (packed_on b q c (remaining s (i + 1) 0) n some (sym f ∙ z))
