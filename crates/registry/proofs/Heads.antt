-- The count of a string and its first byte, read at once: the 24 bits that it starts with.
use Prim.Native.Nat.{ℕ, zero, suc, ◌+◌, ◌*◌, ◌/◌, ◌<◌}
use mathlib.Core.Bool.{Bool, true, false, ◌&&◌}
use mathlib.Core.Path.{◌≡◌, refl, sym, ◌∙◌}
use native.Mathlib.Omega.{arith}
use lib.Dec.{eqb, ltb}
use borrow.Author.Tests.{eqb-true, lt-ltb, le-ltb}
use Rattle.rules.specs.Bytes.{same}
use Rattle.rules.specs.Bits.{Bits}
use Rattle.rules.specs.Layout.{field}
use Rattle.rules.specs.LayoutLaws.{Binary, field_lt}
use Rattle.bits.specs.Compare.{same_lengths}
use Rattle.bits.specs.Fields.{field_append, field_first}
use Rattle.bits.specs.Packed.{bytes_at, bytes_length}
use Rattle.layout.specs.Text.{text_at}

-- Two strings that start otherwise are the same only where both are empty

starts_differ : (b : Bits) (p q n m x y : ℕ) → x ≡ n * 256 + field b 8 p → y ≡ m * 256 + field b 8 q → field b 8 p < 256 → field b 8 q < 256 → (x ≡ y → ⊥)
    → (ltb x 256 && ltb y 256) ≡ same (bytes_at b p n) (bytes_at b q m)
unfolding bytes_at
starts_differ b p q zero zero x y e f u v h = rw (lt-ltb x 256 (omega arith), lt-ltb y 256 (omega arith))
starts_differ b p q zero (suc m) x y e f u v h = rw (lt-ltb x 256 (omega arith), le-ltb y 256 (omega arith))
starts_differ b p q (suc n) zero x y e f u v h = rw (le-ltb x 256 (omega arith))
starts_differ b p q (suc n) (suc m) x y e f u v h = rw (le-ltb x 256 (omega arith)) (go (eqb (field b 8 p) (field b 8 q)) refl)
  where
    go : (z : Bool) → eqb (field b 8 p) (field b 8 q) ≡ z → false ≡ (z && same (bytes_at b (p + 8) n) (bytes_at b (q + 8) m))
    go false i = refl
    go true i =
        let j : field b 8 p ≡ field b 8 q = eqb-true (field b 8 p) (field b 8 q) i in
        same_lengths (bytes_at b (p + 8) n) (bytes_at b (q + 8) m)
        (λ k. h (let o : n ≡ m = sym (bytes_length b (p + 8) n) ∙ k ∙ bytes_length b (q + 8) m in omega arith))

module _ (b : Bits) (bin : Binary b) where
  pub heads_differ : (p q : ℕ) → (field b 24 p ≡ field b 24 q → ⊥) → (ltb (field b 24 p) 256 && ltb (field b 24 q) 256) ≡ same (text_at b p) (text_at b q)
  heads_differ p q =
      starts_differ b (p + 16) (q + 16) (field b 16 p) (field b 16 q) (field b 24 p) (field b 24 q) (field_append b 16 8 p) (field_append b 16 8 q)
      (field_lt b bin 8 (p + 16)) (field_lt b bin 8 (q + 16))

  pub head_count : (p : ℕ) → field b 24 p / 256 ≡ field b 16 p
  head_count p = field_first b bin 16 8 p
