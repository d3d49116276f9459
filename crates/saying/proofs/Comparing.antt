-- The loops that compare strings: what is left of both decides.
use Prim.Native.Nat.{Ordering as Order}
use Rattle.std.specs.Prelude.{Option as RustOption, Some, None}
use Rattle.std.specs.Option.{is_some}
use Prim.Native.Nat.{ℕ, zero, suc, ◌+◌, ◌-◌, ◌≤◌, ◌<◌}
use mathlib.Core.Bool.{Bool, true, false, not}
use mathlib.Core.List.{[], ◌∷◌}
use mathlib.Core.Path.{◌≡◌, refl, sym, ap}
use native.Mathlib.Numerals.{add-one}
use native.Mathlib.Omega.{arith}
use lib.Dec.{eqb, ltb}
use lib.ListN.{length, get_or, drop, length-drop, drop_of_length-le}
use lib.Seq.{drop-cons}
use borrow.Author.Tests.{eq-eqb, ne_eqb, le-ltb}
use Rattle.rules.specs.Bytes.{Bytes, pick, same, before}
use Rattle.rules.specs.Order.{cmp}
use Rattle.saying.specs.Said.{Stepped}
use Rattle.saying.specs.declared.Cursor.{Cursor}
use Rattle.rules.specs.Bits.{Bits}
use Rattle.rules.specs.Layout.{field}
use Rattle.bits.specs.Packed.{bytes_at}
use Rattle.std.specs.declared.cmp.Ordering.{Ordering}
use Rattle.std.specs.declared.cmp.Ordering.TheVariants.{Less, Equal, Greater}
use Rattle.std.specs.Ordering.{is_eq, nat_cmp}
use Rattle.saying.specs.Compared.{ordering}

-- With lent bytes w, of which p were met

pub same_end : (w : Bytes) (p : ℕ) → p ≤ length w → eqb p (length w) ≡ same [] (drop p w)
same_end w p le = go (drop p w) (length-drop p w)
  where
    go : (l : Bytes) → length l ≡ length w - p → eqb p (length w) ≡ same [] l
    go [] h = eq-eqb p (length w) (omega arith)
    go (x ∷ l) h = ne_eqb p (length w) (λ e. omega arith)

pub same_past : (b : ℕ) (l w : Bytes) (p : ℕ) → length w ≤ p → false ≡ same (b ∷ l) (drop p w)
same_past b l w p le = rw (drop_of_length-le w le)

module _ (b : ℕ) (l w : Bytes) (p : ℕ) (lt : p < length w) where
  pub same_other : (get_or w p 0 ≡ b → ⊥) → false ≡ same (b ∷ l) (drop p w)
  same_other ne = rw (drop-cons w p 0 lt, ne_eqb b (get_or w p 0) (λ e. ne (sym e)))

  pub same_on : get_or w p 0 ≡ b → same (b ∷ l) (drop p w) ≡ same l (drop (p + 1) w)
  same_on e = rw (drop-cons w p 0 lt, eq-eqb b (get_or w p 0) (sym e), add-one p)

-- With packed bytes, of which n are left from the bit place q on

module _ (b : Bits) (q : ℕ) where
  pub packed_end : (n : ℕ) → eqb n 0 ≡ same [] (bytes_at b q n)
  unfolding bytes_at
  packed_end zero = refl
  packed_end (suc n) = ne_eqb (suc n) 0 (λ e. omega arith)

  pub packed_past : (x : ℕ) (l : Bytes) (n : ℕ) → n ≡ 0 → false ≡ same (x ∷ l) (bytes_at b q n)
  unfolding bytes_at
  packed_past x l n z = rw z

  pub packed_none : (l : Bytes) (n : ℕ) → n ≡ 0 → same l [] ≡ same l (bytes_at b q n)
  unfolding bytes_at
  packed_none l n z = rw z

  -- at the same place
  pub same_moved : (l : Bytes) (r n m : ℕ) → q ≡ r → n ≡ m → same l (bytes_at b q n) ≡ same l (bytes_at b r m)
  same_moved l r n m e f = rw (e, f)

  first : (n : ℕ) → (n ≡ 0 → ⊥) → bytes_at b q n ≡ field b 8 q ∷ bytes_at b (q + 8) (n - 1)
  unfolding bytes_at
  first zero h = absurd (h refl)
  first (suc n) h = let e : suc n - 1 ≡ n = omega arith in rw e

  module _ (x : ℕ) (l : Bytes) (n : ℕ) (h : n ≡ 0 → ⊥) where
    pub packed_other : (field b 8 q ≡ x → ⊥) → false ≡ same (x ∷ l) (bytes_at b q n)
    packed_other ne = rw (first n h, ne_eqb x (field b 8 q) (λ e. ne (sym e)))

    pub packed_on : field b 8 q ≡ x → same (x ∷ l) (bytes_at b q n) ≡ same l (bytes_at b (q + 8) (n - 1))
    packed_on e = rw (first n h, eq-eqb x (field b 8 q) (sym e))

-- Of two strings, of which a ∷ l and b ∷ r are left

module _ (a b : ℕ) (l r : Bytes) where
  pub cmp_differ : (a ≡ b → ⊥) → ordering (nat_cmp a b) ≡ cmp (a ∷ l) (b ∷ r)
  cmp_differ ne = go (ltb a b) refl
    where
      go : (t : Bool) → ltb a b ≡ t → ordering (nat_cmp a b) ≡ cmp (a ∷ l) (b ∷ r)
      go true e = rw (ne_eqb a b ne, e)
      go false e = rw (ne_eqb a b ne, e)

  pub cmp_on : a ≡ b → cmp (a ∷ l) (b ∷ r) ≡ cmp l r
  cmp_on e = rw (eq-eqb a b e, le-ltb a b (omega arith))

-- equal are those that are the same
pub equal_same : (a b : Bytes) (r : Ordering) → ordering r ≡ cmp a b → is_eq r ≡ same a b
equal_same a b r e = go (same a b) (before a b) r e
  where
    go : (p q : Bool) (r : Ordering) → ordering r ≡ pick p Order.eq (pick q Order.lt Order.gt) → is_eq r ≡ p
    go true q Less e = cc
    go true q Equal e = refl
    go true q Greater e = cc
    go false true Less e = refl
    go false true Equal e = cc
    go false true Greater e = refl
    go false false Less e = refl
    go false false Equal e = cc
    go false false Greater e = refl

-- The step is none just where nothing is left
pub none_left : (s l : Bytes) (o : RustOption (ℕ × Cursor)) (r : Bool) → Stepped s l o → is_some o ≡ not r → r ≡ same l []
none_left s l (Some (b, c)) true e h = cc
none_left s l (Some (b, c)) false e h = sym (ap (λ (y : Bytes). same y []) e.0)
none_left s l None true e h = sym (ap (λ (y : Bytes). same y []) e)
none_left s l None false e h = cc
