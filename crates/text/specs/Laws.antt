-- What callers cite of `rest`, `Stands` and `stripped`.
use Rattle.std.specs.Prelude.{ℕ, ◌+◌, ◌≤◌, Bool, true, false, [], ◌∷◌, ◌++◌, ◌≡◌, refl, eqb}
use Rattle.std.proofs.Common.{append-nil, sym, ap, ◌∙◌, arith, eq-eqb, ne_eqb, eqb-true}
use Rattle.std.proofs.Math.Option.{none, some}
use Rattle.rules.specs.Bytes.{Bytes, pick, maybe, same, digits}
use Rattle.rules.specs.Order.{same_refl, same_eq}
use Rattle.rules.specs.Bits.{bits}
use Rattle.rules.specs.Layout.{field}
use Rattle.rules.specs.Scan.{saying}
use Rattle.bits.specs.Packed.{bytes_at}
use Rattle.saying.proofs.Remaining.{inside_start}
use Rattle.text.specs.Rest.{rest, Stands}
use Rattle.text.specs.Strip.{stripped}
use Rattle.text.specs.declared.Text.TheVariants.{Said, Part, Packed, Digits}

-- Whole texts

-- the string of the plan whose first quote stands at q
pub said_rest : (s b : Bytes) (q : ℕ) → rest s b (Said (q + 1) 0) ≡ saying s q
said_rest s b q = refl

pub said_stands : (s b : Bytes) (q : ℕ) → q ≤ 65536 → Stands s b (Said (q + 1) 0)
said_stands s b q h = inside_start s (q + 1) (omega arith)

-- a character of it, n bytes long
pub part_stands : (s b : Bytes) (i n : ℕ) → i ≤ 65548 → Stands s b (Part i 0 n)
part_stands s b i n h = inside_start s i h

-- the string that stands in the bundle at p: the layout's `text_at`
pub packed_rest : (s b : Bytes) (p n : ℕ) → n ≡ field (bits b) 16 p → rest s b (Packed (p + 16) n) ≡ bytes_at (bits b) (p + 16) (field (bits b) 16 p)
packed_rest s b p n e = ap (bytes_at (bits b) (p + 16)) e

pub digits_rest : (s b : Bytes) (n : ℕ) → rest s b (Digits n 0) ≡ digits n
digits_rest s b n = refl

-- One byte of the front

pub strip_none : (l : Bytes) → stripped [] l ≡ some l
unfolding stripped
strip_none l = refl

pub strip_short : (x : ℕ) (w : Bytes) → stripped (x ∷ w) [] ≡ none
unfolding stripped
strip_short x w = refl

module _ (x c : ℕ) (w l : Bytes) where
  pub strip_other : (c ≡ x → ⊥) → stripped (x ∷ w) (c ∷ l) ≡ none
  unfolding stripped
  strip_other ne = rw (ne_eqb c x ne)

  pub strip_on : c ≡ x → stripped (x ∷ w) (c ∷ l) ≡ stripped w l
  unfolding stripped
  strip_on e = rw (eq-eqb c x e)

-- A front of two parts

pub strip_append : (v w l : Bytes) → stripped (v ++ w) l ≡ maybe (stripped v l) none (stripped w)
unfolding stripped
strip_append [] w l = refl
strip_append (x ∷ v) w [] = refl
strip_append (x ∷ v) w (c ∷ l) = go (eqb c x) (strip_append v w l)
  where
    go : (t : Bool) → stripped (v ++ w) l ≡ maybe (stripped v l) none (stripped w)
        → pick t (stripped (v ++ w) l) none ≡ maybe (pick t (stripped v l) none) none (stripped w)
    go true e = e
    go false e = refl

-- The front, and what stands behind it

pub strip_front : (w l : Bytes) → stripped w (w ++ l) ≡ some l
strip_front [] l = strip_none l
strip_front (x ∷ w) l = strip_on x x w (w ++ l) refl ∙ strip_front w l

pub strip_is : (w l m : Bytes) → stripped w l ≡ some m → l ≡ w ++ m
unfolding stripped
strip_is [] l m h = cc
strip_is (x ∷ w) [] m h = cc
strip_is (x ∷ w) (c ∷ l) m h = go (eqb c x) refl (strip_is w l m) h
  where
    go : (t : Bool) → eqb c x ≡ t → (stripped w l ≡ some m → l ≡ w ++ m) → pick t (stripped w l) none ≡ some m → c ∷ l ≡ x ∷ (w ++ m)
    go true e f h =
        let p = eqb-true c x e in
        let q = f h in
        cc
    go false e f h = cc

-- nothing is left of the same bytes, and of no others

pub strip_all : (w l : Bytes) → same w l ≡ true → stripped w l ≡ some []
strip_all w l h = ap (stripped w) (sym (same_eq w l h) ∙ sym (append-nil w)) ∙ strip_front w []

pub all_strip : (w l : Bytes) → stripped w l ≡ some [] → same w l ≡ true
all_strip w l h = ap (same w) (strip_is w l [] h ∙ append-nil w) ∙ same_refl w
