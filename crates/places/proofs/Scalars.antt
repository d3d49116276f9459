-- What the first byte of a value says of it.
use Rattle.std.specs.Prelude.{Option as RustOption, Some, None}
use Prim.Native.Nat.{ℕ, suc, ◌+◌, ◌≤◌, ◌<◌}
use mathlib.Core.Bool.{Bool, true, false, ◌||◌}
use mathlib.Core.Path.{◌≡◌, refl, sym, ap, ◌∙◌, subst}
use native.Mathlib.Omega.{arith}
use lib.Dec.{eqb, leb}
use lib.ListN.{length}
use borrow.Author.Tests.{eq-eqb, ne_eqb, le-leb, eqb-true}
use Rattle.rules.specs.Bytes.{Bytes, pick, byte_at, same, before}
use Rattle.rules.specs.Order.{differ}
use Rattle.rules.specs.Json.{Json, jnull, jbool, jpos, jneg, jstr, jarr, jobj, Map, mnil, mcons, insert, no_members, Fits}
use Rattle.rules.specs.Scan.{saying, magnitude, minus_end, whole_end, decimal_value, slice}
use Rattle.rules.specs.Tree.{Tree, tree, Trees, tree_nil, tree_cons, is_open}
use Rattle.rules.specs.Plan.{size, sizes, name_of, answer, scalar_at, meaning, meanings, members_onto}
use Rattle.scan.specs.Sized.{sized}
use Rattle.places.specs.declared.Kind.{Kind}
use Rattle.places.specs.Places.{start_of, inside, places, tree_at, json_at}
use Rattle.places.specs.Kinds.{kind_of, kind_by, is_other, magnitude_of, is_empty}
use Rattle.places.specs.Nodes.{size_positive, sound_at}
use Rattle.places.specs.Children.{end_at}
use Rattle.places.specs.Ascending.{at_fits}

module _ (s : Bytes) (i : ℕ) where
  abbrev first_byte : ℕ
  first_byte = byte_at s (start_of (tree_at s i))

  pub kind_is : kind_by first_byte ≡ kind_of (json_at s i)
  unfolding json_at kind_by scalar_at
  kind_is = go (tree_at s i)
    where
      go : (t : Tree) → kind_by (byte_at s (start_of t)) ≡ kind_of (meaning s t)
      go (tree b m l) =
          by (eqb (byte_at s b) 91) (eqb (byte_at s b) 123) (eqb (byte_at s b) 34) (eqb (byte_at s b) 116) (eqb (byte_at s b) 102) (eqb (byte_at s b) 110) (eqb (byte_at s b) 45)
        where
          by : (x1 x2 x3 x4 x5 x6 x7 : Bool)
              → pick x1 Kind.List (pick x2 Kind.Object (pick x3 Kind.Text (pick x4 Kind.True (pick x5 Kind.False (pick x6 Kind.Null (pick x7 Kind.Negative Kind.Unsigned))))))
              ≡ kind_of (pick x1 (jarr (meanings s l)) (pick x2 (jobj (members_onto s mnil l))
              (pick x3 (jstr (saying s b)) (pick x4 (jbool true) (pick x5 (jbool false) (pick x6 jnull (pick x7 (jneg (magnitude s b)) (jpos (magnitude s b)))))))))
          by true x2 x3 x4 x5 x6 x7 = refl
          by false true x3 x4 x5 x6 x7 = refl
          by false false true x4 x5 x6 x7 = refl
          by false false false true x5 x6 x7 = refl
          by false false false false true x6 x7 = refl
          by false false false false false true x7 = refl
          by false false false false false false true = refl
          by false false false false false false false = refl

  pub no_number : is_other first_byte ≡ true → 0 ≡ magnitude_of (json_at s i)
  unfolding json_at is_other scalar_at
  no_number h = go (tree_at s i) h
    where
      go : (t : Tree) → is_other (byte_at s (start_of t)) ≡ true → 0 ≡ magnitude_of (meaning s t)
      go (tree b m l) e = by (eqb (byte_at s b) 91) (eqb (byte_at s b) 123) (eqb (byte_at s b) 34) (eqb (byte_at s b) 116) (eqb (byte_at s b) 102) (eqb (byte_at s b) 110) e
        where
          by : (x1 x2 x3 x4 x5 x6 : Bool) → ((x1 || x2) || (x3 || (x4 || (x5 || x6)))) ≡ true
              → 0 ≡ magnitude_of (pick x1 (jarr (meanings s l)) (pick x2 (jobj (members_onto s mnil l))
              (pick x3 (jstr (saying s b)) (pick x4 (jbool true) (pick x5 (jbool false) (pick x6 jnull (pick (eqb (byte_at s b) 45) (jneg (magnitude s b)) (jpos (magnitude s b)))))))))
          by true x2 x3 x4 x5 x6 k = refl
          by false true x3 x4 x5 x6 k = refl
          by false false true x4 x5 x6 k = refl
          by false false false true x5 x6 k = refl
          by false false false false true x6 k = refl
          by false false false false false true k = refl
          by false false false false false false k = differ (sym k)

  pub is_number : is_other first_byte ≡ false → magnitude s (start_of (tree_at s i)) ≡ magnitude_of (json_at s i)
  unfolding json_at is_other scalar_at
  is_number h = go (tree_at s i) h
    where
      go : (t : Tree) → is_other (byte_at s (start_of t)) ≡ false → magnitude s (start_of t) ≡ magnitude_of (meaning s t)
      go (tree b m l) e = by (eqb (byte_at s b) 91) (eqb (byte_at s b) 123) (eqb (byte_at s b) 34) (eqb (byte_at s b) 116) (eqb (byte_at s b) 102) (eqb (byte_at s b) 110) (eqb (byte_at s b) 45) e
        where
          by : (x1 x2 x3 x4 x5 x6 x7 : Bool) → ((x1 || x2) || (x3 || (x4 || (x5 || x6)))) ≡ false
              → magnitude s b ≡ magnitude_of (pick x1 (jarr (meanings s l)) (pick x2 (jobj (members_onto s mnil l))
              (pick x3 (jstr (saying s b)) (pick x4 (jbool true) (pick x5 (jbool false) (pick x6 jnull (pick x7 (jneg (magnitude s b)) (jpos (magnitude s b)))))))))
          by true x2 x3 x4 x5 x6 x7 k = differ k
          by false true x3 x4 x5 x6 x7 k = differ k
          by false false true x4 x5 x6 x7 k = differ k
          by false false false true x5 x6 x7 k = differ k
          by false false false false true x6 x7 k = differ k
          by false false false false false true x7 k = differ k
          by false false false false false false true k = refl
          by false false false false false false false k = refl

  -- what the code asked
  pub other_by : (b c : ℕ) (r : Bool) → r ≡ is_other c → c ≡ byte_at s b → b ≡ start_of (tree_at s i) → r ≡ is_other first_byte
  other_by b c r h e f = h ∙ ap is_other (e ∙ ap (byte_at s) f)

  magnitude_fits : (j : Json) → Fits j → magnitude_of j ≤ 18446744073709551615
  magnitude_fits jnull f = omega arith
  magnitude_fits (jbool b) f = omega arith
  magnitude_fits (jpos n) f = omega arith
  magnitude_fits (jneg n) f = omega arith
  magnitude_fits (jstr b) f = omega arith
  magnitude_fits (jarr l) f = omega arith
  magnitude_fits (jobj m) f = omega arith

  module _ (h : answer s ≡ 0) (lt : i < places s) (o : is_other first_byte ≡ false) (r : RustOption ℕ)
      (b d w : ℕ) (hb : b ≡ start_of (tree_at s i)) (hd : d ≡ minus_end s b) (hw : w ≡ whole_end s d) (e : r ≡ sized (decimal_value 0 (slice s d w))) where
    read : sized (decimal_value 0 (slice s d w)) ≡ sized (magnitude_of (json_at s i))
    unfolding magnitude
    read = rw (hw, hd, hb) (ap sized (is_number o))

    sized_is : r ≡ Some (magnitude_of (json_at s i))
    sized_is = e ∙ read ∙ rw (le-leb (magnitude_of (json_at s i)) 18446744073709551615 (magnitude_fits (json_at s i) (at_fits s h i lt)))

    pub number_read : (n : ℕ) → r ≡ Some n → n ≡ magnitude_of (json_at s i)
    number_read n f = let g = sized_is in cc

    pub number_small : (n : ℕ) → r ≡ None → n ≡ magnitude_of (json_at s i)
    number_small n f = let g = sized_is in let z : ◌≡◌ {A = ℕ} 0 1 = cc in absurd (omega arith)

-- What holds nothing

full_insert : (k : Bytes) (v : Json) (m : Map) → no_members (insert k v m) ≡ false
full_insert k v mnil = refl
full_insert k v (mcons n j l) = go (same k n) (before k n)
  where
    go : (x y : Bool) → no_members (pick x (mcons k v l) (pick y (mcons k v (mcons n j l)) (mcons n j (insert k v l)))) ≡ false
    go true y = refl
    go false true = refl
    go false false = refl

full_members : (s : Bytes) (l : Trees) (acc : Map) → no_members acc ≡ false → no_members (members_onto s acc l) ≡ false
full_members s tree_nil acc e = e
full_members s (tree_cons t l) acc e = full_members s l _ (full_insert (saying s (name_of t)) (meaning s t) acc)

scalar_empty : (s : Bytes) (b : ℕ) → is_empty (scalar_at s b) ≡ true
unfolding scalar_at
scalar_empty s b = go (eqb (byte_at s b) 34) (eqb (byte_at s b) 116) (eqb (byte_at s b) 102) (eqb (byte_at s b) 110) (eqb (byte_at s b) 45)
  where
    go : (a c d e f : Bool) → is_empty (pick a (jstr (saying s b)) (pick c (jbool true) (pick d (jbool false) (pick e jnull (pick f (jneg (magnitude s b)) (jpos (magnitude s b))))))) ≡ true
    go true c d e f = refl
    go false true d e f = refl
    go false false true e f = refl
    go false false false true f = refl
    go false false false false true = refl
    go false false false false false = refl

module _ (s : Bytes) (h : answer s ≡ 0) (i : ℕ) (lt : i < places s) where
  pub empty_is : (e : ℕ) → e ≡ end_at s i → eqb e (i + 1) ≡ is_empty (json_at s i)
  unfolding json_at is_open
  empty_is e q = go (tree_at s i) q (sound_at s h i lt).alone
    where
      list : (l : Trees) → e ≡ i + (1 + sizes l) → eqb e (i + 1) ≡ is_empty (jarr (meanings s l))
      list tree_nil q = eq-eqb e (i + 1) (omega arith)
      list (tree_cons t l) q = ne_eqb e (i + 1) (λ z. omega (arith, size_positive t))

      object : (l : Trees) → e ≡ i + (1 + sizes l) → eqb e (i + 1) ≡ is_empty (jobj (members_onto s mnil l))
      object tree_nil q = eq-eqb e (i + 1) (omega arith)
      object (tree_cons t l) q = ne_eqb e (i + 1) (λ z. omega (arith, size_positive t)) ∙ sym (full_members s l _ refl)

      go : (t : Tree) → e ≡ i + size t → (is_open (byte_at s (start_of t)) ≡ false → inside t ≡ tree_nil) → eqb e (i + 1) ≡ is_empty (meaning s t)
      go (tree b m l) q f = by (eqb (byte_at s b) 91) (eqb (byte_at s b) 123) f
        where
          by : (x y : Bool) → ((x || (y || false)) ≡ false → l ≡ tree_nil) → eqb e (i + 1) ≡ is_empty (pick x (jarr (meanings s l)) (pick y (jobj (members_onto s mnil l)) (scalar_at s b)))
          by true y g = list l q
          by false true g = object l q
          by false false g = eq-eqb e (i + 1) (q ∙ omega (arith, ap sizes (g refl))) ∙ sym (scalar_empty s b)
