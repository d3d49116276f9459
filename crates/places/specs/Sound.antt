-- What the reader of a plan leaves: every place is one of the text, strings and names end, and only lists and objects hold values.
use Prim.Native.Nat.{ℕ, zero, suc, ◌+◌, ◌≤◌, ◌<◌}
use Rattle.std.specs.Prelude.{Bool, eqb}
use Rattle.std.proofs.Math.Bool.{true, false}
use mathlib.Core.List.{[], ◌∷◌}
use Rattle.std.proofs.Math.Path.{◌≡◌, refl}
use Rattle.std.proofs.Common.{sym, ap, ◌∙◌, subst}
use native.Mathlib.Omega.{arith}
use Rattle.std.proofs.Math.ListN.{length}
use borrow.Author.Tests.{eqb-true, eqb-false, eq-eqb, ne_eqb}
use Rattle.rules.specs.Bytes.{Bytes, pick, byte_at, run}
use Rattle.rules.specs.Order.{differ}
use Rattle.rules.specs.Scan.{is_space, spaces_end, word_end, is_digit, whole_end, fraction_end, exponent_end, number_end, string_end, scalar_end}
use Rattle.rules.specs.Tree.{Tree, tree, Trees, tree_nil, tree_cons, Value, no_value, value, Values, no_values, values, Reader, leaf}
use Rattle.rules.specs.Tree.{colon_end, name_end, item_place, item_name, item, prepend, joined, behind, items, is_open, whole, container, value_of}
use Rattle.rules.specs.Plan.{text, name_of, nothing_behind}
use Rattle.scan.proofs.Bounds.{by_cases, in_text, eq_in, spaces_go}
use Rattle.saying.specs.Characters.{Whole}
use Rattle.plan_read.proofs.Opens.{scalar_goes, open_in, place_goes, name_before}

pub record SoundAt (s : Bytes) (i m : ℕ) (l : Trees) : Type 0 where
  pub within : i < length s
  pub name_within : m < length s
  pub string : byte_at s i ≡ 34 → Whole s (i + 1)
  pub alone : is_open (byte_at s i) ≡ false → l ≡ tree_nil

-- a member has a name
abbrev pub SoundName : Bytes → Bool → ℕ → Type 0
SoundName s true m = Whole s (m + 1)
SoundName s false m = Unit {0}

abbrev mutual
  pub Sound : Bytes → Tree → Type 0
  Sound s (tree i m l) = SoundAt s i m l × SoundAll s (eqb (byte_at s i) 123) l

  pub SoundAll : Bytes → Bool → Trees → Type 0
  SoundAll s named tree_nil = Unit {0}
  SoundAll s named (tree_cons t l) = SoundName s named (name_of t) × (Sound s t × SoundAll s named l)

-- The reader

abbrev Tidy : Bytes → Value → Type 0
Tidy s no_value = Unit {0}
Tidy s (value t e) = Sound s t × (e ≤ length s)

abbrev TidyAll : Bytes → Bool → Values → Type 0
TidyAll s named no_values = Unit {0}
TidyAll s named (values l e) = SoundAll s named l × (e ≤ length s)

-- with the name m
abbrev Named : ℕ → Value → Type 0
Named m no_value = Unit {0}
Named m (value t e) = name_of t ≡ m

pick_named : (m : ℕ) (b : Bool) (v w : Value) → Named m v → Named m w → Named m (pick b v w)
pick_named m true v w h k = h
pick_named m false v w h k = k

scalar_quote : (s : Bytes) (i : ℕ) → byte_at s i ≡ 34 → string_end s (i + 1) ≡ 0 → scalar_end s i ≡ 0
unfolding scalar_end
scalar_quote s i q z = rw (eq-eqb (byte_at s i) 34 q) z

name_quote : (s : Bytes) (i : ℕ) → (name_end s i ≡ 0 → ⊥) → Whole s (i + 1)
unfolding name_end
name_quote s i n = record { ends = λ z. go (eqb (byte_at s i) 34) z n }
  where
    go : (b : Bool) → string_end s (i + 1) ≡ 0 → (pick b (pick (eqb (string_end s (i + 1)) 0) 0 (colon_end s (spaces_end s (string_end s (i + 1))))) 0 ≡ 0 → ⊥) → ⊥
    go true z k = k (rw (eq-eqb (string_end s (i + 1)) 0 z))
    go false z k = k refl

-- the item at i has a name where it is a member
item_named : (s : Bytes) (close i : ℕ) → (item_place s close i ≡ 0 → ⊥) → SoundName s (eqb close 125) (item_name close i)
unfolding item_place item_name
item_named s close i n = go (eqb close 125) n
  where
    go : (b : Bool) → (pick b (name_end s i) i ≡ 0 → ⊥) → SoundName s b (pick b i 0)
    go true k = name_quote s i k
    go false k = tt

open_no_quote : (s : Bytes) (i : ℕ) → byte_at s i ≡ 34 → is_open (byte_at s i) ≡ true → Whole s (i + 1)
unfolding is_open
open_no_quote s i q o = differ (sym o ∙ ap is_open q)

empty_text : text [] ≡ no_value
unfolding text value_of is_open leaf scalar_end word_end number_end whole_end run is_space is_digit fraction_end exponent_end
empty_text = refl

-- what closes an object closes nothing else
closes : (c : ℕ) → eqb (c + 2) 125 ≡ eqb c 123
closes c = go (eqb c 123) refl
  where
    go : (b : Bool) → eqb c 123 ≡ b → eqb (c + 2) 125 ≡ b
    go true h = eq-eqb (c + 2) 125 (omega (arith, eqb-true c 123 h))
    go false h = ne_eqb (c + 2) 125 (λ e. eqb-false c 123 h (omega arith))

module _ (s : Bytes) where
  tidy_leaf : (i m : ℕ) → i ≤ length s → m < length s → is_open (byte_at s i) ≡ false → Tidy s (leaf s i m) × Named m (leaf s i m)
  unfolding leaf
  tidy_leaf i m hi hm o = (
    by_cases (Tidy s) (eqb (scalar_end s i) 0) _ _ (λ _. tt) (λ e. read (eqb-false (scalar_end s i) 0 e)),
    pick_named m (eqb (scalar_end s i) 0) _ _ tt refl,
  )
    where
      read : (scalar_end s i ≡ 0 → ⊥) → Tidy s (value (tree i m tree_nil) (scalar_end s i))
      read n =
          let g = scalar_goes s i hi in
          let on = g.on n in
          ((record { within = omega (arith, g.within); name_within = hm; string = λ q. record { ends = λ z. n (scalar_quote s i q z) }; alone = λ _. refl }, tt), g.within)

  tidy_prepend : (t : Tree) (b : Bool) (w : Values) → SoundName s b (name_of t) → Sound s t → TidyAll s b w → TidyAll s b (prepend t w)
  tidy_prepend t b no_values n h k = tt
  tidy_prepend t b (values l e) n h k = ((n, (h, k.0)), k.1)

  tidy_join : (b : Bool) (m : ℕ) (v : Value) (f : ℕ → Values) → Tidy s v → Named m v → ((v ≡ no_value → ⊥) → SoundName s b m) → ((e : ℕ) → e ≤ length s → TidyAll s b (f e))
      → TidyAll s b (joined v f)
  tidy_join b m no_value f h n q k = tt
  tidy_join b m (value t e) f h n q k =
      tidy_prepend t b (f e) (subst (SoundName s b) (sym n) (q (λ z. let y : ◌≡◌ {A = ℕ} 0 1 = cc in omega arith))) h.0 (k e h.1)

  tidy_whole : (i m : ℕ) (w : Values) → i < length s → m < length s → is_open (byte_at s i) ≡ true → TidyAll s (eqb (byte_at s i) 123) w → Tidy s (whole i m w) × Named m (whole i m w)
  tidy_whole i m no_values hi hm o h = (tt, tt)
  tidy_whole i m (values l e) hi hm o h = (((record { within = hi; name_within = hm; string = λ q. no_quote q; alone = λ z. differ (sym o ∙ z) }, h.0), h.1), refl)
    where
      no_quote : byte_at s i ≡ 34 → Whole s (i + 1)
      no_quote q = open_no_quote s i q o

  tidy_behind : (close : ℕ) (b : Bool) (j : ℕ) (f : ℕ → Values) → eqb 0 close ≡ false → ((q : ℕ) → q ≤ length s → TidyAll s b (f q)) → TidyAll s b (behind s close f j)
  unfolding behind
  tidy_behind close b j f cz k =
      by_cases (TidyAll s b) (eqb (byte_at s j) close) _ _ (λ h. (tt, let l = eq_in s j close cz h in omega arith))
      (λ _. by_cases (TidyAll s b) (eqb (byte_at s j) 44) _ _
      (λ h. k (spaces_end s (j + 1)) (spaces_go s (j + 1) (let l = eq_in s j 44 refl h in omega arith)).within) (λ _. tt))

  module _ (v : Reader) (hv : (i m : ℕ) → i ≤ length s → m < length s → Tidy s (v i m) × Named m (v i m)) (close : ℕ) (cz : eqb 0 close ≡ false) (ls : 0 < length s) where
    read_item : (i : ℕ) → i ≤ length s → (item_place s close i ≡ 0 → ⊥) → Tidy s (v (item_place s close i) (item_name close i)) × Named (item_name close i) (v (item_place s close i) (item_name close i))
    read_item i le n = hv (item_place s close i) (item_name close i) (place_goes s close i le).within (name_before s close i ls n)

    tidy_item : (i : ℕ) → i ≤ length s → Tidy s (item s v close i) × Named (item_name close i) (item s v close i)
    unfolding item
    tidy_item i le = (
      by_cases (Tidy s) (eqb (item_place s close i) 0) _ _ (λ _. tt) (λ e. (read_item i le (eqb-false (item_place s close i) 0 e)).0),
      by_cases (Named (item_name close i)) (eqb (item_place s close i) 0) _ _ (λ _. tt) (λ e. (read_item i le (eqb-false (item_place s close i) 0 e)).1),
    )

    item_none : (i : ℕ) → item_place s close i ≡ 0 → item s v close i ≡ no_value
    unfolding item
    item_none i z = rw (eq-eqb (item_place s close i) 0 z)

    tidy_items : (k i : ℕ) → i ≤ length s → TidyAll s (eqb close 125) (items s v close k i)
    unfolding items
    tidy_items zero i le = tt
    tidy_items (suc k) i le =
        let h = tidy_item i le in
        tidy_join (eqb close 125) (item_name close i) (item s v close i) (λ e. behind s close (λ j. items s v close k j) (spaces_end s e)) h.0 h.1
        (λ n. item_named s close i (λ z. n (item_none i z)))
        (λ e el. tidy_behind close (eqb close 125) (spaces_end s e) (λ j. items s v close k j) cz (λ q ql. tidy_items k q ql))

  tidy_container : (v : Reader) → ((i m : ℕ) → i ≤ length s → m < length s → Tidy s (v i m) × Named m (v i m)) → (i m : ℕ) → m < length s → is_open (byte_at s i) ≡ true
      → Tidy s (container s v i m) × Named m (container s v i m)
  unfolding container
  tidy_container v hv i m hm o =
      let hi = open_in s i o in
      let all = tidy_items v hv (byte_at s i + 2) (ne_eqb 0 (byte_at s i + 2) (λ z. omega arith)) (omega arith) (suc (length s)) (spaces_end s (i + 1)) (spaces_go s (i + 1) (omega arith)).within in
      let w = tidy_whole i m (items s v (byte_at s i + 2) (suc (length s)) (spaces_end s (i + 1))) hi hm o (subst (λ (b : Bool). TidyAll s b (items s v (byte_at s i + 2) (suc (length s)) (spaces_end s (i + 1)))) (closes (byte_at s i)) all) in (
        by_cases (Tidy s) (eqb (byte_at s (spaces_end s (i + 1))) (byte_at s i + 2)) _ _
            (λ h.
            let e = eqb-true (byte_at s (spaces_end s (i + 1))) (byte_at s i + 2) h in
            let l = in_text s (spaces_end s (i + 1)) (λ z. omega arith) in
            ((record { within = hi; name_within = hm; string = λ q. open_no_quote s i q o; alone = λ _. refl }, tt), omega arith))
            (λ _. w.0),
        pick_named m (eqb (byte_at s (spaces_end s (i + 1))) (byte_at s i + 2)) _ _ refl w.1,
      )

  tidy_value : (d i m : ℕ) → i ≤ length s → m < length s → Tidy s (value_of s d i m) × Named m (value_of s d i m)
  unfolding value_of
  tidy_value zero i m hi hm = go (is_open (byte_at s i)) refl
    where
      go : (b : Bool) → is_open (byte_at s i) ≡ b → Tidy s (pick b no_value (leaf s i m)) × Named m (pick b no_value (leaf s i m))
      go true e = (tt, tt)
      go false e = tidy_leaf i m hi hm e
  tidy_value (suc d) i m hi hm = go (is_open (byte_at s i)) refl (λ j n hj hn. tidy_value d j n hj hn)
    where
      go : (b : Bool) → is_open (byte_at s i) ≡ b → ((j n : ℕ) → j ≤ length s → n < length s → Tidy s (value_of s d j n) × Named n (value_of s d j n))
          → Tidy s (pick b (container s (λ j n. value_of s d j n) i m) (leaf s i m)) × Named m (pick b (container s (λ j n. value_of s d j n) i m) (leaf s i m))
      go true e f = tidy_container (λ j n. value_of s d j n) f i m hm e
      go false e f = tidy_leaf i m hi hm e

  pub sound_text : (t : Tree) (e : ℕ) → text s ≡ value t e → Sound s t
  unfolding text
  sound_text t e h = go (value_of s 32 (spaces_end s 0) 0) (tidy_value 32 (spaces_end s 0) 0 (spaces_go s 0 (omega arith)).within (filled s h)).0 h
    where
      filled : (r : Bytes) → text r ≡ value t e → 0 < length r
      filled [] k = let z : ◌≡◌ {A = ℕ} 0 1 = cc (empty_text) in absurd (omega arith)
      filled (c ∷ r) k = omega arith

      behind_is : (b : Bool) (u : Tree) (j : ℕ) → Sound s u → pick b (value u j) no_value ≡ value t e → Sound s t
      behind_is true u j f k = let q : u ≡ t = cc in subst (Sound s) q f
      behind_is false u j f k = let z : ◌≡◌ {A = ℕ} 0 1 = cc in absurd (omega arith)

      go : (v : Value) → Tidy s v → nothing_behind s v ≡ value t e → Sound s t
      go no_value f k = let z : ◌≡◌ {A = ℕ} 0 1 = cc in absurd (omega arith)
      go (value u j) f k = behind_is (eqb (spaces_end s j) (length s)) u j f.0 k
