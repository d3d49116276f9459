-- The place behind a layout, from the places behind its parts: one law for each way to build a layout.
use Rattle.std.specs.Prelude.{ℕ, zero, suc, ◌+◌, ◌-◌, ◌/◌, ◌%◌, ◌^◌, ◌≤◌, ◌<◌, Bool, true, false, ◌||◌, List, [], ◌∷◌, ◌⊎◌, ◌≡◌, refl, leb, eqb}
use Rattle.std.proofs.Common.{inl, inr, sym, ap, ◌∙◌, arith, pow_pos, leb-true}
use Rattle.rules.specs.Bytes.{Bytes, pick}
use Rattle.rules.specs.Bits.{Bits, bits}
use Rattle.rules.specs.Layout.{Read, read, broken, onward, Layout, field, num, ◌then◌, shaped, dec_all, counted, Choice, ◌or◌, tagged}
use Rattle.rules.specs.LayoutLaws.{field_lt}
use Rattle.rules.specs.BundleLaws.{bits_binary}
use Rattle.layout.specs.Walk.{Place, At, Broken, place_by, next, from, past, unmarked, after, number_at, ahead}

-- Truth values

pub or_swap : (t u s : Bool) → ((t || u) || s) ≡ (u || (t || s))
or_swap true true s = refl
or_swap true false s = refl
or_swap false true s = refl
or_swap false false s = refl

pub or_false : (t : Bool) → t ≡ (t || false)
or_false true = refl
or_false false = refl

-- Places by their numbers

pub place_none : (n : ℕ) → n < 2 → place_by n ≡ Broken
place_none zero h = refl
place_none (suc zero) h = refl
place_none (suc (suc n)) h = absurd (omega arith)

pub place_some : (n : ℕ) → 2 ≤ n → place_by n ≡ At (n / 2 - 1) (eqb (n % 2) 1)
place_some zero h = absurd (omega arith)
place_some (suc zero) h = absurd (omega arith)
place_some (suc (suc n)) h =
    let e : n / 2 ≡ suc (suc n) / 2 - 1 = omega arith in
    let f : n % 2 ≡ suc (suc n) % 2 = omega arith in
    ap (λ (k : ℕ). At k (eqb (n % 2) 1)) e ∙ ap (λ (k : ℕ). At (suc (suc n) / 2 - 1) (eqb k 1)) f

-- a number of the same bit and mark
pub place_same : (n at m : ℕ) → 2 ≤ n → n / 2 - 1 ≡ at → n % 2 ≡ m → place_by n ≡ At at (eqb m 1)
place_same n at m h e f = place_some n h ∙ ap (λ (k : ℕ). At k (eqb (n % 2) 1)) e ∙ ap (λ (k : ℕ). At at (eqb k 1)) f

-- What was read

pub next_map : {A B : Type 0} (f : B → Bool) (g : A → B) (s : Bool) (x : Read A)
    → next f s (onward x (λ a q. read (g a) q)) ≡ next (λ a. f (g a)) s x
next_map f g s (read a q) = refl
next_map f g s broken = refl

next_or : {A : Type 0} (g : A → Bool) (t s : Bool) (x : Read A) → next (λ a. t || g a) s x ≡ next g (t || s) x
next_or g t s (read a q) = ap (At q) (or_swap t (g a) s)
next_or g t s broken = refl

-- a place behind something says what was read
pub next_at : {A : Type 0} (f : A → Bool) (s : Bool) (x : Read A) (q : ℕ) (m : Bool) → next f s x ≡ At q m
    → (a : A) × (x ≡ read a q) × (m ≡ (f a || s))
next_at f s (read a r) q m h = let e : r ≡ q = cc in (a, ap (read a) e, cc)
next_at f s broken q m h = let z : ◌≡◌ {A = ℕ} 0 1 = cc in absurd (omega arith)

-- Parts

pub past_shaped : {A B : Type 0} (f : B → Bool) (out : B → A) (make : A → B) (c : Layout A) (b : Bits) (p : Place)
    → past f (shaped out make c) b p ≡ past (λ a. f (make a)) c b p
past_shaped f out make c b (At p s) = next_map f make s (c.dec b p)
past_shaped f out make c b Broken = refl

pub past_ext : {A : Type 0} (f g : A → Bool) (c : Layout A) (b : Bits) (p : Place) → ((a : A) → f a ≡ g a) → past f c b p ≡ past g c b p
past_ext {A} f g c b (At p s) h = ext (c.dec b p)
  where
    ext : (x : Read A) → next f s x ≡ next g s x
    ext (read a q) = ap (λ t. At q (t || s)) (h a)
    ext broken = refl
past_ext f g c b Broken h = refl

pub past_then : {A B : Type 0} (f : A → Bool) (g : B → Bool) (c : Layout A) (d : Layout B) (b : Bits) (p : Place)
    → past (λ (x : A × B). f x.0 || g x.1) (c then d) b p ≡ past g d b (past f c b p)
past_then {A} {B} f g c d b (At p s) = both (c.dec b p)
  where
    both : (x : Read A) → next (λ (x : A × B). f x.0 || g x.1) s (onward x (λ a q. onward (d.dec b q) (λ y r. read (a, y) r))) ≡ past g d b (next f s x)
    both (read a q) = next_map (λ (x : A × B). f x.0 || g x.1) (λ y. (a, y)) s (d.dec b q) ∙ next_or g (f a) s (d.dec b q)
    both broken = refl
past_then f g c d b Broken = refl

-- the number at the head of a part, and what goes on from it
pub headed : {A : Type 0} (f : A → Bool) (x : Read ℕ → Read A) → x broken ≡ broken → (w : ℕ) (b : Bits) (p : Place)
    → from f (λ p. x ((num w).dec b p)) p ≡ from f (λ q. x (read (number_at b w p) q)) (ahead b w p)
headed f x h w b (At p s) = picked (leb (p + w) b.size)
  where
    picked : (t : Bool) → next f s (x (pick t (read (field b w p) (p + w)) broken)) ≡ from f (λ q. x (read (field b w p) q)) (pick t (At (p + w) s) Broken)
    picked true = refl
    picked false = ap (next f s) h
headed f x h w b Broken = refl

pub after_num : (w : ℕ) (b : Bits) (p : Place) → after (num w) b p ≡ ahead b w p
after_num w b (At p s) = picked (leb (p + w) b.size)
  where
    picked : (t : Bool) → next unmarked s (pick t (read (field b w p) (p + w)) broken) ≡ pick t (At (p + w) s) Broken
    picked true = refl
    picked false = refl
after_num w b Broken = refl

pub ahead_in : (b : Bits) (n : ℕ) (p : Place) (q : ℕ) (m : Bool) → ahead b n p ≡ At q m → q ≤ b.size
ahead_in b n (At p s) q m h = picked (leb (p + n) b.size) refl h
  where
    picked : (t : Bool) → leb (p + n) b.size ≡ t → pick t (At (p + n) s) Broken ≡ At q m → q ≤ b.size
    picked true e h = let f : p + n ≡ q = cc in omega (arith, leb-true (p + n) b.size e)
    picked false e h = let z : ◌≡◌ {A = ℕ} 0 1 = cc in absurd (omega arith)
ahead_in b n Broken q m h = let z : ◌≡◌ {A = ℕ} 0 1 = cc in absurd (omega arith)

pub number_small : (w : ℕ) (s : Bytes) (p : Place) (n : ℕ) → n ≡ number_at (bits s) w p → n < 2 ^ w
number_small w s (At p m) n h = omega (arith, field_lt (bits s) (bits_binary s) w p)
number_small w s Broken n h = omega (arith, pow_pos w)

-- A count n was read, and the place q behind it

module _ {A : Type 0} (f : List A → Bool) (w : ℕ) (c : Layout A) (b : Bits) (p q : Place) (n : ℕ) (hn : n ≡ number_at b w p) (hq : q ≡ ahead b w p) where
  pub counted_is : from f (dec_all c n b) q ≡ past f (counted w c) b p
  counted_is = rw (hn, hq) (sym (headed f (λ x. onward x (λ n q. dec_all c n b q)) refl w b p))

-- as many parts, in a loop: f says of the rest what g says of a part
module _ {A : Type 0} (f : List A → Bool) (g : A → Bool) (c : Layout A) (b : Bits) where
  abbrev pub left : ℕ → Place → Place
  left n p = from f (dec_all c n b) p

  pub count_start : (n : ℕ) (p : Place) → left (n - 0) p ≡ left n p
  count_start n p = let e : n - 0 ≡ n = omega arith in rw e

  pub count_end : f [] ≡ false → (n i : ℕ) (p : Place) → n ≤ i → p ≡ left (n - i) p
  count_end nil n i p h = let e : n - i ≡ 0 = omega arith in rw e (none p)
    where
      none : (p : Place) → p ≡ left 0 p
      none (At p s) = rw nil
      none Broken = refl

  pub count_again : ((x : A) (l : List A) → f (x ∷ l) ≡ (g x || f l)) → (n i : ℕ) (p q : Place) → i < n → q ≡ past g c b p
      → left (n - (i + 1)) q ≡ left (n - i) p
  count_again more n i p q h e = let k : n - i ≡ suc (n - (i + 1)) = omega arith in rw (k, e) (sym (one (n - (i + 1)) p))
    where
      rest : (m : ℕ) (s : Bool) (x : Read A) → next f s (onward x (λ a q. onward (dec_all c m b q) (λ l r. read (a ∷ l) r))) ≡ left m (next g s x)
      rest m s (read a q) =
          next_map f (λ l. a ∷ l) s (dec_all c m b q)
          ∙ past_ext (λ l. f (a ∷ l)) (λ l. g a || f l) (record { fits = λ l. true; enc = λ l. []; dec = dec_all c m }) b (At q s) (more a)
          ∙ next_or f (g a) s (dec_all c m b q)
      rest m s broken = refl

      one : (m : ℕ) (p : Place) → left (suc m) p ≡ left m (past g c b p)
      one m (At p s) = rest m s (c.dec b p)
      one m Broken = refl

-- A tag n was read, and the place q behind it

-- behind the tag k of d stands c, and i makes of it what d reads
pub record Arm {A B : Type 0} (d : Choice B) (k : ℕ) (c : Layout A) (i : A → B) : Type 0 where
  pub reads : (b : Bits) (q : ℕ) → d.dec k b q ≡ onward (c.dec b q) (λ x r. read (i x) r)

pub first : {A B : Type 0} (c : Layout A) (d : Choice B) → Arm (c or d) 0 c inl
first c d = record { reads = λ b q. refl }

pub later : {A B C : Type 0} (c : Layout C) {d : Choice B} {k : ℕ} {e : Layout A} {i : A → B} → Arm d k e i → Arm (c or d) (suc k) e (λ x. inr (i x))
later {A} {B} {C} c {d} {k} {e} {i} arm = record { reads = λ b q. ap farther (arm.reads b q) ∙ joined (e.dec b q) }
  where
    farther : Read B → Read (C ⊎ B)
    farther x = onward x (λ y r. read (inr y) r)

    joined : (z : Read A) → farther (onward z (λ a r. read (i a) r)) ≡ onward z (λ a r. read (inr (i a)) r)
    joined (read a r) = refl
    joined broken = refl

module _ {A B : Type 0} (f : A → Bool) (out : A → B) (make : B → A) (w : ℕ) (d : Choice B) (b : Bits) (p q : Place) (n : ℕ)
    (hn : n ≡ number_at b w p) (hq : q ≡ ahead b w p) where
  kinds_is : (k : ℕ) → n ≡ k → from (λ x. f (make x)) (d.dec k b) q ≡ past f (shaped out make (tagged w d)) b p
  kinds_is k e = rw (← e, hn, hq) (sym (past_shaped f out make (tagged w d) b p ∙ headed (λ x. f (make x)) (λ x. onward x (λ k q. d.dec k b q)) refl w b p))

  pub kind_is : {C : Type 0} (k : ℕ) (c : Layout C) (i : C → B) → Arm d k c i → n ≡ k
      → past (λ x. f (make (i x))) c b q ≡ past f (shaped out make (tagged w d)) b p
  kind_is k c i arm e = at q ∙ kinds_is k e
    where
      at : (q : Place) → past (λ x. f (make (i x))) c b q ≡ from (λ x. f (make x)) (d.dec k b) q
      at (At q s) = sym (ap (next (λ x. f (make x)) s) (arm.reads b q) ∙ next_map (λ x. f (make x)) i s (c.dec b q))
      at Broken = refl

  -- nothing stands behind the tag
  pub kind_stays : (k : ℕ) (x : B) → ((q : ℕ) → d.dec k b q ≡ read x q) → f (make x) ≡ false → n ≡ k → q ≡ past f (shaped out make (tagged w d)) b p
  kind_stays k x arm h e = at q ∙ kinds_is k e
    where
      at : (q : Place) → q ≡ from (λ x. f (make x)) (d.dec k b) q
      at (At q s) = sym (ap (next (λ x. f (make x)) s) (arm q) ∙ ap (λ t. At q (t || s)) h)
      at Broken = refl

  pub kind_none : (k : ℕ) → ((q : ℕ) → d.dec k b q ≡ broken) → n ≡ k → Broken ≡ past f (shaped out make (tagged w d)) b p
  kind_none k arm e = at q ∙ kinds_is k e
    where
      at : (q : Place) → Broken ≡ from (λ x. f (make x)) (d.dec k b) q
      at (At q s) = sym (ap (next (λ x. f (make x)) s) (arm q))
      at Broken = refl
