-- Templates with distinct names, one by one.
use Prim.Native.Nat.{ℕ, zero, suc, ◌+◌, ◌-◌, ◌≤◌, ◌<◌}
use mathlib.Core.Bool.{Bool, true, false, ◌&&◌, ◌||◌, not}
use mathlib.Core.List.{List, [], ◌∷◌}
use mathlib.Core.Path.{◌≡◌, refl, sym, ap, ◌∙◌}
use native.Mathlib.Numerals.{add-one}
use native.Mathlib.Omega.{arith}
use lib.Dec.{leb, ltb}
use lib.ListN.{length, get_or, set}
use lib.Seq.{get_or-set_same, get_or-set_other}
use borrow.Author.Tests.{le-leb, lt-leb, ltb-true, ltb-false}
use Rattle.rules.specs.Bytes.{Bytes, pick, same}
use Rattle.rules.specs.Template.{Template}
use Rattle.rules.specs.Bits.{Bits}
use Rattle.rules.specs.Layout.{Read, read, broken, onward, Layout, dec_all}
use Rattle.rules.specs.LayoutLaws.{more_was}
use Rattle.rules.specs.Bundle.{string, body, among, distinct, templates_allowed, template, templates, body_context, partial_context}
use Rattle.layout.specs.Walk.{Place, At, Broken, next, from, past, after, number_at, ahead}
use Rattle.layout.specs.WalkLaws.{headed}
use Rattle.layout.specs.Text.{text_at}
use Rattle.layout.specs.Names.{seen_at}
use Rattle.layout.proofs.Entries.{entries, entry_start, entry_broken, entry_end, entry_none, entry_bad, entry_again}

-- n templates from a place on, the names seen before them
abbrev pub templates_left : ℕ → ℕ → List Bytes → Bits → Place → Place
templates_left w n seen b p = entries distinct partial_context (body w 16) n seen b p

abbrev is_new : List Bytes → Bytes → Bool
is_new seen s = not (among s seen)

abbrev one_seen : List Bytes → Bytes → List Bytes
one_seen seen s = s ∷ seen

-- The count decides what is asked of the length

all_length : {A : Type 0} (c : Layout A) (n : ℕ) (b : Bits) (p : ℕ) (l : List A) (q : ℕ) → dec_all c n b p ≡ read l q → length l ≡ n
all_length c zero b p l q h = let e : [] ≡ l = cc in ap length (sym e)
all_length c (suc n) b p l q h = let m = more_was c n b p l q h in ap length (sym m.5) ∙ ap suc (all_length c n b m.2 m.1 q m.4)

module _ (w : ℕ) (b : Bits) (n : ℕ) (t : Bool) (ht : (leb 1 n && leb n 64) ≡ t) where
  allowed : (s : Bool) (x : Read (List (Bytes × Template))) → ((l : List (Bytes × Template)) (q : ℕ) → x ≡ read l q → length l ≡ n)
      → next partial_context s (onward x (λ l r. pick (templates_allowed l) (read l r) broken))
      ≡ pick t (next partial_context s (onward x (λ l r. pick (distinct [] l) (read l r) broken))) Broken
  allowed s (read l q) h = rw (h l q refl, ht) (both t (distinct [] l))
    where
      both : (t u : Bool) → next partial_context s (pick (t && u) (read l q) broken) ≡ pick t (next partial_context s (pick u (read l q) broken)) Broken
      both true u = refl
      both false u = refl
  allowed s broken h = either t
    where
      either : (t : Bool) → Broken ≡ pick t Broken Broken
      either true = refl
      either false = refl

  allowed_from : (q : Place)
      → from partial_context (λ q. onward (dec_all (template w) n b q) (λ l r. pick (templates_allowed l) (read l r) broken)) q
      ≡ pick t (templates_left w n [] b q) Broken
  allowed_from (At q s) = allowed s (dec_all (template w) n b q) (all_length (template w) n b q)
  allowed_from Broken = either t
    where
      either : (t : Bool) → Broken ≡ pick t Broken Broken
      either true = refl
      either false = refl

module _ (w : ℕ) (b : Bits) (p : Place) (n : ℕ) (hn : n ≡ number_at b 8 p) where
  templates_from : (t : Bool) → (leb 1 n && leb n 64) ≡ t → past partial_context (templates w) b p ≡ pick t (templates_left w n [] b (ahead b 8 p)) Broken
  templates_from t ht =
      headed partial_context (λ x. onward (onward x (λ n q. dec_all (template w) n b q)) (λ l r. pick (templates_allowed l) (read l r) broken)) refl 8 b p
      ∙ ap (λ (k : ℕ). from partial_context (λ q. onward (dec_all (template w) k b q) (λ l r. pick (templates_allowed l) (read l r) broken)) (ahead b 8 p)) (sym hn)
      ∙ allowed_from w b n t ht (ahead b 8 p)

  pub templates_is : (q : Place) → q ≡ ahead b 8 p → 1 ≤ n → n ≤ 64 → templates_left w n [] b q ≡ past partial_context (templates w) b p
  templates_is q hq h k = ap (templates_left w n [] b) hq ∙ sym (templates_from true (rw (le-leb 1 n h, le-leb n 64 k)))

  pub templates_few : n < 1 → Broken ≡ past partial_context (templates w) b p
  templates_few h = sym (templates_from false (rw (lt-leb 1 n h)))

  pub templates_many : 1 ≤ n → 64 < n → Broken ≡ past partial_context (templates w) b p
  templates_many k h = sym (templates_from false (rw (le-leb 1 n k, lt-leb n 64 h)))

-- The places of names, one more

seen_set : (b : Bits) (ps : List ℕ) (i at j : ℕ) → j ≤ i → seen_at b (set ps i at) j ≡ seen_at b ps j
seen_set b ps i at zero h = refl
seen_set b ps i at (suc j) h = rw (get_or-set_other ps i j at 0 (omega arith), seen_set b ps i at j (omega arith))

seen_more : (b : Bits) (ps : List ℕ) (i at : ℕ) → i < length ps → seen_at b (set ps i at) (i + 1) ≡ text_at b at ∷ seen_at b ps i
seen_more b ps i at h = rw (add-one, get_or-set_same ps i at 0 h, seen_set b ps i at i (omega arith))

-- each of the first i places is a bit of a bundle
abbrev pub BitsOf : List ℕ → ℕ → Type 0
BitsOf ps i = (j : ℕ) → j < i → get_or ps j 0 ≤ 524288

pub bits_more : (ps : List ℕ) (i at : ℕ) → i < length ps → BitsOf ps i → at ≤ 524288 → BitsOf (set ps i at) (i + 1)
bits_more ps i at h a k j l = each (ltb j i) refl
  where
    each : (t : Bool) → ltb j i ≡ t → get_or (set ps i at) j 0 ≤ 524288
    each true e = rw (get_or-set_other ps i j at 0 (omega (arith, ltb-true j i e))) (a j (ltb-true j i e))
    each false e = let f : j ≡ i = omega (arith, ltb-false j i e) in rw (f, get_or-set_same ps i at 0 h) k

-- As the loop meets them

pub names_start : (w : ℕ) (b : Bits) (n : ℕ) (p : Place) → templates_left w (n - 0) [] b p ≡ templates_left w n [] b p
names_start w b n p = entry_start distinct partial_context (body w 16) b n [] p

module _ (w : ℕ) (b : Bits) (n i : ℕ) (ps : List ℕ) (p : Place) where
  abbrev pub Left : Place
  Left = templates_left w (n - i) (seen_at b ps i) b p

  pub names_broken : p ≡ Broken → Broken ≡ Left
  names_broken e = entry_broken distinct partial_context (body w 16) b (n - i) (seen_at b ps i) p e

  pub names_end : n ≤ i → p ≡ Left
  names_end h = entry_end distinct partial_context (body w 16) b n i (seen_at b ps i) p refl refl h

  module _ (lt : i < n) (at : ℕ) (m : Bool) (hp : p ≡ At at m) (v : Place) (hv : v ≡ after string b (At at m)) where
    pub name_none : v ≡ Broken → Broken ≡ Left
    name_none e =
        entry_none distinct partial_context body_context is_new one_seen (λ s k v l. refl) (λ k v l. refl) (body w 16) b n i lt (seen_at b ps i) p at m hp v hv e

    module _ (r : ℕ) (k : Bool) (e : v ≡ At r k) (t : Bool) (ht : t ≡ among (text_at b at) (seen_at b ps i)) where
      pub name_known : t ≡ true → Broken ≡ Left
      name_known f =
          entry_bad distinct partial_context body_context is_new one_seen (λ s k v l. refl) (λ k v l. refl) (body w 16) b n i lt (seen_at b ps i) p at m hp v hv r k e
          (not t) (ap not ht) (ap not f)

      pub name_again : t ≡ false → i < length ps → (q : Place) → q ≡ past body_context (body w 16) b (At r k)
          → templates_left w (n - (i + 1)) (seen_at b (set ps i at) (i + 1)) b q ≡ Left
      name_again f h q hq =
          entry_again distinct partial_context body_context is_new one_seen (λ s k v l. refl) (λ k v l. refl) (body w 16) b n i lt (seen_at b ps i) p at m hp v hv r k e
          (not t) (ap not ht) (ap not f) q (seen_at b (set ps i at) (i + 1)) hq (seen_more b ps i at h)

-- A name among those seen, from the last to the first

module _ (b : Bits) (ps : List ℕ) (n : Bytes) where
  module _ (j : ℕ) (h : 0 < j) (t : Bool) (ht : t ≡ same (text_at b (get_or ps (j - 1) 0)) n) where
    last : among n (seen_at b ps j) ≡ (t || among n (seen_at b ps (j - 1)))
    last = let e : j ≡ suc (j - 1) = omega arith in ap (λ (k : ℕ). among n (seen_at b ps k)) e ∙ rw (← ht)

    pub among_here : t ≡ true → true ≡ among n (seen_at b ps j)
    among_here e = sym (last ∙ rw e)

    pub among_on : t ≡ false → among n (seen_at b ps (j - 1)) ≡ among n (seen_at b ps j)
    among_on e = sym (last ∙ rw e)

  pub among_none : (j : ℕ) → j ≤ 0 → false ≡ among n (seen_at b ps j)
  among_none j h = let e : j ≡ 0 = omega arith in rw e
