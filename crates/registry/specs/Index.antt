-- The places of the templates in a lent table.
use Prim.Native.Nat.{ℕ, zero, suc, ◌+◌, ◌≤◌, ◌<◌}
use Rattle.std.specs.Prelude.{Bool, true, false, List, ◌≡◌, get_or, Option as RustOption, Some, None}
use Rattle.std.proofs.Math.Path.{refl, sym, ap}
use Rattle.std.proofs.Common.{◌∙◌, subst, arith, le-leb}
use Rattle.rules.specs.Template as rule
use Rattle.rules.specs.Bytes.{Bytes, pick, same}
use Rattle.rules.specs.Bits.{Bits}
use Rattle.rules.specs.Layout.{Read, read, broken, onward, Layout, field, ◌then◌, counted}
use Rattle.rules.specs.Bundle.{string, body, body_context, template, templates, templates_allowed, find_template}
use Rattle.layout.specs.Text.{text_at}
use Rattle.layout.specs.Walk.{Place, At, Broken, next, past, unmarked, after, ahead, number_at}
use Rattle.layout.specs.WalkLaws.{next_at}
use Rattle.layout.specs.Listed.{template_place, count_place, BundleListed, listed_all, never_at}
use Rattle.parts.specs.Holds.{Holds, end}
use Rattle.parts.specs.HoldsLaws.{end_is, tested_holds, counted_holds}
use Rattle.registry.specs.Templates.{templates_at, place_of, place_zero, found_view, Searching, search_start, search_here, search_on, search_end, number_at as template-number-at}

-- those of the first n, and zero behind them
pub record Indexed (c : Layout rule.Template) (b : Bits) (n : ℕ) (l : List ℕ) : Type 0 where
  pub at : (k : ℕ) → k < n → get_or l k 0 ≡ place_of c b k
  pub behind : (k : ℕ) → n ≤ k → get_or l k 0 ≡ 0

-- What the check lists

module _ (b : Bits) where
  -- a template that was passed ends where the next one begins
  passed : (p : ℕ) (s : Bool) (x : Read Bytes) → string.dec b p ≡ x → (q : ℕ) (m : Bool) → past body_context (body 16 16) b (next unmarked s x) ≡ At q m
      → end (string then body 16 16) b p ≡ q
  passed p s (read a r) e q m h =
      let y = next_at body_context _ ((body 16 16).dec b r) q m h in
      end_is {c = string then body 16 16} {b = b} {p = p} (record {
        found = (a, y.0);
        behind = q;
        reads = ap (λ (z : Read Bytes). onward z (λ a r. onward ((body 16 16).dec b r) (λ t r. read (a, t) r))) e ∙ ap (λ (z : Read rule.Template). onward z (λ t r. read (a, t) r)) y.1;
      })
  passed p s broken e q m h = never_at q m h

  place_is : (k q : ℕ) (m : Bool) → template_place 16 b (At 16 false) k ≡ At q m → q ≡ place_of (body 16 16) b k
  unfolding template_place place_of
  place_is zero q m h = cc
  place_is (suc k) q m h = step (λ p s e. place_is k p s e) (template_place 16 b (At 16 false) k) refl h
    where
      step : ((p : ℕ) (s : Bool) → template_place 16 b (At 16 false) k ≡ At p s → p ≡ place_of (body 16 16) b k) → (p : Place) → template_place 16 b (At 16 false) k ≡ p
          → past body_context (body 16 16) b (after string b p) ≡ At q m → q ≡ end (string then body 16 16) b (place_of (body 16 16) b k)
      step before (At p s) e h = sym (passed p s (string.dec b p) refl q m h) ∙ ap (end (string then body 16 16) b) (before p s e)
      step before Broken e h = never_at q m h

  module _ (H : Holds (templates 16) b 8) where
    room : 16 ≤ b.size
    room = (counted_holds 8 (template 16) b 8 (tested_holds templates_allowed (counted 8 (template 16)) b 8 H).inner).fits

    count_stands : count_place b ≡ At 8 false
    count_stands = ap (λ (t : Bool). pick t (At 8 false) Broken) (le-leb 8 b.size (omega (arith, room)))

    first_stands : ahead b 8 (count_place b) ≡ At 16 false
    first_stands = ap (ahead b 8) count_stands ∙ ap (λ (t : Bool). pick t (At 16 false) Broken) (le-leb 16 b.size room)

    pub listed_indexed : (l : List ℕ) → BundleListed b l → Indexed (body 16 16) b (field b 8 8) l
    listed_indexed l x =
        let y = listed_all 16 b _ _ first_stands _ _ _ refl (ap (number_at b 8) count_stands) l x in
        record { at = λ k h. let z = y.at k h in place_is k (get_or l k 0) z.0 z.1; behind = y.behind }

-- The template i of the n that are there, by its place in the table

module _ (w : ℕ) (b : Bits) (H : Holds (templates w) b 8) (l : List ℕ) (I : Indexed (body w 16) b (field b 8 8) l) (n i : ℕ) (e : n ≡ field b 8 8) (lt : i < n) where
  pub indexed_place : get_or l i 0 ≡ place_of (body w 16) b i
  indexed_place = I.at i (omega arith)

  pub indexed_name : Holds string b (get_or l i 0)
  indexed_name = (template-number-at w b H i (get_or l i 0) indexed_place (omega arith)).name

-- A search by these places that has passed i templates of n

abbrev pub Looking : ℕ → Bits → Bytes → ℕ → ℕ → Type 0
Looking w b m n i =
    Searching (body w 16) b m n i (place_of (body w 16) b i) (end (templates w) b 8) (found_view (body w 16) b (find_template (templates_at w b) m))

pub look_start : (w : ℕ) (b : Bits) (m : Bytes) → Holds (templates w) b 8 → (n : ℕ) → n ≡ field b 8 8 → Looking w b m n 0
look_start w b m H n e =
    subst (λ (p : ℕ). Searching (body w 16) b m n 0 p (end (templates w) b 8) (found_view (body w 16) b (find_template (templates_at w b) m)))
    (place_zero (body w 16) b)
    (search_start w b m H n e)

module _ (w : ℕ) (b : Bits) (m : Bytes) (n i : ℕ) (S : Looking w b m n i) where
  abbrev goal : RustOption (ℕ × ℕ × ℕ)
  goal = found_view (body w 16) b (find_template (templates_at w b) m)

  pub look_end : n ≤ i → None ≡ goal
  look_end le = search_end (body w 16) b m n i (place_of (body w 16) b i) (end (templates w) b 8) goal S le

  module _ (lt : i < n) (x : Bool) (e : x ≡ same (text_at b (place_of (body w 16) b i)) m) where
    pub look_on : x ≡ false → Looking w b m n (i + 1)
    look_on f =
        let T = search_on (body w 16) b m n i (place_of (body w 16) b i) (end (templates w) b 8) goal S lt _ _ x refl refl e f in
        subst (λ (p : ℕ). Searching (body w 16) b m n (i + 1) p (end (templates w) b 8) goal) T.place T

    pub look_here : x ≡ true → (p q : ℕ) → p ≡ place_of (body w 16) b i → q ≡ end string b (place_of (body w 16) b i) → Some (i, p, q) ≡ goal
    look_here f p q h g =
        ap (λ (p : ℕ). Some (i, p, q)) h ∙ search_here (body w 16) b m n i (place_of (body w 16) b i) (end (templates w) b 8) goal S lt q x g e f
