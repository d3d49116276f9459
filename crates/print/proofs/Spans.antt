-- What a value prints that stands in the plan: the bytes that stand there.
use Prim.Native.Nat.{ℕ, suc, ◌+◌, ◌-◌, ◌≤◌, ◌<◌}
use mathlib.Core.Bool.{Bool, true, false}
use mathlib.Core.List.{List, [], ◌∷◌, ◌++◌, append-nil}
use mathlib.Core.Logic.{inl, inr}
use mathlib.Core.Path.{◌≡◌, refl, sym, ap, ◌∙◌, subst}
use native.Mathlib.Numerals.{add-one}
use native.Mathlib.Omega.{arith}
use lib.Dec.{eqb, leb}
use lib.ListN.{length, take, drop}
use lib.Seq.{drop-cons}
use types.Run.{OneOf, miss}
use denote.Enum.Declared.{tag_of}
use borrow.Author.Tests.{eqb-true, leb-true, ne_eqb}
use Rattle.rules.specs.Bytes.{Bytes, pick, byte_at, digits}
use Rattle.rules.specs.Order.{and_left, and_right}
use Rattle.rules.specs.Json.{Json, jpos, jneg, jstr, Fits}
use Rattle.rules.specs.Value.{render}
use Rattle.rules.specs.Scan.{saying, is_digit, minus_end, whole_end, decimal_value, slice, magnitude}
use Rattle.rules.specs.Tree.{Tree, tree}
use Rattle.rules.specs.Plan.{answer, scalar_at, meaning}
use Rattle.scan.proofs.Bounds.{Goes, whole_goes}
use Rattle.saying.specs.Said.{own_end}
use Rattle.saying.proofs.Remaining.{left_quote, inside_start}
use Rattle.places.specs.Places.{places, start_of, tree_at, json_at}
use Rattle.places.specs.Nodes.{short, sound_at}
use Rattle.places.specs.Ascending.{at_fits}
use Rattle.value.specs.contracts.Value.{the_type}
use Rattle.value.specs.declared.Value.{Value}
use Rattle.value.specs.declared.Value.TheVariants.{Missing, Null, False, True, Empty, Context, Place, Literal, Index, IndexText, Name, Text, SaidChar, PackedChar, Merged}
use Rattle.meaning.specs.MeaningLaws.{plain_is}
use Rattle.meaning.specs.Forms.{Known}
use Rattle.meaning.specs.Means.{Means}
use Rattle.print.specs.declared.Span.{Span}
use Rattle.print.specs.Span.{no_span, string_span, number_span, span_at, span_of, InPlan, value_span}
use Rattle.print.proofs.Said.{part_in, part_is}
use Rattle.print.proofs.Numbers.{whole}

-- the bytes of p are what j prints
pub record Shows (s : Bytes) (p : Span) (j : Json) : Type 0 where
  pub within : p.start < p.end → p.end ≤ length s
  pub is : render j ≡ take (p.end - p.start) (drop p.start s)

pub span_number : (s : Bytes) (q : ℕ) → (byte_at s q ≡ 34 → ⊥) → span_at s q ≡ number_span s q
unfolding span_at
span_number s q n = rw (ne_eqb (byte_at s q) 34 n)

text_starts : (s : Bytes) (t : Tree) → byte_at s (start_of t) ≡ 34 → meaning s t ≡ jstr (saying s (start_of t))
unfolding scalar_at
text_starts s (tree q m l) e = rw e

minus_starts : (s : Bytes) (t : Tree) → byte_at s (start_of t) ≡ 45 → meaning s t ≡ jneg (magnitude s (start_of t))
unfolding scalar_at
minus_starts s (tree q m l) e = rw e

digit_starts : (s : Bytes) (t : Tree) → is_digit (byte_at s (start_of t)) ≡ true → meaning s t ≡ jpos (magnitude s (start_of t))
unfolding scalar_at is_digit
digit_starts s (tree q m l) d =
    let c = byte_at s q in
    let low = leb-true 48 c (and_left (leb 48 c) (leb c 57) d) in
    let high = leb-true c 57 (and_right (leb 48 c) (leb c 57) d) in
    rw (
      ne_eqb c 91 (λ z. omega arith),
      ne_eqb c 123 (λ z. omega arith),
      ne_eqb c 34 (λ z. omega arith),
      ne_eqb c 116 (λ z. omega arith),
      ne_eqb c 102 (λ z. omega arith),
      ne_eqb c 110 (λ z. omega arith),
      ne_eqb c 45 (λ z. omega arith),
    )

-- a string whose first quote stands at q
string_shows : (s : Bytes) (h : answer s ≡ 0) (p : Span) → (p.end ≡ 0 → ⊥) → (q : ℕ) → q < length s → p ≡ string_span s (q + 1) → Shows s p (jstr (saying s q))
unfolding string_span
string_shows s h p some q lt k = by (eqb (byte_at s e) 34) refl k
  where
    e : ℕ
    e = own_end s (q + 1)

    by : (t : Bool) → eqb (byte_at s e) 34 ≡ t → p ≡ pick t (record { start = q + 1; end = e }) no_span → Shows s p (jstr (saying s q))
    by false x k = absurd (some (ap (λ (y : Span). y.end) k))
    by true x k =
        let near : q + 1 ≤ 65548 = omega (arith, lt, short s h) in
        subst (λ (y : Span). Shows s y (jstr (saying s q))) (sym k)
        (record {
          within = part_in s (q + 1) e refl;
          is = part_is s (q + 1) e refl 0 (short s h) (inside_start s (q + 1) near)
              ∙ ap (λ (l : Bytes). take (e - (q + 1)) (drop (q + 1) s) ++ l) (left_quote s e 0 (eqb-true (byte_at s e) 34 x)) ∙ append-nil (take (e - (q + 1)) (drop (q + 1) s));
        })

module _ (s : Bytes) (h : answer s ≡ 0) (i : ℕ) (lt : i < places s) (p : Span) (some : p.end ≡ 0 → ⊥) where
  abbrev q : ℕ
  q = start_of (tree_at s i)

  -- a string
  text_shows : byte_at s q ≡ 34 → p ≡ string_span s (q + 1) → Shows s p (json_at s i)
  unfolding json_at
  text_shows c k = subst (Shows s p) (sym (text_starts s (tree_at s i) c)) (string_shows s h p some q (sound_at s h i lt).within k)

  -- a number: d is the place behind its sign, w that behind its digits
  module _ (d w : ℕ) (hw : w ≡ whole_end s d) (there : w ≡ 0 → ⊥) (m : decimal_value 0 (slice s d w) ≡ magnitude s q) where
    minus_prints : byte_at s q ≡ 45 → d ≡ q + 1 → render (json_at s i) ≡ slice s q w
    unfolding json_at
    minus_prints c f =
        let j = minus_starts s (tree_at s i) c in
        let fits = subst Fits j (at_fits s h i lt) in
        let lt = (sound_at s h i lt).within in
        let on = (subst (λ (x : ℕ). Goes s (d + 1) x) (sym hw) (whole_goes s d)).on there in
        let z : w - q ≡ suc (w - (q + 1)) = omega arith in
        ap render j ∙ ap (λ (x : Bytes). 45 ∷ x) (ap digits (sym m) ∙ (whole s d w hw there).same (omega (arith, m)) ∙ ap (λ (x : ℕ). slice s x w) f) ∙ sym (rw (z, drop-cons s q 0 lt, c, add-one q))

    digit_prints : d ≡ q → render (json_at s i) ≡ slice s q w
    unfolding json_at
    digit_prints f =
        let n = whole s d w hw there in
        let j = digit_starts s (tree_at s i) (subst (λ (x : ℕ). is_digit (byte_at s x) ≡ true) f n.digit) in
        let fits = subst Fits j (at_fits s h i lt) in
        ap render j ∙ ap digits (sym m) ∙ n.same (omega (arith, m)) ∙ ap (λ (x : ℕ). slice s x w) f

  number_shows : p ≡ number_span s q → Shows s p (json_at s i)
  unfolding magnitude
  number_shows k =
      subst (λ (y : Span). Shows s y (json_at s i)) (sym k)
      (record { within = λ _. (whole_goes s (minus_end s q)).within; is = by (eqb (byte_at s q) 45) refl refl })
    where
      there : whole_end s (minus_end s q) ≡ 0 → ⊥
      there z = some (ap (λ (y : Span). y.end) k ∙ z)

      by : (t : Bool) → eqb (byte_at s q) 45 ≡ t → minus_end s q ≡ pick t (q + 1) q → render (json_at s i) ≡ slice s q (whole_end s (minus_end s q))
      by true x f = minus_prints (minus_end s q) (whole_end s (minus_end s q)) refl there refl (eqb-true (byte_at s q) 45 x) f
      by false x f = digit_prints (minus_end s q) (whole_end s (minus_end s q)) refl there refl f

  pub span_shows : p ≡ span_of s i → Shows s p (json_at s i)
  unfolding span_at
  span_shows k = by (eqb (byte_at s q) 34) refl k
    where
      by : (t : Bool) → eqb (byte_at s q) 34 ≡ t → p ≡ pick t (string_span s (q + 1)) (number_span s q) → Shows s p (json_at s i)
      by true x k = text_shows (eqb-true (byte_at s q) 34 x) k
      by false x k = number_shows k

-- Values

-- the numbers of the kinds of values that stand elsewhere
abbrev pub others : List ℕ
others = 0 ∷ 1 ∷ 2 ∷ 3 ∷ 4 ∷ 7 ∷ 8 ∷ 9 ∷ 11 ∷ 12 ∷ 13 ∷ 14 ∷ []

pub elsewhere : (s : Bytes) (v : Value) → OneOf others (tag_of the_type v) → no_span ≡ value_span s v
elsewhere s Missing k = refl
elsewhere s Null k = refl
elsewhere s False k = refl
elsewhere s True k = refl
elsewhere s Empty k = refl
elsewhere s (Context i) k = absurd (miss others 5 tt k)
elsewhere s (Place i) k = absurd (miss others 6 tt k)
elsewhere s (Literal p) k = refl
elsewhere s (Index n) k = refl
elsewhere s (IndexText n) k = refl
elsewhere s (Name o) k = absurd (miss others 10 tt k)
elsewhere s (Text p) k = refl
elsewhere s (SaidChar o n) k = refl
elsewhere s (PackedChar p n) k = refl
elsewhere s (Merged h n) k = refl

pub plan_within : (s b : Bytes) (v : Value) → Known s b v → (i : ℕ) → InPlan v i → i < places s
plan_within s b v k i (inl e) = (subst (Known s b) e k refl).0
plan_within s b v k i (inr e) = subst (Known s b) e k refl

pub name_within : (s b : Bytes) (v : Value) → Known s b v → (o : ℕ) → v ≡ Name o → o < length s
name_within s b v k o e = (subst (Known s b) e k refl).within

pub plan_span : (s : Bytes) (v : Value) (i : ℕ) → InPlan v i → span_of s i ≡ value_span s v
plan_span s v i (inl e) = sym (ap (value_span s) e)
plan_span s v i (inr e) = sym (ap (value_span s) e)

-- what a value means that stands in the plan, and that its span shows
record Told (s b : Bytes) (v : Value) (p : Span) : Type 1 where
  json : Json
  shows : Shows s p json
  means : (P : Json → Type 0) → P json → Means s b v P

-- a value of which a span is told stands in the plan
told : (s b : Bytes) (v : Value) → answer s ≡ 0 → Known s b v → (p : Span) → (p.end ≡ 0 → ⊥) → p ≡ value_span s v → Told s b v p
told s b Missing h k p n e = absurd (n (ap (λ (y : Span). y.end) e))
told s b Null h k p n e = absurd (n (ap (λ (y : Span). y.end) e))
told s b False h k p n e = absurd (n (ap (λ (y : Span). y.end) e))
told s b True h k p n e = absurd (n (ap (λ (y : Span). y.end) e))
told s b Empty h k p n e = absurd (n (ap (λ (y : Span). y.end) e))
told s b (Context i) h k p n e = record {
  json = json_at s i;
  shows = span_shows s h i (k refl).0 p n e;
  means = λ P x. record { at = λ ent t st. subst P (sym (plain_is s b ent (Context i) refl)) x };
}
told s b (Place i) h k p n e = record {
  json = json_at s i;
  shows = span_shows s h i (k refl) p n e;
  means = λ P x. record { at = λ ent t st. subst P (sym (plain_is s b ent (Place i) refl)) x };
}
told s b (Literal q) h k p n e = absurd (n (ap (λ (y : Span). y.end) e))
told s b (Index m) h k p n e = absurd (n (ap (λ (y : Span). y.end) e))
told s b (IndexText m) h k p n e = absurd (n (ap (λ (y : Span). y.end) e))
told s b (Name o) h k p n e = record {
  json = jstr (saying s o);
  shows = string_shows s h p n o (k refl).within e;
  means = λ P x. record { at = λ ent t st. subst P (sym (plain_is s b ent (Name o) refl)) x };
}
told s b (Text q) h k p n e = absurd (n (ap (λ (y : Span). y.end) e))
told s b (SaidChar o m) h k p n e = absurd (n (ap (λ (y : Span). y.end) e))
told s b (PackedChar q m) h k p n e = absurd (n (ap (λ (y : Span). y.end) e))
told s b (Merged g m) h k p n e = absurd (n (ap (λ (y : Span). y.end) e))

module _ (s b : Bytes) (v : Value) (h : answer s ≡ 0) (k : Known s b v) (p : Span) (some : p.end ≡ 0 → ⊥) where
  pub span_within : p ≡ value_span s v → p.start < p.end → p.end ≤ length s
  span_within e = (told s b v h k p some e).shows.within

  pub span_means : p ≡ value_span s v → (P : Json → Type 0) → ((j : Json) → render j ≡ take (p.end - p.start) (drop p.start s) → P j) → Means s b v P
  span_means e P g = let x = told s b v h k p some e in x.means P (g x.json x.shows.is)
