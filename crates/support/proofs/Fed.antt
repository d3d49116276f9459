-- A text that is fed byte by byte is what `indent_aware_write` writes.
use mathlib.Core.Path.{◌≡◌, refl, sym, ap, ◌∙◌}
use mathlib.Core.Bool.{Bool, true, false, ◌&&◌, not}
use mathlib.Core.List.{[], ◌∷◌, ◌++◌}
use mathlib.Core.Option.{none, some}
use Prim.Native.Nat.{ℕ, suc}
use native.Mathlib.Omega.{arith}
use borrow.Author.Tests.{not-true}
use lib.Dec.{eqb, ltb}
use lib.ListN.{length, get_or, take}
use lib.Seq.{append_snoc}
use Rattle.rules.specs.Bytes.{Bytes, pick}
use Rattle.rules.specs.Support.{newline_matcher, with_indent, ends_with_newline}
use Rattle.rules.specs.Output.{indent_or_empty, indented}
use Rattle.output.specs.declared.Writer.{Writer}
use Rattle.output.specs.Writer.{Output, over, moved, filled, stored, room, all_put}
use Rattle.output.proofs.Steps.{all_put_append}
use Rattle.output.proofs.Written.{all_put_is, all_put_moved}
use Rattle.support.specs.Feed.{with_pen, penned, begun, marked, finished, due, indent_before, emitted, all_emitted, fed_text}
use Rattle.support.specs.Runs.{calm}

-- the pen does not matter to a plain write

pen_by : (b : Bool) (n : ℕ) (x y : Output) → pick b (over (with_pen n) x) (over (with_pen n) y) ≡ over (with_pen n) (pick b x y)
pen_by true n x y = refl
pen_by false n x y = refl

all_put_pen : (v : Bytes) (n : ℕ) (o : Output) → all_put v (over (with_pen n) o) ≡ over (with_pen n) (all_put v o)
all_put_pen v n o =
    all_put_is v (over (with_pen n) o) ∙ pen_by (ltb (room o) (length v)) n (over filled (stored (take (room o) v) o)) (stored v o) ∙ ap (over (with_pen n)) (sym (all_put_is v o))

-- the bytes that feeding v writes, whatever fits
emission : Bytes → Writer → Bytes → Bytes
emission i w [] = []
emission i w (c ∷ v) = indent_before i c w ++ c ∷ emission i (penned c w) v

emission_moved : (i v : Bytes) (m l : ℕ) (f : Bool) (w : Writer) → emission i (moved m l f w) v ≡ emission i w v
unfolding emission
emission_moved i [] m l f w = refl
emission_moved i (c ∷ v) m l f w = ap (λ (u : Bytes). indent_before i c w ++ c ∷ u) (emission_moved i v m l f (penned c w))

-- the pen behind it
pens : Bytes → Output → Output
pens [] o = o
pens (c ∷ v) o = pens v (over (penned c) o)

emitted_is : (i : Bytes) (c : ℕ) (o : Output) → emitted i c o ≡ over (penned c) (all_put (indent_before i c o.writer ++ (c ∷ [])) o)
unfolding emitted all_put
emitted_is i c o = ap (over (penned c)) (sym (all_put_append (indent_before i c o.writer) (c ∷ []) o))

all_emitted_is : (i v : Bytes) (o : Output) → all_emitted i v o ≡ pens v (all_put (emission i o.writer v) o)
unfolding all_emitted emission pens all_put
all_emitted_is i [] o = refl
all_emitted_is i (c ∷ v) o =
    let b : Bytes = indent_before i c o.writer in
    let o₁ : Output = all_put (b ++ (c ∷ [])) o in
    let e : Bytes = emission i (penned c o.writer) v in
    let same : emission i (penned c o₁.writer) v ≡ e =
    ap (λ (w : Writer). emission i (penned c w) v) (all_put_moved (b ++ (c ∷ [])) o) ∙ emission_moved i v o₁.writer.written o₁.writer.low o₁.writer.full (penned c o.writer) in
    ap (all_emitted i v) (emitted_is i c o)
    ∙ all_emitted_is i v (over (penned c) o₁)
    ∙ ap (λ (u : Bytes). pens v (all_put u (over (penned c) o₁))) same
    ∙ ap (pens v) (all_put_pen e (suc c) o₁ ∙ ap (over (penned c)) (sym (all_put_append (b ++ (c ∷ [])) e o) ∙ ap (λ (u : Bytes). all_put u o) (append_snoc b c e)))

-- a run of bytes that no indent follows
and_left : (a b : Bool) → (a && b) ≡ true → a ≡ true
and_left true b h = refl
and_left false b h = h

and_right : (a b : Bool) → (a && b) ≡ true → b ≡ true
and_right true b h = h
and_right false b h = let z : ◌≡◌ {A = ℕ} 0 1 = cc in absurd (omega arith)

emission_calm : (i v : Bytes) (c : ℕ) (w : Writer) → calm w.has_indent (c ∷ v) ≡ true → emission i (penned c w) v ≡ v
unfolding emission
emission_calm i [] c w h = refl
emission_calm i (d ∷ v) c w h =
    let k : (w.has_indent && eqb c 10) ≡ false = not-true (w.has_indent && eqb c 10) (and_left (not (w.has_indent && eqb c 10)) (calm w.has_indent (d ∷ v)) h) in
    ap (λ (b : Bool). pick b (take w.indent i) [] ++ d ∷ emission i (penned d w) v) k
    ∙ ap (λ (u : Bytes). d ∷ u) (emission_calm i v d w (and_right (not (w.has_indent && eqb c 10)) (calm w.has_indent (d ∷ v)) h))

-- with an indent, and without one
before_by : (i : Bytes) (c : ℕ) (w : Writer) (b : Bool) → w.has_indent ≡ b → indent_before i c w ≡ pick (b && due w.pen (not (newline_matcher c) && w.indent_before_write)) (take w.indent i) []
before_by i c w b h = ap (λ (t : Bool). pick (t && due w.pen (not (newline_matcher c) && w.indent_before_write)) (take w.indent i) []) h

emission_none : (i v : Bytes) (w : Writer) → w.has_indent ≡ false → emission i w v ≡ v
unfolding emission
emission_none i [] w h = refl
emission_none i (c ∷ v) w h = ap (λ (u : Bytes). u ++ c ∷ emission i (penned c w) v) (before_by i c w false h) ∙ ap (λ (u : Bytes). c ∷ u) (emission_none i v (penned c w) h)

with_more : (b : Bool) (x : Bytes) (d : ℕ) (u r : Bytes) → d ∷ u ≡ r → pick b x [] ++ d ∷ u ≡ pick b (x ++ r) r
with_more true x d u r e = ap (λ (y : Bytes). x ++ y) e
with_more false x d u r e = e

emission_some : (i v : Bytes) (c : ℕ) (w : Writer) → w.has_indent ≡ true → c ∷ emission i (penned c w) v ≡ with_indent (take w.indent i) (c ∷ v)
unfolding emission
emission_some i [] c w h = refl
emission_some i (d ∷ v) c w h =
    ap (λ (u : Bytes). c ∷ (u ++ d ∷ emission i (penned d w) v)) (before_by i d (penned c w) true h)
    ∙ ap (λ (u : Bytes). c ∷ u) (with_more (eqb c 10) (take w.indent i) d (emission i (penned d w) v) (with_indent (take w.indent i) (d ∷ v)) (emission_some i v d w h))

pick_none : (b : Bool) → ◌≡◌ {A = Bytes} (pick b [] []) []
pick_none true = refl
pick_none false = refl

-- (the rules' text, where the indent is there or not)
text_by : (b : Bool) → Bytes → Writer → ℕ → Bytes → Bytes
text_by b x w c v = pick (not (newline_matcher c) && w.indent_before_write) (indent_or_empty (pick b (some x) none)) [] ++ indented (pick b (some x) none) (c ∷ v)

fed_by : (b : Bool) (i v : Bytes) (c : ℕ) (w : Writer) → w.has_indent ≡ b → emission i (begun w) (c ∷ v) ≡ text_by b (take w.indent i) w c v
unfolding emission text_by
fed_by true i v c w h =
    ap (λ (u : Bytes). u ++ c ∷ emission i (penned c (begun w)) v) (before_by i c (begun w) true h)
    ∙ ap (λ (u : Bytes). pick (not (newline_matcher c) && w.indent_before_write) (take w.indent i) [] ++ u) (emission_some i v c (begun w) h)
fed_by false i v c w h =
    ap (λ (u : Bytes). u ++ c ∷ emission i (penned c (begun w)) v) (before_by i c (begun w) false h)
    ∙ ap (λ (u : Bytes). c ∷ u) (emission_none i v (penned c (begun w)) h)
    ∙ ap (λ (u : Bytes). u ++ c ∷ v) (sym (pick_none (not (newline_matcher c) && w.indent_before_write)))

emission_fed : (i v : Bytes) (w : Writer) → emission i (begun w) v ≡ fed_text i w v
unfolding emission text_by
emission_fed i [] w = refl
emission_fed i (c ∷ v) w = fed_by w.has_indent i v c w refl

-- the last byte
unfoldable pub last_of : ℕ → Bytes → ℕ
last_of c [] = c
last_of c (d ∷ v) = last_of d v

pens_last : (c : ℕ) (v : Bytes) (o : Output) → pens (c ∷ v) o ≡ over (penned (last_of c v)) o
unfolding pens last_of
pens_last c [] o = refl
pens_last c (d ∷ v) o = pens_last d v o

last_ends : (c : ℕ) (v : Bytes) → newline_matcher (last_of c v) ≡ ends_with_newline (c ∷ v)
unfolding last_of
last_ends c [] = refl
last_ends c (d ∷ v) = last_ends d v

last_at : (c : ℕ) (v : Bytes) → last_of c v ≡ get_or (c ∷ v) (length v) 0
unfolding last_of
last_at c [] = refl
last_at c (d ∷ v) = last_at d v

-- such a run, at once
pub run_is : (i v : Bytes) (c : ℕ) (o : Output) → calm o.writer.has_indent (c ∷ v) ≡ true → all_emitted i (c ∷ v) o ≡ over (penned (get_or (c ∷ v) (length v) 0)) (all_put (c ∷ v) (all_put (indent_before i c o.writer) o))
unfolding emission
run_is i v c o h =
    all_emitted_is i (c ∷ v) o
    ∙ pens_last c v (all_put (emission i o.writer (c ∷ v)) o)
    ∙ ap (λ (n : ℕ). over (penned n) (all_put (emission i o.writer (c ∷ v)) o)) (last_at c v)
    ∙ ap (λ (u : Bytes). over (penned (get_or (c ∷ v) (length v) 0)) (all_put (indent_before i c o.writer ++ c ∷ u) o)) (emission_calm i v c o.writer h)
    ∙ ap (over (penned (get_or (c ∷ v) (length v) 0))) (all_put_append (indent_before i c o.writer) (c ∷ v) o)

-- what a text leaves of a writer, where it has moved on
unfoldable pub after_text : Bytes → Writer → Writer
after_text [] w = begun w
after_text (c ∷ v) w = marked (ends_with_newline (c ∷ v)) (penned (last_of c v) w)

-- THE LAW, first half: what is written
pub fed_is : (i v : Bytes) (o : Output) → over finished (all_emitted i v (over begun o)) ≡ over (after_text v) (all_put (fed_text i o.writer v) o)
unfolding after_text all_emitted all_put
fed_is i [] o = refl
fed_is i (c ∷ v) o =
    ap (over finished) (all_emitted_is i (c ∷ v) (over begun o) ∙ pens_last c v (all_put (emission i (begun o.writer) (c ∷ v)) (over begun o)) ∙ ap (λ (u : Bytes). over (penned (last_of c v)) (all_put u (over begun o))) (emission_fed i (c ∷ v) o.writer) ∙ ap (over (penned (last_of c v))) (all_put_pen (fed_text i o.writer (c ∷ v)) 0 o))
    ∙ ap (λ (b : Bool). over (λ w. marked b (penned (last_of c v) w)) (all_put (fed_text i o.writer (c ∷ v)) o)) (last_ends c v)
