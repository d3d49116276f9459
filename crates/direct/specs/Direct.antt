-- When a text is stored at once, and the writer behind it.
use Rattle.std.specs.Prelude.{ℕ, zero, suc, ◌+◌, ◌-◌, ◌*◌, ◌/◌, ◌%◌, ◌^◌, ◌≤◌, ◌<◌, Bool, true, false, ◌&&◌, not, [], ◌∷◌, ◌++◌, ◌≡◌, refl, eqb, ltb, leb, length, get_or, take}
use Rattle.std.proofs.Math.Option.{none, some}
use Rattle.std.proofs.Common.{sym, ap, ◌∙◌, add-zero, arith, ltb-false, eqb-true, ne_eqb, leb-true, length-take-le, take_all}
use Rattle.std.proofs.lemmas.Bool.{eqb-false}
use Rattle.std.proofs.lemmas.List.Edits.{sets}
use Rattle.std.proofs.Math.Seq.{take-length}
use Rattle.rules.specs.Bytes.{Bytes, pick, run}
use Rattle.rules.specs.Order.{differ}
use Rattle.rules.specs.Bits.{Bits}
use Rattle.rules.specs.Layout.{field}
use Rattle.rules.specs.LayoutLaws.{Binary}
use Rattle.rules.specs.Support.{newline_matcher}
use Rattle.rules.specs.Output.{indent_or_empty, indented}
use Rattle.bits.specs.Packed.{bytes_at, number_bytes, number_packed}
use Rattle.output.specs.declared.Writer.{Writer}
use Rattle.output.specs.Writer.{Output, output, over, advanced, filled, stored, room, place_of, limit_of, all_put}
use Rattle.output.proofs.Steps.{all_put_append, limit_le}
use Rattle.output.proofs.Written.{all_put_is, all_put_fits}
use Rattle.output.proofs.Packed.{take_packed}
use Rattle.support.specs.Feed.{begun, penned, marked, finished, indent_before, all_emitted, fed_text, escaped}
use Rattle.support.specs.Runs.{calm, quiet_byte, line_length}
use Rattle.support.proofs.Runs.{run_whole, calm_run, plain_run, line_calm}
use Rattle.support.proofs.Fed.{after_text, fed_is}

-- a text that is begun, fed and finished; i is the buffer of which the indent is a prefix
abbrev pub written_text : Bytes → Bytes → Output → Output
written_text i v o = over finished (all_emitted i v (over begun o))

-- no indent in front, and there is room
abbrev pub takes : Writer → ℕ → ℕ → Bool
takes w len n = pick (w.has_indent && w.indent_before_write) false (pick (eqb n 0) false (leb n (limit_of w len - place_of w)))

-- behind a text of n bytes whose last one is c
abbrev pub behind : ℕ → ℕ → Writer → Writer
behind n c w = marked (newline_matcher c) (penned c (advanced n w))

pub record Taken (w : Writer) (len n : ℕ) : Type 0 where
  pub flush : (w.has_indent && w.indent_before_write) ≡ false
  pub some : n ≡ 0 → ⊥
  pub fits : n ≤ limit_of w len - place_of w

pub taken : (w : Writer) (len n : ℕ) → takes w len n ≡ true → Taken w len n
taken w len n = by (w.has_indent && w.indent_before_write) (eqb n 0) refl refl
  where
    by : (y z : Bool) → (w.has_indent && w.indent_before_write) ≡ y → eqb n 0 ≡ z
        → pick y false (pick z false (leb n (limit_of w len - place_of w))) ≡ true → Taken w len n
    by true z q r h = differ (sym h)
    by false true q r h = differ (sym h)
    by false false q r h = record { flush = q; some = eqb-false n 0 r; fits = leb-true n (limit_of w len - place_of w) h }

all_put_nil : (v : Bytes) (o : Output) → all_put v (all_put [] o) ≡ all_put v o
unfolding all_put
all_put_nil v o = refl

-- no indent is wanted where the text begins
no_indent : (i : Bytes) (c : ℕ) (w : Writer) → (w.has_indent && w.indent_before_write) ≡ false → indent_before i c (begun w) ≡ []
no_indent i c w h = by w.has_indent w.indent_before_write (newline_matcher c) h
  where
    by : (x y z : Bool) → (x && y) ≡ false → pick (x && (not z && y)) (take w.indent i) [] ≡ []
    by true true z e = differ e
    by true false true e = refl
    by true false false e = refl
    by false y z e = refl

-- storing v at once is what beginning, feeding and finishing make of it
pub stored_whole : (i v out : Bytes) (w : Writer) → takes w (length out) (length v) ≡ true → calm w.has_indent v ≡ true
    → output (behind (length v) (get_or v (length v - 1) 0) w) (sets out (place_of w) v) ≡ written_text i v (output w out)
stored_whole i v out w h k =
    let t = taken w (length out) (length v) h in
    let o : Output = over begun (output w out) in
    let c = get_or v (length v - 1) 0 in
    let puts : all_put v (all_put (indent_before i (get_or v 0 0) (begun w)) o) ≡ stored v o =
    ap (λ (x : Bytes). all_put v (all_put x o)) (no_indent i (get_or v 0 0) w t.flush) ∙ all_put_nil v o ∙ all_put_fits v o t.fits in
    let feeds : all_emitted i v o ≡ over (penned c) (stored v o) = run_whole i v o t.some k ∙ ap (over (penned c)) puts in
    ap (over finished) (sym feeds)

-- The indent in front

pub bytes_first : (b : Bits) (p n : ℕ) → (n ≡ 0 → ⊥) → bytes_at b p n ≡ field b 8 p ∷ bytes_at b (p + 8) (n - 1)
unfolding bytes_at
bytes_first b p zero h = absurd (h refl)
bytes_first b p (suc n) h = let e : n ≡ suc n - 1 = omega arith in ap (λ (m : ℕ). field b 8 p ∷ bytes_at b (p + 8) m) e

-- whether one comes in front of a text that begins with c
abbrev pub leads : ℕ → Writer → Bool
leads c w = pick (w.has_indent && w.indent_before_write) (not (newline_matcher c)) false

-- none is due any more
abbrev pub cleared : Writer → Writer
cleared w = record { written = w.written; low = w.low; high = w.high; indent = w.indent; pen = w.pen; has_indent = w.has_indent; block_text = w.block_text; full = w.full; trailing_newline = w.trailing_newline; content_produced = w.content_produced; indent_before_write = false }

cleared_by : (b : Bool) (x y : Output) → pick b (over cleared x) (over cleared y) ≡ over cleared (pick b x y)
cleared_by true x y = refl
cleared_by false x y = refl

-- a plain write does not ask
all_put_cleared : (v : Bytes) (o : Output) → all_put v (over cleared o) ≡ over cleared (all_put v o)
all_put_cleared v o =
    all_put_is v (over cleared o) ∙ cleared_by (ltb (room o) (length v)) (over filled (stored (take (room o) v) o)) (stored v o) ∙ ap (over cleared) (sym (all_put_is v o))

-- the marks are set anew where a text ends
after_cleared : (c : ℕ) (v : Bytes) (o : Output) → over (after_text (c ∷ v)) (over cleared o) ≡ over (after_text (c ∷ v)) o
unfolding after_text
after_cleared c v o = refl

-- the text with the indent in front
text_led : (i v : Bytes) (c : ℕ) (w : Writer) → leads c w ≡ true → fed_text i w (c ∷ v) ≡ take w.indent i ++ fed_text i (cleared w) (c ∷ v)
text_led i v c w = by w.has_indent w.indent_before_write (newline_matcher c)
  where
    by : (x y z : Bool) → pick (x && y) (not z) false ≡ true
        → pick (not z && y) (indent_or_empty (pick x (some (take w.indent i)) none)) [] ++ indented (pick x (some (take w.indent i)) none) (c ∷ v)
        ≡ take w.indent i ++ (pick (not z && false) (indent_or_empty (pick x (some (take w.indent i)) none)) [] ++ indented (pick x (some (take w.indent i)) none) (c ∷ v))
    by true true true h = differ (sym h)
    by true true false h = refl
    by true false z h = differ (sym h)
    by false y z h = differ (sym h)

-- THE LAW: the indent stored first, and then the text
pub led_whole : (i v out : Bytes) (c : ℕ) (w : Writer) → leads c w ≡ true → length (take w.indent i) ≤ room (output w out)
    → written_text i (c ∷ v) (output (cleared (advanced (length (take w.indent i)) w)) (sets out (place_of w) (take w.indent i))) ≡ written_text i (c ∷ v) (output w out)
led_whole i v out c w h k =
    let t = take w.indent i in
    let o : Output = output w out in
    let rest = fed_text i (cleared w) (c ∷ v) in
    let a = after_text (c ∷ v) in
    fed_is i (c ∷ v) (over cleared (stored t o))
    ∙ ap (over a) (all_put_cleared rest (stored t o))
    ∙ after_cleared c v (all_put rest (stored t o))
    ∙ ap (λ (x : Output). over a (all_put rest x)) (sym (all_put_fits t o k))
    ∙ ap (over a) (sym (all_put_append t rest o) ∙ ap (λ (x : Bytes). all_put x o) (sym (text_led i v c w h)))
    ∙ sym (fed_is i (c ∷ v) o)

-- A short text: the first n bytes of the seven of a word

abbrev pub short_bytes : ℕ → ℕ → Bytes
short_bytes n x = take n (number_bytes 7 x)

-- the byte j
pub short_get : (x j : ℕ) → j < 7 → x / 2 ^ (48 - 8 * j) % 256 ≡ get_or (number_bytes 7 x) j 0
unfolding number_bytes
short_get x zero h = refl
short_get x (suc zero) h = refl
short_get x (suc (suc zero)) h = refl
short_get x (suc (suc (suc zero))) h = refl
short_get x (suc (suc (suc (suc zero)))) h = refl
short_get x (suc (suc (suc (suc (suc zero))))) h = refl
short_get x (suc (suc (suc (suc (suc (suc zero)))))) h = refl
short_get x (suc (suc (suc (suc (suc (suc (suc j))))))) h = absurd (omega arith)

pub word_length : (x : ℕ) → length (number_bytes 7 x) ≡ 7
unfolding number_bytes
word_length x = refl

pub short_length : (n x : ℕ) → n ≤ 7 → length (short_bytes n x) ≡ n
short_length n x h = length-take-le n (number_bytes 7 x) (rw word_length h)

-- the field of a packed string
pub short_packed : (b : Bits) (bin : Binary b) (p n x : ℕ) → n ≤ 7 → x ≡ field b 56 p → short_bytes n x ≡ bytes_at b p n
short_packed b bin p n x h e = ap (take n) (number_packed b bin 7 0 p x e ∙ ap (λ (q : ℕ). bytes_at b q 7) (add-zero p)) ∙ take_packed b p 7 n h

-- whether it is stored at once
abbrev pub takes_short : Writer → ℕ → ℕ → ℕ → Bool
takes_short w len n x = pick (ltb 7 n) false (pick (takes w len n) (pick w.has_indent (eqb (line_length true (short_bytes n x)) n) true) false)

pub short_taken : (w : Writer) (len n x : ℕ) → takes_short w len n x ≡ true → (n ≤ 7) × (takes w len n ≡ true) × (calm w.has_indent (short_bytes n x) ≡ true)
short_taken w len n x = by (ltb 7 n) (takes w len n) w.has_indent refl refl refl
  where
    by : (a b c : Bool) → ltb 7 n ≡ a → takes w len n ≡ b → w.has_indent ≡ c → pick a false (pick b (pick c (eqb (line_length true (short_bytes n x)) n) true) false) ≡ true
        → (n ≤ 7) × (takes w len n ≡ true) × (calm w.has_indent (short_bytes n x) ≡ true)
    by true b c e f g h = differ (sym h)
    by false false c e f g h = differ (sym h)
    by false true true e f g h =
        let few = ltb-false 7 n e in
        let l : length (short_bytes n x) ≤ line_length true (short_bytes n x) = omega (arith, eqb-true (line_length true (short_bytes n x)) n h, short_length n x few) in
        (few, f, ap (λ (t : Bool). calm t (short_bytes n x)) g ∙ ap (calm true) (sym (take_all (line_length true (short_bytes n x)) (short_bytes n x) l)) ∙ line_calm true (short_bytes n x))
    by false true false e f g h = (ltb-false 7 n e, f, ap (λ (t : Bool). calm t (short_bytes n x)) g ∙ ap (calm false) (sym (take-length (short_bytes n x))) ∙ line_calm false (short_bytes n x))

-- Lent bytes that go out as they are: none is escaped, and no line ends inside

abbrev pub plain : Bool → Bool → Bytes → Bool
plain has e v = eqb (run (quiet_byte has e) v) (length v)

pub plain_means : (has e : Bool) (v : Bytes) → plain has e v ≡ true → (calm has v ≡ true) × (escaped e v ≡ v)
plain_means has e v h =
    let n : run (quiet_byte has e) v ≡ length v = eqb-true (run (quiet_byte has e) v) (length v) h in
    let whole : take (run (quiet_byte has e) v) v ≡ v = ap (λ (k : ℕ). take k v) n ∙ take-length v in
    (ap (calm has) (sym whole) ∙ calm_run has e v, ap (escaped e) (sym whole) ∙ plain_run has e v ∙ whole)

-- What a caller is told who keeps the writer: where bytes were stored, it is behind them

-- 0, or more than that where v was stored
abbrev pub if_set : ℕ → ℕ → Bytes → Bytes → Bytes
if_set r at v out = pick (eqb r 0) out (sets out at v)

abbrev pub set_bytes : Writer → ℕ → Bytes → ℕ
set_bytes w len v = pick (takes w len (length v)) (256 * length v + get_or v (length v - 1) 0) 0

abbrev pub set_short : Writer → ℕ → ℕ → ℕ → ℕ
set_short w len n x = pick (takes_short w len n x) (get_or (short_bytes n x) (n - 1) 0 + 1) 0

-- v stands in out', of which n is the count and c the last byte
pub record IsSet (v : Bytes) (w : Writer) (out out' : Bytes) (n c : ℕ) : Type 0 where
  pub byte : c < 256
  pub fits : place_of w + n ≤ length out
  pub is : (i : Bytes) → output (behind n c w) out' ≡ written_text i v (output w out)

pub none_set : (v out out' : Bytes) (at r : ℕ) → out' ≡ if_set r at v out → r ≡ 0 → out' ≡ out
none_set v out out' at r e z = e ∙ ap (λ (k : ℕ). if_set k at v out) z

some_set : (v out out' : Bytes) (at r : ℕ) → out' ≡ if_set r at v out → (r ≡ 0 → ⊥) → out' ≡ sets out at v
some_set v out out' at r e z = e ∙ ap (λ (t : Bool). pick t out (sets out at v)) (ne_eqb r 0 z)

pub bytes_set : (v out out' : Bytes) (w : Writer) (r : ℕ) → r ≡ set_bytes w (length out) v → out' ≡ if_set r (place_of w) v out → ((r ≡ 0 → ⊥) → get_or v (length v - 1) 0 < 256)
    → calm w.has_indent v ≡ true → (r ≡ 0 → ⊥) → IsSet v w out out' (r / 256) (r % 256)
bytes_set v out out' w r h e g k z = by (takes w (length out) (length v)) refl h
  where
    c : ℕ
    c = get_or v (length v - 1) 0

    by : (t : Bool) → takes w (length out) (length v) ≡ t → r ≡ pick t (256 * length v + c) 0 → IsSet v w out out' (r / 256) (r % 256)
    by false q m = absurd (z m)
    by true q m =
        let n : r / 256 ≡ length v = omega (arith, m, g z) in
        let l : r % 256 ≡ c = omega (arith, m, g z) in
        let t = taken w (length out) (length v) q in
        record {
          byte = omega (arith, l, g z);
          fits = omega (arith, n, t.some, t.fits, limit_le w (length out));
          is = λ i. ap (output (behind (r / 256) (r % 256) w)) (some_set v out out' (place_of w) r e z)
              ∙ ap (λ (x : ℕ). output (behind x (r % 256) w) (sets out (place_of w) v)) n ∙ ap (λ (x : ℕ). output (behind (length v) x w) (sets out (place_of w) v)) l ∙ stored_whole i v out w q k;
        }

pub short_set : (n x : ℕ) (out out' : Bytes) (w : Writer) (r : ℕ) → r ≡ set_short w (length out) n x → out' ≡ if_set r (place_of w) (short_bytes n x) out → r ≤ 256 → (r ≡ 0 → ⊥)
    → (n ≤ 7) × IsSet (short_bytes n x) w out out' n (r - 1)
short_set n x out out' w r h e g z = by (takes_short w (length out) n x) refl h
  where
    v : Bytes
    v = short_bytes n x

    c : ℕ
    c = get_or v (n - 1) 0

    by : (t : Bool) → takes_short w (length out) n x ≡ t → r ≡ pick t (c + 1) 0 → (n ≤ 7) × IsSet v w out out' n (r - 1)
    by false q m = absurd (z m)
    by true q m =
        let k = short_taken w (length out) n x q in
        let t = taken w (length out) n k.1 in
        let l : r - 1 ≡ c = omega (arith, m) in
        let s : length v ≡ n = short_length n x k.0 in (
          k.0,
          record {
            byte = omega (arith, g, z);
            fits = omega (arith, t.some, t.fits, limit_le w (length out));
            is = λ i. ap (output (behind n (r - 1) w)) (some_set v out out' (place_of w) r e z)
                ∙ ap (λ (y : ℕ). output (behind n y w) (sets out (place_of w) v)) (l ∙ ap (λ (y : ℕ). get_or v (y - 1) 0) (sym s))
                ∙ ap (λ (y : ℕ). output (behind y (get_or v (length v - 1) 0) w) (sets out (place_of w) v)) (sym s)
                ∙ stored_whole i v out w (ap (takes w (length out)) s ∙ k.1) k.2;
          },
        )
