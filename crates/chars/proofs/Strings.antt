-- The characters of a string of the plan: each has four bytes at most, and takes as many bytes of the text or more.
use Rattle.std.specs.Prelude.{Option as RustOption}
use Prim.Native.Nat.{ℕ, zero, suc, ◌+◌, ◌/◌, ◌%◌, ◌≤◌, ◌<◌}
use mathlib.Core.Bool.{Bool, true, false}
use mathlib.Core.List.{List, [], ◌∷◌, ◌++◌}
use mathlib.Core.Path.{◌≡◌, refl, sym, ap, ◌∙◌, subst}
use native.Mathlib.Nat.{add-zero}
use native.Mathlib.Omega.{arith}
use lib.Dec.{eqb, leb, ltb}
use lib.ListN.{length, take, length-append, length-drop}
use lib.Seq.{length-take-le}
use borrow.Author.Tests.{eq-eqb, ne_eqb, le-ltb, ltb-true, ltb-false, leb-true, eqb-true, eqb-false}
use Rattle.rules.specs.Bytes.{Bytes, pick, byte_at, between}
use Rattle.rules.specs.Order.{and_left, and_right, differ}
use Rattle.rules.specs.Utf8.{Wants, wants, bad, lead, tails, length_by, utf8_length, length_inside}
use Rattle.rules.specs.Scan.{is_short, encoded, code_point, escaped_byte, unicode_length, escape_length, char_length, string_from, says}
use Rattle.rules.specs.Context.{goes_on, chars}
use Rattle.scan.proofs.Bounds.{by_cases, in_text}
use Rattle.strings.proofs.Lengths.{char_in}
use Rattle.saying.specs.Said.{remaining}
use Rattle.saying.specs.Characters.{Whole, OneChar}
use Rattle.saying.proofs.Remaining.{left_whole, left_quote, left_plain, step_escape, inside_start}
use Rattle.text.specs.Rest.{rest}
use Rattle.text.specs.declared.Text.{Text}
use Rattle.text.specs.declared.Text.TheVariants.{Said, Part, Packed}
use Rattle.value.specs.declared.Value.TheVariants.{SaidChar}
use Rattle.meaning.specs.Standing.{SaidStands}
use Rattle.chars.specs.Spelled.{First, Parted}
use Rattle.chars.specs.Laws.{nothing_spelled}
use Rattle.chars.proofs.Chars.{first, first_short, first_alone, alone_some}
use Rattle.chars.proofs.Bundled.{packed_none}
use Rattle.chars.proofs.Leads.{low_byte, high_byte, Leads, leads}
use Rattle.value.specs.declared.Value.{Value}

-- A whole string has a character at each place, up to its last quote

string_step : (s : Bytes) (k i : ℕ) → (byte_at s i ≡ 34 → ⊥) → string_from s (suc k) i ≡ pick (eqb (char_length s i) 0) 0 (string_from s k (i + char_length s i))
unfolding string_from
string_step s k i q = rw (ne_eqb (byte_at s i) 34 q)

string_down : (s : Bytes) (k i : ℕ) → string_from s (suc k) i ≡ 0 → string_from s k i ≡ 0
unfolding string_from
string_down s zero i h = refl
string_down s (suc k) i h = go (eqb (byte_at s i) 34) (eqb (char_length s i) 0) h (string_down s k (i + char_length s i))
  where
    go : (t u : Bool) → ◌≡◌ {A = ℕ} (pick t (i + 1) (pick u 0 (string_from s (suc k) (i + char_length s i)))) 0
        → (string_from s (suc k) (i + char_length s i) ≡ 0 → string_from s k (i + char_length s i) ≡ 0)
        → ◌≡◌ {A = ℕ} (pick t (i + 1) (pick u 0 (string_from s k (i + char_length s i)))) 0
    go true u h f = absurd (omega arith)
    go false true h f = refl
    go false false h f = f h

module _ (s : Bytes) (i : ℕ) (w : Whole s i) (q : byte_at s i ≡ 34 → ⊥) where
  whole_char : char_length s i ≡ 0 → ⊥
  whole_char z = w.ends (string_step s (length s) i q ∙ rw (eq-eqb (char_length s i) 0 z))

  whole_next : Whole s (i + char_length s i)
  whole_next = record {
    ends = λ z. w.ends
        (string_step s (length s) i q
        ∙ rw (ne_eqb (char_length s i) 0 whole_char) (string_down s (length s) (i + char_length s i) z));
  }

by_quote : {P : Type 0} (s : Bytes) (i : ℕ) → (byte_at s i ≡ 34 → P) → ((byte_at s i ≡ 34 → ⊥) → P) → P
by_quote {P} s i f g = go (eqb (byte_at s i) 34) refl
  where
    go : (t : Bool) → eqb (byte_at s i) 34 ≡ t → P
    go true e = f (eqb-true (byte_at s i) 34 e)
    go false e = g (eqb-false (byte_at s i) 34 e)

whole_in : (s : Bytes) (i : ℕ) → Whole s i → i < length s
whole_in s i w = by_quote s i (λ e. in_text s i (λ z. omega arith)) (λ q. char_in s i (whole_char s i w q))

-- What an escape says: a first byte, which goes on no character, and three more at most

record Few (l : Bytes) (n : ℕ) : Type 0 where
  pub head : ℕ
  pub tail : Bytes
  pub is : l ≡ head ∷ tail
  pub starts : between 128 191 head ≡ false
  pub few : length tail ≤ 3
  pub room : suc (length tail) ≤ n

few_more : (l : Bytes) (m n : ℕ) → m ≤ n → Few l m → Few l n
few_more l m n h f =
    let r = f.room in
    record { head = f.head; tail = f.tail; is = f.is; starts = f.starts; few = f.few; room = omega arith }

few_one : (c : ℕ) → c < 128 → Few (c ∷ []) 1
few_one c h = record { head = c; tail = []; is = refl; starts = low_byte c h; few = omega arith; room = omega arith }

abbrev Four : Bytes → Type 0
Four l = Few l 4

encoded_few : (p : ℕ) → Four (encoded p)
unfolding encoded
encoded_few p =
    by_cases Four (ltb p 128) _ _ (λ h. few_more (p ∷ []) 1 4 (omega arith) (few_one p (ltb-true p 128 h)))
    (λ _. by_cases Four (ltb p 2048) _ _
    (λ _. record { head = 192 + p / 64; tail = (128 + p % 64) ∷ []; is = refl; starts = high_byte (192 + p / 64) (omega arith); few = omega arith; room = omega arith })
    (λ _. by_cases Four (ltb p 65536) _ _
    (λ _. record { head = 224 + p / 4096; tail = (128 + p / 64 % 64) ∷ (128 + p % 64) ∷ []; is = refl; starts = high_byte (224 + p / 4096) (omega arith); few = omega arith; room = omega arith })
    (λ _. record {
      head = 240 + p / 262144;
      tail = (128 + p / 4096 % 64) ∷ (128 + p / 64 % 64) ∷ (128 + p % 64) ∷ [];
      is = refl;
      starts = high_byte (240 + p / 262144) (omega arith);
      few = omega arith;
      room = omega arith;
    })))

-- a letter that stands for one byte stands for a low one
record Low (e x : ℕ) : Type 0 where
  pub low : e < 128 → x < 128

low_pick : (e : ℕ) (t : Bool) (x y : ℕ) → Low e x → Low e y → Low e (pick t x y)
low_pick e true x y h k = h
low_pick e false x y h k = k

low_numeral : (e x : ℕ) → x < 128 → Low e x
low_numeral e x h = record { low = λ _. h }

escaped_low : (e : ℕ) → Low e (escaped_byte e)
unfolding escaped_byte
escaped_low e =
    low_pick e (eqb e 98) _ _ (low_numeral e 8 (omega arith))
    (low_pick e (eqb e 102) _ _ (low_numeral e 12 (omega arith))
    (low_pick e (eqb e 110) _ _ (low_numeral e 10 (omega arith))
    (low_pick e (eqb e 114) _ _ (low_numeral e 13 (omega arith))
    (low_pick e (eqb e 116) _ _ (low_numeral e 9 (omega arith)) (record { low = λ h. h })))))

short_low : (e : ℕ) → is_short e ≡ true → e < 128
unfolding is_short
short_low e h = go (ltb e 128) refl
  where
    go : (t : Bool) → ltb e 128 ≡ t → e < 128
    go true u = ltb-true e 128 u
    go false u =
        let l = ltb-false e 128 u in
        differ
        (sym h
        ∙ rw (
          ne_eqb e 34 (λ z. omega arith),
          ne_eqb e 92 (λ z. omega arith),
          ne_eqb e 47 (λ z. omega arith),
          ne_eqb e 98 (λ z. omega arith),
          ne_eqb e 102 (λ z. omega arith),
          ne_eqb e 110 (λ z. omega arith),
          ne_eqb e 114 (λ z. omega arith),
          ne_eqb e 116 (λ z. omega arith),
        ))

short_no : (e : ℕ) → e ≡ 117 → is_short e ≡ false
unfolding is_short
short_no e h = rw h

record Long (n : ℕ) : Type 0 where
  pub long : (n ≡ 0 → ⊥) → 4 ≤ n

long_pick : (t : Bool) (a b : ℕ) → Long a → Long b → Long (pick t a b)
long_pick true a b h k = h
long_pick false a b h k = k

long_0 : Long 0
long_0 = record { long = λ h. absurd (h refl) }

long_6 : Long 6
long_6 = record { long = λ _. omega arith }

long_12 : Long 12
long_12 = record { long = λ _. omega arith }

unicode_long : (s : Bytes) (i : ℕ) → Long (unicode_length s i)
unfolding unicode_length
unicode_long s i = search (long_pick, long_0, long_6, long_12) depth 9

escape_few : (s : Bytes) (i : ℕ) → byte_at s i ≡ 92 → (escape_length s i ≡ 0 → ⊥) → Few (says s i) (escape_length s i)
unfolding says escape_length
escape_few s i h n = rw (eq-eqb (byte_at s i) 92 h) (go (eqb (byte_at s (i + 1)) 117) refl n)
  where
    go : (t : Bool) → eqb (byte_at s (i + 1)) 117 ≡ t → (pick (is_short (byte_at s (i + 1))) 2 (pick t (unicode_length s i) 0) ≡ 0 → ⊥)
        → Few (pick t (encoded (code_point s i)) (escaped_byte (byte_at s (i + 1)) ∷ [])) (pick (is_short (byte_at s (i + 1))) 2 (pick t (unicode_length s i) 0))
    go true u k =
        let no = short_no (byte_at s (i + 1)) (eqb-true (byte_at s (i + 1)) 117 u) in
        rw no (few_more (encoded (code_point s i)) 4 (unicode_length s i) ((unicode_long s i).long (rw no at k)) (encoded_few (code_point s i)))
    go false u k = by (is_short (byte_at s (i + 1))) refl k
      where
        by : (t : Bool) → is_short (byte_at s (i + 1)) ≡ t → (◌≡◌ {A = ℕ} (pick t 2 0) 0 → ⊥) → Few (escaped_byte (byte_at s (i + 1)) ∷ []) (pick t 2 0)
        by true v k =
            few_more (escaped_byte (byte_at s (i + 1)) ∷ []) 1 2 (omega arith)
            (few_one (escaped_byte (byte_at s (i + 1))) ((escaped_low (byte_at s (i + 1))).low (short_low (byte_at s (i + 1)) v)))
        by false v k = absurd (k refl)

-- One character of a whole string, and where the next one starts

record Spelt (s : Bytes) (i : ℕ) : Type 0 where
  pub head : ℕ
  pub tail : Bytes
  pub next : ℕ
  pub is : remaining s i 0 ≡ head ∷ (tail ++ remaining s next 0)
  pub starts : between 128 191 head ≡ false
  pub few : length tail ≤ 3
  pub room : i + suc (length tail) ≤ next
  pub whole : Whole s next

-- k bytes that go on, from j on
record Going (s : Bytes) (j k : ℕ) : Type 0 where
  pub tail : Bytes
  pub is : remaining s j 0 ≡ tail ++ remaining s (j + k) 0
  pub count : length tail ≡ k

going : (s : Bytes) (k low high j : ℕ) → 128 ≤ low → tails k low high s j ≡ true → Going s j k
going s zero low high j hl t = record { tail = []; is = rw (add-zero j); count = refl }
going s (suc k) low high j hl t =
    let b = and_left (between low high (byte_at s j)) (tails k 128 191 s (j + 1)) t in
    let l = leb-true low (byte_at s j) (and_left (leb low (byte_at s j)) (leb (byte_at s j) high) b) in
    let g = going s k 128 191 (j + 1) (omega arith) (and_right (between low high (byte_at s j)) (tails k 128 191 s (j + 1)) t) in
    let n : j + 1 + k ≡ j + suc k = omega arith in
    record {
      tail = byte_at s j ∷ g.tail;
      is =
          left_plain s j (omega arith) (λ q. omega arith) (λ q. omega arith)
          ∙ ap (λ (y : Bytes). byte_at s j ∷ y) g.is
          ∙ ap (λ (m : ℕ). byte_at s j ∷ (g.tail ++ remaining s m 0)) n;
      count = ap suc g.count;
    }

raw : (s : Bytes) (i n : ℕ) → 32 ≤ byte_at s i → (byte_at s i ≡ 34 → ⊥) → (byte_at s i ≡ 92 → ⊥) → utf8_length s i ≡ n → (n ≡ 0 → ⊥) → Whole s (i + n) → Spelt s i
raw s i n h q k e z w = go (lead (byte_at s i)) (leads (byte_at s i)) (sym (length_inside s i (in_text s i (λ z. omega arith))) ∙ e)
  where
    go : (x : Wants) → Leads (byte_at s i) x → length_by x s i ≡ n → Spelt s i
    go bad l e = absurd (z (sym e))
    go (wants m low high) l e = step (tails m low high s (i + 1)) refl e
      where
        step : (t : Bool) → tails m low high s (i + 1) ≡ t → pick t (suc m) 0 ≡ n → Spelt s i
        step false u e = absurd (z (sym e))
        step true u e =
            let g = going s m low high (i + 1) l.above u in
            let f = l.few in
            let c = g.count in
            let j : i + 1 + m ≡ i + n = omega arith in
            record {
              head = byte_at s i;
              tail = g.tail;
              next = i + n;
              is =
                  left_plain s i h q k
                  ∙ ap (λ (y : Bytes). byte_at s i ∷ y) g.is
                  ∙ ap (λ (x : ℕ). byte_at s i ∷ (g.tail ++ remaining s x 0)) j;
              starts = l.starts;
              few = omega arith;
              room = omega arith;
              whole = w;
            }

char_is_escape : (s : Bytes) (i : ℕ) → byte_at s i ≡ 92 → char_length s i ≡ escape_length s i
unfolding char_length
char_is_escape s i h = rw h

char_is_raw : (s : Bytes) (i : ℕ) → 32 ≤ byte_at s i → (byte_at s i ≡ 92 → ⊥) → char_length s i ≡ utf8_length s i
unfolding char_length
char_is_raw s i h k = rw (le-ltb (byte_at s i) 32 h, ne_eqb (byte_at s i) 92 k)

char_no_control : (s : Bytes) (i : ℕ) → (char_length s i ≡ 0 → ⊥) → 32 ≤ byte_at s i
unfolding char_length
char_no_control s i n = go (ltb (byte_at s i) 32) refl n
  where
    go : (t : Bool) → ltb (byte_at s i) 32 ≡ t → (pick t 0 (pick (eqb (byte_at s i) 92) (escape_length s i) (utf8_length s i)) ≡ 0 → ⊥) → 32 ≤ byte_at s i
    go true e n = absurd (n refl)
    go false e n = ltb-false (byte_at s i) 32 e

spelt : (s : Bytes) (i : ℕ) → Whole s i → (byte_at s i ≡ 34 → ⊥) → Spelt s i
spelt s i w q = go (eqb (byte_at s i) 92) refl
  where
    some : char_length s i ≡ 0 → ⊥
    some = whole_char s i w q

    go : (t : Bool) → eqb (byte_at s i) 92 ≡ t → Spelt s i
    go true e =
        let h = eqb-true (byte_at s i) 92 e in
        let m = char_is_escape s i h in
        let n = step_escape s i h ∙ sym m in
        let f = escape_few s i h (λ z. some (m ∙ z)) in
        let r = f.room in
        record {
          head = f.head;
          tail = f.tail;
          next = i + char_length s i;
          is =
              left_whole s i q (λ z. some (sym n ∙ z))
              ∙ ap (λ (k : ℕ). says s i ++ remaining s (i + k) 0) n
              ∙ ap (λ (l : Bytes). l ++ remaining s (i + char_length s i) 0) f.is;
          starts = f.starts;
          few = f.few;
          room = omega arith;
          whole = whole_next s i w q;
        }
    go false e =
        let h = char_no_control s i some in
        let k = eqb-false (byte_at s i) 92 e in
        raw s i (char_length s i) h q k (sym (char_is_raw s i h k)) some (whole_next s i w q)

whole_starts : (s : Bytes) (i : ℕ) → Whole s i → goes_on (remaining s i 0) ≡ false
whole_starts s i w = by_quote s i (λ e. ap goes_on (left_quote s i 0 e)) (λ q. let p = spelt s i w q in ap goes_on p.is ∙ p.starts)

-- no string says more bytes than it has
said_most : (s : Bytes) (k i : ℕ) → Whole s i → length s ≤ i + k → length (remaining s i 0) + i ≤ length s
said_most s zero i w h = let l = whole_in s i w in absurd (omega arith)
said_most s (suc k) i w h = by_quote s i (λ e. let l = ap length (left_quote s i 0 e) in let m = whole_in s i w in omega arith) (λ q. further (spelt s i w q) (said_most s k))
  where
    further : (p : Spelt s i) → ((j : ℕ) → Whole s j → length s ≤ j + k → length (remaining s j 0) + j ≤ length s) → length (remaining s i 0) + i ≤ length s
    further p f =
        let r = p.room in
        let g = f p.next p.whole (omega arith) in
        let l = ap length p.is in
        let a = length-append p.tail (remaining s p.next 0) in
        omega arith

pub said_few : (s : Bytes) (i : ℕ) → Whole s i → length (remaining s i 0) ≤ length s
said_few s i w = let m = said_most s (length s) i w (omega arith) in omega arith

-- The character at a place, as a value

module _ (s b : Bytes) (i n e : ℕ) (w : Whole s i) (o : OneChar s i n e) where
  four_most : n ≤ 4
  four_most =
      by_quote s i
      (λ q. let l = ap length (left_quote s i 0 q) in let a = o.enough in let z = o.something in absurd (omega arith))
      (λ q.
      let p = spelt s i w q in
      let f = first_short p.head p.tail (remaining s p.next 0) (whole_starts s p.next p.whole) in
      let a = ap (λ (l : Bytes). length (first (chars l))) p.is in
      let c = ap (λ (l : List Bytes). length (first l)) o.first in
      let d = length-take-le n (remaining s i 0) o.enough in
      let m = p.few in
      omega arith)

  said_stands : i ≤ 65548 → SaidStands s i n
  said_stands near =
      let f = four_most in
      record {
        inside = inside_start s i near;
        one = record { alone = first_alone (remaining s i 0) (take n (remaining s i 0)) (chars (remaining s e 0)) o.first; few = omega arith };
      }

  pub said_first : i ≤ 65548 → length s ≤ 65536 → First s b (Said i 0) (SaidChar i n) (Said e 0)
  said_first near h =
      let x = o.something in
      let a = o.enough in
      let l = sym (length-drop n (remaining s i 0)) ∙ ap length o.others in
      let m = o.near in
      record {
        letter = take n (remaining s i 0);
        value = record { means = refl; plain = refl; stands = said_stands near };
        first = o.first;
        spelled = (refl, o.whole, omega arith);
        shorter = omega arith;
      }

-- from its first byte on
pub said_any : (s b : Bytes) (at k : ℕ) (r : RustOption (Value × Text)) → k ≡ 0 → Parted s b (Said at 0) r → Parted s b (Said at k) r
said_any s b at k r z p = subst (λ (j : ℕ). Parted s b (Said at j) r) (sym z) p

-- One character by itself: nothing is behind it

pub part_first : (s b : Bytes) (t : Text) (at k n : ℕ) → t ≡ Part at k n → k ≡ 0 → SaidStands s at n → First s b t (SaidChar at n) (Packed 0 0)
part_first s b t at k n e z h =
    let o = h.one.alone in
    let x = alone_some (take n (remaining s at 0)) o in
    let none = packed_none b 0 0 refl in
    let y = ap length none in
    let q : rest s b t ≡ take n (remaining s at 0) = ap (rest s b) e ∙ ap (λ (j : ℕ). take n (remaining s at j)) z in
    let m = ap length q in
    record {
      letter = take n (remaining s at 0);
      value = record { means = refl; plain = refl; stands = h };
      first = ap chars q ∙ o ∙ ap (λ (l : Bytes). take n (remaining s at 0) ∷ chars l) (sym none);
      spelled = nothing_spelled s b;
      shorter = omega arith;
    }
