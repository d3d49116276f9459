-- A whole string's characters: each is a first byte and bytes that go on, and the next one's first byte does not.
use mathlib.Core.Bool.{Bool, true, false, ◌&&◌, ◌||◌}
use mathlib.Core.List.{[], ◌∷◌, ◌++◌}
use mathlib.Core.Path.{◌≡◌, refl, sym, ap, ◌∙◌, subst}
use Prim.Native.Nat.{ℕ, zero, suc, ◌+◌, ◌*◌, ◌/◌, ◌%◌, ◌≤◌, ◌<◌}
use native.Mathlib.Nat.{add-zero}
use native.Mathlib.Omega.{arith}
use lib.Dec.{eqb, leb, ltb}
use lib.ListN.{length, get_or, take, drop, length-append}
use lib.Seq.{take_at, drop_at}
use borrow.Author.Tests.{eq-eqb, ne_eqb, le-leb, lt-leb, le-ltb, lt-ltb, ltb-true, ltb-false, leb-true, eqb-true, eqb-false}
use Rattle.rules.specs.Bytes.{Bytes, pick, byte_at, between, is_in}
use Rattle.rules.specs.Order.{differ, and_left, and_right}
use Rattle.rules.specs.Utf8.{Wants, wants, bad, lead, tails, length_by, utf8_length, length_inside}
use Rattle.rules.specs.Scan.{is_short, encoded, code_point, escaped_byte, unicode_length, escape_length, char_length, string_from, string_end, step_length, says}
use Rattle.rules.specs.Context.{goes_on, on_head, chars}
use Rattle.scan.proofs.Bounds.{by_cases, in_text, eq_in}
use Rattle.strings.proofs.Lengths.{char_most, char_in}
use Rattle.saying.specs.Said.{remaining}
use Rattle.saying.specs.Characters.{Whole, OneChar}
use Rattle.saying.proofs.Remaining.{left_whole, left_quote, left_plain, step_escape}

-- bytes that go on
abbrev Tails : Bytes → Type 0
Tails [] = Unit {0}
Tails (c ∷ l) = (between 128 191 c ≡ true) × Tails l

chars_split : (c : ℕ) (l rest : Bytes) → Tails l → goes_on rest ≡ false → chars (c ∷ (l ++ rest)) ≡ (c ∷ l) ∷ chars rest
chars_split c [] rest t h = rw h
chars_split c (d ∷ l) rest t h = rw (t.0, chars_split d l rest t.1 h)

-- a character: its first byte, and those that go on
record Letter (l : Bytes) : Type 0 where
  pub head : ℕ
  pub tail : Bytes
  pub is : l ≡ head ∷ tail
  pub starts : between 128 191 head ≡ false
  pub others : Tails tail

letter_first : (l rest : Bytes) → Letter l → goes_on rest ≡ false → chars (l ++ rest) ≡ l ∷ chars rest
letter_first l rest g h = rw g.is (chars_split g.head g.tail rest g.others h)

letter_starts : (l rest : Bytes) → Letter l → goes_on (l ++ rest) ≡ false
letter_starts l rest g = rw g.is g.starts

low_byte : (c : ℕ) → c < 128 → between 128 191 c ≡ false
low_byte c h = rw (lt-leb 128 c h)

high_byte : (c : ℕ) → 191 < c → between 128 191 c ≡ false
high_byte c h = rw (le-leb 128 c (omega arith), lt-leb c 191 h)

tail_byte : (c : ℕ) → 128 ≤ c → c ≤ 191 → between 128 191 c ≡ true
tail_byte c h k = rw (le-leb 128 c h, le-leb c 191 k)

letter_one : (c : ℕ) → c < 128 → Letter (c ∷ [])
letter_one c h = record { head = c; tail = []; is = refl; starts = low_byte c h; others = tt }

-- The UTF-8 of a code point is a character

sextet : (x : ℕ) → between 128 191 (128 + x % 64) ≡ true
sextet x = tail_byte (128 + x % 64) (omega arith) (omega arith)

encoded_letter : (p : ℕ) → Letter (encoded p)
unfolding encoded
encoded_letter p =
    by_cases Letter (ltb p 128) _ _ (λ h. letter_one p (ltb-true p 128 h))
    (λ _. by_cases Letter (ltb p 2048) _ _ (λ _. record { head = 192 + p / 64; tail = (128 + p % 64) ∷ []; is = refl; starts = high_byte (192 + p / 64) (omega arith); others = (sextet p, tt) })
    (λ _. by_cases Letter (ltb p 65536) _ _
    (λ _. record { head = 224 + p / 4096; tail = (128 + p / 64 % 64) ∷ (128 + p % 64) ∷ []; is = refl; starts = high_byte (224 + p / 4096) (omega arith); others = (sextet (p / 64), (sextet p, tt)) })
    (λ _. record {
      head = 240 + p / 262144;
      tail = (128 + p / 4096 % 64) ∷ (128 + p / 64 % 64) ∷ (128 + p % 64) ∷ [];
      is = refl;
      starts = high_byte (240 + p / 262144) (omega arith);
      others = (sextet (p / 4096), (sextet (p / 64), (sextet p, tt)));
    })))

-- An escape says a character

abbrev Every : (ℕ → Type 0) → Bytes → Type 0
Every P [] = Unit {0}
Every P (x ∷ l) = P x × Every P l

-- what holds of each of a few holds of one of them
one_of : (P : ℕ → Type 0) (l : Bytes) → Every P l → (e : ℕ) → is_in l e ≡ true → P e
one_of P [] a e h = differ (sym h)
one_of P (x ∷ l) a e h = go (eqb e x) refl h (λ k. one_of P l a.1 e k)
  where
    go : (t : Bool) → eqb e x ≡ t → (t || is_in l e) ≡ true → (is_in l e ≡ true → P e) → P e
    go true q k f = subst P (sym (eqb-true e x q)) a.0
    go false q k f = f k

record Low (c : ℕ) : Type 0 where
  pub low : escaped_byte c < 128

short_low : (e : ℕ) → is_short e ≡ true → Low e
unfolding is_short escaped_byte
short_low e h =
    one_of Low (34 ∷ 92 ∷ 47 ∷ 98 ∷ 102 ∷ 110 ∷ 114 ∷ 116 ∷ [])
    (omega arith, (omega arith, (omega arith, (omega arith, (omega arith, (omega arith, (omega arith, (omega arith, tt)))))))) e h

escape_letter : (s : Bytes) (i : ℕ) → byte_at s i ≡ 92 → (escape_length s i ≡ 0 → ⊥) → Letter (says s i)
unfolding says escape_length
escape_letter s i h n =
    rw (eq-eqb (byte_at s i) 92 h)
    (by_cases Letter (eqb (byte_at s (i + 1)) 117) _ _ (λ _. encoded_letter (code_point s i))
    (λ u. letter_one (escaped_byte (byte_at s (i + 1))) (short_low (byte_at s (i + 1)) (go (is_short (byte_at s (i + 1))) u n)).low))
  where
    go : (t : Bool) → eqb (byte_at s (i + 1)) 117 ≡ false → (pick t 2 (pick (eqb (byte_at s (i + 1)) 117) (unicode_length s i) 0) ≡ 0 → ⊥) → t ≡ true
    go true u k = refl
    go false u k = absurd (k (rw u))

-- What stands at a place of a string: a character, and n bytes of the text further on what is left

record Spelt (s : Bytes) (i n : ℕ) : Type 0 where
  pub letter : Bytes
  pub is : remaining s i 0 ≡ letter ++ remaining s (i + n) 0
  pub good : Letter letter

spelt_escape : (s : Bytes) (i : ℕ) → byte_at s i ≡ 92 → (escape_length s i ≡ 0 → ⊥) → Spelt s i (escape_length s i)
spelt_escape s i h n =
    let e = step_escape s i h in
    let w = left_whole s i (λ q. omega arith) (λ z. n (sym e ∙ z)) in
    record {
      letter = says s i;
      is = w ∙ ap (λ (k : ℕ). says s i ++ remaining s (i + k) 0) e;
      good = escape_letter s i h n;
    }

-- k bytes that go on, from j on
record Going (s : Bytes) (j k : ℕ) : Type 0 where
  pub tail : Bytes
  pub is : remaining s j 0 ≡ tail ++ remaining s (j + k) 0
  pub others : Tails tail
  pub count : length tail ≡ k

going : (s : Bytes) (k low high j : ℕ) → 128 ≤ low → high ≤ 191 → tails k low high s j ≡ true → Going s j k
going s zero low high j hl hh t = record { tail = []; is = rw (add-zero j); others = tt; count = refl }
going s (suc k) low high j hl hh t =
    let b = and_left (between low high (byte_at s j)) (tails k 128 191 s (j + 1)) t in
    let l = leb-true low (byte_at s j) (and_left (leb low (byte_at s j)) (leb (byte_at s j) high) b) in
    let h = leb-true (byte_at s j) high (and_right (leb low (byte_at s j)) (leb (byte_at s j) high) b) in
    let g = going s k 128 191 (j + 1) (omega arith) (omega arith) (and_right (between low high (byte_at s j)) (tails k 128 191 s (j + 1)) t) in
    let n : j + 1 + k ≡ j + suc k = omega arith in
    record {
      tail = byte_at s j ∷ g.tail;
      is =
          left_plain s j (omega arith) (λ q. omega arith) (λ q. omega arith)
          ∙ ap (λ (y : Bytes). byte_at s j ∷ y) g.is
          ∙ ap (λ (m : ℕ). byte_at s j ∷ (g.tail ++ remaining s m 0)) n;
      others = (tail_byte (byte_at s j) (omega arith) (omega arith), g.others);
      count = ap suc g.count;
    }

-- a first byte of several does not go on, and those behind it do
abbrev Leads : ℕ → Wants → Type 0
Leads c (wants k low high) = (191 < c) × ((128 ≤ low) × (high ≤ 191))
Leads c bad = Unit {0}

leads : (c : ℕ) → 128 ≤ c → Leads c (lead c)
leads c h =
    by_cases (Leads c) (ltb c 128) _ _ (λ t. let l = ltb-true c 128 t in absurd (omega arith))
    (λ _. by_cases (Leads c) (ltb c 194) _ _ (λ _. tt)
    (λ t. let l = ltb-false c 194 t in
    by_cases (Leads c) (ltb c 224) _ _ (λ _. omega arith)
    (λ _. by_cases (Leads c) (eqb c 224) _ _ (λ _. omega arith)
    (λ _. by_cases (Leads c) (eqb c 237) _ _ (λ _. omega arith)
    (λ _. by_cases (Leads c) (ltb c 240) _ _ (λ _. omega arith)
    (λ _. by_cases (Leads c) (eqb c 240) _ _ (λ _. omega arith)
    (λ _. by_cases (Leads c) (ltb c 244) _ _ (λ _. omega arith)
    (λ _. by_cases (Leads c) (eqb c 244) _ _ (λ _. omega arith)
    (λ _. tt)))))))))

-- a character of UTF-8, as long as what it stands for
record Raw (s : Bytes) (i n : ℕ) : Type 0 where
  pub spelt : Spelt s i n
  pub count : length spelt.letter ≡ n

raw_several : (s : Bytes) (i k low high : ℕ) → (byte_at s i ≡ 34 → ⊥) → 191 < byte_at s i → 128 ≤ low → high ≤ 191 → tails k low high s (i + 1) ≡ true → Raw s i (suc k)
raw_several s i k low high q hc hl hh t =
    let g = going s k low high (i + 1) hl hh t in
    let n : i + 1 + k ≡ i + suc k = omega arith in
    record {
      spelt = record {
        letter = byte_at s i ∷ g.tail;
        is =
            left_plain s i (omega arith) q (λ e. omega arith)
            ∙ ap (λ (y : Bytes). byte_at s i ∷ y) g.is
            ∙ ap (λ (m : ℕ). byte_at s i ∷ (g.tail ++ remaining s m 0)) n;
        good = record { head = byte_at s i; tail = g.tail; is = refl; starts = high_byte (byte_at s i) hc; others = g.others };
      };
      count = ap suc g.count;
    }

raw_one : (s : Bytes) (i : ℕ) → 32 ≤ byte_at s i → (byte_at s i ≡ 34 → ⊥) → (byte_at s i ≡ 92 → ⊥) → byte_at s i < 128 → Raw s i 1
raw_one s i h q k l =
    record { spelt = record { letter = byte_at s i ∷ []; is = left_plain s i h q k; good = letter_one (byte_at s i) l }; count = refl }

one_long : (s : Bytes) (i : ℕ) → 32 ≤ byte_at s i → byte_at s i < 128 → utf8_length s i ≡ 1
one_long s i g h = length_inside s i (in_text s i (λ z. omega arith)) ∙ rw (lt-ltb (byte_at s i) 128 h)

raw_high : (s : Bytes) (i : ℕ) → 128 ≤ byte_at s i → (utf8_length s i ≡ 0 → ⊥) → Raw s i (utf8_length s i)
raw_high s i h n =
    let e = length_inside s i (in_text s i (λ z. omega arith)) in
    subst (λ (m : ℕ). Raw s i m) (sym e) (go (lead (byte_at s i)) (leads (byte_at s i) h) (λ z. n (e ∙ z)))
  where
    go : (w : Wants) → Leads (byte_at s i) w → (length_by w s i ≡ 0 → ⊥) → Raw s i (length_by w s i)
    go bad g n = absurd (n refl)
    go (wants k low high) g n = step (tails k low high s (i + 1)) refl n
      where
        step : (t : Bool) → tails k low high s (i + 1) ≡ t → (◌≡◌ {A = ℕ} (pick t (suc k) 0) 0 → ⊥) → Raw s i (pick t (suc k) 0)
        step true e n = raw_several s i k low high (λ q. omega arith) g.0 g.1.0 g.1.1 e
        step false e n = absurd (n refl)

raw : (s : Bytes) (i : ℕ) → 32 ≤ byte_at s i → (byte_at s i ≡ 34 → ⊥) → (byte_at s i ≡ 92 → ⊥) → (utf8_length s i ≡ 0 → ⊥) → Raw s i (utf8_length s i)
raw s i h q k n = go (ltb (byte_at s i) 128) refl
  where
    go : (t : Bool) → ltb (byte_at s i) 128 ≡ t → Raw s i (utf8_length s i)
    go true e =
        let l = ltb-true (byte_at s i) 128 e in
        subst (λ (m : ℕ). Raw s i m) (sym (one_long s i h l)) (raw_one s i h q k l)
    go false e = raw_high s i (ltb-false (byte_at s i) 128 e) n

-- Both kinds

char_is_escape : (s : Bytes) (i : ℕ) → byte_at s i ≡ 92 → char_length s i ≡ escape_length s i
unfolding char_length
char_is_escape s i h = rw h

char_is_raw : (s : Bytes) (i : ℕ) → 32 ≤ byte_at s i → (byte_at s i ≡ 92 → ⊥) → char_length s i ≡ utf8_length s i
unfolding char_length
char_is_raw s i h k = rw (le-ltb (byte_at s i) 32 h, ne_eqb (byte_at s i) 92 k)

char_no_control : (s : Bytes) (i : ℕ) → (char_length s i ≡ 0 → ⊥) → 32 ≤ byte_at s i
unfolding char_length
char_no_control s i n = go (ltb (byte_at s i) 32) refl n
  where
    go : (t : Bool) → ltb (byte_at s i) 32 ≡ t → (pick t 0 (pick (eqb (byte_at s i) 92) (escape_length s i) (utf8_length s i)) ≡ 0 → ⊥) → 32 ≤ byte_at s i
    go true e n = absurd (n refl)
    go false e n = ltb-false (byte_at s i) 32 e

module _ (s : Bytes) (i : ℕ) (q : byte_at s i ≡ 34 → ⊥) (n : char_length s i ≡ 0 → ⊥) where
  spelt_raw : (byte_at s i ≡ 92 → ⊥) → Raw s i (char_length s i)
  spelt_raw k =
      let h = char_no_control s i n in
      let e = char_is_raw s i h k in
      subst (λ (m : ℕ). Raw s i m) (sym e) (raw s i h q k (λ z. n (e ∙ z)))

  spelt_backslash : byte_at s i ≡ 92 → Spelt s i (char_length s i)
  spelt_backslash h =
      let e = char_is_escape s i h in
      subst (λ (m : ℕ). Spelt s i m) (sym e) (spelt_escape s i h (λ z. n (e ∙ z)))

  spelt : Spelt s i (char_length s i)
  spelt = go (eqb (byte_at s i) 92) refl
    where
      go : (t : Bool) → eqb (byte_at s i) 92 ≡ t → Spelt s i (char_length s i)
      go true e = spelt_backslash (eqb-true (byte_at s i) 92 e)
      go false e = (spelt_raw (eqb-false (byte_at s i) 92 e)).spelt

-- A whole string

string_down : (s : Bytes) (k i : ℕ) → string_from s (suc k) i ≡ 0 → string_from s k i ≡ 0
unfolding string_from
string_down s zero i h = refl
string_down s (suc k) i h = go (eqb (byte_at s i) 34) (eqb (char_length s i) 0) h (string_down s k (i + char_length s i))
  where
    go : (t u : Bool) → ◌≡◌ {A = ℕ} (pick t (i + 1) (pick u 0 (string_from s (suc k) (i + char_length s i)))) 0
        → (string_from s (suc k) (i + char_length s i) ≡ 0 → string_from s k (i + char_length s i) ≡ 0)
        → ◌≡◌ {A = ℕ} (pick t (i + 1) (pick u 0 (string_from s k (i + char_length s i)))) 0
    go true u h f = absurd (omega arith)
    go false true h f = refl
    go false false h f = f h

string_step : (s : Bytes) (k i : ℕ) → (byte_at s i ≡ 34 → ⊥) → string_from s (suc k) i ≡ pick (eqb (char_length s i) 0) 0 (string_from s k (i + char_length s i))
unfolding string_from
string_step s k i q = rw (ne_eqb (byte_at s i) 34 q)

module _ (s : Bytes) (i : ℕ) (w : Whole s i) (q : byte_at s i ≡ 34 → ⊥) where
  pub whole_char : char_length s i ≡ 0 → ⊥
  whole_char z = w.ends (string_step s (length s) i q ∙ rw (eq-eqb (char_length s i) 0 z))

  whole_next : Whole s (i + char_length s i)
  whole_next = record {
    ends = λ z. w.ends
        (string_step s (length s) i q
        ∙ rw (ne_eqb (char_length s i) 0 whole_char) (string_down s (length s) (i + char_length s i) z));
  }

  whole_spelt : Spelt s i (char_length s i)
  whole_spelt = spelt s i q whole_char

by_quote : {P : Type 0} (s : Bytes) (i : ℕ) → (byte_at s i ≡ 34 → P) → ((byte_at s i ≡ 34 → ⊥) → P) → P
by_quote {P} s i f g = go (eqb (byte_at s i) 34) refl
  where
    go : (t : Bool) → eqb (byte_at s i) 34 ≡ t → P
    go true e = f (eqb-true (byte_at s i) 34 e)
    go false e = g (eqb-false (byte_at s i) 34 e)

whole_in : (s : Bytes) (i : ℕ) → Whole s i → i < length s
whole_in s i w = by_quote s i (λ e. in_text s i (λ z. omega arith)) (λ q. char_in s i (whole_char s i w q))

whole_starts : (s : Bytes) (i : ℕ) → Whole s i → goes_on (remaining s i 0) ≡ false
whole_starts s i w =
    by_quote s i (λ e. ap goes_on (left_quote s i 0 e))
    (λ q. let p = whole_spelt s i w q in ap goes_on p.is ∙ letter_starts p.letter (remaining s (i + char_length s i) 0) p.good)

-- m bytes are the character at i, and n bytes further on the text stands the next
one_char : (s : Bytes) (i n m e : ℕ) (p : Spelt s i n) → m ≡ length p.letter → e ≡ i + n → Whole s e → OneChar s i m e
one_char s i n m e p hm he w =
    let r = remaining s e 0 in
    let b : remaining s i 0 ≡ p.letter ++ remaining s e 0 = p.is ∙ ap (λ (j : ℕ). p.letter ++ remaining s j 0) (sym he) in
    record {
      first =
          ap chars b ∙ letter_first p.letter (remaining s e 0) p.good (whole_starts s e w)
          ∙ ap (λ (x : Bytes). x ∷ chars (remaining s e 0)) (sym (ap (take m) b ∙ take_at p.letter (remaining s e 0) m (sym hm)));
      others = ap (drop m) b ∙ drop_at p.letter (remaining s e 0) m (sym hm);
      enough = omega (arith, ap length b, length-append p.letter (remaining s e 0));
      something = omega (arith, hm, ap length p.good.is);
      whole = w;
      near = omega (arith, whole_in s e w);
    }

module _ (s : Bytes) (i n : ℕ) (q : byte_at s i ≡ 34 → ⊥) (hn : n ≡ char_length s i) where
  pub char_escape : (m : ℕ) → byte_at s i ≡ 92 → m ≡ length (says s i) → Whole s i → OneChar s i m (i + n)
  char_escape m h hm w =
      one_char s i (char_length s i) m (i + n) (record { letter = says s i; is = is_said; good = escape_letter s i h (λ z. whole_char s i w q (char_is_escape s i h ∙ z)) }) hm
      (ap (λ (k : ℕ). i + k) hn) (subst (λ (k : ℕ). Whole s (i + k)) (sym hn) (whole_next s i w q))
    where
      is_said : remaining s i 0 ≡ says s i ++ remaining s (i + char_length s i) 0
      is_said =
          let e = step_escape s i h ∙ sym (char_is_escape s i h) in
          left_whole s i q (λ z. whole_char s i w q (sym e ∙ z)) ∙ ap (λ (k : ℕ). says s i ++ remaining s (i + k) 0) e

  pub char_raw : (byte_at s i ≡ 92 → ⊥) → Whole s i → OneChar s i n (i + n)
  char_raw k w =
      let p = spelt_raw s i q (whole_char s i w q) k in
      one_char s i (char_length s i) n (i + n) p.spelt (hn ∙ sym p.count) (ap (λ (k : ℕ). i + k) hn)
      (subst (λ (k : ℕ). Whole s (i + k)) (sym hn) (whole_next s i w q))

  pub char_none : n ≡ 0 → Whole s i → remaining s i 0 ≡ []
  char_none z w = absurd (whole_char s i w q (sym hn ∙ z))
