-- How long one character is, and that it stands within the text.
use mathlib.Core.Bool.{Bool, true, false, ◌&&◌, not}
use mathlib.Core.Path.{◌≡◌, refl}
use Prim.Native.Nat.{ℕ, zero, suc, ◌+◌, ◌≤◌, ◌<◌}
use native.Mathlib.Omega.{arith}
use lib.Dec.{eqb, leb, ltb}
use lib.ListN.{length}
use borrow.Author.Tests.{leb-true, le-ltb, eqb-false, not-true}
use Rattle.rules.specs.Bytes.{Bytes, pick, byte_at}
use Rattle.rules.specs.Order.{and_left, and_right}
use Rattle.rules.specs.Utf8.{Wants, wants, bad, lead, tails, length_by, utf8_length, length_inside}
use Rattle.rules.specs.Scan.{unicode_length, escape_length, char_length, string_from}
use Rattle.scan.proofs.Bounds.{by_cases, in_text, eq_in, Goes, nothing, goes_to, goes_from}
use Rattle.strings.specs.Plain.{is_plain}

pub record Short (n : ℕ) : Type 0 where
  pub most : n ≤ 12

short_pick : (t : Bool) (a b : ℕ) → Short a → Short b → Short (pick t a b)
short_pick t a b h k = by_cases Short t a b (λ _. h) (λ _. k)

short_0 : Short 0
short_0 = omega arith

short_2 : Short 2
short_2 = omega arith

short_6 : Short 6
short_6 = omega arith

short_12 : Short 12
short_12 = omega arith

ruleset shorts = (short_pick, short_0, short_2, short_6, short_12)

-- a first byte of UTF-8 wants three more at most
abbrev left : Wants → ℕ
left (wants k low high) = k
left bad = 0

record Few (w : Wants) : Type 0 where
  pub most : left w ≤ 3

few_pick : (t : Bool) (v w : Wants) → Few v → Few w → Few (pick t v w)
few_pick t v w h k = by_cases Few t v w (λ _. h) (λ _. k)

few_bad : Few bad
few_bad = omega arith

few_0 : (low high : ℕ) → Few (wants 0 low high)
few_0 low high = omega arith

few_1 : (low high : ℕ) → Few (wants 1 low high)
few_1 low high = omega arith

few_2 : (low high : ℕ) → Few (wants 2 low high)
few_2 low high = omega arith

few_3 : (low high : ℕ) → Few (wants 3 low high)
few_3 low high = omega arith

few_lead : (c : ℕ) → Few (lead c)
few_lead c = search (few_pick, few_bad, few_0, few_1, few_2, few_3) depth 12

short_by : (w : Wants) (s : Bytes) (i : ℕ) → Few w → Short (length_by w s i)
short_by (wants k low high) s i h = short_pick (tails k low high s (i + 1)) (suc k) 0 (record { most = omega (arith, h.most) }) short_0
short_by bad s i h = short_0

utf8_most : (s : Bytes) (i : ℕ) → Short (utf8_length s i)
unfolding utf8_length
utf8_most s i = short_pick (ltb i (length s)) _ _ (short_by (lead (byte_at s i)) s i (few_lead (byte_at s i))) short_0

unicode_most : (s : Bytes) (i : ℕ) → Short (unicode_length s i)
unfolding unicode_length
unicode_most s i = search shorts depth 9

pub escape_most : (s : Bytes) (i : ℕ) → Short (escape_length s i)
unfolding escape_length
escape_most s i = search (shorts, unicode_most) depth 9

pub char_most : (s : Bytes) (i : ℕ) → Short (char_length s i)
unfolding char_length
char_most s i = search (shorts, escape_most, utf8_most) depth 9

char_none : (s : Bytes) (i : ℕ) → byte_at s i ≡ 0 → char_length s i ≡ 0
unfolding char_length
char_none s i z = rw z

pub char_in : (s : Bytes) (i : ℕ) → (char_length s i ≡ 0 → ⊥) → i < length s
char_in s i h = in_text s i (λ z. h (char_none s i z))

-- a plain character is one byte long, and no quote
module _ (s : Bytes) (i : ℕ) (h : is_plain (byte_at s i) ≡ true) where
  in_range : (leb 32 (byte_at s i) && ltb (byte_at s i) 128) ≡ true
  in_range = and_left (leb 32 (byte_at s i) && ltb (byte_at s i) 128) (not (eqb (byte_at s i) 34) && not (eqb (byte_at s i) 92)) h

  no_mark : (not (eqb (byte_at s i) 34) && not (eqb (byte_at s i) 92)) ≡ true
  no_mark = and_right (leb 32 (byte_at s i) && ltb (byte_at s i) 128) (not (eqb (byte_at s i) 34) && not (eqb (byte_at s i) 92)) h

  pub plain_length : char_length s i ≡ 1
  unfolding char_length
  plain_length =
      let c = byte_at s i in
      let low = leb-true 32 (byte_at s i) (and_left (leb 32 (byte_at s i)) (ltb (byte_at s i) 128) in_range) in
      let high = and_right (leb 32 (byte_at s i)) (ltb (byte_at s i) 128) in_range in
      let slash = not-true (eqb (byte_at s i) 92) (and_right (not (eqb (byte_at s i) 34)) (not (eqb (byte_at s i) 92)) no_mark) in
      let here = length_inside s i (in_text s i (λ z. omega arith)) in
      rw (le-ltb (byte_at s i) 32 low, slash, here, high)

  pub plain_no_quote : byte_at s i ≡ 34 → ⊥
  plain_no_quote = eqb-false (byte_at s i) 34 (not-true (eqb (byte_at s i) 34) (and_left (not (eqb (byte_at s i) 34)) (not (eqb (byte_at s i) 92)) no_mark))

-- what stands behind a string stands within the text
pub string_goes : (s : Bytes) (k i : ℕ) → Goes s (i + 1) (string_from s k i)
unfolding string_from
string_goes s zero i = nothing s (i + 1)
string_goes s (suc k) i =
    by_cases (Goes s (i + 1)) _ _ _ (λ h. goes_to s (i + 1) (i + 1) (omega arith) (let l = eq_in s i 34 refl h in omega arith))
    (λ _. by_cases (Goes s (i + 1)) (eqb (char_length s i) 0) _ _ (λ _. nothing s (i + 1))
    (λ _. goes_from s (i + 1) (i + char_length s i + 1) _ (omega arith) (string_goes s k (i + char_length s i))))
