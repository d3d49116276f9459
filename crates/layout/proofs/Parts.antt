-- What each function of this crate does, as a law of the layout that it checks.
use Prim.Native.Nat.{ℕ, zero, suc, ◌+◌, ◌-◌, ◌*◌, ◌/◌, ◌%◌, ◌≤◌, ◌<◌}
use mathlib.Core.Bool.{Bool, true, false}
use mathlib.Core.Logic.{inl, inr}
use mathlib.Core.Path.{◌≡◌, refl, sym, ap, ◌∙◌}
use native.Mathlib.Omega.{arith}
use lib.Dec.{leb}
use lib.ListN.{length}
use borrow.Author.Tests.{le-leb, lt-leb, leb-true, leb-false}
use Rattle.rules.specs.Bytes.{Bytes, pick}
use Rattle.rules.specs.Utf8.{Wants, done, follows, utf8}
use Rattle.rules.specs.Bits.{Bits, bits}
use Rattle.rules.specs.Layout.{Read, read, broken, onward, field, num, ◌then◌, shaped, tested, dec_all, tagged}
use Rattle.rules.specs.Bundle.{string, flag_out, flag_make, flag, option_out, option_make, seg_out, seg_make, seg, segs, level, PathKind}
use Rattle.rules.specs.Bundle.{path_out, path_make, path, twos_complement, top_bit_set, below_zero, literal_out, literal_make, literal}
use Rattle.rules.specs.Bundle.{names_out, names_make, block_names, indent}
use Rattle.rules.specs.BundleLaws.{bits_size}
use Rattle.rules.specs.LayoutLaws.{Binary}
use Rattle.bits.specs.Packed.{bytes_at, number_bytes}
use Rattle.utf8.specs.Machine.{after as fed}
use Rattle.layout.specs.Ascii.{follows_run}
use Rattle.layout.specs.Walk.{Place, At, Broken, place_by, next, from, unmarked, after, number_at, ahead, marked}
use Rattle.layout.specs.WalkLaws.{place_none, place_some, place_same, past_shaped, past_then, headed, after_num, ahead_in, kind_is, kind_stays, kind_none}
use Rattle.layout.specs.Text.{bytes_read, bytes_broken}
use Rattle.layout.specs.Arms.{seg_kinds, seg_0, path_kinds, path_0, path_1, literal_kinds, literal_3, literal_4, literal_5}
use Rattle.layout.specs.Arms.{names_kinds, names_1, names_2, option_kinds, option_1}

-- Places, by their numbers

module _ (p : ℕ) (h : p < 2) where
  pub number_none : (b : Bits) (w : ℕ) → 0 ≡ number_at b w (place_by p)
  number_none b w = rw (place_none p h)

  pub ahead_none : (b : Bits) (n : ℕ) → Broken ≡ ahead b n (place_by p)
  ahead_none b n = rw (place_none p h)

  pub marked_none : Broken ≡ marked (place_by p)
  marked_none = rw (place_none p h)

module _ (p : ℕ) (h : 2 ≤ p) where
  pub number_is : (s : Bytes) (w r : ℕ) → r ≡ field (bits s) w (p / 2 - 1) → r ≡ number_at (bits s) w (place_by p)
  number_is s w r e = rw (place_some p h) e

  pub ahead_far : (s : Bytes) (n : ℕ) → 8 * length s < p / 2 - 1 + n → Broken ≡ ahead (bits s) n (place_by p)
  ahead_far s n l = rw (place_some p h, lt-leb (p / 2 - 1 + n) (bits s).size (omega (arith, bits_size s)))

  pub ahead_near : (s : Bytes) (n : ℕ) → p / 2 - 1 + n ≤ 8 * length s → place_by (p + 2 * n) ≡ ahead (bits s) n (place_by p)
  ahead_near s n l =
      rw (place_some p h, le-leb (p / 2 - 1 + n) (bits s).size (omega (arith, bits_size s)))
      (place_same (p + 2 * n) (p / 2 - 1 + n) (p % 2) (omega arith) (omega arith) (omega arith))

  pub marked_is : place_by (p - p % 2 + 1) ≡ marked (place_by p)
  marked_is = rw (place_some p h) (place_same (p - p % 2 + 1) (p / 2 - 1) 1 (omega arith) (omega arith) (omega arith))

pub flag_is : (b : Bits) (p : Place) → ahead b 1 p ≡ after flag b p
flag_is b p = sym (past_shaped unmarked flag_out flag_make (num 1) b p ∙ after_num 1 b p)

-- UTF-8, some bytes at a time: i bytes of n are read, and w is what is wanted

module _ (b : Bits) (at n i : ℕ) (w : Wants) where
  abbrev pub Follows : Bool
  Follows = follows (bytes_at b (at + 8 * i) (n - i)) w

  pub utf8_end : n ≤ i → done w ≡ Follows
  unfolding bytes_at
  utf8_end h = let e : n - i ≡ 0 = omega arith in rw e

  -- the next k are the last of x
  pub utf8_again : (bin : Binary b) (k x : ℕ) (v : Wants) → k ≤ n - i → x ≡ field b (8 * k) (at + 8 * i) → v ≡ fed w (number_bytes k x)
      → follows (bytes_at b (at + 8 * (i + k)) (n - (i + k))) v ≡ Follows
  utf8_again bin k x v h e f =
      let l : n - i ≡ k + (n - (i + k)) = omega arith in
      let m : at + 8 * (i + k) ≡ at + 8 * i + 8 * k = omega arith in
      rw (l, m, f) (follows_run b bin (at + 8 * i) k (n - (i + k)) x w e)

pub utf8_start : (b : Bits) (at n : ℕ) (w v : Wants) → w ≡ v → Follows b at n 0 w ≡ follows (bytes_at b at n) v
utf8_start b at n w v h =
    let e : n - 0 ≡ n = omega arith in
    let f : at + 8 * 0 ≡ at = omega arith in
    rw (e, f, h)

-- Strings

-- n bytes that are UTF-8
abbrev tested_bytes : Bits → ℕ → ℕ → Read Bytes
tested_bytes b n r = onward (dec_all (num 8) n b r) (λ s r. pick (utf8 s) (read s r) broken)

module _ (b : Bits) (p q : Place) (n : ℕ) (hn : n ≡ number_at b 16 p) (hq : q ≡ ahead b 16 p) where
  string_from : after string b p ≡ from unmarked (tested_bytes b n) q
  string_from = rw (hn, hq) (headed unmarked (λ x. onward (onward x (λ n q. dec_all (num 8) n b q)) (λ s r. pick (utf8 s) (read s r) broken)) refl 16 b p)

  pub string_none : q ≡ Broken → Broken ≡ after string b p
  string_none e = sym (string_from ∙ ap (from unmarked (tested_bytes b n)) e)

  module _ (at : ℕ) (m : Bool) (e : q ≡ At at m) where
    string_fits : (l t : Bool) → leb (at + 8 * n) b.size ≡ l → t ≡ utf8 (bytes_at b at n)
        → next unmarked m (tested_bytes b n at) ≡ pick t (pick l (At (at + 8 * n) m) Broken) Broken
    string_fits true t h u = rw (bytes_read b n at (leb-true _ _ h), ← u) (whether t)
      where
        whether : (t : Bool) → next unmarked m (pick t (read (bytes_at b at n) (at + 8 * n)) broken) ≡ pick t (At (at + 8 * n) m) Broken
        whether true = refl
        whether false = refl
    string_fits false t h u = rw (bytes_broken b n at (ahead_in b 16 p at m (sym hq ∙ e)) (leb-false _ _ h)) (whether t)
      where
        whether : (t : Bool) → Broken ≡ pick t Broken Broken
        whether true = refl
        whether false = refl

    string_tested : (t : Bool) → t ≡ utf8 (bytes_at b at n) → after string b p ≡ pick t (ahead b (8 * n) (At at m)) Broken
    string_tested t u = string_from ∙ ap (from unmarked (tested_bytes b n)) e ∙ string_fits (leb (at + 8 * n) b.size) t refl u

    pub string_is : (t : Bool) → t ≡ utf8 (bytes_at b at n) → t ≡ true → ahead b (8 * n) (At at m) ≡ after string b p
    string_is t u h = sym (string_tested true (sym h ∙ u))

    pub string_bad : (t : Bool) → t ≡ utf8 (bytes_at b at n) → t ≡ false → Broken ≡ after string b p
    string_bad t u h = sym (string_tested false (sym h ∙ u))

-- Segments and paths

module _ (b : Bits) (p q : Place) (n : ℕ) (hn : n ≡ number_at b 2 p) (hq : q ≡ ahead b 2 p) where
  pub seg_named : n ≡ 0 → after string b q ≡ after seg b p
  seg_named e = kind_is unmarked seg_out seg_make 2 seg_kinds b p q n hn hq 0 string inl seg_0 e

  pub seg_stays : (n ≡ 0 → ⊥) → n ≤ 2 → q ≡ after seg b p
  seg_stays h l = at n h l refl
    where
      at : (k : ℕ) → (k ≡ 0 → ⊥) → k ≤ 2 → n ≡ k → q ≡ after seg b p
      at zero h l e = absurd (h refl)
      at (suc zero) h l e = kind_stays unmarked seg_out seg_make 2 seg_kinds b p q n hn hq 1 (inr (inl tt)) (λ q. refl) refl e
      at (suc (suc zero)) h l e = kind_stays unmarked seg_out seg_make 2 seg_kinds b p q n hn hq 2 (inr (inr (inl tt))) (λ q. refl) refl e
      at (suc (suc (suc k))) h l e = absurd (omega arith)

  pub seg_other : 2 < n → Broken ≡ after seg b p
  seg_other h = kind_none unmarked seg_out seg_make 2 seg_kinds b p q n hn hq (suc (suc (suc (n - 3)))) (λ q. refl) (omega arith)

pub level_is : (b : Bits) (p : Place) → after string b (ahead b 8 p) ≡ after level b p
level_is b p = sym (past_then unmarked unmarked (num 8) string b p ∙ ap (after string b) (after_num 8 b p))

module _ (b : Bits) (p raw q : Place) (n : ℕ) (hr : raw ≡ after string b p) (hn : n ≡ number_at b 1 raw) (hq : q ≡ ahead b 1 raw) where
  abbrev itself : PathKind → PathKind
  itself x = x

  path_behind : after (shaped itself itself (tagged 1 path_kinds)) b raw ≡ after path b p
  path_behind =
      past_shaped unmarked itself itself (tagged 1 path_kinds) b raw ∙ ap (after (tagged 1 path_kinds) b) hr
      ∙ sym (past_shaped unmarked path_out path_make (string then tagged 1 path_kinds) b p ∙ past_then unmarked unmarked string (tagged 1 path_kinds) b p)

  pub path_segs : n ≡ 0 → after segs b q ≡ after path b p
  path_segs e = kind_is unmarked itself itself 1 path_kinds b raw q n hn hq 0 segs inl path_0 e ∙ path_behind

  pub path_level : n ≡ 1 → after level b q ≡ after path b p
  path_level e = kind_is unmarked itself itself 1 path_kinds b raw q n hn hq 1 level (λ x. inr (inl x)) path_1 e ∙ path_behind

  pub path_other : 1 < n → Broken ≡ after path b p
  path_other h = kind_none unmarked itself itself 1 path_kinds b raw q n hn hq (suc (suc (n - 2))) (λ q. refl) (omega arith) ∙ path_behind

-- Literals

module _ (b : Bits) (p : Place) (n : ℕ) (hn : n ≡ number_at b 64 p) where
  negative_from : (t : Bool) → top_bit_set n ≡ t → after below_zero b p ≡ from unmarked (λ q. pick t (read n q) broken) (ahead b 64 p)
  negative_from t e =
      past_shaped unmarked twos_complement twos_complement (tested top_bit_set (num 64)) b p
      ∙ headed unmarked (λ x. onward x (λ n q. pick (top_bit_set n) (read n q) broken)) refl 64 b p
      ∙ rw (← hn, e)

  pub negative_is : 9223372036854775808 ≤ n → ahead b 64 p ≡ after below_zero b p
  negative_is h = stays (ahead b 64 p) ∙ sym (negative_from true (le-leb _ _ h))
    where
      stays : (q : Place) → q ≡ from unmarked (λ q. read n q) q
      stays (At q s) = refl
      stays Broken = refl

  pub negative_not : n < 9223372036854775808 → Broken ≡ after below_zero b p
  negative_not h = breaks (ahead b 64 p) ∙ sym (negative_from false (lt-leb _ _ h))
    where
      breaks : (q : Place) → Broken ≡ from {A = ℕ} unmarked (λ q. broken) q
      breaks (At q s) = refl
      breaks Broken = refl

module _ (b : Bits) (p q : Place) (n : ℕ) (hn : n ≡ number_at b 3 p) (hq : q ≡ ahead b 3 p) where
  pub literal_stays : n ≤ 2 → q ≡ after literal b p
  literal_stays l = at n l refl
    where
      at : (k : ℕ) → k ≤ 2 → n ≡ k → q ≡ after literal b p
      at zero l e = kind_stays unmarked literal_out literal_make 3 literal_kinds b p q n hn hq 0 (inl tt) (λ q. refl) refl e
      at (suc zero) l e = kind_stays unmarked literal_out literal_make 3 literal_kinds b p q n hn hq 1 (inr (inl tt)) (λ q. refl) refl e
      at (suc (suc zero)) l e = kind_stays unmarked literal_out literal_make 3 literal_kinds b p q n hn hq 2 (inr (inr (inl tt))) (λ q. refl) refl e
      at (suc (suc (suc k))) l e = absurd (omega arith)

  pub literal_unsigned : n ≡ 3 → ahead b 64 q ≡ after literal b p
  literal_unsigned e =
      sym (after_num 64 b q)
      ∙ kind_is unmarked literal_out literal_make 3 literal_kinds b p q n hn hq 3 (num 64) (λ x. inr (inr (inr (inl x)))) literal_3 e

  pub literal_negative : n ≡ 4 → after below_zero b q ≡ after literal b p
  literal_negative e = kind_is unmarked literal_out literal_make 3 literal_kinds b p q n hn hq 4 below_zero (λ x. inr (inr (inr (inr (inl x))))) literal_4 e

  pub literal_string : n ≡ 5 → after string b q ≡ after literal b p
  literal_string e = kind_is unmarked literal_out literal_make 3 literal_kinds b p q n hn hq 5 string (λ x. inr (inr (inr (inr (inr (inl x)))))) literal_5 e

  pub literal_other : 5 < n → Broken ≡ after literal b p
  literal_other h = kind_none unmarked literal_out literal_make 3 literal_kinds b p q n hn hq (suc (suc (suc (suc (suc (suc (n - 6))))))) (λ q. refl) (omega arith)

-- Block names

module _ (b : Bits) (p q : Place) (n : ℕ) (hn : n ≡ number_at b 2 p) (hq : q ≡ ahead b 2 p) where
  pub names_none : n ≡ 0 → q ≡ after block_names b p
  names_none e = kind_stays unmarked names_out names_make 2 names_kinds b p q n hn hq 0 (inl tt) (λ q. refl) refl e

  pub names_one : n ≡ 1 → after string b q ≡ after block_names b p
  names_one e = kind_is unmarked names_out names_make 2 names_kinds b p q n hn hq 1 string (λ x. inr (inl x)) names_1 e

  pub names_two : n ≡ 2 → after string b (after string b q) ≡ after block_names b p
  names_two e =
      sym (past_then unmarked unmarked string string b q)
      ∙ kind_is unmarked names_out names_make 2 names_kinds b p q n hn hq 2 (string then string) (λ x. inr (inr (inl x))) names_2 e

  pub names_other : 2 < n → Broken ≡ after block_names b p
  names_other h = kind_none unmarked names_out names_make 2 names_kinds b p q n hn hq (suc (suc (suc (n - 3)))) (λ q. refl) (omega arith)

-- The end of decorators and partials

module _ (b : Bits) (p q : Place) (n : ℕ) (hn : n ≡ number_at b 1 p) (hq : q ≡ ahead b 1 p) where
  tail_behind : {x : Place} → x ≡ after indent b p → after flag b x ≡ after (indent then flag) b p
  tail_behind e = ap (after flag b) e ∙ sym (past_then unmarked unmarked indent flag b p)

  pub tail_none : n ≡ 0 → after flag b q ≡ after (indent then flag) b p
  tail_none e = tail_behind (kind_stays unmarked option_out option_make 1 (option_kinds string) b p q n hn hq 0 (inl tt) (λ q. refl) refl e)

  pub tail_some : n ≡ 1 → after flag b (after string b q) ≡ after (indent then flag) b p
  tail_some e = tail_behind (kind_is unmarked option_out option_make 1 (option_kinds string) b p q n hn hq 1 string (λ x. inr (inl x)) (option_1 string) e)

  pub tail_other : 1 < n → Broken ≡ after (indent then flag) b p
  tail_other h =
      tail_behind (kind_none unmarked option_out option_make 1 (option_kinds string) b p q n hn hq (suc (suc (n - 2))) (λ q. refl) (omega arith))
