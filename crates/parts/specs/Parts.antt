-- Where a part stands: what stands behind its tag, and where it ends.
use Rattle.std.specs.Prelude.{ℕ, zero, suc, ◌+◌, ◌-◌, ◌*◌, ◌/◌, ◌%◌, ◌≤◌, ◌<◌, ◌≡◌, refl}
use Rattle.std.proofs.Common.{inl, inr, ◌∙◌, subst, arith, leb-true}
use Rattle.std.proofs.Math.Path.{sym, ap}
use Rattle.rules.specs.Bytes.{Bytes}
use Rattle.rules.specs.Bits.{Bits}
use Rattle.rules.specs.Layout.{read, onward, field, num, ◌then◌, shaped, tested, tagged}
use Rattle.rules.specs.LayoutLaws.{Binary, field_lt}
use Rattle.rules.specs.Bundle.{string, option_out, option_make, seg_out, seg_make, seg, segs, level, PathKind, path_out, path_make, path}
use Rattle.rules.specs.Bundle.{twos_complement, top_bit_set, below_zero, literal_out, literal_make, literal, names_out, names_make, block_names, indent}
use Rattle.bits.specs.Fields.{field_append}
use Rattle.layout.specs.Arms.{seg_kinds, seg_0, path_kinds, path_0, path_1, literal_kinds, literal_3, literal_4, literal_5}
use Rattle.layout.specs.Arms.{names_kinds, names_1, names_2, option_kinds, option_1}
use Rattle.parts.specs.Holds.{Holds, end, row}
use Rattle.parts.specs.HoldsLaws.{Then, then_holds, Same, shaped_holds, tested_holds, counted_holds, more_holds, none_left, num_holds, moved, moved_found, end_is, tag_fits, kind_holds, kind_stood, kind_never, string_end, string_in}

-- what is two or more, or one or more, is that and the rest
pub one_more : (n : ℕ) → (n ≡ 0 → ⊥) → suc (n - 1) ≡ n
one_more n h = omega arith

pub two_more : (n : ℕ) → 2 ≤ n → suc (suc (n - 2)) ≡ n
two_more n h = omega arith

pub five_more : (n : ℕ) → 5 ≤ n → suc (suc (suc (suc (suc (n - 5))))) ≡ n
five_more n h = omega arith

-- Segments

module _ (b : Bits) (p : ℕ) (H : Holds seg b p) where
  pub seg_fits : p + 2 ≤ b.size
  seg_fits = tag_fits seg_out seg_make 2 seg_kinds b p H

  pub seg_named : field b 2 p ≡ 0 → Same string b (p + 2) (λ s. seg_make (inl s) ≡ H.found) (end seg b p)
  seg_named e = kind_holds seg_out seg_make 2 seg_kinds b p H 0 string inl seg_0 e

  pub seg_root : field b 2 p ≡ 1 → (p + 2 ≡ end seg b p) × (seg_make (inr (inl tt)) ≡ H.found)
  seg_root e = kind_stood seg_out seg_make 2 seg_kinds b p H 1 (inr (inl tt)) (λ q. refl) e

  pub seg_up : field b 2 p ≡ 2 → (p + 2 ≡ end seg b p) × (seg_make (inr (inr (inl tt))) ≡ H.found)
  seg_up e = kind_stood seg_out seg_make 2 seg_kinds b p H 2 (inr (inr (inl tt))) (λ q. refl) e

  pub seg_never : {C : Type 0} (k : ℕ) → field b 2 p ≡ suc (suc (suc k)) → C
  seg_never k e = kind_never seg_out seg_make 2 seg_kinds b p H (suc (suc (suc k))) (λ q. refl) e

  pub seg_bare : (field b 2 p ≡ 0 → ⊥) → p + 2 ≡ end seg b p
  seg_bare h = at (field b 2 p) refl h
    where
      at : (k : ℕ) → field b 2 p ≡ k → (k ≡ 0 → ⊥) → p + 2 ≡ end seg b p
      at zero e h = absurd (h refl)
      at (suc zero) e h = (seg_root e).0
      at (suc (suc zero)) e h = (seg_up e).0
      at (suc (suc (suc k))) e h = seg_never k e

-- the code's view of a segment: x is its kind and, behind that, the count of its string if it has one
module _ (b : Bits) (bin : Binary b) (p : ℕ) (H : Holds seg b p) (x : ℕ) (hx : x ≡ field b 18 p) where
  kind_and_count : x ≡ field b 2 p * 65536 + field b 16 (p + 2)
  kind_and_count = hx ∙ field_append b 2 16 p

  count_low : field b 16 (p + 2) < 65536
  count_low = field_lt b bin 16 (p + 2)

  pub kind_named : x < 65536 → 0 ≡ field b 2 p
  kind_named h = omega (arith, kind_and_count)

  pub kind_root : 65536 ≤ x → x < 131072 → 1 ≡ field b 2 p
  kind_root h l = omega (arith, kind_and_count, count_low)

  pub kind_up : 131072 ≤ x → suc (suc (field b 2 p - 2)) ≡ field b 2 p
  kind_up h = omega (arith, kind_and_count, count_low)

  -- the end of a name
  pub named_end : x < 65536 → (p + 2 + 16 + 8 * x ≡ end string b (p + 2)) × (p + 2 + 16 + 8 * x ≡ end seg b p) × (p + 2 + 16 + 8 * x ≤ b.size)
  named_end h =
      let m = seg_named b p H (sym (kind_named h)) in
      let e : field b 16 (p + 2) ≡ x = omega (arith, kind_and_count, kind_named h) in
      let z : p + 2 + 16 + 8 * x ≡ end string b (p + 2) = omega (arith, string_end b (p + 2) m.inner) in
      (z, z ∙ m.ends, omega (arith, string_in b (p + 2) m.inner))

  pub unnamed_end : 65536 ≤ x → p + 2 ≡ end seg b p
  unnamed_end h = seg_bare b p H (λ e. absurd (omega (arith, kind_and_count, count_low)))

-- Paths: the kind stands behind the raw string

abbrev itself : PathKind → PathKind
itself x = x

module _ (b : Bits) (p : ℕ) (H : Holds path b p) where
  path_row : Same (string then tagged 1 path_kinds) b p (λ x. path_make x ≡ H.found) (end path b p)
  path_row = shaped_holds path_out path_make (string then tagged 1 path_kinds) b p H

  path_parts : Then string (tagged 1 path_kinds) b p path_row.inner.found (end (string then tagged 1 path_kinds) b p)
  path_parts = then_holds string (tagged 1 path_kinds) b p path_row.inner

  pub path_raw : Holds string b p
  path_raw = path_parts.first

  -- the kind, as a layout that has a shape
  path_kind : Holds (shaped itself itself (tagged 1 path_kinds)) b (end string b p)
  path_kind = record {
    found = path_parts.second.found;
    behind = path_parts.second.behind;
    reads = ap (λ x. onward x (λ a q. read a q)) path_parts.second.reads;
  }

  kind_end : end (shaped itself itself (tagged 1 path_kinds)) b (end string b p) ≡ end path b p
  unfolding path_kind
  kind_end = end_is path_kind ∙ sym (end_is path_parts.second) ∙ path_parts.ends ∙ path_row.ends

  kind_found : (x : PathKind) → x ≡ path_kind.found → path_make (path_raw.found, x) ≡ H.found
  unfolding path_kind path_raw
  kind_found x e =
      ap path_make (ap (λ (r : Bytes). (r, x)) path_parts.one ∙ ap (λ (y : PathKind). (path_row.inner.found.0, y)) (e ∙ path_parts.other))
      ∙ path_row.is

  pub path_relative : field b 1 (end string b p) ≡ 0
      → Same segs b (end string b p + 1) (λ l. path_make (path_raw.found, inl l) ≡ H.found) (end path b p)
  path_relative e =
      let m = kind_holds itself itself 1 path_kinds b (end string b p) path_kind 0 segs inl path_0 e in
      record { inner = m.inner; ends = m.ends ∙ kind_end; is = kind_found (inl m.inner.found) m.is }

  pub path_local : field b 1 (end string b p) ≡ 1
      → Same level b (end string b p + 1) (λ l. path_make (path_raw.found, inr (inl l)) ≡ H.found) (end path b p)
  path_local e =
      let m = kind_holds itself itself 1 path_kinds b (end string b p) path_kind 1 level (λ x. inr (inl x)) path_1 e in
      record { inner = m.inner; ends = m.ends ∙ kind_end; is = kind_found (inr (inl m.inner.found)) m.is }

  -- behind the kind stands a number of 8 bits, a count or a level
  pub path_fits : end string b p + 9 ≤ b.size
  path_fits = at (field b 1 (end string b p)) refl
    where
      at : (k : ℕ) → field b 1 (end string b p) ≡ k → end string b p + 9 ≤ b.size
      at zero e = omega (arith, (counted_holds 8 seg b (end string b p + 1) (path_relative e).inner).fits)
      at (suc zero) e = omega (arith, (num_holds 8 b (end string b p + 1) (then_holds (num 8) string b (end string b p + 1) (path_local e).inner).first).0)
      at (suc (suc k)) e = kind_never itself itself 1 path_kinds b (end string b p) path_kind (suc (suc k)) (λ q. refl) e

  pub path_never : {C : Type 0} (k : ℕ) → field b 1 (end string b p) ≡ suc (suc k) → C
  path_never k e = kind_never itself itself 1 path_kinds b (end string b p) path_kind (suc (suc k)) (λ q. refl) e

  pub path_not_relative : (field b 1 (end string b p) ≡ 0 → ⊥) → field b 1 (end string b p) ≡ 1
  path_not_relative h = at (field b 1 (end string b p)) refl h
    where
      at : (k : ℕ) → field b 1 (end string b p) ≡ k → (k ≡ 0 → ⊥) → k ≡ 1
      at zero e h = absurd (h refl)
      at (suc zero) e h = refl
      at (suc (suc k)) e h = path_never k e

-- level, name
module _ (b : Bits) (p : ℕ) (H : Holds level b p) where
  level_parts : Then (num 8) string b p H.found (end level b p)
  level_parts = then_holds (num 8) string b p H

  level_num : (p + 8 ≤ b.size) × (field b 8 p ≡ level_parts.first.found) × (p + 8 ≡ end (num 8) b p)
  level_num = num_holds 8 b p level_parts.first

  pub level_fits : p + 8 ≤ b.size
  level_fits = level_num.0

  pub level_is : field b 8 p ≡ H.found.0
  level_is = level_num.1 ∙ level_parts.one

  pub level_name : Same string b (p + 8) (λ s. s ≡ H.found.1) (end level b p)
  level_name =
      let m = moved string b (end (num 8) b p) (p + 8) (sym level_num.2) level_parts.second in
      record { inner = m; ends = ap (end string b) level_num.2 ∙ level_parts.ends; is = moved_found string b (sym level_num.2) level_parts.second ∙ level_parts.other }

-- the code's way past a path: q is the place behind the raw string, k its kind
module _ (b : Bits) (p : ℕ) (H : Holds path b p) (q k : ℕ) (hq : q ≡ end string b p) (hk : k ≡ field b 1 q) where
  kind_is : field b 1 (end string b p) ≡ k
  kind_is = sym (hk ∙ ap (field b 1) hq)

  pub skip_relative : k ≡ 0 → Same segs b (q + 1) (λ l. path_make ((path_raw b p H).found, inl l) ≡ H.found) (end path b p)
  skip_relative e =
      subst (λ (n : ℕ). Same segs b (n + 1) (λ l. path_make ((path_raw b p H).found, inl l) ≡ H.found) (end path b p)) (sym hq) (path_relative b p H (kind_is ∙ e))

  pub skip_local : (k ≡ 0 → ⊥) → Same string b (q + 9) (λ s. Unit {0}) (end path b p)
  skip_local h =
      let m = path_local b p H (path_not_relative b p H (λ e. h (sym kind_is ∙ e))) in
      let n = level_name b (end string b p + 1) m.inner in
      let e : end string b p + 1 + 8 ≡ q + 9 = omega arith in
      subst (λ (n : ℕ). Same string b n (λ s. Unit {0}) (end path b p)) e (record { inner = n.inner; ends = n.ends ∙ m.ends; is = tt })

-- x is a path's kind and, behind that, its count or level
module _ (b : Bits) (bin : Binary b) (q x : ℕ) (hx : x ≡ field b 9 q) where
  kind_and_number : x ≡ field b 1 q * 256 + field b 8 (q + 1)
  kind_and_number = hx ∙ field_append b 1 8 q

  number_low : field b 8 (q + 1) < 256
  number_low = field_lt b bin 8 (q + 1)

  pub kind_relative : x < 256 → (field b 1 q ≡ 0) × (x ≡ field b 8 (q + 1))
  kind_relative h = let e : field b 1 q ≡ 0 = omega (arith, kind_and_number) in (e, omega (arith, kind_and_number))

  pub kind_local : 256 ≤ x → (field b 1 q ≡ 0 → ⊥) × (x - 256 ≡ field b 8 (q + 1))
  kind_local h =
      let e : field b 1 q ≡ 1 = omega (arith, kind_and_number, number_low, field_lt b bin 1 q) in
      (λ z. omega arith, omega (arith, kind_and_number))

-- the same way, with y the kind, the count or level, and behind them the 18 bits that a first segment's kind and count would be
module _ (b : Bits) (bin : Binary b) (p : ℕ) (H : Holds path b p) (q y : ℕ) (hq : q ≡ end string b p) (hy : y ≡ field b 27 q) where
  head_and_first : y ≡ field b 9 q * 262144 + field b 18 (q + 9)
  head_and_first = hy ∙ field_append b 9 18 q

  first_low : field b 18 (q + 9) < 262144
  first_low = field_lt b bin 18 (q + 9)

  head_is : y / 262144 ≡ field b 9 q
  head_is = omega (arith, head_and_first, first_low)

  -- n segments
  segments : (n : ℕ) → field b 1 q ≡ 0 → n ≡ field b 8 (q + 1) → Holds (row seg n) b (q + 9) × (end (row seg n) b (q + 9) ≡ end path b p)
  segments n e f =
      let m = skip_relative b p H q (field b 1 q) hq refl e in
      let k = counted_holds 8 seg b (q + 1) m.inner in
      let z : q + 1 + 8 ≡ q + 9 = omega arith in
      let at : Holds (row seg (field b 8 (q + 1))) b (q + 9) × (end (row seg (field b 8 (q + 1))) b (q + 9) ≡ end path b p) =
      rw (← z) (k.inner, k.ends ∙ m.ends) in
      rw f at

  pub skip_row : y / 262144 < 256 → Holds (row seg (y / 262144)) b (q + 9) × (end (row seg (y / 262144)) b (q + 9) ≡ end path b p)
  skip_row h = let k = kind_relative b bin q (y / 262144) head_is h in segments (y / 262144) k.0 k.1

  pub skip_none : y < 262144 → q + 9 ≡ end path b p
  skip_none h =
      let z : 0 ≡ field b 9 q = omega (arith, head_and_first) in
      let k = kind_relative b bin q 0 z (omega arith) in
      sym (none_left seg b (q + 9)) ∙ (segments 0 k.0 k.1).1

  pub skip_one : y / 65536 ≡ 4 → (q + 27 + 8 * (y % 65536) ≡ end path b p) × (q + 27 + 8 * (y % 65536) ≤ b.size)
  skip_one h =
      let z : 1 ≡ field b 9 q = omega (arith, head_and_first, first_low) in
      let x : y % 65536 ≡ field b 18 (q + 9) = omega (arith, head_and_first, first_low) in
      let k = kind_relative b bin q 1 z (omega arith) in
      let s = segments 1 k.0 k.1 in
      let m = more_holds seg 0 b (q + 9) s.0 in
      let n = named_end b bin (q + 9) m.first (y % 65536) x (omega arith) in
      let e : q + 27 + 8 * (y % 65536) ≡ q + 9 + 2 + 16 + 8 * (y % 65536) = omega arith in
      (e ∙ n.1 ∙ sym (none_left seg b (end seg b (q + 9))) ∙ m.ends ∙ s.1, rw e n.2)

  pub skip_name : 256 ≤ y / 262144 → Same string b (q + 9) (λ s. Unit {0}) (end path b p)
  skip_name h = skip_local b p H q (field b 1 q) hq refl (kind_local b bin q (y / 262144) head_is h).0

-- Literals

-- a negative number
pub below_zero_number : (b : Bits) (p : ℕ) (H : Holds below_zero b p)
    → (p + 64 ≤ b.size) × (twos_complement (field b 64 p) ≡ H.found) × (p + 64 ≡ end below_zero b p)
below_zero_number b p H =
    let m = shaped_holds twos_complement twos_complement (tested top_bit_set (num 64)) b p H in
    let t = tested_holds top_bit_set (num 64) b p m.inner in
    let n = num_holds 64 b p t.inner in
    (n.0, ap twos_complement (n.1 ∙ t.is.0) ∙ m.is, n.2 ∙ t.ends ∙ m.ends)

pub below_zero_top : (b : Bits) (p : ℕ) (H : Holds below_zero b p) → 9223372036854775808 ≤ field b 64 p
below_zero_top b p H =
    let m = shaped_holds twos_complement twos_complement (tested top_bit_set (num 64)) b p H in
    let t = tested_holds top_bit_set (num 64) b p m.inner in
    let n = num_holds 64 b p t.inner in
    omega (arith, leb-true 9223372036854775808 t.inner.found t.is.1, n.1)

module _ (b : Bits) (p : ℕ) (H : Holds literal b p) where
  pub literal_fits : p + 3 ≤ b.size
  literal_fits = tag_fits literal_out literal_make 3 literal_kinds b p H

  pub literal_null : field b 3 p ≡ 0 → (p + 3 ≡ end literal b p) × (literal_make (inl tt) ≡ H.found)
  literal_null e = kind_stood literal_out literal_make 3 literal_kinds b p H 0 (inl tt) (λ q. refl) e

  pub literal_false : field b 3 p ≡ 1 → (p + 3 ≡ end literal b p) × (literal_make (inr (inl tt)) ≡ H.found)
  literal_false e = kind_stood literal_out literal_make 3 literal_kinds b p H 1 (inr (inl tt)) (λ q. refl) e

  pub literal_true : field b 3 p ≡ 2 → (p + 3 ≡ end literal b p) × (literal_make (inr (inr (inl tt))) ≡ H.found)
  literal_true e = kind_stood literal_out literal_make 3 literal_kinds b p H 2 (inr (inr (inl tt))) (λ q. refl) e

  pub literal_unsigned : field b 3 p ≡ 3 → Same (num 64) b (p + 3) (λ n. literal_make (inr (inr (inr (inl n)))) ≡ H.found) (end literal b p)
  literal_unsigned e = kind_holds literal_out literal_make 3 literal_kinds b p H 3 (num 64) (λ x. inr (inr (inr (inl x)))) literal_3 e

  pub literal_negative : field b 3 p ≡ 4 → Same below_zero b (p + 3) (λ n. literal_make (inr (inr (inr (inr (inl n))))) ≡ H.found) (end literal b p)
  literal_negative e = kind_holds literal_out literal_make 3 literal_kinds b p H 4 below_zero (λ x. inr (inr (inr (inr (inl x))))) literal_4 e

  pub literal_string : field b 3 p ≡ 5 → Same string b (p + 3) (λ s. literal_make (inr (inr (inr (inr (inr (inl s)))))) ≡ H.found) (end literal b p)
  literal_string e = kind_holds literal_out literal_make 3 literal_kinds b p H 5 string (λ x. inr (inr (inr (inr (inr (inl x)))))) literal_5 e

  pub literal_never : {C : Type 0} (k : ℕ) → field b 3 p ≡ suc (suc (suc (suc (suc (suc k))))) → C
  literal_never k e = kind_never literal_out literal_make 3 literal_kinds b p H (suc (suc (suc (suc (suc (suc k)))))) (λ q. refl) e

  pub literal_bare : field b 3 p ≤ 2 → p + 3 ≡ end literal b p
  literal_bare h = at (field b 3 p) refl h
    where
      at : (k : ℕ) → field b 3 p ≡ k → k ≤ 2 → p + 3 ≡ end literal b p
      at zero e h = (literal_null e).0
      at (suc zero) e h = (literal_false e).0
      at (suc (suc zero)) e h = (literal_true e).0
      at (suc (suc (suc k))) e h = absurd (omega arith)

  pub literal_number : 2 < field b 3 p → field b 3 p ≤ 4 → (p + 3 + 64 ≡ end literal b p) × (p + 3 + 64 ≤ b.size)
  literal_number h l = at (field b 3 p) refl h l
    where
      at : (k : ℕ) → field b 3 p ≡ k → 2 < k → k ≤ 4 → (p + 3 + 64 ≡ end literal b p) × (p + 3 + 64 ≤ b.size)
      at zero e h l = absurd (omega arith)
      at (suc zero) e h l = absurd (omega arith)
      at (suc (suc zero)) e h l = absurd (omega arith)
      at (suc (suc (suc zero))) e h l =
          let m = literal_unsigned e in
          let n = num_holds 64 b (p + 3) m.inner in
          (n.2 ∙ m.ends, n.0)
      at (suc (suc (suc (suc zero)))) e h l =
          let m = literal_negative e in
          let n = below_zero_number b (p + 3) m.inner in
          (n.2 ∙ m.ends, n.0)
      at (suc (suc (suc (suc (suc k))))) e h l = absurd (omega arith)

  pub literal_text : 4 < field b 3 p → field b 3 p ≡ 5
  literal_text h = at (field b 3 p) refl h
    where
      at : (k : ℕ) → field b 3 p ≡ k → 4 < k → k ≡ 5
      at zero e h = absurd (omega arith)
      at (suc zero) e h = absurd (omega arith)
      at (suc (suc zero)) e h = absurd (omega arith)
      at (suc (suc (suc zero))) e h = absurd (omega arith)
      at (suc (suc (suc (suc zero)))) e h = absurd (omega arith)
      at (suc (suc (suc (suc (suc zero))))) e h = refl
      at (suc (suc (suc (suc (suc (suc k)))))) e h = literal_never k e

-- Block names

module _ (b : Bits) (p : ℕ) (H : Holds block_names b p) where
  pub names_fits : p + 2 ≤ b.size
  names_fits = tag_fits names_out names_make 2 names_kinds b p H

  pub names_none : field b 2 p ≡ 0 → (p + 2 ≡ end block_names b p) × (names_make (inl tt) ≡ H.found)
  names_none e = kind_stood names_out names_make 2 names_kinds b p H 0 (inl tt) (λ q. refl) e

  pub names_one : field b 2 p ≡ 1 → Same string b (p + 2) (λ s. names_make (inr (inl s)) ≡ H.found) (end block_names b p)
  names_one e = kind_holds names_out names_make 2 names_kinds b p H 1 string (λ x. inr (inl x)) names_1 e

  names_both : field b 2 p ≡ 2 → Same (string then string) b (p + 2) (λ s. names_make (inr (inr (inl s))) ≡ H.found) (end block_names b p)
  names_both e = kind_holds names_out names_make 2 names_kinds b p H 2 (string then string) (λ x. inr (inr (inl x))) names_2 e

  -- the second string, and what both say
  pub names_two : (e : field b 2 p ≡ 2) → (first : Holds string b (p + 2)) ×
      Same string b (end string b (p + 2)) (λ s. names_make (inr (inr (inl (first.found, s)))) ≡ H.found) (end block_names b p)
  names_two e =
      let m = names_both e in
      let t = then_holds string string b (p + 2) m.inner in
      (t.first, record { inner = t.second; ends = t.ends ∙ m.ends; is = rw (t.one, t.other) m.is })

  pub names_never : {C : Type 0} (k : ℕ) → field b 2 p ≡ suc (suc (suc k)) → C
  names_never k e = kind_never names_out names_make 2 names_kinds b p H (suc (suc (suc k))) (λ q. refl) e

  pub names_pair : (field b 2 p ≡ 0 → ⊥) → (field b 2 p ≡ 1 → ⊥) → field b 2 p ≡ 2
  names_pair h l = at (field b 2 p) refl h l
    where
      at : (k : ℕ) → field b 2 p ≡ k → (k ≡ 0 → ⊥) → (k ≡ 1 → ⊥) → k ≡ 2
      at zero e h l = absurd (h refl)
      at (suc zero) e h l = absurd (l refl)
      at (suc (suc zero)) e h l = refl
      at (suc (suc (suc k))) e h l = names_never k e

-- A bit and what follows if it is 1: an indent here, a body in the crate `template`

module _ (b : Bits) (p : ℕ) (H : Holds indent b p) where
  pub indent_fits : p + 1 ≤ b.size
  indent_fits = tag_fits option_out option_make 1 (option_kinds string) b p H

  pub indent_none : field b 1 p ≡ 0 → (p + 1 ≡ end indent b p) × (option_make (inl tt) ≡ H.found)
  indent_none e = kind_stood option_out option_make 1 (option_kinds string) b p H 0 (inl tt) (λ q. refl) e

  pub indent_some : field b 1 p ≡ 1 → Same string b (p + 1) (λ s. option_make (inr (inl s)) ≡ H.found) (end indent b p)
  indent_some e = kind_holds option_out option_make 1 (option_kinds string) b p H 1 string (λ x. inr (inl x)) (option_1 string) e

  pub indent_there : (field b 1 p ≡ 0 → ⊥) → field b 1 p ≡ 1
  indent_there h = at (field b 1 p) refl h
    where
      at : (k : ℕ) → field b 1 p ≡ k → (k ≡ 0 → ⊥) → k ≡ 1
      at zero e h = absurd (h refl)
      at (suc zero) e h = refl
      at (suc (suc k)) e h = kind_never option_out option_make 1 (option_kinds string) b p H (suc (suc k)) (λ q. refl) e
