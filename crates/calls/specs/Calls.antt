-- Parameters and calls: what the readers answer, and what stands where.
use Rattle.std.specs.Prelude.{ℕ, zero, suc, ◌+◌, ◌-◌, ◌*◌, ◌≤◌, ◌<◌, true, ◌≡◌, refl}
use mathlib.Core.List.{[]}
use Rattle.std.proofs.Math.Logic.{inl, inr}
use Rattle.std.proofs.Math.Path.{sym, ap}
use Rattle.std.proofs.Common.{◌∙◌, subst, arith}
use Rattle.rules.specs.Bytes.{Bytes}
use Rattle.rules.specs.Path as rule-path
use Rattle.rules.specs.Template as rule
use Rattle.rules.specs.Bits.{Bits}
use Rattle.rules.specs.Layout.{Layout, field, ◌then◌, shaped, counted, tagged}
use Rattle.rules.specs.LayoutLaws.{not_read}
use Rattle.rules.specs.Bundle.{string, path, literal, params_make, hash_make, ascending, params, pairs, call_out, call_make, call_of}
use Rattle.rules.specs.Bundle.{param_out, param_make, param}
use Rattle.bits.specs.Fields.{field_append}
use Rattle.layout.specs.Arms.{param_kinds, param_0, param_1, param_2, param_3}
use Rattle.layout.specs.Text.{text_at}
use Rattle.parts.specs.Holds.{Holds, end, value, row}
use Rattle.parts.specs.Says.{path_at, literal_at}
use Rattle.parts.specs.HoldsLaws.{end_is, value_is, Then, then_holds, Same, shaped_holds, tested_holds, Counted, counted_holds, more_holds}
use Rattle.parts.specs.HoldsLaws.{moved, none_left, none_left_value, more_value, Passed, passed_row, counted_start, tag_fits, kind_holds, kind_never, string_found}
use Rattle.calls.specs.declared.Parameter.{Parameter}
use Rattle.calls.specs.declared.Parameter.TheVariants.{Name, Path, Literal, Subexpression}
use Rattle.calls.specs.declared.Call.{Call}

-- Parameters

abbrev pub param_of : ℕ → ℕ → Parameter
param_of q zero = Name q
param_of q (suc zero) = Path q
param_of q (suc (suc zero)) = Literal q
param_of q (suc (suc (suc k))) = Subexpression q

pub three_more : (n : ℕ) → 3 ≤ n → suc (suc (suc (n - 3))) ≡ n
three_more n h = omega arith

abbrev pub param_view : Bits → ℕ → Parameter
param_view b p = param_of (p + 2) (field b 2 p)

-- what stands at a place, as the rules have it
abbrev pub param_at : ℕ → Bits → ℕ → rule.Parameter
param_at d b p = value (rule.name []) (param d) b p

abbrev pub call_at : ℕ → Bits → ℕ → rule.Call
call_at d b p = value (rule.call (rule.name []) rule.pnil rule.hnil) (call_of (param d)) b p

-- a parameter with d depths left holds calls with one less
abbrev pub param_says : ℕ → Bits → Parameter → rule.Parameter
param_says d b (Name q) = rule.name (text_at b q)
param_says d b (Path q) = rule.path (path_at b q)
param_says d b (Literal q) = rule.literal (literal_at b q)
param_says d b (Subexpression q) = rule.subexpression (call_at (d - 1) b q)

abbrev pub ParamHolds : ℕ → Bits → Parameter → Type 0
ParamHolds d b (Name q) = Holds string b q
ParamHolds d b (Path q) = Holds path b q
ParamHolds d b (Literal q) = Holds literal b q
ParamHolds d b (Subexpression q) = Holds (call_of (param (d - 1))) b q

module _ (d : ℕ) (b : Bits) (p : ℕ) (H : Holds (param d) b p) where
  pub param_deep : d ≡ 0 → ⊥
  param_deep e = not_read (sym (ap (λ (n : ℕ). (param n).dec b p) e) ∙ H.reads)

  abbrev inner : Layout rule.Call
  inner = call_of (param (d - 1))

  abbrev whole : Layout rule.Parameter
  whole = shaped param_out param_make (tagged 2 (param_kinds inner))

  here : Holds whole b p
  here =
      let e : suc (d - 1) ≡ d = omega (arith, param_deep) in
      record { found = H.found; behind = H.behind; reads = ap (λ (n : ℕ). (param n).dec b p) e ∙ H.reads }

  here_end : end whole b p ≡ end (param d) b p
  unfolding here
  here_end = end_is here ∙ sym (end_is H)

  pub param_fits : p + 2 ≤ b.size
  param_fits = tag_fits param_out param_make 2 (param_kinds inner) b p here

  pub param_name : field b 2 p ≡ 0 → Same string b (p + 2) (λ x. rule.name x ≡ H.found) (end (param d) b p)
  unfolding here
  param_name e =
      let m = kind_holds param_out param_make 2 (param_kinds inner) b p here 0 string inl (param_0 inner) e in
      record { inner = m.inner; ends = m.ends ∙ here_end; is = m.is }

  pub param_path : field b 2 p ≡ 1 → Same path b (p + 2) (λ x. rule.path x ≡ H.found) (end (param d) b p)
  unfolding here
  param_path e =
      let m = kind_holds param_out param_make 2 (param_kinds inner) b p here 1 path (λ x. inr (inl x)) (param_1 inner) e in
      record { inner = m.inner; ends = m.ends ∙ here_end; is = m.is }

  pub param_literal : field b 2 p ≡ 2 → Same literal b (p + 2) (λ x. rule.literal x ≡ H.found) (end (param d) b p)
  unfolding here
  param_literal e =
      let m = kind_holds param_out param_make 2 (param_kinds inner) b p here 2 literal (λ x. inr (inr (inl x))) (param_2 inner) e in
      record { inner = m.inner; ends = m.ends ∙ here_end; is = m.is }

  pub param_call : field b 2 p ≡ 3 → Same (call_of (param (d - 1))) b (p + 2) (λ x. rule.subexpression x ≡ H.found) (end (param d) b p)
  unfolding here
  param_call e =
      let m = kind_holds param_out param_make 2 (param_kinds inner) b p here 3 inner (λ x. inr (inr (inr (inl x)))) (param_3 inner) e in
      record { inner = m.inner; ends = m.ends ∙ here_end; is = m.is }

  param_never : {C : Type 0} (k : ℕ) → field b 2 p ≡ suc (suc (suc (suc k))) → C
  param_never k e = kind_never param_out param_make 2 (param_kinds inner) b p here (suc (suc (suc (suc k)))) (λ q. refl) e

  pub param_last : (field b 2 p ≡ 0 → ⊥) → (field b 2 p ≡ 1 → ⊥) → (field b 2 p ≡ 2 → ⊥) → field b 2 p ≡ 3
  param_last h l m = at (field b 2 p) refl h l m
    where
      at : (k : ℕ) → field b 2 p ≡ k → (k ≡ 0 → ⊥) → (k ≡ 1 → ⊥) → (k ≡ 2 → ⊥) → k ≡ 3
      at zero e h l m = absurd (h refl)
      at (suc zero) e h l m = absurd (l refl)
      at (suc (suc zero)) e h l m = absurd (m refl)
      at (suc (suc (suc zero))) e h l m = refl
      at (suc (suc (suc (suc k)))) e h l m = param_never k e

-- the view of a parameter says what it is, and its content stands
pub record ParamStands (d : ℕ) (b : Bits) (p : ℕ) (v : Parameter) : Type 0 where
  pub deep : 1 ≤ d
  pub fits : p + 2 ≤ b.size
  pub is : param_at d b p ≡ param_says d b v
  pub parts : ParamHolds d b v

pub param_stands : (d : ℕ) (b : Bits) (p : ℕ) → Holds (param d) b p → ParamStands d b p (param_view b p)
param_stands d b p H = at (field b 2 p) refl
  where
    here : {v : Parameter} → param_says d b v ≡ H.found → ParamHolds d b v → ParamStands d b p v
    here e h = record { deep = omega (arith, param_deep d b p H); fits = param_fits d b p H; is = value_is (rule.name []) H ∙ sym e; parts = h }

    at : (k : ℕ) → field b 2 p ≡ k → ParamStands d b p (param_of (p + 2) k)
    at zero e = let m = param_name d b p H e in here (ap rule.name (string_found b (p + 2) m.inner) ∙ m.is) m.inner
    at (suc zero) e = let m = param_path d b p H e in here (ap rule.path (value_is rule-path.current m.inner) ∙ m.is) m.inner
    at (suc (suc zero)) e = let m = param_literal d b p H e in here (ap rule.literal (value_is rule.null m.inner) ∙ m.is) m.inner
    at (suc (suc (suc zero))) e = let m = param_call d b p H e in here (ap rule.subexpression (value_is (rule.call (rule.name []) rule.pnil rule.hnil) m.inner) ∙ m.is) m.inner
    at (suc (suc (suc (suc k)))) e = param_never d b p H k e

pub param_read : (d : ℕ) (b : Bits) (p : ℕ) → Holds (param d) b p → (v : Parameter) → v ≡ param_view b p → ParamStands d b p v
param_read d b p H v e = subst (ParamStands d b p) (sym e) (param_stands d b p H)

-- Calls

-- the place behind a call's name, and behind its parameters
abbrev pub name_end : ℕ → Bits → ℕ → ℕ
name_end d b p = end (param d) b p

abbrev pub params_end : ℕ → Bits → ℕ → ℕ
params_end d b p = end (params (param d)) b (name_end d b p)

-- a call whose name ends at q
abbrev pub behind_view : ℕ → Bits → ℕ → Call
behind_view d b q = record {
  params = field b 4 q;
  param = q + 4;
  pairs = field b 4 (end (params (param d)) b q);
  pair = end (params (param d)) b q + 4;
}

abbrev pub call_view : ℕ → Bits → ℕ → Call
call_view d b p = behind_view d b (name_end d b p)

-- n parameters from p on, and n pairs
abbrev pub params_at : ℕ → ℕ → Bits → ℕ → rule.Params
params_at d n b p = params_make (value [] (row (param d) n) b p)

abbrev pub hash_at : ℕ → ℕ → Bits → ℕ → rule.Hash
hash_at d n b p = hash_make (value [] (row (string then param d) n) b p)

abbrev pub call_says : ℕ → Bits → ℕ → Call → rule.Call
call_says d b p v = rule.call (param_at d b p) (params_at d v.params b v.param) (hash_at d v.pairs b v.pair)

module _ (d : ℕ) (b : Bits) (p : ℕ) (H : Holds (call_of (param d)) b p) where
  call_row : Same (param d then params (param d) then pairs (param d)) b p (λ x. call_make x ≡ H.found) (end (call_of (param d)) b p)
  call_row = shaped_holds call_out call_make (param d then params (param d) then pairs (param d)) b p H

  named : Then (param d) (params (param d) then pairs (param d)) b p call_row.inner.found (end (param d then params (param d) then pairs (param d)) b p)
  named = then_holds (param d) (params (param d) then pairs (param d)) b p call_row.inner

  given : Then (params (param d)) (pairs (param d)) b (name_end d b p) named.second.found (end (params (param d) then pairs (param d)) b (name_end d b p))
  given = then_holds (params (param d)) (pairs (param d)) b (name_end d b p) named.second

  pub call_name : Holds (param d) b p
  call_name = named.first

  pub call_params : Holds (params (param d)) b (name_end d b p)
  call_params = given.first

  pub call_pairs : Holds (pairs (param d)) b (params_end d b p)
  call_pairs = given.second

  pub call_end : end (pairs (param d)) b (params_end d b p) ≡ end (call_of (param d)) b p
  call_end = given.ends ∙ named.ends ∙ call_row.ends

  counted_params : Counted 4 (param d) b (name_end d b p) call_params.found (end (params (param d)) b (name_end d b p))
  counted_params = counted_holds 4 (param d) b (name_end d b p) call_params

  tested_pairs : Same (counted 4 (string then param d)) b (params_end d b p) (λ x. (x ≡ call_pairs.found) × (ascending x ≡ true)) (end (pairs (param d)) b (params_end d b p))
  tested_pairs = tested_holds ascending (counted 4 (string then param d)) b (params_end d b p) call_pairs

  counted_pairs : Counted 4 (string then param d) b (params_end d b p) tested_pairs.inner.found (end (counted 4 (string then param d)) b (params_end d b p))
  counted_pairs = counted_holds 4 (string then param d) b (params_end d b p) tested_pairs.inner

  pub call_fits : (name_end d b p + 4 ≤ b.size) × (params_end d b p + 4 ≤ b.size)
  call_fits = (counted_params.fits, counted_pairs.fits)

  call_found : call_says d b p (call_view d b p) ≡ H.found
  unfolding call_name call_params call_pairs
  call_found =
      let x = call_row.inner.found in
      let n : param_at d b p ≡ x.0 = value_is (rule.name []) call_name ∙ named.one in
      let ps : value [] (row (param d) (field b 4 (name_end d b p))) b (name_end d b p + 4) ≡ x.1.0 =
      value_is [] counted_params.inner ∙ counted_params.is ∙ given.one ∙ ap (λ y. y.0) named.other in
      let hs : value [] (row (string then param d) (field b 4 (params_end d b p))) b (params_end d b p + 4) ≡ x.1.1 =
      value_is [] counted_pairs.inner ∙ counted_pairs.is ∙ tested_pairs.is.0 ∙ given.other ∙ ap (λ y. y.1) named.other in
      ap (λ y. rule.call y (params_at d (field b 4 (name_end d b p)) b (name_end d b p + 4)) (hash_at d (field b 4 (params_end d b p)) b (params_end d b p + 4))) n
      ∙ ap (λ l. rule.call x.0 (params_make l) (hash_at d (field b 4 (params_end d b p)) b (params_end d b p + 4))) ps
      ∙ ap (λ l. rule.call x.0 (params_make x.1.0) (hash_make l)) hs
      ∙ call_row.is

-- A call that is a name alone: behind the name stand 8 bits of 0, the count of parameters and that of pairs
module _ (d : ℕ) (b : Bits) (p : ℕ) (H : Holds (call_of (param d)) b p) where
  both_counts : field b 8 (name_end d b p) ≡ field b 4 (name_end d b p) * 16 + field b 4 (name_end d b p + 4)
  both_counts = field_append b 4 4 (name_end d b p)

  -- where there are no parameters, the pairs stand behind their count
  params_none : field b 4 (name_end d b p) ≡ 0 → params_end d b p ≡ name_end d b p + 4
  params_none e =
      sym (counted_params d b p H).ends
      ∙ ap (λ (n : ℕ). end (row (param d) n) b (name_end d b p + 4)) e
      ∙ none_left (param d) b (name_end d b p + 4)

  pub bare_call : field b 8 (name_end d b p) ≡ 0 → ((call_view d b p).params ≡ 0) × ((call_view d b p).pairs ≡ 0)
  bare_call e =
      let n : field b 4 (name_end d b p) ≡ 0 = omega (arith, both_counts) in
      let m : field b 4 (name_end d b p + 4) ≡ 0 = omega (arith, both_counts) in
      (n, ap (field b 4) (params_none n) ∙ m)

  pub full_call : (field b 8 (name_end d b p) ≡ 0 → ⊥) → (call_view d b p).params ≡ 0 → (call_view d b p).pairs ≡ 0 → ⊥
  full_call h n k =
      let m : field b 4 (name_end d b p + 4) ≡ 0 = sym (ap (field b 4) (params_none n)) ∙ k in
      h (omega (arith, both_counts))

  pub bare_end : field b 8 (name_end d b p) ≡ 0 → (name_end d b p + 8 ≡ end (call_of (param d)) b p) × (name_end d b p + 8 ≤ b.size)
  bare_end e =
      let c = bare_call e in
      let q : params_end d b p ≡ name_end d b p + 4 = params_none c.0 in
      let r : name_end d b p + 8 ≡ params_end d b p + 4 = omega arith in (
        r
            ∙ sym (none_left (string then param d) b (params_end d b p + 4))
            ∙ sym (ap (λ (n : ℕ). end (row (string then param d) n) b (params_end d b p + 4)) c.1)
            ∙ (counted_pairs d b p H).ends
            ∙ (tested_pairs d b p H).ends
            ∙ call_end d b p H,
        omega (arith, (call_fits d b p H).1),
      )

-- the view of a call says what it is, and its parts stand
pub record CallStands (d : ℕ) (b : Bits) (p : ℕ) (v : Call) : Type 0 where
  pub name : Holds (param d) b p
  pub params : Holds (row (param d) v.params) b v.param
  pub pairs : Holds (row (string then param d) v.pairs) b v.pair
  pub is : call_at d b p ≡ call_says d b p v

pub call_stands : (d : ℕ) (b : Bits) (p : ℕ) → Holds (call_of (param d)) b p → CallStands d b p (call_view d b p)
call_stands d b p H = record {
  name = call_name d b p H;
  params = (counted_params d b p H).inner;
  pairs = (counted_pairs d b p H).inner;
  is = value_is (rule.call (rule.name []) rule.pnil rule.hnil) H ∙ sym (call_found d b p H);
}

pub call_read : (d : ℕ) (b : Bits) (p : ℕ) → Holds (call_of (param d)) b p → (v : Call) → v ≡ call_view d b p → CallStands d b p v
call_read d b p H v e = subst (CallStands d b p) (sym e) (call_stands d b p H)

-- Parameters one by one

pub no_params : (d : ℕ) (b : Bits) (p : ℕ) → params_at d 0 b p ≡ rule.pnil
no_params d b p = ap params_make (none_left_value (param d) b p)

pub params_more : (d n : ℕ) (b : Bits) (p : ℕ) → Holds (row (param d) (suc n)) b p
    → params_at d (suc n) b p ≡ rule.pcons (param_at d b p) (params_at d n b (end (param d) b p))
params_more d n b p H = ap params_make (more_value (rule.name []) (param d) n b p H)

-- Pairs one by one: a key, and behind it a parameter

pub record PairStands (d : ℕ) (b : Bits) (p : ℕ) : Type 0 where
  pub key : Holds string b p
  pub content : Holds (param d) b (end string b p)
  pub next : end (param d) b (end string b p) ≡ end (string then param d) b p

pub pair_stands : (d : ℕ) (b : Bits) (p : ℕ) → Holds (string then param d) b p → PairStands d b p
pair_stands d b p H = let t = then_holds string (param d) b p H in record { key = t.first; content = t.second; next = t.ends }

pub no_hash : (d : ℕ) (b : Bits) (p : ℕ) → hash_at d 0 b p ≡ rule.hnil
no_hash d b p = ap hash_make (none_left_value (string then param d) b p)

pub hash_more : (d n : ℕ) (b : Bits) (p : ℕ) → Holds (row (string then param d) (suc n)) b p
    → hash_at d (suc n) b p ≡ rule.hcons (text_at b p) (param_at d b (end string b p)) (hash_at d n b (end (string then param d) b p))
hash_more d n b p H =
    let m = more_holds (string then param d) n b p H in
    let t = then_holds string (param d) b p m.first in
    ap hash_make (more_value m.first.found (string then param d) n b p H)
    ∙ ap (λ (x : Bytes × rule.Parameter). rule.hcons x.0 x.1 (hash_at d n b (end (string then param d) b p))) (value_is m.first.found m.first)
    ∙ ap (λ (k : Bytes). rule.hcons k m.first.found.1 (hash_at d n b (end (string then param d) b p))) (sym (string_found b p t.first ∙ t.one))
    ∙ ap (λ (x : rule.Parameter). rule.hcons (text_at b p) x (hash_at d n b (end (string then param d) b p))) (sym (value_is (rule.name []) t.second ∙ t.other))

-- The same in a loop: i parameters or pairs of n are passed

module _ (d : ℕ) (b : Bits) (n i p q : ℕ) (P : Passed (param d) b n i p q) where
  pub params_done : n ≤ i → params_at d (n - i) b p ≡ rule.pnil
  params_done h = let e : n - i ≡ 0 = omega arith in ap (λ (k : ℕ). params_at d k b p) e ∙ no_params d b p

  pub params_here : i < n → params_at d (n - i) b p ≡ rule.pcons (param_at d b p) (params_at d (n - (i + 1)) b (end (param d) b p))
  params_here h =
      let e : n - i ≡ suc (n - (i + 1)) = omega arith in
      ap (λ (k : ℕ). params_at d k b p) e ∙ params_more d (n - (i + 1)) b p (passed_row (param d) b n i p q P h)

module _ (d : ℕ) (b : Bits) (n i p q : ℕ) (P : Passed (string then param d) b n i p q) where
  pub hash_done : n ≤ i → hash_at d (n - i) b p ≡ rule.hnil
  hash_done h = let e : n - i ≡ 0 = omega arith in ap (λ (k : ℕ). hash_at d k b p) e ∙ no_hash d b p

  pub hash_here : i < n
      → hash_at d (n - i) b p ≡ rule.hcons (text_at b p) (param_at d b (end string b p)) (hash_at d (n - (i + 1)) b (end (string then param d) b p))
  hash_here h =
      let e : n - i ≡ suc (n - (i + 1)) = omega arith in
      ap (λ (k : ℕ). hash_at d k b p) e ∙ hash_more d (n - (i + 1)) b p (passed_row (string then param d) b n i p q P h)

-- the code's way past the pairs

module _ (d : ℕ) (b : Bits) (p : ℕ) (H : Holds (pairs (param d)) b p) where
  pairs_row : Same (counted 4 (string then param d)) b p (λ x. (x ≡ H.found) × (ascending x ≡ true)) (end (pairs (param d)) b p)
  pairs_row = tested_holds ascending (counted 4 (string then param d)) b p H

  pub pairs_fits : p + 4 ≤ b.size
  pairs_fits = (counted_holds 4 (string then param d) b p pairs_row.inner).fits

  pub pairs_start : (n : ℕ) → n ≡ field b 4 p → Passed (string then param d) b n 0 (p + 4) (end (pairs (param d)) b p)
  pairs_start n e =
      let s = counted_start (string then param d) b 4 p pairs_row.inner n e in
      record { within = s.within; left = s.left; ends = s.ends ∙ pairs_row.ends }

-- q is the place behind the key
module _ (d : ℕ) (b : Bits) (p : ℕ) (H : Holds (string then param d) b p) (q : ℕ) (hq : q ≡ end string b p) where
  pub pair_content : Holds (param d) b q
  pair_content = moved (param d) b _ _ (sym hq) (pair_stands d b p H).content

  pub pair_next : (r : ℕ) → r ≡ end (param d) b q → r ≡ end (string then param d) b p
  pair_next r e = e ∙ ap (end (param d) b) hq ∙ (pair_stands d b p H).next

-- the code's way past a call that is a name alone, which ends at q
module _ (d : ℕ) (b : Bits) (p : ℕ) (H : Holds (call_of (param d)) b p) (q : ℕ) (hq : q ≡ name_end d b p) where
  pub bare_end_at : field b 8 q ≡ 0 → (q + 8 ≡ end (call_of (param d)) b p) × (q + 8 ≤ b.size)
  bare_end_at e = rw hq (bare_end d b p H (sym (ap (field b 8) hq) ∙ e))

-- the code's view: q is the place behind the name
module _ (d : ℕ) (b : Bits) (p : ℕ) (H : Holds (call_of (param d)) b p) (q : ℕ) (hq : q ≡ name_end d b p) where
  pub call_params_at : Holds (params (param d)) b q
  call_params_at = moved (params (param d)) b _ _ (sym hq) (call_params d b p H)

  pub call_pairs_at : Holds (pairs (param d)) b (end (params (param d)) b q)
  call_pairs_at = moved (pairs (param d)) b _ _ (sym (ap (end (params (param d)) b) hq)) (call_pairs d b p H)

-- and r behind the parameters
pub behind_is : (d : ℕ) (b : Bits) (q r : ℕ) → r ≡ end (params (param d)) b q → (n m : ℕ) → n ≡ field b 4 q → m ≡ field b 4 r
    → ◌≡◌ {A = Call} (record { params = n; param = q + 4; pairs = m; pair = r + 4 }) (behind_view d b q)
behind_is d b q r hr n m hn hm =
    ap (λ (n : ℕ). record { params = n; param = q + 4; pairs = m; pair = r + 4 }) hn
    ∙ ap (λ (m : ℕ). record { params = field b 4 q; param = q + 4; pairs = m; pair = r + 4 }) hm
    ∙ ap (λ (r : ℕ). record { params = field b 4 q; param = q + 4; pairs = field b 4 r; pair = r + 4 }) hr
