-- What few reads tell of an element, and of a call of `lookup`.
use Rattle.std.specs.Prelude.{ℕ, zero, suc, ◌+◌, ◌*◌, ◌/◌, ◌%◌, ◌≤◌, ◌<◌, Bool, true, false, [], ◌∷◌, ◌≡◌, refl, eqb, ltb}
use Rattle.std.proofs.Common.{sym, ap, ◌∙◌, subst, arith, eq-eqb, ne_eqb, eqb-true, lt-ltb, le-ltb, ltb-false}
use Rattle.std.proofs.lemmas.Bool.{eqb-false}
use types.Run.{OneOf, miss}
use denote.Enum.Declared.{tag_of}
use Rattle.rules.specs.Bytes.{pick}
use Rattle.rules.specs.Order.{differ}
use Rattle.rules.specs.Bits.{Bits}
use Rattle.rules.specs.Layout.{Layout, field, ◌then◌, counted}
use Rattle.rules.specs.Template as rule
use Rattle.rules.specs.LayoutLaws.{Binary, field_lt}
use Rattle.rules.specs.Registry.{get_helper}
use Rattle.rules.specs.Bundle.{string, path, literal, ascending, param, call_of, element_of, body}
use Rattle.layout.specs.Arms.{written}
use Rattle.layout.specs.Text.{text_at}
use Rattle.bits.specs.Fields.{field_append}
use Rattle.parts.specs.Holds.{Holds, end, row}
use Rattle.parts.specs.HoldsLaws.{More, more_holds, counted_holds, tested_holds, moved, none_left, string_end, string_in}
use Rattle.parts.specs.Parts.{path_raw, path_fits, skip_one, skip_name}
use Rattle.parts.specs.Says.{path_at}
use Rattle.calls.specs.declared.Parameter.{Parameter}
use Rattle.calls.specs.declared.Parameter.TheVariants as parameter
use Rattle.calls.specs.contracts.Parameter.{the_type as parameter-type}
use Rattle.calls.specs.Calls.{param_of, param_view, param_at, param_name, param_path, param_literal, param_fits, ParamStands, param_read}
use Rattle.calls.specs.Calls.{name_end, params_end, call_view, call_name, call_params, call_pairs, call_end as pairs_end, call_fits, call_stands, bare_end}
use Rattle.calls.specs.Calls.{params_at, hash_at, no_params, params_more, no_hash}
use Rattle.template.specs.declared.Element.{Element}
use Rattle.template.specs.declared.Element.TheVariants.{RawString}
use Rattle.template.specs.Views.{flag_at, call_end, flagged_view, kind_view, content_of, content_view}
use Rattle.template.specs.Content.{raw_string_holds, html_holds, expression_holds, FlaggedHolds, written_holds}
use Rattle.expand.specs.declared.HelperDef.{HelperDef}
use Rattle.expand.specs.declared.HelperDef.TheVariants as helper
use Rattle.expand.specs.contracts.HelperDef.{the_type as helper-type}
use Rattle.expand.specs.Answers.{helper_of}
use Rattle.plain.specs.declared.Lookup.{Lookup}
use Rattle.plain.specs.declared.Lookup.TheVariants.{Paths, Literal, Other}
use Rattle.plain.specs.Looked.{is_lookup, paths_view, literal_view, second_by, second_view, first_by, first_view, named_by, lookup_view, SecondHolds, CallIs, LookedAt, LookupIs}
use Rattle.plain.specs.Plain.{expression_of, TextIs, ExpressionIs, PathIs, is_alone, is_shown}

-- The end of a path at p, by one read behind its raw string: that has m bytes, and y is the kind and what comes behind it
module _ (b : Bits) (bin : Binary b) (p : ℕ) (H : Holds path b p) (m : ℕ) (hm : m ≡ field b 16 p) where
  raw_end : p + 16 + 8 * m ≡ end string b p
  raw_end = omega (arith, string_end b p (path_raw b p H), hm)

  pub raw_fits : p + 16 + 8 * m + 9 ≤ b.size
  raw_fits = omega (arith, raw_end, path_fits b p H)

  module _ (y : ℕ) (hy : y ≡ field b 27 (p + 16 + 8 * m)) where
    -- it is one segment, a name
    pub name_ends : y / 65536 ≡ 4 → (p + 16 + 8 * m + 27 + 8 * (y % 65536) ≡ end path b p) × (p + 16 + 8 * m + 27 + 8 * (y % 65536) ≤ b.size)
    name_ends h = skip_one b bin p H (p + 16 + 8 * m) y raw_end hy h

    -- it is local
    pub local_ends : 67108864 ≤ y → (p + 16 + 8 * m + 25 + 8 * (y / 4 % 65536) ≡ end path b p) × (p + 16 + 8 * m + 25 + 8 * (y / 4 % 65536) ≤ b.size)
    local_ends h =
        let q = p + 16 + 8 * m in
        let s = skip_name b bin p H q y raw_end hy (omega arith) in
        let head : y ≡ field b 9 q * 262144 + field b 18 (q + 9) = hy ∙ field_append b 9 18 q in
        let name : field b 18 (q + 9) ≡ field b 16 (q + 9) * 4 + field b 2 (q + 9 + 16) = field_append b 16 2 (q + 9) in
        let n : y / 4 % 65536 ≡ field b 16 (q + 9) = omega (arith, head, name, field_lt b bin 16 (q + 9), field_lt b bin 2 (q + 9 + 16)) in
        let e : q + 25 + 8 * (y / 4 % 65536) ≡ q + 9 + 16 + 8 * field b 16 (q + 9) = omega (arith, n) in
        (e ∙ string_end b (q + 9) s.inner ∙ s.ends, omega (arith, e, string_in b (q + 9) s.inner))

-- x is the kind, and what comes behind it
module _ (d : ℕ) (b : Bits) (bin : Binary b) (p : ℕ) (H : Holds (element_of (call_of (param d)) (body 16 d)) b p) (x : ℕ) (hx : x ≡ field b 22 p) where
  kind_first : x ≡ field b 4 p * 262144 + field b 18 (p + 4)
  kind_first = hx ∙ field_append b 4 18 p

  count_first : field b 18 (p + 4) ≡ field b 16 (p + 4) * 4 + field b 2 (p + 4 + 16)
  count_first = field_append b 16 2 (p + 4)

  name_first : field b 18 (p + 4) ≡ field b 2 (p + 4) * 65536 + field b 16 (p + 4 + 2)
  name_first = field_append b 2 16 (p + 4)

  kind_is : x / 262144 ≡ field b 4 p
  kind_is = omega (arith, kind_first, field_lt b bin 18 (p + 4))

  name_is : x / 65536 % 4 ≡ field b 2 (p + 4)
  name_is = omega (arith, kind_first, name_first, field_lt b bin 16 (p + 4 + 2), field_lt b bin 2 (p + 4))

  -- a path's raw string
  pub raw_count : x % 65536 ≡ field b 16 (p + 6)
  raw_count =
      let z : p + 4 + 2 ≡ p + 6 = omega arith in
      omega (arith, kind_first, name_first, field_lt b bin 16 (p + 4 + 2), field_lt b bin 2 (p + 4), ap (field b 16) z)

  pub text_read : x / 262144 ≡ 0 → TextIs d b p (x / 4)
  text_read h =
      let k : field b 4 p ≡ 0 = sym kind_is ∙ h in
      let n : x / 4 ≡ field b 16 (p + 4) = omega (arith, kind_first, k, count_first, field_lt b bin 2 (p + 4 + 16)) in
      let m = raw_string_holds 16 d b p H k in
      let e : end (element_of (call_of (param d)) (body 16 d)) b p ≡ p + 20 + 8 * (x / 4) = sym m.ends ∙ sym (string_end b (p + 4) m.inner) ∙ omega (arith, n) in
      record {
        seen = ap (λ (k : ℕ). content_of (kind_view 16 d b (p + 4) k) (end (element_of (call_of (param d)) (body 16 d)) b p)) k ∙ ap (content_of (RawString (p + 4))) e;
        count = n;
        text = m.inner;
      }

  pub other_read : 2 < x / 262144 → is_shown (content_view 16 d b p).element ≡ false
  other_read h = by (field b 4 p) (omega (arith, h, kind_is))
    where
      by : (k : ℕ) → 2 < k → is_shown (kind_view 16 d b (p + 4) k) ≡ false
      by zero lt = absurd (omega arith)
      by (suc zero) lt = absurd (omega arith)
      by (suc (suc zero)) lt = absurd (omega arith)
      by (suc (suc (suc zero))) lt = refl
      by (suc (suc (suc (suc zero)))) lt = refl
      by (suc (suc (suc (suc (suc zero))))) lt = refl
      by (suc (suc (suc (suc (suc (suc zero)))))) lt = refl
      by (suc (suc (suc (suc (suc (suc (suc zero))))))) lt = refl
      by (suc (suc (suc (suc (suc (suc (suc (suc k)))))))) lt = refl

  abbrev E : Layout rule.TemplateElement
  E = element_of (call_of (param d)) (body 16 d)

  abbrev W : Layout (rule.Call × Bool)
  W = written (call_of (param d)) (body 16 d)

  -- the kind is that of an expression
  pub record Kind (html : Bool) : Type 0 where
    pub behind_kind : Holds W b (p + 4)
    pub ends : end W b (p + 4) ≡ end E b p
    pub kind : kind_view 16 d b (p + 4) (field b 4 p) ≡ expression_of html (p + 4) (flagged_view d b (p + 4)).before

  html_kind : field b 4 p ≡ 1 → Kind true
  html_kind k = let m = html_holds 16 d b p H k in record { behind_kind = m.inner; ends = m.ends; kind = ap (kind_view 16 d b (p + 4)) k }

  expression_kind : field b 4 p ≡ 2 → Kind false
  expression_kind k = let m = expression_holds 16 d b p H k in record { behind_kind = m.inner; ends = m.ends; kind = ap (kind_view 16 d b (p + 4)) k }

  module _ (some : x / 262144 ≡ 0 → ⊥) (most : x / 262144 ≤ 2) where
    pub kind_here : Kind (eqb (x / 262144) 1)
    kind_here = by (eqb (x / 262144) 1) refl
      where
        by : (t : Bool) → eqb (x / 262144) 1 ≡ t → Kind t
        by true e = html_kind (sym kind_is ∙ eqb-true _ 1 e)
        by false e = expression_kind (omega (arith, kind_is, some, most, eqb-false (x / 262144) 1 e))

  module _ (html : Bool) (K : Kind html) where
    flagged : FlaggedHolds 16 d b (p + 4) K.behind_kind.found (end W b (p + 4))
    flagged = written_holds 16 d b (p + 4) K.behind_kind

    pub expression_read : ExpressionIs d b p html
    expression_read = record {
      seen = ap (λ (k : Element). content_of k (end E b p)) K.kind ∙ ap (content_of (expression_of html (p + 4) (flagged_view d b (p + 4)).before)) (sym K.ends ∙ sym flagged.ends);
      call = flagged.call;
    }

    -- its name is no path
    pub no_path : (x / 65536 % 4 ≡ 1 → ⊥) → is_alone b (param_view b (p + 4)) ≡ false
    no_path n = by (field b 2 (p + 4)) (λ e. n (name_is ∙ e))
      where
        by : (k : ℕ) → (k ≡ 1 → ⊥) → is_alone b (param_of (p + 4 + 2) k) ≡ false
        by zero n = refl
        by (suc zero) n = absurd (n refl)
        by (suc (suc zero)) n = refl
        by (suc (suc (suc k))) n = refl

    six : p + 4 + 2 ≡ p + 6
    six = omega arith

    module _ (is : x / 65536 % 4 ≡ 1) where
      is_path : field b 2 (p + 4) ≡ 1
      is_path = sym name_is ∙ is

      pub path_there : Holds path b (p + 6)
      path_there = moved path b _ _ six (param_path d b (p + 4) (call_name d b (p + 4) flagged.call) is_path).inner

      -- e is the place behind the path, and y what stands there
      module _ (e y : ℕ) (he : e ≡ end path b (p + 6)) (hy : y ≡ field b 9 e) where
        counts : field b 9 e ≡ field b 8 e * 2 + field b 1 (e + 8)
        counts = field_append b 8 1 e

        -- it is not alone
        pub more_there : 1 < y → is_alone b (param_view b (p + 4)) ≡ false
        more_there lt =
            ap (λ (k : ℕ). is_alone b (param_of (p + 4 + 2) k)) is_path
            ∙ ap (λ (q : ℕ). eqb (field b 8 q) 0) (ap (end path b) six ∙ sym he)
            ∙ ne_eqb (field b 8 e) 0 (λ z. omega (arith, hy, counts, lt, z, field_lt b bin 1 (e + 8)))

        module _ (lo : y ≤ 1) where
          at_name_end : e ≡ name_end d b (p + 4)
          at_name_end = he ∙ sym (ap (end path b) six) ∙ (param_path d b (p + 4) (call_name d b (p + 4) flagged.call) is_path).ends

          no_counts : field b 8 e ≡ 0
          no_counts = omega (arith, hy, counts, lo)

          call_ends : (name_end d b (p + 4) + 8 ≡ call_end d b (p + 4)) × (name_end d b (p + 4) + 8 ≤ b.size)
          call_ends = bare_end d b (p + 4) flagged.call (sym (ap (field b 8) at_name_end) ∙ no_counts)

          pub path_behind : e + 9 ≤ b.size
          path_behind = omega (arith, at_name_end, call_ends.0, flagged.fits)

          pub path_read : PathIs d b p html (p + 6) (e + 9)
          path_read =
              let z : end E b p ≡ e + 9 = sym K.ends ∙ sym flagged.ends ∙ omega (arith, at_name_end, call_ends.0) in
              record {
                before = (flagged_view d b (p + 4)).before;
                seen = ap (λ (k : Element). content_of k (end E b p)) K.kind ∙ ap (content_of (expression_of html (p + 4) (flagged_view d b (p + 4)).before)) z;
                call = flagged.call;
                named = ap (param_of (p + 4 + 2)) is_path ∙ ap parameter.Path six;
                leads = path_there;
                bare = sym (ap (field b 8) he) ∙ no_counts;
              }

-- Calls of `lookup`

-- the kind of its name, of its helper or of its first parameter tells that a call is no such lookup
pub not_named : (b : Bits) (v : Parameter) → OneOf (1 ∷ 2 ∷ 3 ∷ []) (tag_of parameter-type v) → named_by b v ≡ Other
not_named b (parameter.Name q) k = absurd (miss (1 ∷ 2 ∷ 3 ∷ []) 0 tt k)
not_named b (parameter.Path q) k = refl
not_named b (parameter.Literal q) k = refl
not_named b (parameter.Subexpression q) k = refl

pub not_lookup : (h : HelperDef) → OneOf (0 ∷ 1 ∷ 2 ∷ 3 ∷ 5 ∷ []) (tag_of helper-type h) → is_lookup h ≡ false
not_lookup helper.Each k = refl
not_lookup helper.With k = refl
not_lookup helper.If k = refl
not_lookup helper.Unless k = refl
not_lookup helper.Lookup k = absurd (miss (0 ∷ 1 ∷ 2 ∷ 3 ∷ 5 ∷ []) 4 tt k)
not_lookup helper.Unknown k = refl

pub not_path : (b : Bits) (v : Parameter) → OneOf (0 ∷ 2 ∷ 3 ∷ []) (tag_of parameter-type v) → first_by b v ≡ Other
not_path b (parameter.Name q) k = refl
not_path b (parameter.Path q) k = absurd (miss (0 ∷ 2 ∷ 3 ∷ []) 1 tt k)
not_path b (parameter.Literal q) k = refl
not_path b (parameter.Subexpression q) k = refl

-- x is the name of the call at p
module _ (b : Bits) (p : ℕ) (x : Parameter) (hx : x ≡ param_view b p) where
  pub named_so : named_by b x ≡ lookup_view b p
  named_so = ap (named_by b) hx

  -- it is the string at n, and h the helper that has it
  module _ (n : ℕ) (is : x ≡ parameter.Name n) (h : HelperDef) (hh : h ≡ helper_of (get_helper (text_at b n))) where
    helper_so : (t : Bool) → is_lookup h ≡ t → pick t (first_view b (end string b n)) Other ≡ lookup_view b p
    helper_so t e = sym (ap (λ (t : Bool). pick t (first_view b (end string b n)) Other) (ap is_lookup (sym hh) ∙ e)) ∙ sym (ap (named_by b) is) ∙ named_so

    pub helper_left : is_lookup h ≡ false → Other ≡ lookup_view b p
    helper_left e = helper_so false e

    -- q is the place behind it, and y the count there
    module _ (yes : is_lookup h ≡ true) (q y : ℕ) (hq : q ≡ end string b n) (hy : y ≡ field b 4 q) where
      count_so : (t : Bool) → eqb y 2 ≡ t → pick t (first_by b (param_view b (q + 4))) Other ≡ lookup_view b p
      count_so t e =
          sym (ap (λ (t : Bool). pick t (first_by b (param_view b (q + 4))) Other) (ap (λ (m : ℕ). eqb m 2) (sym hy) ∙ e))
          ∙ ap (first_view b) hq ∙ helper_so true yes

      pub count_left : (y ≡ 2 → ⊥) → Other ≡ lookup_view b p
      count_left ne = count_so false (ne_eqb y 2 ne)

      pub first_so : y ≡ 2 → (v : Parameter) → v ≡ param_view b (q + 4) → first_by b v ≡ lookup_view b p
      first_so two v hv = ap (first_by b) hv ∙ count_so true (eq-eqb y 2 two)

-- the view of a parameter tells its kind
pub name_kind : (b : Bits) (p n : ℕ) → parameter.Name n ≡ param_view b p → (field b 2 p ≡ 0) × (p + 2 ≡ n)
name_kind b p n h = by (field b 2 p) h
  where
    by : (k : ℕ) → parameter.Name n ≡ param_of (p + 2) k → (k ≡ 0) × (p + 2 ≡ n)
    by zero h = (refl, cc)
    by (suc zero) h = let z : ◌≡◌ {A = ℕ} 0 1 = cc in absurd (omega arith)
    by (suc (suc zero)) h = let z : ◌≡◌ {A = ℕ} 0 1 = cc in absurd (omega arith)
    by (suc (suc (suc k))) h = let z : ◌≡◌ {A = ℕ} 0 1 = cc in absurd (omega arith)

pub path_kind : (b : Bits) (p v : ℕ) → parameter.Path v ≡ param_view b p → (field b 2 p ≡ 1) × (p + 2 ≡ v)
path_kind b p v h = by (field b 2 p) h
  where
    by : (k : ℕ) → parameter.Path v ≡ param_of (p + 2) k → (k ≡ 1) × (p + 2 ≡ v)
    by zero h = let z : ◌≡◌ {A = ℕ} 0 1 = cc in absurd (omega arith)
    by (suc zero) h = (refl, cc)
    by (suc (suc zero)) h = let z : ◌≡◌ {A = ℕ} 0 1 = cc in absurd (omega arith)
    by (suc (suc (suc k))) h = let z : ◌≡◌ {A = ℕ} 0 1 = cc in absurd (omega arith)

pub literal_kind : (b : Bits) (p l : ℕ) → parameter.Literal l ≡ param_view b p → (field b 2 p ≡ 2) × (p + 2 ≡ l)
literal_kind b p l h = by (field b 2 p) h
  where
    by : (k : ℕ) → parameter.Literal l ≡ param_of (p + 2) k → (k ≡ 2) × (p + 2 ≡ l)
    by zero h = let z : ◌≡◌ {A = ℕ} 0 1 = cc in absurd (omega arith)
    by (suc zero) h = let z : ◌≡◌ {A = ℕ} 0 1 = cc in absurd (omega arith)
    by (suc (suc zero)) h = (refl, cc)
    by (suc (suc (suc k))) h = let z : ◌≡◌ {A = ℕ} 0 1 = cc in absurd (omega arith)

-- the path at v ends at w, and x is the parameter there
module _ (b : Bits) (v w : ℕ) (hw : w ≡ end path b v) (x : Parameter) (hx : x ≡ param_view b w) where
  pub second_so : second_by b v x ≡ second_view b v
  second_so = ap (second_by b v) hx ∙ ap (λ (m : ℕ). second_by b v (param_view b m)) hw

  -- z is what stands behind it
  module _ (k f z : ℕ) (hz : z ≡ field b 5 f) where
    pub paths_left : x ≡ parameter.Path k → f ≡ end path b k → 1 < z → Other ≡ second_view b v
    paths_left is hf lt =
        sym (ap (λ (t : Bool). pick t Other (Paths v k (eqb (field b 5 f) 1) (f + 5))) (ap (ltb 1) (sym hz) ∙ lt-ltb 1 z lt))
        ∙ ap (paths_view b v k) hf ∙ sym (ap (second_by b v) is) ∙ second_so

    pub paths_told : x ≡ parameter.Path k → f ≡ end path b k → z ≤ 1 → Paths v k (eqb z 1) (f + 5) ≡ second_view b v
    paths_told is hf lo =
        ap (λ (m : ℕ). Paths v k (eqb m 1) (f + 5)) hz
        ∙ sym (ap (λ (t : Bool). pick t Other (Paths v k (eqb (field b 5 f) 1) (f + 5))) (ap (ltb 1) (sym hz) ∙ le-ltb 1 z lo))
        ∙ ap (paths_view b v k) hf ∙ sym (ap (second_by b v) is) ∙ second_so

    pub literal_left : x ≡ parameter.Literal k → f ≡ end literal b k → 1 < z → Other ≡ second_view b v
    literal_left is hf lt =
        sym (ap (λ (t : Bool). pick t Other (Literal v k (eqb (field b 5 f) 1) (f + 5))) (ap (ltb 1) (sym hz) ∙ lt-ltb 1 z lt))
        ∙ ap (literal_view b v k) hf ∙ sym (ap (second_by b v) is) ∙ second_so

    pub literal_told : x ≡ parameter.Literal k → f ≡ end literal b k → z ≤ 1 → Literal v k (eqb z 1) (f + 5) ≡ second_view b v
    literal_told is hf lo =
        ap (λ (m : ℕ). Literal v k (eqb m 1) (f + 5)) hz
        ∙ sym (ap (λ (t : Bool). pick t Other (Literal v k (eqb (field b 5 f) 1) (f + 5))) (ap (ltb 1) (sym hz) ∙ le-ltb 1 z lo))
        ∙ ap (literal_view b v k) hf ∙ sym (ap (second_by b v) is) ∙ second_so

  module _ (d : ℕ) (H : SecondHolds d b v) where
    there : Holds (param d) b w
    there = moved (param d) b _ _ (sym hw) H.behind

    pub second_fits : w + 2 ≤ b.size
    second_fits = param_fits d b w there

    second_ends : end (param d) b w + 4 ≤ b.size
    second_ends = omega (arith, ap (end (param d) b) hw, H.fits)

    pub second_path : (k : ℕ) → x ≡ parameter.Path k → Holds path b k × (end path b k + 4 ≤ b.size)
    second_path k is =
        let n = path_kind b w k (sym is ∙ hx) in
        let m = param_path d b w there n.0 in
        (moved path b _ _ n.1 m.inner, omega (arith, second_ends, m.ends, ap (end path b) n.1))

    pub second_literal : (k : ℕ) → x ≡ parameter.Literal k → Holds literal b k × (end literal b k + 4 ≤ b.size)
    second_literal k is =
        let n = literal_kind b w k (sym is ∙ hx) in
        let m = param_literal d b w there n.0 in
        (moved literal b _ _ n.1 m.inner, omega (arith, second_ends, m.ends, ap (end literal b) n.1))

-- the call at p
module _ (d : ℕ) (b : Bits) (bin : Binary b) (p : ℕ) (H : Holds (call_of (param d)) b p) where
  -- its name is the string at p + 2
  module _ (name : field b 2 p ≡ 0) where
    name_stands : ParamStands d b p (parameter.Name (p + 2))
    name_stands = param_read d b p (call_name d b p H) (parameter.Name (p + 2)) (ap (param_of (p + 2)) (sym name))

    pub name_here : Holds string b (p + 2)
    name_here = name_stands.parts

    pub name_behind : end string b (p + 2) ≡ name_end d b p
    name_behind = (param_name d b p (call_name d b p H) name).ends

    pub name_fits : end string b (p + 2) + 4 ≤ b.size
    name_fits = omega (arith, name_behind, (call_fits d b p H).0)

    -- q is the place behind the name, and two parameters stand there
    module _ (two : field b 4 (end string b (p + 2)) ≡ 2) where
      abbrev q : ℕ
      q = end string b (p + 2)

      row_two : Holds (row (param d) 2) b (q + 4)
      row_two =
          moved (row (param d) 2) b _ _ (sym (ap (λ (m : ℕ). m + 4) name_behind))
          (subst (λ (k : ℕ). Holds (row (param d) k) b (name_end d b p + 4)) (sym (ap (field b 4) name_behind) ∙ two) (call_stands d b p H).params)

      one : More (param d) 1 b (q + 4) row_two.found (end (row (param d) 2) b (q + 4))
      one = more_holds (param d) 1 b (q + 4) row_two

      -- the first one ends at u
      abbrev u : ℕ
      u = end (param d) b (q + 4)

      last : More (param d) 0 b u one.rest.found (end (row (param d) 1) b u)
      last = more_holds (param d) 0 b u one.rest

      last_ends : end (param d) b u ≡ params_end d b p
      last_ends =
          sym (none_left (param d) b (end (param d) b u)) ∙ last.ends ∙ one.ends
          ∙ ap (λ (m : ℕ). end (row (param d) 2) b (m + 4)) name_behind
          ∙ sym (ap (λ (k : ℕ). end (row (param d) k) b (name_end d b p + 4)) (sym (ap (field b 4) name_behind) ∙ two))
          ∙ (counted_holds 4 (param d) b (name_end d b p) (call_params d b p H)).ends

      pub first_holds : Holds (param d) b (q + 4)
      first_holds = one.first

      -- it is the path at q + 4 + 2
      module _ (is_path : field b 2 (q + 4) ≡ 1) where
        abbrev v : ℕ
        v = q + 4 + 2

        first_stands : ParamStands d b (q + 4) (parameter.Path v)
        first_stands = param_read d b (q + 4) first_holds (parameter.Path v) (ap (param_of v) (sym is_path))

        pub first_behind : end path b v ≡ u
        first_behind = (param_path d b (q + 4) first_holds is_path).ends

        pub second_holds : SecondHolds d b v
        second_holds = record {
          here = first_stands.parts;
          behind = moved (param d) b _ _ (sym first_behind) last.first;
          fits = omega (arith, ap (end (param d) b) first_behind, last_ends, (call_fits d b p H).1);
        }

        abbrev w : ℕ
        w = end path b v

        -- the second one says y, and f is the place behind it
        module _ (y : rule.Parameter) (says : param_at d b w ≡ y) (f : ℕ) (hf : f ≡ end (param d) b w) (none : field b 4 f ≡ 0) where
          at_pairs : f ≡ params_end d b p
          at_pairs = hf ∙ ap (end (param d) b) first_behind ∙ last_ends

          no_pairs : (call_view d b p).pairs ≡ 0
          no_pairs = sym (ap (field b 4) at_pairs) ∙ none

          -- the call ends behind the count of pairs
          pub behind_call : f + 4 ≡ call_end d b p
          behind_call =
              let e = params_end d b p in
              let t = tested_holds ascending (counted 4 (string then param d)) b e (call_pairs d b p H) in
              ap (λ (m : ℕ). m + 4) at_pairs
              ∙ sym (none_left (string then param d) b (e + 4))
              ∙ sym (ap (λ (m : ℕ). end (row (string then param d) m) b (e + 4)) no_pairs)
              ∙ (counted_holds 4 (string then param d) b e t.inner).ends
              ∙ t.ends
              ∙ pairs_end d b p H

          pub said : CallIs d b p v y
          said =
              (call_stands d b p H).is
              ∙ ap (λ x. rule.call x (params_at d (field b 4 (name_end d b p)) b (name_end d b p + 4)) (hash_at d (call_view d b p).pairs b (params_end d b p + 4))) name_stands.is
              ∙ ap (λ (k : ℕ). rule.call (rule.name (text_at b (p + 2))) (params_at d k b (name_end d b p + 4)) (hash_at d (call_view d b p).pairs b (params_end d b p + 4))) (sym (ap (field b 4) name_behind) ∙ two)
              ∙ ap (λ (m : ℕ). rule.call (rule.name (text_at b (p + 2))) (params_at d 2 b (m + 4)) (hash_at d (call_view d b p).pairs b (params_end d b p + 4))) (sym name_behind)
              ∙ ap (λ (k : ℕ). rule.call (rule.name (text_at b (p + 2))) (params_at d 2 b (q + 4)) (hash_at d k b (params_end d b p + 4))) no_pairs
              ∙ ap (rule.call (rule.name (text_at b (p + 2))) (params_at d 2 b (q + 4))) (no_hash d b (params_end d b p + 4))
              ∙ ap (λ x. rule.call (rule.name (text_at b (p + 2))) x rule.hnil) (params_more d 1 b (q + 4) row_two)
              ∙ ap (λ x. rule.call (rule.name (text_at b (p + 2))) (rule.pcons x (params_at d 1 b u)) rule.hnil) first_stands.is
              ∙ ap (λ x. rule.call (rule.name (text_at b (p + 2))) (rule.pcons (rule.path (path_at b v)) x) rule.hnil) (params_more d 0 b u one.rest)
              ∙ ap (λ x. rule.call (rule.name (text_at b (p + 2))) (rule.pcons (rule.path (path_at b v)) (rule.pcons (param_at d b u) x)) rule.hnil) (no_params d b (end (param d) b u))
              ∙ ap (λ (m : ℕ). rule.call (rule.name (text_at b (p + 2))) (rule.pcons (rule.path (path_at b v)) (rule.pcons (param_at d b m) rule.pnil)) rule.hnil) (sym first_behind)
              ∙ ap (λ x. rule.call (rule.name (text_at b (p + 2))) (rule.pcons (rule.path (path_at b v)) (rule.pcons x rule.pnil)) rule.hnil) says

        -- z is what stands behind the second one: no pairs, and the last bit
        module _ (named : helper.Lookup ≡ helper_of (get_helper (text_at b (p + 2)))) (f : ℕ) (hf : f ≡ end (param d) b w) (lo : field b 5 f ≤ 1) where
          bits_behind : field b 5 f ≡ field b 4 f * 2 + field b 1 (f + 4)
          bits_behind = field_append b 4 1 f

          no_more : field b 4 f ≡ 0
          no_more = omega (arith, lo, bits_behind)

          looked_at : (y : rule.Parameter) → param_at d b w ≡ y → LookedAt d b p (eqb (field b 5 f) 1) (f + 5)
          looked_at y says =
              let e = behind_call y says f hf no_more in
              let k : field b 5 f ≡ field b 1 (f + 4) = omega (arith, no_more, bits_behind) in
              record { named = named; bit = ap (λ (m : ℕ). eqb m 1) k ∙ ap (flag_at b) e; behind = omega (arith, e) }

        module _ (named : helper.Lookup ≡ helper_of (get_helper (text_at b (p + 2)))) where
          second_is : LookupIs d b p (second_view b v)
          second_is = by_kind (field b 2 w) refl
            where
              Q : Holds (param d) b w
              Q = second_holds.behind

              by_paths : field b 2 w ≡ 1 → (t : Bool) → ltb 1 (field b 5 (end path b (w + 2))) ≡ t
                  → LookupIs d b p (pick t Other (Paths v (w + 2) (eqb (field b 5 (end path b (w + 2))) 1) (end path b (w + 2) + 5)))
              by_paths k true e = tt
              by_paths k false e =
                  let S = param_read d b w Q (parameter.Path (w + 2)) (ap (param_of (w + 2)) (sym k)) in
                  let lo = ltb-false 1 _ e in
                  let hf = (param_path d b w Q k).ends in
                  record {
                    few = (said _ S.is (end path b (w + 2)) hf (no_more named (end path b (w + 2)) hf lo), name_here, first_stands.parts, S.parts);
                    at = looked_at named (end path b (w + 2)) hf lo _ S.is;
                  }

              by_literal : field b 2 w ≡ 2 → (t : Bool) → ltb 1 (field b 5 (end literal b (w + 2))) ≡ t
                  → LookupIs d b p (pick t Other (Literal v (w + 2) (eqb (field b 5 (end literal b (w + 2))) 1) (end literal b (w + 2) + 5)))
              by_literal k true e = tt
              by_literal k false e =
                  let S = param_read d b w Q (parameter.Literal (w + 2)) (ap (param_of (w + 2)) (sym k)) in
                  let lo = ltb-false 1 _ e in
                  let hf = (param_literal d b w Q k).ends in
                  record {
                    few = (said _ S.is (end literal b (w + 2)) hf (no_more named (end literal b (w + 2)) hf lo), name_here, first_stands.parts, S.parts);
                    at = looked_at named (end literal b (w + 2)) hf lo _ S.is;
                  }

              by_kind : (k : ℕ) → field b 2 w ≡ k → LookupIs d b p (second_by b v (param_of (w + 2) k))
              by_kind zero e = tt
              by_kind (suc zero) e = by_paths e (ltb 1 (field b 5 (end path b (w + 2)))) refl
              by_kind (suc (suc zero)) e = by_literal e (ltb 1 (field b 5 (end literal b (w + 2)))) refl
              by_kind (suc (suc (suc k))) e = tt

  -- the name is the string at n
  module _ (n : ℕ) (is : parameter.Name n ≡ param_view b p) where
    abbrev kind : (field b 2 p ≡ 0) × (p + 2 ≡ n)
    kind = name_kind b p n is

    pub called_name : Holds string b n
    called_name = moved string b _ _ kind.1 (name_here kind.0)

    pub called_fits : (q : ℕ) → q ≡ end string b n → q + 4 ≤ b.size
    called_fits q e = omega (arith, e, ap (end string b) kind.1, name_fits kind.0)

    pub called_second : (q : ℕ) → q ≡ end string b n → field b 4 q ≡ 2 → (v : ℕ) → parameter.Path v ≡ param_view b (q + 4) → SecondHolds d b v
    called_second q e two v h =
        subst (λ (m : ℕ). field b 4 m ≡ 2 → parameter.Path v ≡ param_view b (m + 4) → SecondHolds d b v) (ap (end string b) kind.1 ∙ sym e)
        (λ two h. let k = path_kind b _ v h in subst (SecondHolds d b) k.1 (second_holds kind.0 two k.0)) two h

  lookup_named : (h : HelperDef) → is_lookup h ≡ true → helper.Lookup ≡ h
  lookup_named helper.Each e = differ (sym e)
  lookup_named helper.With e = differ (sym e)
  lookup_named helper.If e = differ (sym e)
  lookup_named helper.Unless e = differ (sym e)
  lookup_named helper.Lookup e = refl
  lookup_named helper.Unknown e = differ (sym e)

  lookup_is : LookupIs d b p (lookup_view b p)
  lookup_is = by_name (field b 2 p) refl
    where
      by_first : (name : field b 2 p ≡ 0) → helper.Lookup ≡ helper_of (get_helper (text_at b (p + 2))) → (two : field b 4 (end string b (p + 2)) ≡ 2)
          → (k : ℕ) → field b 2 (end string b (p + 2) + 4) ≡ k → LookupIs d b p (first_by b (param_of (end string b (p + 2) + 4 + 2) k))
      by_first name named two zero e = tt
      by_first name named two (suc zero) e = second_is name two e named
      by_first name named two (suc (suc zero)) e = tt
      by_first name named two (suc (suc (suc k))) e = tt

      by_count : field b 2 p ≡ 0 → helper.Lookup ≡ helper_of (get_helper (text_at b (p + 2))) → (t : Bool) → eqb (field b 4 (end string b (p + 2))) 2 ≡ t
          → LookupIs d b p (pick t (first_by b (param_view b (end string b (p + 2) + 4))) Other)
      by_count name named true e = by_first name named (eqb-true _ 2 e) (field b 2 (end string b (p + 2) + 4)) refl
      by_count name named false e = tt

      by_helper : field b 2 p ≡ 0 → (t : Bool) → is_lookup (helper_of (get_helper (text_at b (p + 2)))) ≡ t → LookupIs d b p (pick t (first_view b (end string b (p + 2))) Other)
      by_helper name true e = by_count name (lookup_named _ e) (eqb (field b 4 (end string b (p + 2))) 2) refl
      by_helper name false e = tt

      by_name : (k : ℕ) → field b 2 p ≡ k → LookupIs d b p (named_by b (param_of (p + 2) k))
      by_name zero e = by_helper e (is_lookup (helper_of (get_helper (text_at b (p + 2))))) refl
      by_name (suc zero) e = tt
      by_name (suc (suc zero)) e = tt
      by_name (suc (suc (suc k))) e = tt

  pub lookup_read : (x : Lookup) → x ≡ lookup_view b p → LookupIs d b p x
  lookup_read x e = subst (LookupIs d b p) (sym e) lookup_is
