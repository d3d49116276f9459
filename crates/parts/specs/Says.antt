-- What the readers' answers say, as the values of the rules, and what stands at the places they hold: one record for each kind of part.
use Rattle.std.specs.Prelude.{ℕ, zero, suc, ◌+◌, List, [], ◌≡◌, refl, Option as RustOption, Some, None}
use Rattle.std.proofs.Math.Option.{Option, none, some}
use Rattle.std.proofs.Common.{sym, ap, ◌∙◌, subst, arith}
use Rattle.rules.specs.Bytes.{Bytes}
use Rattle.rules.specs.Path as rule-path
use Rattle.rules.specs.Template as rule
use Rattle.rules.specs.Bits.{Bits}
use Rattle.rules.specs.Layout.{Layout, field}
use Rattle.rules.specs.Bundle.{string, seg, path, literal, block_names, indent}
use Rattle.layout.specs.Text.{text_at}
use Rattle.parts.specs.Holds.{Holds, end, value, row}
use Rattle.parts.specs.HoldsLaws.{value_is, counted_holds, num_holds, string_found}
use Rattle.parts.specs.Parts.{seg_named, seg_root, seg_up, seg_never, path_raw, path_relative, path_local, path_never, level_is, level_name}
use Rattle.parts.specs.Parts.{below_zero_number, literal_null, literal_false, literal_true, literal_unsigned, literal_negative, literal_string, literal_never}
use Rattle.parts.specs.Parts.{names_none, names_one, names_two, names_never, indent_none, indent_some, indent_there}
use Rattle.parts.specs.Views.{segment_of, segment_view, path_of, path_view, literal_of, literal_view, names_of, names_view, maybe_of, maybe_view}
use Rattle.parts.specs.declared.Segment.{Segment}
use Rattle.parts.specs.declared.Segment.TheVariants.{Named, Root, Up}
use Rattle.parts.specs.declared.Path.{Path}
use Rattle.parts.specs.declared.Path.TheVariants.{Relative, Local}
use Rattle.parts.specs.declared.Literal.{Literal}
use Rattle.parts.specs.declared.Literal.TheVariants.{Null, Boolean, Unsigned, Negative, String}
use Rattle.parts.specs.declared.BlockParam.{BlockParam}
use Rattle.parts.specs.declared.BlockParam.TheVariants.{None, Single, Pair}

-- Segments

abbrev pub segment_at : Bits → ℕ → rule-path.PathSeg
segment_at b p = value rule-path.path_up seg b p

-- n segments from p on
abbrev pub segments_at : ℕ → Bits → ℕ → List rule-path.PathSeg
segments_at n b p = value [] (row seg n) b p

abbrev pub segment_says : Bits → Segment → rule-path.PathSeg
segment_says b (Named q z) = rule-path.named (text_at b q)
segment_says b (Root z) = rule-path.path-root
segment_says b (Up z) = rule-path.path_up

abbrev pub segment_next : Segment → ℕ
segment_next (Named q z) = z
segment_next (Root z) = z
segment_next (Up z) = z

abbrev pub SegmentHolds : Bits → Segment → Type 0
SegmentHolds b (Named q z) = Holds string b q
SegmentHolds b (Root z) = Unit {0}
SegmentHolds b (Up z) = Unit {0}

pub record SegmentStands (b : Bits) (p : ℕ) (v : Segment) : Type 0 where
  pub is : segment_at b p ≡ segment_says b v
  pub next : segment_next v ≡ end seg b p
  pub parts : SegmentHolds b v

pub segment_stands : (b : Bits) (p : ℕ) → Holds seg b p → SegmentStands b p (segment_view b p)
segment_stands b p H = at (field b 2 p) refl
  where
    at : (k : ℕ) → field b 2 p ≡ k → SegmentStands b p (segment_of b (p + 2) k)
    at zero e =
        let m = seg_named b p H e in
        record { is = value_is rule-path.path_up H ∙ sym (ap rule-path.named (string_found b (p + 2) m.inner) ∙ m.is); next = m.ends; parts = m.inner }
    at (suc zero) e = let m = seg_root b p H e in record { is = value_is rule-path.path_up H ∙ sym m.1; next = m.0; parts = tt }
    at (suc (suc zero)) e = let m = seg_up b p H e in record { is = value_is rule-path.path_up H ∙ sym m.1; next = m.0; parts = tt }
    at (suc (suc (suc k))) e = seg_never b p H k e

pub segment_read : (b : Bits) (p : ℕ) → Holds seg b p → (v : Segment) → v ≡ segment_view b p → SegmentStands b p v
segment_read b p H v e = subst (SegmentStands b p) (sym e) (segment_stands b p H)

-- Paths

abbrev pub path_at : Bits → ℕ → rule-path.Path
path_at b p = value rule-path.current path b p

abbrev pub path_says : Bits → ℕ → Path → rule-path.Path
path_says b p (Relative n q) = rule-path.relative (text_at b p) (segments_at n b q)
path_says b p (Local n q) = rule-path.local (text_at b p) n (text_at b q)

abbrev pub PathHolds : Bits → Path → Type 0
PathHolds b (Relative n q) = Holds (row seg n) b q
PathHolds b (Local n q) = Holds string b q

pub record PathStands (b : Bits) (p : ℕ) (v : Path) : Type 0 where
  pub raw : Holds string b p
  pub is : path_at b p ≡ path_says b p v
  pub parts : PathHolds b v

pub path_stands : (b : Bits) (p : ℕ) → Holds path b p → PathStands b p (path_view b p)
path_stands b p H = at (field b 1 (end string b p)) refl
  where
    at : (k : ℕ) → field b 1 (end string b p) ≡ k → PathStands b p (path_of b (end string b p + 1) k)
    at zero e =
        let m = path_relative b p H e in
        let c = counted_holds 8 seg b (end string b p + 1) m.inner in
        record {
          raw = path_raw b p H;
          is = value_is rule-path.current H ∙ sym (rw (string_found b p (path_raw b p H), value_is [] c.inner, c.is) m.is);
          parts = c.inner;
        }
    at (suc zero) e =
        let m = path_local b p H e in
        let n = level_name b (end string b p + 1) m.inner in
        record {
          raw = path_raw b p H;
          is = value_is rule-path.current H ∙ sym (rw (string_found b p (path_raw b p H), level_is b (end string b p + 1) m.inner, string_found b (end string b p + 1 + 8) n.inner, n.is) m.is);
          parts = n.inner;
        }
    at (suc (suc k)) e = path_never b p H k e

pub path_read : (b : Bits) (p : ℕ) → Holds path b p → (v : Path) → v ≡ path_view b p → PathStands b p v
path_read b p H v e = subst (PathStands b p) (sym e) (path_stands b p H)

-- the raw text, whatever kind of path it is
pub path_raw_is : (b : Bits) (p : ℕ) → Holds path b p → rule-path.raw (path_at b p) ≡ text_at b p
path_raw_is b p H = ap rule-path.raw (path_stands b p H).is ∙ at (path_view b p)
  where
    at : (v : Path) → rule-path.raw (path_says b p v) ≡ text_at b p
    at (Relative n q) = refl
    at (Local n q) = refl

-- Literals

abbrev pub literal_at : Bits → ℕ → rule.Literal
literal_at b p = value rule.null literal b p

abbrev pub literal_says : Bits → Literal → rule.Literal
literal_says b Null = rule.null
literal_says b (Boolean t) = rule.boolean t
literal_says b (Unsigned n) = rule.unsigned n
literal_says b (Negative n) = rule.negative n
literal_says b (String q) = rule.string (text_at b q)

abbrev pub LiteralHolds : Bits → Literal → Type 0
LiteralHolds b Null = Unit {0}
LiteralHolds b (Boolean t) = Unit {0}
LiteralHolds b (Unsigned n) = Unit {0}
LiteralHolds b (Negative n) = Unit {0}
LiteralHolds b (String q) = Holds string b q

pub record LiteralStands (b : Bits) (p : ℕ) (v : Literal) : Type 0 where
  pub is : literal_at b p ≡ literal_says b v
  pub parts : LiteralHolds b v

pub literal_stands : (b : Bits) (p : ℕ) → Holds literal b p → LiteralStands b p (literal_view b p)
literal_stands b p H = at (field b 3 p) refl
  where
    here : {x : rule.Literal} → x ≡ H.found → literal_at b p ≡ x
    here e = value_is rule.null H ∙ sym e

    at : (k : ℕ) → field b 3 p ≡ k → LiteralStands b p (literal_of b (p + 3) k)
    at zero e = record { is = here (literal_null b p H e).1; parts = tt }
    at (suc zero) e = record { is = here (literal_false b p H e).1; parts = tt }
    at (suc (suc zero)) e = record { is = here (literal_true b p H e).1; parts = tt }
    at (suc (suc (suc zero))) e =
        let m = literal_unsigned b p H e in
        record { is = here (ap rule.unsigned (num_holds 64 b (p + 3) m.inner).1 ∙ m.is); parts = tt }
    at (suc (suc (suc (suc zero)))) e =
        let m = literal_negative b p H e in
        record { is = here (ap rule.negative (below_zero_number b (p + 3) m.inner).1 ∙ m.is); parts = tt }
    at (suc (suc (suc (suc (suc zero))))) e =
        let m = literal_string b p H e in
        record { is = here (ap rule.string (string_found b (p + 3) m.inner) ∙ m.is); parts = m.inner }
    at (suc (suc (suc (suc (suc (suc k)))))) e = literal_never b p H k e

pub literal_read : (b : Bits) (p : ℕ) → Holds literal b p → (v : Literal) → v ≡ literal_view b p → LiteralStands b p v
literal_read b p H v e = subst (LiteralStands b p) (sym e) (literal_stands b p H)

-- Block names

abbrev pub names_at : Bits → ℕ → rule.BlockParam
names_at b p = value rule.no_names block_names b p

abbrev pub names_says : Bits → BlockParam → rule.BlockParam
names_says b None = rule.no_names
names_says b (Single q) = rule.single (text_at b q)
names_says b (Pair q r) = rule.pair (text_at b q) (text_at b r)

abbrev pub NamesHold : Bits → BlockParam → Type 0
NamesHold b None = Unit {0}
NamesHold b (Single q) = Holds string b q
NamesHold b (Pair q r) = Holds string b q × Holds string b r

pub record NamesStand (b : Bits) (p : ℕ) (v : BlockParam) : Type 0 where
  pub is : names_at b p ≡ names_says b v
  pub parts : NamesHold b v

pub names_stand : (b : Bits) (p : ℕ) → Holds block_names b p → NamesStand b p (names_view b p)
names_stand b p H = at (field b 2 p) refl
  where
    here : {x : rule.BlockParam} → x ≡ H.found → names_at b p ≡ x
    here e = value_is rule.no_names H ∙ sym e

    at : (k : ℕ) → field b 2 p ≡ k → NamesStand b p (names_of b (p + 2) k)
    at zero e = record { is = here (names_none b p H e).1; parts = tt }
    at (suc zero) e = let m = names_one b p H e in record { is = here (ap rule.single (string_found b (p + 2) m.inner) ∙ m.is); parts = m.inner }
    at (suc (suc zero)) e =
        let m = names_two b p H e in
        record {
          is = here (rw (string_found b (p + 2) m.0, string_found b (end string b (p + 2)) m.1.inner) m.1.is);
          parts = (m.0, m.1.inner);
        }
    at (suc (suc (suc k))) e = names_never b p H k e

pub names_read : (b : Bits) (p : ℕ) → Holds block_names b p → (v : BlockParam) → v ≡ names_view b p → NamesStand b p v
names_read b p H v e = subst (NamesStand b p) (sym e) (names_stand b p H)

-- Indents: a bit and a string

abbrev pub MaybeHolds : {A : Type 0} → Layout A → Bits → RustOption ℕ → Type 0
MaybeHolds c b (Some q) = Holds c b q
MaybeHolds c b None = Unit {0}

abbrev pub indent_at : Bits → ℕ → Option Bytes
indent_at b p = value none indent b p

abbrev pub indent_says : Bits → RustOption ℕ → Option Bytes
indent_says b (Some q) = some (text_at b q)
indent_says b None = none

pub record IndentStands (b : Bits) (p : ℕ) (v : RustOption ℕ) : Type 0 where
  pub is : indent_at b p ≡ indent_says b v
  pub parts : MaybeHolds string b v

pub indent_stands : (b : Bits) (p : ℕ) → Holds indent b p → IndentStands b p (maybe_view b p)
indent_stands b p H = at (field b 1 p) refl
  where
    at : (k : ℕ) → field b 1 p ≡ k → IndentStands b p (maybe_of (p + 1) k)
    at zero e = record { is = value_is none H ∙ sym (indent_none b p H e).1; parts = tt }
    at (suc k) e =
        let f : field b 1 p ≡ 1 = indent_there b p H (λ z. let y : ◌≡◌ {A = ℕ} 0 1 = cc in absurd (omega arith)) in
        let m = indent_some b p H f in
        record { is = value_is none H ∙ sym (ap some (string_found b (p + 1) m.inner) ∙ m.is); parts = m.inner }

pub indent_read : (b : Bits) (p : ℕ) → Holds indent b p → (v : RustOption ℕ) → v ≡ maybe_view b p → IndentStands b p v
indent_read b p H v e = subst (IndentStands b p) (sym e) (indent_stands b p H)
