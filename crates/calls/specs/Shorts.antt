-- Calls by their name: a string alone, a string and one path, or a string and more.
use Rattle.std.specs.Prelude.{ℕ, ◌+◌, ◌*◌, ◌/◌, ◌≤◌, Bool, true, false, ◌≡◌, refl, eqb, ltb}
use Rattle.std.proofs.Common.{sym, ap, ◌∙◌, subst, arith, eqb-true, ltb-false}
use Rattle.rules.specs.Bytes.{pick}
use Rattle.rules.specs.Template as rule
use Rattle.rules.specs.Bits.{Bits}
use Rattle.rules.specs.Layout.{field}
use Rattle.rules.specs.LayoutLaws.{Binary, field_lt}
use Rattle.rules.specs.Bundle.{string, path, param, call_of}
use Rattle.bits.specs.Fields.{field_append}
use Rattle.layout.specs.Text.{text_at}
use Rattle.parts.specs.Holds.{Holds, end, row}
use Rattle.parts.specs.HoldsLaws.{More, more_holds, counted_holds, moved, none_left, string_end}
use Rattle.parts.specs.Says.{path_at}
use Rattle.calls.specs.declared.Parameter.TheVariants.{Name, Path}
use Rattle.calls.specs.declared.Short.{Short}
use Rattle.calls.specs.declared.Short.TheVariants.{Bare, One, Named, Other}
use Rattle.calls.specs.Calls.{param_of, param_name, param_path, param_at, ParamStands, param_read, call_at, name_end, params_end, behind_view, call_view, call_name, call_params, call_fits}
use Rattle.calls.specs.Calls.{bare_call, call_stands, params_at, hash_at, no_params, params_more, no_hash}

-- behind the string of a name
abbrev pub short_end : Bits → ℕ → ℕ
short_end b p = p + 18 + 8 * field b 18 p

abbrev pub short_view : ℕ → Bits → ℕ → Short
short_view d b p =
    pick (ltb 65535 (field b 18 p)) Other
    (pick (eqb (field b 8 (short_end b p)) 0) (Bare (p + 2))
    (pick (eqb (field b 8 (short_end b p) / 4) 5)
    (pick (eqb (field b 4 (end path b (short_end b p + 6))) 0) (One (p + 2) (short_end b p + 6)) (Named (p + 2) (behind_view d b (short_end b p))))
    (Named (p + 2) (behind_view d b (short_end b p)))))

-- what it says, and its parts stand
abbrev pub ShortIs : ℕ → Bits → ℕ → Short → Type 0
ShortIs d b p (Bare q) = (call_at d b p ≡ rule.call (rule.name (text_at b q)) rule.pnil rule.hnil) × Holds string b q
ShortIs d b p (One q v) =
    (call_at d b p ≡ rule.call (rule.name (text_at b q)) (rule.pcons (rule.path (path_at b v)) rule.pnil) rule.hnil) × Holds string b q × Holds path b v
ShortIs d b p (Named q c) = (c ≡ call_view d b p) × (param_at d b p ≡ rule.name (text_at b q)) × Holds string b q
ShortIs d b p Other = Unit {0}

-- x is the kind of a call's name and, behind that, the count of its string
module _ (d : ℕ) (b : Bits) (bin : Binary b) (p : ℕ) (H : Holds (call_of (param d)) b p) (x : ℕ) (hx : x ≡ field b 18 p) (lo : x ≤ 65535) where
  kind_and_count : x ≡ field b 2 p * 65536 + field b 16 (p + 2)
  kind_and_count = hx ∙ field_append b 2 16 p

  is_name : field b 2 p ≡ 0
  is_name = omega (arith, kind_and_count, lo)

  pub short_ends : (p + 18 + 8 * x ≡ name_end d b p) × (p + 18 + 8 * x + 4 ≤ b.size)
  short_ends =
      let m = param_name d b p (call_name d b p H) is_name in
      let c : field b 16 (p + 2) ≡ x = omega (arith, kind_and_count, is_name) in
      let z : p + 18 + 8 * x ≡ end string b (p + 2) = omega (arith, c, string_end b (p + 2) m.inner) in
      let e : p + 18 + 8 * x ≡ name_end d b p = z ∙ m.ends in
      (e, omega (arith, e, (call_fits d b p H).0))

  name_read : ParamStands d b p (Name (p + 2))
  name_read = param_read d b p (call_name d b p H) (Name (p + 2)) (ap (param_of (p + 2)) (sym is_name))

  -- the parameters and pairs of a call with that name
  said : (n m : ℕ) → (call_view d b p).params ≡ n → (call_view d b p).pairs ≡ m
      → call_at d b p ≡ rule.call (rule.name (text_at b (p + 2))) (params_at d n b (name_end d b p + 4)) (hash_at d m b (params_end d b p + 4))
  said n m e f =
      (call_stands d b p H).is
      ∙ ap (λ y. rule.call y (params_at d (call_view d b p).params b (name_end d b p + 4)) (hash_at d (call_view d b p).pairs b (params_end d b p + 4))) name_read.is
      ∙ ap (λ (k : ℕ). rule.call (rule.name (text_at b (p + 2))) (params_at d k b (name_end d b p + 4)) (hash_at d (call_view d b p).pairs b (params_end d b p + 4))) e
      ∙ ap (λ (k : ℕ). rule.call (rule.name (text_at b (p + 2))) (params_at d n b (name_end d b p + 4)) (hash_at d k b (params_end d b p + 4))) f

  bare_is : field b 8 (p + 18 + 8 * x) ≡ 0 → ShortIs d b p (Bare (p + 2))
  bare_is h =
      let c = bare_call d b p H (sym (ap (field b 8) short_ends.0) ∙ h) in (
        said 0 0 c.0 c.1
            ∙ ap (λ y. rule.call (rule.name (text_at b (p + 2))) y (hash_at d 0 b (params_end d b p + 4))) (no_params d b (name_end d b p + 4))
            ∙ ap (rule.call (rule.name (text_at b (p + 2))) rule.pnil) (no_hash d b (params_end d b p + 4)),
        name_read.parts,
      )

  named_is : ShortIs d b p (Named (p + 2) (behind_view d b (p + 18 + 8 * x)))
  named_is = (ap (behind_view d b) short_ends.0, name_read.is, name_read.parts)

  -- one parameter, which is a path
  module _ (y : ℕ) (hy : y ≡ field b 8 (p + 18 + 8 * x)) (h : y / 4 ≡ 5) where
    counts : y ≡ field b 4 (name_end d b p) * 16 + field b 4 (name_end d b p + 4)
    counts = hy ∙ ap (field b 8) short_ends.0 ∙ field_append b 4 4 (name_end d b p)

    kind_first : field b 4 (name_end d b p + 4) ≡ field b 2 (name_end d b p + 4) * 4 + field b 2 (name_end d b p + 4 + 2)
    kind_first = field_append b 2 2 (name_end d b p + 4)

    only : field b 4 (name_end d b p) ≡ 1
    only = omega (arith, counts, h, field_lt b bin 4 (name_end d b p + 4))

    is_path : field b 2 (name_end d b p + 4) ≡ 1
    is_path = omega (arith, counts, only, h, kind_first, field_lt b bin 2 (name_end d b p + 4 + 2))

    row_only : Holds (row (param d) 1) b (name_end d b p + 4)
    row_only = subst (λ (n : ℕ). Holds (row (param d) n) b (name_end d b p + 4)) only (call_stands d b p H).params

    more : More (param d) 0 b (name_end d b p + 4) row_only.found (end (row (param d) 1) b (name_end d b p + 4))
    more = more_holds (param d) 0 b (name_end d b p + 4) row_only

    place : name_end d b p + 4 + 2 ≡ p + 18 + 8 * x + 6
    place = omega (arith, short_ends.0)

    path_here : ParamStands d b (name_end d b p + 4) (Path (name_end d b p + 4 + 2))
    path_here = param_read d b (name_end d b p + 4) more.first (Path (name_end d b p + 4 + 2)) (ap (param_of (name_end d b p + 4 + 2)) (sym is_path))

    pub only_path : Holds path b (p + 18 + 8 * x + 6)
    only_path = moved path b _ _ place path_here.parts

    pub only_fits : p + 18 + 8 * x + 6 ≤ b.size
    only_fits = omega (arith, place, path_here.fits)

    behind_only : end path b (p + 18 + 8 * x + 6) ≡ params_end d b p
    behind_only =
        sym (ap (end path b) place)
        ∙ (param_path d b (name_end d b p + 4) more.first is_path).ends
        ∙ sym (none_left (param d) b (end (param d) b (name_end d b p + 4)))
        ∙ more.ends
        ∙ sym (ap (λ (n : ℕ). end (row (param d) n) b (name_end d b p + 4)) only)
        ∙ (counted_holds 4 (param d) b (name_end d b p) (call_params d b p H)).ends

    one_is : field b 4 (end path b (p + 18 + 8 * x + 6)) ≡ 0 → ShortIs d b p (One (p + 2) (p + 18 + 8 * x + 6))
    one_is e = (
      said 1 0 only (sym (ap (field b 4) behind_only) ∙ e)
          ∙ ap (λ y. rule.call (rule.name (text_at b (p + 2))) y (hash_at d 0 b (params_end d b p + 4))) (params_more d 0 b (name_end d b p + 4) row_only)
          ∙ ap (λ y. rule.call (rule.name (text_at b (p + 2))) (rule.pcons (param_at d b (name_end d b p + 4)) y) (hash_at d 0 b (params_end d b p + 4))) (no_params d b (end (param d) b (name_end d b p + 4)))
          ∙ ap (λ y. rule.call (rule.name (text_at b (p + 2))) (rule.pcons y rule.pnil) (hash_at d 0 b (params_end d b p + 4))) path_here.is
          ∙ ap (λ (k : ℕ). rule.call (rule.name (text_at b (p + 2))) (rule.pcons (rule.path (path_at b k)) rule.pnil) (hash_at d 0 b (params_end d b p + 4))) place
          ∙ ap (rule.call (rule.name (text_at b (p + 2))) (rule.pcons (rule.path (path_at b (p + 18 + 8 * x + 6))) rule.pnil)) (no_hash d b (params_end d b p + 4)),
      name_read.parts,
      only_path,
    )

module _ (d : ℕ) (b : Bits) (bin : Binary b) (p : ℕ) (H : Holds (call_of (param d)) b p) where
  pub short_stands : ShortIs d b p (short_view d b p)
  short_stands = by_name (ltb 65535 (field b 18 p)) refl
    where
      by_pairs : field b 18 p ≤ 65535 → field b 8 (short_end b p) / 4 ≡ 5 → (t : Bool) → eqb (field b 4 (end path b (short_end b p + 6))) 0 ≡ t
          → ShortIs d b p (pick t (One (p + 2) (short_end b p + 6)) (Named (p + 2) (behind_view d b (short_end b p))))
      by_pairs lo h true e = one_is d b bin p H (field b 18 p) refl lo (field b 8 (short_end b p)) refl h (eqb-true _ _ e)
      by_pairs lo h false e = named_is d b bin p H (field b 18 p) refl lo

      by_first : field b 18 p ≤ 65535 → (t : Bool) → eqb (field b 8 (short_end b p) / 4) 5 ≡ t
          → ShortIs d b p (pick t (pick (eqb (field b 4 (end path b (short_end b p + 6))) 0) (One (p + 2) (short_end b p + 6)) (Named (p + 2) (behind_view d b (short_end b p)))) (Named (p + 2) (behind_view d b (short_end b p))))
      by_first lo true e = by_pairs lo (eqb-true _ _ e) (eqb (field b 4 (end path b (short_end b p + 6))) 0) refl
      by_first lo false e = named_is d b bin p H (field b 18 p) refl lo

      by_counts : field b 18 p ≤ 65535 → (t : Bool) → eqb (field b 8 (short_end b p)) 0 ≡ t
          → ShortIs d b p (pick t (Bare (p + 2)) (pick (eqb (field b 8 (short_end b p) / 4) 5) (pick (eqb (field b 4 (end path b (short_end b p + 6))) 0) (One (p + 2) (short_end b p + 6)) (Named (p + 2) (behind_view d b (short_end b p)))) (Named (p + 2) (behind_view d b (short_end b p)))))
      by_counts lo true e = bare_is d b bin p H (field b 18 p) refl lo (eqb-true _ _ e)
      by_counts lo false e = by_first lo (eqb (field b 8 (short_end b p) / 4) 5) refl

      by_name : (t : Bool) → ltb 65535 (field b 18 p) ≡ t
          → ShortIs d b p (pick t Other (pick (eqb (field b 8 (short_end b p)) 0) (Bare (p + 2)) (pick (eqb (field b 8 (short_end b p) / 4) 5) (pick (eqb (field b 4 (end path b (short_end b p + 6))) 0) (One (p + 2) (short_end b p + 6)) (Named (p + 2) (behind_view d b (short_end b p)))) (Named (p + 2) (behind_view d b (short_end b p))))))
      by_name true e = tt
      by_name false e = by_counts (ltb-false _ _ e) (eqb (field b 8 (short_end b p)) 0) refl

  pub short_read : (v : Short) → v ≡ short_view d b p → ShortIs d b p v
  short_read v e = subst (ShortIs d b p) (sym e) short_stands
