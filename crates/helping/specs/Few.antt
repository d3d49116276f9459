-- Calls whose name is a string, with no hash and few parameters: a path alone, or a path and behind it a literal.
use Rattle.std.specs.Prelude.{ℕ, suc, ◌+◌, ◌*◌, ◌≤◌, Bool, true, false, ◌≡◌, refl, eqb, ltb}
use Rattle.std.proofs.Common.{sym, ap, ◌∙◌, subst, arith, eqb-true, ltb-false}
use Rattle.rules.specs.Bytes.{pick}
use Rattle.rules.specs.Template as rule
use Rattle.rules.specs.Bits.{Bits}
use Rattle.rules.specs.Layout.{Layout, field, ◌then◌, counted}
use Rattle.rules.specs.LayoutLaws.{Binary, field_lt}
use Rattle.rules.specs.Bundle.{string, path, ascending, literal, param, call_of}
use Rattle.bits.specs.Fields.{field_append}
use Rattle.layout.specs.Text.{text_at}
use Rattle.parts.specs.Holds.{Holds, end, row}
use Rattle.parts.specs.HoldsLaws.{More, more_holds, counted_holds, tested_holds, moved, none_left}
use Rattle.parts.specs.Says.{path_at, literal_at}
use Rattle.calls.specs.declared.Parameter.TheVariants.{Name, Path, Literal}
use Rattle.calls.specs.Calls.{param_of, param_path, param_literal, param_at, param_fits, ParamStands, param_read, call_at, name_end, params_end, call_view, call_name, call_params}
use Rattle.calls.specs.Calls.{call_end, call_fits, call_pairs, call_stands, params_at, hash_at, no_params, params_more, no_hash}
use Rattle.calls.specs.Shorts.{short_end, short_ends}
use Rattle.helping.specs.declared.Few.{Few}
use Rattle.helping.specs.declared.Few.TheVariants.{One, Two, Other}

-- the path at v is not the only parameter: behind it a literal, and no pairs
abbrev pub second_view : Bits → ℕ → Few
second_view b v =
    pick (eqb (field b 2 (end path b v)) 2)
    (pick (eqb (field b 4 (end literal b (end path b v + 2))) 0) (Two v (end path b v + 2)) Other)
    Other

-- there stands a path, and behind it a parameter that is a literal if its kind is 2
pub record SecondHolds (b : Bits) (v : ℕ) : Type 0 where
  pub here : Holds path b v
  pub fits : end path b v + 2 ≤ b.size
  pub literal_behind : field b 2 (end path b v) ≡ 2 → Holds literal b (end path b v + 2)

-- behind the name stand the count of parameters and the first one's kind, 4 bits and 2: 5 is one path, and 9 is a path and one more
abbrev pub few_view : Bits → ℕ → Few
few_view b p =
    pick (ltb 65535 (field b 18 p)) Other
    (pick (eqb (field b 6 (short_end b p)) 5) (pick (eqb (field b 4 (end path b (short_end b p + 6))) 0) (One (short_end b p + 6)) Other)
    (pick (eqb (field b 6 (short_end b p)) 9) (second_view b (short_end b p + 6)) Other))

-- what it says, and its parts stand
abbrev pub FewIs : ℕ → Bits → ℕ → Few → Type 0
FewIs d b p (One v) =
    (call_at d b p ≡ rule.call (rule.name (text_at b (p + 2))) (rule.pcons (rule.path (path_at b v)) rule.pnil) rule.hnil) × Holds string b (p + 2) × Holds path b v
FewIs d b p (Two v l) =
    (call_at d b p ≡ rule.call (rule.name (text_at b (p + 2))) (rule.pcons (rule.path (path_at b v)) (rule.pcons (rule.literal (literal_at b l)) rule.pnil)) rule.hnil)
    × Holds string b (p + 2)
    × Holds path b v
    × Holds literal b l
FewIs d b p Other = Unit {0}

-- the same, where the second parameter is the path at l
abbrev pub PathsAre : ℕ → Bits → ℕ → ℕ → ℕ → Type 0
PathsAre d b p v l =
    (call_at d b p ≡ rule.call (rule.name (text_at b (p + 2))) (rule.pcons (rule.path (path_at b v)) (rule.pcons (rule.path (path_at b l)) rule.pnil)) rule.hnil)
    × Holds string b (p + 2)
    × Holds path b v
    × Holds path b l

-- x is the kind of a call's name and, behind that, the count of its string
module _ (d : ℕ) (b : Bits) (bin : Binary b) (p : ℕ) (H : Holds (call_of (param d)) b p) (x : ℕ) (hx : x ≡ field b 18 p) (lo : x ≤ 65535) where
  name_here : ParamStands d b p (Name (p + 2))
  name_here =
      let k : x ≡ field b 2 p * 65536 + field b 16 (p + 2) = hx ∙ field_append b 2 16 p in
      let z : field b 2 p ≡ 0 = omega (arith, k, lo) in
      param_read d b p (call_name d b p H) (Name (p + 2)) (ap (param_of (p + 2)) (sym z))

  -- one parameter and n behind it; the first is a path
  module _ (n : ℕ) (h : field b 6 (p + 18 + 8 * x) ≡ suc n * 4 + 1) where
    counts : suc n * 4 + 1 ≡ field b 4 (name_end d b p) * 4 + field b 2 (name_end d b p + 4)
    counts = sym h ∙ ap (field b 6) (short_ends d b bin p H x hx lo).0 ∙ field_append b 4 2 (name_end d b p)

    count : field b 4 (name_end d b p) ≡ suc n
    count = omega (arith, counts, field_lt b bin 2 (name_end d b p + 4))

    is_path : field b 2 (name_end d b p + 4) ≡ 1
    is_path = omega (arith, counts, count)

    row_here : Holds (row (param d) (suc n)) b (name_end d b p + 4)
    row_here = subst (λ (k : ℕ). Holds (row (param d) k) b (name_end d b p + 4)) count (call_stands d b p H).params

    more : More (param d) n b (name_end d b p + 4) row_here.found (end (row (param d) (suc n)) b (name_end d b p + 4))
    more = more_holds (param d) n b (name_end d b p + 4) row_here

    place : name_end d b p + 4 + 2 ≡ p + 18 + 8 * x + 6
    place = omega (arith, (short_ends d b bin p H x hx lo).0)

    path_here : ParamStands d b (name_end d b p + 4) (Path (name_end d b p + 4 + 2))
    path_here = param_read d b (name_end d b p + 4) more.first (Path (name_end d b p + 4 + 2)) (ap (param_of (name_end d b p + 4 + 2)) (sym is_path))

    pub first_path : Holds path b (p + 18 + 8 * x + 6)
    first_path = moved path b _ _ place path_here.parts

    pub first_fits : p + 18 + 8 * x + 6 ≤ b.size
    first_fits = omega (arith, place, path_here.fits)

    behind_first : end path b (p + 18 + 8 * x + 6) ≡ end (param d) b (name_end d b p + 4)
    behind_first = sym (ap (end path b) place) ∙ (param_path d b (name_end d b p + 4) more.first is_path).ends

    -- the row of parameters ends where its last one does
    row_end : end (row (param d) n) b (end (param d) b (name_end d b p + 4)) ≡ params_end d b p
    row_end =
        more.ends
        ∙ sym (ap (λ (k : ℕ). end (row (param d) k) b (name_end d b p + 4)) count)
        ∙ (counted_holds 4 (param d) b (name_end d b p) (call_params d b p H)).ends

    said : (call_view d b p).pairs ≡ 0
        → call_at d b p
        ≡ rule.call (rule.name (text_at b (p + 2))) (rule.pcons (rule.path (path_at b (p + 18 + 8 * x + 6))) (params_at d n b (end (param d) b (name_end d b p + 4)))) rule.hnil
    said e =
        (call_stands d b p H).is
        ∙ ap (λ y. rule.call y (params_at d (field b 4 (name_end d b p)) b (name_end d b p + 4)) (hash_at d (call_view d b p).pairs b (params_end d b p + 4))) name_here.is
        ∙ ap (λ (k : ℕ). rule.call (rule.name (text_at b (p + 2))) (params_at d k b (name_end d b p + 4)) (hash_at d (call_view d b p).pairs b (params_end d b p + 4))) count
        ∙ ap (λ y. rule.call (rule.name (text_at b (p + 2))) y (hash_at d (call_view d b p).pairs b (params_end d b p + 4))) (params_more d n b (name_end d b p + 4) row_here)
        ∙ ap (λ (k : ℕ). rule.call (rule.name (text_at b (p + 2))) (rule.pcons (param_at d b (name_end d b p + 4)) (params_at d n b (end (param d) b (name_end d b p + 4)))) (hash_at d k b (params_end d b p + 4))) e
        ∙ ap (rule.call (rule.name (text_at b (p + 2))) (rule.pcons (param_at d b (name_end d b p + 4)) (params_at d n b (end (param d) b (name_end d b p + 4))))) (no_hash d b (params_end d b p + 4))
        ∙ ap (λ y. rule.call (rule.name (text_at b (p + 2))) (rule.pcons y (params_at d n b (end (param d) b (name_end d b p + 4)))) rule.hnil) path_here.is
        ∙ ap (λ (k : ℕ). rule.call (rule.name (text_at b (p + 2))) (rule.pcons (rule.path (path_at b k)) (params_at d n b (end (param d) b (name_end d b p + 4)))) rule.hnil) place

  one_is : field b 6 (p + 18 + 8 * x) ≡ 5 → field b 4 (end path b (p + 18 + 8 * x + 6)) ≡ 0 → FewIs d b p (One (p + 18 + 8 * x + 6))
  one_is h e =
      let u = end (param d) b (name_end d b p + 4) in
      let z : end path b (p + 18 + 8 * x + 6) ≡ params_end d b p = behind_first 0 h ∙ sym (none_left (param d) b u) ∙ row_end 0 h in (
        said 0 h (sym (ap (field b 4) z) ∙ e)
            ∙ ap (λ y. rule.call (rule.name (text_at b (p + 2))) (rule.pcons (rule.path (path_at b (p + 18 + 8 * x + 6))) y) rule.hnil) (no_params d b u),
        name_here.parts,
        first_path 0 h,
      )

  -- where there are no pairs, the call ends behind their count
  no_pairs_end : (u : ℕ) → u ≡ params_end d b p → field b 4 u ≡ 0 → (u + 4 ≡ end (call_of (param d)) b p) × (u + 4 ≤ b.size)
  no_pairs_end u z e =
      let q = params_end d b p in
      let t = tested_holds ascending (counted 4 (string then param d)) b q (call_pairs d b p H) in
      let k : field b 4 q ≡ 0 = sym (ap (field b 4) z) ∙ e in (
        ap (λ (m : ℕ). m + 4) z
            ∙ sym (none_left (string then param d) b (q + 4))
            ∙ sym (ap (λ (m : ℕ). end (row (string then param d) m) b (q + 4)) k)
            ∙ (counted_holds 4 (string then param d) b q t.inner).ends
            ∙ t.ends
            ∙ call_end d b p H,
        omega (arith, z, (call_fits d b p H).1),
      )

  pub one_ends : field b 6 (p + 18 + 8 * x) ≡ 5 → field b 4 (end path b (p + 18 + 8 * x + 6)) ≡ 0
      → (end path b (p + 18 + 8 * x + 6) + 4 ≡ end (call_of (param d)) b p) × (end path b (p + 18 + 8 * x + 6) + 4 ≤ b.size)
  one_ends h e =
      no_pairs_end (end path b (p + 18 + 8 * x + 6)) (behind_first 0 h ∙ sym (none_left (param d) b (end (param d) b (name_end d b p + 4))) ∙ row_end 0 h) e

  -- a path and one parameter more
  module _ (h : field b 6 (p + 18 + 8 * x) ≡ 9) where
    abbrev u : ℕ
    u = end (param d) b (name_end d b p + 4)

    last : More (param d) 0 b u (more 1 h).rest.found (end (row (param d) 1) b u)
    last = more_holds (param d) 0 b u (more 1 h).rest

    second_fits : end path b (p + 18 + 8 * x + 6) + 2 ≤ b.size
    second_fits = omega (arith, behind_first 1 h, param_fits d b u last.first)

    abbrev e : ℕ
    e = end path b (p + 18 + 8 * x + 6)

    there : u + 2 ≡ e + 2
    there = sym (ap (λ (m : ℕ). m + 2) (behind_first 1 h))

    -- its content stands as the layout X has it and ends it, and y is what it says
    module _ {A : Type 0} (X : Layout A) (y : ℕ → rule.Parameter) (here : Holds X b (u + 2)) (ends : end X b (u + 2) ≡ end (param d) b u) (is : param_at d b u ≡ y (u + 2)) where
      behind_second : end X b (e + 2) ≡ params_end d b p
      behind_second = sym (ap (end X b) there) ∙ ends ∙ sym (none_left (param d) b (end (param d) b u)) ∙ last.ends ∙ row_end 1 h

      two_said : field b 4 (end X b (e + 2)) ≡ 0 → call_at d b p ≡ rule.call (rule.name (text_at b (p + 2))) (rule.pcons (rule.path (path_at b (p + 18 + 8 * x + 6))) (rule.pcons (y (e + 2)) rule.pnil)) rule.hnil
      two_said z =
          said 1 h (sym (ap (field b 4) behind_second) ∙ z)
          ∙ ap (λ k. rule.call (rule.name (text_at b (p + 2))) (rule.pcons (rule.path (path_at b (p + 18 + 8 * x + 6))) k) rule.hnil) (params_more d 0 b u (more 1 h).rest)
          ∙ ap (λ k. rule.call (rule.name (text_at b (p + 2))) (rule.pcons (rule.path (path_at b (p + 18 + 8 * x + 6))) (rule.pcons (param_at d b u) k)) rule.hnil) (no_params d b (end (param d) b u))
          ∙ ap (λ k. rule.call (rule.name (text_at b (p + 2))) (rule.pcons (rule.path (path_at b (p + 18 + 8 * x + 6))) (rule.pcons k rule.pnil)) rule.hnil) is
          ∙ ap (λ (m : ℕ). rule.call (rule.name (text_at b (p + 2))) (rule.pcons (rule.path (path_at b (p + 18 + 8 * x + 6))) (rule.pcons (y m) rule.pnil)) rule.hnil) there

      two_end : field b 4 (end X b (e + 2)) ≡ 0 → (end X b (e + 2) + 4 ≡ end (call_of (param d)) b p) × (end X b (e + 2) + 4 ≤ b.size)
      two_end z = no_pairs_end (end X b (e + 2)) behind_second z

    -- a literal
    module _ (k : field b 2 (end path b (p + 18 + 8 * x + 6)) ≡ 2) where
      is_literal : field b 2 u ≡ 2
      is_literal = sym (ap (field b 2) (behind_first 1 h)) ∙ k

      literal_here : ParamStands d b u (Literal (u + 2))
      literal_here = param_read d b u last.first (Literal (u + 2)) (ap (param_of (u + 2)) (sym is_literal))

      abbrev literal_says : ℕ → rule.Parameter
      literal_says m = rule.literal (literal_at b m)

      literal_ends : end literal b (u + 2) ≡ end (param d) b u
      literal_ends = (param_literal d b u last.first is_literal).ends

      pub second_literal : Holds literal b (end path b (p + 18 + 8 * x + 6) + 2)
      second_literal = moved literal b _ _ there literal_here.parts

      pub two_is : field b 4 (end literal b (end path b (p + 18 + 8 * x + 6) + 2)) ≡ 0 → FewIs d b p (Two (p + 18 + 8 * x + 6) (end path b (p + 18 + 8 * x + 6) + 2))
      two_is z = (two_said literal literal_says literal_here.parts literal_ends literal_here.is z, name_here.parts, first_path 1 h, second_literal)

      pub two_ends : field b 4 (end literal b (end path b (p + 18 + 8 * x + 6) + 2)) ≡ 0
          → (end literal b (end path b (p + 18 + 8 * x + 6) + 2) + 4 ≡ end (call_of (param d)) b p) × (end literal b (end path b (p + 18 + 8 * x + 6) + 2) + 4 ≤ b.size)
      two_ends z = two_end literal literal_says literal_here.parts literal_ends literal_here.is z

    -- a path
    module _ (k : field b 2 (end path b (p + 18 + 8 * x + 6)) ≡ 1) where
      is_second_path : field b 2 u ≡ 1
      is_second_path = sym (ap (field b 2) (behind_first 1 h)) ∙ k

      second_here : ParamStands d b u (Path (u + 2))
      second_here = param_read d b u last.first (Path (u + 2)) (ap (param_of (u + 2)) (sym is_second_path))

      abbrev path_says : ℕ → rule.Parameter
      path_says m = rule.path (path_at b m)

      path_ends : end path b (u + 2) ≡ end (param d) b u
      path_ends = (param_path d b u last.first is_second_path).ends

      pub second_path : Holds path b (end path b (p + 18 + 8 * x + 6) + 2)
      second_path = moved path b _ _ there second_here.parts

      pub paths_fit : end path b (end path b (p + 18 + 8 * x + 6) + 2) + 4 ≤ b.size
      paths_fit = omega (arith, behind_second path path_says second_here.parts path_ends second_here.is, (call_fits d b p H).1)

      pub paths_are : field b 4 (end path b (end path b (p + 18 + 8 * x + 6) + 2)) ≡ 0 → PathsAre d b p (p + 18 + 8 * x + 6) (end path b (p + 18 + 8 * x + 6) + 2)
      paths_are z = (two_said path path_says second_here.parts path_ends second_here.is z, name_here.parts, first_path 1 h, second_path)

      pub paths_end : field b 4 (end path b (end path b (p + 18 + 8 * x + 6) + 2)) ≡ 0
          → (end path b (end path b (p + 18 + 8 * x + 6) + 2) + 4 ≡ end (call_of (param d)) b p) × (end path b (end path b (p + 18 + 8 * x + 6) + 2) + 4 ≤ b.size)
      paths_end z = two_end path path_says second_here.parts path_ends second_here.is z

    pub second_holds : SecondHolds b (p + 18 + 8 * x + 6)
    second_holds = record { here = first_path 1 h; fits = second_fits; literal_behind = second_literal }

module _ (d : ℕ) (b : Bits) (bin : Binary b) (p : ℕ) (H : Holds (call_of (param d)) b p) where
  abbrev first : ℕ
  first = short_end b p + 6

  few_stands : FewIs d b p (few_view b p)
  few_stands = by_name (ltb 65535 (field b 18 p)) refl
    where
      by_end : field b 18 p ≤ 65535 → field b 6 (short_end b p) ≡ 9 → field b 2 (end path b first) ≡ 2 → (t : Bool) → eqb (field b 4 (end literal b (end path b first + 2))) 0 ≡ t
          → FewIs d b p (pick t (Two first (end path b first + 2)) Other)
      by_end lo h k true e = two_is d b bin p H (field b 18 p) refl lo h k (eqb-true _ _ e)
      by_end lo h k false e = tt

      by_literal : field b 18 p ≤ 65535 → field b 6 (short_end b p) ≡ 9 → (t : Bool) → eqb (field b 2 (end path b first)) 2 ≡ t
          → FewIs d b p (pick t (pick (eqb (field b 4 (end literal b (end path b first + 2))) 0) (Two first (end path b first + 2)) Other) Other)
      by_literal lo h true e = by_end lo h (eqb-true _ _ e) (eqb (field b 4 (end literal b (end path b first + 2))) 0) refl
      by_literal lo h false e = tt

      by_two : field b 18 p ≤ 65535 → (t : Bool) → eqb (field b 6 (short_end b p)) 9 ≡ t → FewIs d b p (pick t (second_view b first) Other)
      by_two lo true e = by_literal lo (eqb-true _ _ e) (eqb (field b 2 (end path b first)) 2) refl
      by_two lo false e = tt

      by_pairs : field b 18 p ≤ 65535 → field b 6 (short_end b p) ≡ 5 → (t : Bool) → eqb (field b 4 (end path b first)) 0 ≡ t → FewIs d b p (pick t (One first) Other)
      by_pairs lo h true e = one_is d b bin p H (field b 18 p) refl lo h (eqb-true _ _ e)
      by_pairs lo h false e = tt

      by_one : field b 18 p ≤ 65535 → (t : Bool) → eqb (field b 6 (short_end b p)) 5 ≡ t
          → FewIs d b p (pick t (pick (eqb (field b 4 (end path b first)) 0) (One first) Other) (pick (eqb (field b 6 (short_end b p)) 9) (second_view b first) Other))
      by_one lo true e = by_pairs lo (eqb-true _ _ e) (eqb (field b 4 (end path b first)) 0) refl
      by_one lo false e = by_two lo (eqb (field b 6 (short_end b p)) 9) refl

      by_name : (t : Bool) → ltb 65535 (field b 18 p) ≡ t
          → FewIs d b p (pick t Other (pick (eqb (field b 6 (short_end b p)) 5) (pick (eqb (field b 4 (end path b first)) 0) (One first) Other) (pick (eqb (field b 6 (short_end b p)) 9) (second_view b first) Other)))
      by_name true e = tt
      by_name false e = by_one (ltb-false _ _ e) (eqb (field b 6 (short_end b p)) 5) refl

  pub few_read : (v : Few) → v ≡ few_view b p → FewIs d b p v
  few_read v e = subst (FewIs d b p) (sym e) few_stands
