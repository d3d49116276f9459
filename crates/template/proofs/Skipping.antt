-- Calls whose name is a string: with one path and no pairs, with one pair, or alone. x is the kind of the name and, behind that, the count of its string.
use Prim.Native.Nat.{ℕ, ◌+◌, ◌*◌, ◌≤◌}
use mathlib.Core.Bool.{true}
use mathlib.Core.Path.{◌≡◌, sym, ap, ◌∙◌, subst}
use native.Mathlib.Omega.{arith}
use Rattle.rules.specs.Bits.{Bits}
use Rattle.rules.specs.Template as rule
use Rattle.rules.specs.Layout.{field, ◌then◌, counted}
use Rattle.rules.specs.LayoutLaws.{Binary, field_lt}
use Rattle.rules.specs.Bundle.{string, path, ascending, param, pairs, call_of}
use Rattle.bits.specs.Fields.{field_append}
use Rattle.parts.specs.Holds.{Holds, end, row}
use Rattle.parts.specs.HoldsLaws.{Then, then_holds, Same, tested_holds, counted_holds, More, more_holds, moved, none_left}
use Rattle.calls.specs.Calls.{param_path, param_fits, name_end, params_end, call_params, call_pairs, call_end, call_fits, call_stands, bare_end}
use Rattle.calls.specs.Shorts.{short_ends}

module _ (d : ℕ) (b : Bits) (p : ℕ) (H : Holds (call_of (param d)) b p) where
  tested : Same (counted 4 (string then param d)) b (params_end d b p) (λ x. (x ≡ (call_pairs d b p H).found) × (ascending x ≡ true)) (end (pairs (param d)) b (params_end d b p))
  tested = tested_holds ascending (counted 4 (string then param d)) b (params_end d b p) (call_pairs d b p H)

  -- the row of pairs ends where the call does
  pairs_end : end (row (string then param d) (field b 4 (params_end d b p))) b (params_end d b p + 4) ≡ end (call_of (param d)) b p
  pairs_end = (counted_holds 4 (string then param d) b (params_end d b p) tested.inner).ends ∙ tested.ends ∙ call_end d b p H

  pairs_row : Holds (row (string then param d) (field b 4 (params_end d b p))) b (params_end d b p + 4)
  pairs_row = (counted_holds 4 (string then param d) b (params_end d b p) tested.inner).inner

  no_pairs : field b 4 (params_end d b p) ≡ 0 → params_end d b p + 4 ≡ end (call_of (param d)) b p
  no_pairs e =
      sym (none_left (string then param d) b (params_end d b p + 4))
      ∙ sym (ap (λ (n : ℕ). end (row (string then param d) n) b (params_end d b p + 4)) e)
      ∙ pairs_end

  module _ (bin : Binary b) (x : ℕ) (hx : x ≡ field b 18 p) (lo : x ≤ 65535) where
    named : p + 18 + 8 * x ≡ name_end d b p
    named = (short_ends d b bin p H x hx lo).0

    -- a name alone
    pub bare_behind : field b 8 (p + 18 + 8 * x) ≡ 0 → (p + 18 + 8 * x + 8 ≡ end (call_of (param d)) b p) × (p + 18 + 8 * x + 8 ≤ b.size)
    bare_behind e =
        let z = bare_end d b p H (sym (ap (field b 8) named) ∙ e) in
        (ap (λ (n : ℕ). n + 8) named ∙ z.0, omega (arith, named, z.1))

    -- no parameters, and one pair
    module _ (e : field b 8 (p + 18 + 8 * x) ≡ 1) where
      counts : field b 8 (name_end d b p) ≡ field b 4 (name_end d b p) * 16 + field b 4 (name_end d b p + 4)
      counts = field_append b 4 4 (name_end d b p)

      both : field b 8 (name_end d b p) ≡ 1
      both = sym (ap (field b 8) named) ∙ e

      params_none : params_end d b p ≡ name_end d b p + 4
      params_none =
          let z : field b 4 (name_end d b p) ≡ 0 = omega (arith, counts, both) in
          sym (counted_holds 4 (param d) b (name_end d b p) (call_params d b p H)).ends
          ∙ ap (λ (n : ℕ). end (row (param d) n) b (name_end d b p + 4)) z
          ∙ none_left (param d) b (name_end d b p + 4)

      one_pair : field b 4 (params_end d b p) ≡ 1
      one_pair = ap (field b 4) params_none ∙ omega (arith, counts, both)

      only : Holds (row (string then param d) 1) b (params_end d b p + 4)
      only = subst (λ (n : ℕ). Holds (row (string then param d) n) b (params_end d b p + 4)) one_pair pairs_row

      more : More (string then param d) 0 b (params_end d b p + 4) only.found (end (row (string then param d) 1) b (params_end d b p + 4))
      more = more_holds (string then param d) 0 b (params_end d b p + 4) only

      parted : Then string (param d) b (params_end d b p + 4) more.first.found (end (string then param d) b (params_end d b p + 4))
      parted = then_holds string (param d) b (params_end d b p + 4) more.first

      here : params_end d b p + 4 ≡ p + 18 + 8 * x + 8
      here = omega (arith, named, params_none)

      pub key_fits : p + 18 + 8 * x + 8 ≤ b.size
      key_fits = omega (arith, here, (call_fits d b p H).1)

      pub key_here : Holds string b (p + 18 + 8 * x + 8)
      key_here = moved string b _ _ here parted.first

      module _ (k : ℕ) (hk : k ≡ end string b (p + 18 + 8 * x + 8)) where
        behind_key : k ≡ end string b (params_end d b p + 4)
        behind_key = hk ∙ sym (ap (end string b) here)

        pub value_here : Holds (param d) b k
        value_here = moved (param d) b _ _ (sym behind_key) parted.second

        pub pair_behind : (r : ℕ) → r ≡ end (param d) b k → r ≡ end (call_of (param d)) b p
        pair_behind r hr =
            hr
            ∙ ap (end (param d) b) behind_key
            ∙ parted.ends
            ∙ sym (none_left (string then param d) b (end (string then param d) b (params_end d b p + 4)))
            ∙ more.ends
            ∙ sym (ap (λ (n : ℕ). end (row (string then param d) n) b (params_end d b p + 4)) one_pair)
            ∙ pairs_end

    -- one parameter, which is a path
    module _ (e : field b 6 (p + 18 + 8 * x) ≡ 5) where
      count_and_kind : 5 ≡ field b 4 (name_end d b p) * 4 + field b 2 (name_end d b p + 4)
      count_and_kind = sym e ∙ ap (field b 6) named ∙ field_append b 4 2 (name_end d b p)

      one_param : field b 4 (name_end d b p) ≡ 1
      one_param = omega (arith, count_and_kind, field_lt b bin 2 (name_end d b p + 4))

      is_path : field b 2 (name_end d b p + 4) ≡ 1
      is_path = omega (arith, count_and_kind, one_param)

      only_param : Holds (row (param d) 1) b (name_end d b p + 4)
      only_param = subst (λ (n : ℕ). Holds (row (param d) n) b (name_end d b p + 4)) one_param (call_stands d b p H).params

      more_params : More (param d) 0 b (name_end d b p + 4) only_param.found (end (row (param d) 1) b (name_end d b p + 4))
      more_params = more_holds (param d) 0 b (name_end d b p + 4) only_param

      there : name_end d b p + 4 + 2 ≡ p + 18 + 8 * x + 6
      there = omega (arith, named)

      path_same : Same path b (name_end d b p + 4 + 2) (λ x. rule.path x ≡ more_params.first.found) (end (param d) b (name_end d b p + 4))
      path_same = param_path d b (name_end d b p + 4) more_params.first is_path

      pub path_fits : p + 18 + 8 * x + 6 ≤ b.size
      path_fits = omega (arith, there, param_fits d b (name_end d b p + 4) more_params.first)

      pub path_here : Holds path b (p + 18 + 8 * x + 6)
      path_here = moved path b _ _ there path_same.inner

      module _ (r : ℕ) (hr : r ≡ end path b (p + 18 + 8 * x + 6)) (z : field b 4 r ≡ 0) where
        at_pairs : r ≡ params_end d b p
        at_pairs =
            hr
            ∙ sym (ap (end path b) there)
            ∙ path_same.ends
            ∙ sym (none_left (param d) b (end (param d) b (name_end d b p + 4)))
            ∙ more_params.ends
            ∙ sym (ap (λ (n : ℕ). end (row (param d) n) b (name_end d b p + 4)) one_param)
            ∙ (counted_holds 4 (param d) b (name_end d b p) (call_params d b p H)).ends

        pub path_behind : (r + 4 ≡ end (call_of (param d)) b p) × (r + 4 ≤ b.size)
        path_behind = (ap (λ (n : ℕ). n + 4) at_pairs ∙ no_pairs (sym (ap (field b 4) at_pairs) ∙ z), omega (arith, at_pairs, (call_fits d b p H).1))
