-- What the readers meet on their way: the parts of an element at the places that the code has worked out, and the answers made of them.
use Rattle.std.specs.Prelude.{Option as RustOption, Some, None}
use Prim.Native.Nat.{ℕ, zero, suc, ◌+◌, ◌-◌, ◌*◌, ◌%◌, ◌≤◌, ◌<◌}
use mathlib.Core.Bool.{Bool}
use mathlib.Core.Path.{◌≡◌, refl, sym, ap, ◌∙◌}
use native.Mathlib.Omega.{arith}
use lib.Dec.{eqb}
use Rattle.rules.specs.Bits.{Bits}
use Rattle.rules.specs.Layout.{Layout, field, ◌then◌}
use Rattle.rules.specs.LayoutLaws.{Binary, field_lt}
use Rattle.bits.specs.Fields.{field_append}
use Rattle.rules.specs.Bundle.{string, flag, block_names, indent, param, call_of, maybe_body, element_of, body}
use Rattle.rules.specs.Template as rule
use Rattle.parts.specs.Holds.{Holds, end}
use Rattle.parts.specs.HoldsLaws.{moved, Same}
use Rattle.parts.specs.Views.{maybe_of, maybe_view}
use Rattle.parts.specs.Parts.{indent_fits, indent_none, indent_some, indent_there, names_none}
use Rattle.template.specs.Views.{flag_at, tail_view, call_end, flagged_view, names_end, template_end, inverse_end, body_end, bodied_view, block_view, kind_view, content_of, content_view, element_view, placed_element_is}
use Rattle.template.specs.Content.{tail_indent, tail_fits, tail_end, maybe_fits, maybe_none, maybe_some, maybe_there, FlaggedHolds, written_holds, BodilessHolds, bodiless_holds, BodiedHolds, bodied_holds, BlockHolds, block_holds}
use Rattle.template.specs.Content.{raw_string_holds, html_holds, expression_holds, helper_holds, decorator_holds, decorator_block_holds, partial_holds, partial_block_holds, comment_holds, element_never}
use Rattle.template.specs.declared.Element.TheVariants.{RawString, HtmlExpression, Expression, HelperBlock, DecoratorExpression, DecoratorBlock, PartialExpression, PartialBlock, Comment}
use Rattle.template.specs.declared.Flagged.{Flagged}
use Rattle.template.specs.declared.Tail.{Tail}
use Rattle.template.specs.declared.Bodied.{Bodied}
use Rattle.template.specs.declared.Block.{Block}
use Rattle.template.specs.declared.Content.{Content}
use Rattle.template.specs.declared.ElementAt.{ElementAt}

-- A call and a bit, which stands at f

module _ (d : ℕ) (b : Bits) (p : ℕ) (H : Holds (call_of (param d) then flag) b p) where
  flagged : FlaggedHolds 0 d b p H.found (end (call_of (param d) then flag) b p)
  flagged = written_holds 0 d b p H

  pub flagged_call : Holds (call_of (param d)) b p
  flagged_call = flagged.call

  module _ (f : ℕ) (hf : f ≡ call_end d b p) where
    pub flagged_fits : f + 1 ≤ b.size
    flagged_fits = omega (arith, hf, flagged.fits)

    pub flagged_made : (g : Bool) → g ≡ flag_at b f → ◌≡◌ {A = Flagged} (record { before = g; next = f + 1 }) (flagged_view d b p)
    flagged_made g hg =
        ap (λ (g : Bool). record { before = g; next = f + 1 }) hg ∙ ap (λ (f : ℕ). record { before = flag_at b f; next = f + 1 }) hf

-- An indent and a bit, which stands at f

module _ (b : Bits) (p : ℕ) (H : Holds (indent then flag) b p) (f : ℕ) (hf : f ≡ end indent b p) where
  pub tail_here : (p + 1 ≤ b.size) × (f + 1 ≤ b.size)
  tail_here = (indent_fits b p (tail_indent b p H), omega (arith, hf, tail_fits b p H))

  pub tail_made : (i : RustOption ℕ) → i ≡ maybe_view b p → (g : Bool) → g ≡ flag_at b f → ◌≡◌ {A = Tail} (record { indent = i; before = g; next = f + 1 }) (tail_view b p)
  tail_made i hi g hg =
      ap (λ (i : RustOption ℕ). record { indent = i; before = g; next = f + 1 }) hi
      ∙ ap (λ (g : Bool). record { indent = maybe_view b p; before = g; next = f + 1 }) hg
      ∙ ap (λ (f : ℕ). record { indent = maybe_view b p; before = flag_at b f; next = f + 1 }) hf

-- by the first two bits
module _ (b : Bits) (p : ℕ) (H : Holds (indent then flag) b p) (y : ℕ) (hy : y ≡ field b 2 p) where
  tail_bits : y ≡ field b 1 p * 2 + field b 1 (p + 1)
  tail_bits = hy ∙ field_append b 1 1 p

  module _ (lt : y < 2) where
    no_indent : field b 1 p ≡ 0
    no_indent = omega (arith, tail_bits)

    at_bit : p + 1 ≡ end indent b p
    at_bit = (indent_none b p (tail_indent b p H) no_indent).0

    pub plain_tail_fits : p + 2 ≤ b.size
    plain_tail_fits = omega (arith, (tail_here b p H (p + 1) at_bit).1)

    pub plain_tail_made : ◌≡◌ {A = Tail} (record { indent = None; before = eqb y 1; next = p + 2 }) (tail_view b p)
    plain_tail_made =
        let e : p + 2 ≡ p + 1 + 1 = omega arith in
        let k : y ≡ field b 1 (p + 1) = omega (arith, tail_bits, no_indent) in
        ap (λ (m : ℕ). record { indent = None; before = eqb y 1; next = m }) e
        ∙ tail_made b p H (p + 1) at_bit None (sym (ap (maybe_of (p + 1)) no_indent)) (eqb y 1) (ap (λ (m : ℕ). eqb m 1) k)

  module _ (bin : Binary b) (ge : 2 ≤ y) where
    an_indent : field b 1 p ≡ 1
    an_indent = indent_there b p (tail_indent b p H) (λ e. omega (arith, tail_bits, e, ge, field_lt b bin 1 (p + 1)))

    pub indented_fits : p + 1 ≤ b.size
    indented_fits = indent_fits b p (tail_indent b p H)

    pub indented_string : Holds string b (p + 1)
    indented_string = (indent_some b p (tail_indent b p H) an_indent).inner

    module _ (f : ℕ) (hf : f ≡ end string b (p + 1)) where
      at_last_bit : f ≡ end indent b p
      at_last_bit = hf ∙ (indent_some b p (tail_indent b p H) an_indent).ends

      pub indented_last : f + 1 ≤ b.size
      indented_last = (tail_here b p H f at_last_bit).1

      pub indented_made : (g : Bool) → g ≡ flag_at b f → ◌≡◌ {A = Tail} (record { indent = Some (p + 1); before = g; next = f + 1 }) (tail_view b p)
      indented_made g hg = tail_made b p H f at_last_bit (Some (p + 1)) (sym (ap (maybe_of (p + 1)) an_indent)) g hg

-- A call, which ends at q, an indent and a bit

module _ (d : ℕ) (b : Bits) (p : ℕ) (H : Holds (call_of (param d) then indent then flag) b p) where
  bodiless : BodilessHolds 0 d b p H.found (end (call_of (param d) then indent then flag) b p)
  bodiless = bodiless_holds 0 d b p H

  pub bodiless_call : Holds (call_of (param d)) b p
  bodiless_call = bodiless.call

  pub bodiless_tail : (q : ℕ) → q ≡ call_end d b p → Holds (indent then flag) b q
  bodiless_tail q e = moved (indent then flag) b _ _ (sym e) bodiless.tail

-- A call, a body at q, which ends at r, an indent and a bit

module _ (w d : ℕ) (b : Bits) (p : ℕ) (H : Holds (call_of (param d) then body w d then indent then flag) b p) where
  bodied : BodiedHolds w d b p H.found (end (call_of (param d) then body w d then indent then flag) b p)
  bodied = bodied_holds w d b p H

  pub bodied_call : Holds (call_of (param d)) b p
  bodied_call = bodied.call

  module _ (q : ℕ) (hq : q ≡ call_end d b p) where
    pub bodied_body : Holds (body w d) b q
    bodied_body = moved (body w d) b _ _ (sym hq) bodied.template

    module _ (r : ℕ) (hr : r ≡ end (body w d) b q) where
      behind : r ≡ body_end w d b p
      behind = hr ∙ ap (end (body w d) b) hq

      pub bodied_tail : Holds (indent then flag) b r
      bodied_tail = moved (indent then flag) b _ _ (sym behind) bodied.tail

      pub bodied_made : (t : Tail) → t ≡ tail_view b r → ◌≡◌ {A = Bodied} (record { body = q; indent = t.indent; before = t.before; next = t.next }) (bodied_view w d b p)
      bodied_made t ht =
          ap (λ (t : Tail). record { body = q; indent = t.indent; before = t.before; next = t.next }) ht
          ∙ ap (λ (r : ℕ). record { body = q; indent = (tail_view b r).indent; before = (tail_view b r).before; next = (tail_view b r).next }) behind
          ∙ ap (λ (q : ℕ). record { body = q; indent = (tail_view b (body_end w d b p)).indent; before = (tail_view b (body_end w d b p)).before; next = (tail_view b (body_end w d b p)).next }) hq

-- A call, block names at n, bodies that may be there at t and i, and a bit at f

module _ (w d : ℕ) (b : Bits) (p : ℕ) (H : Holds (call_of (param d) then block_names then maybe_body (body w d) then maybe_body (body w d) then flag) b p) where
  block : BlockHolds w d b p H.found (end (call_of (param d) then block_names then maybe_body (body w d) then maybe_body (body w d) then flag) b p)
  block = block_holds w d b p H

  pub block_call : Holds (call_of (param d)) b p
  block_call = block.call

  module _ (n : ℕ) (hn : n ≡ call_end d b p) where
    pub block_named : Holds block_names b n
    block_named = moved block_names b _ _ (sym hn) block.names

    module _ (t : ℕ) (ht : t ≡ end block_names b n) where
      at_template : t ≡ names_end w d b p
      at_template = ht ∙ ap (end block_names b) hn

      pub block_template : Holds (maybe_body (body w d)) b t
      block_template = moved (maybe_body (body w d)) b _ _ (sym at_template) block.template

      module _ (i : ℕ) (hi : i ≡ end (maybe_body (body w d)) b t) where
        at_inverse : i ≡ template_end w d b p
        at_inverse = hi ∙ ap (end (maybe_body (body w d)) b) at_template

        pub block_inverse : Holds (maybe_body (body w d)) b i
        block_inverse = moved (maybe_body (body w d)) b _ _ (sym at_inverse) block.inverse

        module _ (f : ℕ) (hf : f ≡ end (maybe_body (body w d)) b i) where
          at_flag : f ≡ inverse_end w d b p
          at_flag = hf ∙ ap (end (maybe_body (body w d)) b) at_inverse

          pub block_fits : (t + 1 ≤ b.size) × (i + 1 ≤ b.size) × (f + 1 ≤ b.size)
          block_fits =
              (maybe_fits (body w d) b t block_template, maybe_fits (body w d) b i block_inverse, omega (arith, at_flag, block.fits))

          pub block_ends : f + 1 ≡ end (call_of (param d) then block_names then maybe_body (body w d) then maybe_body (body w d) then flag) b p
          block_ends = ap (λ (n : ℕ). n + 1) at_flag ∙ block.ends

          pub block_made : (x y : RustOption ℕ) → x ≡ maybe_view b t → y ≡ maybe_view b i → (g : Bool) → g ≡ flag_at b f
              → ◌≡◌ {A = Block} (record { names = n; template = x; inverse = y; before = g; next = f + 1 }) (block_view w d b p)
          block_made x y hx hy g hg =
              ap (λ (x : RustOption ℕ). record { names = n; template = x; inverse = y; before = g; next = f + 1 }) hx
              ∙ ap (λ (y : RustOption ℕ). record { names = n; template = maybe_view b t; inverse = y; before = g; next = f + 1 }) hy
              ∙ ap (λ (g : Bool). record { names = n; template = maybe_view b t; inverse = maybe_view b i; before = g; next = f + 1 }) hg
              ∙ ap (λ (f : ℕ). record { names = n; template = maybe_view b t; inverse = maybe_view b i; before = flag_at b f; next = f + 1 }) at_flag
              ∙ ap (λ (i : ℕ). record { names = n; template = maybe_view b t; inverse = maybe_view b i; before = flag_at b (inverse_end w d b p); next = inverse_end w d b p + 1 }) at_inverse
              ∙ ap (λ (t : ℕ). record { names = n; template = maybe_view b t; inverse = maybe_view b (template_end w d b p); before = flag_at b (inverse_end w d b p); next = inverse_end w d b p + 1 }) at_template
              ∙ ap (λ (n : ℕ). record { names = n; template = maybe_view b (names_end w d b p); inverse = maybe_view b (template_end w d b p); before = flag_at b (inverse_end w d b p); next = inverse_end w d b p + 1 }) hn

    -- no names and a template: the bits 0, 0 and 1
    module _ (h : field b 3 n ≡ 1) where
      bare : field b 2 n ≡ 0
      bare = omega (arith, field_append b 2 1 n, h)

      there : field b 1 (n + 2) ≡ 1
      there = omega (arith, field_append b 2 1 n, h)

      at_plain : n + 2 ≡ end block_names b n
      at_plain = (names_none b n block_named bare).0

      behind_bit : n + 2 + 1 ≡ n + 3
      behind_bit = omega arith

      plain_some : Same (body w d) b (n + 2 + 1) (λ x. rule.body x ≡ (block_template (n + 2) at_plain).found) (end (maybe_body (body w d)) b (n + 2))
      plain_some = maybe_some (body w d) b (n + 2) (block_template (n + 2) at_plain) there

      pub plain_body : Holds (body w d) b (n + 3)
      plain_body = moved (body w d) b _ _ behind_bit plain_some.inner

      pub plain_fits : n + 3 ≤ b.size
      plain_fits = omega (arith, maybe_fits (body w d) b (n + 2) (block_template (n + 2) at_plain))

      plain_template : Some (n + 3) ≡ maybe_view b (n + 2)
      plain_template = ap Some (sym behind_bit) ∙ sym (ap (maybe_of (n + 2 + 1)) there)

      module _ (i : ℕ) (hi : i ≡ end (body w d) b (n + 3)) where
        at_other : i ≡ end (maybe_body (body w d)) b (n + 2)
        at_other = hi ∙ sym (ap (end (body w d) b) behind_bit) ∙ plain_some.ends

        other_holds : Holds (maybe_body (body w d)) b i
        other_holds = block_inverse (n + 2) at_plain i at_other

        -- the two bits at i
        module _ (y : ℕ) (hy : y ≡ field b 2 i) where
          two_bits : y ≡ field b 1 i * 2 + field b 1 (i + 1)
          two_bits = hy ∙ field_append b 1 1 i

          module _ (lt : y < 2) where
            no_inverse : field b 1 i ≡ 0
            no_inverse = omega (arith, two_bits)

            at_last : i + 1 ≡ end (maybe_body (body w d)) b i
            at_last = (maybe_none (body w d) b i other_holds no_inverse).0

            pub none_fits : i + 2 ≤ b.size
            none_fits = omega (arith, (block_fits (n + 2) at_plain i at_other (i + 1) at_last).2)

            pub none_made : ◌≡◌ {A = Block} (record { names = n; template = Some (n + 3); inverse = None; before = eqb y 1; next = i + 2 }) (block_view w d b p)
            none_made =
                let e : i + 2 ≡ i + 1 + 1 = omega arith in
                let k : y ≡ field b 1 (i + 1) = omega (arith, two_bits, no_inverse) in
                ap (λ (m : ℕ). record { names = n; template = Some (n + 3); inverse = None; before = eqb y 1; next = m }) e
                ∙ block_made (n + 2) at_plain i at_other (i + 1) at_last (Some (n + 3)) None plain_template (sym (ap (maybe_of (i + 1)) no_inverse)) (eqb y 1) (ap (λ (m : ℕ). eqb m 1) k)

          module _ (bin : Binary b) (ge : 2 ≤ y) where
            an_inverse : field b 1 i ≡ 1
            an_inverse = maybe_there (body w d) b i other_holds (λ e. omega (arith, two_bits, e, ge, field_lt b bin 1 (i + 1)))

            inverse_some : Same (body w d) b (i + 1) (λ x. rule.body x ≡ other_holds.found) (end (maybe_body (body w d)) b i)
            inverse_some = maybe_some (body w d) b i other_holds an_inverse

            pub some_body : Holds (body w d) b (i + 1)
            some_body = inverse_some.inner

            pub some_fits : i + 1 ≤ b.size
            some_fits = maybe_fits (body w d) b i other_holds

            module _ (f : ℕ) (hf : f ≡ end (body w d) b (i + 1)) where
              pub some_last : f + 1 ≤ b.size
              some_last = (block_fits (n + 2) at_plain i at_other f (hf ∙ inverse_some.ends)).2

              pub some_made : (g : Bool) → g ≡ flag_at b f → ◌≡◌ {A = Block} (record { names = n; template = Some (n + 3); inverse = Some (i + 1); before = g; next = f + 1 }) (block_view w d b p)
              some_made g hg =
                  block_made (n + 2) at_plain i at_other f (hf ∙ inverse_some.ends) (Some (n + 3)) (Some (i + 1)) plain_template (sym (ap (maybe_of (i + 1)) an_inverse)) g hg

-- The nine kinds: what stands behind kind k, and the answer

module _ (w d : ℕ) (b : Bits) (p : ℕ) (H : Holds (element_of (call_of (param d)) (body w d)) b p) (k : ℕ) (hk : k ≡ field b 4 p) where
  abbrev E : Layout rule.TemplateElement
  E = element_of (call_of (param d)) (body w d)

  kind : (j : ℕ) → k ≡ j → field b 4 p ≡ j
  kind j e = sym hk ∙ e

  seen : (j : ℕ) → k ≡ j → (n : ℕ) → n ≡ end E b p → content_of (kind_view w d b (p + 4) j) n ≡ content_view w d b p
  seen j e n h = ap (λ (j : ℕ). content_of (kind_view w d b (p + 4) j) n) (sym e ∙ hk) ∙ ap (content_of (kind_view w d b (p + 4) (field b 4 p))) h

  pub raw_string_at : k ≡ 0 → Holds string b (p + 4)
  raw_string_at e = (raw_string_holds w d b p H (kind 0 e)).inner

  pub raw_string_seen : k ≡ 0 → (n : ℕ) → n ≡ end string b (p + 4) → content_of (RawString (p + 4)) n ≡ content_view w d b p
  raw_string_seen e n h = seen 0 e n (h ∙ (raw_string_holds w d b p H (kind 0 e)).ends)

  pub html_at : k ≡ 1 → Holds (call_of (param d) then flag) b (p + 4)
  html_at e = (html_holds w d b p H (kind 1 e)).inner

  pub html_seen : k ≡ 1 → (r : Flagged) → r ≡ flagged_view d b (p + 4) → content_of (HtmlExpression (p + 4) r.before) r.next ≡ content_view w d b p
  html_seen e r h =
      let m = html_holds w d b p H (kind 1 e) in
      ap (λ (r : Flagged). content_of (HtmlExpression (p + 4) r.before) r.next) h ∙ seen 1 e _ ((written_holds w d b (p + 4) m.inner).ends ∙ m.ends)

  pub expression_at : k ≡ 2 → Holds (call_of (param d) then flag) b (p + 4)
  expression_at e = (expression_holds w d b p H (kind 2 e)).inner

  pub expression_seen : k ≡ 2 → (r : Flagged) → r ≡ flagged_view d b (p + 4) → content_of (Expression (p + 4) r.before) r.next ≡ content_view w d b p
  expression_seen e r h =
      let m = expression_holds w d b p H (kind 2 e) in
      ap (λ (r : Flagged). content_of (Expression (p + 4) r.before) r.next) h ∙ seen 2 e _ ((written_holds w d b (p + 4) m.inner).ends ∙ m.ends)

  pub helper_at : k ≡ 3 → Holds (call_of (param d) then block_names then maybe_body (body w d) then maybe_body (body w d) then flag) b (p + 4)
  helper_at e = (helper_holds w d b p H (kind 3 e)).inner

  pub helper_seen : k ≡ 3 → (r : Block) → r ≡ block_view w d b (p + 4)
      → content_of (HelperBlock (p + 4) r.names r.template r.inverse r.before) r.next ≡ content_view w d b p
  helper_seen e r h =
      let m = helper_holds w d b p H (kind 3 e) in
      ap (λ (r : Block). content_of (HelperBlock (p + 4) r.names r.template r.inverse r.before) r.next) h
      ∙ seen 3 e _ ((block_holds w d b (p + 4) m.inner).ends ∙ m.ends)

  pub helper_end : k ≡ 3 → end (call_of (param d) then block_names then maybe_body (body w d) then maybe_body (body w d) then flag) b (p + 4) ≡ end E b p
  helper_end e = (helper_holds w d b p H (kind 3 e)).ends

  tail_next : (q : ℕ) (T : Holds (indent then flag) b q) → (tail_view b q).next ≡ end (indent then flag) b q
  tail_next q T = tail_end b q T

  pub decorator_at : k ≡ 4 → Holds (call_of (param d) then indent then flag) b (p + 4)
  decorator_at e = (decorator_holds w d b p H (kind 4 e)).inner

  pub decorator_seen : k ≡ 4 → (r : Tail) → r ≡ tail_view b (call_end d b (p + 4))
      → content_of (DecoratorExpression (p + 4) r.indent r.before) r.next ≡ content_view w d b p
  decorator_seen e r h =
      let m = decorator_holds w d b p H (kind 4 e) in
      let o = bodiless_holds w d b (p + 4) m.inner in
      ap (λ (r : Tail). content_of (DecoratorExpression (p + 4) r.indent r.before) r.next) h ∙ seen 4 e _ (tail_next _ o.tail ∙ o.ends ∙ m.ends)

  pub decorator_block_at : k ≡ 5 → Holds (call_of (param d) then body w d then indent then flag) b (p + 4)
  decorator_block_at e = (decorator_block_holds w d b p H (kind 5 e)).inner

  pub decorator_block_seen : k ≡ 5 → (r : Bodied) → r ≡ bodied_view w d b (p + 4)
      → content_of (DecoratorBlock (p + 4) r.body r.indent r.before) r.next ≡ content_view w d b p
  decorator_block_seen e r h =
      let m = decorator_block_holds w d b p H (kind 5 e) in
      let o = bodied_holds w d b (p + 4) m.inner in
      ap (λ (r : Bodied). content_of (DecoratorBlock (p + 4) r.body r.indent r.before) r.next) h ∙ seen 5 e _ (tail_next _ o.tail ∙ o.ends ∙ m.ends)

  partial_at : k ≡ 6 → Holds (call_of (param d) then indent then flag) b (p + 4)
  partial_at e = (partial_holds w d b p H (kind 6 e)).inner

  partial_seen : k ≡ 6 → (r : Tail) → r ≡ tail_view b (call_end d b (p + 4))
      → content_of (PartialExpression (p + 4) r.indent r.before) r.next ≡ content_view w d b p
  partial_seen e r h =
      let m = partial_holds w d b p H (kind 6 e) in
      let o = bodiless_holds w d b (p + 4) m.inner in
      ap (λ (r : Tail). content_of (PartialExpression (p + 4) r.indent r.before) r.next) h ∙ seen 6 e _ (tail_next _ o.tail ∙ o.ends ∙ m.ends)

  pub partial_call : k ≡ 6 → Holds (call_of (param d)) b (p + 4)
  partial_call e = bodiless_call d b (p + 4) (partial_at e)

  -- the tail behind a partial's call, which ends at q
  module _ (e : k ≡ 6) (q : ℕ) (hq : q ≡ call_end d b (p + 4)) where
    pub partial_tail : Holds (indent then flag) b q
    partial_tail = bodiless_tail d b (p + 4) (partial_at e) q hq

    pub partial_made : (r : Tail) → r ≡ tail_view b q → content_of (PartialExpression (p + 4) r.indent r.before) r.next ≡ content_view w d b p
    partial_made r h = partial_seen e r (h ∙ ap (tail_view b) hq)

  pub partial_block_at : k ≡ 7 → Holds (call_of (param d) then body w d then indent then flag) b (p + 4)
  partial_block_at e = (partial_block_holds w d b p H (kind 7 e)).inner

  pub partial_block_seen : k ≡ 7 → (r : Bodied) → r ≡ bodied_view w d b (p + 4)
      → content_of (PartialBlock (p + 4) r.body r.indent r.before) r.next ≡ content_view w d b p
  partial_block_seen e r h =
      let m = partial_block_holds w d b p H (kind 7 e) in
      let o = bodied_holds w d b (p + 4) m.inner in
      ap (λ (r : Bodied). content_of (PartialBlock (p + 4) r.body r.indent r.before) r.next) h ∙ seen 7 e _ (tail_next _ o.tail ∙ o.ends ∙ m.ends)

  -- no kind is left but the last
  pub last_kind : 8 ≤ k → k ≡ 8
  last_kind h = hk ∙ at (field b 4 p) refl (omega (arith, hk))
    where
      at : (j : ℕ) → field b 4 p ≡ j → 8 ≤ j → j ≡ 8
      at zero e h = absurd (omega arith)
      at (suc zero) e h = absurd (omega arith)
      at (suc (suc zero)) e h = absurd (omega arith)
      at (suc (suc (suc zero))) e h = absurd (omega arith)
      at (suc (suc (suc (suc zero)))) e h = absurd (omega arith)
      at (suc (suc (suc (suc (suc zero))))) e h = absurd (omega arith)
      at (suc (suc (suc (suc (suc (suc zero)))))) e h = absurd (omega arith)
      at (suc (suc (suc (suc (suc (suc (suc zero))))))) e h = absurd (omega arith)
      at (suc (suc (suc (suc (suc (suc (suc (suc zero)))))))) e h = refl
      at (suc (suc (suc (suc (suc (suc (suc (suc (suc j))))))))) e h = element_never w d b p H j e

  pub comment_at : 8 ≤ k → Holds string b (p + 4)
  comment_at h = (comment_holds w d b p H (kind 8 (last_kind h))).inner

  pub comment_seen : 8 ≤ k → (n : ℕ) → n ≡ end string b (p + 4) → content_of (Comment (p + 4)) n ≡ content_view w d b p
  comment_seen h n e = seen 8 (last_kind h) n (e ∙ (comment_holds w d b p H (kind 8 (last_kind h))).ends)

  -- The way past the content, by the tests that `skip_content` makes of its kind

  abbrev Row : {A : Type 0} → Layout A → Type 0
  Row c = Same c b (p + 4) (λ x. Unit {0}) (end E b p)

  row_of : {A : Type 0} {c : Layout A} {t : A → Type 0} → Same c b (p + 4) t (end E b p) → Row c
  row_of m = record { inner = m.inner; ends = m.ends; is = tt }

  no_more_kinds : 9 ≤ k → ⊥
  no_more_kinds h = omega (arith, last_kind (omega arith))

  pub text_here : k % 8 ≡ 0 → Row string
  text_here h = at k refl
    where
      at : (j : ℕ) → k ≡ j → Row string
      at zero e = row_of (raw_string_holds w d b p H (kind 0 e))
      at (suc j) e = row_of (comment_holds w d b p H (kind 8 (last_kind (omega arith))))

  pub call_here : (k % 8 ≡ 0 → ⊥) → Holds (call_of (param d)) b (p + 4)
  call_here g = at k refl
    where
      at : (j : ℕ) → k ≡ j → Holds (call_of (param d)) b (p + 4)
      at zero e = absurd (g (omega arith))
      at (suc zero) e = (written_holds w d b (p + 4) (html_at e)).call
      at (suc (suc zero)) e = (written_holds w d b (p + 4) (expression_at e)).call
      at (suc (suc (suc zero))) e = (block_holds w d b (p + 4) (helper_at e)).call
      at (suc (suc (suc (suc zero)))) e = (bodiless_holds w d b (p + 4) (decorator_at e)).call
      at (suc (suc (suc (suc (suc zero))))) e = (bodied_holds w d b (p + 4) (decorator_block_at e)).call
      at (suc (suc (suc (suc (suc (suc zero)))))) e = (bodiless_holds w d b (p + 4) (partial_at e)).call
      at (suc (suc (suc (suc (suc (suc (suc zero))))))) e = (bodied_holds w d b (p + 4) (partial_block_at e)).call
      at (suc (suc (suc (suc (suc (suc (suc (suc j)))))))) e = absurd (g (omega (arith, last_kind (omega arith))))

  -- 1 and 2, 4 and 6, 5 and 7
  module _ (g : k % 8 ≡ 0 → ⊥) where
    written_row : k < 3 → Row (call_of (param d) then flag)
    written_row h = at k refl
      where
        at : (j : ℕ) → k ≡ j → Row (call_of (param d) then flag)
        at zero e = absurd (g (omega arith))
        at (suc zero) e = row_of (html_holds w d b p H (kind 1 e))
        at (suc (suc j)) e = row_of (expression_holds w d b p H (kind 2 (omega arith)))

    bodiless_row : 4 ≤ k → k % 2 ≡ 0 → Row (call_of (param d) then indent then flag)
    bodiless_row l h = at (k - 4) (omega arith)
      where
        at : (j : ℕ) → k ≡ 4 + j → Row (call_of (param d) then indent then flag)
        at zero e = row_of (decorator_holds w d b p H (kind 4 e))
        at (suc j) e = row_of (partial_holds w d b p H (kind 6 (omega (arith, no_more_kinds))))

    bodied_row : 4 ≤ k → (k % 2 ≡ 0 → ⊥) → Row (call_of (param d) then body w d then indent then flag)
    bodied_row l h = at (k - 5) (omega arith)
      where
        at : (j : ℕ) → k ≡ 5 + j → Row (call_of (param d) then body w d then indent then flag)
        at zero e = row_of (decorator_block_holds w d b p H (kind 5 e))
        at (suc j) e = row_of (partial_block_holds w d b p H (kind 7 (omega (arith, no_more_kinds))))

    -- f is the place behind the call
    module _ (f : ℕ) (hf : f ≡ call_end d b (p + 4)) where
      pub written_skip : k < 3 → (f + 1 ≡ end E b p) × (f + 1 ≤ b.size)
      written_skip h =
          let m = written_row h in
          let r = written_holds w d b (p + 4) m.inner in
          (ap (λ (n : ℕ). n + 1) hf ∙ r.ends ∙ m.ends, omega (arith, r.fits))

      pub bodiless_here : 4 ≤ k → k % 2 ≡ 0 → Same (indent then flag) b f (λ x. Unit {0}) (end E b p)
      bodiless_here l h =
          let m = bodiless_row l h in
          let r = bodiless_holds w d b (p + 4) m.inner in
          record { inner = moved (indent then flag) b _ _ (sym hf) r.tail; ends = ap (end (indent then flag) b) hf ∙ r.ends ∙ m.ends; is = tt }

      module _ (l : 4 ≤ k) (h : k % 2 ≡ 0 → ⊥) where
        pub bodied_here : Holds (body w d) b f
        bodied_here = bodied_body w d b (p + 4) (bodied_row l h).inner f hf

        pub bodied_behind : (z : ℕ) → z ≡ end (body w d) b f → Same (indent then flag) b z (λ x. Unit {0}) (end E b p)
        bodied_behind z hz =
            let m = bodied_row l h in
            let r = bodied_holds w d b (p + 4) m.inner in
            let e : z ≡ body_end w d b (p + 4) = hz ∙ ap (end (body w d) b) hf in
            record { inner = moved (indent then flag) b _ _ (sym e) r.tail; ends = ap (end (indent then flag) b) e ∙ r.ends ∙ m.ends; is = tt }

  -- an indent, and at z the bit that ends the content
  pub tail_skip : (f : ℕ) → Same (indent then flag) b f (λ x. Unit {0}) (end E b p) → (z : ℕ) → z ≡ end indent b f → (z + 1 ≡ end E b p) × (z + 1 ≤ b.size)
  tail_skip f m z hz = (ap (λ (n : ℕ). n + 1) hz ∙ tail_end b f m.inner ∙ m.ends, (tail_here b f m.inner z hz).1)

-- An element with its line and column: the content stands behind them

module _ (w d : ℕ) (b : Bits) (p : ℕ) (x : Content) (hx : x ≡ content_view w d b (p + w + w)) (l k : ℕ) (hl : l ≡ field b w p) (hk : k ≡ field b w (p + w)) where
  pub element_made : ◌≡◌ {A = ElementAt} (record { line = l; column = k; element = x.element; next = x.next }) (element_view w d b p)
  element_made =
      ap (λ (l : ℕ). record { line = l; column = k; element = x.element; next = x.next }) hl
      ∙ ap (λ (k : ℕ). record { line = field b w p; column = k; element = x.element; next = x.next }) hk
      ∙ placed_element_is w d b p x hx
