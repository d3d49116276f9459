use mathlib.Core.List.{List}
use mathlib.Core.Path.{◌≡◌, refl, sym, ap, ◌∙◌, subst}
use native.Mathlib.Omega.{arith}
use lib.ListN.{get_or, set, replicate}
use Prim.Native.Nat.{ℕ, ◌+◌, ◌-◌, ◌≤◌}
use Rattle.scope.specs.declared.Scope.{Scope}
use Rattle.scope.specs.Scopes.{blank}
use Rattle.scope.proofs.NamesLaws.{string_near}
use Rattle.state.specs.declared.RenderContext as code
use Rattle.state.specs.Context.{RenderContext, whole, topped}
use Rattle.state.specs.Setters.{fresh, with_template}
use Rattle.state.specs.World.{World, world, over, Ready}
use Rattle.drawing.specs.Arrays.{whole_newest}
use Rattle.drawing.specs.Renders.{Renders, body_rule}
use Rattle.render.specs.Start.{ready_fresh, start_ready, start_named, start_drawn}
use borrow.Author.Rules.{rules}
use Rattle.render.proofs.render_template.Goals as goal

abbrev zeros : Scope
zeros = record { base = 0; names = 0; key = 0; index = 0; inline = 0; count = 0; text = 0; kind = 0; locals = 0; block = 0 }

module _ (rc : code.RenderContext) (n : ℕ) (e : whole rc (replicate 32 blank) ≡ with_template fresh n) (l : List Scope) (is : l ≡ replicate 32 blank) where
  abbrev first : Scope
  first = get_or l 0 zeros

  first_is : first ≡ blank
  first_is = ap (λ (m : List Scope). get_or m 0 zeros) is

  first-used : rc.used ≡ 1
  first-used = ap (λ (c : RenderContext). c.used) e

  first-set : set l (rc.used - 1) first ≡ replicate 32 blank
  first-set = ap (λ (k : ℕ). set l (k - 1) first) first-used ∙ ap (set l 0) first_is ∙ ap (λ (m : List Scope). set m 0 blank) is

  first-topped : topped rc l first ≡ with_template fresh n
  first-topped = ap (whole rc) first-set ∙ e

  first_count : first.count ≡ rc.count
  first_count =
      let one : 1 ≤ rc.used = omega (arith, first-used) in
      let most : rc.used ≤ 32 = omega (arith, first-used) in
      ap (λ (x : Scope). x.count) first_is
      ∙ ap (λ (k : ℕ). (get_or (replicate 32 blank) (k - 1) blank).count) (sym first-used)
      ∙ ap (λ (c : RenderContext). (get_or c.scopes (rc.used - 1) blank).count) (sym e)
      ∙ ap (λ (x : Scope). x.count) (whole_newest rc (replicate 32 blank) refl one most)

pub overflow_add-name : goal.overflow_add-name
overflow_add-name c = let near = string_near c.args.b.now c.args.name c.requires.0.small c.requires.4 in search rules

pub overflow_add-name-2 : goal.overflow_add-name-2
overflow_add-name-2 c = let near = string_near c.args.b.now c.args.name c.requires.0.small c.requires.4 in search rules

pub render_elements-requires : goal.render_elements-requires
render_elements-requires c = let a = c.args in
    let h = c.requires in
    let rc = c.set_current_template_name-rc.result in
    let l = c.begin-scopes.result in
    let w : World = world fresh a.page.now a.texts.now a.indent.now a.ent.now in
    let r : Ready a.s.now a.b.now w = ready_fresh a.s.now a.b.now a.page.now a.texts.now a.indent.now a.ent.now h.1 h.2 h.3 in
    let e : whole rc (replicate 32 blank) ≡ with_template fresh (a.name + 1) = c.set_current_template_name-rc.ensures (replicate 32 blank) ∙ ap (λ (x : RenderContext). with_template x (a.name + 1)) c.new.ensures in
    let is : l ≡ replicate 32 blank = c.begin-scopes.ensures in
    let x : Scope = get_or l 0 zeros in (
      h.0,
      subst (λ (y : RenderContext). Ready a.s.now a.b.now (over y w)) (sym (first-topped rc (a.name + 1) e l is)) (start_ready a.s.now a.b.now a.page.now a.texts.now a.indent.now a.ent.now a.options a.name a.p r h.4 w),
      omega arith,
      h.5,
      start_named a.s.now a.b.now a.page.now a.texts.now a.indent.now a.ent.now a.options a.name a.p r h.4 w,
      first_count rc (a.name + 1) e l is,
    )

pub returns : goal.returns
returns c = let a = c.args in
    let h = c.requires in
    let rc = c.set_current_template_name-rc.result in
    let l = c.begin-scopes.result in
    let w : World = world fresh a.page.now a.texts.now a.indent.now a.ent.now in
    let r : Ready a.s.now a.b.now w = ready_fresh a.s.now a.b.now a.page.now a.texts.now a.indent.now a.ent.now h.1 h.2 h.3 in
    let e : whole rc (replicate 32 blank) ≡ with_template fresh (a.name + 1) = c.set_current_template_name-rc.ensures (replicate 32 blank) ∙ ap (λ (x : RenderContext). with_template x (a.name + 1)) c.new.ensures in
    let is : l ≡ replicate 32 blank = c.begin-scopes.ensures in
    let x : Scope = get_or l 0 zeros in
    let q = c.render_elements.result in
    let u : List Scope → World = λ m. world (whole q m) c.render_elements.new.page c.render_elements.new.texts c.render_elements.new.indent c.render_elements.new.ent in
    start_drawn a.s.now a.b.now a.page.now a.texts.now a.indent.now a.ent.now a.options a.name a.p r h.4 (u (replicate 32 blank))
    (subst (λ (m : List Scope). Renders a.s.now a.b.now a.options (over (with_template fresh (a.name + 1)) w) (u m) (body_rule a.b.now 16 a.p (a.name + 1))) (first-set rc (a.name + 1) e l is)
    (subst (λ (y : RenderContext). Renders a.s.now a.b.now a.options (over y w) (u (set l (rc.used - 1) x)) (body_rule a.b.now 16 a.p (a.name + 1))) (first-topped rc (a.name + 1) e l is) c.render_elements.ensures))
