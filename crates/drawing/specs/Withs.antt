-- `with`: its template is drawn in a scope of the value.
use Rattle.std.specs.Prelude.{None, ℕ, suc, ◌+◌, ◌-◌, ◌≤◌, ◌<◌, Bool, false, List, [], ◌≡◌, refl, length, get_or, set}
use Rattle.std.proofs.Math.Option.{Option, none, some}
use Rattle.std.proofs.Common.{sym, ap, ◌∙◌, subst, arith, get_or-set_same}
use Rattle.rules.specs.Bytes.{Bytes}
use Rattle.rules.specs.Bits.{bits}
use Rattle.rules.specs.Template as template
use Rattle.rules.specs.State as rules
use Rattle.rules.specs.State.{Res, Draw, push_block, pop_block, ◌after◌}
use Rattle.rules.specs.Registry.{Registry}
use Rattle.rules.specs.BlockUtil.{render_or_nothing}
use Rattle.rules.specs.HelperWith.{with_block}
use Rattle.rules.specs.Render.{render_body, render_template}
use Rattle.parts.specs.declared.BlockParam.{BlockParam}
use Rattle.parts.specs.declared.BlockParam.TheVariants.{None, Single, Pair}
use Rattle.parts.specs.Says.{names_says, NamesHold}
use Rattle.value.specs.declared.Value.{Value}
use Rattle.value.specs.Numbers.{Fits}
use Rattle.meaning.specs.Meaning.{scoped_of}
use Rattle.scope.specs.declared.Scope.{Scope}
use Rattle.scope.specs.Scopes.{blank}
use Rattle.scope.specs.Names.{Readable}
use Rattle.scope.proofs.NamesLaws.{readable}
use Rattle.scope.specs.NameBits.{Covers, covers_full}
use Rattle.expand.specs.declared.Options.{Options}
use Rattle.state.specs.Setters.{pushed, closed}
use Rattle.state.specs.World.{World, over, front, abs, Ready, Draws}
use Rattle.state.specs.Laws.{draws_stop_after, draws_refused}
use Rattle.state.specs.Steps.{Within}
use Rattle.state.specs.Scoped.{draws_close}
use Rattle.blocks.specs.Opened.{with_scope}
use Rattle.blocks.specs.Laws.{within_with, abs_with}
use Rattle.drawing.specs.Renders.{registry_of, Renders, Openable}

-- the names of its scope can be read
pub with_readable : (s b : Bytes) (w : World) (v : Value) (ns : BlockParam) → Ready s b w → Openable s b w v → Fits v → NamesHold (bits b) ns → Readable b w.ent (with_scope v ns (front w))
with_readable s b w v ns r q fits held =
    let c = with_scope v ns (front w) in
    let n = w.rc.used in
    let k : List Scope = set w.rc.scopes n c in
    let h = within_with s b w v r q.room q.stands q.present fits ns held 18446744073709551615 (covers_full b w.ent c) in
    let e : get_or k n blank ≡ c = get_or-set_same w.rc.scopes n c blank (omega (arith, r.sized, q.room)) in
    subst (Readable b w.ent) e
    (readable s b w.ent (get_or k n blank) (h.ready.scopes.each n (omega arith)) (omega (arith, h.ready.scopes.within n (omega arith), h.ready.enough, r.few, r.table)))

-- its names are in the set m
module _ (s b : Bytes) (o : Options) (w : World) (v : Value) (ns : BlockParam) (T : template.Body) (r : Ready s b w) (q : Openable s b w v) (fits : Fits v) (held : NamesHold (bits b) ns)
    (m : ℕ) (covers : Covers m b w.ent (with_scope v ns (front w))) where
  abbrev c : Scope
  c = with_scope v ns (front w)

  abbrev w₁ : World
  w₁ = over (pushed w.rc c m) w

  opened : Within s b [] w w₁
  opened = within_with s b w v r q.room q.stands q.present fits ns held m covers

  newest : front w₁ ≡ c
  newest = let e : w.rc.used + 1 - 1 ≡ w.rc.used = omega arith in ap (λ (i : ℕ). get_or w₁.rc.scopes i blank) e ∙ get_or-set_same w.rc.scopes w.rc.used c blank (omega (arith, r.sized, q.room))

  no_block : (ns : BlockParam) → (with_scope v ns (front w)).block ≡ 0
  no_block None = refl
  no_block (Single p) = refl
  no_block (Pair p z) = refl

  no_text : (ns : BlockParam) → (with_scope v ns (front w)).text ≡ 0
  no_text None = refl
  no_text (Single p) = refl
  no_text (Pair p z) = refl

  module _ (w₂ : World) (D : Renders s b o w₁ w₂ (λ g R. render_or_nothing (render_body g R T))) where
    abbrev rule : Registry → (Option Bytes → template.Template → Draw) → Draw
    rule g R st = pop_block after render_or_nothing (render_body g R T) (push_block (with_block st (names_says (bits b) ns) (scoped_of s b w.ent v)) st)

    inside : (f : ℕ) → 32 ≤ f + w.rc.used → Draws s b w₁ w₂ (render_or_nothing (render_body (registry_of s b o (length w.page)) (render_template (registry_of s b o (length w.page)) f) T) (push_block (with_block (abs s b w) (names_says (bits b) ns) (scoped_of s b w.ent v)) (abs s b w)))
    inside f le =
        subst (λ (x : rules.RenderContext). Draws s b w₁ w₂ (render_or_nothing (render_body (registry_of s b o (length w.page)) (render_template (registry_of s b o (length w.page)) f) T) x))
        (abs_with s b w v r q.room q.stands q.present fits ns held m covers) (D.at f (omega arith))

    pub with_done : w₂.rc.bad ≡ None → Renders s b o w (over (closed w.rc w₂.rc) w₂) rule
    with_done e = record {
      at = λ f le. draws_close s b w w₁ w₂ _ r opened (ap (λ (x : Scope). x.block) newest ∙ no_block ns) (ap (λ (x : Scope). x.text) newest ∙ no_text ns) (inside f le) e;
    }

    pub with_stop : (w₂.rc.bad ≡ None → ⊥) → Renders s b o w w₂ rule
    with_stop n = record { at = λ f le. draws_stop_after s b w w₂ _ pop_block (draws_refused s b w w₁ w₂ _ (inside f le) n) n }
