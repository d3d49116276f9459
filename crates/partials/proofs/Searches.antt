-- Searches among inline partials and among templates.
use Rattle.std.specs.Prelude.{Option as RustOption, Some, None}
use Prim.Native.Nat.{ℕ, suc, ◌+◌, ◌-◌, ◌*◌, ◌≤◌, ◌<◌}
use mathlib.Core.Bool.{Bool, true, false}
use mathlib.Core.List.{List}
use mathlib.Core.Option.{Option, none, some}
use mathlib.Core.Path.{◌≡◌, refl, sym, ap, ap₂, ◌∙◌, subst}
use native.Mathlib.Omega.{arith}
use lib.ListN.{length}
use Rattle.rules.specs.Bytes.{Bytes, maybe, same}
use Rattle.rules.specs.Template as rule
use Rattle.rules.specs.Bits.{Bits, bits}
use Rattle.rules.specs.Layout.{field}
use Rattle.rules.specs.Bundle.{string, body, templates, find_template}
use Rattle.rules.specs.Registry.{get_template}
use Rattle.rules.specs.Partial.{get_partial, is_current_template}
use Rattle.layout.specs.Text.{text_at}
use Rattle.parts.specs.Holds.{Holds, value}
use Rattle.registry.specs.declared.Template.{Template}
use Rattle.registry.specs.Templates.{templates_at, found_view, FoundStands, found_stands}
use Rattle.meaning.specs.Entries.{high, place}
use Rattle.scope.specs.declared.Scope.{Scope}
use Rattle.scope.specs.Scopes.{inline_body, blocks_of}
use Rattle.scope.specs.Standing.{InlineStands, ScopeStands, ScopesStand}
use Rattle.scope.proofs.InlineLaws.{find_none, find_here}
use Rattle.decorators.specs.Inlined.{newest, Unnamed, Named, LocalIs, same_swap}
use Rattle.partials.specs.Finding.{EntryFound, EntryIs, InlineFound, TemplateFound, template_name}

-- The newest of the first i scopes

module _ (s b : Bytes) (ent : List ℕ) (l : List Scope) (used t : ℕ) (st : ScopesStand s b ent l used t) (i : ℕ) (pos : 0 < i) (le : i ≤ used) (m : Bytes) where
  step : get_partial (blocks_of s b ent l i) m ≡ get_partial (blocks_of s b ent l (suc (i - 1))) m
  step = let p : i ≡ suc (i - 1) = omega arith in ap (λ (j : ℕ). get_partial (blocks_of s b ent l j) m) p

  pub turn_found : (k : ℕ) → Named s b ent (newest l i).inline (newest l i).count m k → EntryFound s b ent (get_partial (blocks_of s b ent l i) m) k
  turn_found k n =
      let c = st.each (i - 1) (omega arith) in
      let e : (newest l i).inline + n.turn ≡ k = sym n.at in
      record {
        is = step
            ∙ ap (λ (o : Option rule.Template). maybe o (get_partial (blocks_of s b ent l (i - 1)) m) some)
            (find_here s b ent m (newest l i).inline (newest l i).count n.turn c.distinct n.within n.is)
            ∙ ap (λ (j : ℕ). some (inline_body s b ent j)) e;
        stands = subst (λ (j : ℕ). InlineStands s b ent j) e (c.inlines n.turn n.within);
        within = omega (arith, n.within, n.at, st.within (i - 1) (omega arith), st.entries);
      }

  pub turn_outer : Unnamed s b ent (newest l i).inline (newest l i).count m → get_partial (blocks_of s b ent l (i - 1)) m ≡ get_partial (blocks_of s b ent l i) m
  turn_outer u =
      sym
      (step
      ∙ ap (λ (o : Option rule.Template). maybe o (get_partial (blocks_of s b ent l (i - 1)) m) some) (find_none s b ent m (newest l i).inline (newest l i).count u))

  -- the newest has no inline partial
  pub turn_none : (newest l i).count ≡ 0 → get_partial (blocks_of s b ent l (i - 1)) m ≡ get_partial (blocks_of s b ent l i) m
  turn_none e = turn_outer (λ j lt. absurd (omega arith))

-- as the code has read it
module _ (s b : Bytes) (ent : List ℕ) (l : List Scope) (used t : ℕ) (st : ScopesStand s b ent l used t) (i : ℕ) (pos : 0 < i) (le : i ≤ used) (d : Scope) (here : d ≡ newest l i) where
  pub turn_ready : (2 * (d.inline + d.count) ≤ length ent) × ((j : ℕ) → j < d.count → InlineStands s b ent (d.inline + j))
  turn_ready =
      let f : d.inline + d.count ≤ t = subst (λ (c : Scope). c.inline + c.count ≤ t) (sym here) (st.within (i - 1) (omega arith)) in
      (omega (arith, st.entries), (subst (ScopeStands s b ent) (sym here) (st.each (i - 1) (omega arith))).inlines)

  pub turn_is : (m : Bytes) (r q : RustOption ℕ) → r ≡ q → LocalIs s b ent d.inline d.count m r → LocalIs s b ent (newest l i).inline (newest l i).count m q
  turn_is m r q e h = subst (λ (c : Scope). LocalIs s b ent c.inline c.count m q) here (subst (LocalIs s b ent d.inline d.count m) e h)

-- Templates, by their places

pub named_so : (x : Bool) (m l k : Bytes) → x ≡ same m l → l ≡ k → x ≡ same k m
named_so x m l k h q = h ∙ ap (same m) q ∙ same_swap m k

-- What was found

pub entry_found : (s b : Bytes) (ent : List ℕ) (o : Option rule.Template) (r : RustOption ℕ) (k : ℕ) → EntryIs s b ent o r → r ≡ Some k → EntryFound s b ent o k
entry_found s b ent o r k h e = subst (EntryIs s b ent o) e h

pub entry_none : (s b : Bytes) (ent : List ℕ) (o : Option rule.Template) (r : RustOption ℕ) → EntryIs s b ent o r → r ≡ None → o ≡ none
entry_none s b ent o r h e = subst (EntryIs s b ent o) e h

pub inline_found : (s b : Bytes) (ent : List ℕ) (o : Option rule.Template) (k p e : ℕ) → EntryFound s b ent o k → p ≡ place ent k → e ≡ high ent k → InlineFound (bits b) o p e
inline_found s b ent o k p e f h g =
    record {
      is = f.is ∙ ap₂ (λ (e p : ℕ). some (value rule.tnil (body 16 e) (bits b) p)) (sym g) (sym h);
      depth = subst (λ (e : ℕ). e ≤ 16) (sym g) f.stands.depth;
      inside = subst (λ (p : ℕ). Holds (body 16 e) (bits b) p) (sym h) (subst (λ (e : ℕ). Holds (body 16 e) (bits b) (place ent k)) (sym g) f.stands.inside);
    }

module _ (b : Bits) (H : Holds (templates 16) b 8) (m : Bytes) (o : Option rule.Template) (none-inline : o ≡ none) (r : RustOption (ℕ × ℕ × ℕ))
    (is : r ≡ found_view (body 16 16) b (find_template (templates_at 16 b) m)) where
  said : FoundStands (body 16 16) b (field b 8 8) m (templates_at 16 b) r
  said = subst (FoundStands (body 16 16) b (field b 8 8) m (templates_at 16 b)) (sym is) (found_stands 16 b H m)

  pub template_found : (k p q : ℕ) → r ≡ Some (k, p, q) → TemplateFound b m o (get_template (templates_at 16 b) m) p q
  template_found k p q e =
      let S : FoundStands (body 16 16) b (field b 8 8) m (templates_at 16 b) (Some (k, p, q)) = subst (FoundStands (body 16 16) b (field b 8 8) m (templates_at 16 b)) e said in
      record { no_inline = none-inline; is = S.is; name = S.parts.1; named = S.parts.2; inside = S.parts.3 }

  pub nothing_found : r ≡ None → (o ≡ none) × (get_template (templates_at 16 b) m ≡ none)
  nothing_found e =
      let S : FoundStands (body 16 16) b (field b 8 8) m (templates_at 16 b) None = subst (FoundStands (body 16 16) b (field b 8 8) m (templates_at 16 b)) e said in
      (none-inline, S.is)

-- The current template

pub no_current : (b : Bits) (t : ℕ) (n : Bytes) → t ≡ 0 → false ≡ is_current_template (template_name b t) n
no_current b t n e = sym (ap (λ (p : ℕ). is_current_template (template_name b p) n) e)

pub current_is : (b : Bits) (t : ℕ) (n l : Bytes) (x : Bool) → (t ≡ 0 → ⊥) → x ≡ same n l → l ≡ text_at b (t - 1) → x ≡ is_current_template (template_name b t) n
current_is b t n l x h e q =
    let p : t ≡ suc (t - 1) = omega arith in
    e ∙ ap (same n) q ∙ sym (ap (λ (k : ℕ). is_current_template (template_name b k) n) p)
