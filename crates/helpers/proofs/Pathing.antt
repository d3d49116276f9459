-- What an expression is about to do whose name is a path.
use Rattle.std.specs.Prelude.{Result}
use Prim.Native.Nat.{ℕ, zero, suc, ◌+◌}
use mathlib.Core.Bool.{Bool, true, false}
use mathlib.Core.List.{List}
use mathlib.Core.Option.{none, some}
use mathlib.Core.Path.{◌≡◌, refl, sym, ap, ◌∙◌, subst}
use lib.Dec.{eqb}
use borrow.Author.Tests.{eq-eqb, ne_eqb}
use Rattle.rules.specs.Bytes.{Bytes, pick}
use Rattle.rules.specs.Bits.{Bits, bits}
use Rattle.rules.specs.Layout.{field}
use Rattle.rules.specs.Bundle.{path, param, call_of}
use Rattle.rules.specs.Template as template
use Rattle.rules.specs.Template.{name_only}
use Rattle.rules.specs.Error as rule
use Rattle.rules.specs.Error.{got}
use Rattle.rules.specs.Value.{ScopedJson}
use Rattle.rules.specs.State.{RenderContext}
use Rattle.rules.specs.Registry.{Registry, get_helper}
use Rattle.rules.specs.Expand as rules
use Rattle.rules.specs.Render.{render_expression}
use Rattle.layout.specs.Text.{text_at}
use Rattle.parts.specs.Holds.{Holds, end}
use Rattle.parts.specs.Says.{path_at, path_raw_is}
use Rattle.calls.specs.declared.Parameter.TheVariants.{Path}
use Rattle.calls.specs.Calls.{param_of, param_view, param_at, param_path, ParamStands, param_read, name_end, call_at, call_name}
use Rattle.expand.specs.Answers.{Expands}
use Rattle.helpers.specs.declared.Shows.{Shows}
use Rattle.helpers.specs.declared.Shows.TheVariants as shows
use Rattle.helpers.specs.Does.{has, Expresses, rendered}
use Rattle.helpers.proofs.Expressing.{bare_name, called, named_helper, named_value}
use Rattle.error.specs.declared.RenderErrorReason.{RenderErrorReason as Reason}
use Rattle.value.specs.declared.Value.{Value}

module _ (d : ℕ) (b : Bits) (p q : ℕ) (H : Holds (call_of (param d)) b p) (W : param_view b p ≡ Path q) where
  path_stands : ParamStands d b p (Path q)
  path_stands = param_read d b p (call_name d b p H) (Path q) (sym W)

  path_end : end path b q ≡ name_end d b p
  path_end = go (field b 2 p) refl W
    where
      go : (k : ℕ) → field b 2 p ≡ k → param_of (p + 2) k ≡ Path q → end path b q ≡ name_end d b p
      go zero e v = cc
      go (suc zero) e v = let f : q ≡ p + 2 = cc in ap (end path b) f ∙ (param_path d b p (call_name d b p H) e).ends
      go (suc (suc zero)) e v = cc
      go (suc (suc (suc k))) e v = cc

-- Whether the front does not tell: by the number x of what the path leads to, and the number n of what is done; h: whether it is a helper's name

pub far_not : (n x : ℕ) (h all : Bool) → (n ≡ 4294967552 → ⊥) → h ≡ false → eqb x 4294967297 ≡ all → (x ≡ 4294967297 → ⊥) → eqb n 4294967552 ≡ pick h false all
far_not n x h all other unnamed told near = ne_eqb n 4294967552 other ∙ sym (ap (λ (y : Bool). pick y false all) unnamed ∙ sym told ∙ ne_eqb x 4294967297 near)

pub far_helper : (n : ℕ) (h all : Bool) → (n ≡ 4294967552 → ⊥) → h ≡ true → eqb n 4294967552 ≡ pick h false all
far_helper n h all other named = ne_eqb n 4294967552 other ∙ sym (ap (λ (y : Bool). pick y false all) named)

pub far_so : (x : ℕ) (h all : Bool) → h ≡ false → eqb x 4294967297 ≡ all → x ≡ 4294967297 → true ≡ pick h false all
far_so x h all unnamed told far = sym (ap (λ (y : Bool). pick y false all) unnamed ∙ sym told ∙ eq-eqb x 4294967297 far)

-- r is the place behind the path, x the 8 bits there
module _ (s b : Bytes) (ent : List ℕ) (t : ℕ) (g : Registry) (st : RenderContext) (ibw : Bool) (d p q : ℕ) (H : Holds (call_of (param d)) (bits b) p) (W : param_view (bits b) p ≡ Path q)
    (r x : ℕ) (R : r ≡ end path (bits b) q) (X : x ≡ field (bits b) 8 r) where
  abbrev here : template.Call
  here = call_at d (bits b) p

  abbrev name : template.Parameter
  name = param_at d (bits b) p

  abbrev Draws : Shows → Type 0
  Draws u = Expresses s b ent t g here ibw st (render_expression g here ibw st) u

  alone : name_only here ≡ pick (eqb x 0) (some name) none
  alone = bare_name d (bits b) p H x (X ∙ ap (field (bits b) 8) (R ∙ path_end d (bits b) p q H W))

  pub path_called : (x ≡ 0 → ⊥) → Draws shows.Helper
  path_called z = called s b ent t g st here ibw (alone ∙ ap (λ (c : Bool). pick c (some name) none) (ne_eqb x 0 z))

  module _ (z : x ≡ 0) where
    named : name_only here ≡ some name
    named = alone ∙ ap (λ (c : Bool). pick c (some name) none) (eq-eqb x 0 z)

    name_is : rules.expand_as_name g st name ≡ got (text_at (bits b) q)
    name_is = let n = path_stands d (bits b) p q H W in ap (rules.expand_as_name g st) n.is ∙ ap got (path_raw_is (bits b) q n.parts)

    pub path_helper : has (get_helper (text_at (bits b) q)) ≡ true → Draws shows.Helper
    path_helper k = named_helper s b ent t g st here ibw name named (text_at (bits b) q) name_is k

    pub path_value : (strict : Bool) → g.options.strict_mode ≡ strict → has (get_helper (text_at (bits b) q)) ≡ false → (y : Result Value Reason) → Expands s b ent t (rules.evaluate2 g st (path_at (bits b) q)) y
        → (u : Shows) → u ≡ rendered strict y → Draws u
    path_value strict a k y e u f =
        let v = ap (rules.expand g st) (path_stands d (bits b) p q H W).is in
        named_value s b ent t g st here ibw name named strict a (text_at (bits b) q) name_is k y (subst (λ (w : rule.Got ScopedJson). Expands s b ent t w y) (sym v) e) u f
