-- render.rs: `eval_decorator`, what it leaves. s is the plan, b the bundle, ent the entries of open partials.
use Rattle.std.specs.Prelude.{ℕ, ◌+◌, ◌-◌, ◌*◌, ◌≤◌, ◌<◌, Bool, true, false, List, ◌≡◌, length, set, Option as RustOption, Some, None}
use Rattle.std.proofs.Math.Option.{Option, none, some}
use Rattle.rules.specs.Bytes.{Bytes}
use Rattle.rules.specs.Bits.{Bits, bits}
use Rattle.rules.specs.Template.{Template}
use Rattle.rules.specs.Registry.{Registry}
use Rattle.rules.specs.Render.{eval_decorator}
use Rattle.parts.specs.Says.{indent_says}
use Rattle.calls.specs.Calls.{call_at}
use Rattle.template.specs.Views.{template_at}
use Rattle.places.specs.Places.{json_at}
use Rattle.value.specs.declared.Value.{Value}
use Rattle.value.specs.Numbers.{Fits, encoded}
use Rattle.meaning.specs.Entries.{low}
use Rattle.entries.specs.Stored.{stored}
use Rattle.scope.specs.declared.Scope.{Scope}
use Rattle.scope.specs.Made.{with_count}
use Rattle.expand.specs.declared.Options.{Options}
use Rattle.decorators.specs.declared.Inlined.{Inlined}
use Rattle.decorators.specs.declared.Inlined.TheVariants.{Bad, New, Again}
use Rattle.decorators.specs.Inlined.{newest}
use Rattle.state.specs.Context.{RenderContext}
use Rattle.state.specs.Setters.{failed, with_scopes}
use Rattle.state.specs.World.{world, abs, Ready, Draws}
use Rattle.error.specs.declared.RenderErrorReason.TheVariants.{BlockContentRequired}
use Rattle.error.specs.Reasons.{refusal}

abbrev pub is_at : RustOption ℕ → Bool
is_at (Some q) = true
is_at None = false

-- the element's body, with d depths left
abbrev pub template_says : ℕ → Bits → RustOption ℕ → Option Template
template_says d b (Some q) = some (template_at 16 d b q)
template_says d b None = none

abbrev pub place_of : RustOption ℕ → ℕ
place_of (Some q) = q
place_of None = 0

-- an answer of `inline`, where without a body nothing is kept
abbrev pub with_body : Bool → Inlined → Inlined
with_body true x = x
with_body false (Bad n) = Bad n
with_body false (New v) = Bad BlockContentRequired
with_body false (Again k v) = Bad BlockContentRequired

-- the newest scope has an inline partial more
abbrev pub one_more : RenderContext → RenderContext
one_more c = with_scopes c (set c.scopes (c.used - 1) (with_count (newest c.scopes c.used) ((newest c.scopes c.used).count + 1))) c.used (c.total + 1)

-- there is an entry for it, behind those in use, and its name has a number; f is the newest of so many scopes, and so many entries are taken
pub record NewFits (ent : List ℕ) (f : Scope) (used taken : ℕ) (v : Value) : Type 0 where
  pub name : Fits v
  pub most : used ≤ 32
  pub near : f.inline + f.count < 4096
  pub table : 8192 ≤ length ent
  pub few : taken < 4096

-- Behind each answer of `inline`: f is the newest scope, q the place of the body, d the depths that it has left

abbrev pub context_after : RenderContext → Inlined → RenderContext
context_after c (Bad e) = failed c (Some e)
context_after c (New v) = one_more c
context_after c (Again k v) = c

abbrev pub entries_after : Scope → List ℕ → ℕ → ℕ → Inlined → List ℕ
entries_after f ent d q (Bad n) = ent
entries_after f ent d q (New v) = stored ent (f.inline + f.count) (encoded v) d q
entries_after f ent d q (Again k v) = stored ent k (low ent k) d q

abbrev pub Keepable : List ℕ → Scope → ℕ → ℕ → Inlined → Type 0
Keepable ent f used taken (Bad n) = Unit {0}
Keepable ent f used taken (New v) = NewFits ent f used taken v
Keepable ent f used taken (Again k v) = 2 * k + 1 < length ent

-- r and ent' are what an answer makes of c and ent; a refusal leaves the entries as they are
pub record Leaves (c r : RenderContext) (ent ent' : List ℕ) (d : ℕ) (body : RustOption ℕ) : Type 0 where
  pub answer : Inlined
  pub context : r ≡ context_after c answer
  pub table : ent' ≡ entries_after (newest c.scopes c.used) ent d (place_of body) answer
  pub refused : (r.bad ≡ None → ⊥) → ent' ≡ ent

-- with some page, texts and indent the context may be drawn from
pub record SomeReady (s b : Bytes) (c : RenderContext) (ent : List ℕ) : Type 0 where
  pub page : Bytes
  pub texts : Bytes
  pub indent : Bytes
  pub ready : Ready s b (world c page texts indent ent)

-- what of the registry the code is handed
pub record Given (s : Bytes) (o : Options) (g : Registry) : Type 0 where
  pub plan : g.plan ≡ json_at s 0
  pub strict : g.options.strict_mode ≡ o.strict
  pub recursive : g.options.recursive_lookup ≡ o.recursive_lookup
  pub scopes : g.limits.scopes ≡ 32
  pub indent : g.limits.indent ≡ 256
  pub entries : g.limits.entries ≡ 4096

-- r with ent' is what the rule makes of c with ent, whatever page, texts and indent there are
abbrev pub Decorates : Bytes → Bytes → RenderContext → RenderContext → List ℕ → List ℕ → Options → ℕ → RustOption ℕ → RustOption ℕ → ℕ → Type 0
Decorates s b c r ent ent' o p body at d =
    (g : Registry) (page texts indent : Bytes) → Given s o g → Ready s b (world c page texts indent ent)
    → Draws s b (world c page texts indent ent) (world r page texts indent ent')
    (eval_decorator g (call_at d (bits b) p) (template_says d (bits b) body) (indent_says (bits b) at) (abs s b (world c page texts indent ent)))
