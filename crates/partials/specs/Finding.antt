-- partial.rs: which partial a name stands for. s is the plan, b the bundle, ent the entries of open partials.
use Rattle.std.specs.Prelude.{ℕ, zero, suc, ◌+◌, ◌*◌, ◌≤◌, ◌<◌, List, ◌≡◌, length, Option as RustOption, Some, None}
use Rattle.std.proofs.Math.Option.{Option, none, some}
use Rattle.std.proofs.Common.{sym, ap, ap₂, ◌∙◌}
use Rattle.rules.specs.Bytes.{Bytes}
use Rattle.rules.specs.Template.{Template, tnil}
use Rattle.rules.specs.Bits.{Bits}
use Rattle.rules.specs.Bundle.{string, body}
use Rattle.rules.specs.Block.{Block}
use Rattle.rules.specs.BlockUtil.{Drawable}
use Rattle.rules.specs.Registry.{Registry, get_template}
use Rattle.rules.specs.Partial.{Rendering, get_partial, of_template, of_partial, find_partial}
use Rattle.layout.specs.Text.{text_at}
use Rattle.parts.specs.Holds.{Holds, value}
use Rattle.scope.specs.Scopes.{inline_body}
use Rattle.scope.specs.Standing.{InlineStands}
use Rattle.partials.specs.declared.Found.{Found}
use Rattle.partials.specs.declared.Found.TheVariants.{Inline, Template as Named, Nothing}

-- the inline partial in the entry k
pub record EntryFound (s b : Bytes) (ent : List ℕ) (o : Option Template) (k : ℕ) : Type 0 where
  pub is : o ≡ some (inline_body s b ent k)
  pub stands : InlineStands s b ent k
  pub within : 2 * k + 1 < length ent

abbrev pub EntryIs : Bytes → Bytes → List ℕ → Option Template → RustOption ℕ → Type 0
EntryIs s b ent o (Some k) = EntryFound s b ent o k
EntryIs s b ent o None = o ≡ none

-- a body of so many depths at a place
pub record InlineFound (b : Bits) (o : Option Template) (p e : ℕ) : Type 0 where
  pub is : o ≡ some (value tnil (body 16 e) b p)
  pub depth : e ≤ 16
  pub inside : Holds (body 16 e) b p

-- a template of the bundle, by the places of its name and its body
pub record TemplateFound (b : Bits) (n : Bytes) (o g : Option Template) (p q : ℕ) : Type 0 where
  pub no_inline : o ≡ none
  pub is : g ≡ some (value tnil (body 16 16) b q)
  pub name : Holds string b p
  pub named : text_at b p ≡ n
  pub inside : Holds (body 16 16) b q

-- o is the inline partial of the name n, and g the template
abbrev pub FoundIs : Bits → Bytes → Option Template → Option Template → Found → Type 0
FoundIs b n o g (Inline p e) = InlineFound b o p e
FoundIs b n o g (Named p q) = TemplateFound b n o g p q
FoundIs b n o g Nothing = (o ≡ none) × (g ≡ none)

-- what draws it
abbrev pub drawn : Bits → Rendering → Found → Drawable
drawn b R (Inline p e) = some (R none (value tnil (body 16 e) b p))
drawn b R (Named p q) = some (R (some (text_at b p)) (value tnil (body 16 16) b q))
drawn b R Nothing = none

pub found_drawn : (b : Bits) (n : Bytes) (g : Registry) (R : Rendering) (l : List Block) (r : Found) → FoundIs b n (get_partial l n) (get_template g.templates n) r
    → find_partial g R n l ≡ drawn b R r
found_drawn b n g R l (Inline p e) h = ap (λ (o : Option Template). of_partial R o (of_template R n (get_template g.templates n))) h.is
found_drawn b n g R l (Named p q) h =
    ap₂ (λ (o x : Option Template). of_partial R o (of_template R n x)) h.no_inline h.is ∙ ap (λ (m : Bytes). some (R (some m) (value tnil (body 16 16) b q))) (sym h.named)
found_drawn b n g R l Nothing h = ap₂ (λ (o x : Option Template). of_partial R o (of_template R n x)) h.0 h.1

-- the name of the current template: 0 where there is none, or else one more than the place of its string
abbrev pub template_name : Bits → ℕ → Option Bytes
template_name b zero = none
template_name b (suc p) = some (text_at b p)
