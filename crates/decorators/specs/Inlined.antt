-- decorators/inline.rs: what `inline` answers. s is the plan, b the bundle, ent the entries of open partials.
use Rattle.std.specs.Prelude.{ℕ, ◌+◌, ◌-◌, ◌≤◌, ◌<◌, Bool, true, false, List, [], ◌≡◌, refl, get_or, Option as RustOption, Some, None}
use Rattle.std.proofs.Math.Option.{Option, none, some}
use Rattle.std.proofs.Common.{sym, ap, ◌∙◌}
use Rattle.rules.specs.Bytes.{Bytes, maybe, same}
use Rattle.rules.specs.Json.{Json, as_str}
use Rattle.rules.specs.Order.{same_refl, same_eq}
use Rattle.rules.specs.Template.{Template}
use Rattle.rules.specs.Error.{RenderErrorReason}
use Rattle.rules.specs.Partials.{define}
use Rattle.rules.specs.State.{RenderContext, set_block_partials, entries, Res, ok, fail}
use Rattle.rules.specs.Registry.{Registry}
use Rattle.rules.specs.BlockUtil as block-util
use Rattle.rules.specs.Inline.{inline}
use Rattle.value.specs.declared.Value.{Value}
use Rattle.meaning.specs.Meaning.{json_of}
use Rattle.meaning.specs.Standing.{Stands}
use Rattle.scope.specs.declared.Scope.{Scope}
use Rattle.scope.specs.Scopes.{inline_name, partials_of, blank}
use Rattle.expand.specs.declared.Expanded.{Expanded}
use Rattle.expand.specs.Answers.{name_of, IsExpanded}
use Rattle.decorators.specs.declared.Inlined.{Inlined}
use Rattle.decorators.specs.declared.Inlined.TheVariants.{Bad, New, Again}
use Rattle.error.specs.declared.RenderErrorReason.{RenderErrorReason as Reason}
use Rattle.error.specs.Reasons.{refusal}

-- whether it is a string
abbrev pub is_string : Json → Bool
is_string j = maybe (as_str j) false (λ n. true)

abbrev pub has_body : Option Template → Bool
has_body none = false
has_body (some t) = true

abbrev pub newest : List Scope → ℕ → Scope
newest l used = get_or l (used - 1) blank

-- Inline partials by name: n entries from e on

-- none of them has the name m
abbrev pub Unnamed : Bytes → Bytes → List ℕ → ℕ → ℕ → Bytes → Type 0
Unnamed s b ent e n m = (i : ℕ) → i < n → same (inline_name s b ent (e + i)) m ≡ false

-- the one at k is the first that has it
pub record Named (s b : Bytes) (ent : List ℕ) (e n : ℕ) (m : Bytes) (k : ℕ) : Type 0 where
  pub turn : ℕ
  pub within : turn < n
  pub at : k ≡ e + turn
  pub is : same (inline_name s b ent (e + turn)) m ≡ true
  pub first : Unnamed s b ent e turn m

abbrev pub LocalIs : Bytes → Bytes → List ℕ → ℕ → ℕ → Bytes → RustOption ℕ → Type 0
LocalIs s b ent e n m (Some k) = Named s b ent e n m k
LocalIs s b ent e n m None = Unnamed s b ent e n m

-- Answers

-- a refusal, as the code keeps it
pub record Fails (x : Res) (n : RustOption Reason) : Type 0 where
  pub reason : RenderErrorReason
  pub is : x ≡ fail reason
  pub by_reason : refusal reason ≡ n

-- the body is kept under the name that v says
pub record Defines (s b : Bytes) (ent : List ℕ) (t : ℕ) (w : Expanded) (st : RenderContext) (T : Option Template) (x : Res) (v : Value) : Type 0 where
  pub first : v ≡ w.first
  pub stands : Stands s b ent t v
  pub name : as_str (json_of s b ent v) ≡ some (name_of s b ent v)
  pub result : (B : Template) → T ≡ some B → x ≡ ok (set_block_partials (define (name_of s b ent v) B st.seen.block_partials) st) []

-- c is the newest scope, and so many entries are taken
abbrev pub InlinedIs : Bytes → Bytes → List ℕ → ℕ → Scope → ℕ → Expanded → RenderContext → Option Template → Res → Inlined → Type 0
InlinedIs s b ent t c taken w st T x (Bad e) = Fails x (Some e)
InlinedIs s b ent t c taken w st T x (New v) = Defines s b ent t w st T x v × Unnamed s b ent c.inline c.count (name_of s b ent v) × (taken < 4096)
InlinedIs s b ent t c taken w st T x (Again k v) = Defines s b ent t w st T x v × Named s b ent c.inline c.count (name_of s b ent v) k

-- what the code is handed as places and numbers: c says the inline partials of the state; T is the element's body
pub record Inlining (s b : Bytes) (ent : List ℕ) (c : Scope) (taken : ℕ) (w : Expanded) (has : Bool) (g : Registry) (st : RenderContext) (t : ℕ) (e : block-util.Expanded) (T : Option Template) : Type 0 where
  pub partials : st.seen.block_partials ≡ partials_of s b ent c.inline c.count
  pub expanded : IsExpanded s b ent t w e
  pub limit : g.limits.entries ≡ 4096
  pub total : entries st ≡ taken
  pub few : taken ≤ 4096
  pub content : has ≡ has_body T

abbrev pub Inlines : Bytes → Bytes → List ℕ → Scope → ℕ → Expanded → Bool → Inlined → Type 0
Inlines s b ent c taken w has r =
    (g : Registry) (st : RenderContext) (t : ℕ) (e : block-util.Expanded) (T : Option Template) → Inlining s b ent c taken w has g st t e T
    → InlinedIs s b ent t c taken w st T (inline g e.params T st) r

-- a name is compared either way round
pub same_swap : (a b : Bytes) → same a b ≡ same b a
same_swap a b = go (same a b) (same b a) refl refl
  where
    go : (x y : Bool) → same a b ≡ x → same b a ≡ y → x ≡ y
    go true true p q = refl
    go false false p q = refl
    go true false p q = sym (same_refl b) ∙ ap (same b) (sym (same_eq a b p)) ∙ q
    go false true p q = sym (sym (same_refl a) ∙ ap (same a) (sym (same_eq b a q)) ∙ p)
