-- The code's context together with its scopes, which go beside it as an array: what the laws speak of.
use Rattle.std.specs.Prelude.{ℕ, ◌-◌, Bool, List, ◌≡◌, set, get_or, Option as RustOption}
use Rattle.output.specs.declared.Writer.{Writer}
use Rattle.scope.specs.declared.Scope.{Scope}
use Rattle.scope.specs.Scopes.{blank}
use Rattle.scope.specs.Made.{with_count}
use Rattle.state.specs.declared.RenderContext as code
use Rattle.error.specs.declared.RenderErrorReason.{RenderErrorReason as Reason}

pub record RenderContext : Type 0 where
  pub scopes : List Scope
  pub used : ℕ
  pub writer : Writer
  pub total : ℕ
  pub template : ℕ
  pub named : ℕ
  pub line : ℕ
  pub column : ℕ
  -- a set in which the block names of the open scopes are
  pub names : ℕ
  pub bad : RustOption Reason
  pub placed : Bool
  pub disable_escape : Bool

-- the n-th scope of l has k inline partials: the newest gains some while its body is drawn, and only the context tells
abbrev pub gained : List Scope → ℕ → ℕ → List Scope
gained l n k = set l (n - 1) (with_count (get_or l (n - 1) blank) k)

-- l is the array
abbrev pub whole : code.RenderContext → List Scope → RenderContext
whole c l = record {
  scopes = gained l c.used c.count;
  used = c.used;
  writer = c.writer;
  total = c.total;
  template = c.template;
  named = c.named;
  line = c.line;
  column = c.column;
  names = c.names;
  bad = c.bad;
  placed = c.placed;
  disable_escape = c.disable_escape;
}

-- the array knows of all inline partials
abbrev pub Current : List Scope → code.RenderContext → Type 0
Current l c = (get_or l (c.used - 1) blank).count ≡ c.count

-- x stands in the place of the newest scope of the array
abbrev pub topped : code.RenderContext → List Scope → Scope → RenderContext
topped c l x = whole c (set l (c.used - 1) x)

-- x is the newest scope of the array, and the array knows of all its inline partials
pub record Front (l : List Scope) (c : code.RenderContext) (x : Scope) : Type 0 where
  pub is : x ≡ get_or l (c.used - 1) blank
  pub current : x.count ≡ c.count
