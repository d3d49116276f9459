-- What a lookup writes.
use Rattle.std.specs.Prelude.{Bool, false, not, ◌||◌, List, ◌≡◌}
use Rattle.rules.specs.Bytes.{Bytes}
use Rattle.rules.specs.Value.{render}
use Rattle.output.specs.declared.Writer.{Writer}
use Rattle.output.specs.Outputs.{outputs}
use Rattle.support.specs.Feed.{escaped, fed}
use Rattle.value.specs.declared.Value.{Value}
use Rattle.meaning.specs.Means.{Means}
use Rattle.scope.specs.declared.Scope.{Scope}
use Rattle.state.specs.declared.RenderContext as code
use Rattle.state.specs.Context.{RenderContext, whole}
use Rattle.state.specs.Setters.{wrote, with_marks, marked, finished}
use Rattle.drawing.specs.Parts.{before_helper}

-- the writer with the marks in front of a helper
abbrev pub marks_in : Writer → Bool → Writer
marks_in w before = with_marks w false (before_helper w before)

-- the context behind a helper; u is the writer behind what it wrote
abbrev pub left_by : RenderContext → Bool → Writer → RenderContext
left_by c before u = finished c.writer (wrote (marked c (before_helper c.writer before)) u)

-- r is what is left of rc by a helper that writes v: escaped, unless html says that it is not, or escaping is disabled
pub record HelperWrote (s b : Bytes) (v : Value) (html before : Bool) (rc r : code.RenderContext) (page texts indent page' texts' : Bytes) : Type 0 where
  pub behind : Writer
  pub written : Means s b v (λ j.
      outputs behind page' texts' ≡ fed indent (escaped (not (html || rc.disable_escape)) (render j)) (outputs (marks_in rc.writer before) page texts))
  pub is : (l : List Scope) → whole r l ≡ left_by (whole rc l) before behind
