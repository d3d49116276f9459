-- Small parts of the drawing.
use Rattle.std.specs.Prelude.{Bool, true, false, ◌&&◌, ◌||◌, Option as RustOption, ℕ}
use Rattle.output.specs.declared.Writer.{Writer}
use Rattle.inlining.specs.Decorated.{is_at}

-- whether an indent comes in front of what a helper writes
abbrev pub before_helper : Writer → Bool → Bool
before_helper w b = w.indent_before_write || (b && w.trailing_newline)

-- the same of a partial with an indent of its own
abbrev pub before_partial : Writer → RustOption ℕ → Bool → Bool
before_partial w m b = b && (w.trailing_newline || is_at m)
