use Rattle.std.specs.Prelude.{None}
use mathlib.Core.Bool.{false}
use mathlib.Core.Path.{ap}
use lib.ListN.{replicate}
use Rattle.scope.specs.Scopes.{blank}
use Rattle.output.specs.declared.Writer.{Writer}
use Rattle.state.specs.Context.{RenderContext}
use borrow.Author.Rules.{rules}
use Rattle.state.proofs.new.Goals as goal

abbrev started : Writer → RenderContext
started w = record { scopes = replicate 32 blank; used = 1; writer = w; total = 0; template = 0; named = 0; line = 0; column = 0; names = 0; bad = None; placed = false; disable_escape = false }

pub returns : goal.returns
returns c = ap started c.new.ensures
