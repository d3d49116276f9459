use Rattle.rules.specs.Json.{jbool}
use Rattle.rules.specs.Value.{render}
use Rattle.text.specs.Strip.{stripped}
use borrow.Author.Rules.{rules}
use mathlib.Core.Path.{subst, sym}
use Rattle.print.specs.Target as target
use Rattle.print.proofs.strip_bool.Goals as goal

pub returns-then-x : goal.returns-then-x
returns-then-x c = let a = c.args in subst (λ x. target.Stripped a.s.now a.b.now a.w.now (stripped (render (jbool x)) (target.rest a.s.now a.b.now a.w.now a.g)) c.strip_bytes.result) (sym c.if-x.true) c.strip_bytes.ensures

pub returns : goal.returns
returns c = let a = c.args in subst (λ x. target.Stripped a.s.now a.b.now a.w.now (stripped (render (jbool x)) (target.rest a.s.now a.b.now a.w.now a.g)) c.strip_bytes-2.result) (sym c.if-x.false) c.strip_bytes-2.ensures
