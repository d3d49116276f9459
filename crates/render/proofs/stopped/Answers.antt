use native.Mathlib.Omega.{arith}
use Prim.Native.Nat.{ℕ, ◌+◌}
use mathlib.Core.Path.{ap, ◌∙◌}
use Rattle.rules.specs.Bits.{bits}
use Rattle.rules.specs.Layout.{field}
use Rattle.state.specs.Context.{whole}
use Rattle.state.specs.Setters.{located}
use borrow.Author.Rules.{rules}
use Rattle.render.proofs.stopped.Goals as goal

pub returns : goal.returns
returns c = let a = c.args in λ l. c.located.ensures l ∙ ap (λ (x : ℕ). located (whole a.rc l) a.name x c.field-2.result) c.field.ensures ∙ ap (located (whole a.rc l) a.name (field (bits a.b.now) 16 a.p)) c.field-2.ensures
