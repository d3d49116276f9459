use Rattle.std.specs.Prelude.{Option as RustOption, ℕ}
use Rattle.targets.specs.Target.{own_target}
use mathlib.Core.Path.{◌∙◌, ap, sym}
use borrow.Author.Rules.{rules}
use Rattle.targets.proofs.own_target.Goals as goal

pub returns-in-Some : goal.returns-in-Some
returns-in-Some c = sym (ap (λ (m : RustOption ℕ). own_target m c.args.d) c.in-Some.is)

pub returns-in-None : goal.returns-in-None
returns-in-None c = sym (ap (λ (m : RustOption ℕ). own_target m c.args.d) c.in-None.is)
