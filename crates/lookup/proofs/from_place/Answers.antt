use Rattle.std.specs.Prelude.{Option as RustOption, ℕ}
use Rattle.lookup.specs.Places as spec
use Rattle.places.specs.Kinds.{found}
use mathlib.Core.Path.{ap, sym}
use borrow.Author.Rules.{rules}
use Rattle.lookup.proofs.from_place.Goals as goal

pub returns-in-Some : goal.returns-in-Some
returns-in-Some c = sym (ap (λ (x : RustOption ℕ). spec.reached_at (found x)) c.in-Some.is)
