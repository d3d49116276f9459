use mathlib.Core.Bool.{◌||◌}
use mathlib.Core.Path.{ap₂}
use lib.Dec.{eqb}
use borrow.Author.Rules.{rules}
use Rattle.expand.proofs.may_name.Goals as goal

pub returns : goal.returns
returns c = let x = c.field-x.ensures in
    ap₂ ◌||◌ (ap₂ ◌||◌ (ap₂ ◌||◌ (ap₂ ◌||◌ (ap₂ eqb x c.head.ensures) (ap₂ eqb x c.head-2.ensures)) (ap₂ eqb x c.head-3.ensures)) (ap₂ eqb x c.head-4.ensures)) (ap₂ eqb x c.head-5.ensures)
