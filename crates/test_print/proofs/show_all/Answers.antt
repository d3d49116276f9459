use Rattle.std.proofs.Common.{sym}
use Rattle.places.specs.Children.{none_some}
use Rattle.test_print.proofs.show_all.Goals as goal

pub show-requires-6 : goal.show-requires-6
show-requires-6 g c = (c.requires.0, c.requires.1, λ e. none_some (sym e))
