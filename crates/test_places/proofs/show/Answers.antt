use Rattle.std.proofs.Common.{sym, ◌∙◌}
use Rattle.places.specs.Accepted.{accepted}
use Rattle.test_places.proofs.show.Goals as goal

pub print_all-requires : goal.print_all-requires
print_all-requires g c = accepted _ _ _ (sym c.read_plan-r.ensures.value ∙ c.if-r-ne0.false) c.read_plan-r.ensures.tab_after c.requires
