use Rattle.std.proofs.Common.{arith, sym, ◌∙◌}
use Rattle.places.specs.Accepted.{accepted}
use Rattle.test_context.proofs.main.Goals as goal

pub show_all-requires : goal.show_all-requires
show_all-requires c = accepted _ 4096 _ (sym c.read_plan-r.ensures.value ∙ c.if-r-eq0.true) c.read_plan-r.ensures.tab_after (omega arith)
