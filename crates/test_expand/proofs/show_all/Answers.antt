use Rattle.std.proofs.Common.{arith}
use Rattle.layout.specs.Verdict.{accepts}
use Rattle.test_expand.proofs.show_all.Goals as goal

pub show_main-requires : goal.show_main-requires
show_main-requires g c = (c.requires, accepts _ _ c.check_bundle.ensures c.in-Ok.is, omega arith, omega arith)

pub show_main-requires-2 : goal.show_main-requires-2
show_main-requires-2 g c = (c.requires, accepts _ _ c.check_bundle.ensures c.in-Ok.is, omega arith, omega arith)

pub show_main-requires-3 : goal.show_main-requires-3
show_main-requires-3 g c = (c.requires, accepts _ _ c.check_bundle.ensures c.in-Ok.is, omega arith, omega arith)
