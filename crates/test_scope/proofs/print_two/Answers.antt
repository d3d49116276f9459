use Rattle.std.proofs.Common.{arith, refl}
use Rattle.test_scope.proofs.Bundle.{two, holds_a, holds_b, holds_c, two_readable, only}
use Rattle.test_scope.proofs.print_two.Goals as goal

pub print_names-requires : goal.print_names-requires
print_names-requires g c = (omega arith, (holds_a, holds_b, holds_c), omega arith, only _ _ _ two (two_readable _ two refl refl refl) c.begin.ensures c.put_scope.ensures)
