use Rattle.std.proofs.Common.{arith, refl}
use Rattle.test_scope.proofs.Bundle.{hash, holds_a, holds_b, holds_c, hash_readable, only}
use Rattle.test_scope.proofs.print_hash.Goals as goal

pub print_names-requires : goal.print_names-requires
print_names-requires g c = (omega arith, (holds_a, holds_b, holds_c), omega arith, only _ _ _ hash (hash_readable hash refl refl) c.begin.ensures c.put_scope.ensures)
