use Rattle.std.proofs.Common.{arith}
use Rattle.places.specs.Children.{around_is}
use Rattle.test_places.proofs.print_up.Goals as goal

pub print_value-requires : goal.print_value-requires
print_value-requires g c =
    let a = c.requires in
    let x = around_is c.args.s.now c.args.p a.0.answers (omega (arith, c.if-p-eq0.false)) a.1 in
    (a.0, omega (arith, c.parent.ensures, x.before, a.1))
