use Rattle.std.proofs.Common.{subst}
use Rattle.lookup.specs.Answers.{Finds}
use Rattle.meaning.specs.Means.{stands_known}
use Rattle.test_lookup.proofs.show_looked.Goals as goal

pub print_value-requires : goal.print_value-requires
print_value-requires g c =
    let s = c.args.s.now in
    let b = c.args.b.now in
    let ent = c.args.ent.now in
    (c.requires.0, c.requires.1, stands_known s b ent c.requires.2.used _ ((subst (Finds s b ent c.args.v _) c.in-Some.is c.looked_up-found.ensures).stands c.requires.2.used c.requires.2.stands))
