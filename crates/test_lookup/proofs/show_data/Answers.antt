use Rattle.std.proofs.Common.{subst}
use Rattle.lookup.specs.Answers.{DataGot}
use Rattle.meaning.specs.Means.{stands_known}
use Rattle.layout.specs.Text.{text_at}
use Rattle.rules.specs.Bits.{bits}
use Rattle.test_lookup.proofs.show_data.Goals as goal

pub print_value-requires : goal.print_value-requires
print_value-requires g c =
    let s = c.args.s.now in
    let b = c.args.b.now in
    let ent = c.args.ent.now in
    (c.requires.0, c.requires.1, stands_known s b ent c.requires.2.used _ ((subst (DataGot s b ent c.args.v (text_at (bits b) c.args.q)) c.in-Is.is c.get_data-found.ensures).stands c.requires.2.used c.requires.2.stands))
