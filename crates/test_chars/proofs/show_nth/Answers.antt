use Rattle.std.proofs.Common.{subst}
use Rattle.std.proofs.Math.ListN.{get_elem?}
use Rattle.chars.specs.Spelled.{Chosen}
use Rattle.rules.specs.Context.{chars}
use Rattle.text.specs.Rest.{rest}
use Rattle.test_chars.proofs.show_nth.Goals as goal

pub show-requires : goal.show-requires
show-requires g c =
    let f = subst (λ z. Chosen c.args.s.now c.args.b.now (get_elem? (chars (rest c.args.s.now c.args.b.now c.args.t)) c.args.k) z) c.in-Some.is c.nth_char.ensures in
    (c.requires.0, c.requires.1, f.value.stands)
