use Rattle.std.proofs.Common.{subst}
use Rattle.chars.specs.Spelled.{Parted}
use Rattle.test_chars.proofs.show_alone.Goals as goal

pub show-requires : goal.show-requires
show-requires g c =
    let f = subst (λ z. Parted c.args.s.now c.args.b.now c.text_of-t.result z) c.in-Some.is c.next_char.ensures in
    (c.requires.0, c.requires.1, f.value.stands)
