use Rattle.std.proofs.Common.{subst}
use Rattle.chars.specs.Spelled.{Parted}
use Rattle.test_chars.proofs.show_all.Goals as goal

pub show-requires : goal.show-requires
show-requires g c =
    let f = subst (λ z. Parted c.args.s.now c.args.b.now c.loop-v.u z) c.in-Some.is c.next_char.ensures in
    (c.requires.0, c.requires.1, f.value.stands)

pub show_alone-requires : goal.show_alone-requires
show_alone-requires g c =
    let f = subst (λ z. Parted c.args.s.now c.args.b.now c.loop-v.u z) c.in-Some.is c.next_char.ensures in
    (c.requires.0, c.requires.1, f.value.stands)

pub loop-v-smaller : goal.loop-v-smaller
loop-v-smaller g c =
    let f = subst (λ z. Parted c.args.s.now c.args.b.now c.loop-v.u z) c.in-Some.is c.next_char.ensures in
    f.shorter

pub loop-v-preserved : goal.loop-v-preserved
loop-v-preserved g c =
    let f = subst (λ z. Parted c.args.s.now c.args.b.now c.loop-v.u z) c.in-Some.is c.next_char.ensures in
    f.spelled
