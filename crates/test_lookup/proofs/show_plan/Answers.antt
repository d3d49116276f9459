use Rattle.std.proofs.Common.{arith, refl, subst}
use Rattle.meaning.specs.Standing.{plain}
use Rattle.value.specs.declared.Value.TheVariants.{Place}
use Rattle.places.proofs.Findings.{found_child}
use Rattle.places.specs.Nodes.{some_places}
use Rattle.places.specs.Kinds.{FoundIn}
use Rattle.test_lookup.proofs.show_plan.Goals as goal

pub nth-requires : goal.nth-requires
nth-requires g c = (c.requires.0, some_places c.args.s.now)

pub show_names-requires : goal.show_names-requires
show_names-requires g c =
    let s = c.args.s.now in
    (c.requires.0, c.requires.1, record { used = 0; room = omega arith; stands = plain {v = Place c.in-Some.c} refl (subst (FoundIn s) c.in-Some.is (found_child s c.requires.0.answers 0 (some_places s) c.loop-k.k c.nth.result c.nth.ensures)) }, c.requires.2)

pub show_keys-requires : goal.show_keys-requires
show_keys-requires g c =
    let s = c.args.s.now in
    (c.requires.0, c.requires.1, record { used = 0; room = omega arith; stands = plain {v = Place c.in-Some.c} refl (subst (FoundIn s) c.in-Some.is (found_child s c.requires.0.answers 0 (some_places s) c.loop-k.k c.nth.result c.nth.ensures)) }, (c.requires.2.0, c.requires.2.2))
