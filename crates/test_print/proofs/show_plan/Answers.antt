use Rattle.std.proofs.Common.{ap, sym, ◌∙◌}
use Rattle.places.specs.Children.{is_child}
use Rattle.places.specs.Kinds.{found}
use Rattle.places.specs.Nodes.{some_places}
use Rattle.test_print.proofs.show_plan.Goals as goal

pub nth-requires : goal.nth-requires
nth-requires g c = (c.requires.0, some_places c.args.s.now)

pub show-requires : goal.show-requires
show-requires g c =
    let s = c.args.s.now in (
      c.requires.0,
      c.requires.1,
      λ _. (is_child s 0 c.loop-k.k c.in-Some.c c.requires.0.answers (some_places s) (sym (ap found (sym c.in-Some.is) ∙ c.nth.ensures))).within,
    )
