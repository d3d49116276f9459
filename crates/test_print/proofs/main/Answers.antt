use Rattle.std.proofs.Common.{arith, refl, sym, ◌∙◌, [], ◌∷◌}
use Rattle.places.specs.Accepted.{accepted}
use Rattle.rules.specs.Bits.{bits}
use Rattle.rules.specs.Layout.{field}
use Rattle.test_print.proofs.main.Goals as goal

pub show_all-requires : goal.show_all-requires
unfolding bits field
show_all-requires c =
    let r = c.read_plan-r in (
      accepted _ 4096 _ (sym r.ensures.value ∙ c.if-r-eq0.true) r.ensures.tab_after (omega arith),
      omega arith,
      record { found = 104 ∷ 105 ∷ []; behind = 32; reads = refl },
    )
