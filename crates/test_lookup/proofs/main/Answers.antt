use Rattle.std.proofs.Common.{arith, refl, sym, ◌∙◌, [], ◌∷◌}
use Rattle.places.specs.Accepted.{accepted}
use Rattle.rules.specs.Bits.{bits}
use Rattle.rules.specs.Layout.{field}
use Rattle.test_lookup.proofs.main.Goals as goal

pub show_plan-requires : goal.show_plan-requires
unfolding bits field
show_plan-requires c =
    let r = c.read_plan-r in (
      accepted _ 4096 _ (sym r.ensures.value ∙ c.if-r-eq0.true) r.ensures.tab_after (omega arith),
      omega arith,
      (
        record { found = 97 ∷ []; behind = 24; reads = refl },
        record { found = 107 ∷ []; behind = 48; reads = refl },
        record { found = 49 ∷ []; behind = 72; reads = refl },
        record { found = 43 ∷ 49 ∷ []; behind = 104; reads = refl },
        record { found = 48 ∷ 50 ∷ []; behind = 136; reads = refl },
        record { found = 120 ∷ []; behind = 160; reads = refl },
      ),
    )
