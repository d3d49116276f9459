use Rattle.std.proofs.Common.{subst, false}
use Rattle.meaning.specs.Means.{stands_known}
use Rattle.context.specs.Evaluated.{Evaluates}
use Rattle.settings.specs.Settings.{some_setting}
use Rattle.test_context.proofs.show_path.Goals as goal

pub print_value-requires : goal.print_value-requires
print_value-requires g c =
    let s = c.args.s.now in
    let b = c.args.b.now in
    let ent = c.args.ent.now in
    let t = c.requires.4.top in
    let w = some_setting s b ent c.args.scopes c.args.used (record { strict = false; recursive_lookup = c.args.recursive; guide_truth = false }) t c.requires.2 c.requires.4.stand in
    let h = w.setting in
    (c.requires.0, c.requires.1, stands_known s b ent t _ (subst (Evaluates s b ent t _) c.in-Is.is (c.evaluate2-found.ensures w.g w.st t h.plan h.recursive h.open_scopes h.stand)).1)
