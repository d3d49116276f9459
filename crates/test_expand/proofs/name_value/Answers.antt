use Rattle.settings.specs.Settings.{some_setting}
use Rattle.test_expand.proofs.Names.{name_known}
use Rattle.test_expand.proofs.name_value.Goals as goal

pub returns : goal.returns
returns c =
    let s = c.args.s.now in
    let b = c.args.b.now in
    let ent = c.args.ent.now in
    let t = c.requires.4.top in
    let w = some_setting s b ent c.args.scopes c.args.used c.args.options t c.requires.2 c.requires.4.stand in
    name_known s b ent t _ c.expand_as_name.result (c.expand_as_name.ensures w.g w.st t w.setting)
