use Rattle.settings.specs.Settings.{some_setting, expanded_held, got_known}
use Rattle.test_expand.proofs.call_value.Goals as goal

pub called-requires : goal.called-requires
called-requires c =
    let s = c.args.s.now in
    let b = c.args.b.now in
    let ent = c.args.ent.now in
    let t = c.requires.4.top in
    let w = some_setting s b ent c.args.scopes c.args.used c.args.options t c.requires.2 c.requires.4.stand in
    (c.requires.0, c.requires.1, expanded_held s b ent t c.args.scopes c.args.used _ c.try_from_template-w.result w.setting.stand (c.try_from_template-w.ensures w.g w.st t w.setting) c.in-None.is)

pub returns-in-None : goal.returns-in-None
returns-in-None c =
    let s = c.args.s.now in
    let b = c.args.b.now in
    let ent = c.args.ent.now in
    let t = c.requires.4.top in
    let w = some_setting s b ent c.args.scopes c.args.used c.args.options t c.requires.2 c.requires.4.stand in
    let f = (c.try_from_template-w.ensures w.g w.st t w.setting).fine c.in-None.is in
    got_known s b ent t _ c.called.result (c.called.ensures w.g w.st t f.0 w.setting.alike f.2)
