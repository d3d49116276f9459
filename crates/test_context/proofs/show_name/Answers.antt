use Rattle.std.proofs.Common.{arith, subst, sym, ◌∙◌}
use Rattle.rules.specs.Bits.{bits}
use Rattle.rules.specs.BundleLaws.{bits_size}
use Rattle.calls.specs.Calls.{param_fits, ParamStands, param_stands}
use Rattle.test_context.proofs.show_name.Goals as goal

pub param_at-x-requires : goal.param_at-x-requires
param_at-x-requires g c = omega (arith, c.requires.1, param_fits c.args.d (bits c.args.b.now) c.args.p c.requires.5, bits_size c.args.b.now)

pub show_path-requires : goal.show_path-requires
show_path-requires g c =
    let b = bits c.args.b.now in
    let x = subst (ParamStands c.args.d b c.args.p) (sym c.param_at-x.ensures ∙ c.in-Path.is) (param_stands c.args.d b c.args.p c.requires.5) in
    (c.requires.0, c.requires.1, c.requires.2, c.requires.3, c.requires.4, x.parts)
