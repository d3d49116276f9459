use Rattle.std.proofs.Common.{arith, subst}
use Rattle.calls.specs.Calls.{ParamHolds, param_stands, param_read}
use Rattle.rules.specs.BundleLaws.{bits_size}
use Rattle.rules.specs.Bits.{bits}
use Rattle.test_template.proofs.print_param.Goals as goal

pub param_at-v-requires : goal.param_at-v-requires
param_at-v-requires g c = omega (arith, (param_stands c.args.d (bits c.args.b.now) c.args.p c.requires.1).fits, bits_size c.args.b.now)

pub print_text-requires : goal.print_text-requires
print_text-requires g c = (c.requires.0, subst (ParamHolds c.args.d (bits c.args.b.now)) c.in-Name.is (param_read c.args.d (bits c.args.b.now) c.args.p c.requires.1 _ c.param_at-v.ensures).parts)

pub print_path-requires : goal.print_path-requires
print_path-requires g c = (c.requires.0, subst (ParamHolds c.args.d (bits c.args.b.now)) c.in-Path.is (param_read c.args.d (bits c.args.b.now) c.args.p c.requires.1 _ c.param_at-v.ensures).parts)

pub print_literal-requires : goal.print_literal-requires
print_literal-requires g c = (c.requires.0, subst (ParamHolds c.args.d (bits c.args.b.now)) c.in-Literal.is (param_read c.args.d (bits c.args.b.now) c.args.p c.requires.1 _ c.param_at-v.ensures).parts)
