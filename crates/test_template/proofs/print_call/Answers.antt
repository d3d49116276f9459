use Rattle.calls.specs.Calls.{call_stands, call_read}
use Rattle.rules.specs.Bits.{bits}
use Rattle.test_template.proofs.print_call.Goals as goal

pub print_param-requires : goal.print_param-requires
print_param-requires g c = (c.requires.0, (call_stands c.args.d (bits c.args.b.now) c.args.p c.requires.1).name)

pub print_params-requires : goal.print_params-requires
print_params-requires g c = (c.requires.0, (call_read c.args.d (bits c.args.b.now) c.args.p c.requires.1 _ c.call_at-v.ensures).params)

pub print_pairs-requires : goal.print_pairs-requires
print_pairs-requires g c = (c.requires.0, (call_read c.args.d (bits c.args.b.now) c.args.p c.requires.1 _ c.call_at-v.ensures).pairs)
