use Rattle.std.proofs.Common.{subst}
use Rattle.calls.specs.Calls.{call_stands}
use Rattle.template.specs.Views.{ElementHolds}
use Rattle.rules.specs.Bits.{bits}
use Rattle.test_expand.proofs.show_element.Goals as goal

pub show_name-requires : goal.show_name-requires
show_name-requires g c = (c.requires.0, c.requires.1, c.requires.2, c.requires.3, c.requires.4, (call_stands c.args.d (bits c.args.b.now) _ (subst (ElementHolds 16 c.args.d (bits c.args.b.now)) c.in-Expression.is c.requires.5)).name)

pub show_call-requires : goal.show_call-requires
show_call-requires g c = (c.requires.0, c.requires.1, c.requires.2, c.requires.3, c.requires.4, subst (ElementHolds 16 c.args.d (bits c.args.b.now)) c.in-Expression.is c.requires.5)
