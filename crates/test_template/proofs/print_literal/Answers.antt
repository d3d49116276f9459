use Rattle.std.proofs.Common.{subst}
use Rattle.parts.specs.Says.{LiteralHolds, literal_read}
use Rattle.rules.specs.Bits.{bits}
use Rattle.test_template.proofs.print_literal.Goals as goal

pub print_text-requires : goal.print_text-requires
print_text-requires g c = (c.requires.0, subst (LiteralHolds (bits c.args.b.now)) c.in-String.is (literal_read (bits c.args.b.now) c.args.p c.requires.1 _ c.literal_at-v.ensures).parts)
