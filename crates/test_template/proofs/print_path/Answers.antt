use Rattle.std.proofs.Common.{subst}
use Rattle.parts.specs.Says.{PathHolds, path_stands, path_read}
use Rattle.rules.specs.Bits.{bits}
use Rattle.test_template.proofs.print_path.Goals as goal

pub print_text-requires : goal.print_text-requires
print_text-requires g c = (c.requires.0, (path_stands (bits c.args.b.now) c.args.p c.requires.1).raw)

pub print_text-requires-in-Local : goal.print_text-requires-in-Local
print_text-requires-in-Local g c = (c.requires.0, subst (PathHolds (bits c.args.b.now)) c.in-Local.is (path_read (bits c.args.b.now) c.args.p c.requires.1 _ c.path_at-v.ensures).parts)
