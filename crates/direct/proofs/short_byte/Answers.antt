use Rattle.direct.specs.Direct.{short_get}
use Rattle.direct.proofs.short_byte.Goals as goal

pub returns : goal.returns
returns c = short_get c.args.x c.args.j c.requires
