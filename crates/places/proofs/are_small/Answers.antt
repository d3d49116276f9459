use Rattle.places.proofs.Short.{small_each}
use Rattle.places.proofs.are_small.Goals as goal

pub returns : goal.returns
returns c = small_each c.args.v
