use Rattle.std.proofs.Common.{arith, refl}
use Rattle.meaning.specs.Standing.{plain}
use Rattle.value.specs.declared.Value.TheVariants.{Index, Text}
use Rattle.test_lookup.proofs.show_keys.Goals as goal

pub show_looked-requires : goal.show_looked-requires
show_looked-requires g c = (c.requires.0, c.requires.1, c.requires.2, record { used = 0; room = omega arith; stands = plain {v = Index 1} refl (omega arith) })

pub show_looked-requires-2 : goal.show_looked-requires-2
show_looked-requires-2 g c = (c.requires.0, c.requires.1, c.requires.2, record { used = 0; room = omega arith; stands = plain {v = Text 0} refl c.requires.3.0 })

pub show_looked-requires-3 : goal.show_looked-requires-3
show_looked-requires-3 g c = (c.requires.0, c.requires.1, c.requires.2, record { used = 0; room = omega arith; stands = plain {v = Text 48} refl c.requires.3.1 })
