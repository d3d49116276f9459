use Rattle.scope.specs.NameBits.{HasKeys}
use Rattle.scope.proofs.hash_bits.Given as goal

abbrev pub invariant-loop-i : goal.invariant-loop-i
invariant-loop-i l = HasKeys l.b l.ent l.r l.h l.i
