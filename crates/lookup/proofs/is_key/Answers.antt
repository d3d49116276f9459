use Rattle.rules.specs.Bits.{bits}
use Rattle.lookup.proofs.Numbers.{other_count}
use borrow.Author.Rules.{rules}
use Rattle.lookup.proofs.is_key.Goals as goal

pub returns-then-n-m : goal.returns-then-n-m
returns-then-n-m c = let a = c.args in other_count (bits a.b.now) a.p a.q _ _ c.field-n.ensures c.requires.2 c.if-n-m.true

pub returns : goal.returns
returns c = c.same_text.ensures
