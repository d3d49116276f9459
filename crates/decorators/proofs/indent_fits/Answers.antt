use Rattle.decorators.specs.Indents.{own, fits_alone, fits_joined, fits_never}
use Rattle.rules.specs.Bits.{bits}
use borrow.Author.Tests.{not-true, not-false}
use borrow.Author.Rules.{rules}
use Rattle.decorators.proofs.indent_fits.Goals as goal

pub returns-then-not-has : goal.returns-then-not-has
returns-then-not-has c = let z = c in λ g v limit len. fits_alone g z.args.has v z.args.len _ (own (bits z.args.b.now) z.args.at) limit len c.own_length-n.ensures.0 (c.if-not-has.true)

pub returns-then-len-le256 : goal.returns-then-len-le256
returns-then-len-le256 c = let z = c in λ g v limit len. fits_joined g z.args.has v z.args.len _ (own (bits z.args.b.now) z.args.at) limit len c.own_length-n.ensures.0 (c.if-not-has.false) c.if-len-le256.true

pub returns : goal.returns
returns c = let z = c in λ g v limit len. fits_never g z.args.has v z.args.len _ (own (bits z.args.b.now) z.args.at) limit len c.own_length-n.ensures.0 (c.if-not-has.false) c.if-len-le256.false
