use Rattle.rules.specs.Scan.{is_digit}
use borrow.Author.Rules.{rules}
use Rattle.scan.proofs.is_digit.Goals as goal

pub returns : goal.returns
unfolding is_digit
returns c = search rules
