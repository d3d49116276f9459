use Rattle.rules.specs.Picks.{picks}
use Rattle.handlebars.proofs.start.long_enough.Goals as goal

pub returns-then-places-lt-PLACES : goal.returns-then-places-lt-PLACES
returns-then-places-lt-PLACES c = search picks depth 9

pub returns-then-entries-lt-ENTRIES : goal.returns-then-entries-lt-ENTRIES
returns-then-entries-lt-ENTRIES c = search picks depth 9

pub returns-then-texts-lt-TEXTS : goal.returns-then-texts-lt-TEXTS
returns-then-texts-lt-TEXTS c = search picks depth 9

pub returns-then-indent-lt-INDENT : goal.returns-then-indent-lt-INDENT
returns-then-indent-lt-INDENT c = search picks depth 9

pub returns : goal.returns
returns c = search picks depth 9
