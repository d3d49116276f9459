use Rattle.members.proofs.Nearing.{has_keyed}
use Rattle.members.proofs.Stepping.{SpellingOut, spelling_start, spelling_end, spelling_few, spelling_on, index_key}
use Rattle.members.specs.Next.{after_name, PlainItem}
use Rattle.chars.specs.Spelled.{Parted}
use Rattle.places.specs.Nodes.{short}
use Rattle.text.specs.Rest.{rest}
use lib.ListN.{length}
use native.Mathlib.Omega.{arith}
use mathlib.Core.Path.{subst}
use borrow.Author.Rules.{rules}
use Rattle.members.proofs.least_char.Given as goal

abbrev pub invariant-loop-v : goal.invariant-loop-v
invariant-loop-v l = SpellingOut l.s l.b l.initial.u (after_name l.s l.b l.after) l.n l.best l.u

abbrev pub decreases-loop-v : goal.decreases-loop-v
decreases-loop-v l = length (rest l.s l.b l.u)
