use Rattle.lookup.proofs.Scanning.{Scans, ahead, scan_start, scan_end, scan_on, at_child, walks_less}
use Rattle.text.specs.Rest.{rest}
use Rattle.places.specs.Places.{last_onto, member, name_at}
use Rattle.places.specs.Kinds.{found}
use Rattle.rules.specs.Bytes.{pick, same}
use mathlib.Core.Path.{refl}
use mathlib.Core.Option.{some}
use borrow.Author.Rules.{rules}
use Rattle.lookup.proofs.any_member.Given as goal

abbrev pub invariant-loop-at : goal.invariant-loop-at
invariant-loop-at l = Scans l.s l.i (last_onto l.s (rest l.s l.b l.t)) (λ o p. pick (same (name_at l.s p) (rest l.s l.b l.t)) (some p) o) (λ o. refl) (λ o p l. refl) (found l.best) l.at

abbrev pub decreases-loop-at : goal.decreases-loop-at
decreases-loop-at l = ahead l.s l.at
