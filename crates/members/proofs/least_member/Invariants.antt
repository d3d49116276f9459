use Rattle.members.proofs.Nearing.{has_keyed}
use Rattle.members.proofs.Stepping.{Choosing, choosing_start, choosing_end, choosing_child, choosing_key, choosing_on}
use Rattle.members.specs.Next.{after_name, PlainItem}
use Rattle.lookup.proofs.Scanning.{ahead, walks_less}
use Rattle.places.specs.Accepted.{Accepted}
use Rattle.places.specs.Places.{places, json_at}
use Rattle.places.specs.Kinds.{members_of}
use Rattle.rules.specs.Json.{jobj}
use Prim.Native.Nat.{◌<◌}
use mathlib.Core.Path.{◌≡◌}
use borrow.Author.Rules.{rules}
use Rattle.members.proofs.least_member.Given as goal

abbrev pub invariant-loop-at : goal.invariant-loop-at
invariant-loop-at l = (a : Accepted l.s l.tab) (lt : l.i < places l.s) (e : json_at l.s l.i ≡ jobj (members_of (json_at l.s l.i))) → Choosing l.s l.b l.tab a l.i lt (after_name l.s l.b l.after) e l.best l.at

abbrev pub decreases-loop-at : goal.decreases-loop-at
decreases-loop-at l = ahead l.s l.at
