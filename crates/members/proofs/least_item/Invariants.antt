use Rattle.members.proofs.Nearing.{has_keyed}
use Rattle.members.proofs.Stepping.{Listing, listing_start, listing_end, listing_child, listing_few, listing_key, listing_on}
use Rattle.members.specs.Next.{after_name, PlainItem}
use Rattle.lookup.proofs.Scanning.{ahead, walks_less}
use native.Mathlib.Omega.{arith}
use Rattle.places.specs.Accepted.{Accepted}
use Rattle.places.specs.Places.{places, json_at}
use Rattle.places.specs.Kinds.{items_of}
use Rattle.rules.specs.Json.{jarr}
use Prim.Native.Nat.{◌<◌}
use mathlib.Core.Path.{◌≡◌}
use borrow.Author.Rules.{rules}
use Rattle.members.proofs.least_item.Given as goal

abbrev pub invariant-loop-at : goal.invariant-loop-at
invariant-loop-at l = (a : Accepted l.s l.tab) (lt : l.i < places l.s) (e : json_at l.s l.i ≡ jarr (items_of (json_at l.s l.i))) → Listing l.s l.b l.tab a l.i lt (after_name l.s l.b l.after) e l.n l.best l.at

abbrev pub decreases-loop-at : goal.decreases-loop-at
decreases-loop-at l = ahead l.s l.at
