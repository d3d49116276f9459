use Prim.Native.Nat.{◌*◌, ◌+◌, ◌-◌, ◌<◌, suc, ℕ}
use Rattle.plan_read.proofs.Items.{Left, left_start, turn_broken, turn_down, turn_end, turn_fine, turn_none, turn_on, turn_stop}
use Rattle.plan_read.proofs.Quick.{plain_in, plain_met}
use Rattle.plan_read.proofs.Opens.{name_before, open_in, open_low, place_goes}
use Rattle.plan_read.proofs.Values.{fine_values, reading, value_deep, value_empty, value_items, value_leaf, value_none}
use Rattle.rules.specs.Bytes.{byte_at}
use Rattle.rules.specs.Tree.{is_open, item_place, items, value_of}
use Rattle.scan.proofs.Bounds.{spaces_go}
use borrow.Author.Rules.{rules}
use borrow.Author.Tests.{not-false, not-true}
use lib.ListN.{length, set}
use mathlib.Core.Bool.{Bool, false, not, true}
use mathlib.Core.Path.{◌∙◌, ◌≡◌, ap, refl, sym}
use native.Mathlib.Omega.{arith}
use Rattle.plan_read.proofs.+reading.Given as goal

abbrev pub decreases-read_item : goal.decreases-read_item
decreases-read_item l = 3 * l.left + 1

abbrev pub decreases-read_items : goal.decreases-read_items
decreases-read_items l = 3 * l.left + 2

abbrev pub decreases-read_value : goal.decreases-read_value
decreases-read_value l = 3 * l.left

abbrev pub invariant-read_items-loop-close : goal.invariant-read_items-loop-close
invariant-read_items-loop-close l = Left l.s (value_of l.s l.left) l.close l.i l.n l.bad l.initial.tab l.j l.m l.b l.tab

abbrev pub decreases-read_items-loop-close : goal.decreases-read_items-loop-close
decreases-read_items-loop-close l = length l.s - l.j
