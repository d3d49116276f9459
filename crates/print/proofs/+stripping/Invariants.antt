use Prim.Native.Nat.{◌*◌, ◌+◌, ◌-◌, ◌<◌, ℕ}
use Rattle.meaning.specs.Forms.{Formed}
use Rattle.meaning.specs.Meaning.{plain_json}
use Rattle.meaning.specs.Means.{means}
use Rattle.meaning.specs.declared.Form.TheVariants.{Boolean, List, Merged, Negative, Null, Object, String, Unsigned}
use Rattle.places.specs.Kinds.{found}
use Rattle.places.specs.Nodes.{short}
use Rattle.places.specs.Places.{json_at, places}
use Rattle.print.proofs.Lists.{Left, left_broken, left_end, left_on, left_start, left_stuck, left_weight, left_within, list_broken, list_is, list_none, means_place, next_behind, weight}
use Rattle.print.specs.Printed.{IsList}
use Rattle.rules.specs.Bytes.{Bytes}
use Rattle.rules.specs.Json.{Json}
use Rattle.rules.specs.Plan.{answer}
use Rattle.rules.specs.Value.{render}
use Rattle.text.specs.Laws.{strip_none}
use Rattle.text.specs.Strip.{stripped}
use borrow.Author.Rules.{rules}
use mathlib.Core.Option.{Option, none, some}
use mathlib.Core.Path.{◌∙◌, ◌≡◌, ap, refl, subst, sym}
use native.Mathlib.Omega.{arith}
use Rattle.print.specs.Target as target
use Rattle.print.proofs.+stripping.Given as goal

abbrev pub decreases-strip_list : goal.decreases-strip_list
decreases-strip_list l = 2 * weight (json_at l.s.now l.i)

abbrev pub decreases-strip_value : goal.decreases-strip_value
decreases-strip_value l = 2 * weight (plain_json l.s.now l.b.now l.v) + 1

abbrev pub invariant-strip_list-loop-x : goal.invariant-strip_list-loop-x
invariant-strip_list-loop-x l = target.Stands l.s l.b l.w l.u × ((h : answer l.s ≡ 0) (lt : l.i < places l.s) (e : IsList (json_at l.s l.i)) → Left l.s h l.i lt e (Option Bytes) target.taken target.taken_append l.c (some (target.rest l.s l.b l.w l.u)) (some (target.rest l.s l.b l.w l.initial.u)))

abbrev pub decreases-strip_list-loop-x : goal.decreases-strip_list-loop-x
decreases-strip_list-loop-x l = places l.s - l.c
