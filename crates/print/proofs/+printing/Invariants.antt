use Prim.Native.Nat.{◌*◌, ◌+◌, ◌-◌, ◌<◌, ℕ}
use Rattle.meaning.specs.Forms.{Formed}
use Rattle.meaning.specs.Meaning.{plain_json}
use Rattle.meaning.specs.Means.{means}
use Rattle.meaning.specs.declared.Form.TheVariants.{Boolean, List, Merged, Negative, Null, Object, String, Unsigned}
use Rattle.output.specs.Writer.{Output, output}
use Rattle.places.specs.Kinds.{found}
use Rattle.places.specs.Nodes.{short}
use Rattle.places.specs.Places.{json_at, places}
use Rattle.print.proofs.Lists.{Left, left_end, left_on, left_start, left_weight, left_within, list_is, list_none, means_place, next_behind, weight}
use Rattle.print.specs.Printed.{IsList, printed, printed_append, printed_none}
use Rattle.rules.specs.Json.{Json}
use Rattle.rules.specs.Plan.{answer}
use Rattle.rules.specs.Value.{render}
use borrow.Author.Rules.{rules}
use lib.ListN.{length}
use mathlib.Core.Path.{◌∙◌, ◌≡◌, ap, refl, subst, sym}
use native.Mathlib.Omega.{arith}
use Rattle.print.proofs.+printing.Given as goal

abbrev pub decreases-write_list : goal.decreases-write_list
decreases-write_list l = 2 * weight (json_at l.s.now l.i)

abbrev pub decreases-write_value : goal.decreases-write_value
decreases-write_value l = 2 * weight (plain_json l.s.now l.b.now l.v) + 1

abbrev pub invariant-write_list-loop-d : goal.invariant-write_list-loop-d
invariant-write_list-loop-d l = (length l.out ≡ length l.initial.out) × ((h : answer l.s ≡ 0) (lt : l.i < places l.s) (e : IsList (json_at l.s l.i)) → Left l.s h l.i lt e Output (printed l.indent l.escape) (printed_append l.indent l.escape) l.c (output l.q l.out) (output l.initial.q l.initial.out))

abbrev pub decreases-write_list-loop-d : goal.decreases-write_list-loop-d
decreases-write_list-loop-d l = places l.s - l.c
