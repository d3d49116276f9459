use Rattle.std.specs.Prelude.{Some, None}
use Prim.Native.Nat.{ℕ, ◌+◌, ◌*◌, ◌-◌, ◌<◌}
use borrow.Author.Rules.{rules}
use Prim.Native.Nat.{ℕ}
use native.Mathlib.Omega.{arith}
use mathlib.Core.Path.{refl, subst}
use lib.ListN.{length}
use Rattle.rules.specs.Bits.{bits}
use Rattle.state.specs.Context.{whole}
use Rattle.state.specs.World.{World, world}
use Rattle.template.specs.Views.{ElementHolds}
use Rattle.drawing.specs.Renders.{registry_of}
use Rattle.drawing.specs.Arrays.{front_current}
use Rattle.drawing.specs.Elements.{element_raw, element_html, element_expression, element_helper, element_decorator, element_decorated, element_partial, element_partial_block, element_comment}
use Prim.Native.Nat.{ℕ, ◌+◌, ◌-◌, ◌*◌, ◌/◌, ◌%◌, ◌≤◌, ◌<◌}
use mathlib.Core.Bool.{Bool, not, ◌||◌}
use mathlib.Core.Path.{◌≡◌, refl, sym, ap, ◌∙◌, subst}
use lib.ListN.{length, get_or, set}
use Rattle.rules.specs.Bytes.{Bytes}
use Rattle.rules.specs.Template.{Template}
use Rattle.expand.specs.declared.Options.{Options}
use Rattle.state.specs.Context.{RenderContext, whole, Front}
use Rattle.state.specs.Setters as setters
use Rattle.rules.specs.Layout.{field}
use Rattle.state.specs.World.{World, world, over, top, name_at, Ready, Sizes}
use Rattle.drawing.specs.Renders.{Renders}
use mathlib.Core.List.{List}
use mathlib.Core.Logic.{⊎_elim}
use mathlib.Core.Option.{Option}
use Rattle.rules.specs.Bundle.{body, param, call_of}
use Rattle.parts.specs.Holds.{Holds, end}
use Rattle.template.specs.Views.{template_at, element_says, element_view, body_view, placed_element, placed_element_is}
use Rattle.template.specs.Bodies.{body_read, body_stands, element_here, element_read, placed_holds, placed_fits}
use Rattle.drawing.specs.Loop.{Drawing, drawing_start, drawing_end, drawing_stop, drawing_more}
use Rattle.bits.specs.Packed.{bytes_at}
use Rattle.output.specs.declared.Writer.{Writer}
use Rattle.output.specs.Outputs.{outputs}
use Rattle.parts.specs.HoldsLaws.{string_in}
use Rattle.value.specs.Numbers.{decoded}
use Rattle.scope.specs.declared.Scope.{Scope}
use Rattle.scope.specs.Scopes.{blank}
use Rattle.drawing.specs.Arrays.{array_sized, array_scopes, array_newest, array_near_front, front_current, count_kept, count_small, refused_any}
use Rattle.plain.specs.Lookups.{lookup_known}
use Rattle.plain.specs.Drawn.{left_by}
use Rattle.render.specs.Body.{Topmost, topmost_first, topped_there, body_front, body_sized, body_left, body_kept, body_gained, body_same, left_of, wrote_kept, left_kept}
use Rattle.helpers.specs.declared.Shows.TheVariants as shows
use Rattle.state.specs.declared.RenderContext as code
use Rattle.state.specs.Setters.{wrote}
use Rattle.plain.specs.Plain.{TextIs, OneDrawn, ShowsAt, LookupAt, ShownIs}
use Rattle.plain.specs.Laws.{text_here, value_known, value_here, nothing_here, refused_here, wrote_all}
use Rattle.plain.specs.Put.{fed_same, value_same, value_by}
use Rattle.rules.specs.BundleLaws.{bits_size, bits_binary}
use Rattle.rules.specs.LayoutLaws.{field_lt}
use Rattle.rules.specs.Render as rule
use Prim.Native.Nat.{ℕ, ◌-◌}
use mathlib.Core.Path.{refl, sym, ap, subst}
use lib.ListN.{set}
use Rattle.state.specs.Context.{RenderContext, whole, topped}
use Rattle.state.specs.World.{World, world, over}
use Rattle.parts.specs.Says.{names_at}
use Rattle.state.specs.Setters.{settled}
use Rattle.drawing.specs.Arrays.{array_sized, within_any}
use Rattle.drawing.specs.Renders.{body_rule}
use Rattle.helping.specs.declared.Next.TheVariants.{Turns}
use Rattle.helping.specs.Begun.{HelperBegun, opened}
use Rattle.helping.specs.Decided.{helper_rule}
use Rattle.render.specs.Laws.{left_drawn, finished_drawn, top_front}
use mathlib.Core.Path.{refl, sym, subst}
use Rattle.drawing.specs.Arrays.{array_sized, concluded_any}
use Rattle.beginning.specs.Opened.{PartialBegun, partial_rule}
use Rattle.render.specs.Laws.{no_own, left_drawn}
use Rattle.state.specs.Setters.{with_template, settled}
use Rattle.render.specs.Laws.{left_drawn, finished_drawn}
use mathlib.Core.Path.{refl, sym, ap, ◌∙◌, subst}
use lib.ListN.{set, length-set}
use Rattle.state.specs.Context.{RenderContext, whole}
use Rattle.texts.specs.Setters.{with_block}
use Rattle.drawing.specs.Arrays.{array_sized, count_small, refused_any, concluded_any}
use Rattle.render.specs.Laws.{text_goes}
use Prim.Native.Nat.{ℕ, ◌+◌, ◌-◌, ◌*◌, ◌≤◌, ◌<◌}
use mathlib.Core.Bool.{Bool}
use mathlib.Core.List.{List, []}
use lib.Dec.{eqb}
use Rattle.rules.specs.Bundle.{block_names}
use Rattle.rules.specs.Plan.{answer}
use Rattle.rules.specs.State.{Draw}
use Rattle.rules.specs.Registry.{Registry}
use Rattle.rules.specs.Partial.{Rendering}
use Rattle.parts.specs.Holds.{Holds}
use Rattle.parts.specs.Views.{names_view}
use Rattle.value.specs.declared.Value.{Value}
use Rattle.value.specs.Numbers.{encoded}
use Rattle.meaning.specs.Meaning.{json_of}
use Rattle.members.specs.Turns.{each_turns}
use Rattle.scope.specs.Names.{Readable}
use Rattle.scope.specs.Made as made
use Rattle.blocks.specs.Opened.{each_scope}
use Rattle.state.specs.Context.{RenderContext, whole, topped, Front}
use Rattle.state.specs.Current.{same_count}
use Rattle.state.specs.World.{World, world, over, front, top, Ready}
use Rattle.drawing.specs.Renders.{Renders, Named, Openable, body_rule}
use Rattle.drawing.specs.Arrays.{array_sized, array_scopes, count_small, front_current}
use Rattle.drawing.specs.EachLoop.{each_rule, EachGoing, each_held, each_fits, each_opens, each_readable, each_empty, each_ended, each_used, each_sizes, each_item_fits, each_less}
use Rattle.drawing.specs.EachArray.{array_begun, array_ready, array_stopped, array_before, array_again}
use Prim.Native.Nat.{ℕ, ◌<◌}
use Rattle.render.proofs.+rendering.Given as goal

abbrev pub decreases-render_element : goal.decreases-render_element
decreases-render_element l = ((32 - l.rc.used) * 17 + l.d) * 4 + 3

abbrev pub decreases-render_elements : goal.decreases-render_elements
decreases-render_elements l = ((32 - l.rc.used) * 17 + l.d) * 4 + 0

abbrev pub decreases-render_helper : goal.decreases-render_helper
decreases-render_helper l = ((32 - l.rc.used) * 17 + l.d) * 4 + 2

abbrev pub decreases-render_partial : goal.decreases-render_partial
decreases-render_partial l = ((32 - l.rc.used) * 17 + l.d) * 4 + 2

abbrev pub decreases-render_partial_block : goal.decreases-render_partial_block
decreases-render_partial_block l = ((32 - l.rc.used) * 17 + l.d) * 4 + 2

abbrev pub decreases-render_text : goal.decreases-render_text
decreases-render_text l = ((32 - l.rc.used) * 17 + 16) * 4 + 1

abbrev pub decreases-render_turns : goal.decreases-render_turns
decreases-render_turns l = ((32 - l.rc.used) * 17 + l.d) * 4 + 1

abbrev pub invariant-render_elements-loop-i : goal.invariant-render_elements-loop-i
invariant-render_elements-loop-i l = Drawing l.s l.b l.options (name_at l.b l.name) (template_at 16 l.d (bits l.b) l.p) (l.d - 1) l.count (end (body 16 l.d) (bits l.b) l.p) (world (whole l.initial.q l.initial.open) l.initial.page l.initial.texts l.initial.indent l.initial.ent) (world (whole l.q l.open) l.page l.texts l.indent l.ent) l.i l.cur
    × Topmost l.initial.open l.k l.initial.front l.q l.front l.open

abbrev pub decreases-render_elements-loop-i : goal.decreases-render_elements-loop-i
decreases-render_elements-loop-i l = l.count - l.i

abbrev pub invariant-render_turns-loop-turn : goal.invariant-render_turns-loop-turn
invariant-render_turns-loop-turn l = (r : Ready l.s l.b (world (whole l.rc l.scopes) l.initial.page l.initial.texts l.initial.indent l.initial.ent)) (z : Openable l.s l.b (world (whole l.rc l.scopes) l.initial.page l.initial.texts l.initial.indent l.initial.ent) l.v) (ok : answer l.s ≡ 0) (small : length l.b ≤ 65536) (held : Holds block_names (bits l.b) l.at)
    → EachGoing l.s l.b l.options (world (whole l.rc l.scopes) l.initial.page l.initial.texts l.initial.indent l.initial.ent) l.d l.at l.p l.v r z ok small held (world (topped l.initial.q l.scopes l.initial.c) l.initial.page l.initial.texts l.initial.indent l.initial.ent) 0 l.initial.turn
    → EachGoing l.s l.b l.options (world (whole l.rc l.scopes) l.initial.page l.initial.texts l.initial.indent l.initial.ent) l.d l.at l.p l.v r z ok small held (world (topped l.q l.scopes l.c) l.page l.texts l.indent l.ent) l.k l.turn

abbrev pub decreases-render_turns-loop-turn : goal.decreases-render_turns-loop-turn
decreases-render_turns-loop-turn l = length (each_turns (json_of l.s l.b l.initial.ent l.v)) - l.k
