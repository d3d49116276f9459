use Rattle.handlebars.specs.Calls.{plan_refused_shown, plan_table_zero, drawn_shown}
use mathlib.Core.Path.{sym, ap, ◌∙◌}
use Prim.Native.Nat.{ℕ}
use lib.ListN.{length, replicate}
use Rattle.places.specs.Accepted.{accepted, table_length}
use borrow.Author.Rules.{rules}
use Rattle.handlebars.proofs.call.go_on.Goals as goal

pub returns-then-n-ne0 : goal.returns-then-n-ne0
returns-then-n-ne0 c = let z = c in
    let r = c.read_plan-n in
    (record { shown = plan_refused_shown z.args.bundle.now z.args.plan.now z.args.page.now _ _ _ r.ensures.value c.if-n-ne0.true c.refused.ensures; places_after = r.ensures.tab_after ∙ plan_table_zero _ z.args.plan.now (λ y. c.if-n-ne0.true (r.ensures.value ∙ y)) })

pub draw-r-requires : goal.draw-r-requires
draw-r-requires c = let z = c in
    let r = c.read_plan-n in
    (z.requires.0.0, z.requires.1, accepted z.args.plan.now _ _ (sym r.ensures.value ∙ c.if-n-ne0.false) r.ensures.tab_after z.requires.2.places, z.requires.2.entries, z.requires.2.texts, z.requires.2.indent, z.requires.0.1, z.requires.0.2)

pub clear_table-requires : goal.clear_table-requires
clear_table-requires c = let z = c in
    let r = c.read_plan-n in
    accepted z.args.plan.now _ _ (sym r.ensures.value ∙ c.if-n-ne0.false) r.ensures.tab_after z.requires.2.places

pub returns : goal.returns
returns c = let z = c in
    let r = c.read_plan-n in
    (record { shown = drawn_shown z.args.bundle.now z.args.plan.now _ _ _ (sym r.ensures.value ∙ c.if-n-ne0.false) c.draw-r.ensures; places_after = c.clear_table.ensures ∙ ap (λ (n : ℕ). replicate n 0) (ap length r.ensures.tab_after ∙ table_length _ z.args.plan.now) })
