use Rattle.turns.proofs.Places.{no_turns, place_within}
use Rattle.turns.proofs.Stepping.{none_past, next_behind, next_key, next_merged}
use Rattle.turns.specs.Turning.{TurnAt}
use Rattle.members.specs.Turns.{each_turns}
use Rattle.lookup.proofs.Told.{no_merged}
use Rattle.meaning.specs.Meaning.{merged_of, json_of}
use Rattle.places.specs.Kinds.{found}
use Rattle.places.specs.Children.{none_some}
use native.Mathlib.Omega.{arith}
use mathlib.Core.Path.{◌∙◌, ap, sym, subst}
use borrow.Author.Rules.{rules}
use borrow.Enum.Refused.{opened}
use Rattle.turns.proofs.next_turn.Goals as goal

pub returns-in_default : goal.returns-in_default
returns-in_default c = λ t st.
    let a = c.args in
    let w = c.requires.2 in
    let l = subst (TurnAt a.s.now a.b.now a.ent.now w.used a.v w.number) c.in_default.is w.turn in
    omega (arith, w.next)

pub merged_turn-requires : goal.merged_turn-requires
merged_turn-requires c = let a = c.args in
    let p = c.requires in
    let w = p.2 in
    let u = subst (TurnAt a.s.now a.b.now a.ent.now w.used a.v w.number) c.in-Some.is w.turn in
    (p.0, p.1, record { used = w.used; room = w.room; stands = w.stands }, λ f. none_some (sym f ∙ ap merged_of c.in-Merged.is), next_key a.s.now a.b.now a.ent.now a.tab.now p.0 w.used a.v w.stands a.k w.number w.next _ _ _ _ u c.in-Merged.field-0 c.in-Merged.field-1 c.in-Merged.is, next_merged a.s.now a.b.now a.ent.now a.tab.now p.0 w.used a.v w.stands a.k w.number w.next _ _ _ _ u c.in-Merged.field-0 c.in-Merged.field-1 c.in-Merged.is)

pub returns-in-Merged : goal.returns-in-Merged
returns-in-Merged c = c.merged_turn.ensures

pub returns-in_default-place_of : goal.returns-in_default-place_of
returns-in_default-place_of c = λ t st.
    let a = c.args in
    none_past (each_turns (json_of a.s.now a.b.now a.ent.now a.v)) a.k (no_turns a.s.now a.b.now a.ent.now a.v (sym (ap found c.in_default-place_of.is) ∙ c.place_of.ensures) (no_merged a.v (opened c.in_default-v.in_default-v-own.keys2)))

pub place_turn-requires : goal.place_turn-requires
place_turn-requires c = let a = c.args in
    let p = c.requires in
    let w = p.2 in
    let e = sym c.place_of.ensures ∙ ap found c.in-Some-place_of.is in
    let u = subst (TurnAt a.s.now a.b.now a.ent.now w.used a.v w.number) c.in-Some.is w.turn in
    (p.0, place_within a.s.now a.b.now a.ent.now w.used c.in-Some-place_of.i a.v e w.stands, e, next_behind a.s.now a.b.now a.ent.now a.tab.now p.0 w.used a.v w.stands a.k w.number w.next _ _ _ _ u c.in-Some-place_of.i e c.place_of-2.result c.place_of-2.ensures)

pub returns : goal.returns
returns c = c.place_turn.ensures c.args.b.now c.args.ent.now
