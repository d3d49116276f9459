use Rattle.turns.proofs.Places.{no_turns, place_within}
use Rattle.turns.proofs.Stepping.{none_past, first_behind}
use Rattle.turns.specs.Listed.{first_member}
use Rattle.members.specs.Turns.{each_turns}
use Rattle.lookup.proofs.Told.{no_merged}
use Rattle.meaning.specs.Meaning.{merged_of, json_of}
use Rattle.places.specs.Kinds.{found}
use Rattle.places.specs.Children.{none_some}
use Rattle.rules.specs.Context.{base_map}
use mathlib.Core.Path.{◌∙◌, ap, sym}
use borrow.Author.Rules.{rules}
use borrow.Enum.Refused.{opened}
use Rattle.turns.proofs.first_turn.Goals as goal

pub merged_turn-requires : goal.merged_turn-requires
merged_turn-requires c = let a = c.args in
    let p = c.requires in
    (p.0, p.1, p.2, λ f. none_some (sym f ∙ ap merged_of c.in-Merged.is), tt, first_member (base_map (json_of a.s.now a.b.now a.ent.now a.v)))

pub returns-in-Merged : goal.returns-in-Merged
returns-in-Merged c = c.merged_turn.ensures

pub returns-in_default-place_of : goal.returns-in_default-place_of
returns-in_default-place_of c = λ t st.
    let a = c.args in
    none_past (each_turns (json_of a.s.now a.b.now a.ent.now a.v)) 0 (no_turns a.s.now a.b.now a.ent.now a.v (sym (ap found c.in_default-place_of.is) ∙ c.place_of.ensures) (no_merged a.v (opened c.in_default.in_default-own.keys2)))

pub place_turn-requires : goal.place_turn-requires
place_turn-requires c = let a = c.args in
    let p = c.requires in
    let e = sym c.place_of.ensures ∙ ap found c.in-Some.is in
    (p.0, place_within a.s.now a.b.now a.ent.now p.2.used c.in-Some.i a.v e p.2.stands, e, first_behind a.s.now c.in-Some.i)

pub returns : goal.returns
returns c = c.place_turn.ensures c.args.b.now c.args.ent.now
