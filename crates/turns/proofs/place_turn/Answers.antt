use Rattle.turns.proofs.Stepping.{scalar_turn}
use Rattle.places.specs.declared.Kind.TheVariants as kind
use Rattle.places.specs.Kinds.{list_kind, object_kind}
use Rattle.places.specs.Places.{json_at}
use mathlib.Core.Path.{◌∙◌, sym}
use borrow.Author.Rules.{rules}
use Rattle.turns.proofs.place_turn.Goals as goal

pub kind_of-requires : goal.kind_of-requires
kind_of-requires c = (c.requires.0, c.requires.1)

pub following-requires : goal.following-requires
following-requires c = let a = c.args in
    let p = c.requires in
    (p.0, p.1, p.3.within, p.3.item _ (list_kind (json_at a.s.now a.i) (sym c.in-List.is ∙ c.kind_of.ensures)))

pub list_turn-requires : goal.list_turn-requires
list_turn-requires c = let a = c.args in
    let p = c.requires in
    (p.0, p.1, p.2, list_kind (json_at a.s.now a.i) (sym c.in-List.is ∙ c.kind_of.ensures), c.following.ensures)

pub object_turn-requires : goal.object_turn-requires
object_turn-requires c = let a = c.args in
    let p = c.requires in
    (p.0, p.1, p.2, object_kind (json_at a.s.now a.i) (sym c.in-Object.is ∙ c.kind_of.ensures), p.3)

pub returns-in-Null : goal.returns-in-Null
returns-in-Null c = let a = c.args in
    let p = c.requires in
    scalar_turn a.s.now a.tab.now p.0 a.i p.1 a.v p.2 a.k c.kind_of.result kind.Null c.kind_of.ensures c.in-Null.is tt

pub returns-in-False : goal.returns-in-False
returns-in-False c = let a = c.args in
    let p = c.requires in
    scalar_turn a.s.now a.tab.now p.0 a.i p.1 a.v p.2 a.k c.kind_of.result kind.False c.kind_of.ensures c.in-False.is tt

pub returns-in-True : goal.returns-in-True
returns-in-True c = let a = c.args in
    let p = c.requires in
    scalar_turn a.s.now a.tab.now p.0 a.i p.1 a.v p.2 a.k c.kind_of.result kind.True c.kind_of.ensures c.in-True.is tt

pub returns-in-Unsigned : goal.returns-in-Unsigned
returns-in-Unsigned c = let a = c.args in
    let p = c.requires in
    scalar_turn a.s.now a.tab.now p.0 a.i p.1 a.v p.2 a.k c.kind_of.result kind.Unsigned c.kind_of.ensures c.in-Unsigned.is tt

pub returns-in-Negative : goal.returns-in-Negative
returns-in-Negative c = let a = c.args in
    let p = c.requires in
    scalar_turn a.s.now a.tab.now p.0 a.i p.1 a.v p.2 a.k c.kind_of.result kind.Negative c.kind_of.ensures c.in-Negative.is tt

pub returns-in-Text : goal.returns-in-Text
returns-in-Text c = let a = c.args in
    let p = c.requires in
    scalar_turn a.s.now a.tab.now p.0 a.i p.1 a.v p.2 a.k c.kind_of.result kind.Text c.kind_of.ensures c.in-Text.is tt

pub returns-in-List : goal.returns-in-List
returns-in-List c = c.list_turn.ensures

pub returns-in-Object : goal.returns-in-Object
returns-in-Object c = c.object_turn.ensures
