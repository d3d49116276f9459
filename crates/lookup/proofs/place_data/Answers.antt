use Rattle.lookup.proofs.Leading.{scalar_data, list_reaches, object_reaches}
use Rattle.text.specs.Rest.{rest}
use Rattle.places.specs.declared.Kind.TheVariants as kind
use Rattle.places.specs.Places.{json_at}
use Rattle.places.specs.Kinds.{found}
use borrow.Author.Rules.{rules}
use Rattle.lookup.proofs.place_data.Goals as goal

pub returns-in-Null : goal.returns-in-Null
returns-in-Null c = scalar_data (json_at c.args.s.now c.args.i) c.kind_of-k.result kind.Null c.kind_of-k.ensures c.in-Null.is tt (rest c.args.s.now c.args.b.now c.args.t)

pub returns-in-False : goal.returns-in-False
returns-in-False c = scalar_data (json_at c.args.s.now c.args.i) c.kind_of-k.result kind.False c.kind_of-k.ensures c.in-False.is tt (rest c.args.s.now c.args.b.now c.args.t)

pub returns-in-True : goal.returns-in-True
returns-in-True c = scalar_data (json_at c.args.s.now c.args.i) c.kind_of-k.result kind.True c.kind_of-k.ensures c.in-True.is tt (rest c.args.s.now c.args.b.now c.args.t)

pub returns-in-Unsigned : goal.returns-in-Unsigned
returns-in-Unsigned c = scalar_data (json_at c.args.s.now c.args.i) c.kind_of-k.result kind.Unsigned c.kind_of-k.ensures c.in-Unsigned.is tt (rest c.args.s.now c.args.b.now c.args.t)

pub returns-in-Negative : goal.returns-in-Negative
returns-in-Negative c = scalar_data (json_at c.args.s.now c.args.i) c.kind_of-k.result kind.Negative c.kind_of-k.ensures c.in-Negative.is tt (rest c.args.s.now c.args.b.now c.args.t)

pub returns-in-Text : goal.returns-in-Text
returns-in-Text c = scalar_data (json_at c.args.s.now c.args.i) c.kind_of-k.result kind.Text c.kind_of-k.ensures c.in-Text.is tt (rest c.args.s.now c.args.b.now c.args.t)

pub returns-in-List : goal.returns-in-List
returns-in-List c = rw c.list_data.ensures (list_reaches c.args.s.now c.args.tab.now c.requires.0 c.args.i c.requires.1 (rest c.args.s.now c.args.b.now c.args.t) c.kind_of-k.result c.kind_of-k.ensures c.in-List.is)

pub returns-in-Object : goal.returns-in-Object
returns-in-Object c = rw c.from_place.ensures (object_reaches c.args.s.now c.args.tab.now c.requires.0 c.args.i c.requires.1 (rest c.args.s.now c.args.b.now c.args.t) c.kind_of-k.result c.kind_of-k.ensures c.in-Object.is (found c.object_member.result) c.object_member.ensures)
