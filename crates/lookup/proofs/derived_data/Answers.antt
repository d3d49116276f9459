use Rattle.lookup.proofs.Leading.{means, held_known, leaf_data, derived_place, derived_member}
use Rattle.meaning.specs.declared.Form.TheVariants as form
use Rattle.meaning.specs.Meaning.{json_of}
use Rattle.text.specs.Rest.{rest}
use borrow.Author.Rules.{rules}
use Rattle.lookup.proofs.derived_data.Goals as goal

pub form_of-f-requires : goal.form_of-f-requires
form_of-f-requires c = (c.requires.0, c.requires.1, held_known c.args.s.now c.args.b.now c.args.ent.now c.args.v c.requires.2)

pub place_data-requires : goal.place_data-requires
place_data-requires c = (c.requires.0, (means c.args.s.now c.args.b.now c.args.ent.now c.args.v c.requires.2 c.form_of-f.result (form.List c.in-List.i) c.form_of-f.ensures c.in-List.is).within, c.requires.4)

pub place_data-requires-in-Object : goal.place_data-requires-in-Object
place_data-requires-in-Object c = (c.requires.0, (means c.args.s.now c.args.b.now c.args.ent.now c.args.v c.requires.2 c.form_of-f.result (form.Object c.in-Object.i) c.form_of-f.ensures c.in-Object.is).within, c.requires.4)

pub get_member-requires : goal.get_member-requires
get_member-requires c = (c.requires.0, c.requires.1, c.requires.2, c.requires.4)

pub returns-in-Null : goal.returns-in-Null
returns-in-Null c = leaf_data c.args.s.now c.args.b.now (json_of c.args.s.now c.args.b.now c.args.ent.now c.args.v) (form.Null) (means c.args.s.now c.args.b.now c.args.ent.now c.args.v c.requires.2 c.form_of-f.result (form.Null) c.form_of-f.ensures c.in-Null.is) tt (rest c.args.s.now c.args.b.now c.args.t)

pub returns-in-Boolean : goal.returns-in-Boolean
returns-in-Boolean c = leaf_data c.args.s.now c.args.b.now (json_of c.args.s.now c.args.b.now c.args.ent.now c.args.v) (form.Boolean c.in-Boolean.field-0) (means c.args.s.now c.args.b.now c.args.ent.now c.args.v c.requires.2 c.form_of-f.result (form.Boolean c.in-Boolean.field-0) c.form_of-f.ensures c.in-Boolean.is) tt (rest c.args.s.now c.args.b.now c.args.t)

pub returns-in-Unsigned : goal.returns-in-Unsigned
returns-in-Unsigned c = leaf_data c.args.s.now c.args.b.now (json_of c.args.s.now c.args.b.now c.args.ent.now c.args.v) (form.Unsigned c.in-Unsigned.field-0) (means c.args.s.now c.args.b.now c.args.ent.now c.args.v c.requires.2 c.form_of-f.result (form.Unsigned c.in-Unsigned.field-0) c.form_of-f.ensures c.in-Unsigned.is) tt (rest c.args.s.now c.args.b.now c.args.t)

pub returns-in-Negative : goal.returns-in-Negative
returns-in-Negative c = leaf_data c.args.s.now c.args.b.now (json_of c.args.s.now c.args.b.now c.args.ent.now c.args.v) (form.Negative c.in-Negative.field-0) (means c.args.s.now c.args.b.now c.args.ent.now c.args.v c.requires.2 c.form_of-f.result (form.Negative c.in-Negative.field-0) c.form_of-f.ensures c.in-Negative.is) tt (rest c.args.s.now c.args.b.now c.args.t)

pub returns-in-String : goal.returns-in-String
returns-in-String c = leaf_data c.args.s.now c.args.b.now (json_of c.args.s.now c.args.b.now c.args.ent.now c.args.v) (form.String c.in-String.field-0) (means c.args.s.now c.args.b.now c.args.ent.now c.args.v c.requires.2 c.form_of-f.result (form.String c.in-String.field-0) c.form_of-f.ensures c.in-String.is) tt (rest c.args.s.now c.args.b.now c.args.t)

pub returns-in-List : goal.returns-in-List
returns-in-List c = rw c.without_path.ensures (derived_place c.args.s.now c.args.b.now c.args.ent.now c.args.v (rest c.args.s.now c.args.b.now c.args.t) c.requires.3 c.in-List.i (means c.args.s.now c.args.b.now c.args.ent.now c.args.v c.requires.2 c.form_of-f.result (form.List c.in-List.i) c.form_of-f.ensures c.in-List.is).at c.place_data.result c.place_data.ensures)

pub returns-in-Object : goal.returns-in-Object
returns-in-Object c = rw c.without_path-in-Object.ensures (derived_place c.args.s.now c.args.b.now c.args.ent.now c.args.v (rest c.args.s.now c.args.b.now c.args.t) c.requires.3 c.in-Object.i (means c.args.s.now c.args.b.now c.args.ent.now c.args.v c.requires.2 c.form_of-f.result (form.Object c.in-Object.i) c.form_of-f.ensures c.in-Object.is).at c.place_data-in-Object.result c.place_data-in-Object.ensures)

pub returns-in-Merged : goal.returns-in-Merged
returns-in-Merged c = rw c.from_member.ensures (derived_member c.args.s.now c.args.b.now c.args.ent.now c.args.v (rest c.args.s.now c.args.b.now c.args.t) c.requires.3 (means c.args.s.now c.args.b.now c.args.ent.now c.args.v c.requires.2 c.form_of-f.result (form.Merged c.in-Merged.field-0 c.in-Merged.field-1) c.form_of-f.ensures c.in-Merged.is) c.get_member.result c.get_member.ensures)
