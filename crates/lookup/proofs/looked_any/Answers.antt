use Rattle.lookup.proofs.Leading.{means, held_known, leaf_lookup, list_lookup, object_lookup, held_number, finds_eq}
use Rattle.meaning.specs.Meaning.{plain_json, json_of}
use Rattle.rules.specs.Json.{as_u64}
use Rattle.meaning.specs.declared.Form.TheVariants as form
use borrow.Author.Rules.{rules}
use Rattle.lookup.proofs.looked_any.Goals as goal

pub form_of-f-requires : goal.form_of-f-requires
form_of-f-requires c = (c.requires.0, c.requires.1, held_known c.args.s.now c.args.b.now c.args.ent.now c.args.v c.requires.2)

pub item_at-requires : goal.item_at-requires
item_at-requires c = (c.requires.0, c.requires.1, held_known c.args.s.now c.args.b.now c.args.ent.now c.args.i c.requires.3, (means c.args.s.now c.args.b.now c.args.ent.now c.args.v c.requires.2 c.form_of-f.result (form.List c.in-List.p) c.form_of-f.ensures c.in-List.is).within)

pub returns-in-Null : goal.returns-in-Null
returns-in-Null c = leaf_lookup c.args.s.now c.args.b.now (json_of c.args.s.now c.args.b.now c.args.ent.now c.args.v) (form.Null) (means c.args.s.now c.args.b.now c.args.ent.now c.args.v c.requires.2 c.form_of-f.result (form.Null) c.form_of-f.ensures c.in-Null.is) tt (json_of c.args.s.now c.args.b.now c.args.ent.now c.args.i)

pub returns-in-Boolean : goal.returns-in-Boolean
returns-in-Boolean c = leaf_lookup c.args.s.now c.args.b.now (json_of c.args.s.now c.args.b.now c.args.ent.now c.args.v) (form.Boolean c.in-Boolean.field-0) (means c.args.s.now c.args.b.now c.args.ent.now c.args.v c.requires.2 c.form_of-f.result (form.Boolean c.in-Boolean.field-0) c.form_of-f.ensures c.in-Boolean.is) tt (json_of c.args.s.now c.args.b.now c.args.ent.now c.args.i)

pub returns-in-Unsigned : goal.returns-in-Unsigned
returns-in-Unsigned c = leaf_lookup c.args.s.now c.args.b.now (json_of c.args.s.now c.args.b.now c.args.ent.now c.args.v) (form.Unsigned c.in-Unsigned.field-0) (means c.args.s.now c.args.b.now c.args.ent.now c.args.v c.requires.2 c.form_of-f.result (form.Unsigned c.in-Unsigned.field-0) c.form_of-f.ensures c.in-Unsigned.is) tt (json_of c.args.s.now c.args.b.now c.args.ent.now c.args.i)

pub returns-in-Negative : goal.returns-in-Negative
returns-in-Negative c = leaf_lookup c.args.s.now c.args.b.now (json_of c.args.s.now c.args.b.now c.args.ent.now c.args.v) (form.Negative c.in-Negative.field-0) (means c.args.s.now c.args.b.now c.args.ent.now c.args.v c.requires.2 c.form_of-f.result (form.Negative c.in-Negative.field-0) c.form_of-f.ensures c.in-Negative.is) tt (json_of c.args.s.now c.args.b.now c.args.ent.now c.args.i)

pub returns-in-String : goal.returns-in-String
returns-in-String c = leaf_lookup c.args.s.now c.args.b.now (json_of c.args.s.now c.args.b.now c.args.ent.now c.args.v) (form.String c.in-String.field-0) (means c.args.s.now c.args.b.now c.args.ent.now c.args.v c.requires.2 c.form_of-f.result (form.String c.in-String.field-0) c.form_of-f.ensures c.in-String.is) tt (json_of c.args.s.now c.args.b.now c.args.ent.now c.args.i)

pub returns-in-List : goal.returns-in-List
returns-in-List c = rw c.item_at.ensures (list_lookup c.args.s.now c.args.b.now c.args.ent.now c.args.v c.args.tab.now c.requires.0 c.in-List.p (means c.args.s.now c.args.b.now c.args.ent.now c.args.v c.requires.2 c.form_of-f.result (form.List c.in-List.p) c.form_of-f.ensures c.in-List.is) (json_of c.args.s.now c.args.b.now c.args.ent.now c.args.i) (as_u64 (plain_json c.args.s.now c.args.b.now c.args.i)) (held_number c.args.s.now c.args.b.now c.args.ent.now c.args.i c.requires.3))

pub returns-in-Object : goal.returns-in-Object
returns-in-Object c = finds_eq c.args.s.now c.args.b.now c.args.ent.now c.args.v _ _ c.member_at.result (object_lookup c.args.s.now c.args.b.now c.args.ent.now c.args.v _ (means c.args.s.now c.args.b.now c.args.ent.now c.args.v c.requires.2 c.form_of-f.result (form.Object c.in-Object.field-0) c.form_of-f.ensures c.in-Object.is).is (json_of c.args.s.now c.args.b.now c.args.ent.now c.args.i)) c.member_at.ensures

pub returns-in-Merged : goal.returns-in-Merged
returns-in-Merged c = finds_eq c.args.s.now c.args.b.now c.args.ent.now c.args.v _ _ c.member_at-in-Merged.result (object_lookup c.args.s.now c.args.b.now c.args.ent.now c.args.v _ (means c.args.s.now c.args.b.now c.args.ent.now c.args.v c.requires.2 c.form_of-f.result (form.Merged c.in-Merged.field-0 c.in-Merged.field-1) c.form_of-f.ensures c.in-Merged.is) (json_of c.args.s.now c.args.b.now c.args.ent.now c.args.i)) c.member_at-in-Merged.ensures
