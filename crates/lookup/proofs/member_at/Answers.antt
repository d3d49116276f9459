use Rattle.lookup.proofs.Leading.{means, held_known, means_string, finds_eq}
use Rattle.rules.specs.Context.{base_map}
use Rattle.rules.specs.Json.{get_member}
use Rattle.rules.specs.Bytes.{Bytes, maybe}
use mathlib.Core.Option.{Option, none}
use Rattle.meaning.specs.declared.Form.TheVariants as form
use Rattle.meaning.specs.Meaning.{json_of}
use mathlib.Core.Path.{ap}
use borrow.Author.Rules.{rules}
use Rattle.lookup.proofs.member_at.Goals as goal

pub form_of-f-requires : goal.form_of-f-requires
form_of-f-requires c = (c.requires.0, c.requires.1, held_known c.args.s.now c.args.b.now c.args.ent.now c.args.k c.requires.3)

pub get_member-requires : goal.get_member-requires
get_member-requires c = (c.requires.0, c.requires.1, c.requires.2, (means c.args.s.now c.args.b.now c.args.ent.now c.args.k c.requires.3 c.form_of-f.result (form.String c.in-String.t) c.form_of-f.ensures c.in-String.is).stands)

pub returns-in-Null : goal.returns-in-Null
returns-in-Null c = ap (λ (o : Option Bytes). maybe o none (get_member (base_map (json_of c.args.s.now c.args.b.now c.args.ent.now c.args.v)))) (means_string c.args.s.now c.args.b.now (json_of c.args.s.now c.args.b.now c.args.ent.now c.args.k) (form.Null) (means c.args.s.now c.args.b.now c.args.ent.now c.args.k c.requires.3 c.form_of-f.result (form.Null) c.form_of-f.ensures c.in-Null.is))

pub returns-in-Boolean : goal.returns-in-Boolean
returns-in-Boolean c = ap (λ (o : Option Bytes). maybe o none (get_member (base_map (json_of c.args.s.now c.args.b.now c.args.ent.now c.args.v)))) (means_string c.args.s.now c.args.b.now (json_of c.args.s.now c.args.b.now c.args.ent.now c.args.k) (form.Boolean c.in-Boolean.field-0) (means c.args.s.now c.args.b.now c.args.ent.now c.args.k c.requires.3 c.form_of-f.result (form.Boolean c.in-Boolean.field-0) c.form_of-f.ensures c.in-Boolean.is))

pub returns-in-Unsigned : goal.returns-in-Unsigned
returns-in-Unsigned c = ap (λ (o : Option Bytes). maybe o none (get_member (base_map (json_of c.args.s.now c.args.b.now c.args.ent.now c.args.v)))) (means_string c.args.s.now c.args.b.now (json_of c.args.s.now c.args.b.now c.args.ent.now c.args.k) (form.Unsigned c.in-Unsigned.field-0) (means c.args.s.now c.args.b.now c.args.ent.now c.args.k c.requires.3 c.form_of-f.result (form.Unsigned c.in-Unsigned.field-0) c.form_of-f.ensures c.in-Unsigned.is))

pub returns-in-Negative : goal.returns-in-Negative
returns-in-Negative c = ap (λ (o : Option Bytes). maybe o none (get_member (base_map (json_of c.args.s.now c.args.b.now c.args.ent.now c.args.v)))) (means_string c.args.s.now c.args.b.now (json_of c.args.s.now c.args.b.now c.args.ent.now c.args.k) (form.Negative c.in-Negative.field-0) (means c.args.s.now c.args.b.now c.args.ent.now c.args.k c.requires.3 c.form_of-f.result (form.Negative c.in-Negative.field-0) c.form_of-f.ensures c.in-Negative.is))

pub returns-in-String : goal.returns-in-String
returns-in-String c = finds_eq c.args.s.now c.args.b.now c.args.ent.now c.args.v _ _ c.get_member.result (ap (λ (o : Option Bytes). maybe o none (get_member (base_map (json_of c.args.s.now c.args.b.now c.args.ent.now c.args.v)))) (means_string c.args.s.now c.args.b.now (json_of c.args.s.now c.args.b.now c.args.ent.now c.args.k) (form.String c.in-String.t) (means c.args.s.now c.args.b.now c.args.ent.now c.args.k c.requires.3 c.form_of-f.result (form.String c.in-String.t) c.form_of-f.ensures c.in-String.is))) c.get_member.ensures

pub returns-in-List : goal.returns-in-List
returns-in-List c = ap (λ (o : Option Bytes). maybe o none (get_member (base_map (json_of c.args.s.now c.args.b.now c.args.ent.now c.args.v)))) (means_string c.args.s.now c.args.b.now (json_of c.args.s.now c.args.b.now c.args.ent.now c.args.k) (form.List c.in-List.field-0) (means c.args.s.now c.args.b.now c.args.ent.now c.args.k c.requires.3 c.form_of-f.result (form.List c.in-List.field-0) c.form_of-f.ensures c.in-List.is))

pub returns-in-Object : goal.returns-in-Object
returns-in-Object c = ap (λ (o : Option Bytes). maybe o none (get_member (base_map (json_of c.args.s.now c.args.b.now c.args.ent.now c.args.v)))) (means_string c.args.s.now c.args.b.now (json_of c.args.s.now c.args.b.now c.args.ent.now c.args.k) (form.Object c.in-Object.field-0) (means c.args.s.now c.args.b.now c.args.ent.now c.args.k c.requires.3 c.form_of-f.result (form.Object c.in-Object.field-0) c.form_of-f.ensures c.in-Object.is))

pub returns-in-Merged : goal.returns-in-Merged
returns-in-Merged c = ap (λ (o : Option Bytes). maybe o none (get_member (base_map (json_of c.args.s.now c.args.b.now c.args.ent.now c.args.v)))) (means_string c.args.s.now c.args.b.now (json_of c.args.s.now c.args.b.now c.args.ent.now c.args.k) (form.Merged c.in-Merged.field-0 c.in-Merged.field-1) (means c.args.s.now c.args.b.now c.args.ent.now c.args.k c.requires.3 c.form_of-f.result (form.Merged c.in-Merged.field-0 c.in-Merged.field-1) c.form_of-f.ensures c.in-Merged.is))
