use mathlib.Core.Path.{subst, ◌∙◌, ap, sym}
use Rattle.lookup.specs.Answers.{PlainFinds}
use Rattle.meaning.specs.Forms.{Formed}
use Rattle.places.specs.Nodes.{short}
use Rattle.rules.specs.Context.{base_map}
use Rattle.rules.specs.Json.{Json, jstr, get_member}
use Rattle.text.specs.Rest.{rest}
use Rattle.meaning.specs.declared.Form.TheVariants as form
use Rattle.lookup.proofs.Finding.{plain_none, list_within, object_within, plain_list, plain_object}
use borrow.Author.Rules.{rules}
use Rattle.lookup.proofs.form_member.Goals as goal

pub form_of-f-requires : goal.form_of-f-requires
form_of-f-requires c = (c.requires.0, c.requires.1, λ e. c.requires.2.stands)

pub string_text-requires : goal.string_text-requires
string_text-requires c = (c.requires.0, c.requires.1, c.requires.2)

pub string_member-requires : goal.string_member-requires
string_member-requires c = let f = subst (Formed c.args.s.now c.args.b.now c.args.v) c.in-String.is c.form_of-f.ensures in
    (short c.args.s.now c.requires.0.answers, c.requires.1, (c.string_text.ensures _ f.is.is).spelled, c.requires.3)

pub list_member-requires : goal.list_member-requires
list_member-requires c = (c.requires.0, (list_within c.args.s.now c.args.b.now c.args.v (rest c.args.s.now c.args.b.now c.args.t) c.args.tab.now c.requires.0 c.form_of-f.result c.form_of-f.ensures c.in-List.i c.in-List.is).within, c.requires.3)

pub object_member-requires : goal.object_member-requires
object_member-requires c = (c.requires.0, (object_within c.args.s.now c.args.b.now c.args.v (rest c.args.s.now c.args.b.now c.args.t) c.args.tab.now c.requires.0 c.form_of-f.result c.form_of-f.ensures c.in-Object.i c.in-Object.is).within, c.requires.3)

pub returns-in-Null : goal.returns-in-Null
returns-in-Null c = plain_none c.args.s.now c.args.b.now c.args.v (rest c.args.s.now c.args.b.now c.args.t) c.requires.2 c.form_of-f.result form.Null c.form_of-f.ensures c.in-Null.is tt

pub returns-in-Boolean : goal.returns-in-Boolean
returns-in-Boolean c = plain_none c.args.s.now c.args.b.now c.args.v (rest c.args.s.now c.args.b.now c.args.t) c.requires.2 c.form_of-f.result (form.Boolean c.in-Boolean.field-0) c.form_of-f.ensures c.in-Boolean.is tt

pub returns-in-Unsigned : goal.returns-in-Unsigned
returns-in-Unsigned c = plain_none c.args.s.now c.args.b.now c.args.v (rest c.args.s.now c.args.b.now c.args.t) c.requires.2 c.form_of-f.result (form.Unsigned c.in-Unsigned.field-0) c.form_of-f.ensures c.in-Unsigned.is tt

pub returns-in-Negative : goal.returns-in-Negative
returns-in-Negative c = plain_none c.args.s.now c.args.b.now c.args.v (rest c.args.s.now c.args.b.now c.args.t) c.requires.2 c.form_of-f.result (form.Negative c.in-Negative.field-0) c.form_of-f.ensures c.in-Negative.is tt

pub returns-in-String : goal.returns-in-String
returns-in-String c = let f = subst (Formed c.args.s.now c.args.b.now c.args.v) c.in-String.is c.form_of-f.ensures in
    let e = f.is.is ∙ ap jstr (sym (c.string_text.ensures _ f.is.is).is) in
    subst (λ (j : Json). PlainFinds c.args.s.now c.args.b.now (get_member (base_map j) (rest c.args.s.now c.args.b.now c.args.t)) c.string_member.result) (sym e) c.string_member.ensures

pub returns-in-List : goal.returns-in-List
returns-in-List c = rw c.placed.ensures (plain_list c.args.s.now c.args.b.now c.args.v (rest c.args.s.now c.args.b.now c.args.t) c.args.tab.now c.requires.0 c.form_of-f.result c.form_of-f.ensures c.in-List.i c.in-List.is c.list_member.result c.list_member.ensures)

pub returns-in-Object : goal.returns-in-Object
returns-in-Object c = rw c.placed-in-Object.ensures (plain_object c.args.s.now c.args.b.now c.args.v (rest c.args.s.now c.args.b.now c.args.t) c.args.tab.now c.requires.0 c.form_of-f.result c.form_of-f.ensures c.in-Object.i c.in-Object.is c.object_member.result c.object_member.ensures)

pub returns-in-Merged : goal.returns-in-Merged
returns-in-Merged c = plain_none c.args.s.now c.args.b.now c.args.v (rest c.args.s.now c.args.b.now c.args.t) c.requires.2 c.form_of-f.result (form.Merged c.in-Merged.field-0 c.in-Merged.field-1) c.form_of-f.ensures c.in-Merged.is tt
