use Rattle.members.proofs.Stepping.{bare_next, next_eq, list_at, object_at}
use Rattle.members.specs.Next.{after_name}
use Rattle.meaning.specs.declared.Form.TheVariants as form
use Rattle.meaning.specs.Meaning.{plain_json}
use Rattle.meaning.specs.Forms.{Formed}
use Rattle.places.specs.Places.{json_at}
use Rattle.text.specs.Rest.{rest}
use Rattle.rules.specs.Json.{jstr}
use mathlib.Core.Path.{◌∙◌, ap, sym, subst}
use borrow.Author.Rules.{rules}
use Rattle.members.proofs.plain_next.Goals as goal

pub form_of-f-requires : goal.form_of-f-requires
form_of-f-requires c = (c.requires.0, c.requires.1, λ e. c.requires.2.stands)

pub string_text-requires : goal.string_text-requires
string_text-requires c = (c.requires.0, c.requires.1, c.requires.2)

pub least_char-requires : goal.least_char-requires
least_char-requires c = let a = c.args in
    let p = c.requires in
    let f = subst (Formed a.s.now a.b.now a.v) c.in-String.is c.form_of-f.ensures in
    (p.0, p.1, (c.string_text.ensures _ f.is.is).spelled, p.3)

pub least_item-requires : goal.least_item-requires
least_item-requires c = let a = c.args in
    let p = c.requires in
    let f = (subst (Formed a.s.now a.b.now a.v) c.in-List.is c.form_of-f.ensures).is in
    (p.0, p.1, f.within, list_at a.s.now (plain_json a.s.now a.b.now a.v) _ f, p.3)

pub least_member-requires : goal.least_member-requires
least_member-requires c = let a = c.args in
    let p = c.requires in
    let f = (subst (Formed a.s.now a.b.now a.v) c.in-Object.is c.form_of-f.ensures).is in
    (p.0, p.1, f.within, object_at a.s.now (plain_json a.s.now a.b.now a.v) _ f, p.3)

pub returns-in-Null : goal.returns-in-Null
returns-in-Null c = let a = c.args in
    bare_next a.s.now a.b.now a.v (after_name a.s.now a.b.now a.after) c.requires.2 c.form_of-f.result (form.Null) c.form_of-f.ensures c.in-Null.is tt

pub returns-in-Boolean : goal.returns-in-Boolean
returns-in-Boolean c = let a = c.args in
    bare_next a.s.now a.b.now a.v (after_name a.s.now a.b.now a.after) c.requires.2 c.form_of-f.result (form.Boolean c.in-Boolean.field-0) c.form_of-f.ensures c.in-Boolean.is tt

pub returns-in-Unsigned : goal.returns-in-Unsigned
returns-in-Unsigned c = let a = c.args in
    bare_next a.s.now a.b.now a.v (after_name a.s.now a.b.now a.after) c.requires.2 c.form_of-f.result (form.Unsigned c.in-Unsigned.field-0) c.form_of-f.ensures c.in-Unsigned.is tt

pub returns-in-Negative : goal.returns-in-Negative
returns-in-Negative c = let a = c.args in
    bare_next a.s.now a.b.now a.v (after_name a.s.now a.b.now a.after) c.requires.2 c.form_of-f.result (form.Negative c.in-Negative.field-0) c.form_of-f.ensures c.in-Negative.is tt

pub returns-in-String : goal.returns-in-String
returns-in-String c = let a = c.args in
    let f = subst (Formed a.s.now a.b.now a.v) c.in-String.is c.form_of-f.ensures in
    next_eq a.s.now a.b.now a.v (after_name a.s.now a.b.now a.after) (jstr (rest a.s.now a.b.now c.string_text.result)) (f.is.is ∙ ap jstr (sym (c.string_text.ensures _ f.is.is).is)) c.least_char.result c.least_char.ensures

pub returns-in-List : goal.returns-in-List
returns-in-List c = let a = c.args in
    let f = (subst (Formed a.s.now a.b.now a.v) c.in-List.is c.form_of-f.ensures).is in
    next_eq a.s.now a.b.now a.v (after_name a.s.now a.b.now a.after) (json_at a.s.now c.in-List.i) f.at c.least_item.result c.least_item.ensures

pub returns-in-Object : goal.returns-in-Object
returns-in-Object c = let a = c.args in
    let f = (subst (Formed a.s.now a.b.now a.v) c.in-Object.is c.form_of-f.ensures).is in
    next_eq a.s.now a.b.now a.v (after_name a.s.now a.b.now a.after) (json_at a.s.now c.in-Object.i) f.at c.least_member.result c.least_member.ensures

pub returns-in-Merged : goal.returns-in-Merged
returns-in-Merged c = let a = c.args in
    bare_next a.s.now a.b.now a.v (after_name a.s.now a.b.now a.after) c.requires.2 c.form_of-f.result (form.Merged c.in-Merged.field-0 c.in-Merged.field-1) c.form_of-f.ensures c.in-Merged.is tt
