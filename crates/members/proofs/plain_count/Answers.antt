use Rattle.members.proofs.Counting.{bare_counted, list_counted, object_counted, string_counted}
use Rattle.meaning.specs.declared.Form.TheVariants as form
use Rattle.meaning.specs.Meaning.{plain_json}
use Rattle.meaning.specs.Forms.{Formed}
use Rattle.text.specs.Rest.{rest}
use Rattle.places.specs.Nodes.{short}
use Rattle.rules.specs.Json.{jstr}
use mathlib.Core.Path.{◌∙◌, ap, sym, subst}
use borrow.Author.Rules.{rules}
use Rattle.members.proofs.plain_count.Goals as goal

pub form_of-f-requires : goal.form_of-f-requires
form_of-f-requires c = (c.requires.0, c.requires.1, λ e. c.requires.2.stands)

pub char_count-requires : goal.char_count-requires
char_count-requires c = let f = subst (Formed c.args.s.now c.args.b.now c.args.v) c.in-String.is c.form_of-f.ensures in
    (short c.args.s.now c.requires.0.answers, c.requires.1, (c.string_text.ensures _ f.is.is).spelled)

pub len-requires : goal.len-requires
len-requires c = (c.requires.0, (subst (Formed c.args.s.now c.args.b.now c.args.v) c.in-List.is c.form_of-f.ensures).is.within)

pub members-requires : goal.members-requires
members-requires c = (c.requires.0, (subst (Formed c.args.s.now c.args.b.now c.args.v) c.in-Object.is c.form_of-f.ensures).is.within)

pub returns-in-Null : goal.returns-in-Null
returns-in-Null c = bare_counted c.args.s.now c.args.b.now c.args.v c.requires.2 c.form_of-f.result (form.Null) c.form_of-f.ensures c.in-Null.is tt

pub returns-in-Boolean : goal.returns-in-Boolean
returns-in-Boolean c = bare_counted c.args.s.now c.args.b.now c.args.v c.requires.2 c.form_of-f.result (form.Boolean c.in-Boolean.field-0) c.form_of-f.ensures c.in-Boolean.is tt

pub returns-in-Unsigned : goal.returns-in-Unsigned
returns-in-Unsigned c = bare_counted c.args.s.now c.args.b.now c.args.v c.requires.2 c.form_of-f.result (form.Unsigned c.in-Unsigned.field-0) c.form_of-f.ensures c.in-Unsigned.is tt

pub returns-in-Negative : goal.returns-in-Negative
returns-in-Negative c = bare_counted c.args.s.now c.args.b.now c.args.v c.requires.2 c.form_of-f.result (form.Negative c.in-Negative.field-0) c.form_of-f.ensures c.in-Negative.is tt

pub returns-in-String : goal.returns-in-String
returns-in-String c = let f = subst (Formed c.args.s.now c.args.b.now c.args.v) c.in-String.is c.form_of-f.ensures in
    string_counted c.args.s.now c.args.b.now (plain_json c.args.s.now c.args.b.now c.args.v) (rest c.args.s.now c.args.b.now c.string_text.result) c.char_count.result (f.is.is ∙ ap jstr (sym (c.string_text.ensures _ f.is.is).is)) c.char_count.ensures.0 c.char_count.ensures.1

pub returns-in-List : goal.returns-in-List
returns-in-List c = list_counted c.args.s.now c.args.b.now c.args.tab.now c.requires.0 c.args.v c.form_of-f.result c.form_of-f.ensures c.in-List.i c.in-List.is c.len.result c.len.ensures

pub returns-in-Object : goal.returns-in-Object
returns-in-Object c = object_counted c.args.s.now c.args.b.now c.args.tab.now c.requires.0 c.args.v c.form_of-f.result c.form_of-f.ensures c.in-Object.i c.in-Object.is c.members.result c.members.ensures

pub returns-in-Merged : goal.returns-in-Merged
returns-in-Merged c = bare_counted c.args.s.now c.args.b.now c.args.v c.requires.2 c.form_of-f.result (form.Merged c.in-Merged.field-0 c.in-Merged.field-1) c.form_of-f.ensures c.in-Merged.is tt
