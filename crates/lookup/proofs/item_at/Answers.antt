use Rattle.lookup.proofs.Leading.{item_placed}
use Rattle.lookup.specs.Places as spec
use Rattle.meaning.specs.declared.Form.TheVariants as form
use mathlib.Core.Path.{◌∙◌, ap}
use borrow.Author.Rules.{rules}
use Rattle.lookup.proofs.item_at.Goals as goal

pub returns-in-Null : goal.returns-in-Null
returns-in-Null c = item_placed c.args.s.now c.args.b.now c.args.i c.args.n c.form_of-f.result (form.Null) c.form_of-f.ensures c.in-Null.is

pub returns-in-Boolean : goal.returns-in-Boolean
returns-in-Boolean c = item_placed c.args.s.now c.args.b.now c.args.i c.args.n c.form_of-f.result (form.Boolean c.in-Boolean.field-0) c.form_of-f.ensures c.in-Boolean.is

pub returns-in-Unsigned : goal.returns-in-Unsigned
returns-in-Unsigned c = c.placed.ensures ∙ ap spec.placed_at c.nth.ensures ∙ item_placed c.args.s.now c.args.b.now c.args.i c.args.n c.form_of-f.result (form.Unsigned c.in-Unsigned.k) c.form_of-f.ensures c.in-Unsigned.is

pub returns-in-Negative : goal.returns-in-Negative
returns-in-Negative c = item_placed c.args.s.now c.args.b.now c.args.i c.args.n c.form_of-f.result (form.Negative c.in-Negative.field-0) c.form_of-f.ensures c.in-Negative.is

pub returns-in-String : goal.returns-in-String
returns-in-String c = item_placed c.args.s.now c.args.b.now c.args.i c.args.n c.form_of-f.result (form.String c.in-String.field-0) c.form_of-f.ensures c.in-String.is

pub returns-in-List : goal.returns-in-List
returns-in-List c = item_placed c.args.s.now c.args.b.now c.args.i c.args.n c.form_of-f.result (form.List c.in-List.field-0) c.form_of-f.ensures c.in-List.is

pub returns-in-Object : goal.returns-in-Object
returns-in-Object c = item_placed c.args.s.now c.args.b.now c.args.i c.args.n c.form_of-f.result (form.Object c.in-Object.field-0) c.form_of-f.ensures c.in-Object.is

pub returns-in-Merged : goal.returns-in-Merged
returns-in-Merged c = item_placed c.args.s.now c.args.b.now c.args.i c.args.n c.form_of-f.result (form.Merged c.in-Merged.field-0 c.in-Merged.field-1) c.form_of-f.ensures c.in-Merged.is
