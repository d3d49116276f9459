use Rattle.lookup.proofs.Spelling.{spells_none, spells_same}
use Rattle.text.specs.declared.Text.TheVariants.{Packed}
use Rattle.parts.specs.Says.{LiteralStands, literal_at, literal_stands}
use Rattle.layout.specs.Text.{text_at}
use Rattle.rules.specs.Json.{jnull, jbool, jpos, jneg}
use Rattle.rules.specs.Template.{literal_json}
use Rattle.rules.specs.Bits.{bits}
use mathlib.Core.Path.{◌∙◌, ap, sym, subst}
use borrow.Author.Rules.{rules}
use Rattle.lookup.proofs.literal_text.Goals as goal

pub text_of-requires : goal.text_of-requires
text_of-requires c = (c.requires.0, (subst (LiteralStands (bits c.args.b.now) c.args.p) (sym c.literal_at-l.ensures ∙ c.in-String.is) (literal_stands (bits c.args.b.now) c.args.p c.requires.1)).parts)

pub returns-in-Null : goal.returns-in-Null
returns-in-Null c = spells_none c.args.s.now c.args.b.now (Packed 0 0) (literal_json (literal_at (bits c.args.b.now) c.args.p)) (jnull) (ap literal_json (subst (LiteralStands (bits c.args.b.now) c.args.p) (sym c.literal_at-l.ensures ∙ c.in-Null.is) (literal_stands (bits c.args.b.now) c.args.p c.requires.1)).is) tt

pub returns-in-Boolean : goal.returns-in-Boolean
returns-in-Boolean c = spells_none c.args.s.now c.args.b.now (Packed 0 0) (literal_json (literal_at (bits c.args.b.now) c.args.p)) (jbool c.in-Boolean.field-0) (ap literal_json (subst (LiteralStands (bits c.args.b.now) c.args.p) (sym c.literal_at-l.ensures ∙ c.in-Boolean.is) (literal_stands (bits c.args.b.now) c.args.p c.requires.1)).is) tt

pub returns-in-Unsigned : goal.returns-in-Unsigned
returns-in-Unsigned c = spells_none c.args.s.now c.args.b.now (Packed 0 0) (literal_json (literal_at (bits c.args.b.now) c.args.p)) (jpos c.in-Unsigned.field-0) (ap literal_json (subst (LiteralStands (bits c.args.b.now) c.args.p) (sym c.literal_at-l.ensures ∙ c.in-Unsigned.is) (literal_stands (bits c.args.b.now) c.args.p c.requires.1)).is) tt

pub returns-in-Negative : goal.returns-in-Negative
returns-in-Negative c = spells_none c.args.s.now c.args.b.now (Packed 0 0) (literal_json (literal_at (bits c.args.b.now) c.args.p)) (jneg c.in-Negative.field-0) (ap literal_json (subst (LiteralStands (bits c.args.b.now) c.args.p) (sym c.literal_at-l.ensures ∙ c.in-Negative.is) (literal_stands (bits c.args.b.now) c.args.p c.requires.1)).is) tt

pub returns-in-String : goal.returns-in-String
returns-in-String c = spells_same c.args.s.now c.args.b.now c.text_of.result (literal_json (literal_at (bits c.args.b.now) c.args.p)) (text_at (bits c.args.b.now) c.in-String.q) (ap literal_json (subst (LiteralStands (bits c.args.b.now) c.args.p) (sym c.literal_at-l.ensures ∙ c.in-String.is) (literal_stands (bits c.args.b.now) c.args.p c.requires.1)).is) c.text_of.ensures.0 c.text_of.ensures.2
