use Rattle.meaning.specs.Forms.{FormOf}
use Rattle.parts.specs.Says.{LiteralStands, literal_stands}
use Rattle.rules.specs.Bits.{bits}
use Rattle.rules.specs.Template.{literal_json}
use borrow.Author.Rules.{rules}
use mathlib.Core.Path.{◌∙◌, ap, subst, sym}
use Rattle.meaning.proofs.literal_form.Goals as goal

pub text_form-requires : goal.text_form-requires
text_form-requires c = let s = c in
    let e = subst (LiteralStands (bits s.args.b.now) s.args.p) (sym c.literal_at-l.ensures ∙ c.in-String.is) (literal_stands (bits s.args.b.now) s.args.p s.requires.1) in
    (s.requires.0, e.parts)

pub returns-in-Null : goal.returns-in-Null
returns-in-Null c = let s = c in
    let e = subst (LiteralStands (bits s.args.b.now) s.args.p) (sym c.literal_at-l.ensures ∙ c.in-Null.is) (literal_stands (bits s.args.b.now) s.args.p s.requires.1) in
    ap literal_json e.is

pub returns-in-Boolean : goal.returns-in-Boolean
returns-in-Boolean c = let s = c in
    let e = subst (LiteralStands (bits s.args.b.now) s.args.p) (sym c.literal_at-l.ensures ∙ c.in-Boolean.is) (literal_stands (bits s.args.b.now) s.args.p s.requires.1) in
    ap literal_json e.is

pub returns-in-Unsigned : goal.returns-in-Unsigned
returns-in-Unsigned c = let s = c in
    let e = subst (LiteralStands (bits s.args.b.now) s.args.p) (sym c.literal_at-l.ensures ∙ c.in-Unsigned.is) (literal_stands (bits s.args.b.now) s.args.p s.requires.1) in
    ap literal_json e.is

pub returns-in-Negative : goal.returns-in-Negative
returns-in-Negative c = let s = c in
    let e = subst (LiteralStands (bits s.args.b.now) s.args.p) (sym c.literal_at-l.ensures ∙ c.in-Negative.is) (literal_stands (bits s.args.b.now) s.args.p s.requires.1) in
    ap literal_json e.is

pub returns-in-String : goal.returns-in-String
returns-in-String c = let s = c in
    let e = subst (LiteralStands (bits s.args.b.now) s.args.p) (sym c.literal_at-l.ensures ∙ c.in-String.is) (literal_stands (bits s.args.b.now) s.args.p s.requires.1) in
    subst (λ j. FormOf s.args.s.now s.args.b.now j c.text_form.result) (sym (ap literal_json e.is)) c.text_form.ensures
