use Rattle.partials.proofs.Searches.{no_current, current_is}
use Rattle.decorators.proofs.Naming.{text_name, text_held}
use Rattle.lookup.proofs.Ordered.{string_near}
use Rattle.expand.specs.Answers.{name_of}
use Rattle.layout.specs.Text.{text_at}
use Rattle.rules.specs.Bytes.{Bytes, same}
use Rattle.rules.specs.Bits.{bits}
use Prim.Native.Nat.{◌-◌}
use mathlib.Core.Path.{refl, sym, ap, ◌∙◌}
use borrow.Author.Rules.{rules}
use Rattle.partials.proofs.is_current_template.Goals as goal

pub returns-then-template-eq0 : goal.returns-then-template-eq0
returns-then-template-eq0 c = let z = c in record { at = λ ent t st. no_current (bits z.args.b.now) z.args.template (name_of z.args.s.now z.args.b.now ent z.args.v) c.if-template-eq0.true }

pub same_text-requires : goal.same_text-requires
same_text-requires c = let z = c in
    (string_near z.args.b.now _ z.requires.1 (text_held z.args.s.now z.args.b.now z.args.v _ c.in-Text.is z.requires.3), string_near z.args.b.now _ z.requires.1 (z.requires.2 c.if-template-eq0.false))

pub returns-in-Text : goal.returns-in-Text
returns-in-Text c = let z = c in
    let b = bits z.args.b.now in
    let m = text_at b (z.args.template - 1) in
    record { at = λ ent t st. current_is b z.args.template (name_of z.args.s.now z.args.b.now ent z.args.v) m _ c.if-template-eq0.false (c.same_text.ensures ∙ ap (λ (n : Bytes). same n m) (sym (text_name z.args.s.now z.args.b.now ent z.args.v _ c.in-Text.is))) refl }

pub text_of-requires : goal.text_of-requires
text_of-requires c = let z = c in (z.requires.1, z.requires.2 c.if-template-eq0.false)

pub text_same-requires : goal.text_same-requires
text_same-requires c = let z = c in (z.requires.0, z.requires.1, z.requires.3, c.text_of.ensures.1)

pub returns : goal.returns
returns c = let z = c in record { at = λ ent t st. current_is (bits z.args.b.now) z.args.template (name_of z.args.s.now z.args.b.now ent z.args.v) _ _ c.if-template-eq0.false (c.text_same.ensures.at ent t st) c.text_of.ensures.0 }
