use Rattle.decorators.proofs.Naming.{literal_name, string_named}
use Rattle.lookup.proofs.Ordered.{string_near}
use Rattle.places.specs.Nodes.{short}
use Rattle.layout.specs.Text.{text_at}
use Rattle.rules.specs.Bytes.{Bytes, same}
use Rattle.rules.specs.Bits.{bits}
use mathlib.Core.Path.{ap, ap₂, ◌∙◌}
use borrow.Author.Rules.{rules}
use Rattle.decorators.proofs.has_name.Goals as goal

pub same_text-requires : goal.same_text-requires
same_text-requires c = let z = c in (
  string_near z.args.b.now _ z.requires.1 (literal_name z.args.s.now z.args.b.now z.args.ent.now z.args.e z.requires.3 _ c.low-n.ensures c.if-n-eq7.true).0,
  string_near z.args.b.now _ z.requires.1 z.requires.4,
)

pub returns-then-n-eq7 : goal.returns-then-n-eq7
returns-then-n-eq7 c = let z = c in
    c.same_text.ensures
    ∙ ap (λ (m : Bytes). same m (text_at (bits z.args.b.now) z.args.q)) (literal_name z.args.s.now z.args.b.now z.args.ent.now z.args.e z.requires.3 _ c.low-n.ensures c.if-n-eq7.true).1

pub same_text-requires-then-n-eq11 : goal.same_text-requires-then-n-eq11
same_text-requires-then-n-eq11 c = let z = c in (
  string_near z.args.b.now _ z.requires.1 (string_named z.args.s.now z.args.b.now z.args.ent.now z.args.e z.requires.3 _ c.low-n.ensures c.if-n-eq11.true).0,
  string_near z.args.b.now _ z.requires.1 z.requires.4,
)

pub returns-then-n-eq11 : goal.returns-then-n-eq11
returns-then-n-eq11 c = let z = c in
    c.same_text-then-n-eq11.ensures
    ∙ ap (λ (m : Bytes). same m (text_at (bits z.args.b.now) z.args.q)) (string_named z.args.s.now z.args.b.now z.args.ent.now z.args.e z.requires.3 _ c.low-n.ensures c.if-n-eq11.true).1

pub same-requires : goal.same-requires
same-requires c = let z = c in (short z.args.s.now z.requires.0.answers, c.inline_name.ensures.1, c.text_of.ensures.1)

pub returns : goal.returns
returns c = c.same.ensures ∙ ap₂ same c.inline_name.ensures.0 c.text_of.ensures.0
