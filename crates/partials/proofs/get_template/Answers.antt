use Rattle.decorators.proofs.Naming.{text_name, text_held}
use Rattle.lookup.proofs.Ordered.{string_near}
use Rattle.registry.specs.Templates.{templates_at, found_view}
use Rattle.rules.specs.Bundle.{body, find_template}
use Rattle.rules.specs.Bytes.{Bytes}
use Rattle.rules.specs.Bits.{bits}
use mathlib.Core.Path.{sym, ap, ◌∙◌}
use borrow.Author.Rules.{rules}
use Rattle.partials.proofs.get_template.Goals as goal

pub get_indexed-requires : goal.get_indexed-requires
get_indexed-requires c = let z = c in (z.requires.1, z.requires.2, z.requires.3, z.requires.4, string_near z.args.b.now _ z.requires.1 (text_held z.args.s.now z.args.b.now z.args.v _ c.in-Text.is z.requires.5))

pub returns-in-Text : goal.returns-in-Text
returns-in-Text c = let z = c in
    let b = bits z.args.b.now in
    record { at = λ ent t st. c.get_indexed.ensures ∙ ap (λ (m : Bytes). found_view (body 16 16) b (find_template (templates_at 16 b) m)) (sym (text_name z.args.s.now z.args.b.now ent z.args.v _ c.in-Text.is)) }

pub get_printed-requires : goal.get_printed-requires
get_printed-requires c = c.requires

pub returns : goal.returns
returns c = c.get_printed.ensures
