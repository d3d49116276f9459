use Rattle.lookup.specs.Places as spec
use Rattle.lookup.proofs.Ordered.{parsed_some, parsed_none}
use Rattle.text.specs.Rest.{rest}
use Rattle.places.specs.Places.{children}
use Rattle.places.specs.Nodes.{short}
use Rattle.rules.specs.Context.{parse_usize}
use mathlib.Core.Path.{◌∙◌, ap, sym}
use borrow.Author.Rules.{rules}
use Rattle.lookup.proofs.list_data.Goals as goal

pub index_of-requires : goal.index_of-requires
index_of-requires c = (short c.args.s.now c.requires.0.answers, c.requires.2)

pub returns-in_default : goal.returns-in_default
returns-in_default c = let e = parsed_none (parse_usize (rest c.args.s.now c.args.b.now c.args.t)) (sym c.in_default.is ∙ c.index_of.ensures) in
    ap (spec.list_reached (children c.args.s.now c.args.i)) (sym e)

pub returns : goal.returns
returns c = let e = parsed_some (parse_usize (rest c.args.s.now c.args.b.now c.args.t)) c.in-Some.n (sym c.in-Some.is ∙ c.index_of.ensures) in
    c.from_place.ensures ∙ ap spec.reached_at c.nth.ensures ∙ ap (spec.list_reached (children c.args.s.now c.args.i)) (sym e)
