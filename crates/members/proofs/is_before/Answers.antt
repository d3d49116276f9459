use Rattle.members.proofs.Nearing.{spelled_stands}
use Rattle.members.specs.Next.{key_name}
use Rattle.places.specs.Nodes.{short}
use Rattle.places.proofs.Ordered.{less_before}
use Rattle.rules.specs.Order.{cmp}
use mathlib.Core.Path.{◌∙◌, ap₂}
use borrow.Author.Rules.{rules}
use Rattle.members.proofs.is_before.Goals as goal

pub string_text-t-requires : goal.string_text-t-requires
string_text-t-requires c = (c.requires.0, c.requires.1, c.requires.2.held)

pub string_text-u-requires : goal.string_text-u-requires
string_text-u-requires c = (c.requires.0, c.requires.1, c.requires.3.held)

pub compare-requires : goal.compare-requires
compare-requires c = let a = c.args in
    let p = c.requires in
    (short a.s.now p.0.answers, spelled_stands a.s.now a.b.now p.1 c.string_text-t.result (c.string_text-t.ensures _ p.2.says).spelled, spelled_stands a.s.now a.b.now p.1 c.string_text-u.result (c.string_text-u.ensures _ p.3.says).spelled)

pub returns : goal.returns
returns c = let a = c.args in
    let p = c.requires in
    c.is_lt.ensures ∙ less_before (key_name a.s.now a.b.now a.k) (key_name a.s.now a.b.now a.l) c.compare.result
    (c.compare.ensures ∙ ap₂ cmp (c.string_text-t.ensures _ p.2.says).is (c.string_text-u.ensures _ p.3.says).is)
