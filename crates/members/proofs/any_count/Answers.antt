use Rattle.members.proofs.Counting.{parts_held, parts_counted}
use Rattle.value.specs.Numbers.{decoded}
use mathlib.Core.Path.{◌∙◌, ap}
use borrow.Author.Rules.{rules}
use Rattle.members.proofs.any_count.Goals as goal

pub lacking-new-requires : goal.lacking-new-requires
lacking-new-requires c = (c.requires.0, c.requires.1, parts_held c.args.s.now c.args.b.now c.args.tab.now c.requires.0 c.args.ent.now c.args.h c.args.n c.requires.2 c.decode-base.result (c.decode-base.ensures ∙ ap decoded c.high.ensures), c.requires.2.room, c.requires.2.keys)

pub member_count-requires : goal.member_count-requires
member_count-requires c = (c.requires.0, c.requires.1, parts_held c.args.s.now c.args.b.now c.args.tab.now c.requires.0 c.args.ent.now c.args.h c.args.n c.requires.2 c.decode-base.result (c.decode-base.ensures ∙ ap decoded c.high.ensures))

pub returns : goal.returns
returns c = parts_counted c.args.s.now c.args.b.now c.args.tab.now c.requires.0 c.args.ent.now c.args.h c.args.n c.requires.2 c.decode-base.result (c.decode-base.ensures ∙ ap decoded c.high.ensures) c.lacking-new.result c.member_count.result c.lacking-new.ensures.0 c.member_count.ensures.0
