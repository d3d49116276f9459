use Rattle.lookup.proofs.Scanning.{Scans, ahead, scan_start, scan_end, scan_on, at_child, walks_less}
use Rattle.text.specs.Rest.{rest}
use Rattle.places.specs.Places.{last_onto, member, name_at}
use Rattle.places.specs.Kinds.{found}
use Rattle.rules.specs.Bytes.{pick, same}
use mathlib.Core.Path.{refl}
use mathlib.Core.Option.{some}
use borrow.Author.Rules.{rules}
use Rattle.lookup.proofs.any_member.Goals as goal

pub loop-at-init : goal.loop-at-init
loop-at-init c = scan_start c.args.s.now c.args.i _ _ _ _ c.first-at.result c.first-at.ensures

pub returns : goal.returns
unfolding member
returns c = scan_end c.args.s.now c.args.i _ _ _ _ (found c.loop-at.best) c.loop-at.at c.loop-at.invariant c.in_default.is

pub latest-best-requires : goal.latest-best-requires
latest-best-requires c = (c.requires.0, (at_child c.args.s.now c.args.tab.now c.requires.0 c.args.i c.requires.1 c.loop-at.at c.loop-at.invariant.walks c.in-Some.c c.in-Some.is).within, c.requires.2)

pub next-at-requires : goal.next-at-requires
next-at-requires c = (c.requires.0, c.requires.1, (at_child c.args.s.now c.args.tab.now c.requires.0 c.args.i c.requires.1 c.loop-at.at c.loop-at.invariant.walks c.in-Some.c c.in-Some.is).within)

pub loop-at-smaller : goal.loop-at-smaller
loop-at-smaller c = walks_less c.args.s.now c.args.tab.now c.requires.0 c.args.i c.requires.1 c.loop-at.at c.loop-at.invariant.walks c.next-at.result c.in-Some.c c.in-Some.is c.next-at.ensures.0

pub loop-at-preserved : goal.loop-at-preserved
loop-at-preserved c = scan_on c.args.s.now c.args.i _ _ _ _ c.args.tab.now c.requires.0 c.requires.1 (found c.loop-at.best) c.loop-at.at c.loop-at.invariant c.in-Some.c c.in-Some.is (found c.latest-best.result) c.next-at.result c.latest-best.ensures c.next-at.ensures.0
