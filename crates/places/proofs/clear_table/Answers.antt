use Rattle.places.specs.Entries.{whole_end, places_fit, zeroed_whole}
use Rattle.places.specs.Nodes.{some_places}
use mathlib.Core.Path.{sym}
use lib.Seq.{length-take-le}
use native.Mathlib.Omega.{arith}
use borrow.Author.Rules.{rules}
use Rattle.places.proofs.clear_table.Goals as goal

pub end-n-requires : goal.end-n-requires
end-n-requires c = let z = c in (z.requires, some_places z.args.s.now)

pub slice_bounds-clear-end : goal.slice_bounds-clear-end
slice_bounds-clear-end c = let z = c in
    omega (arith, c.end-n.ensures, whole_end z.args.s.now, places_fit z.args.s.now z.args.tab.now z.requires)

pub slice_bounds-clear-end-2 : goal.slice_bounds-clear-end-2
slice_bounds-clear-end-2 c = let z = c in
    sym (length-take-le c.end-n.result z.args.tab.now (omega (arith, c.end-n.ensures, whole_end z.args.s.now, places_fit z.args.s.now z.args.tab.now z.requires)))

pub returns : goal.returns
returns c = let z = c in
    let e = c.end-n in
    zeroed_whole z.args.s.now z.args.tab.now z.requires e.result _ (omega (arith, e.ensures, whole_end z.args.s.now)) c.clear.ensures
