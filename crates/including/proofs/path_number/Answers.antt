use native.Mathlib.Omega.{arith}
use Rattle.including.proofs.path_number.Goals as goal

pub evaluate_near-r-requires : goal.evaluate_near-r-requires
evaluate_near-r-requires c = let z = c in
    (z.requires.0, z.requires.1, record { stack = z.args.scopes; used = z.args.used; newest = z.requires.5; near = z.requires.4 }, z.requires.6)

pub returns-then-r-ne-FAR : goal.returns-then-r-ne-FAR
returns-then-r-ne-FAR c = let z = c in
    (omega (arith, c.evaluate_near-r.ensures.0, c.if-r-ne-FAR.true), c.evaluate_near-r.ensures.1 c.if-r-ne-FAR.true z.args.scopes z.args.used z.requires.5)

pub evaluate_far-requires : goal.evaluate_far-requires
evaluate_far-requires c = let z = c in
    (z.requires.0, z.requires.1, z.requires.2, z.requires.3, z.requires.4, z.requires.6, z.requires.5.covered)

pub returns : goal.returns
returns c = c.evaluate_far.ensures
