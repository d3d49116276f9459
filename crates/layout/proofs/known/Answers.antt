use Prim.Native.Nat.{◌-◌}
use Rattle.layout.proofs.Distinct.{among_here, among_none, among_on}
use Rattle.layout.specs.Text.{text_at}
use Rattle.rules.specs.Bits.{bits}
use mathlib.Core.Path.{◌∙◌, refl}
use native.Mathlib.Omega.{arith}
use Rattle.layout.proofs.known.Goals as goal

pub loop-j-init : goal.loop-j-init
loop-j-init c = refl

pub bounds-places-j : goal.bounds-places-j
bounds-places-j c = omega arith

pub overflow_cast-places : goal.overflow_cast-places
overflow_cast-places c = omega (arith, c.requires.1 (c.loop-j.j - 1) (omega arith))

pub same_text-requires : goal.same_text-requires
same_text-requires c = (c.requires.1 (c.loop-j.j - 1) (omega arith), c.requires.2)

pub returns-then-same_text : goal.returns-then-same_text
returns-then-same_text c = let z = c in among_here (bits z.args.b.now) z.args.places.now (text_at (bits z.args.b.now) z.args.at) c.loop-j.j (omega arith) _ c.same_text.ensures c.if-same_text.true ∙ c.loop-j.invariant

pub loop-j-preserved : goal.loop-j-preserved
loop-j-preserved c = let z = c in among_on (bits z.args.b.now) z.args.places.now (text_at (bits z.args.b.now) z.args.at) c.loop-j.j (omega arith) _ c.same_text.ensures c.if-same_text.false ∙ c.loop-j.invariant

pub returns : goal.returns
returns c = let z = c in among_none (bits z.args.b.now) z.args.places.now (text_at (bits z.args.b.now) z.args.at) c.loop-j.j (omega arith) ∙ c.loop-j.invariant
