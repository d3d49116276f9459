use mathlib.Core.Path.{refl, subst}
use Rattle.places.specs.Children.{around_is}
use native.Mathlib.Omega.{arith}
use Rattle.rules.specs.Bits.{bits}
use Rattle.layout.specs.Text.{text_at}
use Rattle.value.specs.declared.Value.TheVariants.{Context}
use Rattle.meaning.specs.Standing.{plain}
use Rattle.lookup.specs.Answers.{DataGot}
use Rattle.context.proofs.Climbing.{place_held, climb_found, climb_root, climb_up}
use borrow.Enum.Refused.{opened}
use Rattle.context.proofs.climb.Goals as goal

pub get_data-found-requires : goal.get_data-found-requires
get_data-found-requires c = let s = c.args.s.now in
    let tab = c.args.tab.now in
    let b = c.args.b.now in
    let ent = c.args.ent.now in
    (c.requires.0, c.requires.1, place_held s b ent tab c.requires.0 c.loop-w.at c.loop-w.invariant.within c.loop-w.invariant.live, c.requires.4)

pub returns-in-Is : goal.returns-in-Is
returns-in-Is c = let s = c.args.s.now in
    let tab = c.args.tab.now in
    let b = c.args.b.now in
    let ent = c.args.ent.now in
    let k = text_at (bits b) c.args.q in
    climb_found s b ent tab c.requires.0 c.args.i k c.loop-w.at c.loop-w.invariant c.in-Is.w (subst (DataGot s b ent (Context c.loop-w.at) k) c.in-Is.is c.get_data-found.ensures)

pub returns-then-at-eq0 : goal.returns-then-at-eq0
returns-then-at-eq0 c = let s = c.args.s.now in
    let tab = c.args.tab.now in
    let b = c.args.b.now in
    let ent = c.args.ent.now in
    let k = text_at (bits b) c.args.q in
    (climb_root s b ent tab c.requires.0 c.args.i k c.loop-w.at c.loop-w.invariant c.get_data-found.result (opened c.in_default.in_default-own.keys2) c.get_data-found.ensures (omega arith), λ t. plain refl tt)

pub loop-w-smaller : goal.loop-w-smaller
loop-w-smaller c = let a = around_is c.args.s.now c.loop-w.at c.requires.0.answers (omega arith) c.loop-w.invariant.within in
    omega (arith, a.before, c.parent-at.ensures)

pub loop-w-preserved : goal.loop-w-preserved
loop-w-preserved c = let s = c.args.s.now in
    let tab = c.args.tab.now in
    let b = c.args.b.now in
    let ent = c.args.ent.now in
    let k = text_at (bits b) c.args.q in
    climb_up s b ent tab c.requires.0 c.args.i k c.loop-w.at c.loop-w.invariant c.get_data-found.result (opened c.in_default.in_default-own.keys2) c.get_data-found.ensures (omega arith) c.parent-at.result c.parent-at.ensures
