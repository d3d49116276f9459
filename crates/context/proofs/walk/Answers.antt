use mathlib.Core.Path.{sym, subst}
use native.Mathlib.Omega.{arith}
use Prim.Native.Nat.{◌+◌, ◌-◌}
use mathlib.Core.Path.{◌≡◌}
use Rattle.rules.specs.Bits.{bits}
use Rattle.rules.specs.Path.{merge_json_path}
use Rattle.parts.specs.Says.{segments_at}
use Rattle.meaning.specs.Meaning.{json_of}
use Rattle.context.specs.declared.Evaluated.{Evaluated}
use Rattle.context.specs.Walk.{walked}
use Rattle.context.specs.Evaluated.{path_of, Evaluates, Stepped}
use Rattle.context.proofs.Walking.{first_holds, Walks, walk_again, walk_stop, walk_done}
use borrow.Enum.Refused.{opened}
use Rattle.context.proofs.walk.Goals as goal

pub along-requires : goal.along-requires
along-requires c = (c.requires.0, c.requires.1, c.loop.invariant.held, first_holds (bits c.args.b.now) c.loop.at (c.args.n - c.loop.counter) (omega arith) c.loop.invariant.holds)

pub returns-in_default : goal.returns-in_default
returns-in_default c = let s = c.args.s.now in
    let b = c.args.b.now in
    let ent = c.args.ent.now in
    let v = c.args.v in
    let p = c.args.p in
    let n = c.args.n in
    λ t st x. subst (λ (y : Evaluated). Evaluates s b ent t (walked (path_of s v) (json_of s b ent v) (merge_json_path (segments_at n (bits b) p))) y) (sym c.stopped.ensures) (walk_stop s b ent v p n c.loop.cur c.loop.at (c.args.n - c.loop.counter) c.loop.invariant c.along.result (opened c.in_default.in_default-own.keys2) (omega arith) c.along.ensures t x)

pub loop-preserved : goal.loop-preserved
loop-preserved c = let s = c.args.s.now in
    let b = c.args.b.now in
    let ent = c.args.ent.now in
    let v = c.args.v in
    let p = c.args.p in
    let n = c.args.n in
    let e : n - c.loop.counter - 1 ≡ n - (c.loop.counter + 1) = omega arith in
    subst (Walks s b ent v p n c.in-On.w c.in-On.next) e
    (walk_again s b ent v p n c.loop.cur c.loop.at (n - c.loop.counter) c.loop.invariant c.in-On.w c.in-On.next (omega arith) (subst (Stepped s b ent c.loop.cur c.loop.at) c.in-On.is c.along.ensures))

pub returns : goal.returns
returns c = let s = c.args.s.now in
    let b = c.args.b.now in
    let ent = c.args.ent.now in
    let v = c.args.v in
    let p = c.args.p in
    let n = c.args.n in
    λ t st x. walk_done s b ent v p n c.loop.cur c.loop.at (c.args.n - c.loop.counter) c.loop.invariant (omega arith) t st x
