use Rattle.lookup.proofs.Finding.{key_same, last_hit, last_miss, last_none}
use Rattle.text.specs.Rest.{rest}
use Rattle.meaning.specs.Entries.{place}
use Rattle.meaning.specs.Meaning.{pairs, json_of}
use Rattle.merging.specs.Lookup.{find_last}
use native.Mathlib.Omega.{arith}
use mathlib.Core.Path.{◌≡◌, refl}
use Prim.Native.Nat.{◌≤◌, ◌+◌, ◌-◌}
use borrow.Author.Rules.{rules}
use Rattle.lookup.proofs.last_key.Goals as goal

pub overflow_add-h : goal.overflow_add-h
overflow_add-h c = omega (arith, c.requires.2)

pub returns-then-same : goal.returns-then-same
returns-then-same c = let k = c.loop-k.k in
    let f = key_same c.args.b.now (rest c.args.s.now c.args.b.now c.args.t) (rest c.args.s.now c.args.b.now c.text_of-key.result) c.same.result c.place.result (place c.args.ent.now (c.args.h + (k - 1))) c.same.ensures c.text_of-key.ensures.0 c.place.ensures in
    last_hit c.args.s.now c.args.b.now c.args.ent.now c.args.h c.args.n (rest c.args.s.now c.args.b.now c.args.t) _ k (omega arith) c.loop-k.invariant c.same.result f (omega arith) c.if-same.true

pub loop-k-preserved : goal.loop-k-preserved
loop-k-preserved c = let k = c.loop-k.k in
    let f = key_same c.args.b.now (rest c.args.s.now c.args.b.now c.args.t) (rest c.args.s.now c.args.b.now c.text_of-key.result) c.same.result c.place.result (place c.args.ent.now (c.args.h + (k - 1))) c.same.ensures c.text_of-key.ensures.0 c.place.ensures in
    last_miss c.args.s.now c.args.b.now c.args.ent.now c.args.h c.args.n (rest c.args.s.now c.args.b.now c.args.t) _ k (omega arith) c.loop-k.invariant c.same.result f c.if-same.false

pub returns : goal.returns
returns c = last_none c.args.s.now c.args.b.now c.args.ent.now c.args.h c.args.n (rest c.args.s.now c.args.b.now c.args.t) _ c.loop-k.k (λ z. omega (arith, c.loop-k-test.false)) c.loop-k.invariant
