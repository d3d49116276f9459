use mathlib.Core.Path.{◌≡◌, sym, ap, ◌∙◌}
use Prim.Native.Nat.{ℕ, ◌+◌, ◌-◌}
use native.Mathlib.Omega.{arith}
use lib.ListN.{take, drop}
use Rattle.rules.specs.Bytes.{run}
use Rattle.output.specs.Writer.{output}
use Rattle.support.specs.Feed.{all_emitted, escaped}
use Rattle.support.specs.Runs.{calm, quiet_byte}
use Rattle.support.proofs.Steps.{feed_more, feed_done}
use Rattle.support.proofs.Runs.{calm_run, plain_run, run_step}
use borrow.Author.Rules.{rules}
use Rattle.support.proofs.feed_bytes.Goals as goal

pub feed_run-q-requires : goal.feed_run-q-requires
feed_run-q-requires c = let a = c.args in
    let l = c.loop-i in
    let has = l.q.has_indent in
    let e : c.quiet-n.result - l.i ≡ run (quiet_byte has a.escape) (drop l.i a.v.now) = omega (arith, c.quiet-n.ensures.0) in
    ap (λ (n : ℕ). calm has (take n (drop l.i a.v.now))) e ∙ calm_run has a.escape (drop l.i a.v.now)

pub returns-then-v-n : goal.returns-then-v-n
returns-then-v-n c = let a = c.args in
    let l = c.loop-i in
    let p = c.feed_run-q in
    let n = c.quiet-n.result in
    let d = drop l.i a.v.now in
    let has = l.q.has_indent in
    let o' = output p.result p.new.out in
    let e : n - l.i ≡ run (quiet_byte has a.escape) d = omega (arith, c.quiet-n.ensures.0) in
    let s : l.i + (n - l.i) ≡ n = omega (arith, c.quiet-n.ensures.0) in
    let plain : escaped a.escape (take (n - l.i) d) ≡ take (n - l.i) d = rw e (plain_run has a.escape d) in
    sym (feed_done a.indent.now a.v.now (l.i + (n - l.i)) a.escape o' (omega (arith, c.if-v-n.true)))
    ∙ run_step a.indent.now a.v.now l.i (n - l.i) a.escape (output l.q l.out) o' plain p.ensures
    ∙ l.invariant.2

pub loop-i-preserved : goal.loop-i-preserved
loop-i-preserved c = let a = c.args in
    let l = c.loop-i in
    let p = c.feed_run-q in
    let f = c.feed_escaped-q in
    let n = c.quiet-n.result in
    let d = drop l.i a.v.now in
    let has = l.q.has_indent in
    let o' = output p.result p.new.out in
    let e : n - l.i ≡ run (quiet_byte has a.escape) d = omega (arith, c.quiet-n.ensures.0) in
    let s : n ≡ l.i + (n - l.i) = omega (arith, c.quiet-n.ensures.0) in
    let plain : escaped a.escape (take (n - l.i) d) ≡ take (n - l.i) d = rw e (plain_run has a.escape d) in (
      search rules,
      search rules,
      feed_more a.indent.now a.v.now n a.escape o' (output f.result f.new.out) c.if-v-n.false f.ensures
          ∙ ap (λ (k : ℕ). all_emitted a.indent.now (escaped a.escape (drop k a.v.now)) o') s
          ∙ run_step a.indent.now a.v.now l.i (n - l.i) a.escape (output l.q l.out) o' plain p.ensures
          ∙ l.invariant.2,
    )

pub returns : goal.returns
returns c = let a = c.args in
    let l = c.loop-i in
    sym (feed_done a.indent.now a.v.now l.i a.escape (output l.q l.out) c.loop-i-test.false) ∙ l.invariant.2
