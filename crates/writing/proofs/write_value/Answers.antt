use Rattle.print.proofs.Spans.{span_within, span_means}
use Rattle.support.specs.Feed.{escaped, fed}
use Rattle.output.specs.Outputs.{outputs}
use Rattle.rules.specs.Value.{render}
use Rattle.rules.specs.Bytes.{Bytes}
use lib.ListN.{length, take, drop}
use mathlib.Core.Path.{◌≡◌, sym, ap, ◌∙◌}
use Prim.Native.Nat.{ℕ, ◌-◌, ◌<◌}
use native.Mathlib.Omega.{arith}
use borrow.Author.Rules.{rules}
use Rattle.writing.proofs.write_value.Goals as goal

pub value_span-p-requires : goal.value_span-p-requires
value_span-p-requires c = let a = c.args in let h = c.requires in (h.0, (a.b.now, h.2))

pub slice_bounds-write_bytes-end : goal.slice_bounds-write_bytes-end
slice_bounds-write_bytes-end c = let a = c.args in
    let h = c.requires in
    let p = c.value_span-p in
    let lt = c.if-at-e.true in
    span_within a.s.now a.b.now a.v h.0.answers h.2 p.result (λ z. absurd (omega (arith, z, lt))) p.ensures lt

pub returns-then-at-e : goal.returns-then-at-e
returns-then-at-e c = let a = c.args in
    let h = c.requires in
    let p = c.value_span-p in
    let lt = c.if-at-e.true in
    let f = c.write_bytes in
    let i = a.indent.now in
    let x : Bytes = take (p.result.end - p.result.start) (drop p.result.start a.s.now) in
    span_means a.s.now a.b.now a.v h.0.answers h.2 p.result (λ z. absurd (omega (arith, z, lt))) p.ensures
    (λ j. outputs f.result f.new.page f.new.texts ≡ fed i (escaped a.escape (render j)) (outputs a.w a.page.now a.texts.now))
    (λ j q. f.ensures ∙ ap (λ (v : Bytes). fed i (escaped a.escape v) (outputs a.w a.page.now a.texts.now)) (sym q))

pub returns : goal.returns
returns c = c.other_value.ensures
