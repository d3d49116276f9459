use Prim.Native.Nat.{◌-◌, ◌/◌, ◌%◌}
use mathlib.Core.Bool.{true, false}
use mathlib.Core.Path.{◌≡◌, refl, sym, ap, ◌∙◌}
use native.Mathlib.Omega.{arith}
use lib.ListN.{length, take, drop, length-take, length-drop}
use borrow.Author.Tests.{eq-eqb, lt-ltb, le-ltb}
use Rattle.rules.specs.Bytes.{Bytes, run}
use Rattle.rules.specs.Value.{render}
use Rattle.output.specs.Outputs.{outputs}
use Rattle.support.specs.Feed.{escaped, fed}
use Rattle.support.specs.Runs.{quiet_byte}
use Rattle.direct.specs.Direct.{behind}
use Rattle.places.specs.Nodes.{short}
use Rattle.value.specs.Numbers.{decoded}
use Rattle.print.proofs.Spans.{span_within, span_means}
use Rattle.print.proofs.Calm.{calm_is, calm_means}
use Rattle.print.specs.Span.{calm_value}
use Rattle.plain.specs.Put.{either_escaped, number_by}
use borrow.Author.Rules.{rules}
use Rattle.plain.proofs.put_number.Goals as goal

pub returns-then-w : goal.returns-then-w
returns-then-w c = let a = c.args in
    record { told = sym (number_by a.s.now a.w (length a.page.now) (length a.texts.now) a.n (calm_value a.s.now a.n) refl true _ c.if-w.true refl); none = λ _. (refl, refl); some = λ z. absurd (z refl) }

pub calm_value-p-requires : goal.calm_value-p-requires
calm_value-p-requires c = c.requires

pub slice_bounds-put_bytes-end : goal.slice_bounds-put_bytes-end
slice_bounds-put_bytes-end c = let s = c in
    let a = s.args in
    let p = c.calm_value-p in
    let lt = c.if-at-e.true in
    let sp = calm_is a.s.now a.w.has_indent p.result (λ y. absurd (omega (arith, y, lt))) a.n p.ensures in
    span_within a.s.now s.requires.1.0 (decoded a.n) s.requires.0.answers s.requires.1.1 p.result (λ y. absurd (omega (arith, y, lt))) sp lt

pub put_bytes-requires : goal.put_bytes-requires
put_bytes-requires c = let s = c in
    let a = s.args in
    let p = c.calm_value-p in
    let lt = c.if-at-e.true in
    let v : Bytes = take (p.result.end - p.result.start) (drop p.result.start a.s.now) in (
      omega (arith, length-take (p.result.end - p.result.start) (drop p.result.start a.s.now), length-drop p.result.start a.s.now, short a.s.now s.requires.0.answers),
      eq-eqb (run (quiet_byte a.w.has_indent true) v) (length v) (calm_means a.s.now a.w.has_indent p.result (λ z. absurd (omega (arith, z, lt))) a.n p.ensures),
    )

pub returns-then-at-e : goal.returns-then-at-e
returns-then-at-e c = let s = c in
    let a = s.args in
    let p = c.calm_value-p in
    let lt = c.if-at-e.true in
    let sp = calm_is a.s.now a.w.has_indent p.result (λ y. absurd (omega (arith, y, lt))) a.n p.ensures in
    let f = c.put_bytes in
    let v : Bytes = take (p.result.end - p.result.start) (drop p.result.start a.s.now) in
    record {
      told = f.ensures.told ∙ sym (number_by a.s.now a.w (length a.page.now) (length a.texts.now) a.n p.result p.ensures false true c.if-w.false (lt-ltb _ _ lt));
      none = f.ensures.put.none;
      some = λ z. let q = f.ensures.put.some z in record {
        byte = q.byte;
        fits = q.fits;
        is = λ b known i e. span_means a.s.now b (decoded a.n) s.requires.0.answers known p.result (λ y. absurd (omega (arith, y, lt))) sp
            (λ j. outputs (behind (f.result / 256) (f.result % 256) a.w) f.new.page f.new.texts ≡ fed i (escaped e (render j)) (outputs a.w a.page.now a.texts.now))
            (λ j m. q.is i ∙ ap (λ (x : Bytes). fed i x (outputs a.w a.page.now a.texts.now)) (sym (either_escaped e v (f.ensures.same z)) ∙ ap (escaped e) (sym m)));
      };
    }

pub returns : goal.returns
returns c = let a = c.args in
    let p = c.calm_value-p in
    record { told = sym (number_by a.s.now a.w (length a.page.now) (length a.texts.now) a.n p.result p.ensures false false c.if-w.false (le-ltb _ _ c.if-at-e.false)); none = λ _. (refl, refl); some = λ z. absurd (z refl) }
