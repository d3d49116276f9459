use Rattle.output.specs.Writer.{output, over, put}
use Rattle.support.specs.Feed.{with_pen, penned, emitted}
use native.Mathlib.Numerals.{add-one}
use Prim.Native.Nat.{ℕ, suc, ◌+◌}
use mathlib.Core.Path.{◌≡◌, ap, ◌∙◌}
use Rattle.support.proofs.feed.Goals as goal

pub returns : goal.returns
unfolding emitted
returns c = let a = c.args in
    let p = c.put-r in
    let e : c.from.result + 1 ≡ suc a.c = ap (λ (n : ℕ). n + 1) c.from.ensures ∙ add-one a.c in
    ap (λ (n : ℕ). output (with_pen n p.result) p.new.out) e ∙ ap (over (penned a.c)) (p.ensures ∙ ap (put a.c) c.indent_before-q.ensures)
