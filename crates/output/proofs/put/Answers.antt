use Rattle.output.proofs.Steps.{put_fits, put_full, low_more, written_more}
use Rattle.output.specs.Writer.{output, advanced, place_of, limit_of}
use Rattle.output.specs.declared.Writer.{Writer}
use lib.ListN.{length, set}
use Prim.Native.Nat.{ℕ, ◌<◌}
use mathlib.Core.Path.{ap, ◌∙◌}
use Rattle.output.proofs.put.Goals as goal

pub returns-then-q : goal.returns-then-q
returns-then-q c = let a = c.args in
    let k = c.place-at.result in
    let h : place_of a.w < limit_of a.w (length a.out.now) = rw (c.place-at.ensures, c.limit.ensures) at c.if-at-limit.true in
    ap (λ (w : Writer). output w (set a.out.now k a.c)) (low_more a.w k c.place-at.ensures c.if-q.true)
    ∙ ap (λ (n : ℕ). output (advanced 1 a.w) (set a.out.now n a.c)) c.place-at.ensures
    ∙ put_fits a.c (output a.w a.out.now) h

pub returns-else-q : goal.returns-else-q
returns-else-q c = let a = c.args in
    let k = c.place-at.result in
    let h : place_of a.w < limit_of a.w (length a.out.now) = rw (c.place-at.ensures, c.limit.ensures) at c.if-at-limit.true in
    ap (λ (w : Writer). output w (set a.out.now k a.c)) (written_more a.w k c.place-at.ensures c.if-q.false)
    ∙ ap (λ (n : ℕ). output (advanced 1 a.w) (set a.out.now n a.c)) c.place-at.ensures
    ∙ put_fits a.c (output a.w a.out.now) h

pub returns-else-at-limit : goal.returns-else-at-limit
returns-else-at-limit c = let a = c.args in
    put_full a.c (output a.w a.out.now) (rw (c.place-at.ensures, c.limit.ensures) at c.if-at-limit.false)
