use borrow.Author.Rules.{rules}
use native.Mathlib.Omega.{arith}
use mathlib.Core.Path.{◌∙◌, ap}
use lib.ListN.{replicate}
use Rattle.rules.specs.Bytes.{Bytes}
use Rattle.output.specs.Writer.{output}
use Rattle.print.specs.Printed.{printed}
use Rattle.print.proofs.Digits.{put_front, put_length, put_within}
use Rattle.print.proofs.write_digits.Goals as goal

pub slice_bounds-buf-end : goal.slice_bounds-buf-end
slice_bounds-buf-end c = let w = c.write_digits-e in
    put_within (replicate 20 0) 0 c.args.n (omega arith) (omega arith) w.result w.new.out w.ensures.0 w.ensures.1 w.auto.out

pub slice_bounds-feed_bytes-end : goal.slice_bounds-feed_bytes-end
slice_bounds-feed_bytes-end c = let w = c.write_digits-e in
    put_length (replicate 20 0) 0 c.args.n (omega arith) (omega arith) w.result w.new.out w.ensures.0 w.ensures.1

pub returns : goal.returns
returns c = let a = c.args in
    let w = c.write_digits-e in
    c.feed_bytes.ensures ∙ ap (λ (x : Bytes). printed a.indent.now a.escape x (output a.w a.out.now)) (put_front (replicate 20 0) 0 a.n (omega arith) (omega arith) w.result w.new.out w.ensures.0 w.ensures.1)
