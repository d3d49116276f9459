use Rattle.print.proofs.Digits.{put_front, put_length, put_within}
use Rattle.support.specs.Feed.{escaped, fed}
use Rattle.output.specs.Outputs.{outputs}
use Rattle.rules.specs.Bytes.{Bytes}
use lib.ListN.{replicate}
use mathlib.Core.Path.{◌∙◌, ap}
use native.Mathlib.Omega.{arith}
use borrow.Author.Rules.{rules}
use Rattle.writing.proofs.write_number.Goals as goal

pub slice_bounds-buf-end : goal.slice_bounds-buf-end
slice_bounds-buf-end c = let w = c.write_digits-e in
    put_within (replicate 20 0) 0 c.args.n (omega arith) (omega arith) w.result w.new.out w.ensures.0 w.ensures.1 w.auto.out

pub slice_bounds-any_bytes-end : goal.slice_bounds-any_bytes-end
slice_bounds-any_bytes-end c = let w = c.write_digits-e in
    put_length (replicate 20 0) 0 c.args.n (omega arith) (omega arith) w.result w.new.out w.ensures.0 w.ensures.1

pub returns : goal.returns
returns c = let a = c.args in
    let w = c.write_digits-e in
    c.any_bytes.ensures ∙ ap (λ (x : Bytes). fed a.indent.now (escaped a.escape x) (outputs a.w a.page.now a.texts.now)) (put_front (replicate 20 0) 0 a.n (omega arith) (omega arith) w.result w.new.out w.ensures.0 w.ensures.1)
