use Rattle.output.proofs.Written.{part_written}
use Rattle.output.specs.Writer.{output, room}
use lib.ListN.{length}
use Prim.Native.Nat.{min}
use mathlib.Core.Path.{◌≡◌, ap, ◌∙◌}
use Rattle.output.proofs.write.Goals as goal

pub returns : goal.returns
returns c = let a = c.args in
    let h : c.min-n.result ≡ min (length a.v.now) (room (output a.w a.out.now)) = c.min-n.ensures ∙ ap (min (length a.v.now)) c.room.ensures in
    part_written a.v.now c.min-n.result (output a.w a.out.now) h c.advance.result c.fill.result c.copy.new.out c.place-at.result c.fill.ensures c.advance.ensures c.copy.ensures c.place-at.ensures
