use Rattle.layout.specs.Ascii.{ascii_begun}
use Rattle.utf8.specs.Machine.{wanted}
use mathlib.Core.Path.{◌∙◌, sym}
use native.Mathlib.Omega.{arith}
use Rattle.layout.proofs.part.fed.Goals as goal

pub returns-then-is_done : goal.returns-then-is_done
returns-then-is_done c = let a = c.args in
    let done = sym c.is_done.ensures ∙ c.if-is_done.true in
    let plain = sym c.is_ascii.ensures ∙ c.if-is_ascii.true in
    c.start.ensures ∙ sym (ascii_begun 7 a.k a.x (wanted a.u) (omega arith) (omega arith) done plain)
