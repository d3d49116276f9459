use Prim.Native.Nat.{ℕ}
use mathlib.Core.Path.{ap, ◌∙◌}
use Rattle.state.specs.Context.{whole}
use Rattle.state.specs.Setters.{with_writer}
use Rattle.texts.specs.Setters.{with_texts}
use borrow.Author.Rules.{rules}
use Rattle.texts.proofs.close_text.Goals as goal

pub returns : goal.returns
returns c = let a = c.args in (
  λ l. c.set_writer.ensures l ∙ ap (λ (h : ℕ). with_writer (whole a.rc l) (with_texts a.rc.writer a.begin h a.block_text)) c.move_text.ensures.0,
  rw (c.move_text.ensures.1, c.move_text.ensures.0),
)
