use Rattle.support.proofs.Table.{escaped_row, escaped_none, escaped_not}
use Rattle.support.proofs.Steps.{emit_one}
use Rattle.output.specs.Writer.{output}
use Rattle.support.specs.Feed.{all_emitted, entity_or}
use Rattle.rules.specs.Bytes.{Bytes}
use Rattle.support.proofs.feed_escaped.Goals.{then-escape+else-k-lt-ROWS, else-escape}
use mathlib.Core.List.{[], ◌∷◌}
use mathlib.Core.Path.{◌≡◌, ap, ◌∙◌}
use Rattle.support.proofs.feed_escaped.Goals as goal

pub returns-then-k-lt-ROWS : goal.returns-then-k-lt-ROWS
returns-then-k-lt-ROWS c = let a = c.args in
    c.feed_entity.ensures ∙ ap (λ (v : Bytes). all_emitted a.indent.now v (output a.w a.out.now)) (escaped_row a.escape a.c c.row-k.result c.row-k.ensures c.if-escape.true c.if-k-lt-ROWS.true)

pub returns : goal.returns
returns c = let a = c.args in
    let o = output a.w a.out.now in
    let e : a.c ∷ [] ≡ entity_or a.escape a.c =
    elim c.if-escape.branch [
      | then-escape+else-k-lt-ROWS w ↦ escaped_none a.escape a.c w.row-k.result w.row-k.ensures w.if-escape.true w.if-k-lt-ROWS.false
      | else-escape w ↦ escaped_not a.escape a.c w.if-escape.false
    ] in
    c.feed.ensures ∙ emit_one a.indent.now a.c o ∙ ap (λ (v : Bytes). all_emitted a.indent.now v o) e
