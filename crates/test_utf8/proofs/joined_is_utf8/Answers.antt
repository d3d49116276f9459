use Rattle.utf8.proofs.Laws.{after_append, fed_end}
use Rattle.utf8.specs.Machine.{wanted, begun, after}
use mathlib.Core.Path.{sym, ap, ◌∙◌}
use mathlib.Core.List.{◌++◌}
use Rattle.test_utf8.proofs.joined_is_utf8.Goals as goal

pub returns : goal.returns
returns c = let s = c.args.s.now in
    let t = c.args.t.now in
    let first = c.fed.ensures ∙ ap (λ w. after w s) c.start.ensures in
    let both = c.fed-2.ensures ∙ ap (λ w. after w t) first ∙ sym (after_append begun s t) in
    c.is_done.ensures ∙ fed_end (s ++ t) (wanted c.fed-2.result) both
