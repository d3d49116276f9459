use Rattle.rules.specs.Bytes.{byte_at, is_in}
use Rattle.rules.specs.Scan.{exponent_end, some_digits_end}
use Rattle.rules.specs.Picks.{or_false, picks, yes}
use mathlib.Core.List.{[], ◌∷◌}
use mathlib.Core.Path.{◌∙◌, ap}
use Rattle.scan.proofs.exponent_end.Goals as goal

pub returns-then-c : goal.returns-then-c
unfolding exponent_end
returns-then-c c = yes (is_in (101 ∷ 69 ∷ []) (byte_at c.args.s.now c.args.i)) _ _ _ (simp (or_false, ← c.byte-c.ensures) c.if-c.true)
    (c.some_digits_end.ensures ∙ ap (some_digits_end c.args.s.now) c.sign_end.ensures)

pub returns : goal.returns
unfolding exponent_end
returns c = simp (or_false, ← c.byte-c.ensures) (search picks depth 9)
