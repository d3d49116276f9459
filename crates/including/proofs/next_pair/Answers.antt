use Rattle.rules.specs.Bits.{bits}
use Rattle.rules.specs.Layout.{◌then◌}
use Rattle.rules.specs.Bundle.{string, param}
use Rattle.parts.specs.Holds.{end}
use Rattle.calls.specs.Calls.{pair_stands, pair_content, pair_next}
use mathlib.Core.Path.{◌∙◌}
use Rattle.including.specs.Hashing.{pick_first, pick_later}
use Rattle.including.proofs.next_pair.Goals as goal

pub returns-then-i-eq0 : goal.returns-then-i-eq0
returns-then-i-eq0 c = let z = c in
    pick_first z.args.i z.args.at (end (string then param z.args.d) (bits z.args.b.now) z.args.at) c.if-i-eq0.true

pub skip_string-q-requires : goal.skip_string-q-requires
skip_string-q-requires c = let z = c in
    (z.requires.0, (pair_stands z.args.d (bits z.args.b.now) z.args.at (z.requires.1 c.if-i-eq0.false)).key)

pub skip_param-requires : goal.skip_param-requires
skip_param-requires c = let z = c in
    (z.requires.0, pair_content z.args.d (bits z.args.b.now) z.args.at (z.requires.1 c.if-i-eq0.false) _ c.skip_string-q.ensures)

pub returns : goal.returns
returns c = let z = c in
    pair_next z.args.d (bits z.args.b.now) z.args.at (z.requires.1 c.if-i-eq0.false) _ c.skip_string-q.ensures _ c.skip_param.ensures
    ∙ pick_later z.args.i z.args.at (end (string then param z.args.d) (bits z.args.b.now) z.args.at) c.if-i-eq0.false
