use Rattle.registry.specs.Templates.{templates_at, found_view, Searching}
use Rattle.parts.specs.Holds.{end}
use Rattle.rules.specs.Bundle.{body, templates, find_template}
use Rattle.rules.specs.Bits.{bits}
use Rattle.registry.proofs.get_template.Given as goal

abbrev pub invariant-loop-i : goal.invariant-loop-i
invariant-loop-i l = Searching (body l.w 16) (bits l.b) l.name l.n l.i l.cur (end (templates l.w) (bits l.b) 8) (found_view (body l.w 16) (bits l.b) (find_template (templates_at l.w (bits l.b)) l.name))
