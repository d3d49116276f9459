use Rattle.partials.proofs.Searches.{named_so}
use Rattle.registry.specs.Index.{Looking, look_start, look_on, look_here, look_end, indexed_place, indexed_name}
use Rattle.expand.specs.Answers.{name_of}
use Rattle.meaning.specs.Standing.{Stands}
use Rattle.registry.specs.declared.Template.{Template}
use Rattle.parts.specs.HoldsLaws.{moved}
use Rattle.parts.specs.Holds.{end}
use Rattle.layout.specs.Text.{text_at}
use Rattle.rules.specs.Bundle.{string}
use Rattle.rules.specs.Bits.{bits}
use Prim.Native.Nat.{ℕ, ◌-◌}
use mathlib.Core.Path.{sym, ap, ◌∙◌}
use mathlib.Core.List.{List}
use native.Mathlib.Omega.{arith}
use borrow.Author.Rules.{rules}
use Rattle.partials.proofs.get_printed.Given as goal

abbrev pub invariant-loop-i : goal.invariant-loop-i
invariant-loop-i l = (ent : List ℕ) (t : ℕ) → Stands l.s l.b ent t l.v → Looking 16 (bits l.b) (name_of l.s l.b ent l.v) l.n l.i
