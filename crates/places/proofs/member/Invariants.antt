use Rattle.places.proofs.Walking.{walk_within, Seeking, seek_start, seek_on, seek_end, says_by}
use Rattle.places.specs.Children.{end_at}
use Rattle.places.specs.Kinds.{found}
use Rattle.saying.specs.Compared.{name_bytes}
use mathlib.Core.Option.{none}
use mathlib.Core.Path.{◌≡◌, ◌∙◌, refl}
use Prim.Native.Nat.{◌+◌, suc, ◌-◌, ◌≤◌, ◌<◌}
use Rattle.places.proofs.Fields.{index}
use native.Mathlib.Omega.{arith}
use borrow.Author.Rules.{rules}
use Rattle.places.proofs.member.Given as goal

abbrev pub invariant-loop-c : goal.invariant-loop-c
invariant-loop-c l = Seeking l.s l.i (name_bytes l.s l.w l.named) l.c (found l.best)

abbrev pub decreases-loop-c : goal.decreases-loop-c
decreases-loop-c l = l.e - l.c
