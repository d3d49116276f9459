use Prim.Native.Nat.{◌-◌, ◌<◌}
use Rattle.bits.specs.Packed.{bytes_at}
use Rattle.places.proofs.Fields.{index}
use Rattle.places.proofs.Walking.{walk_within, Seeking, seek_start, seek_on, seek_end, says_by}
use Rattle.places.specs.Children.{end_at}
use Rattle.places.specs.Kinds.{found}
use Rattle.rules.specs.Bits.{bits}
use borrow.Author.Rules.{rules}
use native.Mathlib.Omega.{arith}
use Rattle.places.proofs.member_packed.Given as goal

abbrev pub invariant-loop-c : goal.invariant-loop-c
invariant-loop-c l = Seeking l.s l.i (bytes_at (bits l.w) l.p l.m) l.c (found l.best)

abbrev pub decreases-loop-c : goal.decreases-loop-c
decreases-loop-c l = l.e - l.c
