use Rattle.lookup.proofs.Finding.{key_same, last_hit, last_miss, last_none}
use Rattle.text.specs.Rest.{rest}
use Rattle.meaning.specs.Entries.{place}
use Rattle.meaning.specs.Meaning.{pairs, json_of}
use Rattle.merging.specs.Lookup.{find_last}
use native.Mathlib.Omega.{arith}
use mathlib.Core.Path.{◌≡◌, refl}
use Prim.Native.Nat.{◌≤◌, ◌+◌, ◌-◌}
use borrow.Author.Rules.{rules}
use Rattle.lookup.proofs.last_key.Given as goal

abbrev pub invariant-loop-k : goal.invariant-loop-k
invariant-loop-k l = (find_last (pairs l.b l.ent (json_of l.s l.b l.ent) l.h l.n) (rest l.s l.b l.t) ≡ find_last (pairs l.b l.ent (json_of l.s l.b l.ent) l.h l.k) (rest l.s l.b l.t))
