use Prim.Native.Nat.{ℕ, ◌+◌, ◌-◌, ◌≤◌}
use native.Mathlib.Omega.{arith}
use mathlib.Core.Path.{◌≡◌, refl, sym, ap, ◌∙◌, subst}
use Rattle.rules.specs.Bits.{bits}
use Rattle.rules.specs.Bytes.{Bytes, same}
use Rattle.layout.specs.Text.{text_at}
use Rattle.meaning.specs.Meaning.{pairs, json_of}
use Rattle.merging.specs.Lookup.{find_last}
use Rattle.lookup.specs.Keys.{KeyFound}
use Rattle.lookup.proofs.Finding.{last_hit, last_miss, last_none}
use Rattle.lookup.proofs.Numbers.{pair_some}
use Rattle.lookup.proofs.Ordered.{string_near}
use borrow.Author.Rules.{rules}
use Rattle.lookup.proofs.last_pair.Given as goal

abbrev pub invariant-loop-i : goal.invariant-loop-i
invariant-loop-i l = (s : Bytes) → find_last (pairs l.b l.ent (json_of s l.b l.ent) l.h l.n) (text_at (bits l.b) l.q) ≡ find_last (pairs l.b l.ent (json_of s l.b l.ent) l.h l.i) (text_at (bits l.b) l.q)
