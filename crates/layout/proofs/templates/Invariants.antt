use Prim.Native.Nat.{◌-◌, ◌≤◌}
use Rattle.layout.proofs.Distinct.{BitsOf, templates_left}
use Rattle.layout.specs.Listed.{Listed, template_place}
use Rattle.layout.specs.Names.{seen_at}
use Rattle.layout.specs.Walk.{place_by}
use Rattle.rules.specs.Bits.{bits}
use lib.ListN.{length}
use mathlib.Core.List.{[]}
use mathlib.Core.Path.{◌≡◌}
use Rattle.layout.proofs.templates.Given as goal

abbrev pub invariant-loop-i : goal.invariant-loop-i
invariant-loop-i l = (l.n ≤ 64) × (length l.places ≡ length l.initial.places) × (64 ≤ length l.places) × BitsOf l.places l.i × (templates_left l.w (l.n - l.i) (seen_at (bits l.b) l.places l.i) (bits l.b) (place_by l.cur) ≡ templates_left l.w l.n [] (bits l.b) (place_by l.initial.cur)) × Listed l.w (bits l.b) (place_by l.initial.cur) l.i l.places × (place_by l.cur ≡ template_place l.w (bits l.b) (place_by l.initial.cur) l.i)
