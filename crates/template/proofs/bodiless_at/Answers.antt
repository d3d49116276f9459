use mathlib.Core.Path.{ap, ◌∙◌}
use Rattle.template.proofs.Places.{bodiless_call, bodiless_tail}
use Rattle.template.specs.Views.{tail_view}
use Rattle.rules.specs.Bits.{bits}
use Rattle.template.proofs.bodiless_at.Goals as goal

pub skip_bare-requires : goal.skip_bare-requires
skip_bare-requires c = let s = c in (s.requires.0, bodiless_call s.args.d (bits s.args.b.now) s.args.p s.requires.1)

pub tail_at-requires : goal.tail_at-requires
tail_at-requires c = let s = c in (s.requires.0, bodiless_tail s.args.d (bits s.args.b.now) s.args.p s.requires.1 _ c.skip_bare.ensures)

pub returns : goal.returns
returns c = let s = c in c.tail_at.ensures ∙ ap (tail_view (bits s.args.b.now)) c.skip_bare.ensures
