use mathlib.Core.Path.{ap, ◌∙◌}
use Rattle.calls.specs.Calls.{behind_view, call_name, call_params_at, call_pairs_at}
use Rattle.rules.specs.Bits.{bits}
use Rattle.calls.proofs.call_at.Goals as goal

pub skip_param-requires : goal.skip_param-requires
skip_param-requires c = let s = c in (s.requires.0, call_name s.args.d (bits s.args.b.now) s.args.p s.requires.1)

pub call_behind-requires : goal.call_behind-requires
call_behind-requires c = let s = c in let e = c.skip_param.ensures in (s.requires.0, call_params_at s.args.d (bits s.args.b.now) s.args.p s.requires.1 _ e, call_pairs_at s.args.d (bits s.args.b.now) s.args.p s.requires.1 _ e)

pub returns : goal.returns
returns c = let s = c in c.call_behind.ensures ∙ ap (behind_view s.args.d (bits s.args.b.now)) c.skip_param.ensures
