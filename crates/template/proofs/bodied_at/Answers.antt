use Rattle.template.proofs.Places.{bodied_call, bodied_body, bodied_tail, bodied_made}
use Rattle.rules.specs.Bits.{bits}
use Rattle.template.proofs.bodied_at.Goals as goal

pub skip_call-body-requires : goal.skip_call-body-requires
skip_call-body-requires c = let s = c in (s.requires.0, bodied_call s.args.w s.args.d (bits s.args.b.now) s.args.p s.requires.1)

pub skip_body-requires : goal.skip_body-requires
skip_body-requires c = let s = c in (s.requires.0, bodied_body s.args.w s.args.d (bits s.args.b.now) s.args.p s.requires.1 _ c.skip_call-body.ensures)

pub tail_at-t-requires : goal.tail_at-t-requires
tail_at-t-requires c = let s = c in (s.requires.0, bodied_tail s.args.w s.args.d (bits s.args.b.now) s.args.p s.requires.1 _ c.skip_call-body.ensures _ c.skip_body.ensures)

pub returns : goal.returns
returns c = let s = c in bodied_made s.args.w s.args.d (bits s.args.b.now) s.args.p s.requires.1 _ c.skip_call-body.ensures _ c.skip_body.ensures _ c.tail_at-t.ensures
