use Rattle.meaning.proofs.Forming.{held_text, string_near}
use Rattle.parts.specs.declared.Text.{Text}
use mathlib.Core.Path.{ap}
use Rattle.meaning.proofs.text_form.Goals as goal

pub text_at-t-requires : goal.text_at-t-requires
text_at-t-requires c = let s = c in string_near s.args.b.now s.args.p s.requires.0 s.requires.1

pub returns : goal.returns
returns c = let s = c in
    held_text s.args.s.now s.args.b.now s.args.p s.requires.0 s.requires.1 c.text_at-t.result.first c.text_at-t.result.count
    (ap (λ (t : Text). t.first) c.text_at-t.ensures) (ap (λ (t : Text). t.count) c.text_at-t.ensures)
