use Rattle.std.proofs.Common.{arith, ap}
use Rattle.parts.specs.declared.Text.{Text}
use Rattle.parts.specs.HoldsLaws.{string_in}
use Rattle.rules.specs.BundleLaws.{bits_size}
use Rattle.rules.specs.Bits.{bits}
use Rattle.test_template.proofs.print_text.Goals as goal

pub text_at-t-requires : goal.text_at-t-requires
text_at-t-requires g c = omega (arith, string_in (bits c.args.b.now) c.args.p c.requires.1, bits_size c.args.b.now)

pub overflow_mul-i : goal.overflow_mul-i
overflow_mul-i g c = omega (arith, string_in (bits c.args.b.now) c.args.p c.requires.1, bits_size c.args.b.now, ap (λ (t : Text). t.count) c.text_at-t.ensures, ap (λ (t : Text). t.first) c.text_at-t.ensures)

pub overflow_add-first : goal.overflow_add-first
overflow_add-first g c = omega (arith, string_in (bits c.args.b.now) c.args.p c.requires.1, bits_size c.args.b.now, ap (λ (t : Text). t.count) c.text_at-t.ensures, ap (λ (t : Text). t.first) c.text_at-t.ensures)
