use native.Mathlib.Omega.{arith}
use mathlib.Core.Path.{sym, ◌∙◌}
use Rattle.parts.specs.Parts.{indent_fits, indent_none, indent_some, indent_there}
use Rattle.rules.specs.BundleLaws.{bits_size}
use Rattle.rules.specs.Bits.{bits}
use Rattle.parts.proofs.skip_indent.Goals as goal

pub overflow_add-q : goal.overflow_add-q
overflow_add-q c = let s = c in omega (arith, indent_fits (bits s.args.b.now) s.args.p s.requires.1, bits_size s.args.b.now)

pub returns-then-k-eq0 : goal.returns-then-k-eq0
returns-then-k-eq0 c = let s = c in (indent_none (bits s.args.b.now) s.args.p s.requires.1 (sym c.field-k.ensures ∙ c.if-k-eq0.true)).0

pub skip_string-requires : goal.skip_string-requires
skip_string-requires c = let s = c in (s.requires.0, (indent_some (bits s.args.b.now) s.args.p s.requires.1 (indent_there (bits s.args.b.now) s.args.p s.requires.1 (λ e. c.if-k-eq0.false (c.field-k.ensures ∙ e)))).inner)

pub returns : goal.returns
returns c = let s = c in c.skip_string.ensures ∙ (indent_some (bits s.args.b.now) s.args.p s.requires.1 (indent_there (bits s.args.b.now) s.args.p s.requires.1 (λ e. c.if-k-eq0.false (c.field-k.ensures ∙ e)))).ends
