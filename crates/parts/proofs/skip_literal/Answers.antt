use native.Mathlib.Omega.{arith}
use mathlib.Core.Path.{◌∙◌}
use Rattle.parts.specs.Parts.{literal_fits, literal_bare, literal_number, literal_string, literal_text}
use Rattle.rules.specs.BundleLaws.{bits_size}
use Rattle.rules.specs.Bits.{bits}
use Rattle.parts.proofs.skip_literal.Goals as goal

pub overflow_add-q : goal.overflow_add-q
overflow_add-q c = let s = c in omega (arith, literal_fits (bits s.args.b.now) s.args.p s.requires.1, bits_size s.args.b.now)

pub returns-then-k-le2 : goal.returns-then-k-le2
returns-then-k-le2 c = let s = c in literal_bare (bits s.args.b.now) s.args.p s.requires.1 (omega arith)

pub overflow_add-result : goal.overflow_add-result
overflow_add-result c = let s = c in omega (arith, (literal_number (bits s.args.b.now) s.args.p s.requires.1 (omega arith) (omega arith)).1, bits_size s.args.b.now)

pub returns-then-k-le4 : goal.returns-then-k-le4
returns-then-k-le4 c = let s = c in (literal_number (bits s.args.b.now) s.args.p s.requires.1 (omega arith) (omega arith)).0

pub skip_string-requires : goal.skip_string-requires
skip_string-requires c = let s = c in (s.requires.0, (literal_string (bits s.args.b.now) s.args.p s.requires.1 (literal_text (bits s.args.b.now) s.args.p s.requires.1 (omega arith))).inner)

pub returns : goal.returns
returns c = let s = c in c.skip_string.ensures ∙ (literal_string (bits s.args.b.now) s.args.p s.requires.1 (literal_text (bits s.args.b.now) s.args.p s.requires.1 (omega arith))).ends
