use native.Mathlib.Omega.{arith}
use mathlib.Core.Path.{ap, sym, ◌∙◌}
use Rattle.parts.specs.Parts.{names_fits, names_none, names_one, names_two, names_pair}
use Rattle.parts.specs.HoldsLaws.{moved}
use Rattle.parts.specs.Holds.{end}
use Rattle.rules.specs.BundleLaws.{bits_size}
use Rattle.rules.specs.Bundle.{string}
use Rattle.rules.specs.Bits.{bits}
use Rattle.parts.proofs.skip_block_names.Goals as goal

pub overflow_add-q : goal.overflow_add-q
overflow_add-q c = let s = c in omega (arith, names_fits (bits s.args.b.now) s.args.p s.requires.1, bits_size s.args.b.now)

pub returns-in-0 : goal.returns-in-0
returns-in-0 c = let s = c in (names_none (bits s.args.b.now) s.args.p s.requires.1 (sym c.field.ensures ∙ c.in-0.is)).0

pub skip_string-requires : goal.skip_string-requires
skip_string-requires c = let s = c in (s.requires.0, (names_one (bits s.args.b.now) s.args.p s.requires.1 (sym c.field.ensures ∙ c.in-1.is)).inner)

pub returns-in-1 : goal.returns-in-1
returns-in-1 c = let s = c in c.skip_string.ensures ∙ (names_one (bits s.args.b.now) s.args.p s.requires.1 (sym c.field.ensures ∙ c.in-1.is)).ends

pub skip_string-requires-in_default : goal.skip_string-requires-in_default
skip_string-requires-in_default c = let s = c in (s.requires.0, (names_two (bits s.args.b.now) s.args.p s.requires.1 (names_pair (bits s.args.b.now) s.args.p s.requires.1 (λ e. omega (arith, c.field.ensures)) (λ e. omega (arith, c.field.ensures)))).0)

pub skip_string-requires-in_default-2 : goal.skip_string-requires-in_default-2
skip_string-requires-in_default-2 c = let s = c in (s.requires.0, moved string (bits s.args.b.now) _ _ (sym c.skip_string-in_default.ensures) (names_two (bits s.args.b.now) s.args.p s.requires.1 (names_pair (bits s.args.b.now) s.args.p s.requires.1 (λ e. omega (arith, c.field.ensures)) (λ e. omega (arith, c.field.ensures)))).1.inner)

pub returns-in_default : goal.returns-in_default
returns-in_default c = let s = c in c.skip_string-in_default-2.ensures ∙ ap (end string (bits s.args.b.now)) c.skip_string-in_default.ensures ∙ (names_two (bits s.args.b.now) s.args.p s.requires.1 (names_pair (bits s.args.b.now) s.args.p s.requires.1 (λ e. omega (arith, c.field.ensures)) (λ e. omega (arith, c.field.ensures)))).1.ends
