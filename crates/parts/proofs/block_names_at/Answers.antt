use native.Mathlib.Omega.{arith}
use mathlib.Core.Path.{ap, sym, ◌∙◌}
use Prim.Native.Nat.{◌+◌}
use Rattle.parts.specs.declared.BlockParam.TheVariants.{Pair}
use Rattle.parts.specs.Views.{names_of}
use Rattle.parts.specs.Parts.{names_fits, names_two, names_pair, two_more}
use Rattle.rules.specs.BundleLaws.{bits_size}
use Rattle.rules.specs.Bits.{bits}
use Rattle.parts.proofs.block_names_at.Goals as goal

pub overflow_add-q : goal.overflow_add-q
overflow_add-q c = let s = c in omega (arith, names_fits (bits s.args.b.now) s.args.p s.requires.1, bits_size s.args.b.now)

pub returns-in-0 : goal.returns-in-0
returns-in-0 c = let s = c in ap (names_of (bits s.args.b.now) (s.args.p + 2)) (sym c.in-0.is ∙ c.field.ensures)

pub returns-in-1 : goal.returns-in-1
returns-in-1 c = let s = c in ap (names_of (bits s.args.b.now) (s.args.p + 2)) (sym c.in-1.is ∙ c.field.ensures)

pub skip_string-requires : goal.skip_string-requires
skip_string-requires c = let s = c in (s.requires.0, (names_two (bits s.args.b.now) s.args.p s.requires.1 (names_pair (bits s.args.b.now) s.args.p s.requires.1 (λ e. omega (arith, c.field.ensures)) (λ e. omega (arith, c.field.ensures)))).0)

pub returns-in_default : goal.returns-in_default
returns-in_default c = let s = c in ap (Pair (s.args.p + 2)) c.skip_string.ensures ∙ ap (names_of (bits s.args.b.now) (s.args.p + 2)) (two_more _ (omega arith) ∙ c.field.ensures)
