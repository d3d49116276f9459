use native.Mathlib.Omega.{arith}
use mathlib.Core.Path.{refl}
use Rattle.parts.specs.Views.{path_relative_view, path_local_view}
use Rattle.parts.specs.Parts.{path_raw, path_fits, kind_relative, kind_local}
use Rattle.rules.specs.BundleLaws.{bits_size, bits_binary}
use Rattle.rules.specs.Bits.{bits}
use Rattle.parts.proofs.path_at.Goals as goal

pub skip_string-q-requires : goal.skip_string-q-requires
skip_string-q-requires c = let s = c in (s.requires.0, path_raw (bits s.args.b.now) s.args.p s.requires.1)

pub overflow_add-result : goal.overflow_add-result
overflow_add-result c = let s = c in omega (arith, c.skip_string-q.ensures, path_fits (bits s.args.b.now) s.args.p s.requires.1, bits_size s.args.b.now)

pub returns-then-x-lt256 : goal.returns-then-x-lt256
returns-then-x-lt256 c = let s = c in let k = kind_relative (bits s.args.b.now) (bits_binary s.args.b.now) _ _ c.field-x.ensures c.if-x-lt256.true in path_relative_view (bits s.args.b.now) s.args.p _ _ _ c.skip_string-q.ensures refl k.1 k.0

pub overflow_add-result-2 : goal.overflow_add-result-2
overflow_add-result-2 c = let s = c in omega (arith, c.skip_string-q.ensures, path_fits (bits s.args.b.now) s.args.p s.requires.1, bits_size s.args.b.now)

pub returns : goal.returns
returns c = let s = c in let k = kind_local (bits s.args.b.now) (bits_binary s.args.b.now) _ _ c.field-x.ensures c.if-x-lt256.false in path_local_view (bits s.args.b.now) s.args.p _ _ _ c.skip_string-q.ensures refl k.1 k.0
