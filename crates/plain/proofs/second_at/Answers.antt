use mathlib.Core.Path.{refl, sym, ap, ◌∙◌}
use native.Mathlib.Omega.{arith}
use Rattle.rules.specs.BundleLaws.{bits_size}
use Rattle.rules.specs.Bits.{bits}
use Rattle.plain.specs.Reading.{second_so, paths_left, paths_told, literal_left, literal_told, second_fits, second_path, second_literal}
use Rattle.plain.specs.Looked.{second_by}
use borrow.Author.Rules.{rules}
use Rattle.plain.proofs.second_at.Goals as goal

pub param_at-second-requires : goal.param_at-second-requires
param_at-second-requires c = let z = c in
    let b = z.args.b.now in
    omega (arith, z.requires.0, bits_size b, second_fits (bits b) z.args.v c.skip_path-e.result c.skip_path-e.ensures _ refl z.args.d z.requires.1)

pub skip_path-f-requires : goal.skip_path-f-requires
skip_path-f-requires c = let z = c in
    let b = z.args.b.now in
    (z.requires.0, (second_path (bits b) z.args.v c.skip_path-e.result c.skip_path-e.ensures c.param_at-second.result c.param_at-second.ensures z.args.d z.requires.1 c.in-Path.k c.in-Path.is).0)

pub returns-then-z-gt1 : goal.returns-then-z-gt1
returns-then-z-gt1 c = let z = c in
    let b = z.args.b.now in
    paths_left (bits b) z.args.v c.skip_path-e.result c.skip_path-e.ensures c.param_at-second.result c.param_at-second.ensures c.in-Path.k c.skip_path-f.result c.field-z.result c.field-z.ensures c.in-Path.is c.skip_path-f.ensures c.if-z-gt1.true

pub overflow_add-result : goal.overflow_add-result
overflow_add-result c = let z = c in
    let b = z.args.b.now in
    omega (arith, z.requires.0, bits_size b, c.skip_path-f.ensures, (second_path (bits b) z.args.v c.skip_path-e.result c.skip_path-e.ensures c.param_at-second.result c.param_at-second.ensures z.args.d z.requires.1 c.in-Path.k c.in-Path.is).1)

pub skip_literal-f-requires : goal.skip_literal-f-requires
skip_literal-f-requires c = let z = c in
    let b = z.args.b.now in
    (z.requires.0, (second_literal (bits b) z.args.v c.skip_path-e.result c.skip_path-e.ensures c.param_at-second.result c.param_at-second.ensures z.args.d z.requires.1 c.in-Literal.k c.in-Literal.is).0)

pub returns-then-z-gt1-2 : goal.returns-then-z-gt1-2
returns-then-z-gt1-2 c = let z = c in
    let b = z.args.b.now in
    literal_left (bits b) z.args.v c.skip_path-e.result c.skip_path-e.ensures c.param_at-second.result c.param_at-second.ensures c.in-Literal.k c.skip_literal-f.result c.field-z-in-Literal.result c.field-z-in-Literal.ensures c.in-Literal.is c.skip_literal-f.ensures c.if-z-gt1-2.true

pub overflow_add-result-in-Literal : goal.overflow_add-result-in-Literal
overflow_add-result-in-Literal c = let z = c in
    let b = z.args.b.now in
    omega (arith, z.requires.0, bits_size b, c.skip_literal-f.ensures, (second_literal (bits b) z.args.v c.skip_path-e.result c.skip_path-e.ensures c.param_at-second.result c.param_at-second.ensures z.args.d z.requires.1 c.in-Literal.k c.in-Literal.is).1)

pub returns-else-z-gt1 : goal.returns-else-z-gt1
returns-else-z-gt1 c = let z = c in
    let b = z.args.b.now in
    paths_told (bits b) z.args.v c.skip_path-e.result c.skip_path-e.ensures c.param_at-second.result c.param_at-second.ensures c.in-Path.k c.skip_path-f.result c.field-z.result c.field-z.ensures c.in-Path.is c.skip_path-f.ensures (omega (arith, c.if-z-gt1.false))

pub returns-else-z-gt1-2 : goal.returns-else-z-gt1-2
returns-else-z-gt1-2 c = let z = c in
    let b = z.args.b.now in
    literal_told (bits b) z.args.v c.skip_path-e.result c.skip_path-e.ensures c.param_at-second.result c.param_at-second.ensures c.in-Literal.k c.skip_literal-f.result c.field-z-in-Literal.result c.field-z-in-Literal.ensures c.in-Literal.is c.skip_literal-f.ensures (omega (arith, c.if-z-gt1-2.false))

pub returns-in-Name : goal.returns-in-Name
returns-in-Name c = let z = c in
    let b = z.args.b.now in
    sym (ap (second_by (bits b) z.args.v) c.in-Name.is) ∙ second_so (bits b) z.args.v c.skip_path-e.result c.skip_path-e.ensures c.param_at-second.result c.param_at-second.ensures

pub returns-in-Subexpression : goal.returns-in-Subexpression
returns-in-Subexpression c = let z = c in
    let b = z.args.b.now in
    sym (ap (second_by (bits b) z.args.v) c.in-Subexpression.is) ∙ second_so (bits b) z.args.v c.skip_path-e.result c.skip_path-e.ensures c.param_at-second.result c.param_at-second.ensures
