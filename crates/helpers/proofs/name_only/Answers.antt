use native.Mathlib.Omega.{arith}
use mathlib.Core.Path.{ap, ◌∙◌}
use Rattle.rules.specs.Bits.{bits}
use Rattle.rules.specs.BundleLaws.{bits_size, bits_binary}
use Rattle.rules.specs.Layout.{field}
use Rattle.calls.specs.Calls.{call_name}
use Rattle.calls.specs.Shorts.{short_ends}
use Rattle.helpers.proofs.Expressing.{bare_name}
use borrow.Author.Rules.{rules}
use Rattle.helpers.proofs.name_only.Goals as goal

pub overflow_add-e : goal.overflow_add-e
overflow_add-e c = let s = c in omega (arith, (short_ends s.args.d (bits s.args.b.now) (bits_binary s.args.b.now) s.args.p s.requires.1 _ c.field-x.ensures c.if-x-le65535.true).1, bits_size s.args.b.now)

pub overflow_mul-e : goal.overflow_mul-e
overflow_mul-e c = let s = c in omega (arith, (short_ends s.args.d (bits s.args.b.now) (bits_binary s.args.b.now) s.args.p s.requires.1 _ c.field-x.ensures c.if-x-le65535.true).1, bits_size s.args.b.now)

pub overflow_add-e-then-x-le65535 : goal.overflow_add-e-then-x-le65535
overflow_add-e-then-x-le65535 c = let s = c in omega (arith, (short_ends s.args.d (bits s.args.b.now) (bits_binary s.args.b.now) s.args.p s.requires.1 _ c.field-x.ensures c.if-x-le65535.true).1, bits_size s.args.b.now)

pub returns-then-x-le65535 : goal.returns-then-x-le65535
returns-then-x-le65535 c = let s = c in
    bare_name s.args.d (bits s.args.b.now) s.args.p s.requires.1 c.field.result
    (c.field.ensures ∙ ap (field (bits s.args.b.now) 8) (short_ends s.args.d (bits s.args.b.now) (bits_binary s.args.b.now) s.args.p s.requires.1 _ c.field-x.ensures c.if-x-le65535.true).0)

pub skip_param-q-requires : goal.skip_param-q-requires
skip_param-q-requires c = let s = c in (s.requires.0, call_name s.args.d (bits s.args.b.now) s.args.p s.requires.1)

pub returns : goal.returns
returns c = let s = c in
    bare_name s.args.d (bits s.args.b.now) s.args.p s.requires.1 c.field-2.result (c.field-2.ensures ∙ ap (field (bits s.args.b.now) 8) c.skip_param-q.ensures)
