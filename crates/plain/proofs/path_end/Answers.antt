use native.Mathlib.Omega.{arith}
use Rattle.rules.specs.Bits.{bits}
use Rattle.rules.specs.BundleLaws.{bits_size, bits_binary}
use Rattle.plain.specs.Reading.{raw_fits, name_ends, local_ends}
use borrow.Author.Rules.{rules}
use Rattle.plain.proofs.path_end.Goals as goal

pub overflow_add-q : goal.overflow_add-q
overflow_add-q c = let z = c in let B = bits z.args.b.now in omega (arith, raw_fits B (bits_binary z.args.b.now) z.args.p z.requires.1 z.args.m z.requires.2, z.requires.0, bits_size z.args.b.now)

pub overflow_mul-q : goal.overflow_mul-q
overflow_mul-q c = let z = c in let B = bits z.args.b.now in omega (arith, raw_fits B (bits_binary z.args.b.now) z.args.p z.requires.1 z.args.m z.requires.2, z.requires.0, bits_size z.args.b.now)

pub overflow_add-q-2 : goal.overflow_add-q-2
overflow_add-q-2 c = let z = c in let B = bits z.args.b.now in omega (arith, raw_fits B (bits_binary z.args.b.now) z.args.p z.requires.1 z.args.m z.requires.2, z.requires.0, bits_size z.args.b.now)

pub overflow_add-result : goal.overflow_add-result
overflow_add-result c = let z = c in let B = bits z.args.b.now in omega (arith, (name_ends B (bits_binary z.args.b.now) z.args.p z.requires.1 z.args.m z.requires.2 c.field-y.result c.field-y.ensures c.if-y-eq4.true).1, z.requires.0, bits_size z.args.b.now)

pub overflow_mul-result : goal.overflow_mul-result
overflow_mul-result c = let z = c in let B = bits z.args.b.now in omega (arith, (name_ends B (bits_binary z.args.b.now) z.args.p z.requires.1 z.args.m z.requires.2 c.field-y.result c.field-y.ensures c.if-y-eq4.true).1, z.requires.0, bits_size z.args.b.now)

pub overflow_add-result-then-y-eq4 : goal.overflow_add-result-then-y-eq4
overflow_add-result-then-y-eq4 c = let z = c in let B = bits z.args.b.now in omega (arith, (name_ends B (bits_binary z.args.b.now) z.args.p z.requires.1 z.args.m z.requires.2 c.field-y.result c.field-y.ensures c.if-y-eq4.true).1, z.requires.0, bits_size z.args.b.now)

pub returns-then-y-eq4 : goal.returns-then-y-eq4
returns-then-y-eq4 c = let z = c in let B = bits z.args.b.now in (name_ends B (bits_binary z.args.b.now) z.args.p z.requires.1 z.args.m z.requires.2 c.field-y.result c.field-y.ensures c.if-y-eq4.true).0

pub overflow_add-result-then-y-ge67108864 : goal.overflow_add-result-then-y-ge67108864
overflow_add-result-then-y-ge67108864 c = let z = c in let B = bits z.args.b.now in omega (arith, (local_ends B (bits_binary z.args.b.now) z.args.p z.requires.1 z.args.m z.requires.2 c.field-y.result c.field-y.ensures c.if-y-ge67108864.true).1, z.requires.0, bits_size z.args.b.now)

pub overflow_mul-result-then-y-ge67108864 : goal.overflow_mul-result-then-y-ge67108864
overflow_mul-result-then-y-ge67108864 c = let z = c in let B = bits z.args.b.now in omega (arith, (local_ends B (bits_binary z.args.b.now) z.args.p z.requires.1 z.args.m z.requires.2 c.field-y.result c.field-y.ensures c.if-y-ge67108864.true).1, z.requires.0, bits_size z.args.b.now)

pub overflow_add-result-then-y-ge67108864-2 : goal.overflow_add-result-then-y-ge67108864-2
overflow_add-result-then-y-ge67108864-2 c = let z = c in let B = bits z.args.b.now in omega (arith, (local_ends B (bits_binary z.args.b.now) z.args.p z.requires.1 z.args.m z.requires.2 c.field-y.result c.field-y.ensures c.if-y-ge67108864.true).1, z.requires.0, bits_size z.args.b.now)

pub returns-then-y-ge67108864 : goal.returns-then-y-ge67108864
returns-then-y-ge67108864 c = let z = c in let B = bits z.args.b.now in (local_ends B (bits_binary z.args.b.now) z.args.p z.requires.1 z.args.m z.requires.2 c.field-y.result c.field-y.ensures c.if-y-ge67108864.true).0
