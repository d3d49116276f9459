use Rattle.handlebars.specs.Names.{fits_long, fits_far, fits_near}
use native.Mathlib.Omega.{arith}
use Rattle.rules.specs.BundleLaws.{bits_binary}
use Rattle.rules.specs.LayoutLaws.{field_lt}
use Rattle.rules.specs.Bits.{bits}
use borrow.Author.Rules.{rules}
use Rattle.handlebars.proofs.naming.fits.Goals as goal

pub returns-then-b-gt65536 : goal.returns-then-b-gt65536
returns-then-b-gt65536 c = let z = c in fits_long z.args.b.now z.args.n z.args.p c.if-b-gt65536.true

pub returns-then-end-p : goal.returns-then-end-p
returns-then-end-p c = let z = c in fits_far z.args.b.now z.args.n z.args.p c.if-b-gt65536.false (omega arith)

pub overflow_mul-count : goal.overflow_mul-count
overflow_mul-count c = let s = c in omega (arith, c.field-count.ensures, field_lt (bits s.args.b.now) (bits_binary s.args.b.now) 16 s.args.p)

pub overflow_add-p-2 : goal.overflow_add-p-2
overflow_add-p-2 c = let s = c in omega (arith, c.field-count.ensures, field_lt (bits s.args.b.now) (bits_binary s.args.b.now) 16 s.args.p)

pub returns-then-end-p-2 : goal.returns-then-end-p-2
returns-then-end-p-2 c = let z = c in fits_far z.args.b.now z.args.n z.args.p c.if-b-gt65536.false (omega (arith, c.field-count.ensures))

pub returns : goal.returns
returns c = let z = c in fits_near z.args.b.now z.args.n z.args.p _ c.if-b-gt65536.false (omega (arith, c.field-count.ensures)) c.field-count.ensures
