use native.Mathlib.Omega.{arith}
use Rattle.rules.specs.BundleLaws.{bits_size, bits_binary}
use Rattle.rules.specs.Bits.{bits}
use Rattle.template.specs.Content.{element_fits}
use Rattle.plain.specs.Reading.{raw_count, text_read, other_read, kind_here, expression_read, no_path, path_there, more_there, path_behind, path_read}
use borrow.Author.Rules.{rules}
use Rattle.plain.proofs.plain_at.Goals.{then-x-eq1+else-field-le1, else-x-eq1}
use Rattle.plain.proofs.plain_at.Goals as goal

pub returns-then-kind-eq0 : goal.returns-then-kind-eq0
returns-then-kind-eq0 c = let z = c in
    let b = z.args.b.now in
    text_read z.args.d (bits b) (bits_binary b) z.args.p z.requires.1 c.field-x.result c.field-x.ensures c.if-kind-eq0.true

pub returns-then-kind-gt2 : goal.returns-then-kind-gt2
returns-then-kind-gt2 c = let z = c in
    let b = z.args.b.now in
    other_read z.args.d (bits b) (bits_binary b) z.args.p z.requires.1 c.field-x.result c.field-x.ensures c.if-kind-gt2.true

pub overflow_add-v : goal.overflow_add-v
overflow_add-v c = let z = c in
    omega (arith, z.requires.0, element_fits 16 z.args.d (bits z.args.b.now) z.args.p z.requires.1, bits_size z.args.b.now)

pub path_end-e-requires : goal.path_end-e-requires
path_end-e-requires c = let z = c in
    let b = z.args.b.now in
    let f = c.field-x in
    let K = kind_here z.args.d (bits b) (bits_binary b) z.args.p z.requires.1 f.result f.ensures c.if-kind-eq0.false (omega (arith, c.if-kind-gt2.false)) in
    (z.requires.0, path_there z.args.d (bits b) (bits_binary b) z.args.p z.requires.1 f.result f.ensures _ K c.if-x-eq1.true, raw_count z.args.d (bits b) (bits_binary b) z.args.p z.requires.1 f.result f.ensures)

pub overflow_add-result : goal.overflow_add-result
overflow_add-result c = let z = c in
    let b = z.args.b.now in
    let f = c.field-x in
    let K = kind_here z.args.d (bits b) (bits_binary b) z.args.p z.requires.1 f.result f.ensures c.if-kind-eq0.false (omega (arith, c.if-kind-gt2.false)) in
    omega (arith, z.requires.0, bits_size b, path_behind z.args.d (bits b) (bits_binary b) z.args.p z.requires.1 f.result f.ensures _ K c.if-x-eq1.true c.path_end-e.result c.field.result c.path_end-e.ensures c.field.ensures c.if-field-le1.true)

pub returns-then-field-le1 : goal.returns-then-field-le1
returns-then-field-le1 c = let z = c in
    let b = z.args.b.now in
    let f = c.field-x in
    let K = kind_here z.args.d (bits b) (bits_binary b) z.args.p z.requires.1 f.result f.ensures c.if-kind-eq0.false (omega (arith, c.if-kind-gt2.false)) in
    path_read z.args.d (bits b) (bits_binary b) z.args.p z.requires.1 f.result f.ensures _ K c.if-x-eq1.true c.path_end-e.result c.field.result c.path_end-e.ensures c.field.ensures c.if-field-le1.true

pub returns : goal.returns
returns c = let z = c in
    let b = z.args.b.now in
    let f = c.field-x in
    let K = kind_here z.args.d (bits b) (bits_binary b) z.args.p z.requires.1 f.result f.ensures c.if-kind-eq0.false (omega (arith, c.if-kind-gt2.false)) in (
      expression_read z.args.d (bits b) (bits_binary b) z.args.p z.requires.1 f.result f.ensures _ K,
      elim c.if-x-eq1.branch [
        | then-x-eq1+else-field-le1 w ↦ more_there z.args.d (bits b) (bits_binary b) z.args.p z.requires.1 f.result f.ensures _ K w.if-x-eq1.true w.path_end-e.result w.field.result w.path_end-e.ensures w.field.ensures (omega (arith, w.if-field-le1.false))
        | else-x-eq1 w ↦ no_path z.args.d (bits b) (bits_binary b) z.args.p z.requires.1 f.result f.ensures _ K w.if-x-eq1.false
      ],
    )
