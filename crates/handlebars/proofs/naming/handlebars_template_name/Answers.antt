use mathlib.Core.Path.{ap, sym, ◌∙◌}
use Rattle.handlebars.specs.Names.{fits, none_filled, name_zero, name_none, fits_parts, found_filled}
use borrow.Author.Tests.{not-true, not-false}
use Prim.Native.Nat.{◌-◌}
use lib.ListN.{length}
use native.Mathlib.Omega.{arith}
use borrow.Author.Rules.{rules}
use Rattle.handlebars.proofs.naming.handlebars_template_name.Goals as goal

pub returns-then-template-eq0 : goal.returns-then-template-eq0
returns-then-template-eq0 c = let z = c in none_filled _ _ _ (name_zero z.args.bundle.now _ z.args.template c.if-template-eq0.true) c.clear.ensures

pub returns-then-not-fits : goal.returns-then-not-fits
returns-then-not-fits c = let z = c in none_filled _ _ _ (name_none z.args.bundle.now _ z.args.template c.if-template-eq0.false (ap (fits z.args.bundle.now (z.args.template - 1)) (sym c.clear.auto.b) ∙ sym c.fits.ensures ∙ c.if-not-fits.true)) c.clear.ensures

pub overflow_add-p : goal.overflow_add-p
overflow_add-p c = let z = c in omega (arith, (fits_parts z.args.bundle.now _ (z.args.template - 1) (sym c.fits.ensures ∙ c.if-not-fits.false)).0, (fits_parts z.args.bundle.now _ (z.args.template - 1) (sym c.fits.ensures ∙ c.if-not-fits.false)).2)

pub copy_packed-requires : goal.copy_packed-requires
copy_packed-requires c = let z = c in
    let f = fits_parts z.args.bundle.now _ (z.args.template - 1) (sym c.fits.ensures ∙ c.if-not-fits.false) in
    omega (arith, f.0, f.1, f.2, c.field-count.ensures)

pub returns : goal.returns
returns c = let z = c in found_filled z.args.bundle.now (length z.args.out.now) z.args.template _ _ _ c.if-template-eq0.false (ap (fits z.args.bundle.now (z.args.template - 1)) (sym c.clear.auto.b) ∙ sym c.fits.ensures ∙ c.if-not-fits.false) c.field-count.ensures c.clear.ensures c.copy_packed.ensures
