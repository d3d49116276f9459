use Rattle.std.specs.Prelude.{Err}
use mathlib.Core.Bool.{not}
use mathlib.Core.Path.{ap}
use Rattle.layout.proofs.Whole.{other_version, this_version, too_long, verdict_accepted, verdict_broken, verdict_context, verdict_more, verdict_padding, verdict_short}
use Rattle.layout.specs.Listed.{bundle_listed}
use Rattle.layout.specs.Verdict.{never_accepted}
use Rattle.layout.specs.WalkLaws.{place_none, place_some}
use Rattle.layout.specs.declared.BundleError.TheVariants.{TooLong, BadLayout, PartialContext}
use Rattle.rules.specs.Bits.{bits}
use Prim.Native.Nat.{◌≤◌}
use lib.ListN.{length}
use borrow.Author.Tests.{eq-eqb, ne_eqb}
use mathlib.Core.Path.{◌∙◌, refl}
use native.Mathlib.Omega.{arith}
use Rattle.layout.proofs.checked.Goals as goal

pub returns-then-b-gt-BYTES : goal.returns-then-b-gt-BYTES
returns-then-b-gt-BYTES c = (too_long c.args.b.now c.if-b-gt-BYTES.true, refl, never_accepted (Err TooLong) (omega arith))

pub returns-then-not-is_version : goal.returns-then-not-is_version
returns-then-not-is_version c = let z = c in (verdict_broken z.args.b.now (omega arith) (other_version (bits z.args.b.now) _ c.is_version.ensures (ap not c.if-not-is_version.true)), refl, never_accepted (Err BadLayout) (omega arith))

pub templates-last-requires : goal.templates-last-requires
templates-last-requires c = (omega (arith, c.if-b-gt-BYTES.false), c.requires)

pub shape_of-places-then-last-lt-START : goal.shape_of-places-then-last-lt-START
shape_of-places-then-last-lt-START c = c.templates-last.ensures.1

pub returns-then-last-lt-START : goal.returns-then-last-lt-START
returns-then-last-lt-START c = let z = c.args in
    let b = bits z.b.now in
    (verdict_broken z.b.now (omega (arith, c.if-b-gt-BYTES.false)) (this_version b _ c.is_version.ensures (ap not c.if-not-is_version.false) _ _ c.ahead.ensures c.templates-last.ensures.0 ∙ place_none _ c.if-last-lt-START.true), c.templates-last.ensures.1, never_accepted (Err BadLayout) (omega arith))

pub shape_of-places-then-end-at : goal.shape_of-places-then-end-at
shape_of-places-then-end-at c = c.templates-last.ensures.1

pub returns-then-end-at : goal.returns-then-end-at
returns-then-end-at c = let z = c.args in
    let b = bits z.b.now in
    let small : length z.b.now ≤ 65536 = omega (arith, c.if-b-gt-BYTES.false) in
    let e = this_version b _ c.is_version.ensures (ap not c.if-not-is_version.false) _ _ c.ahead.ensures c.templates-last.ensures.0 ∙ place_some c.templates-last.result (omega (arith, c.if-last-lt-START.false)) in
    (verdict_short z.b.now small _ _ e c.if-end-at.true, c.templates-last.ensures.1, never_accepted (Err BadLayout) (omega arith))

pub shape_of-places-then-left-gt7 : goal.shape_of-places-then-left-gt7
shape_of-places-then-left-gt7 c = c.templates-last.ensures.1

pub returns-then-left-gt7 : goal.returns-then-left-gt7
returns-then-left-gt7 c = let z = c.args in
    let b = bits z.b.now in
    let small : length z.b.now ≤ 65536 = omega (arith, c.if-b-gt-BYTES.false) in
    let e = this_version b _ c.is_version.ensures (ap not c.if-not-is_version.false) _ _ c.ahead.ensures c.templates-last.ensures.0 ∙ place_some c.templates-last.result (omega (arith, c.if-last-lt-START.false)) in
    (verdict_more z.b.now small _ _ e c.if-end-at.false c.if-left-gt7.true, c.templates-last.ensures.1, never_accepted (Err BadLayout) (omega arith))

pub shape_of-places-then-field-ne0 : goal.shape_of-places-then-field-ne0
shape_of-places-then-field-ne0 c = c.templates-last.ensures.1

pub returns-then-field-ne0 : goal.returns-then-field-ne0
returns-then-field-ne0 c = let z = c.args in
    let b = bits z.b.now in
    let small : length z.b.now ≤ 65536 = omega (arith, c.if-b-gt-BYTES.false) in
    let e = this_version b _ c.is_version.ensures (ap not c.if-not-is_version.false) _ _ c.ahead.ensures c.templates-last.ensures.0 ∙ place_some c.templates-last.result (omega (arith, c.if-last-lt-START.false)) in
    (verdict_padding z.b.now small _ _ e (omega arith) (omega arith) _ c.field.ensures c.if-field-ne0.true, c.templates-last.ensures.1, never_accepted (Err BadLayout) (omega arith))

pub shape_of-places-then-last-eq1 : goal.shape_of-places-then-last-eq1
shape_of-places-then-last-eq1 c = c.templates-last.ensures.1

pub returns-then-last-eq1 : goal.returns-then-last-eq1
returns-then-last-eq1 c = let z = c.args in
    let b = bits z.b.now in
    let small : length z.b.now ≤ 65536 = omega (arith, c.if-b-gt-BYTES.false) in
    let e = this_version b _ c.is_version.ensures (ap not c.if-not-is_version.false) _ _ c.ahead.ensures c.templates-last.ensures.0 ∙ place_some c.templates-last.result (omega (arith, c.if-last-lt-START.false)) in
    (verdict_context z.b.now small _ _ e (omega arith) (omega arith) _ c.field.ensures c.if-field-ne0.false (eq-eqb _ 1 c.if-last-eq1.true), c.templates-last.ensures.1, never_accepted (Err PartialContext) (omega arith))

pub shape_of-places : goal.shape_of-places
shape_of-places c = c.templates-last.ensures.1

pub returns : goal.returns
returns c = let z = c.args in
    let b = bits z.b.now in
    let small : length z.b.now ≤ 65536 = omega (arith, c.if-b-gt-BYTES.false) in
    let e = this_version b _ c.is_version.ensures (ap not c.if-not-is_version.false) _ _ c.ahead.ensures c.templates-last.ensures.0 ∙ place_some c.templates-last.result (omega (arith, c.if-last-lt-START.false)) in (
      verdict_accepted z.b.now small _ _ e (omega arith) (omega arith) _ c.field.ensures c.if-field-ne0.false (ne_eqb _ 1 c.if-last-eq1.false),
      c.templates-last.ensures.1,
      λ a. bundle_listed b _ c.ahead.ensures _ (c.templates-last.ensures.2 _ _ (place_some c.templates-last.result (omega (arith, c.if-last-lt-START.false)))),
    )
