use Prim.Native.Nat.{◌-◌, ◌/◌, ◌<◌}
use Rattle.layout.proofs.Distinct.{bits_more, name_again, name_known, name_none, names_broken, names_end, names_start, templates_few, templates_is, templates_many}
use Rattle.layout.proofs.Entries.{text_in}
use Rattle.layout.specs.Listed.{zeroed_length, place_zero, place_next, listed_start, listed_more, listed_all, never_at}
use Rattle.layout.specs.Walk.{place_by, past, after}
use Rattle.layout.specs.WalkLaws.{place_none, place_some}
use Rattle.rules.specs.Bits.{bits}
use Rattle.rules.specs.Bundle.{string, body, body_context}
use Rattle.rules.specs.BundleLaws.{bits_size}
use lib.ListN.{length, length-set}
use mathlib.Core.Path.{◌∙◌, ap, sym, refl}
use native.Mathlib.Omega.{arith}
use Rattle.layout.proofs.templates.Goals as goal

pub returns-then-n-lt1 : goal.returns-then-n-lt1
returns-then-n-lt1 c = let z = c in (templates_few z.args.w (bits z.args.b.now) (place_by z.args.p) _ c.number-n.ensures c.if-n-lt1.true, refl, λ q m e. never_at q m e)

pub returns-then-n-gt-TEMPLATES : goal.returns-then-n-gt-TEMPLATES
returns-then-n-gt-TEMPLATES c = let z = c in (templates_many z.args.w (bits z.args.b.now) (place_by z.args.p) _ c.number-n.ensures c.if-n-lt1.false c.if-n-gt-TEMPLATES.true, refl, λ q m e. never_at q m e)

pub loop-i-init : goal.loop-i-init
loop-i-init c = let z = c in
    let b = bits z.args.b.now in
    let e = zeroed_length (length z.args.places.now) _ c.clear.ensures in
    (omega arith, refl, omega (arith, e, z.requires.1), (λ j h. absurd (omega arith)), names_start z.args.w b c.number-n.result (place_by c.ahead-cur.result), listed_start z.args.w b (place_by c.ahead-cur.result) (length z.args.places.now) _ c.clear.ensures, place_zero z.args.w b (place_by c.ahead-cur.result))

pub shape_of-places-then-cur-lt-START : goal.shape_of-places-then-cur-lt-START
shape_of-places-then-cur-lt-START c = omega (arith, zeroed_length (length c.args.places.now) _ c.clear.ensures, c.loop-i.invariant.1)

pub returns-then-cur-lt-START : goal.returns-then-cur-lt-START
returns-then-cur-lt-START c = let z = c in
    let b = bits z.args.b.now in
    let l = c.loop-i in (
      names_broken z.args.w b c.number-n.result l.i l.places (place_by l.cur) (place_none _ c.if-cur-lt-START.true) ∙ l.invariant.4 ∙ templates_is z.args.w b (place_by z.args.p) _ c.number-n.ensures _ c.ahead-cur.ensures (omega arith) (omega arith),
      omega (arith, zeroed_length (length z.args.places.now) _ c.clear.ensures, l.invariant.1),
      λ q m e. never_at q m e,
    )

pub shape_of-places-then-template-lt-START : goal.shape_of-places-then-template-lt-START
shape_of-places-then-template-lt-START c = omega (arith, zeroed_length (length c.args.places.now) _ c.clear.ensures, c.loop-i.invariant.1)

pub returns-then-template-lt-START : goal.returns-then-template-lt-START
returns-then-template-lt-START c = let z = c in
    let b = bits z.args.b.now in
    let l = c.loop-i in
    let e = place_some l.cur (omega (arith, c.if-cur-lt-START.false)) in (
      name_none z.args.w b c.number-n.result l.i l.places (place_by l.cur) (omega (arith, c.loop-i-test.true)) _ _ e _ (c.string-template.ensures ∙ ap (after string b) e) (place_none _ c.if-template-lt-START.true) ∙ l.invariant.4 ∙ templates_is z.args.w b (place_by z.args.p) _ c.number-n.ensures _ c.ahead-cur.ensures (omega arith) (omega arith),
      omega (arith, zeroed_length (length z.args.places.now) _ c.clear.ensures, l.invariant.1),
      λ q m e. never_at q m e,
    )

pub known-requires : goal.known-requires
known-requires c = let z = c in
    let b = bits z.args.b.now in
    let l = c.loop-i in
    let e = place_some l.cur (omega (arith, c.if-cur-lt-START.false)) in
    let f = place_some c.string-template.result (omega (arith, c.if-template-lt-START.false)) in
    (omega (arith, l.invariant.2, l.invariant.0, c.loop-i-test.true), l.invariant.3, omega (arith, text_in b _ _ _ (c.string-template.ensures ∙ ap (after string b) e) _ _ f, bits_size z.args.b.now, z.requires.0))

pub shape_of-places-then-known : goal.shape_of-places-then-known
shape_of-places-then-known c = omega (arith, zeroed_length (length c.args.places.now) _ c.clear.ensures, c.loop-i.invariant.1)

pub returns-then-known : goal.returns-then-known
returns-then-known c = let z = c in
    let b = bits z.args.b.now in
    let l = c.loop-i in
    let e = place_some l.cur (omega (arith, c.if-cur-lt-START.false)) in
    let f = place_some c.string-template.result (omega (arith, c.if-template-lt-START.false)) in (
      name_known z.args.w b c.number-n.result l.i l.places (place_by l.cur) (omega (arith, c.loop-i-test.true)) _ _ e _ (c.string-template.ensures ∙ ap (after string b) e) _ _ f _ c.known.ensures c.if-known.true ∙ l.invariant.4 ∙ templates_is z.args.w b (place_by z.args.p) _ c.number-n.ensures _ c.ahead-cur.ensures (omega arith) (omega arith),
      omega (arith, zeroed_length (length z.args.places.now) _ c.clear.ensures, l.invariant.1),
      λ q m e. never_at q m e,
    )

pub overflow_cast-places : goal.overflow_cast-places
overflow_cast-places c = let z = c in
    let b = bits z.args.b.now in
    let l = c.loop-i in
    let e = place_some l.cur (omega (arith, c.if-cur-lt-START.false)) in
    let f = place_some c.string-template.result (omega (arith, c.if-template-lt-START.false)) in
    omega (arith, text_in b _ _ _ (c.string-template.ensures ∙ ap (after string b) e) _ _ f, bits_size z.args.b.now, z.requires.0)

pub bounds-places-i : goal.bounds-places-i
bounds-places-i c = omega (arith, c.loop-i-test.true, c.loop-i.invariant.0, c.loop-i.invariant.2)

pub loop-i-preserved : goal.loop-i-preserved
loop-i-preserved c = let z = c in
    let b = bits z.args.b.now in
    let l = c.loop-i in
    let at = l.cur / 2 - 1 in
    let e = place_some l.cur (omega (arith, c.if-cur-lt-START.false)) in
    let f = place_some c.string-template.result (omega (arith, c.if-template-lt-START.false)) in
    let h = c.string-template.ensures ∙ ap (after string b) e in
    let room : l.i < length l.places = omega (arith, c.loop-i-test.true, l.invariant.0, l.invariant.2) in (
      l.invariant.0,
      length-set l.places l.i at ∙ l.invariant.1,
      simp length-set l.invariant.2,
      bits_more l.places l.i at room l.invariant.3 (omega (arith, text_in b _ _ _ h _ _ f, bits_size z.args.b.now, z.requires.0)),
      name_again z.args.w b c.number-n.result l.i l.places (place_by l.cur) (omega (arith, c.loop-i-test.true)) _ _ e _ h _ _ f _ c.known.ensures c.if-known.false room _ (c.body-cur.ensures ∙ ap (past body_context (body z.args.w 16) b) f) ∙ l.invariant.4,
      listed_more z.args.w b (place_by c.ahead-cur.result) l.i at _ l.places room (sym l.invariant.6 ∙ e) l.invariant.5,
      place_next z.args.w b (place_by c.ahead-cur.result) l.i (place_by l.cur) _ _ l.invariant.6 c.string-template.ensures c.body-cur.ensures,
    )

pub shape_of-places : goal.shape_of-places
shape_of-places c = let z = c in omega (arith, zeroed_length (length z.args.places.now) _ c.clear.ensures, c.loop-i.invariant.1)

pub returns : goal.returns
returns c = let z = c in
    let l = c.loop-i in (
      names_end z.args.w (bits z.args.b.now) c.number-n.result l.i l.places (place_by l.cur) (omega (arith, c.loop-i-test.false)) ∙ l.invariant.4 ∙ templates_is z.args.w (bits z.args.b.now) (place_by z.args.p) _ c.number-n.ensures _ c.ahead-cur.ensures (omega arith) (omega arith),
      omega (arith, zeroed_length (length z.args.places.now) _ c.clear.ensures, l.invariant.1),
      λ q m e. listed_all z.args.w (bits z.args.b.now) _ _ c.ahead-cur.ensures _ _ _ (omega (arith, c.loop-i-test.false)) c.number-n.ensures l.places l.invariant.5,
    )
