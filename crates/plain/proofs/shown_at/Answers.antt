use Prim.Native.Nat.{◌+◌, ◌<◌}
use mathlib.Core.Bool.{Bool, ◌&&◌}
use mathlib.Core.Path.{refl, sym, ap, ◌∙◌, subst}
use native.Mathlib.Omega.{arith}
use borrow.Author.Tests.{eq-eqb}
use Rattle.rules.specs.Bits.{bits}
use Rattle.rules.specs.BundleLaws.{bits_size, bits_binary}
use Rattle.rules.specs.Registry.{get_helper}
use Rattle.layout.specs.Text.{text_at}
use Rattle.parts.specs.Says.{path_at}
use Rattle.template.specs.Content.{element_fits}
use Rattle.context.specs.Start.{needs_all}
use Rattle.helpers.specs.Does.{has, shows_of, shows_helper, shows_missing, shows_bad_index, shows_nothing, shows_value}
use Rattle.plain.specs.Plain.{PathIs, PlainIs, ShowsAt, other, disabled, helper, far}
use Rattle.plain.specs.Reading.{lookup_read}
use Rattle.plain.specs.Laws.{both_true, path_shows, path_html, call_html, not_first}
use Rattle.plain.specs.Lookups.{lookup_told}
use Rattle.plain.specs.declared.Plain.TheVariants.{Call}
use borrow.Author.Rules.{rules}
use Rattle.plain.proofs.shown_at.Goals as goal

pub returns-then-html-disable_escape : goal.returns-then-html-disable_escape
returns-then-html-disable_escape c = let a = c.args in
    let h = c.in-Path.html in
    let v = c.in-Path.v in
    let n = c.in-Path.next in
    let P : PathIs a.d (bits a.b.now) a.p h v n = subst (PlainIs a.d (bits a.b.now) a.p) c.in-Path.is c.plain_at.ensures in
    let k = both_true h a.disable_escape c.if-html-disable_escape.true in
    disabled (path_html a.d (bits a.b.now) a.p h v n k.0 P) k.1

pub bare_number-r-requires : goal.bare_number-r-requires
bare_number-r-requires c = let a = c.args in
    let h = c.in-Path.html in
    let v = c.in-Path.v in
    let n = c.in-Path.next in
    let P : PathIs a.d (bits a.b.now) a.p h v n = subst (PlainIs a.d (bits a.b.now) a.p) c.in-Path.is c.plain_at.ensures in
    (c.requires.0, c.requires.1, c.requires.2, P.leads)

pub returns-then-r-eq-HELPER : goal.returns-then-r-eq-HELPER
returns-then-r-eq-HELPER c = let a = c.args in
    let h = c.in-Path.html in
    let v = c.in-Path.v in
    let n = c.in-Path.next in
    let P : PathIs a.d (bits a.b.now) a.p h v n = subst (PlainIs a.d (bits a.b.now) a.p) c.in-Path.is c.plain_at.ensures in
    let f = c.bare_number-r in
    helper h n (subst (ShowsAt a.s.now a.b.now a.ent.now a.front a.names a.disable_escape a.options a.d a.p h n) (ap shows_of c.if-r-eq-HELPER.true ∙ shows_helper) (path_shows a.s.now a.b.now a.ent.now a.front a.names a.disable_escape a.options a.d a.p h v n P c.if-html-disable_escape.false (shows_of f.result) (f.ensures.1 (λ z. omega (arith, z, c.if-r-eq-HELPER.true)))))

pub returns-then-r-eq-FAR : goal.returns-then-r-eq-FAR
returns-then-r-eq-FAR c = let a = c.args in
    let h = c.in-Path.html in
    let v = c.in-Path.v in
    let n = c.in-Path.next in
    let P : PathIs a.d (bits a.b.now) a.p h v n = subst (PlainIs a.d (bits a.b.now) a.p) c.in-Path.is c.plain_at.ensures in
    far h v n P
    (not_first (has (get_helper (text_at (bits a.b.now) v))) (needs_all a.b.now a.ent.now a.front a.names (path_at (bits a.b.now) v))
    (sym (eq-eqb _ _ c.if-r-eq-FAR.true) ∙ c.bare_number-r.ensures.2))

pub returns-then-r-eq-MISSING : goal.returns-then-r-eq-MISSING
returns-then-r-eq-MISSING c = let a = c.args in
    let h = c.in-Path.html in
    let v = c.in-Path.v in
    let n = c.in-Path.next in
    let P : PathIs a.d (bits a.b.now) a.p h v n = subst (PlainIs a.d (bits a.b.now) a.p) c.in-Path.is c.plain_at.ensures in
    let f = c.bare_number-r in
    (h, n, subst (ShowsAt a.s.now a.b.now a.ent.now a.front a.names a.disable_escape a.options a.d a.p h n) (ap shows_of c.if-r-eq-MISSING.true ∙ shows_missing) (path_shows a.s.now a.b.now a.ent.now a.front a.names a.disable_escape a.options a.d a.p h v n P c.if-html-disable_escape.false (shows_of f.result) (f.ensures.1 c.if-r-eq-FAR.false)))

pub returns-then-r-lt-NOTHING : goal.returns-then-r-lt-NOTHING
returns-then-r-lt-NOTHING c = let a = c.args in
    let h = c.in-Path.html in
    let v = c.in-Path.v in
    let n = c.in-Path.next in
    let P : PathIs a.d (bits a.b.now) a.p h v n = subst (PlainIs a.d (bits a.b.now) a.p) c.in-Path.is c.plain_at.ensures in
    let f = c.bare_number-r in
    (h, n, subst (ShowsAt a.s.now a.b.now a.ent.now a.front a.names a.disable_escape a.options a.d a.p h n) (ap shows_of (f.ensures.3 c.if-r-eq-HELPER.false c.if-r-eq-MISSING.false c.if-r-lt-NOTHING.true) ∙ shows_bad_index) (path_shows a.s.now a.b.now a.ent.now a.front a.names a.disable_escape a.options a.d a.p h v n P c.if-html-disable_escape.false (shows_of f.result) (f.ensures.1 c.if-r-eq-FAR.false)))

pub returns-then-r-eq-NOTHING : goal.returns-then-r-eq-NOTHING
returns-then-r-eq-NOTHING c = let a = c.args in
    let h = c.in-Path.html in
    let v = c.in-Path.v in
    let n = c.in-Path.next in
    let P : PathIs a.d (bits a.b.now) a.p h v n = subst (PlainIs a.d (bits a.b.now) a.p) c.in-Path.is c.plain_at.ensures in
    let f = c.bare_number-r in
    (h, subst (ShowsAt a.s.now a.b.now a.ent.now a.front a.names a.disable_escape a.options a.d a.p h n) (ap shows_of c.if-r-eq-NOTHING.true ∙ shows_nothing) (path_shows a.s.now a.b.now a.ent.now a.front a.names a.disable_escape a.options a.d a.p h v n P c.if-html-disable_escape.false (shows_of f.result) (f.ensures.1 c.if-r-eq-FAR.false)))

pub overflow_sub-result : goal.overflow_sub-result
overflow_sub-result c = omega arith

pub overflow_cast-result : goal.overflow_cast-result
overflow_cast-result c = omega arith

pub returns-then-html-disable_escape-2 : goal.returns-then-html-disable_escape-2
returns-then-html-disable_escape-2 c = let a = c.args in
    let h = c.in-Call.html in
    let Q : PlainIs a.d (bits a.b.now) a.p (Call h) = subst (PlainIs a.d (bits a.b.now) a.p) c.in-Call.is c.plain_at.ensures in
    let k = both_true h a.disable_escape c.if-html-disable_escape-2.true in
    disabled (call_html a.d (bits a.b.now) a.p h k.0 Q.0) k.1

pub overflow_add-p : goal.overflow_add-p
overflow_add-p c = let z = c in
    omega (arith, z.requires.1, element_fits 16 z.args.d (bits z.args.b.now) z.args.p z.requires.3, bits_size z.args.b.now)

pub lookup_shown-requires : goal.lookup_shown-requires
lookup_shown-requires c = let a = c.args in
    let h = c.in-Call.html in
    let Q : PlainIs a.d (bits a.b.now) a.p (Call h) = subst (PlainIs a.d (bits a.b.now) a.p) c.in-Call.is c.plain_at.ensures in
    (c.requires.0, c.requires.1, c.requires.2, Q.0.call)

pub returns-in-Text : goal.returns-in-Text
returns-in-Text c = let a = c.args in subst (PlainIs a.d (bits a.b.now) a.p) c.in-Text.is c.plain_at.ensures

pub returns-else-r-eq-NOTHING : goal.returns-else-r-eq-NOTHING
returns-else-r-eq-NOTHING c = let a = c.args in
    let h = c.in-Path.html in
    let v = c.in-Path.v in
    let n = c.in-Path.next in
    let P : PathIs a.d (bits a.b.now) a.p h v n = subst (PlainIs a.d (bits a.b.now) a.p) c.in-Path.is c.plain_at.ensures in
    let f = c.bare_number-r in
    let gt : 255 < f.result = omega (arith, c.if-r-lt-NOTHING.false, c.if-r-eq-NOTHING.false) in
    subst (ShowsAt a.s.now a.b.now a.ent.now a.front a.names a.disable_escape a.options a.d a.p h n) (shows_value f.result gt) (path_shows a.s.now a.b.now a.ent.now a.front a.names a.disable_escape a.options a.d a.p h v n P c.if-html-disable_escape.false (shows_of f.result) (f.ensures.1 c.if-r-eq-FAR.false))

pub returns-else-html-disable_escape-2 : goal.returns-else-html-disable_escape-2
returns-else-html-disable_escape-2 c = let a = c.args in
    let h = c.in-Call.html in
    let Q : PlainIs a.d (bits a.b.now) a.p (Call h) = subst (PlainIs a.d (bits a.b.now) a.p) c.in-Call.is c.plain_at.ensures in
    lookup_told a.s.now a.b.now a.ent.now a.front a.names a.disable_escape a.options a.d a.p h Q.0 Q.1 (λ k. sym (ap (λ (t : Bool). t && a.disable_escape) k) ∙ c.if-html-disable_escape-2.false)
    (lookup_read a.d (bits a.b.now) (bits_binary a.b.now) (a.p + 4) Q.0.call _ refl) c.lookup_shown.result c.lookup_shown.ensures

pub returns-in-Other : goal.returns-in-Other
returns-in-Other c = let a = c.args in other (subst (PlainIs a.d (bits a.b.now) a.p) c.in-Other.is c.plain_at.ensures)
