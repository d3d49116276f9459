use Rattle.std.specs.Prelude.{Ok, Err}
use Prim.Native.Nat.{ℕ, ◌+◌, ◌-◌}
use native.Mathlib.Omega.{arith}
use mathlib.Core.Bool.{Bool, false}
use mathlib.Core.Path.{◌≡◌, refl, sym, ap, ◌∙◌, subst}
use Rattle.rules.specs.Bytes.{pick}
use Rattle.rules.specs.Bits.{bits}
use Rattle.rules.specs.BundleLaws.{bits_size}
use Rattle.rules.specs.Error.{invalid-json-index}
use Rattle.rules.specs.Registry.{get_helper}
use Rattle.layout.specs.Text.{text_at}
use Rattle.parts.specs.Parts.{path_raw}
use Rattle.parts.specs.HoldsLaws.{string_in}
use Rattle.value.specs.declared.Value.TheVariants.{Missing}
use Rattle.value.specs.Numbers.{decoded}
use Rattle.context.specs.declared.Evaluated.TheVariants as evaluated
use Rattle.context.specs.Evaluated.{Evaluates, evaluated_of, evaluates_led}
use Rattle.context.specs.Numbers.{evaluated_missing, evaluated_present, evaluated_is}
use Rattle.expand.specs.Names.{no_name}
use Rattle.expand.specs.declared.HelperDef.TheVariants.{Unknown}
use Rattle.helpers.specs.declared.Shows.TheVariants as shows
use Rattle.helpers.specs.Does.{has, shows_of, shows_helper, shows_missing, shows_bad_index, shows_nothing, shows_value}
use Rattle.helpers.proofs.Expressing.{known_helper}
use Rattle.helpers.proofs.Pathing.{far_not, far_helper, far_so, path_helper, path_value}
use borrow.Author.Rules.{rules}
use Rattle.helpers.proofs.bare_number.Goals.{then-may_name+else-known, else-may_name}
use Rattle.helpers.proofs.bare_number.Goals as goal
use Rattle.error.specs.declared.RenderErrorReason.TheVariants.{InvalidJsonIndex, MissingVariable}

pub helper_at-requires : goal.helper_at-requires
helper_at-requires c = let z = c in
    omega (arith, z.requires.1, string_in (bits z.args.b.now) z.args.q (path_raw (bits z.args.b.now) z.args.q z.requires.3), bits_size z.args.b.now)

pub returns-then-known : goal.returns-then-known
returns-then-known c = let a = c.args in
    let k = sym (known_helper (text_at (bits a.b.now) a.q) c.helper_at.result c.helper_at.ensures) ∙ sym c.known.ensures ∙ c.if-known.true in (
      omega arith,
      λ ne l used w g st t d p ibw h H W Z. rw shows_helper (path_helper a.s.now a.b.now a.ent.now t g st ibw d p a.q H W _ _ refl refl Z k),
      far_helper 0 _ _ (λ z. absurd (omega arith)) k,
      λ h i lt. absurd (h refl),
    )

pub returns-then-found-eq-FAR : goal.returns-then-found-eq-FAR
returns-then-found-eq-FAR c =
    let unnamed : has (get_helper (text_at (bits c.args.b.now) c.args.q)) ≡ false = let a = c.args in
    let n = text_at (bits a.b.now) a.q in
    elim c.if-may_name.branch [
      | then-may_name+else-known w ↦ sym (known_helper n w.helper_at.result w.helper_at.ensures) ∙ sym w.known.ensures ∙ w.if-known.false
      | else-may_name w ↦ sym (known_helper n Unknown (no_name (bits a.b.now) a.q (sym c.may_name.ensures ∙ w.if-may_name.false)))
    ] in
    (omega arith, λ ne. absurd (ne refl), far_so c.evaluate_near-found.result _ _ (unnamed) c.evaluate_near-found.ensures.2 c.if-found-eq-FAR.true, λ h i lt. absurd (omega (arith, lt)))

pub returns-then-found-eq0 : goal.returns-then-found-eq0
returns-then-found-eq0 c =
    let unnamed : has (get_helper (text_at (bits c.args.b.now) c.args.q)) ≡ false = let a = c.args in
    let n = text_at (bits a.b.now) a.q in
    elim c.if-may_name.branch [
      | then-may_name+else-known w ↦ sym (known_helper n w.helper_at.result w.helper_at.ensures) ∙ sym w.known.ensures ∙ w.if-known.false
      | else-may_name w ↦ sym (known_helper n Unknown (no_name (bits a.b.now) a.q (sym c.may_name.ensures ∙ w.if-may_name.false)))
    ] in
    let a = c.args in (
      omega arith,
      λ ne l used w g st t d p ibw h H W Z.
          let e = subst (Evaluates a.s.now a.b.now a.ent.now t _) (ap evaluated_of c.if-found-eq0.true) (c.evaluate_near-found.ensures.1 c.if-found-eq-FAR.false l used w g st t h.plan h.recursive h.open_scopes h.stand) in
          path_value a.s.now a.b.now a.ent.now t g st ibw d p a.q H W _ _ refl refl Z a.options.strict h.alike.strict (unnamed) (Err InvalidJsonIndex) (record { reason = invalid-json-index; is = e; by_reason = refl }) (shows_of 20) shows_bad_index,
      far_not 20 c.evaluate_near-found.result _ _ (λ z. absurd (omega arith)) (unnamed) c.evaluate_near-found.ensures.2 c.if-found-eq-FAR.false,
      λ h i lt. refl,
    )

pub returns-then-options : goal.returns-then-options
returns-then-options c =
    let unnamed : has (get_helper (text_at (bits c.args.b.now) c.args.q)) ≡ false = let a = c.args in
    let n = text_at (bits a.b.now) a.q in
    elim c.if-may_name.branch [
      | then-may_name+else-known w ↦ sym (known_helper n w.helper_at.result w.helper_at.ensures) ∙ sym w.known.ensures ∙ w.if-known.false
      | else-may_name w ↦ sym (known_helper n Unknown (no_name (bits a.b.now) a.q (sym c.may_name.ensures ∙ w.if-may_name.false)))
    ] in
    let a = c.args in (
      omega arith,
      λ ne l used w g st t d p ibw h H W Z.
          let e = subst (Evaluates a.s.now a.b.now a.ent.now t _) (evaluated_missing c.evaluate_near-found.result c.if-found-eq1.true) (c.evaluate_near-found.ensures.1 c.if-found-eq-FAR.false l used w g st t h.plan h.recursive h.open_scopes h.stand) in
          path_value a.s.now a.b.now a.ent.now t g st ibw d p a.q H W _ _ refl refl Z a.options.strict h.alike.strict (unnamed) (Ok Missing) (evaluates_led a.s.now a.b.now a.ent.now t _ evaluated.Nothing e refl) (shows_of 11)
          (shows_missing ∙ sym (ap (λ (x : Bool). pick x (shows.Bad MissingVariable) shows.Nothing) c.if-options.true)),
      far_not 11 c.evaluate_near-found.result _ _ (λ z. absurd (omega arith)) (unnamed) c.evaluate_near-found.ensures.2 c.if-found-eq-FAR.false,
      λ h i lt. absurd (i refl),
    )

pub returns-then-found-eq1 : goal.returns-then-found-eq1
returns-then-found-eq1 c =
    let unnamed : has (get_helper (text_at (bits c.args.b.now) c.args.q)) ≡ false = let a = c.args in
    let n = text_at (bits a.b.now) a.q in
    elim c.if-may_name.branch [
      | then-may_name+else-known w ↦ sym (known_helper n w.helper_at.result w.helper_at.ensures) ∙ sym w.known.ensures ∙ w.if-known.false
      | else-may_name w ↦ sym (known_helper n Unknown (no_name (bits a.b.now) a.q (sym c.may_name.ensures ∙ w.if-may_name.false)))
    ] in
    let a = c.args in (
      omega arith,
      λ ne l used w g st t d p ibw h H W Z.
          let e = subst (Evaluates a.s.now a.b.now a.ent.now t _) (evaluated_missing c.evaluate_near-found.result c.if-found-eq1.true) (c.evaluate_near-found.ensures.1 c.if-found-eq-FAR.false l used w g st t h.plan h.recursive h.open_scopes h.stand) in
          path_value a.s.now a.b.now a.ent.now t g st ibw d p a.q H W _ _ refl refl Z a.options.strict h.alike.strict (unnamed) (Ok Missing) (evaluates_led a.s.now a.b.now a.ent.now t _ evaluated.Nothing e refl) (shows_of 255)
          (shows_nothing ∙ sym (ap (λ (x : Bool). pick x (shows.Bad MissingVariable) shows.Nothing) c.if-options.false)),
      far_not 255 c.evaluate_near-found.result _ _ (λ z. absurd (omega arith)) (unnamed) c.evaluate_near-found.ensures.2 c.if-found-eq-FAR.false,
      λ h i lt. absurd (omega (arith, lt)),
    )

pub overflow_sub-result : goal.overflow_sub-result
overflow_sub-result c = omega (arith, c.if-found-eq0.false)

pub overflow_add-result : goal.overflow_add-result
overflow_add-result c = omega (arith, c.evaluate_near-found.ensures.0)

pub returns : goal.returns
returns c =
    let unnamed : has (get_helper (text_at (bits c.args.b.now) c.args.q)) ≡ false = let a = c.args in
    let n = text_at (bits a.b.now) a.q in
    elim c.if-may_name.branch [
      | then-may_name+else-known w ↦ sym (known_helper n w.helper_at.result w.helper_at.ensures) ∙ sym w.known.ensures ∙ w.if-known.false
      | else-may_name w ↦ sym (known_helper n Unknown (no_name (bits a.b.now) a.q (sym c.may_name.ensures ∙ w.if-may_name.false)))
    ] in
    let a = c.args in
    let n = c.evaluate_near-found.result in
    let v = decoded (n - 1) in
    let back : 256 + (n - 1) - 256 ≡ n - 1 = omega arith in (
      omega (arith, c.evaluate_near-found.ensures.0),
      λ ne l used w g st t d p ibw h H W Z.
          let e = subst (Evaluates a.s.now a.b.now a.ent.now t _) (evaluated_is n c.if-found-eq0.false c.if-found-eq1.false) (c.evaluate_near-found.ensures.1 c.if-found-eq-FAR.false l used w g st t h.plan h.recursive h.open_scopes h.stand) in
          path_value a.s.now a.b.now a.ent.now t g st ibw d p a.q H W _ _ refl refl Z a.options.strict h.alike.strict (unnamed) (Ok v) (e.0, e.1) (shows_of (256 + (n - 1)))
          (shows_value (256 + (n - 1)) (omega arith) ∙ ap (λ (m : ℕ). shows.Value (decoded m)) back ∙ sym (ap (λ (x : Bool). pick x (pick a.options.strict (shows.Bad MissingVariable) shows.Nothing) (shows.Value v)) (evaluated_present n c.if-found-eq0.false c.if-found-eq1.false))),
      far_not (256 + (n - 1)) n _ _ (λ z. c.if-found-eq-FAR.false (omega (arith, z, c.if-found-eq0.false))) (unnamed) c.evaluate_near-found.ensures.2 c.if-found-eq-FAR.false,
      λ h i lt. absurd (omega (arith, lt)),
    )
