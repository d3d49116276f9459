use Rattle.std.specs.Prelude.{Some}
use Prim.Native.Nat.{ℕ, ◌+◌, ◌*◌, ◌/◌, ◌≤◌}
use native.Mathlib.Omega.{arith}
use mathlib.Core.Path.{◌≡◌, refl, sym, ap, ◌∙◌}
use Rattle.rules.specs.Bits.{bits}
use Rattle.rules.specs.Bundle.{string}
use Rattle.rules.specs.Bytes.{same}
use Rattle.rules.specs.BundleLaws.{bits_binary, bits_size}
use Rattle.rules.specs.Picks.{yes, no}
use Rattle.layout.specs.Text.{text_at}
use Rattle.parts.specs.Holds.{end}
use Rattle.parts.specs.HoldsLaws.{string_end, string_in}
use Rattle.scope.proofs.NamesLaws.{string_near}
use Rattle.bits.specs.Fields.{field_first}
use Rattle.scope.proofs.Numbers.{number_one}
use Rattle.scope.proofs.two_number.Goals as goal

pub same_headed-requires : goal.same_headed-requires
same_headed-requires c =
    let counted : c.field-y.result / 1099511627776 ≡ Rattle.rules.specs.Layout.field (bits c.args.b.now) 16 c.args.c.names = ap (λ (x : ℕ). x / 1099511627776) c.field-y.ensures ∙ field_first (bits c.args.b.now) (bits_binary c.args.b.now) 16 40 c.args.c.names in
    let inside : c.args.c.names + 16 + 8 * (c.field-y.result / 1099511627776) ≤ 524288 = omega (arith, counted, string_in (bits c.args.b.now) c.args.c.names c.requires.2.0, bits_size c.args.b.now, c.requires.0) in
    (inside, c.requires.1, c.field.ensures, c.requires.3, c.requires.4)

pub overflow_add-result : goal.overflow_add-result
overflow_add-result c = omega arith

pub returns-then-same_headed : goal.returns-then-same_headed
returns-then-same_headed c =
    let counted : c.field-y.result / 1099511627776 ≡ Rattle.rules.specs.Layout.field (bits c.args.b.now) 16 c.args.c.names = ap (λ (x : ℕ). x / 1099511627776) c.field-y.ensures ∙ field_first (bits c.args.b.now) (bits_binary c.args.b.now) 16 40 c.args.c.names in
    let behind : c.args.c.names + 16 + 8 * (c.field-y.result / 1099511627776) ≡ end string (bits c.args.b.now) c.args.c.names = omega (arith, counted, string_end (bits c.args.b.now) c.args.c.names c.requires.2.0) in (
      yes _ _ _ _ (sym (c.same_headed.ensures ∙ ap (λ (q : ℕ). same (text_at (bits c.args.b.now) q) (text_at (bits c.args.b.now) c.args.p)) (behind)) ∙ c.if-same_headed.true)
          (number_one c.second_number-second.result _ refl ∙ ap Some c.second_number-second.ensures.0),
      omega arith,
      c.second_number-second.ensures.1,
    )

pub same_headed-requires-2 : goal.same_headed-requires-2
same_headed-requires-2 c = (string_near c.args.b.now c.args.c.names c.requires.0 c.requires.2.0, c.requires.1, c.field-y.ensures, c.requires.3, c.requires.4)

pub returns-then-same_headed-2 : goal.returns-then-same_headed-2
returns-then-same_headed-2 c =
    let counted : c.field-y.result / 1099511627776 ≡ Rattle.rules.specs.Layout.field (bits c.args.b.now) 16 c.args.c.names = ap (λ (x : ℕ). x / 1099511627776) c.field-y.ensures ∙ field_first (bits c.args.b.now) (bits_binary c.args.b.now) 16 40 c.args.c.names in
    let behind : c.args.c.names + 16 + 8 * (c.field-y.result / 1099511627776) ≡ end string (bits c.args.b.now) c.args.c.names = omega (arith, counted, string_end (bits c.args.b.now) c.args.c.names c.requires.2.0) in (
      no _ _ _ _ (sym (c.same_headed.ensures ∙ ap (λ (q : ℕ). same (text_at (bits c.args.b.now) q) (text_at (bits c.args.b.now) c.args.p)) (behind)) ∙ c.if-same_headed.false)
          (yes _ _ _ _ (sym c.same_headed-2.ensures ∙ c.if-same_headed-2.true) (number_one c.args.c.base _ refl)),
      omega (arith, c.struct_known-1.given),
      c.second_number-second.ensures.1,
    )

pub returns : goal.returns
returns c =
    let counted : c.field-y.result / 1099511627776 ≡ Rattle.rules.specs.Layout.field (bits c.args.b.now) 16 c.args.c.names = ap (λ (x : ℕ). x / 1099511627776) c.field-y.ensures ∙ field_first (bits c.args.b.now) (bits_binary c.args.b.now) 16 40 c.args.c.names in
    let behind : c.args.c.names + 16 + 8 * (c.field-y.result / 1099511627776) ≡ end string (bits c.args.b.now) c.args.c.names = omega (arith, counted, string_end (bits c.args.b.now) c.args.c.names c.requires.2.0) in (
      no _ _ _ _ (sym (c.same_headed.ensures ∙ ap (λ (q : ℕ). same (text_at (bits c.args.b.now) q) (text_at (bits c.args.b.now) c.args.p)) (behind)) ∙ c.if-same_headed.false)
          (no _ _ _ _ (sym c.same_headed-2.ensures ∙ c.if-same_headed-2.false) refl),
      omega arith,
      c.second_number-second.ensures.1,
    )
