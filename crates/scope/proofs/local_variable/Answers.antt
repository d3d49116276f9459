use Rattle.std.specs.Prelude.{Some}
use Prim.Native.Nat.{ℕ, ◌+◌, ◌*◌, ◌/◌, ◌^◌}
use mathlib.Core.Bool.{false}
use Rattle.scope.proofs.local_variable.Goals.{else-x-head-2-via-else-x-head-2, else-x-head-2-via-then-x-head-2+else-spells-2, else-x-head-3-via-else-x-head-3, else-x-head-3-via-then-x-head-3+else-spells-3, else-x-head-4-via-else-x-head-4, else-x-head-4-via-then-x-head-4+else-spells-4, else-x-head-via-else-x-head, else-x-head-via-then-x-head+else-spells}
use mathlib.Core.Path.{◌≡◌, refl, sym, ap, ◌∙◌}
use native.Mathlib.Omega.{arith}
use lib.Dec.{eqb, lit<}
use borrow.Author.Tests.{eq-eqb, ne_eqb}
use Rattle.rules.specs.Bytes.{Bytes, same, ascii}
use Rattle.rules.specs.BundleLaws.{bits_binary}
use Rattle.rules.specs.Layout.{field}
use Rattle.bits.specs.Fields.{field_first}
use Rattle.bits.specs.Packed.{number_bytes}
use Rattle.rules.specs.Bits.{bits}
use Rattle.rules.specs.Picks.{yes, no}
use Rattle.layout.specs.Text.{text_at}
use Rattle.names.specs.Head.{head_of, other_head, head_count}
use Rattle.scope.specs.Names.{local_variable}
use Rattle.scope.proofs.Letters.{letters}
use Rattle.scope.proofs.local_variable.Goals as goal

pub returns-then-c-eq0 : goal.returns-then-c-eq0
unfolding local_variable
returns-then-c-eq0 c = (omega (arith, c.struct_known-1.given), yes _ _ _ _ (eq-eqb c.args.c.locals 0 c.if-c-eq0.true) refl)

pub returns-then-spells : goal.returns-then-spells
unfolding local_variable
returns-then-spells c =
    let string = text_at (bits c.args.b.now) c.args.p in
    let top : c.field-z.result / 2 ^ 32 ≡ field (bits c.args.b.now) 24 c.args.p = ap (λ (z : ℕ). z / 2 ^ 32) c.field-z.ensures ∙ field_first (bits c.args.b.now) (bits_binary c.args.b.now) 24 32 c.args.p in
    let name_is : (t : Bytes) (n k y : ℕ) → c.field-z.result / 2 ^ 32 ≡ head_of t → head_of t / 256 ≡ n → 16 + 8 * n + k ≡ 56 → y ≡ c.field-z.result / 2 ^ k → same (number_bytes n y) t ≡ same (string) t = λ t n k y e f d g. let b = c.args.b.now in
    let p = c.args.p in
    letters (bits b) (bits_binary b) p c.field-z.result y n k c.field-z.ensures d g (sym (head_count (bits b) p (bits_binary b)) ∙ ap (λ (x : ℕ). x / 256) (sym (top) ∙ e) ∙ f) t in
    let some-locals : eqb c.args.c.locals 0 ≡ false = ne_eqb c.args.c.locals 0 c.if-c-eq0.false in
    (omega (arith, c.struct_known-1.given), no _ _ _ _ (some-locals) (yes _ _ _ _ (sym (c.spells.ensures ∙ name_is (ascii "first") 5 0 c.field-z.result (c.if-x-head.true ∙ c.head.ensures) refl refl (omega arith)) ∙ c.if-spells.true) (ap Some c.flag.ensures)))

pub returns-then-spells-2 : goal.returns-then-spells-2
unfolding local_variable
returns-then-spells-2 c =
    let string = text_at (bits c.args.b.now) c.args.p in
    let top : c.field-z.result / 2 ^ 32 ≡ field (bits c.args.b.now) 24 c.args.p = ap (λ (z : ℕ). z / 2 ^ 32) c.field-z.ensures ∙ field_first (bits c.args.b.now) (bits_binary c.args.b.now) 24 32 c.args.p in
    let name_is : (t : Bytes) (n k y : ℕ) → c.field-z.result / 2 ^ 32 ≡ head_of t → head_of t / 256 ≡ n → 16 + 8 * n + k ≡ 56 → y ≡ c.field-z.result / 2 ^ k → same (number_bytes n y) t ≡ same (string) t = λ t n k y e f d g. let b = c.args.b.now in
    let p = c.args.p in
    letters (bits b) (bits_binary b) p c.field-z.result y n k c.field-z.ensures d g (sym (head_count (bits b) p (bits_binary b)) ∙ ap (λ (x : ℕ). x / 256) (sym (top) ∙ e) ∙ f) t in
    let some-locals : eqb c.args.c.locals 0 ≡ false = ne_eqb c.args.c.locals 0 c.if-c-eq0.false in
    let not_first : same (string) (ascii "first") ≡ false = elim c.else-x-head.branch [
      | else-x-head-via-then-x-head+else-spells w ↦ sym (w.spells.ensures ∙ name_is (ascii "first") 5 0 c.field-z.result (w.if-x-head.true ∙ c.head.ensures) refl refl (omega arith)) ∙ w.if-spells.false
      | else-x-head-via-else-x-head w ↦ other_head (bits c.args.b.now) c.args.p (ascii "first") (lit< tt) (λ e. w.if-x-head.false (top ∙ e ∙ sym c.head.ensures))
    ] in
    (omega (arith, c.struct_known-1.given), no _ _ _ _ (some-locals) (no _ _ _ _ (not_first) (yes _ _ _ _ (sym (c.spells-then-x-head-2.ensures ∙ name_is (ascii "last") 4 8 (c.field-z.result / 2 ^ 8) (c.if-x-head-2.true ∙ c.head-2.ensures) refl refl (omega arith)) ∙ c.if-spells-2.true) (ap Some c.flag-then-spells-2.ensures))))

pub returns-then-spells-3 : goal.returns-then-spells-3
unfolding local_variable
returns-then-spells-3 c =
    let string = text_at (bits c.args.b.now) c.args.p in
    let top : c.field-z.result / 2 ^ 32 ≡ field (bits c.args.b.now) 24 c.args.p = ap (λ (z : ℕ). z / 2 ^ 32) c.field-z.ensures ∙ field_first (bits c.args.b.now) (bits_binary c.args.b.now) 24 32 c.args.p in
    let name_is : (t : Bytes) (n k y : ℕ) → c.field-z.result / 2 ^ 32 ≡ head_of t → head_of t / 256 ≡ n → 16 + 8 * n + k ≡ 56 → y ≡ c.field-z.result / 2 ^ k → same (number_bytes n y) t ≡ same (string) t = λ t n k y e f d g. let b = c.args.b.now in
    let p = c.args.p in
    letters (bits b) (bits_binary b) p c.field-z.result y n k c.field-z.ensures d g (sym (head_count (bits b) p (bits_binary b)) ∙ ap (λ (x : ℕ). x / 256) (sym (top) ∙ e) ∙ f) t in
    let some-locals : eqb c.args.c.locals 0 ≡ false = ne_eqb c.args.c.locals 0 c.if-c-eq0.false in
    let not_first : same (string) (ascii "first") ≡ false = elim c.else-x-head.branch [
      | else-x-head-via-then-x-head+else-spells w ↦ sym (w.spells.ensures ∙ name_is (ascii "first") 5 0 c.field-z.result (w.if-x-head.true ∙ c.head.ensures) refl refl (omega arith)) ∙ w.if-spells.false
      | else-x-head-via-else-x-head w ↦ other_head (bits c.args.b.now) c.args.p (ascii "first") (lit< tt) (λ e. w.if-x-head.false (top ∙ e ∙ sym c.head.ensures))
    ] in
    let not_last : same (string) (ascii "last") ≡ false = elim c.else-x-head-2.branch [
      | else-x-head-2-via-then-x-head-2+else-spells-2 w ↦ sym (w.spells-then-x-head-2.ensures ∙ name_is (ascii "last") 4 8 (c.field-z.result / 2 ^ 8) (w.if-x-head-2.true ∙ c.head-2.ensures) refl refl (omega arith)) ∙ w.if-spells-2.false
      | else-x-head-2-via-else-x-head-2 w ↦ other_head (bits c.args.b.now) c.args.p (ascii "last") (lit< tt) (λ e. w.if-x-head-2.false (top ∙ e ∙ sym c.head-2.ensures))
    ] in
    (omega (arith, c.struct_known-1.given), no _ _ _ _ (some-locals) (no _ _ _ _ (not_first) (no _ _ _ _ (not_last) (yes _ _ _ _ (sym (c.spells-then-x-head-3.ensures ∙ name_is (ascii "index") 5 0 c.field-z.result (c.if-x-head-3.true ∙ c.head-3.ensures) refl refl (omega arith)) ∙ c.if-spells-3.true) refl))))

pub returns-then-spells-4 : goal.returns-then-spells-4
unfolding local_variable
returns-then-spells-4 c =
    let string = text_at (bits c.args.b.now) c.args.p in
    let top : c.field-z.result / 2 ^ 32 ≡ field (bits c.args.b.now) 24 c.args.p = ap (λ (z : ℕ). z / 2 ^ 32) c.field-z.ensures ∙ field_first (bits c.args.b.now) (bits_binary c.args.b.now) 24 32 c.args.p in
    let name_is : (t : Bytes) (n k y : ℕ) → c.field-z.result / 2 ^ 32 ≡ head_of t → head_of t / 256 ≡ n → 16 + 8 * n + k ≡ 56 → y ≡ c.field-z.result / 2 ^ k → same (number_bytes n y) t ≡ same (string) t = λ t n k y e f d g. let b = c.args.b.now in
    let p = c.args.p in
    letters (bits b) (bits_binary b) p c.field-z.result y n k c.field-z.ensures d g (sym (head_count (bits b) p (bits_binary b)) ∙ ap (λ (x : ℕ). x / 256) (sym (top) ∙ e) ∙ f) t in
    let some-locals : eqb c.args.c.locals 0 ≡ false = ne_eqb c.args.c.locals 0 c.if-c-eq0.false in
    let not_first : same (string) (ascii "first") ≡ false = elim c.else-x-head.branch [
      | else-x-head-via-then-x-head+else-spells w ↦ sym (w.spells.ensures ∙ name_is (ascii "first") 5 0 c.field-z.result (w.if-x-head.true ∙ c.head.ensures) refl refl (omega arith)) ∙ w.if-spells.false
      | else-x-head-via-else-x-head w ↦ other_head (bits c.args.b.now) c.args.p (ascii "first") (lit< tt) (λ e. w.if-x-head.false (top ∙ e ∙ sym c.head.ensures))
    ] in
    let not_last : same (string) (ascii "last") ≡ false = elim c.else-x-head-2.branch [
      | else-x-head-2-via-then-x-head-2+else-spells-2 w ↦ sym (w.spells-then-x-head-2.ensures ∙ name_is (ascii "last") 4 8 (c.field-z.result / 2 ^ 8) (w.if-x-head-2.true ∙ c.head-2.ensures) refl refl (omega arith)) ∙ w.if-spells-2.false
      | else-x-head-2-via-else-x-head-2 w ↦ other_head (bits c.args.b.now) c.args.p (ascii "last") (lit< tt) (λ e. w.if-x-head-2.false (top ∙ e ∙ sym c.head-2.ensures))
    ] in
    let not-index : same (string) (ascii "index") ≡ false = elim c.else-x-head-3.branch [
      | else-x-head-3-via-then-x-head-3+else-spells-3 w ↦ sym (w.spells-then-x-head-3.ensures ∙ name_is (ascii "index") 5 0 c.field-z.result (w.if-x-head-3.true ∙ c.head-3.ensures) refl refl (omega arith)) ∙ w.if-spells-3.false
      | else-x-head-3-via-else-x-head-3 w ↦ other_head (bits c.args.b.now) c.args.p (ascii "index") (lit< tt) (λ e. w.if-x-head-3.false (top ∙ e ∙ sym c.head-3.ensures))
    ] in
    (omega (arith, c.struct_known-1.given), no _ _ _ _ (some-locals) (no _ _ _ _ (not_first) (no _ _ _ _ (not_last) (no _ _ _ _ (not-index) (yes _ _ _ _ (sym (c.spells-then-x-head-4.ensures ∙ name_is (ascii "key") 3 16 (c.field-z.result / 2 ^ 16) (c.if-x-head-4.true ∙ c.head-4.ensures) refl refl (omega arith)) ∙ c.if-spells-4.true) c.local_key.ensures)))))

pub returns : goal.returns
unfolding local_variable
returns c =
    let string = text_at (bits c.args.b.now) c.args.p in
    let top : c.field-z.result / 2 ^ 32 ≡ field (bits c.args.b.now) 24 c.args.p = ap (λ (z : ℕ). z / 2 ^ 32) c.field-z.ensures ∙ field_first (bits c.args.b.now) (bits_binary c.args.b.now) 24 32 c.args.p in
    let name_is : (t : Bytes) (n k y : ℕ) → c.field-z.result / 2 ^ 32 ≡ head_of t → head_of t / 256 ≡ n → 16 + 8 * n + k ≡ 56 → y ≡ c.field-z.result / 2 ^ k → same (number_bytes n y) t ≡ same (string) t = λ t n k y e f d g. let b = c.args.b.now in
    let p = c.args.p in
    letters (bits b) (bits_binary b) p c.field-z.result y n k c.field-z.ensures d g (sym (head_count (bits b) p (bits_binary b)) ∙ ap (λ (x : ℕ). x / 256) (sym (top) ∙ e) ∙ f) t in
    let some-locals : eqb c.args.c.locals 0 ≡ false = ne_eqb c.args.c.locals 0 c.if-c-eq0.false in
    let not_first : same (string) (ascii "first") ≡ false = elim c.else-x-head.branch [
      | else-x-head-via-then-x-head+else-spells w ↦ sym (w.spells.ensures ∙ name_is (ascii "first") 5 0 c.field-z.result (w.if-x-head.true ∙ c.head.ensures) refl refl (omega arith)) ∙ w.if-spells.false
      | else-x-head-via-else-x-head w ↦ other_head (bits c.args.b.now) c.args.p (ascii "first") (lit< tt) (λ e. w.if-x-head.false (top ∙ e ∙ sym c.head.ensures))
    ] in
    let not_last : same (string) (ascii "last") ≡ false = elim c.else-x-head-2.branch [
      | else-x-head-2-via-then-x-head-2+else-spells-2 w ↦ sym (w.spells-then-x-head-2.ensures ∙ name_is (ascii "last") 4 8 (c.field-z.result / 2 ^ 8) (w.if-x-head-2.true ∙ c.head-2.ensures) refl refl (omega arith)) ∙ w.if-spells-2.false
      | else-x-head-2-via-else-x-head-2 w ↦ other_head (bits c.args.b.now) c.args.p (ascii "last") (lit< tt) (λ e. w.if-x-head-2.false (top ∙ e ∙ sym c.head-2.ensures))
    ] in
    let not-index : same (string) (ascii "index") ≡ false = elim c.else-x-head-3.branch [
      | else-x-head-3-via-then-x-head-3+else-spells-3 w ↦ sym (w.spells-then-x-head-3.ensures ∙ name_is (ascii "index") 5 0 c.field-z.result (w.if-x-head-3.true ∙ c.head-3.ensures) refl refl (omega arith)) ∙ w.if-spells-3.false
      | else-x-head-3-via-else-x-head-3 w ↦ other_head (bits c.args.b.now) c.args.p (ascii "index") (lit< tt) (λ e. w.if-x-head-3.false (top ∙ e ∙ sym c.head-3.ensures))
    ] in
    let not_key : same (string) (ascii "key") ≡ false = elim c.else-x-head-4.branch [
      | else-x-head-4-via-then-x-head-4+else-spells-4 w ↦ sym (w.spells-then-x-head-4.ensures ∙ name_is (ascii "key") 3 16 (c.field-z.result / 2 ^ 16) (w.if-x-head-4.true ∙ c.head-4.ensures) refl refl (omega arith)) ∙ w.if-spells-4.false
      | else-x-head-4-via-else-x-head-4 w ↦ other_head (bits c.args.b.now) c.args.p (ascii "key") (lit< tt) (λ e. w.if-x-head-4.false (top ∙ e ∙ sym c.head-4.ensures))
    ] in
    (omega (arith, c.struct_known-1.given), no _ _ _ _ (some-locals) (no _ _ _ _ (not_first) (no _ _ _ _ (not_last) (no _ _ _ _ (not-index) (no _ _ _ _ (not_key) refl)))))
