use Prim.Native.Nat.{◌+◌, ◌≤◌, ℕ}
use Rattle.rules.specs.Bytes.{byte_at}
use Rattle.rules.specs.Scan.{step_length}
use Rattle.saying.proofs.Remaining.{inside_behind, inside_start, left_behind, left_end, left_plain_at, left_quote, left_within, step_control, step_escape}
use Rattle.saying.specs.Said.{Inside, remaining}
use Rattle.scan.proofs.Bounds.{in_text}
use Rattle.strings.proofs.Lengths.{escape_most}
use borrow.Author.Rules.{rules}
use mathlib.Core.List.{◌∷◌}
use mathlib.Core.Path.{◌∙◌, ap, subst, sym}
use native.Mathlib.Omega.{arith}
use Rattle.saying.proofs.next_byte.Goals as goal

pub returns-then-c-eq34 : goal.returns-then-c-eq34
returns-then-c-eq34 c = left_quote c.args.s.now c.args.at c.args.k (sym c.byte-c.ensures ∙ c.if-c-eq34.true)

pub returns-then-c-lt32 : goal.returns-then-c-lt32
returns-then-c-lt32 c = left_end c.args.s.now c.args.at c.args.k (step_control c.args.s.now c.args.at (omega (arith, c.byte-c.ensures, c.if-c-lt32.true)))

pub returns-then-c-ne92 : goal.returns-then-c-ne92
returns-then-c-ne92 c = let a = c.args in
    let h : 32 ≤ byte_at a.s.now a.at = omega (arith, c.byte-c.ensures, c.if-c-lt32.false) in
    let l = in_text a.s.now a.at (λ z. omega arith) in
    let e = left_plain_at a.s.now a.at h (λ q. c.if-c-eq34.false (c.byte-c.ensures ∙ q)) (λ q. c.if-c-ne92.true (c.byte-c.ensures ∙ q)) a.k c.requires.1.here in
    (e ∙ ap (λ (b : ℕ). b ∷ remaining a.s.now (a.at + 1) 0) (sym c.byte-c.ensures), inside_start a.s.now (a.at + 1) (omega (arith, c.requires.0)))

pub returns-then-n-eq0 : goal.returns-then-n-eq0
returns-then-n-eq0 c = let e = step_escape c.args.s.now c.args.at (sym c.byte-c.ensures ∙ c.if-c-ne92.false) in
    left_end c.args.s.now c.args.at c.args.k (e ∙ sym c.escape_length-n.ensures ∙ c.if-n-eq0.true)

pub overflow_add-k : goal.overflow_add-k
overflow_add-k c = omega (arith, c.said_count-m.ensures, c.requires.1.here, c.said_count-m.type_inv)

pub returns-then-k-m : goal.returns-then-k-m
returns-then-k-m c = let a = c.args in
    let e = step_escape a.s.now a.at (sym c.byte-c.ensures ∙ c.if-c-ne92.false) ∙ sym c.escape_length-n.ensures in
    let w = left_within a.s.now a.at (λ q. c.if-c-eq34.false (c.byte-c.ensures ∙ q)) (λ z. c.if-n-eq0.false (sym e ∙ z)) a.k c.requires.1.here in (
      w ∙ ap (λ (b : ℕ). b ∷ remaining a.s.now a.at (a.k + 1)) (sym c.said_byte-b.ensures),
      record { here = omega (arith, c.said_count-m.ensures, c.if-k-m.true); near = c.requires.1.near },
    )

pub overflow_add-result-2 : goal.overflow_add-result-2
overflow_add-result-2 c = omega (arith, c.escape_length-n.ensures, (escape_most c.args.s.now c.args.at).most, c.requires.1.near)

pub returns : goal.returns
returns c = let a = c.args in
    let e = step_escape a.s.now a.at (sym c.byte-c.ensures ∙ c.if-c-ne92.false) ∙ sym c.escape_length-n.ensures in
    let w = left_behind a.s.now a.at (λ q. c.if-c-eq34.false (c.byte-c.ensures ∙ q)) (λ z. c.if-n-eq0.false (sym e ∙ z)) a.k c.requires.1.here
    (omega (arith, c.said_count-m.ensures, c.if-k-m.false)) in (
      w ∙ ap (λ (b : ℕ). b ∷ remaining a.s.now (a.at + step_length a.s.now a.at) 0) (sym c.said_byte-b.ensures)
          ∙ ap (λ (n : ℕ). c.said_byte-b.result ∷ remaining a.s.now (a.at + n) 0) e,
      subst (λ (n : ℕ). Inside a.s.now (a.at + n) 0) e (inside_behind a.s.now a.at (λ z. c.if-n-eq0.false (sym e ∙ z)) c.requires.0),
    )
