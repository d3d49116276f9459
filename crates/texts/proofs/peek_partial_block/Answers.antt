use Prim.Native.Nat.{ℕ, ◌+◌, ◌-◌, ◌≤◌, ◌<◌}
use lib.ListN.{get_or}
use Rattle.scope.specs.declared.Scope.{Scope}
use mathlib.Core.Path.{◌≡◌, sym, ap, ◌∙◌}
use native.Mathlib.Omega.{arith}
use Rattle.scope.proofs.NamesLaws.{in_stack}
use Rattle.scope.specs.Scopes.{blank}
use Rattle.state.specs.World.{sizes_of}
use Rattle.texts.specs.Peeking.{peeked}
use Rattle.texts.proofs.Downward.{sizes_down, peeked_down, peek_nothing, peek_text, peek_on_zero}
use borrow.Author.Rules.{rules}
use Rattle.texts.proofs.peek_partial_block.Goals as goal

pub offset_bounds-scopes-i : goal.offset_bounds-scopes-i
offset_bounds-scopes-i c = omega (arith, c.requires.0)

pub bounds-scopes-i : goal.bounds-scopes-i
bounds-scopes-i c = omega (arith, c.requires.0, c.loop-i-test.true)

pub returns-then-c-eq-NO_TEXT : goal.returns-then-c-eq-NO_TEXT
returns-then-c-eq-NO_TEXT c = let z = c in
    let l = z.args.scopes in
    let q = c.loop-i in
    let pos : 0 < q.i = c.loop-i-test.true in
    let here = in_stack l (q.i - 1) z.well_formed.0.1.0.1 (omega (arith, z.requires.0)) in
    let x : Scope = get_or l (q.i - 1) (record { base = 0; names = 0; key = 0; index = 0; inline = 0; count = 0; text = 0; kind = 0; locals = 0; block = 0 }) in
    peek_nothing x.block q.from x.text (peeked l (q.i - 1) (q.from + x.text)) c.if-c-eq-NO_TEXT.true ∙ sym (peeked_down l q.i x pos here q.from) ∙ q.invariant.1

pub returns-then-c-ne0 : goal.returns-then-c-ne0
returns-then-c-ne0 c = let z = c in
    let l = z.args.scopes in
    let q = c.loop-i in
    let pos : 0 < q.i = c.loop-i-test.true in
    let here = in_stack l (q.i - 1) z.well_formed.0.1.0.1 (omega (arith, z.requires.0)) in
    let x : Scope = get_or l (q.i - 1) (record { base = 0; names = 0; key = 0; index = 0; inline = 0; count = 0; text = 0; kind = 0; locals = 0; block = 0 }) in
    peek_text x.block q.from x.text (peeked l (q.i - 1) (q.from + x.text)) c.if-c-eq-NO_TEXT.false c.if-c-ne0.true ∙ sym (peeked_down l q.i x pos here q.from) ∙ q.invariant.1

pub overflow_add-from : goal.overflow_add-from
overflow_add-from c = let z = c in
    let l = z.args.scopes in
    let q = c.loop-i in
    let pos : 0 < q.i = c.loop-i-test.true in
    let here = in_stack l (q.i - 1) z.well_formed.0.1.0.1 (omega (arith, z.requires.0)) in
    let x : Scope = get_or l (q.i - 1) (record { base = 0; names = 0; key = 0; index = 0; inline = 0; count = 0; text = 0; kind = 0; locals = 0; block = 0 }) in
    let sum = q.invariant.0 in
    let d = sizes_down l q.i x pos here in
    omega (arith, sum, d, z.requires.1)

pub loop-i-preserved : goal.loop-i-preserved
loop-i-preserved c = let z = c in
    let l = z.args.scopes in
    let q = c.loop-i in
    let pos : 0 < q.i = c.loop-i-test.true in
    let here = in_stack l (q.i - 1) z.well_formed.0.1.0.1 (omega (arith, z.requires.0)) in
    let x : Scope = get_or l (q.i - 1) (record { base = 0; names = 0; key = 0; index = 0; inline = 0; count = 0; text = 0; kind = 0; locals = 0; block = 0 }) in
    let sum = q.invariant.0 in
    let d = sizes_down l q.i x pos here in
    (omega (arith, sum, d), peek_on_zero x.block q.from x.text (peeked l (q.i - 1) (q.from + x.text)) c.if-c-ne0.false ∙ sym (peeked_down l q.i x pos here q.from) ∙ q.invariant.1)

pub returns : goal.returns
returns c = let l = c.args.scopes in
    let q = c.loop-i in
    let e : q.i ≡ 0 = omega arith in
    ap (λ (k : ℕ). peeked l k q.from) (sym e) ∙ q.invariant.1
