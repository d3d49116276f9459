use Prim.Native.Nat.{◌+◌, ℕ}
use Rattle.strings.proofs.Ends.{Going, going_broken, going_end, going_on, going_run, going_start}
use Rattle.strings.proofs.Lengths.{char_in, char_most}
use mathlib.Core.Path.{◌∙◌, subst, sym}
use native.Mathlib.Omega.{arith}
use Rattle.strings.proofs.chars_end.Goals as goal

pub loop-i-init : goal.loop-i-init
loop-i-init c = going_start c.args.s.now c.args.i c.requires.0

pub returns-then-byte-eq34 : goal.returns-then-byte-eq34
returns-then-byte-eq34 c = let g = going_run c.args.s.now c.args.i c.loop-i.j c.plain_end-k.result c.loop-i.invariant c.plain_end-k.ensures in
    going_end c.args.s.now c.args.i c.plain_end-k.result g (sym c.byte.ensures ∙ c.if-byte-eq34.true)

pub char_length-n-requires : goal.char_length-n-requires
char_length-n-requires c = let g = going_run c.args.s.now c.args.i c.loop-i.j c.plain_end-k.result c.loop-i.invariant c.plain_end-k.ensures in
    omega (arith, g.near)

pub returns-then-n-eq0 : goal.returns-then-n-eq0
returns-then-n-eq0 c = let g = going_run c.args.s.now c.args.i c.loop-i.j c.plain_end-k.result c.loop-i.invariant c.plain_end-k.ensures in
    going_broken c.args.s.now c.args.i c.plain_end-k.result g (λ q. c.if-byte-eq34.false (c.byte.ensures ∙ q)) (sym c.char_length-n.ensures ∙ c.if-n-eq0.true)

pub overflow_add-j : goal.overflow_add-j
overflow_add-j c = let g = going_run c.args.s.now c.args.i c.loop-i.j c.plain_end-k.result c.loop-i.invariant c.plain_end-k.ensures in
    omega (arith, g.near, c.char_length-n.ensures, char_most c.args.s.now c.plain_end-k.result)

pub loop-i-smaller : goal.loop-i-smaller
loop-i-smaller c = let l = char_in c.args.s.now c.plain_end-k.result (λ z. c.if-n-eq0.false (c.char_length-n.ensures ∙ z)) in
    omega (arith, c.plain_end-k.ensures, c.if-n-eq0.false)

pub loop-i-preserved : goal.loop-i-preserved
loop-i-preserved c = let g = going_run c.args.s.now c.args.i c.loop-i.j c.plain_end-k.result c.loop-i.invariant c.plain_end-k.ensures in
    let o = going_on c.args.s.now c.args.i c.plain_end-k.result g (λ q. c.if-byte-eq34.false (c.byte.ensures ∙ q)) (λ z. c.if-n-eq0.false (c.char_length-n.ensures ∙ z)) in
    subst (λ (n : ℕ). Going c.args.s.now c.args.i (c.plain_end-k.result + n)) (sym c.char_length-n.ensures) o
