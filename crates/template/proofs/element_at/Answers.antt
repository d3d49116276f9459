use native.Mathlib.Omega.{arith}
use Rattle.template.proofs.Places.{element_made}
use Rattle.template.specs.Bodies.{placed_fits, placed_holds}
use Rattle.rules.specs.BundleLaws.{bits_size}
use Rattle.rules.specs.Bundle.{param, call_of, body}
use Rattle.rules.specs.Bits.{bits}
use Rattle.template.proofs.element_at.Goals as goal

pub overflow_add-p : goal.overflow_add-p
overflow_add-p c = let s = c in omega (arith, placed_fits s.args.w (call_of (param s.args.d)) (body s.args.w s.args.d) (bits s.args.b.now) s.args.p s.requires.2, bits_size s.args.b.now)

pub overflow_add-p-2 : goal.overflow_add-p-2
overflow_add-p-2 c = let s = c in omega (arith, placed_fits s.args.w (call_of (param s.args.d)) (body s.args.w s.args.d) (bits s.args.b.now) s.args.p s.requires.2, bits_size s.args.b.now)

pub content_at-c-requires : goal.content_at-c-requires
content_at-c-requires c = let s = c in (s.requires.0, placed_holds s.args.w (call_of (param s.args.d)) (body s.args.w s.args.d) (bits s.args.b.now) s.args.p s.requires.2)

pub overflow_add-p-3 : goal.overflow_add-p-3
overflow_add-p-3 c = let s = c in omega (arith, placed_fits s.args.w (call_of (param s.args.d)) (body s.args.w s.args.d) (bits s.args.b.now) s.args.p s.requires.2, bits_size s.args.b.now)

pub returns : goal.returns
returns c = let s = c in element_made s.args.w s.args.d (bits s.args.b.now) s.args.p _ c.content_at-c.ensures _ _ c.field.ensures c.field-2.ensures
