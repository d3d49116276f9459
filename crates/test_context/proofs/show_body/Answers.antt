use Rattle.std.proofs.Common.{arith, refl, ◌-◌}
use Rattle.template.specs.Bodies.{body_deep, body_begin, body_read, element_here, element_read, elements_again}
use Rattle.rules.specs.BundleLaws.{bits_size}
use Rattle.rules.specs.Bits.{bits}
use Rattle.test_context.proofs.show_body.Goals as goal

pub body_at-v-requires : goal.body_at-v-requires
body_at-v-requires g c = omega (arith, c.requires.1, (body_read 16 c.args.d (bits c.args.b.now) c.args.p c.requires.5 _ refl).fits, bits_size c.args.b.now)

pub loop-init : goal.loop-init
loop-init g c = (body_begin 16 c.args.d (bits c.args.b.now) c.args.p c.requires.5 _ c.body_at-v.ensures).0

pub overflow_sub-d : goal.overflow_sub-d
overflow_sub-d g c = omega (arith, body_deep 16 c.args.d (bits c.args.b.now) c.args.p c.requires.5)

pub element_at-e-requires : goal.element_at-e-requires
element_at-e-requires g c = (c.requires.1, omega arith, element_here 16 (c.args.d - 1) (bits c.args.b.now) _ _ _ _ c.loop.invariant (omega arith))

pub overflow_sub-d-in-loop : goal.overflow_sub-d-in-loop
overflow_sub-d-in-loop g c = omega (arith, body_deep 16 c.args.d (bits c.args.b.now) c.args.p c.requires.5)

pub show_element-requires : goal.show_element-requires
show_element-requires g c = (c.requires.0, c.requires.1, c.requires.2, c.requires.3, c.requires.4, (element_read 16 (c.args.d - 1) (bits c.args.b.now) _ (element_here 16 (c.args.d - 1) (bits c.args.b.now) _ _ _ _ c.loop.invariant (omega arith)) _ c.element_at-e.ensures).parts)

pub loop-preserved : goal.loop-preserved
loop-preserved g c = elements_again 16 (c.args.d - 1) (bits c.args.b.now) _ _ _ _ c.loop.invariant (omega arith) _ c.element_at-e.ensures
