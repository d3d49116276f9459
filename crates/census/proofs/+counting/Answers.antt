use native.Mathlib.Omega.{arith}
use mathlib.Core.Path.{ap, ◌∙◌}
use Rattle.census.proofs.Steps.{maybe_nothing, maybe_body, maybe_count, plain, helper_template, helper_inverse, helper, decorator_body, decorator, partial_body, partial, body_on, body_done}
use Rattle.template.specs.Bodies.{body_deep, body_begin, body_read, element_here, element_read, elements_again}
use Rattle.rules.specs.BundleLaws.{bits_size}
use Rattle.rules.specs.Bits.{bits}
use Rattle.census.specs.Count.{count_body}
use Prim.Native.Nat.{◌-◌}
use mathlib.Core.Path.{refl}
use Rattle.census.proofs.+counting.Goals as goal

pub count_body-body_at-v-requires : goal.count_body-body_at-v-requires
count_body-body_at-v-requires t c = let s = c in omega (arith, (body_read s.args.w s.args.d (bits s.args.b.now) s.args.p s.requires.2 _ refl).fits, bits_size s.args.b.now)

pub count_body-loop-init : goal.count_body-loop-init
count_body-loop-init t c = let s = c in let m = body_begin s.args.w s.args.d (bits s.args.b.now) s.args.p s.requires.2 _ c.body_at-v.ensures in (m.0, ap (λ t. count_body s.args.kind t s.args.n) m.1)

pub count_body-overflow_sub-d : goal.count_body-overflow_sub-d
count_body-overflow_sub-d t c = let s = c in omega (arith, body_deep s.args.w s.args.d (bits s.args.b.now) s.args.p s.requires.2)

pub count_body-element_at-e-requires : goal.count_body-element_at-e-requires
count_body-element_at-e-requires t c = let s = c in (s.requires.0, s.requires.1, element_here s.args.w (s.args.d - 1) (bits s.args.b.now) _ _ _ _ c.loop.invariant.0 (omega arith))

pub count_body-overflow_sub-d-in-loop : goal.count_body-overflow_sub-d-in-loop
count_body-overflow_sub-d-in-loop t c = let s = c in omega (arith, body_deep s.args.w s.args.d (bits s.args.b.now) s.args.p s.requires.2)

pub count_body-count_element-sum-requires : goal.count_body-count_element-sum-requires
count_body-count_element-sum-requires t c = let s = c in (omega (arith, body_deep s.args.w s.args.d (bits s.args.b.now) s.args.p s.requires.2), (s.requires.0, s.requires.1, (element_read s.args.w (s.args.d - 1) (bits s.args.b.now) _ (element_here s.args.w (s.args.d - 1) (bits s.args.b.now) _ _ _ _ c.loop.invariant.0 (omega arith)) _ c.element_at-e.ensures).parts))

pub count_body-loop-preserved : goal.count_body-loop-preserved
count_body-loop-preserved t c = let s = c in (elements_again s.args.w (s.args.d - 1) (bits s.args.b.now) _ _ _ _ c.loop.invariant.0 (omega arith) _ c.element_at-e.ensures, body_on s.args.w (s.args.d - 1) (bits s.args.b.now) s.args.kind _ _ _ _ c.loop.invariant.0 _ (omega arith) _ c.element_at-e.ensures _ c.count_element-sum.ensures ∙ c.loop.invariant.1)

pub count_body-returns : goal.count_body-returns
count_body-returns t c = let s = c in body_done s.args.w (s.args.d - 1) (bits s.args.b.now) s.args.kind _ _ _ _ c.loop.invariant.0 _ (omega arith) ∙ c.loop.invariant.1

pub count_element-count_maybe-m-requires : goal.count_element-count_maybe-m-requires
count_element-count_maybe-m-requires t c = let s = c in (omega arith, (s.requires.0, s.requires.1, helper_template s.args.w s.args.d (bits s.args.b.now) s.args.kind s.args.n s.args.e _ _ _ _ _ c.in-HelperBlock.is s.requires.2))

pub count_element-count_maybe-requires : goal.count_element-count_maybe-requires
count_element-count_maybe-requires t c = let s = c in (omega arith, (s.requires.0, s.requires.1, helper_inverse s.args.w s.args.d (bits s.args.b.now) s.args.kind s.args.n s.args.e _ _ _ _ _ c.in-HelperBlock.is s.requires.2))

pub count_element-count_body-requires : goal.count_element-count_body-requires
count_element-count_body-requires t c = let s = c in (omega arith, (s.requires.0, s.requires.1, decorator_body s.args.w s.args.d (bits s.args.b.now) s.args.kind s.args.n s.args.e _ _ _ _ c.in-DecoratorBlock.is s.requires.2))

pub count_element-count_body-requires-in-PartialBlock : goal.count_element-count_body-requires-in-PartialBlock
count_element-count_body-requires-in-PartialBlock t c = let s = c in (omega arith, (s.requires.0, s.requires.1, partial_body s.args.w s.args.d (bits s.args.b.now) s.args.kind s.args.n s.args.e _ _ _ _ c.in-PartialBlock.is s.requires.2))

pub count_element-returns-in-RawString : goal.count_element-returns-in-RawString
count_element-returns-in-RawString t c = let s = c in plain s.args.w s.args.d (bits s.args.b.now) s.args.kind s.args.n s.args.e _ c.in-RawString.is _ c.bump.ensures

pub count_element-returns-in-HtmlExpression : goal.count_element-returns-in-HtmlExpression
count_element-returns-in-HtmlExpression t c = let s = c in plain s.args.w s.args.d (bits s.args.b.now) s.args.kind s.args.n s.args.e _ c.in-HtmlExpression.is _ c.bump-in-HtmlExpression.ensures

pub count_element-returns-in-Expression : goal.count_element-returns-in-Expression
count_element-returns-in-Expression t c = let s = c in plain s.args.w s.args.d (bits s.args.b.now) s.args.kind s.args.n s.args.e _ c.in-Expression.is _ c.bump-in-Expression.ensures

pub count_element-returns-in-HelperBlock : goal.count_element-returns-in-HelperBlock
count_element-returns-in-HelperBlock t c = let s = c in helper s.args.w s.args.d (bits s.args.b.now) s.args.kind s.args.n s.args.e _ _ _ _ _ c.in-HelperBlock.is _ c.bump-in-HelperBlock.ensures _ c.count_maybe-m.ensures _ c.count_maybe.ensures

pub count_element-returns-in-DecoratorExpression : goal.count_element-returns-in-DecoratorExpression
count_element-returns-in-DecoratorExpression t c = let s = c in plain s.args.w s.args.d (bits s.args.b.now) s.args.kind s.args.n s.args.e _ c.in-DecoratorExpression.is _ c.bump-in-DecoratorExpression.ensures

pub count_element-returns-in-DecoratorBlock : goal.count_element-returns-in-DecoratorBlock
count_element-returns-in-DecoratorBlock t c = let s = c in decorator s.args.w s.args.d (bits s.args.b.now) s.args.kind s.args.n s.args.e _ _ _ _ c.in-DecoratorBlock.is _ c.bump-in-DecoratorBlock.ensures _ c.count_body.ensures

pub count_element-returns-in-PartialExpression : goal.count_element-returns-in-PartialExpression
count_element-returns-in-PartialExpression t c = let s = c in plain s.args.w s.args.d (bits s.args.b.now) s.args.kind s.args.n s.args.e _ c.in-PartialExpression.is _ c.bump-in-PartialExpression.ensures

pub count_element-returns-in-PartialBlock : goal.count_element-returns-in-PartialBlock
count_element-returns-in-PartialBlock t c = let s = c in partial s.args.w s.args.d (bits s.args.b.now) s.args.kind s.args.n s.args.e _ _ _ _ c.in-PartialBlock.is _ c.bump-in-PartialBlock.ensures _ c.count_body-in-PartialBlock.ensures

pub count_element-returns-in-Comment : goal.count_element-returns-in-Comment
count_element-returns-in-Comment t c = let s = c in plain s.args.w s.args.d (bits s.args.b.now) s.args.kind s.args.n s.args.e _ c.in-Comment.is _ c.bump-in-Comment.ensures

pub count_maybe-returns-in_default : goal.count_maybe-returns-in_default
count_maybe-returns-in_default t c = let s = c in maybe_nothing s.args.w s.args.d (bits s.args.b.now) s.args.kind s.args.n s.args.m c.in_default.is

pub count_maybe-count_body-requires : goal.count_maybe-count_body-requires
count_maybe-count_body-requires t c = let s = c in (omega arith, (s.requires.0, s.requires.1, maybe_body s.args.w s.args.d (bits s.args.b.now) s.args.kind s.args.n s.args.m _ c.in-Some.is s.requires.2))

pub count_maybe-returns : goal.count_maybe-returns
count_maybe-returns t c = let s = c in maybe_count s.args.w s.args.d (bits s.args.b.now) s.args.kind s.args.n s.args.m _ c.in-Some.is _ c.count_body.ensures
