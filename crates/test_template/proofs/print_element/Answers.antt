use Rattle.std.proofs.Common.{subst}
use Rattle.template.specs.Views.{ElementHolds}
use Rattle.rules.specs.Bits.{bits}
use Rattle.test_template.proofs.print_element.Goals as goal

pub print_text-requires : goal.print_text-requires
print_text-requires g c = (c.requires.0, subst (ElementHolds 16 c.args.d (bits c.args.b.now)) c.in-RawString.is c.requires.1)

pub print_kind-requires : goal.print_kind-requires
print_kind-requires g c = (c.requires.0, subst (ElementHolds 16 c.args.d (bits c.args.b.now)) c.in-HtmlExpression.is c.requires.1)

pub print_kind-requires-in-Expression : goal.print_kind-requires-in-Expression
print_kind-requires-in-Expression g c = (c.requires.0, subst (ElementHolds 16 c.args.d (bits c.args.b.now)) c.in-Expression.is c.requires.1)

pub print_kind-requires-in-HelperBlock : goal.print_kind-requires-in-HelperBlock
print_kind-requires-in-HelperBlock g c = (c.requires.0, (subst (ElementHolds 16 c.args.d (bits c.args.b.now)) c.in-HelperBlock.is c.requires.1).0)

pub print_kind-requires-in-DecoratorExpression : goal.print_kind-requires-in-DecoratorExpression
print_kind-requires-in-DecoratorExpression g c = (c.requires.0, (subst (ElementHolds 16 c.args.d (bits c.args.b.now)) c.in-DecoratorExpression.is c.requires.1).0)

pub print_kind-requires-in-DecoratorBlock : goal.print_kind-requires-in-DecoratorBlock
print_kind-requires-in-DecoratorBlock g c = (c.requires.0, (subst (ElementHolds 16 c.args.d (bits c.args.b.now)) c.in-DecoratorBlock.is c.requires.1).0)

pub print_kind-requires-in-PartialExpression : goal.print_kind-requires-in-PartialExpression
print_kind-requires-in-PartialExpression g c = (c.requires.0, (subst (ElementHolds 16 c.args.d (bits c.args.b.now)) c.in-PartialExpression.is c.requires.1).0)

pub print_kind-requires-in-PartialBlock : goal.print_kind-requires-in-PartialBlock
print_kind-requires-in-PartialBlock g c = (c.requires.0, (subst (ElementHolds 16 c.args.d (bits c.args.b.now)) c.in-PartialBlock.is c.requires.1).0)

pub print_text-requires-in-Comment : goal.print_text-requires-in-Comment
print_text-requires-in-Comment g c = (c.requires.0, subst (ElementHolds 16 c.args.d (bits c.args.b.now)) c.in-Comment.is c.requires.1)
