use Rattle.std.proofs.Common.{sym, ◌∙◌, subst}
use Rattle.layout.specs.Verdict.{accepts}
use Rattle.registry.specs.Templates.{accepted_holds, FoundHolds, found_stands}
use Rattle.rules.specs.Bundle.{body}
use Rattle.rules.specs.Bits.{bits}
use Rattle.test_template.proofs.print_main.Goals as goal

pub get_template-f-requires : goal.get_template-f-requires
get_template-f-requires g c =
    let a = accepted_holds c.args.b.now (accepts _ _ c.check_bundle.ensures c.in-Ok.is) in
    (a.small, a.templates)

pub print_body-requires : goal.print_body-requires
print_body-requires g c =
    let a = accepted_holds c.args.b.now (accepts _ _ c.check_bundle.ensures c.in-Ok.is) in
    (a.small, (subst (FoundHolds (body 16 16) (bits c.args.b.now) _ _) (sym c.get_template-f.ensures ∙ c.in-Some.is) (found_stands 16 (bits c.args.b.now) a.templates _).parts).3)
