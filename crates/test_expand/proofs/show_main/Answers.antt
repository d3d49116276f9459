use Rattle.std.proofs.Common.{List, subst, sym, ◌∙◌}
use Rattle.scope.specs.declared.Scope.{Scope}
use Rattle.context.specs.Near.{NearScopes}
use Rattle.settings.specs.Settings.{begun_near}
use Rattle.registry.specs.Templates.{accepted_holds, FoundHolds, found_stands}
use Rattle.rules.specs.Bundle.{body}
use Rattle.rules.specs.Bits.{bits}
use Rattle.test_expand.proofs.show_main.Goals as goal

pub get_template-f-requires : goal.get_template-f-requires
get_template-f-requires g c =
    let a = accepted_holds c.args.b.now c.requires.1 in
    (a.small, a.templates)

pub show_body-requires : goal.show_body-requires
show_body-requires g c =
    let s = c.args.s.now in
    let b = c.args.b.now in
    let a = accepted_holds b c.requires.1 in (
      c.requires.0,
      a.small,
      c.requires.2,
      c.requires.3,
      subst (λ (l : List Scope). NearScopes s b _ l c.args.used) (sym c.begin.ensures) (begun_near s b _ c.args.used c.requires.3),
      (subst (FoundHolds (body 16 16) (bits b) _ _) (sym c.get_template-f.ensures ∙ c.in-Some.is) (found_stands 16 (bits b) a.templates _).parts).3,
    )
