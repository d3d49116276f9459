use Rattle.partials.specs.Finding.{FoundIs}
use Rattle.expand.specs.Answers.{name_of}
use Rattle.scope.specs.declared.Scope.{Scope}
use Rattle.scope.proofs.NamesLaws.{string_near}
use Rattle.scope.specs.Scopes.{blocks_of}
use Rattle.scope.specs.Standing.{ScopesStand}
use Rattle.state.specs.Context.{whole}
use Rattle.state.specs.Current.{gained_current}
use Rattle.state.specs.World.{world, top}
use Rattle.texts.specs.Peeking.{peeked}
use Rattle.registry.specs.Templates.{templates_at}
use Rattle.rules.specs.Registry.{get_template}
use Rattle.rules.specs.Partial.{get_partial}
use Rattle.rules.specs.Bits.{bits}
use Rattle.targets.specs.TargetLaws.{decided_self, decided_block, decided_inline, decided_template, decided_nothing}
use Rattle.targets.specs.Target.{by_peek, Decided}
use Rattle.meaning.specs.Means.{stands_known}
use mathlib.Core.List.{List}
use mathlib.Core.Path.{◌∙◌, ap, sym, subst}
use borrow.Author.Rules.{rules}
use Rattle.targets.proofs.expand_partial.Goals as goal

pub is_current_template-requires : goal.is_current_template-requires
is_current_template-requires c = let z = c in (z.requires.0.plan, z.requires.0.small, z.requires.2.ready.template, stands_known z.args.s.now z.args.b.now z.args.ent.now _ _ z.requires.5.1)

pub returns-then-is_current_template : goal.returns-then-is_current_template
returns-then-is_current_template c = let z = c in
    let a = z.args in
    let r = z.requires.2.ready in
    decided_self a.s.now a.b.now a.ent.now (whole a.rc a.scopes) a.d a.name a.own c.is_current_template.result c.is_current_template.ensures c.if-is_current_template.true

pub text_is-requires : goal.text_is-requires
text_is-requires c = let z = c in (z.requires.0.plan, z.requires.0.small, stands_known z.args.s.now z.args.b.now z.args.ent.now _ _ z.requires.5.1)

pub peek_partial_block-requires : goal.peek_partial_block-requires
peek_partial_block-requires c = (c.requires.2.ready.most, c.requires.6)

pub returns-then-text_is : goal.returns-then-text_is
returns-then-text_is c = let z = c in
    let a = z.args in
    let r = z.requires.2.ready in
    let same = gained_current a.scopes a.rc.used a.rc.count z.well_formed.1.1.1.1.1.0.1.0.1 r.most z.requires.1 in
    subst (Decided a.s.now a.b.now a.ent.now (whole a.rc a.scopes) a.d a.name a.own)
    (sym (c.block_target.ensures ∙ ap (by_peek a.own) (c.peek_partial_block.ensures ∙ ap (λ (k : List Scope). peeked k a.rc.used a.rc.writer.high) (sym same))))
    (decided_block a.s.now a.b.now a.ent.now (whole a.rc a.scopes) a.d a.name a.own c.is_current_template.result c.is_current_template.ensures c.if-is_current_template.false c.text_is.result c.text_is.ensures c.if-text_is.true z.requires.4)

pub find_partial-requires : goal.find_partial-requires
find_partial-requires c = let z = c in
    let a = z.args in
    let r = z.requires.2.ready in
    let same = gained_current a.scopes a.rc.used a.rc.count z.well_formed.1.1.1.1.1.0.1.0.1 r.most z.requires.1 in
    let w = world (whole a.rc a.scopes) z.requires.2.page z.requires.2.texts z.requires.2.indent a.ent.now in
    let g = z.requires.0 in (
      g.plan,
      g.small,
      g.bundle,
      g.listed,
      g.indexed,
      r.most,
      (top w, subst (λ (k : List Scope). ScopesStand a.s.now a.b.now a.ent.now k a.rc.used (top w)) same r.scopes),
      z.requires.5,
    )

pub overflow_add-result : goal.overflow_add-result
overflow_add-result c = let z = c in
    let a = z.args in
    let r = z.requires.2.ready in
    let nm = name_of a.s.now a.b.now a.ent.now a.name in
    let f = subst (FoundIs (bits a.b.now) nm (get_partial (blocks_of a.s.now a.b.now a.ent.now a.scopes a.rc.used) nm) (get_template (templates_at 16 (bits a.b.now)) nm)) c.in-Template.is c.find_partial.ensures in
    let near = string_near a.b.now c.in-Template.n z.requires.0.small f.name in
    search rules

pub returns-in-Inline : goal.returns-in-Inline
returns-in-Inline c = let z = c in
    let a = z.args in
    let r = z.requires.2.ready in
    let same = gained_current a.scopes a.rc.used a.rc.count z.well_formed.1.1.1.1.1.0.1.0.1 r.most z.requires.1 in
    let nm = name_of a.s.now a.b.now a.ent.now a.name in
    let found =
    subst (λ (k : List Scope). FoundIs (bits a.b.now) nm (get_partial (blocks_of a.s.now a.b.now a.ent.now k a.rc.used) nm) (get_template (templates_at 16 (bits a.b.now)) nm) c.find_partial.result)
    (sym same) c.find_partial.ensures in
    decided_inline a.s.now a.b.now a.ent.now (whole a.rc a.scopes) a.d a.name a.own c.is_current_template.result c.is_current_template.ensures c.if-is_current_template.false c.text_is.result c.text_is.ensures c.if-text_is.false c.find_partial.result found z.requires.4 z.requires.3 c.in-Inline.q c.in-Inline.e c.in-Inline.is

pub returns-in-Template : goal.returns-in-Template
returns-in-Template c = let z = c in
    let a = z.args in
    let r = z.requires.2.ready in
    let same = gained_current a.scopes a.rc.used a.rc.count z.well_formed.1.1.1.1.1.0.1.0.1 r.most z.requires.1 in
    let nm = name_of a.s.now a.b.now a.ent.now a.name in
    let found =
    subst (λ (k : List Scope). FoundIs (bits a.b.now) nm (get_partial (blocks_of a.s.now a.b.now a.ent.now k a.rc.used) nm) (get_template (templates_at 16 (bits a.b.now)) nm) c.find_partial.result)
    (sym same) c.find_partial.ensures in
    decided_template a.s.now a.b.now a.ent.now (whole a.rc a.scopes) a.d a.name a.own c.is_current_template.result c.is_current_template.ensures c.if-is_current_template.false c.text_is.result c.text_is.ensures c.if-text_is.false c.find_partial.result found z.requires.4 z.requires.3 c.in-Template.n c.in-Template.q c.in-Template.is

pub returns-in-Nothing : goal.returns-in-Nothing
returns-in-Nothing c = let z = c in
    let a = z.args in
    let r = z.requires.2.ready in
    let same = gained_current a.scopes a.rc.used a.rc.count z.well_formed.1.1.1.1.1.0.1.0.1 r.most z.requires.1 in
    let nm = name_of a.s.now a.b.now a.ent.now a.name in
    let found =
    subst (λ (k : List Scope). FoundIs (bits a.b.now) nm (get_partial (blocks_of a.s.now a.b.now a.ent.now k a.rc.used) nm) (get_template (templates_at 16 (bits a.b.now)) nm) c.find_partial.result)
    (sym same) c.find_partial.ensures in
    subst (Decided a.s.now a.b.now a.ent.now (whole a.rc a.scopes) a.d a.name a.own) (sym c.own_target.ensures)
    (decided_nothing a.s.now a.b.now a.ent.now (whole a.rc a.scopes) a.d a.name a.own c.is_current_template.result c.is_current_template.ensures c.if-is_current_template.false c.text_is.result c.text_is.ensures c.if-text_is.false c.find_partial.result found z.requires.4 z.requires.3 c.in-Nothing.is)
