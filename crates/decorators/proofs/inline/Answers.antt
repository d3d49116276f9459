use Rattle.decorators.proofs.Inlining.{no_params, not_string, bare, again, new, full}
use Rattle.decorators.specs.Inlined.{LocalIs}
use Rattle.expand.specs.Answers.{name_of}
use Rattle.meaning.specs.Means.{stands_known}
use mathlib.Core.Path.{sym, ◌∙◌, subst}
use borrow.Author.Tests.{not-true, not-false}
use borrow.Author.Rules.{rules}
use Rattle.decorators.proofs.inline.Goals as goal

pub returns-then-w-eq0 : goal.returns-then-w-eq0
returns-then-w-eq0 c = let a = c.args in
    λ g st t e T I. no_params a.s.now a.b.now a.ent.now a.c a.total a.w _ g st t e T I c.if-w-eq0.true

pub is_string-requires : goal.is_string-requires
is_string-requires c = let z = c in (z.requires.0, z.requires.1, stands_known z.args.s.now z.args.b.now z.args.ent.now _ _ z.requires.4.first)

pub returns-then-not-is_string : goal.returns-then-not-is_string
returns-then-not-is_string c = let a = c.args in
    λ g st t e T I. not_string a.s.now a.b.now a.ent.now a.c a.total a.w _ g st t e T I c.if-w-eq0.false
    (sym (c.if-not-is_string.true) ∙ c.is_string.ensures.at a.ent.now t I.expanded.params.first)

pub returns-then-not-has_body : goal.returns-then-not-has_body
returns-then-not-has_body c = let a = c.args in
    λ g st t e T I. bare a.s.now a.b.now a.ent.now a.c a.total a.w _ g st t e T I c.if-w-eq0.false
    (sym (c.if-not-is_string.false) ∙ c.is_string.ensures.at a.ent.now t I.expanded.params.first) (c.if-not-has_body.true)

pub get_local_partial-found-requires : goal.get_local_partial-found-requires
get_local_partial-found-requires c = let z = c in
    (z.requires.0, z.requires.1, stands_known z.args.s.now z.args.b.now z.args.ent.now _ _ z.requires.4.first, z.requires.3, z.requires.2.inlines)

pub returns-in-Some : goal.returns-in-Some
returns-in-Some c = let z = c in
    let a = z.args in
    λ g st t e T I. again a.s.now a.b.now a.ent.now a.c a.total a.w _ g st t e T I c.if-w-eq0.false
    (sym (c.if-not-is_string.false) ∙ c.is_string.ensures.at a.ent.now t I.expanded.params.first) _ z.requires.2
    (subst (LocalIs a.s.now a.b.now a.ent.now a.c.inline a.c.count (name_of a.s.now a.b.now a.ent.now a.w.first)) c.in-Some.is
    (c.get_local_partial-found.ensures t I.expanded.params.first))

pub returns-then-total-lt4096 : goal.returns-then-total-lt4096
returns-then-total-lt4096 c = let a = c.args in
    λ g st t e T I. new a.s.now a.b.now a.ent.now a.c a.total a.w _ g st t e T I c.if-w-eq0.false
    (sym (c.if-not-is_string.false) ∙ c.is_string.ensures.at a.ent.now t I.expanded.params.first)
    (subst (LocalIs a.s.now a.b.now a.ent.now a.c.inline a.c.count (name_of a.s.now a.b.now a.ent.now a.w.first)) c.in_default.is
    (c.get_local_partial-found.ensures t I.expanded.params.first)) c.if-total-lt4096.true

pub returns : goal.returns
returns c = let a = c.args in
    λ g st t e T I. full a.s.now a.b.now a.ent.now a.c a.total a.w _ g st t e T I c.if-w-eq0.false
    (sym (c.if-not-is_string.false) ∙ c.is_string.ensures.at a.ent.now t I.expanded.params.first) (c.if-not-has_body.false)
    (subst (LocalIs a.s.now a.b.now a.ent.now a.c.inline a.c.count (name_of a.s.now a.b.now a.ent.now a.w.first)) c.in_default.is
    (c.get_local_partial-found.ensures t I.expanded.params.first)) c.if-total-lt4096.false
