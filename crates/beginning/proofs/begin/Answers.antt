use Prim.Native.Nat.{◌<◌, ◌^◌}
use mathlib.Core.Path.{ap, ◌∙◌}
use native.Mathlib.Omega.{arith}
use lib.ListN.{length}
use borrow.Author.Rules.{rules}
use borrow.Author.Tests.{not-true, not-false}
use Rattle.rules.specs.Bits.{bits}
use Rattle.inlining.specs.Rule.{own_stands}
use Rattle.error.specs.Reasons.{refused}
use Rattle.state.specs.Context.{whole}
use Rattle.state.specs.Setters.{marked}
use Rattle.beginning.specs.Begins.{begin_near, begin_newest, head_stop, begin_few, begin_pairs, hash_stop, long_stop, begin_target, target_bad, target_text_fits, target_text, target_fallback, begin_enter, target_body}
use Rattle.beginning.proofs.begin.Goals as goal

pub name_and_params-w-requires : goal.name_and_params-w-requires
name_and_params-w-requires c = let z = c in
    let a = z.args in
    (z.requires.0.plan, z.requires.0.small, z.requires.2.one, z.requires.2.most, begin_near a.s.now a.tab.now a.b.now a.index.now a.options a.scopes a.rc a.front a.page.now a.texts.now a.indent.now a.ent.now a.d a.p a.own a.at a.before z.requires, z.requires.4)

pub returns-in-Some : goal.returns-in-Some
returns-in-Some c = let z = c in
    let a = z.args in
    let names = c.name_and_params-w in
    let fail = c.failed in
    head_stop a.s.now a.tab.now a.b.now a.index.now a.options a.scopes a.rc a.front a.page.now a.texts.now a.indent.now a.ent.now a.d a.p a.own a.at a.before z.requires names.result names.ensures.template c.in-Some.e c.in-Some.is fail.result fail.ensures c.done.result c.done.ensures

pub call_at-call-requires : goal.call_at-call-requires
call_at-call-requires c = let z = c in
    let a = z.args in
    (z.requires.0.small, z.requires.4)

pub hash_all-hashed-requires : goal.hash_all-hashed-requires
hash_all-hashed-requires c = let z = c in
    let a = z.args in
    let names = c.name_and_params-w in
    let call = c.call_at-call in
    let few = begin_few a.s.now a.tab.now a.b.now a.index.now a.options a.scopes a.rc a.front a.page.now a.texts.now a.indent.now a.ent.now a.d a.p a.own a.at a.before z.requires names.result names.ensures.template c.in_default.is call.result call.ensures in
    (z.requires.0.plan, z.requires.0.small, z.requires.2.one, z.requires.2.most, begin_near a.s.now a.tab.now a.b.now a.index.now a.options a.scopes a.rc a.front a.page.now a.texts.now a.indent.now a.ent.now a.d a.p a.own a.at a.before z.requires, begin_newest a.s.now a.tab.now a.b.now a.index.now a.options a.scopes a.rc a.front a.page.now a.texts.now a.indent.now a.ent.now a.d a.p a.own a.at a.before z.requires, few, begin_pairs a.s.now a.tab.now a.b.now a.index.now a.options a.scopes a.rc a.front a.page.now a.texts.now a.indent.now a.ent.now a.d a.p a.own a.at a.before z.requires names.result names.ensures.template c.in_default.is call.result call.ensures, omega (arith, few))

pub returns-in-Err : goal.returns-in-Err
returns-in-Err c = let z = c in
    let a = z.args in
    let names = c.name_and_params-w in
    let call = c.call_at-call in
    let hash = c.hash_all-hashed in
    let fail = c.failed-in-Err in
    hash_stop a.s.now a.tab.now a.b.now a.index.now a.options a.scopes a.rc a.front a.page.now a.texts.now a.indent.now a.ent.now a.d a.p a.own a.at a.before z.requires names.result names.ensures.template c.in_default.is call.result call.ensures hash.new.values (refused hash.result) hash.ensures.0 c.in-Err.reason (ap refused c.in-Err.is) fail.result fail.ensures c.done-in-Err.result c.done-in-Err.ensures

pub indent_fits-requires : goal.indent_fits-requires
indent_fits-requires c = let z = c in
    let a = z.args in
    (z.requires.0.small, own_stands (bits a.b.now) a.at z.requires.6)

pub returns-then-not-indent_fits : goal.returns-then-not-indent_fits
returns-then-not-indent_fits c = let z = c in
    let a = z.args in
    let names = c.name_and_params-w in
    let call = c.call_at-call in
    let hash = c.hash_all-hashed in
    let fits = c.indent_fits in
    let fitted = c.if-not-indent_fits in
    let fail = c.failed-then-not-indent_fits in
    long_stop a.s.now a.tab.now a.b.now a.index.now a.options a.scopes a.rc a.front a.page.now a.texts.now a.indent.now a.ent.now a.d a.p a.own a.at a.before z.requires names.result names.ensures.template c.in_default.is call.result call.ensures hash.new.values (refused hash.result) hash.ensures.0 (ap refused c.in_default-hashed.is) fits.result fits.ensures (fitted.true) fail.result fail.ensures c.done-then-not-indent_fits.result c.done-then-not-indent_fits.ensures

pub expand_partial-requires : goal.expand_partial-requires
expand_partial-requires c = let z = c in
    let a = z.args in
    let names = c.name_and_params-w in
    let call = c.call_at-call in
    let hash = c.hash_all-hashed in
    let fits = c.indent_fits in
    let fitted = c.if-not-indent_fits in
    let mark = c.before_partial in
    let aware = c.begin_aware-q in
    let good = z.well_formed.1.1.1.1.1.1.0 in
    let short : length a.texts.now < 2 ^ 64 = omega (arith, good) in
    begin_target a.s.now a.tab.now a.b.now a.index.now a.options a.scopes a.rc a.front a.page.now a.texts.now a.indent.now a.ent.now a.d a.p a.own a.at a.before z.requires names.result names.ensures.template c.in_default.is call.result call.ensures hash.new.values (refused hash.result) hash.ensures.0 (ap refused c.in_default-hashed.is) fits.result fits.ensures (fitted.false) aware.result (λ k. aware.ensures k ∙ ap (marked (whole a.rc k)) mark.ensures) short

pub partial_block_text-requires : goal.partial_block_text-requires
partial_block_text-requires c = let z = c in
    let a = z.args in
    let names = c.name_and_params-w in
    let call = c.call_at-call in
    let hash = c.hash_all-hashed in
    let fits = c.indent_fits in
    let fitted = c.if-not-indent_fits in
    let mark = c.before_partial in
    let aware = c.begin_aware-q in
    let target = c.expand_partial in
    target_text_fits a.s.now a.tab.now a.b.now a.index.now a.options a.scopes a.rc a.front a.page.now a.texts.now a.indent.now a.ent.now a.d a.p a.own a.at a.before z.requires names.result names.ensures.template c.in_default.is call.result call.ensures hash.new.values (refused hash.result) hash.ensures.0 (ap refused c.in_default-hashed.is) fits.result fits.ensures (fitted.false) aware.result (λ k. aware.ensures k ∙ ap (marked (whole a.rc k)) mark.ensures) target.result target.ensures c.in-Text.from c.in-Text.len c.in-Text.is

pub enter-requires : goal.enter-requires
enter-requires c = let z = c in
    let a = z.args in
    let names = c.name_and_params-w in
    let call = c.call_at-call in
    let hash = c.hash_all-hashed in
    let fits = c.indent_fits in
    let fitted = c.if-not-indent_fits in
    let mark = c.before_partial in
    let aware = c.begin_aware-q in
    let target = c.expand_partial in
    let context = c.partial_context-base in
    let few = begin_few a.s.now a.tab.now a.b.now a.index.now a.options a.scopes a.rc a.front a.page.now a.texts.now a.indent.now a.ent.now a.d a.p a.own a.at a.before z.requires names.result names.ensures.template c.in_default.is call.result call.ensures in
    begin_enter a.s.now a.tab.now a.b.now a.index.now a.options a.scopes a.rc a.front a.page.now a.texts.now a.indent.now a.ent.now a.d a.p a.own a.at a.before z.requires names.result names.ensures.template c.in_default.is call.result call.ensures hash.new.values (refused hash.result) hash.ensures.0 (ap refused c.in_default-hashed.is) fits.result fits.ensures (fitted.false) aware.result (λ k. aware.ensures k ∙ ap (marked (whole a.rc k)) mark.ensures) target.result target.ensures context.result context.ensures (omega (arith, few, hash.auto.values))

pub returns-in-Bad : goal.returns-in-Bad
returns-in-Bad c = let z = c in
    let a = z.args in
    let names = c.name_and_params-w in
    let call = c.call_at-call in
    let hash = c.hash_all-hashed in
    let fits = c.indent_fits in
    let fitted = c.if-not-indent_fits in
    let mark = c.before_partial in
    let aware = c.begin_aware-q in
    let target = c.expand_partial in
    let fail = c.failed-in-Bad in
    target_bad a.s.now a.tab.now a.b.now a.index.now a.options a.scopes a.rc a.front a.page.now a.texts.now a.indent.now a.ent.now a.d a.p a.own a.at a.before z.requires names.result names.ensures.template c.in_default.is call.result call.ensures hash.new.values (refused hash.result) hash.ensures.0 (ap refused c.in_default-hashed.is) fits.result fits.ensures (fitted.false) aware.result (λ k. aware.ensures k ∙ ap (marked (whole a.rc k)) mark.ensures) target.result target.ensures c.in-Bad.e c.in-Bad.is fail.result fail.ensures c.done-in-Bad.result c.done-in-Bad.ensures

pub returns-in-Text : goal.returns-in-Text
returns-in-Text c = let z = c in
    let a = z.args in
    let names = c.name_and_params-w in
    let call = c.call_at-call in
    let hash = c.hash_all-hashed in
    let fits = c.indent_fits in
    let fitted = c.if-not-indent_fits in
    let mark = c.before_partial in
    let aware = c.begin_aware-q in
    let target = c.expand_partial in
    let text = c.partial_block_text in
    let finish = c.finish in
    target_text a.s.now a.tab.now a.b.now a.index.now a.options a.scopes a.rc a.front a.page.now a.texts.now a.indent.now a.ent.now a.d a.p a.own a.at a.before z.requires names.result names.ensures.template c.in_default.is call.result call.ensures hash.new.values (refused hash.result) hash.ensures.0 (ap refused c.in_default-hashed.is) fits.result fits.ensures (fitted.false) aware.result (λ k. aware.ensures k ∙ ap (marked (whole a.rc k)) mark.ensures) target.result target.ensures c.in-Text.from c.in-Text.len c.in-Text.is text.new.page text.new.texts text.result _ text.ensures.wrote text.ensures.writes finish.result finish.ensures c.done-in-Text.result c.done-in-Text.ensures

pub returns-in-Fallback : goal.returns-in-Fallback
returns-in-Fallback c = let z = c in
    let a = z.args in
    let names = c.name_and_params-w in
    let call = c.call_at-call in
    let hash = c.hash_all-hashed in
    let fits = c.indent_fits in
    let fitted = c.if-not-indent_fits in
    let mark = c.before_partial in
    let aware = c.begin_aware-q in
    let target = c.expand_partial in
    target_fallback a.s.now a.tab.now a.b.now a.index.now a.options a.scopes a.rc a.front a.page.now a.texts.now a.indent.now a.ent.now a.d a.p a.own a.at a.before z.requires names.result names.ensures.template c.in_default.is call.result call.ensures hash.new.values (refused hash.result) hash.ensures.0 (ap refused c.in_default-hashed.is) fits.result fits.ensures (fitted.false) aware.result (λ k. aware.ensures k ∙ ap (marked (whole a.rc k)) mark.ensures) target.result target.ensures c.in-Fallback.t c.in-Fallback.is c.set_current_template_name.result c.set_current_template_name.ensures

pub returns-in-Body : goal.returns-in-Body
returns-in-Body c = let z = c in
    let a = z.args in
    let names = c.name_and_params-w in
    let call = c.call_at-call in
    let hash = c.hash_all-hashed in
    let fits = c.indent_fits in
    let fitted = c.if-not-indent_fits in
    let mark = c.before_partial in
    let aware = c.begin_aware-q in
    let target = c.expand_partial in
    let context = c.partial_context-base in
    let enter = c.enter in
    target_body a.s.now a.tab.now a.b.now a.index.now a.options a.scopes a.rc a.front a.page.now a.texts.now a.indent.now a.ent.now a.d a.p a.own a.at a.before z.requires names.result names.ensures.template c.in_default.is call.result call.ensures hash.new.values (refused hash.result) hash.ensures.0 (ap refused c.in_default-hashed.is) fits.result fits.ensures (fitted.false) aware.result (λ k. aware.ensures k ∙ ap (marked (whole a.rc k)) mark.ensures) target.result target.ensures context.result context.ensures c.in-Body.t c.in-Body.e c.in-Body.k c.in-Body.m c.in-Body.is enter.new.ent enter.new.indent enter.result enter.ensures
