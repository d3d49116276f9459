use native.Mathlib.Omega.{arith}
use mathlib.Core.Bool.{Bool}
use mathlib.Core.Option.{none, some}
use mathlib.Core.Path.{sym, ap, ◌∙◌, subst}
use borrow.Author.Tests.{not-true, not-false}
use Rattle.rules.specs.Bytes.{pick}
use Rattle.rules.specs.Bits.{bits}
use Rattle.rules.specs.BundleLaws.{bits_size}
use Rattle.calls.specs.declared.Parameter.TheVariants.{Path}
use Rattle.calls.specs.Calls.{param_fits, param_at, param_read, call_name, call_at, call_stands}
use Rattle.meaning.specs.Means.{stands_known}
use Rattle.expand.specs.Answers.{Names}
use Rattle.helpers.proofs.Expressing.{called, bad_name, named_helper, named_value, some_setting}
use borrow.Author.Rules.{rules}
use Rattle.helpers.proofs.expression.Goals as goal

pub param_at-x-requires : goal.param_at-x-requires
param_at-x-requires c = let z = c in
    omega (arith, z.requires.1, param_fits z.args.d (bits z.args.b.now) z.args.p (call_name z.args.d (bits z.args.b.now) z.args.p z.requires.5), bits_size z.args.b.now)

pub path_expression-requires : goal.path_expression-requires
path_expression-requires c = let z = c in
    let x = param_read z.args.d (bits z.args.b.now) z.args.p (call_name z.args.d (bits z.args.b.now) z.args.p z.requires.5) (Path c.in-Path.q) (sym c.in-Path.is ∙ c.param_at-x.ensures) in
    (z.requires.0, z.requires.1, z.requires.2, z.requires.3, z.requires.4, x.parts)

pub returns-in-Path : goal.returns-in-Path
returns-in-Path c = let z = c in
    λ g st t ibw h. c.path_expression.ensures g st t z.args.d z.args.p ibw h z.requires.5 (sym c.param_at-x.ensures ∙ c.in-Path.is)

pub returns-then-not-name_only : goal.returns-then-not-name_only
returns-then-not-name_only c = let z = c in λ g st t ibw h. called z.args.s.now z.args.b.now z.args.ent.now t g st (call_at z.args.d (bits z.args.b.now) z.args.p) ibw (c.name_only.ensures ∙ ap (λ (x : Bool). pick x (some (param_at z.args.d (bits z.args.b.now) z.args.p)) none) (c.if-not-name_only.true))

pub expand_as_name-name-requires : goal.expand_as_name-name-requires
expand_as_name-name-requires c = let z = c in (z.requires.0, z.requires.1, z.requires.2, z.requires.3, z.requires.4, (call_stands z.args.d (bits z.args.b.now) z.args.p z.requires.5).name)

pub is_helper-requires : goal.is_helper-requires
is_helper-requires c = let z = c in let w = some_setting z.args.s.now z.args.b.now z.args.ent.now z.args.scopes z.args.used z.args.options z.requires.2 z.requires.4 in (z.requires.0, z.requires.1, stands_known z.args.s.now z.args.b.now z.args.ent.now w.t _ (subst (Names z.args.s.now z.args.b.now z.args.ent.now w.t _) c.in-Ok.is (c.expand_as_name-name.ensures w.g w.st w.t w.setting)).1)

pub returns-then-is_helper : goal.returns-then-is_helper
returns-then-is_helper c = let z = c in λ g st t ibw h. let n = subst (Names z.args.s.now z.args.b.now z.args.ent.now t _) c.in-Ok.is (c.expand_as_name-name.ensures g st t h) in named_helper z.args.s.now z.args.b.now z.args.ent.now t g st (call_at z.args.d (bits z.args.b.now) z.args.p) ibw (param_at z.args.d (bits z.args.b.now) z.args.p) (c.name_only.ensures ∙ ap (λ (x : Bool). pick x (some (param_at z.args.d (bits z.args.b.now) z.args.p)) none) (c.if-not-name_only.false)) _ n.0 (sym (c.is_helper.ensures.at z.args.ent.now t n.1) ∙ c.if-is_helper.true)

pub expand-requires : goal.expand-requires
expand-requires c = let z = c in (z.requires.0, z.requires.1, z.requires.2, z.requires.3, z.requires.4, (call_stands z.args.d (bits z.args.b.now) z.args.p z.requires.5).name)

pub returns-in-Err : goal.returns-in-Err
returns-in-Err c = let z = c in λ g st t ibw h. bad_name z.args.s.now z.args.b.now z.args.ent.now t g st (call_at z.args.d (bits z.args.b.now) z.args.p) ibw (param_at z.args.d (bits z.args.b.now) z.args.p) (c.name_only.ensures ∙ ap (λ (x : Bool). pick x (some (param_at z.args.d (bits z.args.b.now) z.args.p)) none) (c.if-not-name_only.false)) _ (subst (Names z.args.s.now z.args.b.now z.args.ent.now t _) c.in-Err.is (c.expand_as_name-name.ensures g st t h))

pub returns-else-is_helper : goal.returns-else-is_helper
returns-else-is_helper c = let z = c in λ g st t ibw h. let n = subst (Names z.args.s.now z.args.b.now z.args.ent.now t _) c.in-Ok.is (c.expand_as_name-name.ensures g st t h) in named_value z.args.s.now z.args.b.now z.args.ent.now t g st (call_at z.args.d (bits z.args.b.now) z.args.p) ibw (param_at z.args.d (bits z.args.b.now) z.args.p) (c.name_only.ensures ∙ ap (λ (x : Bool). pick x (some (param_at z.args.d (bits z.args.b.now) z.args.p)) none) (c.if-not-name_only.false)) z.args.options.strict h.alike.strict _ n.0 (sym (c.is_helper.ensures.at z.args.ent.now t n.1) ∙ c.if-is_helper.false) c.expand.result (c.expand.ensures g st t h) c.rendered.result c.rendered.ensures
