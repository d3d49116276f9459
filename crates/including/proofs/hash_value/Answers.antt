use Rattle.std.specs.Prelude.{Ok, Err}
use mathlib.Core.Path.{refl, sym, ◌∙◌, subst}
use native.Mathlib.Omega.{arith}
use Rattle.rules.specs.Bits.{bits}
use Rattle.rules.specs.BundleLaws.{bits_size}
use Rattle.rules.specs.Error.{invalid-json-index}
use Rattle.rules.specs.Expand as rules
use Rattle.rules.specs.Template as template
use Rattle.calls.specs.Calls.{param_fits, param_read}
use Rattle.calls.specs.declared.Parameter.TheVariants.{Path}
use Rattle.context.specs.Evaluated.{Evaluates}
use Rattle.meaning.specs.Standing.{plain}
use Rattle.value.specs.declared.Value.TheVariants.{Missing}
use Rattle.expand.specs.Answers.{Expands}
use Rattle.expand.proofs.Calling.{refuse_is}
use borrow.Author.Rules.{rules}
use Rattle.including.proofs.hash_value.Goals as goal
use Rattle.error.specs.declared.RenderErrorReason.TheVariants.{InvalidJsonIndex}

pub param_at-x-requires : goal.param_at-x-requires
param_at-x-requires c = let z = c in
    omega (arith, z.requires.1, param_fits z.args.d (bits z.args.b.now) z.args.q z.requires.6, bits_size z.args.b.now)

pub expand-requires : goal.expand-requires
expand-requires c = let z = c in (z.requires.0, z.requires.1, z.requires.2, z.requires.3, z.requires.4, z.requires.6)

pub returns-in_default : goal.returns-in_default
returns-in_default c = c.expand.ensures

pub path_number-r-requires : goal.path_number-r-requires
path_number-r-requires c = let z = c in
    let a = z.args in
    let p = param_read a.d (bits a.b.now) a.q z.requires.6 (Path c.in-Path.p) (sym c.in-Path.is ∙ c.param_at-x.ensures) in
    (z.requires.0, z.requires.1, z.requires.2, z.requires.3, z.requires.4, z.requires.5, p.parts)

pub answer_of-found-requires : goal.answer_of-found-requires
answer_of-found-requires c = c.path_number-r.ensures.0

pub returns-in-Is : goal.returns-in-Is
returns-in-Is c = let m = c in
    let z = m in
    let a = z.args in
    let p = param_read a.d (bits a.b.now) a.q z.requires.6 (Path c.in-Path.p) (sym c.in-Path.is ∙ m.param_at-x.ensures) in
    λ g st t h.
    let e = subst (Evaluates a.s.now a.b.now a.ent.now t _) (sym c.answer_of-found.ensures ∙ c.in-Is.is) (c.path_number-r.ensures.1 g st t h.plan h.recursive h.open_scopes h.stand) in
    subst (λ (x : template.Parameter). Expands a.s.now a.b.now a.ent.now t (rules.expand g st x) (Ok c.in-Is.v)) (sym p.is) (e.0, e.1)

pub returns-in-Nothing : goal.returns-in-Nothing
returns-in-Nothing c = let m = c in
    let z = m in
    let a = z.args in
    let p = param_read a.d (bits a.b.now) a.q z.requires.6 (Path c.in-Path.p) (sym c.in-Path.is ∙ m.param_at-x.ensures) in
    λ g st t h.
    let e = subst (Evaluates a.s.now a.b.now a.ent.now t _) (sym c.answer_of-found.ensures ∙ c.in-Nothing.is) (c.path_number-r.ensures.1 g st t h.plan h.recursive h.open_scopes h.stand) in
    subst (λ (x : template.Parameter). Expands a.s.now a.b.now a.ent.now t (rules.expand g st x) (Ok Missing)) (sym p.is) ((e, plain refl tt))

pub returns-in-BadIndex : goal.returns-in-BadIndex
returns-in-BadIndex c = let m = c in
    let z = m in
    let a = z.args in
    let p = param_read a.d (bits a.b.now) a.q z.requires.6 (Path c.in-Path.p) (sym c.in-Path.is ∙ m.param_at-x.ensures) in
    λ g st t h.
    let e = subst (Evaluates a.s.now a.b.now a.ent.now t _) (sym c.answer_of-found.ensures ∙ c.in-BadIndex.is) (c.path_number-r.ensures.1 g st t h.plan h.recursive h.open_scopes h.stand) in
    subst (λ (x : template.Parameter). Expands a.s.now a.b.now a.ent.now t (rules.expand g st x) (Err InvalidJsonIndex)) (sym p.is) (refuse_is invalid-json-index _ e)
