use Rattle.std.specs.Prelude.{None}
use Prim.Native.Nat.{◌-◌}
use mathlib.Core.Path.{sym, ap, ◌∙◌, subst}
use native.Mathlib.Omega.{arith}
use Rattle.rules.specs.Bits.{bits}
use Rattle.layout.specs.Text.{text_at}
use Rattle.scope.proofs.NamesLaws.{in_stack, string_near}
use Rattle.rules.specs.Error.{Got}
use Rattle.rules.specs.Value.{ScopedJson}
use Rattle.rules.specs.Expand as rule
use Rattle.parts.specs.Says.{segments_at, PathStands, path_stands}
use Rattle.scope.proofs.NamesLaws.{all_readable}
use Rattle.scope.specs.Names.{local_at}
use Rattle.context.specs.Evaluated.{Evaluates, evaluated_of}
use Rattle.context.proofs.Evaluating.{relative_is, local_is}
use Rattle.context.proofs.Nearing.{param_fits, local_answers}
use Rattle.scope.proofs.NamesLaws.{local_found, no_local}
use Rattle.context.proofs.Numbers.{nothing_told}
use Rattle.context.proofs.Nearing.{started_is}
use Rattle.context.proofs.evaluate_far.Goals as goal

pub begin_far-from-requires : goal.begin_far-from-requires
begin_far-from-requires c = let z = c in
    let a = z.args in
    let s = a.s.now in
    let b = a.b.now in
    let ent = a.ent.now in
    let x = subst (PathStands (bits b) a.p) (sym c.path_at-path.ensures ∙ c.in-Relative.is) (path_stands (bits b) a.p z.requires.5) in
    let l = a.scopes in
    let u = a.used in
    (z.requires.1, z.requires.2, z.requires.3, all_readable s b ent l u z.requires.4.top z.requires.4.stand, x.parts, z.requires.6)

pub navigate-requires : goal.navigate-requires
navigate-requires c = let z = c in
    let a = z.args in
    let s = a.s.now in
    let b = a.b.now in
    let ent = a.ent.now in
    let x = subst (PathStands (bits b) a.p) (sym c.path_at-path.ensures ∙ c.in-Relative.is) (path_stands (bits b) a.p z.requires.5) in
    let l = a.scopes in
    let u = a.used in
    (z.requires.0, z.requires.1, record { stack = l; used = u; near = z.requires.4; starts = started_is b ent l u c.in-Relative.q c.in-Relative.n c.begin_far-from.result c.begin_far-from.ensures }, x.parts)

pub returns-then-used-k : goal.returns-then-used-k
returns-then-used-k c = let z = c in
    let a = z.args in
    let s = a.s.now in
    let b = a.b.now in
    let ent = a.ent.now in
    let x = subst (PathStands (bits b) a.p) (sym c.path_at-path.ensures ∙ c.in-Local.is) (path_stands (bits b) a.p z.requires.5) in
    let l = a.scopes in
    let u = a.used in
    let v = c.in-Local.level in
    let k = text_at (bits b) c.in-Local.q in (
      omega arith,
      λ g st t hp hr hb S.
          subst (λ (y : Got ScopedJson). Evaluates s b ent t y (evaluated_of 1))
          (sym (ap (rule.evaluate2 g st) x.is ∙ local_is s b ent l u g st hb (text_at (bits b) a.p) v k))
          (subst (Evaluates s b ent t _) (sym nothing_told) (local_answers s b ent t (local_at s b ent l u v k) None (no_local s b ent l u v t k (omega (arith, c.if-used-k.true))))),
    )

pub local_variable-requires : goal.local_variable-requires
local_variable-requires c = let z = c in
    let a = z.args in
    let s = a.s.now in
    let b = a.b.now in
    let ent = a.ent.now in
    let x = subst (PathStands (bits b) a.p) (sym c.path_at-path.ensures ∙ c.in-Local.is) (path_stands (bits b) a.p z.requires.5) in
    let l = a.scopes in
    let u = a.used in
    string_near b _ z.requires.1 x.parts

pub local_number-requires : goal.local_number-requires
local_number-requires c = let z = c in
    let a = z.args in
    let s = a.s.now in
    let b = a.b.now in
    let ent = a.ent.now in
    let x = subst (PathStands (bits b) a.p) (sym c.path_at-path.ensures ∙ c.in-Local.is) (path_stands (bits b) a.p z.requires.5) in
    let l = a.scopes in
    let u = a.used in
    let v = c.in-Local.level in
    let k = text_at (bits b) c.in-Local.q in
    param_fits s b ent z.requires.4.top z.requires.0.answers z.requires.1 z.requires.4.near (local_at s b ent l u v k) c.local_variable.result
    (local_found s b ent l u v z.requires.4.top k _ c.local_variable.result (omega (arith, c.if-used-k.false)) z.requires.4.stand (sym (in_stack l (u - 1 - v) z.well_formed.1.1.1.1.0.1.0.1 (omega (arith, z.requires.3, c.if-used-k.false)))) c.local_variable.ensures.0 c.local_variable.ensures.1)

pub returns-in-Relative : goal.returns-in-Relative
returns-in-Relative c = let z = c in
    let a = z.args in
    let s = a.s.now in
    let b = a.b.now in
    let ent = a.ent.now in
    let x = subst (PathStands (bits b) a.p) (sym c.path_at-path.ensures ∙ c.in-Relative.is) (path_stands (bits b) a.p z.requires.5) in
    let l = a.scopes in
    let u = a.used in (
      c.navigate.ensures.0,
      λ g st t hp hr hb S.
          subst (λ (y : Got ScopedJson). Evaluates s b ent t y (evaluated_of c.navigate.result))
          (sym (ap (rule.evaluate2 g st) x.is ∙ relative_is s b ent l u a.recursive g st hp hr hb (text_at (bits b) a.p) (segments_at c.in-Relative.n (bits b) c.in-Relative.q)))
          (c.navigate.ensures.1 l u t (started_is b ent l u c.in-Relative.q c.in-Relative.n c.begin_far-from.result c.begin_far-from.ensures) S),
    )

pub returns-else-used-k : goal.returns-else-used-k
returns-else-used-k c = let z = c in
    let a = z.args in
    let s = a.s.now in
    let b = a.b.now in
    let ent = a.ent.now in
    let x = subst (PathStands (bits b) a.p) (sym c.path_at-path.ensures ∙ c.in-Local.is) (path_stands (bits b) a.p z.requires.5) in
    let l = a.scopes in
    let u = a.used in
    let v = c.in-Local.level in
    let k = text_at (bits b) c.in-Local.q in (
      c.local_number.ensures.0,
      λ g st t hp hr hb S.
          subst (λ (y : Got ScopedJson). Evaluates s b ent t y (evaluated_of c.local_number.result))
          (sym (ap (rule.evaluate2 g st) x.is ∙ local_is s b ent l u g st hb (text_at (bits b) a.p) v k))
          (subst (Evaluates s b ent t _) (sym c.local_number.ensures.1)
          (local_answers s b ent t (local_at s b ent l u v k) c.local_variable.result (local_found s b ent l u v t k _ c.local_variable.result (omega (arith, c.if-used-k.false)) S (sym (in_stack l (u - 1 - v) z.well_formed.1.1.1.1.0.1.0.1 (omega (arith, z.requires.3, c.if-used-k.false)))) c.local_variable.ensures.0 c.local_variable.ensures.1))),
    )
