use Rattle.std.specs.Prelude.{Ok, Err}
use Prim.Native.Nat.{◌+◌}
use native.Mathlib.Omega.{arith}
use mathlib.Core.Path.{refl, sym, subst}
use Rattle.value.specs.declared.Value.TheVariants.{Missing, Text}
use Rattle.meaning.specs.Forms.{Known}
use Rattle.scope.proofs.NamesLaws.{string_near}
use Rattle.expand.specs.Answers.{with_one}
use Rattle.helping.proofs.Deciding.{gets_bad, gets_value, worked_one, by_refused, by_text}
use borrow.Author.Rules.{rules}
use Rattle.helping.proofs.decide_one.Goals as goal
use Rattle.error.specs.declared.RenderErrorReason.TheVariants.{InvalidJsonIndex}

pub returns-then-found-eq0 : goal.returns-then-found-eq0
returns-then-found-eq0 c = let a = c.args in
    λ ent l d v F h.
    by_refused a.s.now a.b.now ent l a.used a.options d a.p a.has_template a.has_inverse (with_one (a.p + 2) (Err InvalidJsonIndex))
    (worked_one a.s.now a.b.now ent l a.used a.options d a.p v F (Err InvalidJsonIndex) (gets_bad a.s.now a.b.now ent l a.used a.options v a.found c.if-found-eq0.true h)) InvalidJsonIndex refl

pub overflow_sub-found : goal.overflow_sub-found
overflow_sub-found c = omega (arith, c.if-found-eq0.false)

pub overflow_cast-found : goal.overflow_cast-found
overflow_cast-found c = omega (arith, c.requires.3)

pub overflow_add-p : goal.overflow_add-p
overflow_add-p c = let z = c in omega (arith, string_near z.args.b.now (z.args.p + 2) z.requires.1 z.requires.2)

pub helper_at-h-requires : goal.helper_at-h-requires
helper_at-h-requires c = let z = c in string_near z.args.b.now (z.args.p + 2) z.requires.1 z.requires.2

pub call_one-requires : goal.call_one-requires
call_one-requires c = let z = c in (z.requires.0, z.requires.1, subst (Known z.args.s.now z.args.b.now) (sym c.decode-w.ensures) (z.requires.4 c.if-found-eq0.false))

pub returns : goal.returns
returns c = let a = c.args in
    λ ent l d v F h.
    by_text a.s.now a.b.now ent l a.used a.options d a.p a.has_template a.has_inverse (with_one (a.p + 2) (Ok c.decode-w.result))
    (worked_one a.s.now a.b.now ent l a.used a.options d a.p v F (Ok c.decode-w.result) (gets_value a.s.now a.b.now ent l a.used a.options v a.found c.if-found-eq0.false c.decode-w.result c.decode-w.ensures h))
    (a.p + 2) refl refl c.helper_at-h.result c.call_one.result c.helper_at-h.ensures (c.call_one.ensures ent (Text (a.p + 2)) Missing)
