use mathlib.Core.Path.{refl, subst}
use Rattle.meaning.specs.declared.Form.TheVariants.{Null, Boolean, Unsigned, Negative, String, List, Object, Merged}
use Rattle.meaning.specs.Forms.{Formed}
use Rattle.meaning.specs.Means.{means}
use borrow.Author.Rules.{rules}
use Rattle.helpers.proofs.is_collection.Goals as goal

pub returns-in-Null : goal.returns-in-Null
returns-in-Null c = let z = c in let h = subst (Formed z.args.s.now z.args.b.now z.args.v) c.in-Null.is c.form_of.ensures in means z.args.s.now z.args.b.now _ z.args.v Null h refl

pub returns-in-Boolean : goal.returns-in-Boolean
returns-in-Boolean c = let z = c in let h = subst (Formed z.args.s.now z.args.b.now z.args.v) c.in-Boolean.is c.form_of.ensures in means z.args.s.now z.args.b.now _ z.args.v (Boolean c.in-Boolean.t) h refl

pub returns-in-Unsigned : goal.returns-in-Unsigned
returns-in-Unsigned c = let z = c in let h = subst (Formed z.args.s.now z.args.b.now z.args.v) c.in-Unsigned.is c.form_of.ensures in means z.args.s.now z.args.b.now _ z.args.v (Unsigned c.in-Unsigned.n) h refl

pub returns-in-Negative : goal.returns-in-Negative
returns-in-Negative c = let z = c in let h = subst (Formed z.args.s.now z.args.b.now z.args.v) c.in-Negative.is c.form_of.ensures in means z.args.s.now z.args.b.now _ z.args.v (Negative c.in-Negative.n) h refl

pub returns-in-String : goal.returns-in-String
returns-in-String c = let z = c in let h = subst (Formed z.args.s.now z.args.b.now z.args.v) c.in-String.is c.form_of.ensures in means z.args.s.now z.args.b.now _ z.args.v (String c.in-String.t) h (λ _. refl)

pub returns-in-List : goal.returns-in-List
returns-in-List c = let z = c in let h = subst (Formed z.args.s.now z.args.b.now z.args.v) c.in-List.is c.form_of.ensures in means z.args.s.now z.args.b.now _ z.args.v (List c.in-List.i) h (λ _ _ _. refl)

pub returns-in-Object : goal.returns-in-Object
returns-in-Object c = let z = c in let h = subst (Formed z.args.s.now z.args.b.now z.args.v) c.in-Object.is c.form_of.ensures in means z.args.s.now z.args.b.now _ z.args.v (Object c.in-Object.i) h (λ _ _ _. refl)

pub returns-in-Merged : goal.returns-in-Merged
returns-in-Merged c = let z = c in let h = subst (Formed z.args.s.now z.args.b.now z.args.v) c.in-Merged.is c.form_of.ensures in means z.args.s.now z.args.b.now _ z.args.v (Merged c.in-Merged.h c.in-Merged.n) h (λ _ _. refl)
