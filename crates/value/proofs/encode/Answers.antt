use mathlib.Core.Path.{◌∙◌, ap, subst, sym}
use native.Mathlib.Omega.{arith}
use Rattle.value.specs.Numbers.{Fits, encoded}
use borrow.Author.Rules.{rules}
use Rattle.value.proofs.encode.Goals as goal

pub tagged-requires : goal.tagged-requires
tagged-requires c = let f = subst Fits c.in-Context.is c.requires in (omega arith, omega arith)

pub tagged-requires-in-Place : goal.tagged-requires-in-Place
tagged-requires-in-Place c = let f = subst Fits c.in-Place.is c.requires in (omega arith, omega arith)

pub tagged-requires-in-Literal : goal.tagged-requires-in-Literal
tagged-requires-in-Literal c = let f = subst Fits c.in-Literal.is c.requires in (omega arith, omega arith)

pub tagged-requires-in-Index : goal.tagged-requires-in-Index
tagged-requires-in-Index c = let f = subst Fits c.in-Index.is c.requires in (omega arith, omega arith)

pub tagged-requires-in-IndexText : goal.tagged-requires-in-IndexText
tagged-requires-in-IndexText c = let f = subst Fits c.in-IndexText.is c.requires in (omega arith, omega arith)

pub tagged-requires-in-Name : goal.tagged-requires-in-Name
tagged-requires-in-Name c = let f = subst Fits c.in-Name.is c.requires in (omega arith, omega arith)

pub tagged-requires-in-Text : goal.tagged-requires-in-Text
tagged-requires-in-Text c = let f = subst Fits c.in-Text.is c.requires in (omega arith, omega arith)

pub overflow_mul-o : goal.overflow_mul-o
overflow_mul-o c = let f = subst Fits c.in-SaidChar.is c.requires in omega arith

pub overflow_add-o : goal.overflow_add-o
overflow_add-o c = let f = subst Fits c.in-SaidChar.is c.requires in omega arith

pub tagged-requires-in-SaidChar : goal.tagged-requires-in-SaidChar
tagged-requires-in-SaidChar c = let f = subst Fits c.in-SaidChar.is c.requires in (omega arith, omega arith)

pub overflow_mul-p : goal.overflow_mul-p
overflow_mul-p c = let f = subst Fits c.in-PackedChar.is c.requires in omega arith

pub overflow_add-p : goal.overflow_add-p
overflow_add-p c = let f = subst Fits c.in-PackedChar.is c.requires in omega arith

pub tagged-requires-in-PackedChar : goal.tagged-requires-in-PackedChar
tagged-requires-in-PackedChar c = let f = subst Fits c.in-PackedChar.is c.requires in (omega arith, omega arith)

pub overflow_mul-h : goal.overflow_mul-h
overflow_mul-h c = let f = subst Fits c.in-Merged.is c.requires in omega arith

pub overflow_add-h : goal.overflow_add-h
overflow_add-h c = let f = subst Fits c.in-Merged.is c.requires in omega arith

pub tagged-requires-in-Merged : goal.tagged-requires-in-Merged
tagged-requires-in-Merged c = let f = subst Fits c.in-Merged.is c.requires in (omega arith, omega arith)

pub returns-in-Missing : goal.returns-in-Missing
returns-in-Missing c = ap encoded (sym c.in-Missing.is)

pub returns-in-Null : goal.returns-in-Null
returns-in-Null c = ap encoded (sym c.in-Null.is)

pub returns-in-False : goal.returns-in-False
returns-in-False c = ap encoded (sym c.in-False.is)

pub returns-in-True : goal.returns-in-True
returns-in-True c = ap encoded (sym c.in-True.is)

pub returns-in-Empty : goal.returns-in-Empty
returns-in-Empty c = ap encoded (sym c.in-Empty.is)

pub returns-in-Context : goal.returns-in-Context
returns-in-Context c = c.tagged.ensures ∙ ap encoded (sym c.in-Context.is)

pub returns-in-Place : goal.returns-in-Place
returns-in-Place c = c.tagged-in-Place.ensures ∙ ap encoded (sym c.in-Place.is)

pub returns-in-Literal : goal.returns-in-Literal
returns-in-Literal c = c.tagged-in-Literal.ensures ∙ ap encoded (sym c.in-Literal.is)

pub returns-in-Index : goal.returns-in-Index
returns-in-Index c = c.tagged-in-Index.ensures ∙ ap encoded (sym c.in-Index.is)

pub returns-in-IndexText : goal.returns-in-IndexText
returns-in-IndexText c = c.tagged-in-IndexText.ensures ∙ ap encoded (sym c.in-IndexText.is)

pub returns-in-Name : goal.returns-in-Name
returns-in-Name c = c.tagged-in-Name.ensures ∙ ap encoded (sym c.in-Name.is)

pub returns-in-Text : goal.returns-in-Text
returns-in-Text c = c.tagged-in-Text.ensures ∙ ap encoded (sym c.in-Text.is)

pub returns-in-SaidChar : goal.returns-in-SaidChar
returns-in-SaidChar c = c.tagged-in-SaidChar.ensures ∙ ap encoded (sym c.in-SaidChar.is)

pub returns-in-PackedChar : goal.returns-in-PackedChar
returns-in-PackedChar c = c.tagged-in-PackedChar.ensures ∙ ap encoded (sym c.in-PackedChar.is)

pub returns-in-Merged : goal.returns-in-Merged
returns-in-Merged c = c.tagged-in-Merged.ensures ∙ ap encoded (sym c.in-Merged.is)
