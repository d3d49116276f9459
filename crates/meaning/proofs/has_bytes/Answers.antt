use Rattle.meaning.specs.Truth.{has_bytes}
use Rattle.text.specs.Rest.{Stepped}
use borrow.Author.Rules.{rules}
use mathlib.Core.Path.{ap, subst, sym}
use Rattle.meaning.proofs.has_bytes.Goals as goal

pub returns-in-Some : goal.returns-in-Some
returns-in-Some c = let s = c in
    let e = subst (Stepped s.args.s.now s.args.b.now s.args.t) c.in-Some.is c.next.ensures in
    sym (ap has_bytes e.0)

pub returns-in-None : goal.returns-in-None
returns-in-None c = let s = c in
    let e = subst (Stepped s.args.s.now s.args.b.now s.args.t) c.in-None.is c.next.ensures in
    sym (ap has_bytes e)
