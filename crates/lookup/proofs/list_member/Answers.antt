use Rattle.lookup.proofs.Ordered.{parsed_some, parsed_none}
use Rattle.text.specs.Rest.{rest}
use Rattle.merging.specs.Lookup as lookup
use Rattle.places.specs.Places.{children}
use Rattle.places.specs.Nodes.{short}
use Rattle.rules.specs.Bytes.{maybe}
use Prim.Native.Nat.{ℕ}
use lib.ListN.{get_elem?}
use mathlib.Core.Option.{Option, none}
use mathlib.Core.Path.{◌∙◌, ap, sym}
use borrow.Author.Rules.{rules}
use Rattle.lookup.proofs.list_member.Goals as goal

pub canonical-requires : goal.canonical-requires
canonical-requires c = (short c.args.s.now c.requires.0.answers, c.requires.2)

pub returns-in_err-n : goal.returns-in_err-n
returns-in_err-n c = let e = parsed_none (lookup.canonical (rest c.args.s.now c.args.b.now c.args.t)) c.in_err-n.ensures in
    rw c.from_residual.ensures (ap (λ (o : Option ℕ). maybe o none (get_elem? (children c.args.s.now c.args.i))) (sym e))

pub returns : goal.returns
returns c = let e = parsed_some (lookup.canonical (rest c.args.s.now c.args.b.now c.args.t)) c.in_ok-n.n c.in_ok-n.ensures in
    c.nth.ensures ∙ ap (λ (o : Option ℕ). maybe o none (get_elem? (children c.args.s.now c.args.i))) (sym e)
