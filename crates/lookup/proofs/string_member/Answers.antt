use Rattle.lookup.proofs.Spelling.{no_number, no_character, character}
use Rattle.lookup.proofs.Ordered.{parsed_some, parsed_none}
use Rattle.chars.specs.Spelled.{Chosen}
use Rattle.chars.proofs.Counts.{count_few}
use Rattle.text.specs.Rest.{rest}
use Rattle.merging.specs.Lookup as lookup
use Rattle.rules.specs.Context.{chars}
use lib.ListN.{get_elem?}
use mathlib.Core.Path.{◌∙◌, sym, subst}
use borrow.Author.Rules.{rules}
use Rattle.lookup.proofs.string_member.Goals as goal

pub canonical-requires : goal.canonical-requires
canonical-requires c = (c.requires.0, c.requires.3)

pub returns-in_err-n : goal.returns-in_err-n
returns-in_err-n c = let z = c in
    let s = z.args.s.now in
    let b = z.args.b.now in
    let x = z.args.x in
    let k = rest s b z.args.t in
    let few = count_few s b z.requires.0 z.requires.1 x z.requires.2 in
    rw c.from_residual.ensures (no_number s b x k few (parsed_none (lookup.canonical k) c.in_err-n.ensures))

pub nth_char-requires : goal.nth_char-requires
nth_char-requires c = let z = c.requires in (z.0, z.1, z.2)

pub returns-in_err-w : goal.returns-in_err-w
returns-in_err-w c = let z = c in
    let s = z.args.s.now in
    let b = z.args.b.now in
    let x = z.args.x in
    let k = rest s b z.args.t in
    let few = count_few s b z.requires.0 z.requires.1 x z.requires.2 in
    let n = c.in_ok-n.n in
    let e = parsed_some (lookup.canonical k) n c.in_ok-n.ensures in
    rw c.from_residual-in_err-w.ensures (no_character s b x k few n e c.in_err-w.ensures)

pub returns : goal.returns
returns c = let z = c in
    let s = z.args.s.now in
    let b = z.args.b.now in
    let x = z.args.x in
    let k = rest s b z.args.t in
    let few = count_few s b z.requires.0 z.requires.1 x z.requires.2 in
    let n = c.in_ok-n.n in
    let e = parsed_some (lookup.canonical k) n c.in_ok-n.ensures in
    character s b x k few n e c.in_ok-w.w c.pathless.result c.in_ok-w.ensures c.pathless.ensures
