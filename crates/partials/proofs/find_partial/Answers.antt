use Rattle.partials.proofs.Searches.{entry_found, entry_none, inline_found, template_found, nothing_found}
use Rattle.expand.specs.Answers.{name_of}
use Rattle.meaning.specs.Means.{stands_known}
use Rattle.rules.specs.Partial.{get_partial}
use Rattle.rules.specs.Bits.{bits}
use native.Mathlib.Omega.{arith}
use borrow.Author.Rules.{rules}
use Rattle.partials.proofs.find_partial.Goals as goal

pub get_partial-inner-requires : goal.get_partial-inner-requires
get_partial-inner-requires c = let z = c in (z.requires.0, z.requires.1, z.requires.5, z.requires.6, stands_known z.args.s.now z.args.b.now z.args.ent.now z.requires.7.0 z.args.v z.requires.7.1)

pub place-requires : goal.place-requires
place-requires c = let z = c in (entry_found z.args.s.now z.args.b.now z.args.ent.now _ _ _ (c.get_partial-inner.ensures z.requires.7.0 z.requires.7.1) c.in-Some.is).within

pub high-requires : goal.high-requires
high-requires c = let z = c in omega (arith, (entry_found z.args.s.now z.args.b.now z.args.ent.now _ _ _ (c.get_partial-inner.ensures z.requires.7.0 z.requires.7.1) c.in-Some.is).within)

pub returns-in-Some : goal.returns-in-Some
returns-in-Some c = let z = c in inline_found z.args.s.now z.args.b.now z.args.ent.now _ _ _ _ (entry_found z.args.s.now z.args.b.now z.args.ent.now _ _ _ (c.get_partial-inner.ensures z.requires.7.0 z.requires.7.1) c.in-Some.is) c.place.ensures c.high.ensures

pub get_template-t-requires : goal.get_template-t-requires
get_template-t-requires c = let z = c in (z.requires.0, z.requires.1, z.requires.2, z.requires.3, z.requires.4, stands_known z.args.s.now z.args.b.now z.args.ent.now z.requires.7.0 z.args.v z.requires.7.1)

pub returns-in-Some-t : goal.returns-in-Some-t
returns-in-Some-t c = let z = c in template_found (bits z.args.b.now) z.requires.2 (name_of z.args.s.now z.args.b.now z.args.ent.now z.args.v) _ (entry_none z.args.s.now z.args.b.now z.args.ent.now _ _ (c.get_partial-inner.ensures z.requires.7.0 z.requires.7.1) c.in_default.is) _ (c.get_template-t.ensures.at z.args.ent.now z.requires.7.0 z.requires.7.1) _ _ _ c.in-Some-t.is

pub returns-in-None : goal.returns-in-None
returns-in-None c = let z = c in nothing_found (bits z.args.b.now) z.requires.2 (name_of z.args.s.now z.args.b.now z.args.ent.now z.args.v) _ (entry_none z.args.s.now z.args.b.now z.args.ent.now _ _ (c.get_partial-inner.ensures z.requires.7.0 z.requires.7.1) c.in_default.is) _ (c.get_template-t.ensures.at z.args.ent.now z.requires.7.0 z.requires.7.1) c.in-None.is
