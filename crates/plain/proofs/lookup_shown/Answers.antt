use mathlib.Core.Path.{refl, sym, ap, ◌∙◌, subst}
use Rattle.rules.specs.BundleLaws.{bits_binary}
use Rattle.rules.specs.Bits.{bits}
use Rattle.plain.specs.Reading.{lookup_read}
use Rattle.plain.specs.Looked.{LookupIs, Numbered, shown_by}
use Rattle.plain.specs.declared.Lookup.{Lookup}
use borrow.Author.Rules.{rules}
use Rattle.plain.proofs.lookup_shown.Goals as goal

pub keyed_paths-n-requires : goal.keyed_paths-n-requires
keyed_paths-n-requires c = let z = c in
    let a = z.args in
    let X = subst (LookupIs a.d (bits a.b.now) a.p) c.in-Paths.is (lookup_read a.d (bits a.b.now) (bits_binary a.b.now) a.p z.requires.3 c.lookup_at.result c.lookup_at.ensures) in
    (z.requires.0, z.requires.1, z.requires.2, X.few.2, X.few.3)

pub found-requires : goal.found-requires
found-requires c = c.keyed_paths-n.ensures.small

pub keyed_literal-n-requires : goal.keyed_literal-n-requires
keyed_literal-n-requires c = let z = c in
    let a = z.args in
    let X = subst (LookupIs a.d (bits a.b.now) a.p) c.in-Literal.is (lookup_read a.d (bits a.b.now) (bits_binary a.b.now) a.p z.requires.3 c.lookup_at.result c.lookup_at.ensures) in
    (z.requires.0, z.requires.1, z.requires.2, X.few.2, X.few.3)

pub found-requires-in-Literal : goal.found-requires-in-Literal
found-requires-in-Literal c = c.keyed_literal-n.ensures.small

pub returns-in-Paths : goal.returns-in-Paths
returns-in-Paths c = let a = c.args in
    let h = sym c.in-Paths.is ∙ c.lookup_at.ensures in
    record {
      number = c.keyed_paths-n.result;
      told = subst (λ (x : Lookup). Numbered a.s.now a.b.now a.ent.now a.front a.names a.options x c.keyed_paths-n.result) h c.keyed_paths-n.ensures;
      is = c.found.ensures ∙ ap (λ (x : Lookup). shown_by a.html x c.keyed_paths-n.result) h;
    }

pub returns-in-Literal : goal.returns-in-Literal
returns-in-Literal c = let a = c.args in
    let h = sym c.in-Literal.is ∙ c.lookup_at.ensures in
    record {
      number = c.keyed_literal-n.result;
      told = subst (λ (x : Lookup). Numbered a.s.now a.b.now a.ent.now a.front a.names a.options x c.keyed_literal-n.result) h c.keyed_literal-n.ensures;
      is = c.found-in-Literal.ensures ∙ ap (λ (x : Lookup). shown_by a.html x c.keyed_literal-n.result) h;
    }

pub returns-in-Other : goal.returns-in-Other
returns-in-Other c = let a = c.args in
    let h = sym c.in-Other.is ∙ c.lookup_at.ensures in
    record {
      number = 0;
      told = subst (λ (x : Lookup). Numbered a.s.now a.b.now a.ent.now a.front a.names a.options x 0) h refl;
      is = ap (λ (x : Lookup). shown_by a.html x 0) h;
    }
