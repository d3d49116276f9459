use borrow.Enum.Refused.{opened}
use Rattle.layout.specs.Text.{text_at}
use Rattle.lookup.proofs.Leading.{derived_place, placed_context, placed_json, placed_within}
use Rattle.lookup.proofs.Told.{no_context, no_place}
use Rattle.lookup.specs.Answers.{DataGot}
use Rattle.rules.specs.Bits.{bits}
use Rattle.rules.specs.Bytes.{Bytes}
use borrow.Author.Rules.{rules}
use mathlib.Core.Path.{◌∙◌, subst, sym}
use Rattle.lookup.proofs.get_data.Goals as goal

pub derived_data-requires : goal.derived_data-requires
derived_data-requires c = let z = c in
    (z.requires.0, z.requires.1, z.requires.2, no_place z.args.v c.pathless.result c.pathless.ensures (opened c.in_default.in_default-own.keys2), c.text_of.ensures.1)

pub returns-in_default : goal.returns-in_default
returns-in_default c = let a = c.args in
    subst (λ (q : Bytes). DataGot a.s.now a.b.now a.ent.now a.v q c.derived_data.result) c.text_of.ensures.0 c.derived_data.ensures

pub segment_data-at-requires : goal.segment_data-at-requires
segment_data-at-requires c = let z = c in
    let a = z.args in
    (z.requires.0, z.requires.1, placed_within a.s.now a.b.now a.ent.now a.v c.in-Place.i (sym c.pathless.ensures ∙ c.in-Place.is) z.requires.2, z.requires.3)

pub returns-in_default-v : goal.returns-in_default-v
returns-in_default-v c = let a = c.args in
    rw c.without_path.ensures (derived_place a.s.now a.b.now a.ent.now a.v (text_at (bits a.b.now) a.q) (no_context a.v (opened c.in_default-v.in_default-v-own.keys2)).0 c.in-Place.i
    (placed_json a.s.now a.b.now a.ent.now a.v c.in-Place.i (sym c.pathless.ensures ∙ c.in-Place.is)) c.segment_data-at.result c.segment_data-at.ensures)

pub returns : goal.returns
returns c = let a = c.args in
    rw c.with_path.ensures (placed_context a.s.now a.b.now a.ent.now a.v c.in-Place.i (sym c.pathless.ensures ∙ c.in-Place.is) c.in-Context.field-0 c.in-Context.is
    (text_at (bits a.b.now) a.q) c.segment_data-at.result c.segment_data-at.ensures)
