use Rattle.std.proofs.Common.{length, [], ◌∷◌}
use Rattle.handlebars.specs.Calls.{text_counts}
use Rattle.sheet.proofs.show.Goals as goal

pub slice_bounds-write_all-end : goal.slice_bounds-write_all-end
slice_bounds-write_all-end g c =
    let a = c.args in
    let scratch = length a.places.now ∷ length a.entries.now ∷ length a.texts.now ∷ length a.indent.now ∷ [] in
    (text_counts a.bundle.now c.render-r.result _ _ (length a.page.now) scratch _ c.render-r.ensures).0

pub slice_bounds-write_all-end-then-r-eq0 : goal.slice_bounds-write_all-end-then-r-eq0
slice_bounds-write_all-end-then-r-eq0 g c =
    let a = c.args in
    let scratch = length a.places.now ∷ length a.entries.now ∷ length a.texts.now ∷ length a.indent.now ∷ [] in
    (text_counts a.bundle.now c.render-r.result _ _ (length a.page.now) scratch _ c.render-r.ensures).1
