use Rattle.handlebars.specs.Names.{filled_counts}
use Rattle.sheet.proofs.print_name.Goals as goal

pub slice_bounds-write_all-end : goal.slice_bounds-write_all-end
slice_bounds-write_all-end g c = (filled_counts _ _ _ _ c.handlebars_template_name-n.ensures).0

pub slice_bounds-write_all-end-2 : goal.slice_bounds-write_all-end-2
slice_bounds-write_all-end-2 g c = (filled_counts _ _ _ _ c.handlebars_template_name-n.ensures).1
