use mathlib.Core.Path.{◌≡◌, ap, ◌∙◌, subst}
use mathlib.Core.List.{[]}
use mathlib.Core.Bool.{not, ◌||◌}
use Rattle.rules.specs.Value.{render}
use Rattle.output.specs.Outputs.{outputs}
use Rattle.output.specs.declared.Writer.{Writer}
use Rattle.support.specs.Feed.{escaped, fed}
use Rattle.value.specs.Numbers.{decoded}
use Rattle.meaning.specs.Means.{Means}
use Rattle.state.specs.Setters.{wrote, finished}
use Rattle.state.specs.Context.{RenderContext}
use Rattle.plain.specs.Lookups.{lookup_here}
use Rattle.plain.specs.Drawn.{HelperWrote}
use borrow.Author.Rules.{rules}
use Rattle.plain.proofs.draw_lookup.Goals as goal

pub returns : goal.returns
returns c = let a = c.args in
    let g = c.begin_helper-q in
    let y = c.write_number-w in
    let W : HelperWrote a.s.now a.b.now (decoded a.v) a.html a.before a.rc c.finish.result a.page.now a.texts.now a.indent.now y.new.page y.new.texts =
    record {
      behind = y.result;
      written = subst (λ (w : Writer). Means a.s.now a.b.now (decoded a.v) (λ j. outputs y.result y.new.page y.new.texts ≡ fed a.indent.now (escaped (not (a.html || a.rc.disable_escape)) (render j)) (outputs w a.page.now a.texts.now)))
          (ap (λ (k : RenderContext). k.writer) (g.ensures [])) y.ensures;
      is = λ l. c.finish.ensures l ∙ ap (finished a.rc.writer) (c.wrote.ensures l ∙ ap (λ (k : RenderContext). wrote k y.result) (g.ensures l));
    } in
    (record { helper_wrote = W; one_drawn = λ l ent front o d p next F ready A. lookup_here a.s.now a.b.now o d p a.rc c.finish.result a.page.now a.texts.now a.indent.now y.new.page y.new.texts ent front l a.v a.html a.before next W F ready A })
