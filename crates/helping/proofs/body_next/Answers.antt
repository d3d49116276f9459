use Rattle.std.specs.Prelude.{Option as RustOption, ℕ}
use mathlib.Core.Path.{refl, sym, ap, ◌∙◌}
use Rattle.state.specs.Context.{RenderContext, whole}
use Rattle.helping.specs.declared.Next.TheVariants.{Body}
use Rattle.helping.specs.Begun.{done, body_next}
use borrow.Author.Rules.{rules}
use Rattle.helping.proofs.body_next.Goals as goal

pub returns-in-Some : goal.returns-in-Some
returns-in-Some c = let a = c.args in
    record {
      top = refl;
      is = λ l.
          ap (λ (x : RenderContext). record { rc = x; next = Body c.in-Some.p }) (c.set_current_template_name.ensures l)
          ∙ sym (ap (λ (k : RustOption ℕ). body_next k (whole a.rc l) a.before) c.in-Some.is);
    }

pub returns-in-None : goal.returns-in-None
returns-in-None c = let a = c.args in
    record {
      top = c.done.ensures.top;
      is = λ l.
          c.done.ensures.is l ∙ ap done (c.settle.ensures l) ∙ sym (ap (λ (k : RustOption ℕ). body_next k (whole a.rc l) a.before) c.in-None.is);
    }
