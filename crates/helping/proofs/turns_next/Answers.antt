use Rattle.std.specs.Prelude.{Option as RustOption, ℕ}
use mathlib.Core.Path.{refl, sym, ap, ◌∙◌}
use Rattle.state.specs.Context.{whole}
use Rattle.helping.specs.Begun.{done, turns_next}
use borrow.Author.Rules.{rules}
use Rattle.helping.proofs.turns_next.Goals as goal

pub returns-in-Some : goal.returns-in-Some
returns-in-Some c = let a = c.args in
    record { top = refl; is = λ l. sym (ap (λ (k : RustOption ℕ). turns_next k a.v (whole a.rc l) a.before) c.in-Some.is) }

pub returns-in-None : goal.returns-in-None
returns-in-None c = let a = c.args in
    record {
      top = c.done.ensures.top;
      is = λ l.
          c.done.ensures.is l ∙ ap done (c.settle.ensures l)
          ∙ sym (ap (λ (k : RustOption ℕ). turns_next k a.v (whole a.rc l) a.before) c.in-None.is);
    }
