use Rattle.scope.specs.declared.Scope.{Scope}
use Rattle.state.specs.Context.{whole}
use mathlib.Core.List.{List}
use Prim.Native.Nat.{ℕ}
use mathlib.Core.Bool.{not}
use mathlib.Core.Path.{◌≡◌, subst}
use Rattle.rules.specs.Bytes.{Bytes}
use Rattle.rules.specs.Value.{render}
use Rattle.rules.specs.Output.{indent_aware_write}
use Rattle.output.specs.Outputs.{outputs}
use Rattle.support.specs.Feed.{escaped, fed}
use Rattle.meaning.specs.Meaning.{json_of}
use Rattle.meaning.specs.Means.{means_so}
use Rattle.state.specs.World.{world, abs, Draws}
use Rattle.writing.specs.Writes.{Wrote}
use Rattle.writing.specs.Laws.{draws_fed, escape_is, wrote_by}
use borrow.Author.Rules.{rules}
use Rattle.writing.proofs.value.Goals as goal

pub returns : goal.returns
returns c = let a = c.args in
    let f = c.write_value in
    let page = f.new.page in
    let texts = f.new.texts in
    let r = c.wrote.result in
    let i = a.indent.now in
    let e = not a.rc.disable_escape in
    let m = means_so a.s.now a.b.now a.v
    (λ j. outputs f.result page texts ≡ fed i (escaped e (render j)) (outputs a.rc.writer a.page.now a.texts.now))
    (λ j. (l : List Scope) → Wrote (whole a.rc l) (whole r l) page texts (fed i (escaped e (render j)) (outputs a.rc.writer a.page.now a.texts.now)))
    (λ j h l. wrote_by (whole a.rc l) (whole r l) f.result page texts (fed i (escaped e (render j)) (outputs a.rc.writer a.page.now a.texts.now)) h (c.wrote.ensures l))
    f.ensures in (record {
      means = m;
      writes = λ l ent t st ready.
          let j = render (json_of a.s.now a.b.now ent a.v) in
          let x = world (whole a.rc l) a.page.now a.texts.now i ent in
          subst (λ (y : Bytes). Draws a.s.now a.b.now x (world (whole r l) page texts i ent) (indent_aware_write y (abs a.s.now a.b.now x))) (escape_is a.s.now a.b.now x j)
          (draws_fed a.s.now a.b.now x (whole r l) page texts ready (escaped e j) (m.at ent t st l));
    })
