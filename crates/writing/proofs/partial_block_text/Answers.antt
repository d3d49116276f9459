use Rattle.scope.specs.declared.Scope.{Scope}
use Rattle.state.specs.Context.{whole}
use mathlib.Core.List.{List}
use Prim.Native.Nat.{ℕ}
use lib.ListN.{take, drop}
use Rattle.output.specs.Writer.{all_put}
use Rattle.output.specs.Outputs.{outputs, on}
use Rattle.state.specs.World.{world}
use Rattle.writing.specs.Writes.{Wrote}
use Rattle.writing.specs.Laws.{draws_put, wrote_by}
use borrow.Author.Rules.{rules}
use Rattle.writing.proofs.partial_block_text.Goals as goal

pub returns : goal.returns
returns c = let a = c.args in
    let f = c.write_text-q in
    let page = f.new.page in
    let texts = f.new.texts in
    let v = take a.n (drop a.from a.texts.now) in
    let w : (l : List Scope) → Wrote (whole a.rc l) (whole c.wrote.result l) page texts (on (all_put v) (outputs a.rc.writer a.page.now a.texts.now)) =
    λ l. wrote_by (whole a.rc l) (whole c.wrote.result l) f.result page texts (on (all_put v) (outputs a.rc.writer a.page.now a.texts.now)) f.ensures (c.wrote.ensures l) in
    (record { wrote = w; writes = λ l s b i ent r. draws_put s b (world (whole a.rc l) a.page.now a.texts.now i ent) (whole c.wrote.result l) page texts r v (w l) })
