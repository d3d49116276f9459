use Prim.Native.Nat.{ℕ}
use Rattle.plan_read.proofs.Verdict.{judged_answer, judged_table, long_text, table_zero}
use Rattle.scan.proofs.Bounds.{spaces_go}
use borrow.Author.Rules.{rules}
use lib.ListN.{length, replicate}
use mathlib.Core.Path.{◌∙◌, ap, sym}
use native.Mathlib.Omega.{arith}
use Rattle.plan_read.proofs.read_plan.Goals as goal

pub returns-then-s-gt-BYTES : goal.returns-then-s-gt-BYTES
returns-then-s-gt-BYTES c = let h = long_text c.args.s.now c.if-s-gt-BYTES.true in
    (record { value = h; tab_after = c.clear.ensures ∙ table_zero c.args.s.now (length c.args.tab.now) 7 h (λ z. omega arith) })

pub read_value-r-requires : goal.read_value-r-requires
read_value-r-requires c = let w = spaces_go c.args.s.now 0 (omega arith) in
    omega (arith, c.spaces_end.ensures, w.within)

pub returns-then-v-ne0 : goal.returns-then-v-ne0
returns-then-v-ne0 c = let a = c.args in
    let r = c.read_value-r in
    let h = c.judge-v.ensures ∙ judged_answer a.s.now (length a.tab.now) c.spaces_end.result c.clear.new.b r.result r.new.tab
    c.if-s-gt-BYTES.false c.spaces_end.ensures c.clear.ensures r.ensures in
    let z = c.clear-then-v-ne0.ensures ∙ ap (λ (k : ℕ). replicate k 0) (r.auto.tab ∙ c.clear.auto.b) in
    (record { value = h; tab_after = z ∙ table_zero a.s.now (length a.tab.now) c.judge-v.result h c.if-v-ne0.true })

pub returns-else-v-ne0 : goal.returns-else-v-ne0
returns-else-v-ne0 c = let a = c.args in
    let r = c.read_value-r in
    let h = c.judge-v.ensures ∙ judged_answer a.s.now (length a.tab.now) c.spaces_end.result c.clear.new.b r.result r.new.tab
    c.if-s-gt-BYTES.false c.spaces_end.ensures c.clear.ensures r.ensures in (record {
      value = h;
      tab_after = judged_table a.s.now (length a.tab.now) c.spaces_end.result c.clear.new.b r.result r.new.tab
          c.if-s-gt-BYTES.false c.spaces_end.ensures c.clear.ensures r.ensures (sym h ∙ c.if-v-ne0.false);
    })
