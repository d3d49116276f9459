use native.Mathlib.Omega.{arith}
use borrow.Author.Rules.{rules}
use Rattle.opening.specs.Opens.{open_base, open_pairs, open_total, open_behind, open_table, open_many, open_parts, open_full, open_deep, open_done}
use Rattle.opening.proofs.open_scope.Goals as goal

pub overflow_add-t-2 : goal.overflow_add-t-2
overflow_add-t-2 c = let z = c in
    let a = z.args in
    let few = (open_pairs a.s.now a.tab.now a.b.now a.ent.now a.front a.base a.d a.q a.n a.values.now a.used a.total z.requires).few in
    let behind = open_behind a.s.now a.tab.now a.b.now a.ent.now a.front a.base a.d a.q a.n a.values.now a.used a.total z.requires in
    search rules

pub returns-then-t-n-gt4096 : goal.returns-then-t-n-gt4096
returns-then-t-n-gt4096 c = let z = c in
    let a = z.args in
    open_many a.s.now a.tab.now a.b.now a.ent.now a.front a.base a.d a.q a.n a.values.now a.used a.total z.requires c.if-t-n-gt4096.true

pub merge-requires : goal.merge-requires
merge-requires c = let z = c in
    let a = z.args in
    let pairs = open_pairs a.s.now a.tab.now a.b.now a.ent.now a.front a.base a.d a.q a.n a.values.now a.used a.total z.requires in
    let few = c.if-t-n-gt4096.false in
    (z.requires.small, open_base a.s.now a.tab.now a.b.now a.ent.now a.front a.base a.d a.q a.n a.values.now a.used a.total z.requires, pairs.few, few, omega (arith, few, open_table a.s.now a.tab.now a.b.now a.ent.now a.front a.base a.d a.q a.n a.values.now a.used a.total z.requires), pairs.holds, z.requires.long)

pub merged_entries-m-requires : goal.merged_entries-m-requires
merged_entries-m-requires c = let z = c in
    let a = z.args in
    (z.requires.plan, z.requires.small, open_parts a.s.now a.tab.now a.b.now a.ent.now a.front a.base a.d a.q a.n a.values.now a.used a.total z.requires c.if-t-n-gt4096.false c.merge.new.ent c.merge.ensures)

pub overflow_sub-total : goal.overflow_sub-total
overflow_sub-total c = let z = c in
    let a = z.args in
    open_total a.s.now a.tab.now a.b.now a.ent.now a.front a.base a.d a.q a.n a.values.now a.used a.total z.requires

pub returns-then-total-m : goal.returns-then-total-m
returns-then-total-m c = let z = c in
    let a = z.args in
    open_full a.s.now a.tab.now a.b.now a.ent.now a.front a.base a.d a.q a.n a.values.now a.used a.total z.requires c.if-t-n-gt4096.false c.merge.new.ent c.merge.ensures c.merged_entries-m.result c.merged_entries-m.ensures (omega (arith, c.if-total-m.true, open_total a.s.now a.tab.now a.b.now a.ent.now a.front a.base a.d a.q a.n a.values.now a.used a.total z.requires))

pub returns-then-used-ge32 : goal.returns-then-used-ge32
returns-then-used-ge32 c = let z = c in
    let a = z.args in
    open_deep a.s.now a.tab.now a.b.now a.ent.now a.front a.base a.d a.q a.n a.values.now a.used a.total z.requires c.if-t-n-gt4096.false c.merge.new.ent c.merge.ensures c.merged_entries-m.result c.merged_entries-m.ensures (omega (arith, c.if-total-m.false, open_total a.s.now a.tab.now a.b.now a.ent.now a.front a.base a.d a.q a.n a.values.now a.used a.total z.requires)) c.if-used-ge32.true

pub scope_of-requires : goal.scope_of-requires
scope_of-requires c = let z = c in
    let a = z.args in
    (open_base a.s.now a.tab.now a.b.now a.ent.now a.front a.base a.d a.q a.n a.values.now a.used a.total z.requires, (open_pairs a.s.now a.tab.now a.b.now a.ent.now a.front a.base a.d a.q a.n a.values.now a.used a.total z.requires).few, c.if-t-n-gt4096.false)

pub overflow_add-result : goal.overflow_add-result
overflow_add-result c = let z = c in
    let a = z.args in
    let total = open_total a.s.now a.tab.now a.b.now a.ent.now a.front a.base a.d a.q a.n a.values.now a.used a.total z.requires in
    let le = c.if-total-m.false in
    search rules

pub returns : goal.returns
returns c = let z = c in
    let a = z.args in
    open_done a.s.now a.tab.now a.b.now a.ent.now a.front a.base a.d a.q a.n a.values.now a.used a.total z.requires c.if-t-n-gt4096.false c.merge.new.ent c.merge.ensures c.merged_entries-m.result c.merged_entries-m.ensures c.scope_of.result c.scope_of.ensures (omega (arith, c.if-total-m.false, open_total a.s.now a.tab.now a.b.now a.ent.now a.front a.base a.d a.q a.n a.values.now a.used a.total z.requires)) c.if-used-ge32.false
