use Prim.Native.Nat.{◌*◌, ◌+◌, ◌-◌, ◌<◌, suc, ℕ}
use Rattle.plan_read.proofs.Items.{Left, left_start, turn_broken, turn_down, turn_end, turn_fine, turn_none, turn_on, turn_stop}
use Rattle.plan_read.proofs.Quick.{plain_in, plain_met}
use Rattle.plan_read.proofs.Opens.{name_before, open_in, open_low, place_goes}
use Rattle.plan_read.proofs.Values.{fine_values, reading, value_deep, value_empty, value_items, value_leaf, value_none}
use Rattle.rules.specs.Bytes.{byte_at}
use Rattle.rules.specs.Tree.{is_open, item_place, items, value_of}
use Rattle.scan.proofs.Bounds.{spaces_go}
use borrow.Author.Rules.{rules}
use borrow.Author.Tests.{not-false, not-true}
use lib.ListN.{length, set}
use mathlib.Core.Bool.{Bool, false, not, true}
use mathlib.Core.Path.{◌∙◌, ◌≡◌, ap, refl, sym}
use native.Mathlib.Omega.{arith}
use Rattle.plan_read.proofs.+reading.Goals as goal

opened : (x y : ℕ) (t : Bool) → x ≡ y → t ≡ is_open x → not t ≡ false → is_open y ≡ true
opened x y t e h n = ap is_open (sym e) ∙ sym h ∙ not-false t n

pub read_item-shape_of-tab-then-e-eq-NOTHING : goal.read_item-shape_of-tab-then-e-eq-NOTHING
read_item-shape_of-tab-then-e-eq-NOTHING t c = c.read_value.auto.tab

pub read_item-returns-then-e-eq-NOTHING : goal.read_item-returns-then-e-eq-NOTHING
read_item-returns-then-e-eq-NOTHING t c = c.read_value.ensures

pub read_item-entry_of-requires : goal.read_item-entry_of-requires
read_item-entry_of-requires t c = let a = c.args in
    let l = plain_in a.s.now a.i c.plain_end-e.result c.plain_end-e.ensures c.if-e-eq-NOTHING.false (omega (arith, c.requires)) in
    omega (arith, c.requires)

pub read_item-returns : goal.read_item-returns
read_item-returns t c = let a = c.args in
    plain_met a.s.now a.i c.plain_end-e.result c.plain_end-e.ensures c.if-e-eq-NOTHING.false (omega (arith, c.requires))
    a.name a.n a.bad a.left a.tab.now c.put.new.tab (c.put.ensures ∙ ap (set a.tab.now a.n) c.entry_of.ensures)

pub read_items-loop-close-init : goal.read_items-loop-close-init
read_items-loop-close-init t c = let a = c.args in
    left_start a.s.now (value_of a.s.now a.left) a.close a.i a.n a.bad a.tab.now (omega arith) (omega arith) (omega arith)

pub read_items-item_place-p-requires : goal.read_items-item_place-p-requires
read_items-item_place-p-requires t c = (c.loop-close.invariant.here, omega arith)

pub read_items-shape_of-tab-then-p-eq-NOTHING : goal.read_items-shape_of-tab-then-p-eq-NOTHING
read_items-shape_of-tab-then-p-eq-NOTHING t c = c.loop-close.invariant.kept

pub read_items-returns-then-p-eq-NOTHING : goal.read_items-returns-then-p-eq-NOTHING
read_items-returns-then-p-eq-NOTHING t c = turn_none c.loop-close.invariant (reading 0 c.loop-close.m c.loop-close.b) (sym c.item_place-p.ensures ∙ c.if-p-eq-NOTHING.true) refl

pub read_items-read_item-r-requires : goal.read_items-read_item-r-requires
read_items-read_item-r-requires t c = let a = c.args in
    let l = c.loop-close in
    let g = place_goes a.s.now a.close l.j l.invariant.here in
    let n : (item_place a.s.now a.close l.j ≡ 0 → ⊥) = λ z. c.if-p-eq-NOTHING.false (c.item_place-p.ensures ∙ z) in
    let o = g.on n in
    let b = name_before a.s.now a.close l.j (omega (arith, n, g.within)) n in
    omega (arith, c.item_place-p.ensures, g.within, l.invariant.low, l.invariant.few, c.item_name.ensures, c.requires)

pub read_items-shape_of-tab-then-r-eq-NOTHING : goal.read_items-shape_of-tab-then-r-eq-NOTHING
read_items-shape_of-tab-then-r-eq-NOTHING t c = c.read_item-r.auto.tab ∙ c.loop-close.invariant.kept

pub read_items-returns-then-r-eq-NOTHING : goal.read_items-returns-then-r-eq-NOTHING
read_items-returns-then-r-eq-NOTHING t c = let r = c.read_item-r in
    turn_broken c.loop-close.invariant c.item_place-p.result c.item_name.result c.item_place-p.ensures c.if-p-eq-NOTHING.false c.item_name.ensures
    r.result r.new.tab r.ensures c.if-r-eq-NOTHING.true

pub read_items-overflow_add-result : goal.read_items-overflow_add-result
read_items-overflow_add-result t c = let r = c.read_item-r in
    let f = turn_fine c.loop-close.invariant c.item_place-p.result c.item_name.result c.item_place-p.ensures c.if-p-eq-NOTHING.false c.item_name.ensures
    r.result r.new.tab r.ensures c.if-r-eq-NOTHING.false in
    let w = spaces_go c.args.s.now r.result.at f.inside in
    omega (arith, c.find_mark-k.ensures.place, w.within, c.requires)

pub read_items-shape_of-tab-then-c-close : goal.read_items-shape_of-tab-then-c-close
read_items-shape_of-tab-then-c-close t c = c.read_item-r.auto.tab ∙ c.loop-close.invariant.kept

pub read_items-returns-then-c-close : goal.read_items-returns-then-c-close
read_items-returns-then-c-close t c = let r = c.read_item-r in
    turn_end c.loop-close.invariant c.item_place-p.result c.item_name.result c.item_place-p.ensures c.if-p-eq-NOTHING.false c.item_name.ensures
    r.result r.new.tab r.ensures c.if-r-eq-NOTHING.false c.find_mark-k.result.at c.find_mark-k.result.byte c.find_mark-k.ensures.place c.find_mark-k.ensures.here
    c.if-c-close.true (λ z. omega (arith, c.requires))

pub read_items-shape_of-tab-then-c-ne44 : goal.read_items-shape_of-tab-then-c-ne44
read_items-shape_of-tab-then-c-ne44 t c = c.read_item-r.auto.tab ∙ c.loop-close.invariant.kept

pub read_items-returns-then-c-ne44 : goal.read_items-returns-then-c-ne44
read_items-returns-then-c-ne44 t c = let r = c.read_item-r in
    turn_stop c.loop-close.invariant c.item_place-p.result c.item_name.result c.item_place-p.ensures c.if-p-eq-NOTHING.false c.item_name.ensures
    r.result r.new.tab r.ensures c.if-r-eq-NOTHING.false c.find_mark-k.result.at c.find_mark-k.result.byte c.find_mark-k.ensures.place c.find_mark-k.ensures.here
    (reading 0 c.loop-close.m c.loop-close.b) c.if-c-close.false c.if-c-ne44.true refl

pub read_items-overflow_add-e : goal.read_items-overflow_add-e
read_items-overflow_add-e t c = let r = c.read_item-r in
    let f = turn_fine c.loop-close.invariant c.item_place-p.result c.item_name.result c.item_place-p.ensures c.if-p-eq-NOTHING.false c.item_name.ensures
    r.result r.new.tab r.ensures c.if-r-eq-NOTHING.false in
    let w = spaces_go c.args.s.now r.result.at f.inside in
    omega (arith, c.find_mark-k.ensures.place, w.within, c.requires)

pub read_items-loop-close-smaller : goal.read_items-loop-close-smaller
read_items-loop-close-smaller t c = let r = c.read_item-r in
    let n = turn_on c.loop-close.invariant c.item_place-p.result c.item_name.result c.item_place-p.ensures c.if-p-eq-NOTHING.false c.item_name.ensures
    r.result r.new.tab r.ensures c.if-r-eq-NOTHING.false c.find_mark-k.result.at c.find_mark-k.result.byte c.find_mark-k.ensures.place c.find_mark-k.ensures.here
    c.if-c-close.false c.if-c-ne44.false c.spaces_end-j.result c.spaces_end-j.ensures r.auto.tab in
    let d = turn_down c.loop-close.invariant c.item_place-p.result c.item_name.result c.item_place-p.ensures c.if-p-eq-NOTHING.false c.item_name.ensures
    r.result r.new.tab r.ensures c.if-r-eq-NOTHING.false c.find_mark-k.result.at c.find_mark-k.result.byte c.find_mark-k.ensures.place c.find_mark-k.ensures.here
    c.spaces_end-j.result c.spaces_end-j.ensures in
    omega (arith, n.here)

pub read_items-loop-close-preserved : goal.read_items-loop-close-preserved
read_items-loop-close-preserved t c = let r = c.read_item-r in
    turn_on c.loop-close.invariant c.item_place-p.result c.item_name.result c.item_place-p.ensures c.if-p-eq-NOTHING.false c.item_name.ensures
    r.result r.new.tab r.ensures c.if-r-eq-NOTHING.false c.find_mark-k.result.at c.find_mark-k.result.byte c.find_mark-k.ensures.place c.find_mark-k.ensures.here
    c.if-c-close.false c.if-c-ne44.false c.spaces_end-j.result c.spaces_end-j.ensures r.auto.tab

pub read_value-returns-then-not-is_open : goal.read_value-returns-then-not-is_open
read_value-returns-then-not-is_open t c = let a = c.args in
    value_leaf a.s.now a.i a.name a.n a.bad a.tab.now a.left c.read_leaf.result c.read_leaf.new.tab
    (ap is_open (sym c.byte-c.ensures) ∙ sym c.is_open.ensures ∙ c.if-not-is_open.true) c.read_leaf.ensures

pub read_value-returns-then-left-eq0 : goal.read_value-returns-then-left-eq0
read_value-returns-then-left-eq0 t c = let a = c.args in
    let o = opened _ _ _ c.byte-c.ensures c.is_open.ensures (ap not c.if-not-is_open.false) in
    value_deep a.s.now a.i a.name a.n a.bad a.tab.now a.left (reading 0 a.n a.bad) a.tab.now o c.if-left-eq0.true refl

pub read_value-overflow_add-close : goal.read_value-overflow_add-close
read_value-overflow_add-close t c = let o = opened _ _ _ c.byte-c.ensures c.is_open.ensures (ap not c.if-not-is_open.false) in
    omega (arith, open_low _ o, c.byte-c.ensures)

pub read_value-entry_of-requires : goal.read_value-entry_of-requires
read_value-entry_of-requires t c = let o = opened _ _ _ c.byte-c.ensures c.is_open.ensures (ap not c.if-not-is_open.false) in
    omega (arith, open_in c.args.s.now c.args.i o, c.requires)

pub read_value-overflow_add-result : goal.read_value-overflow_add-result
read_value-overflow_add-result t c = let a = c.args in
    let o = opened _ _ _ c.byte-c.ensures c.is_open.ensures (ap not c.if-not-is_open.false) in
    let l = open_in a.s.now a.i o in
    let w = spaces_go a.s.now (a.i + 1) (omega arith) in
    omega (arith, c.spaces_end-j.ensures, w.within, c.requires)

pub read_value-returns-then-byte-close : goal.read_value-returns-then-byte-close
read_value-returns-then-byte-close t c = let a = c.args in
    let o = opened _ _ _ c.byte-c.ensures c.is_open.ensures (ap not c.if-not-is_open.false) in
    let d : a.left ≡ suc (a.left - 1) = omega (arith, c.if-left-eq0.false) in
    let q : byte_at a.s.now c.spaces_end-j.result ≡ byte_at a.s.now a.i + 2 = sym c.byte.ensures ∙ c.if-byte-close.true ∙ ap (λ (k : ℕ). k + 2) c.byte-c.ensures in
    value_empty a.s.now a.i a.name a.n a.bad a.tab.now (a.left - 1) a.left c.spaces_end-j.result c.put.new.tab
    d o c.spaces_end-j.ensures q (c.put.ensures ∙ ap (set a.tab.now a.n) c.entry_of.ensures)

pub read_value-read_items-r-requires : goal.read_value-read_items-r-requires
read_value-read_items-r-requires t c = let a = c.args in
    let o = opened _ _ _ c.byte-c.ensures c.is_open.ensures (ap not c.if-not-is_open.false) in
    let l = open_in a.s.now a.i o in
    let w = spaces_go a.s.now (a.i + 1) (omega arith) in
    omega (arith, c.spaces_end-j.ensures, w.within, c.if-left-eq0.false, c.requires)

pub read_value-shape_of-tab-then-r-eq-NOTHING : goal.read_value-shape_of-tab-then-r-eq-NOTHING
read_value-shape_of-tab-then-r-eq-NOTHING t c = c.read_items-r.auto.tab

pub read_value-returns-then-r-eq-NOTHING : goal.read_value-returns-then-r-eq-NOTHING
read_value-returns-then-r-eq-NOTHING t c = let a = c.args in
    let r = c.read_items-r in
    let o = opened _ _ _ c.byte-c.ensures c.is_open.ensures (ap not c.if-not-is_open.false) in
    let d : a.left ≡ suc (a.left - 1) = omega (arith, c.if-left-eq0.false) in
    value_none a.s.now a.i a.name a.n a.bad a.tab.now (a.left - 1) a.left c.spaces_end-j.result _ r.result r.new.tab
    d o c.spaces_end-j.ensures (ap (λ (k : ℕ). k + 2) c.byte-c.ensures) (λ z. c.if-byte-close.false (c.byte.ensures ∙ z)) r.ensures c.if-r-eq-NOTHING.true

pub read_value-entry_of-requires-2 : goal.read_value-entry_of-requires-2
read_value-entry_of-requires-2 t c = let a = c.args in
    let r = c.read_items-r in
    let o = opened _ _ _ c.byte-c.ensures c.is_open.ensures (ap not c.if-not-is_open.false) in
    let l = open_in a.s.now a.i o in
    let f = fine_values a.s.now c.spaces_end-j.result (a.n + 1) a.bad a.tab.now r.result r.new.tab
    (items a.s.now (value_of a.s.now (a.left - 1)) (c.byte-c.result + 2) (suc (length a.s.now)) c.spaces_end-j.result) r.ensures c.if-r-eq-NOTHING.false (omega (arith, c.spaces_end-j.ensures, c.requires)) (omega (arith, c.requires)) in
    omega (arith, f.low, f.inside, c.requires)

pub read_value-shape_of-tab : goal.read_value-shape_of-tab
read_value-shape_of-tab t c = c.put-2.auto.tab ∙ c.read_items-r.auto.tab

pub read_value-returns : goal.read_value-returns
read_value-returns t c = let a = c.args in
    let r = c.read_items-r in
    let o = opened _ _ _ c.byte-c.ensures c.is_open.ensures (ap not c.if-not-is_open.false) in
    let d : a.left ≡ suc (a.left - 1) = omega (arith, c.if-left-eq0.false) in
    value_items a.s.now a.i a.name a.n a.bad a.tab.now (a.left - 1) a.left c.spaces_end-j.result _ r.result r.new.tab
    d o c.spaces_end-j.ensures (ap (λ (k : ℕ). k + 2) c.byte-c.ensures) (λ z. c.if-byte-close.false (c.byte.ensures ∙ z)) r.ensures c.put-2.new.tab
    c.if-r-eq-NOTHING.false (c.put-2.ensures ∙ ap (set r.new.tab a.n) c.entry_of-2.ensures)
