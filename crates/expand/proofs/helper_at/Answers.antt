use lib.Dec.{lit<}
use mathlib.Core.List.{[], ◌∷◌}
use mathlib.Core.Path.{refl, sym, ◌∙◌}
use Rattle.rules.specs.Bits.{bits}
use Rattle.rules.specs.BundleLaws.{bits_binary}
use Rattle.layout.specs.Text.{text_at}
use Rattle.names.specs.Head.{text_first}
use Rattle.expand.specs.declared.HelperDef.TheVariants.{Each, With, If, Unless, Lookup}
use Rattle.expand.specs.Names.{get_elsewhere}
use Rattle.expand.proofs.Naming.{get_each, get_with, get_if, get_unless, get_lookup, text_packed, by_bits}
use borrow.Author.Rules.{rules}
use Rattle.expand.proofs.helper_at.Goals as goal

pub returns-then-x-head : goal.returns-then-x-head
returns-then-x-head c = let a = c.args in
    let e = sym c.field-x.ensures ∙ c.if-x-head.true ∙ c.head.ensures in
    get_each (text_at (bits a.b.now) a.p) _ 101 (text_first (bits a.b.now) a.p (bits_binary a.b.now) 101 (97 ∷ 99 ∷ 104 ∷ []) (lit< tt) e) c.if_bits.result refl
    (by_bits Each _ _ _ c.if_bits.result c.if_bits.ensures c.packed.ensures (text_packed (bits a.b.now) (bits_binary a.b.now) a.p 101 (97 ∷ 99 ∷ 104 ∷ []) (lit< tt) e (lit< tt, (lit< tt, (lit< tt, (lit< tt, tt))))))

pub returns-then-x-head-2 : goal.returns-then-x-head-2
returns-then-x-head-2 c = let a = c.args in
    let e = sym c.field-x.ensures ∙ c.if-x-head-2.true ∙ c.head-2.ensures in
    get_with (text_at (bits a.b.now) a.p) _ 119 (text_first (bits a.b.now) a.p (bits_binary a.b.now) 119 (105 ∷ 116 ∷ 104 ∷ []) (lit< tt) e) c.if_bits-then-x-head-2.result refl
    (by_bits With _ _ _ c.if_bits-then-x-head-2.result c.if_bits-then-x-head-2.ensures c.packed-then-x-head-2.ensures (text_packed (bits a.b.now) (bits_binary a.b.now) a.p 119 (105 ∷ 116 ∷ 104 ∷ []) (lit< tt) e (lit< tt, (lit< tt, (lit< tt, (lit< tt, tt))))))

pub returns-then-x-head-3 : goal.returns-then-x-head-3
returns-then-x-head-3 c = let a = c.args in
    let e = sym c.field-x.ensures ∙ c.if-x-head-3.true ∙ c.head-3.ensures in
    get_if (text_at (bits a.b.now) a.p) _ 105 (text_first (bits a.b.now) a.p (bits_binary a.b.now) 105 (102 ∷ []) (lit< tt) e) c.if_bits-then-x-head-3.result refl
    (by_bits If _ _ _ c.if_bits-then-x-head-3.result c.if_bits-then-x-head-3.ensures c.packed-then-x-head-3.ensures (text_packed (bits a.b.now) (bits_binary a.b.now) a.p 105 (102 ∷ []) (lit< tt) e (lit< tt, (lit< tt, tt))))

pub returns-then-x-head-4 : goal.returns-then-x-head-4
returns-then-x-head-4 c = let a = c.args in
    let e = sym c.field-x.ensures ∙ c.if-x-head-4.true ∙ c.head-4.ensures in
    get_unless (text_at (bits a.b.now) a.p) _ 117 (text_first (bits a.b.now) a.p (bits_binary a.b.now) 117 (110 ∷ 108 ∷ 101 ∷ 115 ∷ 115 ∷ []) (lit< tt) e) c.if_bits-then-x-head-4.result refl
    (by_bits Unless _ _ _ c.if_bits-then-x-head-4.result c.if_bits-then-x-head-4.ensures c.packed-then-x-head-4.ensures (text_packed (bits a.b.now) (bits_binary a.b.now) a.p 117 (110 ∷ 108 ∷ 101 ∷ 115 ∷ 115 ∷ []) (lit< tt) e (lit< tt, (lit< tt, (lit< tt, (lit< tt, (lit< tt, (lit< tt, tt))))))))

pub returns-then-x-head-5 : goal.returns-then-x-head-5
returns-then-x-head-5 c = let a = c.args in
    let e = sym c.field-x.ensures ∙ c.if-x-head-5.true ∙ c.head-5.ensures in
    get_lookup (text_at (bits a.b.now) a.p) _ 108 (text_first (bits a.b.now) a.p (bits_binary a.b.now) 108 (111 ∷ 111 ∷ 107 ∷ 117 ∷ 112 ∷ []) (lit< tt) e) c.if_bits-then-x-head-5.result refl
    (by_bits Lookup _ _ _ c.if_bits-then-x-head-5.result c.if_bits-then-x-head-5.ensures c.packed-then-x-head-5.ensures (text_packed (bits a.b.now) (bits_binary a.b.now) a.p 108 (111 ∷ 111 ∷ 107 ∷ 117 ∷ 112 ∷ []) (lit< tt) e (lit< tt, (lit< tt, (lit< tt, (lit< tt, (lit< tt, (lit< tt, tt))))))))

pub returns : goal.returns
returns c = let a = c.args in
    get_elsewhere (bits a.b.now) a.p c.field-x.result c.field-x.ensures
    (λ q. c.if-x-head.false (q ∙ sym c.head.ensures))
    (λ q. c.if-x-head-2.false (q ∙ sym c.head-2.ensures))
    (λ q. c.if-x-head-3.false (q ∙ sym c.head-3.ensures))
    (λ q. c.if-x-head-4.false (q ∙ sym c.head-4.ensures))
    (λ q. c.if-x-head-5.false (q ∙ sym c.head-5.ensures))
