-- What a comparison says of `before`.
use Prim.Native.Nat.{Ordering as Order}
use mathlib.Core.Bool.{Bool, true, false}
use mathlib.Core.Path.{◌≡◌, refl, sym, ap, ◌∙◌}
use Rattle.std.specs.Ordering.{is_lt}
use Rattle.std.specs.declared.cmp.Ordering.{Ordering}
use Rattle.std.specs.declared.cmp.Ordering.TheVariants.{Less, Equal, Greater}
use Rattle.rules.specs.Bytes.{Bytes, pick, same, before}
use Rattle.rules.specs.Order.{cmp, cmp_lt, cmp_eq, before_irrefl}
use Rattle.saying.specs.Compared.{ordering}

pub less_before : (a b : Bytes) (r : Ordering) → ordering r ≡ cmp a b → is_lt r ≡ before a b
less_before a b Less h = sym (cmp_lt a b (sym h))
less_before a b Equal h = sym (ap (λ (x : Bytes). before x b) (cmp_eq a b (sym h)) ∙ before_irrefl b)
less_before a b Greater h = go (same a b) (before a b) h
  where
    go : (x y : Bool) → Order.gt ≡ pick x Order.eq (pick y Order.lt Order.gt) → false ≡ y
    go true y e = cc
    go false true e = cc
    go false false e = refl
