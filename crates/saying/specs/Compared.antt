-- The order of the rules, as the code holds it, and what a name says.
use Prim.Native.Nat.{◌+◌, ◌*◌, ◌≤◌, ◌<◌, Ordering as Order}
use Rattle.rules.specs.Bytes.{Bytes}
use Rattle.rules.specs.Bits.{bits}
use Rattle.rules.specs.Scan.{saying}
use Rattle.bits.specs.Packed.{bytes_at}
use Rattle.std.specs.declared.cmp.Ordering.{Ordering}
use Rattle.std.specs.declared.cmp.Ordering.TheVariants.{Less, Equal, Greater}
use Rattle.saying.specs.declared.Name.{Name}
use Rattle.saying.specs.declared.Name.TheVariants.{Lent, Quoted, Packed}

abbrev pub ordering : Ordering → Order
ordering Less = Order.lt
ordering Equal = Order.eq
ordering Greater = Order.gt

-- by the text s and the lent bytes w
abbrev pub name_bytes : Bytes → Bytes → Name → Bytes
name_bytes s w Lent = w
name_bytes s w (Quoted q) = saying s q
name_bytes s w (Packed p n) = bytes_at (bits w) p n

-- its places are such as a text and a bundle have
abbrev pub NameFits : Name → Type 0
NameFits Lent = Unit {0}
NameFits (Quoted q) = q ≤ 65536
NameFits (Packed p n) = p + 8 * n < 18446744073709551616
