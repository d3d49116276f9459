-- Walking a merged object by ascending name: the next member is the one with the least name above the last one's.
use Rattle.std.specs.Prelude.{ℕ, zero, suc, Bool, true, List, [], ◌∷◌}
use Rattle.std.proofs.Math.Option.{Option, none, some}
use Rattle.rules.specs.Bytes.{Bytes, pick, before}
use Rattle.rules.specs.Json.{Json, Jsons, jnil, jcons, Map, mnil, mcons}

-- The members above a name

-- the name x stands behind the name k; where there is no k yet, all do
abbrev pub is_above : Option Bytes → Bytes → Bool
is_above none x = true
is_above (some k) x = before k x

-- the members whose names do
abbrev pub above : Option Bytes → Map → Map
above k mnil = mnil
above k (mcons n j l) = let later = above k l in pick (is_above k n) (mcons n j later) later

-- the first member, if there is one
abbrev pub first_of : Map → Option (Bytes × Json)
first_of mnil = none
first_of (mcons n j l) = some (n, j)

-- The nearest of several

-- of an outer and an inner candidate the one whose name is before the other's; the outer one of the same name
abbrev pub combine : Option (Bytes × Json) → Option (Bytes × Json) → Option (Bytes × Json)
combine none b = b
combine (some a) none = some a
combine (some a) (some b) = pick (before b.0 a.0) (some b) (some a)

-- a member more: it is taken if it is above k and what there is so far is not before it
abbrev pub nearer : Option Bytes → Bytes → Json → Option (Bytes × Json) → Option (Bytes × Json)
nearer k x v o = pick (is_above k x) (combine (some (x, v)) o) o

-- The entries of the hash

-- for a loop from the first entry to the last, onto what there is so far
abbrev pub least_onto : Option Bytes → Option (Bytes × Json) → List (Bytes × Json) → Option (Bytes × Json)
least_onto k o [] = o
least_onto k o (e ∷ h) = least_onto k (nearer k e.0 e.1 o) h

-- the entry with the least name above k; the last one of that name
abbrev pub least : Option Bytes → List (Bytes × Json) → Option (Bytes × Json)
least k h = least_onto k none h

-- Items and characters under their numbers

-- one item more at the end
abbrev pub with_item : Jsons → Json → Jsons
with_item jnil x = jcons x jnil
with_item (jcons j l) x = jcons j (with_item l x)

-- the first n items
abbrev pub first_items : ℕ → Jsons → Jsons
first_items zero l = jnil
first_items (suc n) jnil = jnil
first_items (suc n) (jcons j l) = jcons j (first_items n l)
