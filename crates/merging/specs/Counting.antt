-- The names of a merged object ascend, and how many there are.
use Rattle.std.specs.Prelude.{ℕ, ◌+◌, true, List, [], ◌∷◌, ◌≡◌}
use Rattle.std.proofs.Math.Option.{Option, none, some}
use Rattle.rules.specs.Bytes.{Bytes, before}
use Rattle.rules.specs.Json.{Json, Map, mnil, mcons, get_member, insert, Leads, Fits}

-- Order

-- the names ascend strictly; nothing is said of the values
abbrev pub Ascends : Map → Type 0
Ascends mnil = Unit {0}
Ascends (mcons k v l) = Leads k l × Ascends l

-- The values fit too, where those of the base and of the entries do

-- every entry's value fits
abbrev pub FitsEntries : List (Bytes × Json) → Type 0
FitsEntries [] = Unit {0}
FitsEntries (e ∷ h) = Fits e.1 × FitsEntries h

-- Counting

-- 1 where nothing was found, else 0
abbrev pub one_if_new : Option Json → ℕ
one_if_new none = 1
one_if_new (some j) = 0

-- how many entries have a name that neither the map nor an earlier entry has
abbrev pub new_names : List (Bytes × Json) → Map → ℕ
new_names [] m = 0
new_names (e ∷ h) m = one_if_new (get_member m e.0) + new_names h (insert e.0 e.1 m)

-- Keys that ascend

-- each key is strictly before the next
abbrev pub KeysAscend : List (Bytes × Json) → Type 0
KeysAscend [] = Unit {0}
KeysAscend (e ∷ []) = Unit {0}
KeysAscend (e ∷ f ∷ h) = (before e.0 f.0 ≡ true) × KeysAscend (f ∷ h)

-- how many entries have a name that the map does not have
abbrev pub lacking : List (Bytes × Json) → Map → ℕ
lacking [] m = 0
lacking (e ∷ h) m = one_if_new (get_member m e.0) + lacking h m
