-- What is found in a merged object: the last entry of the name, and where there is none what the base has.
use Rattle.std.specs.Prelude.{ℕ, suc, List, [], ◌∷◌}
use Rattle.std.proofs.Math.Option.{Option, none, some}
use Rattle.rules.specs.Bytes.{Bytes, digits, pick, maybe, same}
use Rattle.rules.specs.Json.{Json, jstr, Jsons, jnil, jcons}
use Rattle.rules.specs.Context.{parse_usize}

-- The entries of the hash

-- the value of the last entry of that name
abbrev pub find_last : List (Bytes × Json) → Bytes → Option Json
find_last [] k = none
find_last (e ∷ h) k = let later = find_last h k in maybe later (pick (same e.0 k) (some e.1) none) some

-- Names that are numbers

-- the number whose digits these bytes are
unfoldable pub canonical : Bytes → Option ℕ
canonical k = maybe (parse_usize k) none (λ n. pick (same (digits n) k) (some n) none)

-- The items of a list under their numbers

-- how many items there are
abbrev pub count_items : Jsons → ℕ
count_items jnil = 0
count_items (jcons j l) = suc (count_items l)

-- The characters of a text under their numbers

-- each character as a text
abbrev pub texts : List Bytes → Jsons
texts [] = jnil
texts (c ∷ l) = jcons (jstr c) (texts l)
