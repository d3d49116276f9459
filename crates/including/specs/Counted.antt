-- A merge takes at least as many entries as its hash has pairs.
use Rattle.std.specs.Prelude.{ℕ, zero, suc, ◌+◌, ◌≤◌, Bool, true, false, List, [], ◌∷◌, ◌≡◌, refl, length}
use Rattle.std.proofs.Common.{sym, ap, ◌∙◌, subst, arith}
use Rattle.rules.specs.Bytes.{Bytes, pick, same, before}
use Rattle.rules.specs.Order.{before_trans, before_irrefl, same_eq}
use Rattle.rules.specs.Bits.{bits}
use Rattle.rules.specs.Json.{Json, Map, mnil, mcons, insert, count}
use Rattle.rules.specs.Context.{insert_all, base_map, merge_json}
use Rattle.rules.specs.Partial.{hash_ctx, merged_entries}
use Rattle.merging.specs.Counting.{KeysAscend}
use Rattle.including.specs.Values.{hash_pairs}
use Rattle.including.specs.Pairs.{PairsStand}

-- how many members have a name before k
abbrev names_before : Bytes → Map → ℕ
names_before k mnil = 0
names_before k (mcons n j l) = pick (before n k) 1 0 + names_before k l

before_later : (k q n : Bytes) → before k q ≡ true → pick (before n k) 1 0 ≤ pick (before n q) 1 0
before_later k q n h = go (before n k) refl
  where
    go : (y : Bool) → before n k ≡ y → pick y 1 0 ≤ pick (before n q) 1 0
    go true e = rw (before_trans n k q e h) (omega arith)
    go false e = omega arith

names_later : (k q : Bytes) (m : Map) → before k q ≡ true → names_before k m ≤ names_before q m
names_later k q mnil h = omega arith
names_later k q (mcons n j l) h = omega (arith, before_later k q n h, names_later k q l h)

one_at_most : (y : Bool) → pick y 1 0 ≤ 1
one_at_most true = omega arith
one_at_most false = omega arith

few_before : (k : Bytes) (m : Map) → names_before k m ≤ count m
few_before k mnil = omega arith
few_before k (mcons n j l) = omega (arith, few_before k l, one_at_most (before n k))

-- a member that is put in is one of those before a later name
inserted_before : (k q : Bytes) (v : Json) (m : Map) → before k q ≡ true → names_before k m + 1 ≤ names_before q (insert k v m)
inserted_before k q v mnil h = rw h (omega arith)
inserted_before k q v (mcons n j l) h = go (same k n) refl (before k n) (inserted_before k q v l h)
  where
    go : (y : Bool) → same k n ≡ y → (z : Bool) → names_before k l + 1 ≤ names_before q (insert k v l)
        → names_before k (mcons n j l) + 1 ≤ names_before q (pick y (mcons k v l) (pick z (mcons k v (mcons n j l)) (mcons n j (insert k v l))))
    go true e z later =
        let x : before n k ≡ false = ap (λ (w : Bytes). before w k) (sym (same_eq k n e)) ∙ before_irrefl k in
        rw (h, x) (omega (arith, names_later k q l h))
    go false e true later = rw h (omega (arith, names_later k q (mcons n j l) h))
    go false e false later = omega (arith, later, before_later k q n h)

inserted : (k : Bytes) (v : Json) (m : Map) → names_before k m + 1 ≤ count (insert k v m)
inserted k v mnil = omega arith
inserted k v (mcons n j l) = go (same k n) refl (before k n) (inserted k v l)
  where
    go : (y : Bool) → same k n ≡ y → (z : Bool) → names_before k l + 1 ≤ count (insert k v l)
        → names_before k (mcons n j l) + 1 ≤ count (pick y (mcons k v l) (pick z (mcons k v (mcons n j l)) (mcons n j (insert k v l))))
    go true e z later =
        let x : before n k ≡ false = ap (λ (w : Bytes). before w k) (sym (same_eq k n e)) ∙ before_irrefl k in
        rw x (omega (arith, few_before k l))
    go false e true later = omega (arith, few_before k (mcons n j l))
    go false e false later = omega (arith, later, one_at_most (before n k))

many : (h : List (Bytes × Json)) (e : Bytes × Json) (m : Map) → KeysAscend (e ∷ h) → names_before e.0 m + suc (length h) ≤ count (insert_all (e ∷ h) m)
many [] e m a = omega (arith, inserted e.0 e.1 m)
many (f ∷ h) e m a = omega (arith, many h f (insert e.0 e.1 m) a.1, inserted_before e.0 f.0 e.1 m a.0)

merge_takes : (h : List (Bytes × Json)) (j : Json) → KeysAscend h → length h ≤ merged_entries h (merge_json j h)
merge_takes [] j a = omega arith
merge_takes (e ∷ h) j a = omega (arith, many h e (base_map j) a)

-- the pairs of a call
module _ (s b : Bytes) (ent l : List ℕ) (d p n : ℕ) (P : PairsStand (bits b) d p n) where
  keys_ascend : (m i : ℕ) → i + m ≤ n → KeysAscend (hash_ctx (hash_pairs s b ent d p l i m))
  keys_ascend zero i le = tt
  keys_ascend (suc zero) i le = tt
  keys_ascend (suc (suc m)) i le = (P.ascend i (omega arith), keys_ascend (suc m) (suc i) (omega arith))

  hash_length : (m i : ℕ) → length (hash_ctx (hash_pairs s b ent d p l i m)) ≡ m
  hash_length zero i = refl
  hash_length (suc m) i = ap suc (hash_length m (suc i))

  pub pairs_taken : (j : Json) → n ≤ merged_entries (hash_ctx (hash_pairs s b ent d p l 0 n)) (merge_json j (hash_ctx (hash_pairs s b ent d p l 0 n)))
  pairs_taken j = subst (λ (k : ℕ). k ≤ merged_entries (hash_ctx (hash_pairs s b ent d p l 0 n)) (merge_json j (hash_ctx (hash_pairs s b ent d p l 0 n)))) (hash_length n 0) (merge_takes (hash_ctx (hash_pairs s b ent d p l 0 n)) j (keys_ascend n 0 (omega arith)))
