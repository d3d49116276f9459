-- Runs of stores, and how many entries a tree has.
use mathlib.Core.List.{List, [], ◌∷◌, ◌++◌}
use mathlib.Core.Path.{◌≡◌, refl, ap, ◌∙◌}
use Prim.Native.Nat.{ℕ, suc, ◌+◌, ◌<◌}
use native.Mathlib.Omega.{arith}
use lib.ListN.{length, set, length-append}
use lib.Seq.{sets, set_comm}
use Rattle.rules.specs.Tree.{Tree, tree, Trees, tree_nil, tree_cons}
use Rattle.rules.specs.Plan.{size, sizes}
use Rattle.plan_read.specs.Table.{entries, entries_all}

pub sets_append : (xs ys tab : List ℕ) (n : ℕ) → sets tab n (xs ++ ys) ≡ sets (sets tab n xs) (n + length xs) ys
sets_append [] ys tab n = ap (λ (k : ℕ). sets tab k ys) (omega arith)
sets_append (x ∷ xs) ys tab n =
    sets_append xs ys (set tab n x) (suc n) ∙ ap (λ (k : ℕ). sets (sets (set tab n x) (suc n) xs) k ys) (omega arith)

-- a store in front of a run can come last
pub sets_before : (xs tab : List ℕ) (i n x : ℕ) → i < n → set (sets tab n xs) i x ≡ sets (set tab i x) n xs
sets_before [] tab i n x lt = refl
sets_before (y ∷ xs) tab i n x lt =
    sets_before xs (set tab n y) i (suc n) x (omega arith)
    ∙ ap (λ (l : List ℕ). sets l (suc n) xs) (set_comm tab n i y x (λ e. omega arith))

mutual
  pub entries_length : (t : Tree) (n : ℕ) → length (entries n t) ≡ size t
  entries_length (tree i m l) n =
      let h = entries_all_length l (n + 1) in
      omega arith

  pub entries_all_length : (l : Trees) (n : ℕ) → length (entries_all n l) ≡ sizes l
  entries_all_length tree_nil n = refl
  entries_all_length (tree_cons t l) n =
      let h = entries_length t n in
      let k = entries_all_length l (n + size t) in
      omega (arith, length-append (entries n t) (entries_all (n + size t) l))
