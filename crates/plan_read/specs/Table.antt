-- The table of a plan's values. The values are numbered in the order in which they start, from 0 on: a value comes before those inside it.
use Rattle.std.specs.Prelude.{ℕ, ◌+◌, List, [], ◌∷◌, ◌++◌, eqb, replicate}
use Rattle.std.proofs.lemmas.List.Edits.{sets}
use Rattle.rules.specs.Bytes.{Bytes, pick}
use Rattle.rules.specs.Tree.{Tree, tree, Trees, tree_nil, tree_cons, Value, no_value, value}
use Rattle.rules.specs.Plan.{size, sizes, text, answer}
use Rattle.plan_read.specs.Packing.{pack}

-- an entry: the value's first byte, its name's first quote (0 for none), and the number behind the last value inside it
abbrev pub entry : ℕ → ℕ → ℕ → ℕ
entry start name next = pack 16 start (pack 16 name next)

-- the entries of a tree whose own number is n
abbrev mutual
  pub entries : ℕ → Tree → List ℕ
  entries n (tree i m l) = entry i m (n + (1 + sizes l)) ∷ entries_all (n + 1) l

  pub entries_all : ℕ → Trees → List ℕ
  entries_all n tree_nil = []
  entries_all n (tree_cons t l) = entries n t ++ entries_all (n + size t) l

-- a table of n entries: those of the values, and zeros behind them
abbrev pub filled : ℕ → Value → List ℕ
filled n no_value = replicate n 0
filled n (value t e) = sets (replicate n 0) 0 (entries 0 t)

-- what the reader of a text leaves in a table of n entries
unfoldable pub table : ℕ → Bytes → List ℕ
table n s = pick (eqb (answer s) 0) (filled n (text s)) (replicate n 0)
