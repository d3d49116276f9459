-- The values of a plan by their numbers: what stands at a place, and which places stand inside it.
use Rattle.std.specs.Prelude.{ℕ, zero, suc, ◌+◌, Bool, true, false, ◌&&◌, ◌||◌, not, List, [], ◌∷◌, ◌++◌, eqb, get_or}
use Rattle.std.proofs.Math.Option.{Option, none, some}
use Rattle.rules.specs.Bytes.{Bytes, pick, byte_at, same, before, digits}
use Rattle.rules.specs.Json.{Json, Jsons, jnil, jcons, Map, mnil, mcons}
use Rattle.rules.specs.Scan.{saying}
use Rattle.rules.specs.Tree.{Tree, tree, Trees, tree_nil, tree_cons, Value, no_value, value}
use Rattle.rules.specs.Plan.{size, text, name_of, meaning}

abbrev pub start_of : Tree → ℕ
start_of (tree i m l) = i

abbrev pub inside : Tree → Trees
inside (tree i m l) = l

-- whether one of them has the name w
abbrev pub has_name : Bytes → Bytes → Trees → Bool
has_name s w tree_nil = false
has_name s w (tree_cons t l) = same (saying s (name_of t)) w || has_name s w l

-- What stands at a place: a tree; the names and decimal indexes that lead to it from the root; and whether it is live:
-- neither it nor what it stands in is a member that a later one of the same name replaces.
pub record Node : Type 0 where
  pub tree : Tree
  pub path : List Bytes
  pub live : Bool

-- the tree t is the value k of an object (`named`) or of a list
abbrev pub key : Bytes → Bool → ℕ → Tree → Bytes
key s named k t = pick named (saying s (name_of t)) (digits k)

-- and those of the same object behind it are l
abbrev pub replaced : Bytes → Bool → Tree → Trees → Bool
replaced s named t l = named && has_name s (saying s (name_of t)) l

-- all nodes of a tree in the order of their numbers
abbrev mutual
  pub nodes : Bytes → List Bytes → Bool → Tree → List Node
  nodes s p a (tree i m l) = record { tree = tree i m l; path = p; live = a } ∷ nodes_all s p a (eqb (byte_at s i) 123) 0 l

  pub nodes_all : Bytes → List Bytes → Bool → Bool → ℕ → Trees → List Node
  nodes_all s p a named k tree_nil = []
  nodes_all s p a named k (tree_cons t l) =
      nodes s (p ++ (key s named k t ∷ [])) (a && not (replaced s named t l)) t ++ nodes_all s p a named (suc k) l

abbrev pub tree_of : Value → Tree
tree_of no_value = tree 0 0 tree_nil
tree_of (value t e) = t

unfoldable pub root : Bytes → Tree
root s = tree_of (text s)

-- how many places the plan has; the first one, 0, is the whole
unfoldable pub places : Bytes → ℕ
places s = size (root s)

unfoldable pub all_nodes : Bytes → List Node
all_nodes s = nodes s [] true (root s)

-- behind the last place
abbrev pub nowhere : Node
nowhere = record { tree = tree 0 0 tree_nil; path = []; live = false }

unfoldable pub node_at : Bytes → ℕ → Node
node_at s i = get_or (all_nodes s) i nowhere

abbrev pub tree_at : Bytes → ℕ → Tree
tree_at s i = (node_at s i).tree

abbrev pub path_at : Bytes → ℕ → List Bytes
path_at s i = (node_at s i).path

abbrev pub live_at : Bytes → ℕ → Bool
live_at s i = (node_at s i).live

-- the value, and the name before it
unfoldable pub json_at : Bytes → ℕ → Json
json_at s i = meaning s (tree_at s i)

unfoldable pub name_at : Bytes → ℕ → Bytes
name_at s i = saying s (name_of (tree_at s i))

-- Those inside

abbrev pub children_from : ℕ → Trees → List ℕ
children_from n tree_nil = []
children_from n (tree_cons t l) = n ∷ children_from (n + size t) l

-- the places of the values that stand directly inside the one at i
unfoldable pub children : Bytes → ℕ → List ℕ
children s i = children_from (i + 1) (inside (tree_at s i))

-- the last of the places whose name is w, or else `best`
abbrev pub last_onto : Bytes → Bytes → Option ℕ → List ℕ → Option ℕ
last_onto s w best [] = best
last_onto s w best (p ∷ l) = last_onto s w (pick (same (name_at s p) w) (some p) best) l

-- the member w of the object at i
unfoldable pub member : Bytes → ℕ → Bytes → Option ℕ
member s i w = last_onto s w none (children s i)

-- 1 where none of the places has the name w
abbrev pub one_if_new : Bytes → Bytes → List ℕ → ℕ
one_if_new s w [] = 1
one_if_new s w (p ∷ l) = let later = one_if_new s w l in pick (same (name_at s p) w) 0 later

-- Members in the order of their names

-- the names behind a given one, or all
abbrev pub above : Option Bytes → Bytes → Bool
above none n = true
above (some k) n = before k n

-- whether p takes the place of the best one so far: of equal names the later one is meant
abbrev pub better : Bytes → Option Bytes → Option ℕ → ℕ → Bool
better s after none p = above after (name_at s p)
better s after (some b) p = above after (name_at s p) && not (before (name_at s b) (name_at s p))

abbrev pub least_onto : Bytes → Option Bytes → Option ℕ → List ℕ → Option ℕ
least_onto s after best [] = best
least_onto s after best (p ∷ l) = least_onto s after (pick (better s after best p) (some p) best) l

-- the member of the object at i with the least name behind `after`
unfoldable pub next_member : Bytes → ℕ → Option Bytes → Option ℕ
next_member s i after = least_onto s after none (children s i)

-- What stands at a place that was found

abbrev pub value_at : Bytes → Option ℕ → Option Json
value_at s none = none
value_at s (some p) = some (json_at s p)

-- what is left of a list behind k values
abbrev pub items_from : ℕ → Jsons → Jsons
items_from zero v = v
items_from (suc k) jnil = jnil
items_from (suc k) (jcons j l) = items_from k l

abbrev pub count_items : Jsons → ℕ
count_items jnil = 0
count_items (jcons j l) = suc (count_items l)

-- what is left of a map behind a name
abbrev pub rest_above : Option Bytes → Map → Map
rest_above after mnil = mnil
rest_above after (mcons n j l) = let later = rest_above after l in pick (above after n) (mcons n j l) later
