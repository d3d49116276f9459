-- The entry of a place in the table of an accepted plan.
use Rattle.std.specs.Prelude.{ℕ, zero, suc, ◌+◌, ◌-◌, ◌/◌, ◌%◌, ◌≤◌, ◌<◌, Bool, false, ◌&&◌, not, ◌≡◌, refl, eqb, ltb, length, take, replicate}
use Rattle.std.proofs.Math.Bool.{true}
use mathlib.Core.List.{List, [], ◌∷◌, ◌++◌}
use Rattle.std.proofs.Common.{sym, ◌∙◌, subst, add-zero, zero-add, arith, get_or-append-add, length-take-le, ltb-true, ltb-false}
use Rattle.std.proofs.Math.Path.{ap, ap₂}
use Rattle.std.proofs.Math.ListN.{get_or, drop, length-replicate, get_or-append}
use Rattle.std.proofs.lemmas.List.{replicate-append-replicate}
use Rattle.std.proofs.lemmas.List.Edits.{sets}
use Rattle.std.proofs.Math.Seq.{sets-eq, drop_at}
use Rattle.rules.specs.Bytes.{Bytes, byte_at, pick}
use Rattle.rules.specs.Tree.{Tree, tree, Trees, tree_nil, tree_cons}
use Rattle.rules.specs.Plan.{size, sizes, name_of, answer, text}
use Rattle.rules.specs.PlanLaws.{plan_read}
use Rattle.plan_read.specs.Packing.{unpack_first, unpack_second}
use Rattle.plan_read.specs.Table.{entry, entries, entries_all, filled, table}
use Rattle.plan_read.proofs.Stored.{entries_length}
use Rattle.places.specs.Places.{start_of, inside, Node, key, replaced, nodes, nodes_all, root, places, all_nodes, node_at, tree_at}
use Rattle.places.specs.Accepted.{Accepted}
use Rattle.places.specs.Nodes.{nodes_length, root_node, root_is, few_places, short, sound_at}

-- the tree t with the number n
abbrev pub entry_for : ℕ → Tree → ℕ
entry_for n t = entry (start_of t) (name_of t) (n + size t)

-- the node d is never met
module _ (s : Bytes) (d : Node) where
  mutual
    nth_entry : (p : List Bytes) (a : Bool) (t : Tree) (n i : ℕ) → i < size t → get_or (entries n t) i 0 ≡ entry_for (n + i) (get_or (nodes s p a t) i d).tree
    nth_entry p a (tree b m l) n zero lt = ap (λ (k : ℕ). entry b m (k + (1 + sizes l))) (sym (add-zero n))
    nth_entry p a (tree b m l) n (suc i) lt =
        nth_entry_all p a (eqb (byte_at s b) 123) 0 l (n + 1) i (omega arith)
        ∙ ap (λ (k : ℕ). entry_for k (get_or (nodes_all s p a (eqb (byte_at s b) 123) 0 l) i d).tree) (omega arith)

    nth_entry_all : (p : List Bytes) (a named : Bool) (k : ℕ) (l : Trees) (n i : ℕ) → i < sizes l
        → get_or (entries_all n l) i 0 ≡ entry_for (n + i) (get_or (nodes_all s p a named k l) i d).tree
    nth_entry_all p a named k tree_nil n i lt = absurd (omega arith)
    nth_entry_all p a named k (tree_cons t l) n i lt =
        go (ltb i (size t)) refl (λ b. nth_entry (p ++ (key s named k t ∷ [])) (a && not (replaced s named t l)) t n i b)
        (λ j b. nth_entry_all p a named (suc k) l (n + size t) j b)
      where
        es : List ℕ
        es = entries_all (n + size t) l

        front : List Node
        front = nodes s (p ++ (key s named k t ∷ [])) (a && not (replaced s named t l)) t

        others : List Node
        others = nodes_all s p a named (suc k) l

        len : length front ≡ size t
        len = nodes_length s _ _ t

        go : (b : Bool) → ltb i (size t) ≡ b → (i < size t → get_or (entries n t) i 0 ≡ entry_for (n + i) (get_or front i d).tree)
            → ((j : ℕ) → j < sizes l → get_or es j 0 ≡ entry_for (n + size t + j) (get_or others j d).tree)
            → get_or (entries n t ++ es) i 0 ≡ entry_for (n + i) (get_or (front ++ others) i d).tree
        go true e f g =
            let lt = ltb-true i (size t) e in
            get_or-append (entries n t) es 0 i (omega (arith, entries_length t n)) ∙ f lt
            ∙ ap (λ (x : Node). entry_for (n + i) x.tree) (sym (get_or-append front others d i (omega (arith, len))))
        go false e f g =
            let le = ltb-false i (size t) e in
            let j = i - size t in
            let x : i ≡ length (entries n t) + j = omega (arith, entries_length t n) in
            let y : i ≡ length front + j = omega (arith, len) in
            ap (λ (q : ℕ). get_or (entries n t ++ es) q 0) x ∙ get_or-append-add (entries n t) es j 0 ∙ g j (omega arith)
            ∙ ap (λ (q : ℕ). entry_for q (get_or others j d).tree) (omega arith)
            ∙ ap (λ (q : Node). entry_for (n + i) q.tree) (sym (get_or-append-add front others j d) ∙ ap (λ (q : ℕ). get_or (front ++ others) q d) (sym y))

table_is : (s : Bytes) (n : ℕ) → answer s ≡ 0 → table n s ≡ sets (replicate n 0) 0 (entries 0 (root s))
unfolding table
table_is s n h = rw (h, (plan_read s h).is, root_is s h)

module _ (s : Bytes) (tab : List ℕ) (h : Accepted s tab) (n : ℕ) (lt : n < places s) where
  pub entry_is : get_or tab n 0 ≡ entry_for n (tree_at s n)
  unfolding places node_at all_nodes
  entry_is =
      let few = few_places s h.answers in
      let len = entries_length (root s) 0 in
      let rep = length-replicate {A = ℕ} (length tab) 0 in
      let room = h.room in
      ap (λ (q : List ℕ). get_or q n 0) (h.filled ∙ table_is s (length tab) h.answers ∙ sets-eq (entries 0 (root s)) (replicate (length tab) 0) 0 (omega arith))
      ∙ get_or-append (entries 0 (root s)) _ 0 n (omega arith)
      ∙ nth_entry s _ [] true (root s) 0 n lt
      ∙ ap (λ (q : ℕ). entry_for q (tree_at s n)) (omega arith)

  pub start_field : get_or tab n 0 % 65536 ≡ start_of (tree_at s n)
  start_field = rw entry_is (unpack_first 16 (start_of (tree_at s n)) _ (omega (arith, (sound_at s h.answers n lt).within, short s h.answers)))

  pub name_field : get_or tab n 0 / 65536 % 65536 ≡ name_of (tree_at s n)
  name_field =
      rw (entry_is, unpack_second 16 (start_of (tree_at s n)) _ (omega (arith, (sound_at s h.answers n lt).within, short s h.answers)))
      (unpack_first 16 (name_of (tree_at s n)) _ (omega (arith, (sound_at s h.answers n lt).name_within, short s h.answers)))

  pub next_field : get_or tab n 0 / 65536 / 65536 ≡ n + size (tree_at s n)
  next_field =
      rw (entry_is, unpack_second 16 (start_of (tree_at s n)) _ (omega (arith, (sound_at s h.answers n lt).within, short s h.answers)))
      (unpack_second 16 (name_of (tree_at s n)) _ (omega (arith, (sound_at s h.answers n lt).name_within, short s h.answers)))

-- Behind the plan's values

zeros_joined : (m n : ℕ) → m ≤ n → replicate {A = ℕ} m 0 ++ replicate (n - m) 0 ≡ replicate n 0
zeros_joined m n le =
    let e : m + (n - m) ≡ n = omega arith in
    replicate-append-replicate {A = ℕ} m (n - m) 0 ∙ ap (λ (k : ℕ). replicate {A = ℕ} k 0) e

pub whole_end : (s : Bytes) → size (tree_at s 0) ≡ places s
unfolding places
whole_end s = ap (λ (x : Node). size x.tree) (root_node s)

module _ (s : Bytes) (tab : List ℕ) (h : Accepted s tab) where
  pub places_fit : places s ≤ length tab
  places_fit = omega (arith, few_places s h.answers, h.room)

  zero_behind : drop (places s) tab ≡ replicate (length tab - places s) 0
  unfolding places
  zero_behind =
      let len = entries_length (root s) 0 in
      let rep = length-replicate {A = ℕ} (length tab) 0 in
      let room = places_fit in
      ap (drop (places s)) (h.filled ∙ table_is s (length tab) h.answers ∙ sets-eq (entries 0 (root s)) (replicate (length tab) 0) 0 (omega arith))
      ∙ drop_at (entries 0 (root s)) _ (places s) len
      ∙ ap₂ (λ (k : ℕ) (l : List ℕ). drop k l) (zero-add (length (entries 0 (root s))) ∙ len) (sym (zeros_joined (places s) (length tab) room))
      ∙ drop_at (replicate (places s) 0) _ (places s) (length-replicate {A = ℕ} (places s) 0)

  -- the values zeroed, and the rest as it is
  pub zeroed_whole : (n : ℕ) (l : List ℕ) → n ≡ places s → l ≡ replicate (length (take n tab)) 0 → l ++ drop n tab ≡ replicate (length tab) 0
  zeroed_whole n l e f =
      let room = places_fit in
      let k : length (take n tab) ≡ places s = length-take-le n tab (omega arith) ∙ e in
      ap₂ (λ (x y : List ℕ). x ++ y) (f ∙ ap (λ (m : ℕ). replicate {A = ℕ} m 0) k) (ap (λ (m : ℕ). drop m tab) e ∙ zero_behind) ∙ zeros_joined (places s) (length tab) room
