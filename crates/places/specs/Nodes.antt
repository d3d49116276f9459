-- From a place to those inside it.
use Rattle.std.specs.Prelude.{ℕ, zero, suc, ◌+◌, ◌-◌, ◌≤◌, ◌<◌, Bool, false, ◌&&◌, not, ◌≡◌, refl, eqb, ltb, get_or, drop}
use Rattle.std.proofs.Math.Bool.{true}
use mathlib.Core.List.{List, [], ◌∷◌, ◌++◌, append_assoc, append-nil}
use Rattle.std.proofs.Math.Path.{sym, ap, subst}
use Rattle.std.proofs.Common.{◌∙◌, add-zero, add-one, arith, drop-drop, get_or-drop, get_or-append-add, ltb-true, ltb-false}
use Rattle.std.proofs.Math.ListN.{length, length-append, length-drop, get_or-append}
use Rattle.std.proofs.Math.Seq.{drop_at, drop-append-add}
use Rattle.std.proofs.lemmas.List.{drop-append-le}
use Rattle.rules.specs.Bytes.{Bytes, byte_at}
use Rattle.rules.specs.Tree.{Tree, tree, Trees, tree_nil, tree_cons}
use Rattle.rules.specs.Plan.{size, sizes, refused, refused_all, name_of, answer}
use Rattle.rules.specs.PlanLaws.{plan_read}
use Rattle.plan_read.specs.Table.{entry, entries, entries_all}
use Rattle.plan_read.proofs.Stored.{entries_length}
use Rattle.places.specs.Places.{start_of, inside, Node, key, replaced, nodes, nodes_all, tree_of, root, places, all_nodes, nowhere, node_at, tree_at, path_at, live_at}
use Rattle.places.specs.Sound.{Sound, SoundAt, SoundAll, sound_text}

mutual
  pub nodes_length : (s : Bytes) (p : List Bytes) (a : Bool) (t : Tree) → length (nodes s p a t) ≡ size t
  nodes_length s p a (tree i m l) =
      let h = nodes_all_length s p a (eqb (byte_at s i) 123) 0 l in
      omega arith

  pub nodes_all_length : (s : Bytes) (p : List Bytes) (a named : Bool) (k : ℕ) (l : Trees) → length (nodes_all s p a named k l) ≡ sizes l
  nodes_all_length s p a named k tree_nil = refl
  nodes_all_length s p a named k (tree_cons t l) =
      let q = p ++ (key s named k t ∷ []) in
      let b = a && not (replaced s named t l) in
      let h = nodes_length s q b t in
      let j = nodes_all_length s p a named (suc k) l in
      omega (arith, length-append (nodes s q b t) (nodes_all s p a named (suc k) l))

-- From the number n on stand the nodes of t, which the reader let pass
pub record Stands (s : Bytes) (all : List Node) (n : ℕ) (p : List Bytes) (a : Bool) (t : Tree) : Type 0 where
  pub rest : List Node
  pub is : drop n all ≡ nodes s p a t ++ rest
  pub sound : Sound s t
  pub fine : refused s t ≡ 0

pub record StandsAll (s : Bytes) (all : List Node) (n : ℕ) (p : List Bytes) (a named : Bool) (k : ℕ) (l : Trees) : Type 0 where
  pub rest : List Node
  pub is : drop n all ≡ nodes_all s p a named k l ++ rest
  pub sound : SoundAll s named l
  pub fine : refused_all s l ≡ 0

module _ (s : Bytes) (all : List Node) (n : ℕ) (p : List Bytes) (a : Bool) where
  pub stands_inside : (i m : ℕ) (l : Trees) → Stands s all n p a (tree i m l) → StandsAll s all (n + 1) p a (eqb (byte_at s i) 123) 0 l
  stands_inside i m l h = record {
    rest = h.rest;
    is = sym (drop-drop 1 n all) ∙ ap (drop 1) h.is;
    sound = h.sound.1;
    fine = omega (arith, h.fine);
  }

  module _ (named : Bool) (k : ℕ) (t : Tree) (l : Trees) (h : StandsAll s all n p a named k (tree_cons t l)) where
    first_nodes : List Node
    first_nodes = nodes s (p ++ (key s named k t ∷ [])) (a && not (replaced s named t l)) t

    split : drop n all ≡ first_nodes ++ (nodes_all s p a named (suc k) l ++ h.rest)
    unfolding first_nodes
    split = h.is ∙ append_assoc first_nodes (nodes_all s p a named (suc k) l) h.rest

    pub stands_first : Stands s all n (p ++ (key s named k t ∷ [])) (a && not (replaced s named t l)) t
    unfolding first_nodes
    stands_first = record { rest = nodes_all s p a named (suc k) l ++ h.rest; is = split; sound = h.sound.1.0; fine = omega (arith, h.fine) }

    pub stands_others : StandsAll s all (n + size t) p a named (suc k) l
    unfolding first_nodes
    stands_others = record {
      rest = h.rest;
      is = sym (drop-drop (size t) n all) ∙ ap (drop (size t)) split ∙ drop_at first_nodes (nodes_all s p a named (suc k) l ++ h.rest) (size t) (nodes_length s _ _ t);
      sound = h.sound.1.1;
      fine = omega (arith, h.fine);
    }

-- what stands at n of a list of nodes
pub record Part (s : Bytes) (all : List Node) (n : ℕ) : Type 0 where
  pub path : List Bytes
  pub live : Bool
  pub tree : Tree
  pub stands : Stands s all n path live tree

part_on : (s : Bytes) (front others : List Node) (n : ℕ) → length front ≤ n → Part s others (n - length front) → Part s (front ++ others) n
part_on s front others n le h = record {
  path = h.path;
  live = h.live;
  tree = h.tree;
  stands = record {
    rest = h.stands.rest;
    is = ap (λ (k : ℕ). drop k (front ++ others)) e ∙ drop-append-add front others (n - length front) ∙ h.stands.is;
    sound = h.stands.sound;
    fine = h.stands.fine;
  };
}
  where
    e : n ≡ length front + (n - length front)
    e = omega arith

mutual
  part : (s : Bytes) (p : List Bytes) (a : Bool) (t : Tree) (rest : List Node) (n : ℕ) → n < size t → Sound s t → refused s t ≡ 0 → Part s (nodes s p a t ++ rest) n
  part s p a (tree i m l) rest zero lt h f = record { path = p; live = a; tree = tree i m l; stands = record { rest = rest; is = refl; sound = h; fine = f } }
  part s p a (tree i m l) rest (suc n) lt h f =
      let q = part_all s p a (eqb (byte_at s i) 123) 0 l rest n (omega arith) h.1 (omega arith) in
      record {
        path = q.path;
        live = q.live;
        tree = q.tree;
        stands = record { rest = q.stands.rest; is = q.stands.is; sound = q.stands.sound; fine = q.stands.fine };
      }

  part_all : (s : Bytes) (p : List Bytes) (a named : Bool) (k : ℕ) (l : Trees) (rest : List Node) (n : ℕ) → n < sizes l → SoundAll s named l → refused_all s l ≡ 0
      → Part s (nodes_all s p a named k l ++ rest) n
  part_all s p a named k tree_nil rest n lt h f = absurd (omega arith)
  part_all s p a named k (tree_cons t l) rest n lt h f =
      rw (append_assoc (nodes s (p ++ (key s named k t ∷ [])) (a && not (replaced s named t l)) t) (nodes_all s p a named (suc k) l) rest)
      (go (ltb n (size t)) refl (λ b. part s _ _ t (nodes_all s p a named (suc k) l ++ rest) n b h.1.0 (omega arith))
      (λ j b. part_all s p a named (suc k) l rest j b h.1.1 (omega arith)))
    where
      front : List Node
      front = nodes s (p ++ (key s named k t ∷ [])) (a && not (replaced s named t l)) t

      others : List Node
      others = nodes_all s p a named (suc k) l ++ rest

      len : length front ≡ size t
      len = nodes_length s _ _ t

      go : (b : Bool) → ltb n (size t) ≡ b → (n < size t → Part s (front ++ others) n) → ((j : ℕ) → j < sizes l → Part s others j) → Part s (front ++ others) n
      go true e f g = f (ltb-true n (size t) e)
      go false e f g =
          let le = ltb-false n (size t) e in
          part_on s front others n (omega (arith, len)) (g (n - length front) (omega (arith, len)))

pub size_positive : (t : Tree) → 0 < size t
size_positive (tree i m l) = omega arith

-- The places of an accepted plan

pub some_places : (s : Bytes) → 0 < places s
unfolding places
some_places s = size_positive (root s)

pub root_node : (s : Bytes) → node_at s 0 ≡ record { tree = root s; path = []; live = true }
unfolding node_at all_nodes
root_node s = go (root s)
  where
    go : (t : Tree) → get_or (nodes s [] true t) 0 nowhere ≡ record { tree = t; path = []; live = true }
    go (tree i m l) = refl

head_of : {A : Type 0} (l : List A) (n : ℕ) (d x : A) (r : List A) → drop n l ≡ x ∷ r → get_or l n d ≡ x
head_of l n d x r h = ap (λ (k : ℕ). get_or l k d) (sym (add-zero n)) ∙ sym (get_or-drop n l 0 d) ∙ ap (λ (q : List _). get_or q 0 d) h

abbrev pub At : Bytes → ℕ → Type 0
At s n = Stands s (all_nodes s) n (path_at s n) (live_at s n) (tree_at s n)

module _ (s : Bytes) where
  -- what stands at n is its node
  pub node_is : (n : ℕ) (p : List Bytes) (a : Bool) (t : Tree) → Stands s (all_nodes s) n p a t → node_at s n ≡ record { tree = t; path = p; live = a }
  unfolding node_at
  node_is n p a (tree i m l) h = head_of (all_nodes s) n _ _ _ h.is

  pub stands_within : (n : ℕ) (p : List Bytes) (a : Bool) (t : Tree) → Stands s (all_nodes s) n p a t → n + size t ≤ places s
  unfolding places all_nodes
  stands_within n p a (tree i m l) h =
      omega (arith, nodes_length s [] true (root s), nodes_length s p a (tree i m l), length-append (nodes s p a (tree i m l)) h.rest, length-drop n (all_nodes s), ap length h.is)

  pub to_at : (n : ℕ) (p : List Bytes) (a : Bool) (t : Tree) → Stands s (all_nodes s) n p a t → At s n
  to_at n p a t h = subst (λ (x : Node). Stands s (all_nodes s) n x.path x.live x.tree) (sym (node_is n p a t h)) h

-- what starts inside a value ends inside it
mutual
  pub nested : (s : Bytes) (n : ℕ) (p : List Bytes) (a : Bool) (t : Tree) → Stands s (all_nodes s) n p a t → (k : ℕ) → n ≤ k → k < n + size t → k + size (tree_at s k) ≤ n + size t
  nested s n p a (tree i m l) h k le lt =
      go (ltb n k) refl (λ x. nested_all s (n + 1) p a (eqb (byte_at s i) 123) 0 l (stands_inside s (all_nodes s) n p a i m l h) k x (omega arith))
    where
      go : (x : Bool) → ltb n k ≡ x → (n + 1 ≤ k → k + size (tree_at s k) ≤ n + 1 + sizes l) → k + size (tree_at s k) ≤ n + size (tree i m l)
      go true e f = let z = ltb-true n k e in omega (arith, f (omega arith))
      go false e f =
          let z : n ≡ k = omega (arith, ltb-false n k e) in
          rw (← z) (omega (arith, ap (λ (x : Node). size x.tree) (node_is s n p a (tree i m l) h)))

  nested_all : (s : Bytes) (n : ℕ) (p : List Bytes) (a named : Bool) (j : ℕ) (l : Trees) → StandsAll s (all_nodes s) n p a named j l → (k : ℕ) → n ≤ k → k < n + sizes l
      → k + size (tree_at s k) ≤ n + sizes l
  nested_all s n p a named j tree_nil h k le lt = absurd (omega arith)
  nested_all s n p a named j (tree_cons t l) h k le lt =
      go (ltb k (n + size t)) refl
      (λ x. nested s n _ _ t (stands_first s (all_nodes s) n p a named j t l h) k le x)
      (λ x. nested_all s (n + size t) p a named (suc j) l (stands_others s (all_nodes s) n p a named j t l h) k x (omega arith))
    where
      go : (x : Bool) → ltb k (n + size t) ≡ x → (k < n + size t → k + size (tree_at s k) ≤ n + size t) → (n + size t ≤ k → k + size (tree_at s k) ≤ n + size t + sizes l)
          → k + size (tree_at s k) ≤ n + sizes (tree_cons t l)
      go true e f g = omega (arith, f (ltb-true k (n + size t) e))
      go false e f g = omega (arith, g (ltb-false k (n + size t) e))

module _ (s : Bytes) (h : answer s ≡ 0) where
  pub root_is : root s ≡ (plan_read s h).tree
  unfolding root
  root_is = ap tree_of (plan_read s h).is

  pub few_places : places s ≤ 4096
  unfolding places
  few_places = rw root_is (plan_read s h).few

  pub stands_at : (n : ℕ) → n < places s → At s n
  unfolding places all_nodes
  stands_at n lt =
      let r = plan_read s h in
      let q = part s [] true (root s) [] n lt (rw root_is (sound_text s r.tree r.end r.is)) (rw root_is r.in_range) in
      let w : Part s (all_nodes s) n = subst (λ (x : List Node). Part s x n) (append-nil _) q in
      to_at s n w.path w.live w.tree w.stands

  pub sound_at : (n : ℕ) → n < places s → SoundAt s (start_of (tree_at s n)) (name_of (tree_at s n)) (inside (tree_at s n))
  sound_at n lt = go (tree_at s n) (stands_at n lt).sound
    where
      go : (t : Tree) → Sound s t → SoundAt s (start_of t) (name_of t) (inside t)
      go (tree i m l) q = q.0

  pub short : length s ≤ 65536
  short = (plan_read s h).short
