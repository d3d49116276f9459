-- An entry of the table, read.
use Prim.Native.Nat.{ℕ, ◌+◌, ◌/◌, ◌%◌, ◌≤◌, ◌<◌}
use mathlib.Core.List.{List}
use mathlib.Core.Path.{◌≡◌}
use native.Mathlib.Omega.{arith}
use lib.ListN.{length, get_or}
use Rattle.rules.specs.Bytes.{Bytes}
use Rattle.rules.specs.Plan.{size, name_of}
use Rattle.places.specs.Places.{start_of, places, tree_at}
use Rattle.places.specs.Accepted.{Accepted}
use Rattle.places.specs.Nodes.{few_places, short, sound_at, size_positive, stands_at, stands_within}
use Rattle.places.specs.Entries.{start_field, name_field}
use Rattle.places.specs.Children.{end_at}

pub record Index (s : Bytes) (tab : List ℕ) (i : ℕ) : Type 0 where
  pub inside : i < length tab
  pub small : i < 4096
  pub text : length s ≤ 65536
  -- the values inside it
  pub some : i < end_at s i
  pub few : end_at s i ≤ places s
  pub end_small : end_at s i ≤ 4096

module _ (s : Bytes) (tab : List ℕ) (h : Accepted s tab) (i : ℕ) (lt : i < places s) where
  pub index : Index s tab i
  index =
      let f = few_places s h.answers in
      let e = stands_within s i _ _ (tree_at s i) (stands_at s h.answers i lt) in
      record {
        inside = omega (arith, h.room);
        small = omega arith;
        text = short s h.answers;
        some = omega (arith, size_positive (tree_at s i));
        few = e;
        end_small = omega arith;
      }

  pub start_is : (get_or tab i 0 % 65536 ≡ start_of (tree_at s i)) × (get_or tab i 0 % 65536 < length s)
  start_is = let e = start_field s tab h i lt in (e, omega (arith, (sound_at s h.answers i lt).within))

  pub name_is : (get_or tab i 0 / 65536 % 65536 ≡ name_of (tree_at s i)) × (get_or tab i 0 / 65536 % 65536 < length s)
  name_is = let e = name_field s tab h i lt in (e, omega (arith, (sound_at s h.answers i lt).name_within))
