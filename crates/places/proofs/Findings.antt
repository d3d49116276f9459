-- What the code finds is a place of the plan.
use Rattle.std.specs.Prelude.{ℕ, ◌<◌, ◌≡◌, Option as RustOption, Some, None}
use Rattle.std.proofs.Math.Option.{Option}
use Rattle.std.proofs.Common.{sym}
use Rattle.std.proofs.Math.ListN.{get_elem?}
use Rattle.rules.specs.Bytes.{Bytes}
use Rattle.rules.specs.Plan.{answer}
use Rattle.places.specs.Places.{places, name_at, children, member, next_member}
use Rattle.places.specs.Kinds.{found, FoundIn}
use Rattle.places.specs.Children.{is_child}
use Rattle.places.proofs.MemberLaws.{member_latest}
use Rattle.places.specs.Ascending.{next_is_member}

module _ (s : Bytes) (h : answer s ≡ 0) (i : ℕ) (lt : i < places s) where
  pub found_child : (k : ℕ) (r : RustOption ℕ) → found r ≡ get_elem? (children s i) k → FoundIn s r
  found_child k (Some p) e = (is_child s i k p h lt (sym e)).within
  found_child k None e = tt

  pub found_member : (w : Bytes) (r : RustOption ℕ) → found r ≡ member s i w → FoundIn s r
  found_member w (Some p) e = (member_latest s i w h lt p (sym e)).child.within
  found_member w None e = tt

  pub found_next : (after : Option Bytes) (r : RustOption ℕ) → found r ≡ next_member s i after → FoundIn s r
  found_next after (Some p) e = found_member (name_at s p) (Some p) (sym (next_is_member s i after p (sym e)))
  found_next after None e = tt
