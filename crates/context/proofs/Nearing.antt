-- What the front alone tells.
use Rattle.std.specs.Prelude.{Option as RustOption, Some, None}
use Prim.Native.Nat.{ℕ, ◌-◌, ◌^◌, ◌≤◌, ◌<◌}
use mathlib.Core.Bool.{Bool, true, false}
use mathlib.Core.List.{List, ◌∷◌}
use mathlib.Core.Option.{Option}
use mathlib.Core.Path.{◌≡◌, refl, sym, ap, ◌∙◌, subst}
use native.Mathlib.Omega.{arith}
use lib.Bits.{bit_and}
use lib.ListN.{get_or}
use borrow.Author.Tests.{lt-ltb, eq-eqb, ne_eqb}
use Rattle.rules.specs.Bytes.{Bytes}
use Rattle.rules.specs.Picks.{yes, no}
use Rattle.rules.specs.Bits.{bits}
use Rattle.rules.specs.Bundle.{seg}
use Rattle.rules.specs.Path.{PathSeg}
use Rattle.rules.specs.Context.{get_in_block_params}
use Rattle.parts.specs.Holds.{Holds, end, row}
use Rattle.parts.specs.HoldsLaws.{none_left_value}
use Rattle.parts.specs.Says.{segment_at, segments_at}
use Rattle.value.specs.Numbers.{decoded}
use Rattle.scope.specs.declared.Scope.{Scope}
use Rattle.scope.specs.Scopes.{base_of, blocks_of, blank}
use Rattle.scope.specs.Standing.{ScopesStand}
use Rattle.scope.specs.Names.{ParamIs, Settled, numbered}
use Rattle.scope.proofs.NamesLaws.{turn_found}
use Rattle.scope.specs.NameBits.{Lacks, AllCovered, bit_of, and_clear}
use Rattle.scope.proofs.NameBits.{none_named}
use lib.ListN.{length}
use Rattle.rules.specs.Json.{Json}
use Rattle.rules.specs.Plan.{answer}
use Rattle.rules.specs.Error.{got}
use Rattle.rules.specs.Expand.{or_missing}
use Rattle.scope.specs.Names.{LocalIs, local_at, local_variable}
use Rattle.scope.proofs.NamesLaws.{local_found}
use Rattle.context.specs.declared.Start.{Start}
use Rattle.context.specs.Evaluated.{Evaluates}
use Rattle.context.specs.Start.{Based, Newest, is_nothing, name_needs_all, segments_need_all, Starts, ParamFits, said, started}
use Rattle.context.proofs.Evaluating.{local_evaluates, local_nothing, local_fits}
use Rattle.context.proofs.Starting.{based_scope, some_number}
use Rattle.context.proofs.Walking.{segments_on}
use Rattle.value.specs.declared.Value.{Value}

-- the bit of a name is clear
pub lacks_here : (m x : ℕ) (k : Bytes) → x ≡ 2 ^ bit_of k → bit_and m x ≡ 0 → Lacks m k
lacks_here m x k e f = and_clear m (bit_of k) (sym (ap (bit_and m) e) ∙ f)

pub none_is : (s b : Bytes) (ent : List ℕ) (l : List Scope) (used t m : ℕ) (k : Bytes) → Lacks m k → ScopesStand s b ent l used t → AllCovered m b ent l used
    → ParamIs s b ent t (get_in_block_params (blocks_of s b ent l used) k) None
none_is s b ent l used t m k x st a = subst (λ o. ParamIs s b ent t o None) (sym (none_named s b ent l m k x used t st a)) tt

module _ (b : Bytes) (ent : List ℕ) (front : Scope) (names : ℕ) (l : List Scope) (used : ℕ) (w : Newest b ent front names l used) where
  pub based_front : Based l used 0 false (base_of front)
  based_front =
      let e : used - 1 ≡ used - 1 - 0 = omega arith in
      based_scope l used 0 false (base_of front) w.some refl
      (ap base_of w.is ∙ ap (λ (i : ℕ). base_of (get_or l i blank)) (yes _ _ _ _ (lt-ltb 0 used w.some) e))

pub front_found : (s b : Bytes) (ent : List ℕ) (front : Scope) (names : ℕ) (l : List Scope) (used t : ℕ) (k : Bytes) → Newest b ent front names l used → ScopesStand s b ent l used t
    → (r : ℕ) → Settled b ent front k r → (r ≡ 0 → ⊥) → ParamIs s b ent t (get_in_block_params (blocks_of s b ent l used) k) (Some (decoded (r - 1)))
front_found s b ent front names l used t k w st r own ne =
    turn_found s b ent l used used t k (numbered r) w.some (omega arith) st front w.is (own.means s) (decoded (r - 1)) (some_number r ne)

-- Local variables

pub param_fits : (s b : Bytes) (ent : List ℕ) (t : ℕ) → answer s ≡ 0 → length b ≤ 65536 → t < 1048576 → (o : Option Json) (r : RustOption Value) → LocalIs s b ent t o r → ParamFits r
param_fits s b ent t h le near o (Some w) x = local_fits s b ent t h le near o w x
param_fits s b ent t h le near o None x = tt

pub local_answers : (s b : Bytes) (ent : List ℕ) (t : ℕ) (o : Option Json) (r : RustOption Value) → LocalIs s b ent t o r → Evaluates s b ent t (got (or_missing o)) (said r)
local_answers s b ent t o (Some w) x = local_evaluates s b ent t o w x
local_answers s b ent t o None x = local_nothing s b ent t o x

pub near_local : (s b : Bytes) (ent : List ℕ) (front : Scope) (names : ℕ) (l : List Scope) (used : ℕ) → Newest b ent front names l used → (t level : ℕ) → ScopesStand s b ent l used t → level ≡ 0 → (k : Bytes) (r : RustOption Value)
    → front.index < 65536 → r ≡ local_variable front k → LocalIs s b ent t (local_at s b ent l used level k) r
near_local s b ent front names l used w t level st z k r lt e =
    let f : used - 1 ≡ used - 1 - level = omega arith in
    local_found s b ent l used level t k front r (omega (arith, w.some)) st (w.is ∙ ap (λ (i : ℕ). get_or l i blank) f) lt e

-- a start that is not far
pub not_far : (x : Start) → x.far ≡ false → x ≡ started x.value x.place x.left
not_far x e = ap (λ (f : Bool). record { value = x.value; place = x.place; left = x.left; far = f }) e

-- the code does not ask whether a start by all scopes is far
pub started_is : (b : Bytes) (ent : List ℕ) (l : List Scope) (used p n : ℕ) (x : Start) → Starts b ent l used p n x → Starts b ent l used p n (started x.value x.place x.left)
started_is b ent l used p n x S = record {
  holds = S.holds;
  lone = S.lone;
  at = λ s t st. let y = S.at s t st in record { leads = y.leads; stands = y.stands; present = y.present };
}

-- Whether all scopes are needed

module _ (b : Bytes) (ent : List ℕ) (front : Scope) (names x : ℕ) (k : Bytes) (e : x ≡ 2 ^ bit_of k) where
  pub lacked : bit_and names x ≡ 0 → false ≡ name_needs_all b ent front names k
  lacked f = yes _ _ _ _ (eq-eqb _ 0 (sym (ap (bit_and names) e) ∙ f)) refl

  -- r is what it stands for in the front
  module _ (f : bit_and names x ≡ 0 → ⊥) (r : ℕ) (own : Settled b ent front k r) where
    pub needed : (t : Bool) → t ≡ is_nothing (numbered r) → t ≡ name_needs_all b ent front names k
    needed t g = no _ _ _ _ (ne_eqb _ 0 (λ z. f (ap (bit_and names) e ∙ z))) (g ∙ ap is_nothing own.is)

    pub needs_none : (r ≡ 0 → ⊥) → false ≡ name_needs_all b ent front names k
    needs_none ne = needed false (sym (ap is_nothing (some_number r ne)))

    pub needs_more : r ≡ 0 → true ≡ name_needs_all b ent front names k
    needs_more z = needed true (sym (ap (λ (n : ℕ). is_nothing (numbered n)) z))

module _ (b : Bytes) (ent : List ℕ) (front : Scope) (names p n : ℕ) (H : Holds (row seg n) (bits b) p) where
  pub no_segments : n ≡ 0 → false ≡ segments_need_all b ent front names (segments_at n (bits b) p)
  no_segments e = sym (ap (segments_need_all b ent front names) (ap (λ (m : ℕ). segments_at m (bits b) p) e ∙ none_left_value seg (bits b) p))

  -- the first one tells
  pub first_needs : 0 < n → (x : PathSeg) → segment_at (bits b) p ≡ x → (t : Bool) → t ≡ segments_need_all b ent front names (x ∷ segments_at (n - 1) (bits b) (end seg (bits b) p))
      → t ≡ segments_need_all b ent front names (segments_at n (bits b) p)
  first_needs lt x e t f =
      f ∙ sym (ap (segments_need_all b ent front names) (segments_on (bits b) p n lt H ∙ ap (λ (y : PathSeg). y ∷ segments_at (n - 1) (bits b) (end seg (bits b) p)) e))
