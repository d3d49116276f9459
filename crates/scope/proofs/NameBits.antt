-- Sets of names by one bit a name: what is in none of them.
use Prim.Native.Nat.{ℕ, zero, suc}
use Rattle.std.specs.Prelude.{List, ◌≡◌, get_or}
use Rattle.std.proofs.Math.Option.{none}
use Rattle.std.proofs.Math.Path.{refl}
use Rattle.std.proofs.Common.{◌∙◌, arith}
use Rattle.rules.specs.Bytes.{Bytes}
use Rattle.rules.specs.Context.{get_in_block_params}
use Rattle.scope.specs.Standing.{ScopesStand}
use Rattle.scope.proofs.StackLaws.{pop_stands}
use Rattle.scope.proofs.NamesLaws.{in_outer, own_none}
use Rattle.scope.specs.declared.Scope.{Scope}
use Rattle.scope.specs.Scopes.{blocks_of, blank}
use Rattle.scope.specs.NameBits.{Lacks, AllCovered}

-- a name that is in no scope is no block name for the rules either
module _ (s b : Bytes) (ent : List ℕ) (l : List Scope) (m : ℕ) (k : Bytes) (x : Lacks m k) where
  pub none_named : (n t : ℕ) → ScopesStand s b ent l n t → AllCovered m b ent l n → get_in_block_params (blocks_of s b ent l n) k ≡ none
  none_named zero t st a = refl
  none_named (suc n) t st a =
      let c = get_or l n blank in
      let under = pop_stands s b ent l n t st in
      in_outer s b ent l n k c.inline (own_none s b ent c (st.each n (omega arith)) k ((a n (omega arith)).clear k x))
      ∙ none_named n c.inline under (λ i lt. a i (omega arith))
