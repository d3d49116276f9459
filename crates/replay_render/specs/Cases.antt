-- The strings of a case that was read fit their places in the buffer.
use Rattle.std.specs.Prelude.{ℕ, ◌≤◌, ◌≡◌, length, take, replicate}
use Rattle.std.proofs.Common.{sym, subst, length-take-le}
use Rattle.std.proofs.lemmas.List.{length-replicate}
use Rattle.replay_render.specs.declared.Case.{Case}

pub record Fits (c : Case) : Type 0 where
  pub start : c.start ≤ 64
  pub name : c.name ≤ 64
  pub bundle : c.bundle ≤ 65600
  pub plan : c.plan ≤ 65600
  pub text : c.text ≤ 65600
  pub page : c.page ≤ 65600
  pub next : c.next ≤ 262144

-- the first n entries of an array, lent
pub first_of : (n m x : ℕ) → n ≤ m → n ≡ length (take n (replicate m x))
first_of n m x le = sym (length-take-le n (replicate m x) (subst (λ (k : ℕ). n ≤ k) (sym (length-replicate m x)) le))
