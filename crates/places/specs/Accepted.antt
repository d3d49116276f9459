-- A plan that was accepted, with its table.
use Rattle.std.specs.Prelude.{ℕ, ◌≤◌, Bool, true, false, List, ◌≡◌, eqb, length, replicate}
use Rattle.std.proofs.Common.{sym, ap, ◌∙◌, subst}
use Rattle.std.proofs.lemmas.List.{length-replicate}
use Rattle.std.proofs.Math.Seq.{length-sets}
use Rattle.rules.specs.Bytes.{Bytes, pick}
use Rattle.rules.specs.Tree.{Value, no_value, value}
use Rattle.rules.specs.Plan.{text, answer}
use Rattle.plan_read.specs.Table.{entries, filled, table}

pub record Accepted (s : Bytes) (tab : List ℕ) : Type 0 where
  pub answers : answer s ≡ 0
  pub filled : tab ≡ table (length tab) s
  pub room : 4096 ≤ length tab

filled_length : (n : ℕ) (v : Value) → length (filled n v) ≡ n
filled_length n no_value = length-replicate {A = ℕ} n 0
filled_length n (value t e) = length-sets (replicate n 0) 0 (entries 0 t) ∙ length-replicate {A = ℕ} n 0

pub table_length : (n : ℕ) (s : Bytes) → length (table n s) ≡ n
unfolding table
table_length n s = go (eqb (answer s) 0)
  where
    go : (b : Bool) → length (pick b (filled n (text s)) (replicate n 0)) ≡ n
    go true = filled_length n (text s)
    go false = length-replicate {A = ℕ} n 0

-- what `read_plan` leaves where it answers 0
pub accepted : (s : Bytes) (n : ℕ) (tab : List ℕ) → answer s ≡ 0 → tab ≡ table n s → 4096 ≤ n → Accepted s tab
accepted s n tab h e le =
    let l : length tab ≡ n = ap length e ∙ table_length n s in
    record { answers = h; filled = e ∙ ap (λ (k : ℕ). table k s) (sym l); room = subst (λ (k : ℕ). 4096 ≤ k) (sym l) le }
