-- What the check of a plan answers and leaves in a table of n entries.
use Rattle.std.specs.Prelude.{ℕ, List, ltb, replicate}
use Rattle.rules.specs.Bytes.{Bytes, pick}
use Rattle.rules.specs.Plan.{answer}
use Rattle.plan_read.specs.Table.{table}

unfoldable pub plan_number : ℕ → Bytes → ℕ
plan_number n s = pick (ltb n 4096) 1 (answer s)

unfoldable pub plan_table : ℕ → Bytes → List ℕ
plan_table n s = pick (ltb n 4096) (replicate n 0) (table n s)
