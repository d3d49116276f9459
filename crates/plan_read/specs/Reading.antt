-- What the reader of a value leaves: the place behind it, the counts and the table.
use Rattle.std.specs.Prelude.{ℕ, ◌+◌, ◌≤◌, ◌<◌, List, ◌≡◌, eqb, leb, length}
use Rattle.std.proofs.lemmas.List.Edits.{sets}
use Rattle.rules.specs.Bytes.{Bytes, pick}
use Rattle.rules.specs.Scan.{spaces_end}
use Rattle.rules.specs.Tree.{Value, no_value, value, Values, no_values, values}
use Rattle.rules.specs.Plan.{size, sizes, refused, refused_all}
use Rattle.plan_read.specs.Table.{entries, entries_all}
use Rattle.plan_read.specs.declared.Read.{Read}

-- from the place i on, with n values numbered and b numbers refused before: `more` values, `worse` refused, their entries es, and the place e behind
pub record Met (s : Bytes) (i n b : ℕ) (tab : List ℕ) (more worse : ℕ) (es : List ℕ) (e : ℕ) (r : Read) (after : List ℕ) : Type 0 where
  pub place : r.at ≡ e
  pub number : r.count ≡ n + more
  pub wrong : r.bad ≡ b + worse
  pub table : after ≡ sets tab n es
  -- each value takes a byte or more
  pub goes : i + more ≤ e
  pub within : e ≤ length s
  pub few : worse ≤ more
  pub something : 0 < e

abbrev pub Meets : Bytes → ℕ → ℕ → ℕ → List ℕ → Value → Read → List ℕ → Type 0
Meets s i n b tab no_value r after = r.at ≡ 0
Meets s i n b tab (value t e) r after = Met s i n b tab (size t) (refused s t) (entries n t) e r after

abbrev pub MeetsAll : Bytes → ℕ → ℕ → ℕ → List ℕ → Values → Read → List ℕ → Type 0
MeetsAll s i n b tab no_values r after = r.at ≡ 0
MeetsAll s i n b tab (values l e) r after = Met s i n b tab (sizes l) (refused_all s l) (entries_all n l) e r after

-- the number of the answer, by what the reader of the value found
unfoldable pub judged : Bytes → Read → ℕ
judged s r =
    pick (eqb r.at 0) 8
    (pick (eqb (spaces_end s r.at) (length s)) (pick (eqb r.bad 0) (pick (leb r.count 4096) 0 10) 9) 8)
