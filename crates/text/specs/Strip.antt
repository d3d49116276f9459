-- What is left of a byte string where another one stands in front.
use Rattle.std.specs.Prelude.{[], ◌∷◌, ◌≡◌, eqb, Option as RustOption, Some, None}
use Rattle.std.proofs.Math.Option.{Option, none, some}
use Rattle.rules.specs.Bytes.{Bytes, pick}
use Rattle.text.specs.Rest.{rest, Stands}
use Rattle.text.specs.declared.Text.{Text}

unfoldable pub stripped : Bytes → Bytes → Option Bytes
stripped [] l = some l
stripped (x ∷ w) [] = none
stripped (x ∷ w) (c ∷ l) = let more = stripped w l in pick (eqb c x) more none

abbrev pub Stripped : Bytes → Bytes → Option Bytes → RustOption Text → Type 0
Stripped s b o (Some t) = (o ≡ some (rest s b t)) × Stands s b t
Stripped s b o None = o ≡ none
