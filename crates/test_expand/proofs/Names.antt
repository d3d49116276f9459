-- A name that is worked out stands.
use Rattle.std.specs.Prelude.{Result, Ok, Err}
use Prim.Native.Nat.{ℕ}
use mathlib.Core.List.{List}
use Rattle.rules.specs.Bytes.{Bytes}
use Rattle.rules.specs.Error as rule
use Rattle.meaning.specs.Means.{stands_known}
use Rattle.expand.specs.Answers.{Names, GotKnown}
use Rattle.error.specs.declared.RenderErrorReason.{RenderErrorReason as Reason}
use Rattle.value.specs.declared.Value.{Value}

pub name_known : (s b : Bytes) (ent : List ℕ) (t : ℕ) (x : rule.Got Bytes) (r : Result Value Reason) → Names s b ent t x r → GotKnown s b r
name_known s b ent t x (Ok v) h = stands_known s b ent t v h.1
name_known s b ent t x (Err n) h = tt
