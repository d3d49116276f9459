-- Hash values, kept as numbers: s is the plan, b the bundle, ent the entries of open partials.
use Rattle.std.specs.Prelude.{ℕ, zero, suc, ◌≤◌, ◌<◌, List, [], ◌∷◌, ◌≡◌, get_or, Result, Ok, Err}
use Rattle.rules.specs.Bytes.{Bytes}
use Rattle.rules.specs.Bits.{Bits, bits}
use Rattle.rules.specs.Layout.{◌then◌}
use Rattle.rules.specs.Bundle.{string, param}
use Rattle.rules.specs.Error as rule
use Rattle.rules.specs.Error.{RenderErrorReason, got, bad}
use Rattle.rules.specs.Value.{ScopedJson}
use Rattle.rules.specs.State.{RenderContext}
use Rattle.rules.specs.Registry.{Registry}
use Rattle.rules.specs.Expand as rules
use Rattle.layout.specs.Text.{text_at}
use Rattle.parts.specs.Holds.{end}
use Rattle.calls.specs.Calls.{param_at}
use Rattle.value.specs.Numbers.{Fits, encoded, decoded}
use Rattle.meaning.specs.Meaning.{scoped_of}
use Rattle.meaning.specs.Standing.{Stands}
use Rattle.error.specs.declared.RenderErrorReason.{RenderErrorReason as Reason}
use Rattle.value.specs.declared.Value.{Value}

-- where the i-th of the hash pairs at p stands, and its value
abbrev pub pair_place : ℕ → Bits → ℕ → ℕ → ℕ
pair_place d b p zero = p
pair_place d b p (suc i) = end (string then param d) b (pair_place d b p i)

abbrev pub content_place : ℕ → Bits → ℕ → ℕ → ℕ
content_place d b p i = end string b (pair_place d b p i)

-- what is refused counts as missing
abbrev pub number_of : Result Value Reason → ℕ
number_of (Ok v) = encoded v
number_of (Err n) = 0

abbrev pub GotFits : Result Value Reason → Type 0
GotFits (Ok v) = Fits v
GotFits (Err n) = Unit {0}

-- k is the number of what x gives
pub record Numbered (s b : Bytes) (ent : List ℕ) (t : ℕ) (x : rule.Got ScopedJson) (k : ℕ) : Type 0 where
  pub value : (v : ScopedJson) → x ≡ got v → v ≡ scoped_of s b ent (decoded k)
  pub refused : (r : RenderErrorReason) → x ≡ bad r → k ≡ 0
  pub near : k < 4294967296
  pub stands : Stands s b ent t (decoded k)

-- the numbers of the n hash values behind the keys at p, in a list that was k: behind them it is as it was
pub record HashValuesIn (s b : Bytes) (ent : List ℕ) (t d p n : ℕ) (g : Registry) (st : RenderContext) (k l : List ℕ) : Type 0 where
  pub each : (i : ℕ) → i < n → Numbered s b ent t (rules.expand g st (param_at d (bits b) (content_place d (bits b) p i))) (get_or l i 0)
  pub rest : (i : ℕ) → n ≤ i → get_or l i 0 ≡ get_or k i 0

-- the same where behind them is 0
abbrev pub HashValues : Bytes → Bytes → List ℕ → ℕ → ℕ → ℕ → ℕ → Registry → RenderContext → List ℕ → Type 0
HashValues s b ent t d p n g st l = HashValuesIn s b ent t d p n g st [] l

-- the n pairs from number i on, as the rules have them
abbrev pub hash_pairs : Bytes → Bytes → List ℕ → ℕ → ℕ → List ℕ → ℕ → ℕ → List (Bytes × ScopedJson)
hash_pairs s b ent d p l i zero = []
hash_pairs s b ent d p l i (suc n) = (text_at (bits b) (pair_place d (bits b) p i), scoped_of s b ent (decoded (get_or l i 0))) ∷ hash_pairs s b ent d p l (suc i) n
