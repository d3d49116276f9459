-- Texts of characters, and their characters as values: s is the plan, b the bundle.
use Rattle.std.specs.Prelude.{◌+◌, ◌*◌, ◌≤◌, ◌<◌, true, [], ◌∷◌, ◌≡◌, length, Option as RustOption, Some, None}
use Rattle.std.proofs.Math.Option.{Option, none, some}
use Rattle.rules.specs.Bytes.{Bytes}
use Rattle.rules.specs.Utf8.{utf8}
use Rattle.rules.specs.Bits.{bits}
use Rattle.rules.specs.Json.{jstr}
use Rattle.rules.specs.Context.{chars}
use Rattle.bits.specs.Packed.{bytes_at}
use Rattle.saying.specs.Characters.{Whole}
use Rattle.text.specs.Rest.{rest}
use Rattle.text.specs.declared.Text.{Text}
use Rattle.text.specs.declared.Text.TheVariants.{Said, Part, Packed, Digits, Minus}
use Rattle.value.specs.declared.Value.{Value}
use Rattle.meaning.specs.Meaning.{plain_json, merged_of}
use Rattle.meaning.specs.Standing.{SaidStands, PlainStands}

-- a text that no character is cut in: a string of the plan from a character on, one character of it, UTF-8 in the bundle, digits
abbrev pub Spelled : Bytes → Bytes → Text → Type 0
Spelled s b (Said at k) = (k ≡ 0) × Whole s at × (at ≤ 65548)
Spelled s b (Part at k n) = (k ≡ 0) × SaidStands s at n
Spelled s b (Packed p n) = (p + 8 * n ≤ (bits b).size) × (utf8 (bytes_at (bits b) p n) ≡ true)
Spelled s b (Digits n k) = n < 65536
Spelled s b (Minus n) = ⊥

-- a value that is the string l
pub record Letter (s b : Bytes) (v : Value) (l : Bytes) : Type 0 where
  pub means : plain_json s b v ≡ jstr l
  pub plain : merged_of v ≡ none
  pub stands : PlainStands s b v

-- v is the first character of t, and u is the text behind it
pub record First (s b : Bytes) (t : Text) (v : Value) (u : Text) : Type 0 where
  pub letter : Bytes
  pub value : Letter s b v letter
  pub first : chars (rest s b t) ≡ letter ∷ chars (rest s b u)
  pub spelled : Spelled s b u
  pub shorter : length (rest s b u) < length (rest s b t)

abbrev pub Parted : Bytes → Bytes → Text → RustOption (Value × Text) → Type 0
Parted s b t (Some (v, u)) = First s b t v u
Parted s b t None = rest s b t ≡ []

-- v is the character o
pub record Found (s b : Bytes) (o : Option Bytes) (v : Value) : Type 0 where
  pub letter : Bytes
  pub value : Letter s b v letter
  pub is : o ≡ some letter

abbrev pub Chosen : Bytes → Bytes → Option Bytes → RustOption Value → Type 0
Chosen s b o (Some v) = Found s b o v
Chosen s b o None = o ≡ none
