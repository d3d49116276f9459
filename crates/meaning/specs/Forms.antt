-- What the form of a value says of its meaning.
use Rattle.std.specs.Prelude.{ℕ, ◌<◌, ◌≡◌}
use Rattle.std.proofs.Math.Option.{Option, none, some}
use Rattle.rules.specs.Bytes.{Bytes}
use Rattle.rules.specs.Json.{Json, jnull, jbool, jpos, jneg, jstr, jarr, jobj}
use Rattle.rules.specs.Template.{literal_json}
use Rattle.rules.specs.Bits.{bits}
use Rattle.layout.specs.Text.{text_at}
use Rattle.parts.specs.Says.{literal_at}
use Rattle.places.specs.Places.{places, json_at}
use Rattle.places.specs.Kinds.{items_of, members_of}
use Rattle.text.specs.declared.Text.{Text}
use Rattle.text.specs.Rest.{rest, Stands}
use Rattle.value.specs.declared.Value.{Value}
use Rattle.meaning.specs.declared.Form.{Form}
use Rattle.meaning.specs.declared.Form.TheVariants.{Null, Boolean, Unsigned, Negative, String, List, Object, Merged}
use Rattle.meaning.specs.Meaning.{plain_json, merged_of}
use Rattle.meaning.specs.Standing.{PlainStands}

-- what a value that stands is known by, whatever entries there are
abbrev pub Known : Bytes → Bytes → Value → Type 0
Known s b v = merged_of v ≡ none → PlainStands s b v

pub record StringForm (s b : Bytes) (j : Json) (t : Text) : Type 0 where
  pub is : j ≡ jstr (rest s b t)
  pub stands : Stands s b t

-- j stands at the place i of the plan, and is a list or an object
pub record ListForm (s : Bytes) (j : Json) (i : ℕ) : Type 0 where
  pub at : j ≡ json_at s i
  pub within : i < places s
  pub is : j ≡ jarr (items_of j)

pub record ObjectForm (s : Bytes) (j : Json) (i : ℕ) : Type 0 where
  pub at : j ≡ json_at s i
  pub within : i < places s
  pub is : j ≡ jobj (members_of j)

-- of anything but a merged object
abbrev pub FormOf : Bytes → Bytes → Json → Form → Type 0
FormOf s b j Null = j ≡ jnull
FormOf s b j (Boolean t) = j ≡ jbool t
FormOf s b j (Unsigned n) = j ≡ jpos n
FormOf s b j (Negative n) = j ≡ jneg n
FormOf s b j (String t) = StringForm s b j t
FormOf s b j (List i) = ListForm s j i
FormOf s b j (Object i) = ObjectForm s j i
FormOf s b j (Merged h n) = ⊥

abbrev pub PlaceFormed : Bytes → Bytes → ℕ → Form → Type 0
PlaceFormed s b i f = FormOf s b (json_at s i) f

abbrev pub TextFormed : Bytes → Bytes → ℕ → Form → Type 0
TextFormed s b p f = FormOf s b (jstr (text_at (bits b) p)) f

abbrev pub LiteralFormed : Bytes → Bytes → ℕ → Form → Type 0
LiteralFormed s b p f = FormOf s b (literal_json (literal_at (bits b) p)) f

pub record PlainForm (s b : Bytes) (v : Value) (f : Form) : Type 0 where
  pub plain : merged_of v ≡ none
  pub is : FormOf s b (plain_json s b v) f

abbrev pub Formed : Bytes → Bytes → Value → Form → Type 0
Formed s b v Null = PlainForm s b v Null
Formed s b v (Boolean t) = PlainForm s b v (Boolean t)
Formed s b v (Unsigned n) = PlainForm s b v (Unsigned n)
Formed s b v (Negative n) = PlainForm s b v (Negative n)
Formed s b v (String t) = PlainForm s b v (String t)
Formed s b v (List i) = PlainForm s b v (List i)
Formed s b v (Object i) = PlainForm s b v (Object i)
Formed s b v (Merged h n) = merged_of v ≡ some (h, n)
