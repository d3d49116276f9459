-- Bytes of the plan that a value prints just as they stand there.
use Rattle.std.specs.Prelude.{ℕ, ◌+◌, ◌/◌, ◌%◌, Bool, ◌&&◌, ◌||◌, not, ◌⊎◌, ◌≡◌, eqb, leb, drop}
use Rattle.rules.specs.Bytes.{Bytes, pick, byte_at, run}
use Rattle.rules.specs.Scan.{minus_end, whole_end}
use Rattle.support.specs.Table.{is_escaped}
use Rattle.saying.specs.Said.{own_end}
use Rattle.places.specs.Places.{start_of, tree_at}
use Rattle.value.specs.declared.Value.{Value}
use Rattle.value.specs.declared.Value.TheVariants.{Missing, Null, False, True, Empty, Context, Place, Literal, Index, IndexText, Name, Text, SaidChar, PackedChar, Merged}
use Rattle.print.specs.declared.Span.{Span}

abbrev pub no_span : Span
no_span = record { start = 0; end = 0 }

-- what a string says whose bytes begin at i, if it has no escapes
unfoldable pub string_span : Bytes → ℕ → Span
string_span s i = pick (eqb (byte_at s (own_end s i)) 34) (record { start = i; end = own_end s i }) no_span

-- a number is its bytes; where none stands, its whole part ends at 0
abbrev pub number_span : Bytes → ℕ → Span
number_span s q = record { start = q; end = whole_end s (minus_end s q) }

-- of the value that begins at q
unfoldable pub span_at : Bytes → ℕ → Span
span_at s q = pick (eqb (byte_at s q) 34) (string_span s (q + 1)) (number_span s q)

-- of the value at the place i
abbrev pub span_of : Bytes → ℕ → Span
span_of s i = span_at s (start_of (tree_at s i))

-- v is the place i of the plan
abbrev pub InPlan : Value → ℕ → Type 0
InPlan v i = (v ≡ Context i) ⊎ (v ≡ Place i)

-- of a value: what stands elsewhere has none
abbrev pub value_span : Bytes → Value → Span
value_span s Missing = no_span
value_span s Null = no_span
value_span s False = no_span
value_span s True = no_span
value_span s Empty = no_span
value_span s (Context i) = span_of s i
value_span s (Place i) = span_of s i
value_span s (Literal p) = no_span
value_span s (Index n) = no_span
value_span s (IndexText n) = no_span
value_span s (Name o) = string_span s (o + 1)
value_span s (Text p) = no_span
value_span s (SaidChar o n) = no_span
value_span s (PackedChar p n) = no_span
value_span s (Merged h n) = no_span

-- The same, where nothing of it is escaped

-- a byte of a string that stands for itself, and has no entity
abbrev pub is_calm : ℕ → Bool
is_calm c = leb 32 c && (not (is_escaped c) && not (eqb c 92))

abbrev pub calm_end : Bytes → ℕ → ℕ
calm_end s i = i + run is_calm (drop i s)

unfoldable pub calm_string : Bytes → ℕ → Span
calm_string s i = pick (eqb (byte_at s (calm_end s i)) 34) (record { start = i; end = calm_end s i }) no_span

unfoldable pub calm_at : Bytes → ℕ → Span
calm_at s q = pick (eqb (byte_at s q) 34) (calm_string s (q + 1)) (number_span s q)

abbrev pub calm_of : Bytes → ℕ → Span
calm_of s i = calm_at s (start_of (tree_at s i))

-- of the value with the number n
unfoldable pub calm_value : Bytes → ℕ → Span
calm_value s n = pick (eqb (n % 16) 5 || eqb (n % 16) 6) (calm_of s (n / 16)) (pick (eqb (n % 16) 10) (calm_string s (n / 16 + 1)) no_span)
