-- A text that is printed, escaped or not.
use Rattle.std.specs.Prelude.{Bool, [], ◌∷◌, ◌++◌, ◌≡◌, ℕ}
use Rattle.std.proofs.Math.Bool.{true, false}
use Rattle.std.proofs.Common.{append_assoc, sym, ap, ◌∙◌}
use Rattle.std.proofs.Math.Path.{refl}
use Rattle.rules.specs.Bytes.{Bytes}
use Rattle.rules.specs.Json.{Json, jarr}
use Rattle.rules.specs.Support.{entity, escape_html}
use Rattle.places.specs.Kinds.{items_of}
use Rattle.output.specs.Writer.{Output}
use Rattle.support.specs.Feed.{all_emitted, entity_or, escaped}
use Rattle.support.proofs.Steps.{all_emitted_append, escaped_cons}

abbrev pub IsList : Json → Type 0
IsList j = j ≡ jarr (items_of j)

-- i is the buffer of which the indent is a prefix
abbrev pub printed : Bytes → Bool → Bytes → Output → Output
printed i e v o = all_emitted i (escaped e v) o

html_append : (u v : Bytes) → escape_html (u ++ v) ≡ escape_html u ++ escape_html v
html_append [] v = refl
html_append (c ∷ u) v = ap (λ (x : Bytes). entity c ++ x) (html_append u v) ∙ sym (append_assoc (entity c) (escape_html u) (escape_html v))

escaped_append : (e : Bool) (u v : Bytes) → escaped e (u ++ v) ≡ escaped e u ++ escaped e v
escaped_append true u v = html_append u v
escaped_append false u v = refl

module _ (i : Bytes) (e : Bool) where
  pub printed_none : (o : Output) → printed i e [] o ≡ o
  unfolding all_emitted
  printed_none o = go e
    where
      go : (e : Bool) → all_emitted i (escaped e []) o ≡ o
      go true = refl
      go false = refl

  pub printed_append : (u v : Bytes) (o : Output) → printed i e (u ++ v) o ≡ printed i e v (printed i e u o)
  printed_append u v o = ap (λ (x : Bytes). all_emitted i x o) (escaped_append e u v) ∙ all_emitted_append i (escaped e u) (escaped e v) o

  -- one byte
  pub printed_cons : (c : ℕ) (v : Bytes) (o : Output) → printed i e (c ∷ v) o ≡ printed i e v (all_emitted i (entity_or e c) o)
  printed_cons c v o = ap (λ (x : Bytes). all_emitted i x o) (escaped_cons e c v) ∙ all_emitted_append i (entity_or e c) (escaped e v) o
