-- What a text that is stored at once leaves to the loop: to move its writer on.
use Rattle.std.specs.Prelude.{ℕ, ◌+◌, ◌-◌, ◌/◌, ◌%◌, ◌^◌, ◌<◌, Bool, true, false, ◌&&◌, ◌≡◌, refl, ltb, length, take, drop}
use Rattle.std.proofs.Common.{sym, ap, ◌∙◌}
use Rattle.rules.specs.Bytes.{Bytes, pick}
use Rattle.rules.specs.Value.{render}
use Rattle.output.specs.declared.Writer.{Writer}
use Rattle.output.specs.Writer.{place_of}
use Rattle.output.specs.Outputs.{outputs}
use Rattle.support.specs.Feed.{escaped, fed}
use Rattle.direct.specs.Direct.{behind, set_bytes}
use Rattle.value.specs.declared.Value.{Value}
use Rattle.value.specs.Numbers.{decoded}
use Rattle.print.specs.declared.Span.{Span}
use Rattle.print.specs.Span.{calm_value}
use Rattle.meaning.specs.Forms.{Known}
use Rattle.meaning.specs.Means.{Means, means_so}

-- v is stored: n is its count and c its last byte, and the writer behind it has written it, whatever the indent is
pub record Stored (v : Bytes) (w : Writer) (page texts page' texts' : Bytes) (n c : ℕ) : Type 0 where
  pub byte : c < 256
  pub fits : place_of w + n < 2 ^ 64
  pub is : (i : Bytes) → outputs (behind n c w) page' texts' ≡ fed i v (outputs w page texts)

-- nothing is changed where 0 is told
pub record Put (v : Bytes) (w : Writer) (page texts page' texts' : Bytes) (r n c : ℕ) : Type 0 where
  pub none : r ≡ 0 → (page' ≡ page) × (texts' ≡ texts)
  pub some : (r ≡ 0 → ⊥) → Stored v w page texts page' texts' n c

-- escaping changes nothing of it
pub record PutPlain (v : Bytes) (w : Writer) (page texts page' texts' : Bytes) (r : ℕ) : Type 0 where
  pub put : Put v w page texts page' texts' r (r / 256) (r % 256)
  pub told : r ≡ set_bytes w (pick w.block_text (length texts) (length page)) v
  pub same : (r ≡ 0 → ⊥) → escaped true v ≡ v

-- what a value prints
pub record Printed (s : Bytes) (v : Value) (w : Writer) (page texts page' texts' : Bytes) (n c : ℕ) : Type 0 where
  pub byte : c < 256
  pub fits : place_of w + n < 2 ^ 64
  pub is : (b : Bytes) → Known s b v → (i : Bytes) (e : Bool) → Means s b v (λ j. outputs (behind n c w) page' texts' ≡ fed i (escaped e (render j)) (outputs w page texts))

-- bytes of the plan, where there are some, in a page or block texts of so many bytes
abbrev pub span_put : Bytes → Writer → ℕ → ℕ → Span → ℕ
span_put s w page texts p = pick (ltb p.start p.end) (set_bytes w (pick w.block_text texts page) (take (p.end - p.start) (drop p.start s))) 0

-- what the value with the number n prints, if it stands in the plan so and needs no escaping, and no indent is due
abbrev pub number_put : Bytes → Writer → ℕ → ℕ → ℕ → ℕ
number_put s w page texts n = pick (w.has_indent && w.indent_before_write) 0 (span_put s w page texts (calm_value s n))

pub record PutNumber (s : Bytes) (n : ℕ) (w : Writer) (page texts page' texts' : Bytes) (r : ℕ) : Type 0 where
  pub told : r ≡ number_put s w (length page) (length texts) n
  pub none : r ≡ 0 → (page' ≡ page) × (texts' ≡ texts)
  pub some : (r ≡ 0 → ⊥) → Printed s (decoded n) w page texts page' texts' (r / 256) (r % 256)

-- told apart by two tests
pub number_by : (s : Bytes) (w : Writer) (page texts n : ℕ) (p : Span) → p ≡ calm_value s n → (i k : Bool) → (w.has_indent && w.indent_before_write) ≡ i → ltb p.start p.end ≡ k
    → number_put s w page texts n ≡ pick i 0 (pick k (set_bytes w (pick w.block_text texts page) (take (p.end - p.start) (drop p.start s))) 0)
number_by s w page texts n p hp i k e g =
    ap (λ (z : Span). pick (w.has_indent && w.indent_before_write) 0 (span_put s w page texts z)) (sym hp) ∙ rw (e, g)

pub either_escaped : (e : Bool) (v : Bytes) → escaped true v ≡ v → escaped e v ≡ v
either_escaped true v h = h
either_escaped false v h = refl

-- where nothing was stored
pub fed_same : (i v : Bytes) (w : Writer) (page texts page' texts' : Bytes) → (page' ≡ page) × (texts' ≡ texts) → fed i v (outputs w page' texts') ≡ fed i v (outputs w page texts)
fed_same i v w page texts page' texts' h = ap (λ (x : Bytes). fed i v (outputs w x texts')) h.0 ∙ ap (λ (x : Bytes). fed i v (outputs w page x)) h.1

module _ (s b : Bytes) (v : Value) (i : Bytes) (e : Bool) (w u : Writer) (page texts page' texts' : Bytes) where
  -- p and t are left by what was written behind that
  pub value_same : (p t : Bytes) → (page' ≡ page) × (texts' ≡ texts) → Means s b v (λ j. outputs u p t ≡ fed i (escaped e (render j)) (outputs w page' texts'))
      → Means s b v (λ j. outputs u p t ≡ fed i (escaped e (render j)) (outputs w page texts))
  value_same p t h m =
      means_so s b v (λ j. outputs u p t ≡ fed i (escaped e (render j)) (outputs w page' texts')) (λ j. outputs u p t ≡ fed i (escaped e (render j)) (outputs w page texts))
      (λ j q. q ∙ fed_same i (escaped e (render j)) w page texts page' texts' h) m

  -- u is the writer behind what was stored
  pub value_by : (n c : ℕ) → u ≡ behind n c w → Printed s v w page texts page' texts' n c → Known s b v → Means s b v (λ j. outputs u page' texts' ≡ fed i (escaped e (render j)) (outputs w page texts))
  value_by n c h p k =
      means_so s b v (λ j. outputs (behind n c w) page' texts' ≡ fed i (escaped e (render j)) (outputs w page texts)) (λ j. outputs u page' texts' ≡ fed i (escaped e (render j)) (outputs w page texts))
      (λ j q. ap (λ (x : Writer). outputs x page' texts') h ∙ q) (p.is b k i e)
