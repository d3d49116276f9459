-- What is done to the output in force, where that is the page and where it is a block text: what a function that lends one of the two cites.
use mathlib.Core.Path.{◌≡◌, sym, ap, ◌∙◌}
use mathlib.Core.Bool.{Bool, true, false}
use Rattle.rules.specs.Bytes.{Bytes, pick}
use Rattle.output.specs.declared.Writer.{Writer}
use Rattle.output.specs.Writer.{Output, output}
use Rattle.output.specs.Outputs.{Outputs, outputs, on}

on_by : Bool → (Output → Output) → Writer → Bytes → Bytes → Outputs
on_by b f w p t = outputs (f (output w (pick b t p))).writer (pick b p (f (output w (pick b t p))).out) (pick b (f (output w (pick b t p))).out t)

module _ (f : Output → Output) (w r : Writer) (p t : Bytes) where
  pub on_texts : (t' : Bytes) → w.block_text ≡ true → output r t' ≡ f (output w t) → outputs r p t' ≡ on f (outputs w p t)
  unfolding on_by
  on_texts t' b e = ap (λ (o : Output). outputs o.writer p o.out) e ∙ sym (ap (λ (x : Bool). on_by x f w p t) b)

  pub on_page : (p' : Bytes) → w.block_text ≡ false → output r p' ≡ f (output w p) → outputs r p' t ≡ on f (outputs w p t)
  unfolding on_by
  on_page p' b e = ap (λ (o : Output). outputs o.writer o.out t) e ∙ sym (ap (λ (x : Bool). on_by x f w p t) b)
