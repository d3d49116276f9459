-- Feeding a text and the rules' `indent_aware_write` leave writer and state alike.
use mathlib.Core.Path.{◌≡◌, refl, sym, ap, subst, ◌∙◌}
use mathlib.Core.Bool.{Bool, true, false, ◌&&◌, not}
use mathlib.Core.List.{[], ◌∷◌, ◌++◌}
use mathlib.Core.Option.{Option}
use Prim.Native.Nat.{ℕ}
use Rattle.rules.specs.Bytes.{Bytes, pick}
use Rattle.rules.specs.Support.{starts_with_newline, ends_with_newline}
use Rattle.rules.specs.Error.{RenderErrorReason}
use Rattle.rules.specs.State.{Marks, RenderContext, Res, ok, fail, choose, ◌after◌}
use Rattle.rules.specs.Output.{full, write, indent_or_empty, indented, first_indent, written, indent_aware_write}
use Rattle.output.specs.Writer.{Output, all_put}
use Rattle.output.specs.Outputs.{Outputs, outputs, with_writer, in_force, on, out_of, Says, Sound, said, answer, Grown}
use Rattle.output.proofs.Agree.{on_nothing, said_same, write_is, write_grown}
use Rattle.support.specs.Feed.{begun, fed_text, fed}
use Rattle.support.proofs.Fed.{after_text, fed_is}

-- `indent_aware_write`

after_by : (b : Bool) (r : RenderErrorReason) (c : RenderContext) (v : Bytes) (f : RenderContext → RenderContext) → (f after choose b (λ _. fail r) (λ _. ok c v)) ≡ choose b (λ _. fail r) (λ _. ok (f c) v)
unfolding choose ◌after◌
after_by true r c v f = refl
after_by false r c v f = refl

rules_text : (i v : Bytes) (c : ℕ) (o : Outputs) (s : RenderContext) → Says i o s → first_indent s (c ∷ v) ++ indented s.kept.indent_string (c ∷ v) ≡ fed_text i o.writer (c ∷ v)
rules_text i v c o s a =
    ap (λ (m : Marks). pick (not (starts_with_newline (c ∷ v)) && m.indent_before_write) (indent_or_empty s.kept.indent_string) [] ++ indented s.kept.indent_string (c ∷ v)) a.marks
    ∙ ap (λ (x : Option Bytes). pick (not (starts_with_newline (c ∷ v)) && o.writer.indent_before_write) (indent_or_empty x) [] ++ indented x (c ∷ v)) a.indent

-- it is a plain write of the text that the rules say, and pen and marks
pub fed_outputs : (i v : Bytes) (o : Outputs) → fed i v o ≡ with_writer (after_text v) (on (all_put (fed_text i o.writer v)) o)
fed_outputs i v o = ap (λ (x : Output). outputs x.writer (pick o.writer.block_text o.page x.out) (pick o.writer.block_text x.out o.texts)) (fed_is i v (in_force o))

-- THE LAW
pub indent_aware_write_is : (i v : Bytes) (o : Outputs) (s : RenderContext) → Sound o → Says i o s → indent_aware_write v s ≡ answer (fed i v o) (fed_text i o.writer v) s
unfolding indent_aware_write after_text all_put choose
indent_aware_write_is i [] o s g a =
    ap (λ (c : RenderContext). ok c []) (said_same i o s a)
    ∙ ap (λ (b : Bool). choose b (λ _. fail (full (out_of o.writer))) (λ _. ok (said o s) [])) (sym g.goes)
    ∙ ap (λ (u : Outputs). answer (with_writer begun u) [] s) (sym (on_nothing o))
    ∙ ap (λ (u : Outputs). answer u [] s) (sym (fed_outputs i [] o))
indent_aware_write_is i (c ∷ v) o s g a =
    let t : Bytes = fed_text i o.writer (c ∷ v) in
    let u : Outputs = on (all_put t) o in
    ap (λ (x : Bytes). written (ends_with_newline (c ∷ v)) after write x s) (rules_text i v c o s a)
    ∙ ap (λ (r : Res). written (ends_with_newline (c ∷ v)) after r) (write_is i t o s g a)
    ∙ after_by u.writer.full (full (out_of u.writer)) (said u s) t (written (ends_with_newline (c ∷ v)))
    ∙ ap (λ (x : Outputs). answer x t s) (sym (fed_outputs i (c ∷ v) o))

-- a text that fits: the text so far grows by it

text_grown : (t v : Bytes) (o u : Outputs) → Grown t o u → Grown t o (with_writer (after_text v) u)
unfolding after_text
text_grown t [] o u g =
    record {
      sound = record { goes = g.sound.goes; written_fits = g.sound.written_fits; low_fits = g.sound.low_fits; high_fits = g.sound.high_fits };
      text = g.text;
      high = g.high;
      out = g.out;
      has_indent = g.has_indent;
      indent = g.indent;
      beneath = g.beneath;
      finished = g.finished;
      page = g.page;
      texts = g.texts;
    }
text_grown t (c ∷ v) o u g =
    record {
      sound = record { goes = g.sound.goes; written_fits = g.sound.written_fits; low_fits = g.sound.low_fits; high_fits = g.sound.high_fits };
      text = g.text;
      high = g.high;
      out = g.out;
      has_indent = g.has_indent;
      indent = g.indent;
      beneath = g.beneath;
      finished = g.finished;
      page = g.page;
      texts = g.texts;
    }

full_same : (v : Bytes) (u : Outputs) → (with_writer (after_text v) u).writer.full ≡ u.writer.full
unfolding after_text
full_same [] u = refl
full_same (c ∷ v) u = refl

pub fed_grown : (i v : Bytes) (o : Outputs) → Sound o → (fed i v o).writer.full ≡ false → Grown (fed_text i o.writer v) o (fed i v o)
fed_grown i v o g n =
    let t : Bytes = fed_text i o.writer v in
    let e : (on (all_put t) o).writer.full ≡ false = sym (full_same v (on (all_put t) o)) ∙ ap (λ (u : Outputs). u.writer.full) (sym (fed_outputs i v o)) ∙ n in
    subst (Grown t o) (sym (fed_outputs i v o)) (text_grown t v o (on (all_put t) o) (write_grown t o g e))
