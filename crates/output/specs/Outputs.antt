-- The writer with both outputs: what it says of the rules' state, and what a write makes of both.
use Rattle.std.specs.Prelude.{ℕ, ◌-◌, ◌≤◌, ◌≡◌, true, false, ◌++◌, length, take, drop}
use Rattle.std.proofs.Math.Option.{Option, none, some}
use Rattle.std.proofs.Math.Seq.{slice}
use Rattle.rules.specs.Bytes.{Bytes, pick}
use Rattle.rules.specs.State.{Out, Marks, Room, RenderContext, set_marks, set_room, Res, ok, fail, choose}
use Rattle.rules.specs.Output.{full}
use Rattle.output.specs.declared.Writer.{Writer}
use Rattle.output.specs.Writer.{Output, output}

pub record Outputs : Type 0 where
  pub writer : Writer
  pub page : Bytes
  pub texts : Bytes

abbrev pub outputs : Writer → Bytes → Bytes → Outputs
outputs w p t = record { writer = w; page = p; texts = t }

abbrev pub with_writer : (Writer → Writer) → Outputs → Outputs
with_writer f o = outputs (f o.writer) o.page o.texts

-- what is done to the output in force
abbrev pub in_force : Outputs → Output
in_force o = output o.writer (pick o.writer.block_text o.texts o.page)

abbrev pub on : (Output → Output) → Outputs → Outputs
on f o = outputs (f (in_force o)).writer (pick o.writer.block_text o.page (f (in_force o)).out) (pick o.writer.block_text (f (in_force o)).out o.texts)

-- The rules' state

abbrev pub marks_of : Writer → Marks
marks_of w = record { trailing_newline = w.trailing_newline; content_produced = w.content_produced; indent_before_write = w.indent_before_write }

-- i is the buffer of which the indent is a prefix
abbrev pub indent_of : Bytes → Writer → Option Bytes
indent_of i w = pick w.has_indent (some (take w.indent i)) none

abbrev pub out_of : Writer → Out
out_of w = pick w.block_text Out.block_text Out.page

abbrev pub room_of : Outputs → Room
room_of o = record { page_room = length o.page - o.writer.written; texts_room = o.writer.high - o.writer.low }

-- the writer and its buffers say what the state has
pub record Says (i : Bytes) (o : Outputs) (s : RenderContext) : Type 0 where
  pub marks : s.seen.marks ≡ marks_of o.writer
  pub indent : s.kept.indent_string ≡ indent_of i o.writer
  pub out : s.kept.out ≡ out_of o.writer
  pub room : s.seen.room ≡ room_of o

-- between two writes
pub record Sound (o : Outputs) : Type 0 where
  pub goes : o.writer.full ≡ false
  pub written_fits : o.writer.written ≤ length o.page
  pub low_fits : o.writer.low ≤ o.writer.high
  pub high_fits : o.writer.high ≤ length o.texts

-- the state that a write leaves
abbrev pub said : Outputs → RenderContext → RenderContext
said o s = set_room (room_of o) (set_marks (marks_of o.writer) s)

-- the rules' answer, where a write of v left o
abbrev pub answer : Outputs → Bytes → RenderContext → Res
answer o v s = choose o.writer.full (λ _. fail (full (out_of o.writer))) (λ _. ok (said o s) v)

-- the text so far of the output in force; b is the place where the block text begins
abbrev pub so_far : ℕ → Outputs → Bytes
so_far b o = pick o.writer.block_text (slice b o.writer.low o.texts) (take o.writer.written o.page)

-- v came behind the text so far, and nothing else changed but pen and marks
pub record Grown (v : Bytes) (o o' : Outputs) : Type 0 where
  pub sound : Sound o'
  pub text : (b : ℕ) → b ≤ o.writer.low → so_far b o' ≡ so_far b o ++ v
  pub high : o'.writer.high ≡ o.writer.high
  pub out : o'.writer.block_text ≡ o.writer.block_text
  pub has_indent : o'.writer.has_indent ≡ o.writer.has_indent
  pub indent : o'.writer.indent ≡ o.writer.indent
  -- the texts that are drawn beneath, and the finished ones
  pub beneath : take o.writer.low o'.texts ≡ take o.writer.low o.texts
  pub finished : drop o.writer.high o'.texts ≡ drop o.writer.high o.texts
  -- the output that is not in force
  pub page : o.writer.block_text ≡ true → (o'.writer.written ≡ o.writer.written) × (o'.page ≡ o.page)
  pub texts : o.writer.block_text ≡ false → (o'.writer.low ≡ o.writer.low) × (o'.texts ≡ o.texts)
