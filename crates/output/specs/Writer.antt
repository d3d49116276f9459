-- What a writer does to the output in force, byte by byte.
use Rattle.std.specs.Prelude.{ℕ, ◌+◌, ◌-◌, min, Bool, true, false, [], ◌∷◌, ltb, length, take}
use Rattle.std.proofs.lemmas.List.Edits.{sets}
use Rattle.rules.specs.Bytes.{Bytes, pick}
use Rattle.output.specs.declared.Writer.{Writer}

-- a writer with the buffer that it writes into: the page or the block texts
pub record Output : Type 0 where
  pub writer : Writer
  pub out : Bytes

abbrev pub output : Writer → Bytes → Output
output w b = record { writer = w; out = b }

abbrev pub over : (Writer → Writer) → Output → Output
over f o = output (f o.writer) o.out

-- Setting some parts of a writer

abbrev pub fresh : Writer
fresh = record { written = 0; low = 0; high = 16384; indent = 0; pen = 0; has_indent = false; block_text = false; full = false; trailing_newline = false; content_produced = false; indent_before_write = false }

abbrev pub moved : ℕ → ℕ → Bool → Writer → Writer
moved m l f w = record { written = m; low = l; high = w.high; indent = w.indent; pen = w.pen; has_indent = w.has_indent; block_text = w.block_text; full = f; trailing_newline = w.trailing_newline; content_produced = w.content_produced; indent_before_write = w.indent_before_write }

abbrev pub filled : Writer → Writer
filled w = moved w.written w.low true w

-- n bytes of the output in force are taken
abbrev pub advanced : ℕ → Writer → Writer
advanced n w = moved (pick w.block_text w.written (w.written + n)) (pick w.block_text (w.low + n) w.low) w.full w

-- where less than there was is written
abbrev pub filled_if : ℕ → ℕ → Writer → Writer
filled_if n of w = pick (ltb n of) (filled w) w

-- Writing plainly

-- the place of the next byte, and where the bytes that may be taken end; n is the buffer's length
abbrev pub place_of : Writer → ℕ
place_of w = pick w.block_text w.low w.written

abbrev pub limit_of : Writer → ℕ → ℕ
limit_of w n = pick w.block_text (min w.high n) n

-- the bytes that may still be taken
abbrev pub room : Output → ℕ
room o = limit_of o.writer (length o.out) - place_of o.writer

abbrev pub stored : Bytes → Output → Output
stored v o = output (advanced (length v) o.writer) (sets o.out (place_of o.writer) v)

-- one byte: it fits, or the writer is full
unfoldable pub put : ℕ → Output → Output
put c o = pick (ltb (place_of o.writer) (limit_of o.writer (length o.out))) (stored (c ∷ []) o) (over filled o)

unfoldable pub all_put : Bytes → Output → Output
all_put [] o = o
all_put (c ∷ v) o = all_put v (put c o)

-- the same at once: what fits is stored
abbrev pub wrote : Bytes → Output → Output
wrote v o = pick (ltb (room o) (length v)) (over filled (stored (take (room o) v) o)) (stored v o)
