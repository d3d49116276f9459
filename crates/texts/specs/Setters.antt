-- What the functions around a partial's drawing make of a context.
use Rattle.std.specs.Prelude.{ℕ, ◌-◌, Bool, true, get_or}
use Rattle.output.specs.declared.Writer.{Writer}
use Rattle.scope.specs.declared.Scope.{Scope}
use Rattle.scope.specs.Scopes.{blank}
use Rattle.state.specs.Context.{RenderContext}
use Rattle.state.specs.Setters.{with_writer, turned, settled, unless_bad}

-- the block texts' two ends, and whether one of them is the output in force
abbrev pub with_texts : Writer → ℕ → ℕ → Bool → Writer
with_texts w low high block = record { written = w.written; low = low; high = high; indent = w.indent; pen = w.pen; has_indent = w.has_indent; block_text = block; full = w.full; trailing_newline = w.trailing_newline; content_produced = w.content_produced; indent_before_write = w.indent_before_write }

abbrev pub text_opened : RenderContext → RenderContext
text_opened c = with_writer c (with_texts c.writer c.writer.low c.writer.high true)

abbrev pub with_block : Scope → ℕ → ℕ → Scope
with_block c block text = record { base = c.base; names = c.names; key = c.key; index = c.index; inline = c.inline; count = c.count; text = text; kind = c.kind; locals = c.locals; block = block }

abbrev pub newest : RenderContext → Scope
newest c = get_or c.scopes (c.used - 1) blank

-- where the text goes that was drawn from begin on
abbrev pub text_place : RenderContext → ℕ → ℕ
text_place c begin = c.writer.high - (c.writer.low - begin)

-- the text is among the finished ones
abbrev pub text_moved : RenderContext → ℕ → Bool → RenderContext
text_moved c begin block = with_writer c (with_texts c.writer begin (text_place c begin) block)

-- and the newest scope has it
abbrev pub text_closed : RenderContext → ℕ → Bool → RenderContext
text_closed c begin block = turned (text_moved c begin block) (with_block (newest c) 2 (c.writer.low - begin))

abbrev pub without_text : RenderContext → RenderContext
without_text c = turned c (with_block (newest c) 1 (newest c).text)

abbrev pub with_indent : Writer → Bool → ℕ → Writer
with_indent w has len = record { written = w.written; low = w.low; high = w.high; indent = len; pen = w.pen; has_indent = has; block_text = w.block_text; full = w.full; trailing_newline = w.trailing_newline; content_produced = w.content_produced; indent_before_write = w.indent_before_write }

abbrev pub indented : RenderContext → Bool → ℕ → RenderContext
indented c has len = with_writer c (with_indent c.writer has len)

-- the scopes, entries, template, finished texts and indent of before
abbrev pub cleaned : RenderContext → RenderContext → RenderContext
cleaned c before = record {
  scopes = before.scopes;
  used = before.used;
  writer = with_texts (with_indent c.writer before.writer.has_indent before.writer.indent) c.writer.low before.writer.high c.writer.block_text;
  total = before.total;
  template = before.template;
  named = c.named;
  line = c.line;
  column = c.column;
  names = before.names;
  bad = c.bad;
  placed = c.placed;
  disable_escape = c.disable_escape;
}

-- the same, and its marks are settled, unless there is an error
abbrev pub concluded : RenderContext → RenderContext → RenderContext
concluded before = unless_bad (λ c. settled (cleaned c before) before.writer)
