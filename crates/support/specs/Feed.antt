-- Feeding a text to a writer, byte by byte, and what comes of it.
use Rattle.std.specs.Prelude.{ℕ, zero, suc, Bool, true, ◌&&◌, not, [], ◌∷◌, ◌++◌, eqb, take}
use Rattle.rules.specs.Bytes.{Bytes, pick}
use Rattle.rules.specs.Support.{newline_matcher, starts_with_newline, entity, escape_html}
use Rattle.rules.specs.Output.{indent_or_empty, indented}
use Rattle.output.specs.declared.Writer.{Writer}
use Rattle.output.specs.Writer.{Output, over, put, all_put}
use Rattle.output.specs.Outputs.{Outputs, with_writer, on, indent_of}

-- the pen: 0 where a text begins, else the last byte that was fed of it, plus one
abbrev pub with_pen : ℕ → Writer → Writer
with_pen n w = record { written = w.written; low = w.low; high = w.high; indent = w.indent; pen = n; has_indent = w.has_indent; block_text = w.block_text; full = w.full; trailing_newline = w.trailing_newline; content_produced = w.content_produced; indent_before_write = w.indent_before_write }

abbrev pub begun : Writer → Writer
begun w = with_pen 0 w

abbrev pub penned : ℕ → Writer → Writer
penned c w = with_pen (suc c) w

abbrev pub marked : Bool → Writer → Writer
marked b w = record { written = w.written; low = w.low; high = w.high; indent = w.indent; pen = w.pen; has_indent = w.has_indent; block_text = w.block_text; full = w.full; trailing_newline = b; content_produced = true; indent_before_write = b }

-- a text ends: if anything was fed, the marks say whether its last byte is a newline
abbrev pub finished_by : ℕ → Writer → Writer
finished_by zero w = w
finished_by (suc c) w = marked (newline_matcher c) w

abbrev pub finished : Writer → Writer
finished w = finished_by w.pen w

-- Feeding a text: i is the buffer of which the indent is a prefix

-- behind a line feed, or in front of a text that does not start with a newline
abbrev pub due : ℕ → Bool → Bool
due zero first = first
due (suc c) first = eqb c 10

abbrev pub wants_indent : ℕ → Writer → Bool
wants_indent c w = w.has_indent && due w.pen (not (newline_matcher c) && w.indent_before_write)

abbrev pub indent_before : Bytes → ℕ → Writer → Bytes
indent_before i c w = pick (wants_indent c w) (take w.indent i) []

unfoldable pub emitted : Bytes → ℕ → Output → Output
emitted i c o = over (penned c) (put c (all_put (indent_before i c o.writer) o))

unfoldable pub all_emitted : Bytes → Bytes → Output → Output
all_emitted i [] o = o
all_emitted i (c ∷ v) o = all_emitted i v (emitted i c o)

-- Escaping, where it is not disabled

abbrev pub entity_or : Bool → ℕ → Bytes
entity_or e c = pick e (entity c) (c ∷ [])

abbrev pub escaped : Bool → Bytes → Bytes
escaped e v = pick e (escape_html v) v

-- The whole text

-- what `indent_aware_write` writes of a text
abbrev pub fed_text : Bytes → Writer → Bytes → Bytes
fed_text i w [] = []
fed_text i w (c ∷ v) = pick (not (starts_with_newline (c ∷ v)) && w.indent_before_write) (indent_or_empty (indent_of i w)) [] ++ indented (indent_of i w) (c ∷ v)

-- beginning, feeding all of v, finishing
abbrev pub fed : Bytes → Bytes → Outputs → Outputs
fed i v o = with_writer finished (on (all_emitted i v) (with_writer begun o))
