-- What the setters of a context make.
use Rattle.std.specs.Prelude.{ℕ, zero, suc, ◌+◌, ◌-◌, Bool, true, false, List, eqb, set, replicate, Option as RustOption, Some, None}
use Rattle.std.specs.Option.{is_some}
use Rattle.std.specs.Int.Bits.{bit_or}
use Rattle.rules.specs.Bytes.{Bytes, pick}
use Rattle.output.specs.declared.Writer.{Writer}
use Rattle.output.specs.Writer as writer
use Rattle.scope.specs.declared.Scope.{Scope}
use Rattle.scope.specs.Scopes.{blank}
use Rattle.state.specs.Context.{RenderContext}
use Rattle.error.specs.declared.RenderErrorReason.TheVariants.{BlockTextsLimit, PageLimit}
use Rattle.error.specs.declared.RenderErrorReason.{RenderErrorReason as Reason}

abbrev pub fresh : RenderContext
fresh = record { scopes = replicate 32 blank; used = 1; writer = writer.fresh; total = 0; template = 0; named = 0; line = 0; column = 0; names = 0; bad = None; placed = false; disable_escape = false }

abbrev pub failed : RenderContext → RustOption Reason → RenderContext
failed c n = record { scopes = c.scopes; used = c.used; writer = c.writer; total = c.total; template = c.template; named = c.named; line = c.line; column = c.column; names = c.names; bad = n; placed = c.placed; disable_escape = c.disable_escape }

abbrev pub located : RenderContext → ℕ → ℕ → ℕ → RenderContext
located c n l k = record {
  scopes = c.scopes;
  used = c.used;
  writer = c.writer;
  total = c.total;
  template = c.template;
  named = pick (eqb c.named 0) n c.named;
  line = pick c.placed c.line l;
  column = pick c.placed c.column k;
  names = c.names;
  bad = c.bad;
  placed = true;
  disable_escape = c.disable_escape;
}

abbrev pub with_escape : RenderContext → Bool → RenderContext
with_escape c b = record { scopes = c.scopes; used = c.used; writer = c.writer; total = c.total; template = c.template; named = c.named; line = c.line; column = c.column; names = c.names; bad = c.bad; placed = c.placed; disable_escape = b }

abbrev pub with_template : RenderContext → ℕ → RenderContext
with_template c n = record { scopes = c.scopes; used = c.used; writer = c.writer; total = c.total; template = n; named = c.named; line = c.line; column = c.column; names = c.names; bad = c.bad; placed = c.placed; disable_escape = c.disable_escape }

abbrev pub with_writer : RenderContext → Writer → RenderContext
with_writer c w = record { scopes = c.scopes; used = c.used; writer = w; total = c.total; template = c.template; named = c.named; line = c.line; column = c.column; names = c.names; bad = c.bad; placed = c.placed; disable_escape = c.disable_escape }

-- a writer that has written: what does not fit is 24 in a block text and 25 on the page
abbrev pub wrote : RenderContext → Writer → RenderContext
wrote c w = pick w.full (failed (with_writer c w) (Some (pick w.block_text BlockTextsLimit PageLimit))) (with_writer c w)

abbrev pub with_marks : Writer → Bool → Bool → Writer
with_marks w produced before = record { written = w.written; low = w.low; high = w.high; indent = w.indent; pen = w.pen; has_indent = w.has_indent; block_text = w.block_text; full = w.full; trailing_newline = w.trailing_newline; content_produced = produced; indent_before_write = before }

-- the marks in front of a helper or a partial
abbrev pub marked : RenderContext → Bool → RenderContext
marked c b = with_writer c (with_marks c.writer false b)

-- the marks behind it; before and w hold those from in front
abbrev pub settled_marks : Writer → Writer → Writer
settled_marks w before = pick w.content_produced (with_marks w true w.trailing_newline) (with_marks w before.content_produced before.indent_before_write)

abbrev pub settled : RenderContext → Writer → RenderContext
settled c w = with_writer c (settled_marks c.writer w)

abbrev pub with_scopes : RenderContext → List Scope → ℕ → ℕ → RenderContext
with_scopes c l n t = record { scopes = l; used = n; writer = c.writer; total = t; template = c.template; named = c.named; line = c.line; column = c.column; names = c.names; bad = c.bad; placed = c.placed; disable_escape = c.disable_escape }

abbrev pub with_names : RenderContext → ℕ → RenderContext
with_names c m = record { scopes = c.scopes; used = c.used; writer = c.writer; total = c.total; template = c.template; named = c.named; line = c.line; column = c.column; names = m; bad = c.bad; placed = c.placed; disable_escape = c.disable_escape }

-- a scope is opened; its block names are in m
abbrev pub pushed : RenderContext → Scope → ℕ → RenderContext
pushed c x m = with_names (with_scopes c (set c.scopes c.used x) (c.used + 1) c.total) (bit_or c.names m)

abbrev pub turned : RenderContext → Scope → RenderContext
turned c x = with_scopes c (set c.scopes (c.used - 1) x) c.used c.total

abbrev pub counted : RenderContext → ℕ → RenderContext
counted c t = with_scopes c c.scopes c.used t

-- the newest scope is closed: what it changed is as in o, the context before it
abbrev pub closed : RenderContext → RenderContext → RenderContext
closed o c = with_names (with_scopes c o.scopes o.used o.total) o.names

-- Behind a block or a partial: w holds the marks from in front

-- f, unless there is an error
abbrev pub unless_bad : (RenderContext → RenderContext) → RenderContext → RenderContext
unless_bad f c = pick (is_some c.bad) c (f c)

abbrev pub finished : Writer → RenderContext → RenderContext
finished w = unless_bad (λ c. settled c w)

-- the newest scope is closed
abbrev pub finished_within : RenderContext → RenderContext → RenderContext
finished_within o = unless_bad (λ c. settled (closed o c) o.writer)

-- the current template is again the one from before
abbrev pub finished_named : ℕ → Writer → RenderContext → RenderContext
finished_named n w = unless_bad (λ c. settled (with_template c n) w)
