-- A context of the code with the lent buffers, and the rules' state that it stands for: s is the plan, b the bundle.
use Rattle.std.specs.Prelude.{ℕ, zero, suc, ◌+◌, ◌-◌, ◌≤◌, ◌<◌, Bool, true, false, List, [], ◌∷◌, ◌++◌, ◌≡◌, eqb, length, get_or, take, drop, Option as RustOption, Some, None}
use Rattle.std.proofs.Math.Option.{Option, none, some}
use Rattle.rules.specs.Bytes.{Bytes, pick}
use Rattle.rules.specs.Bits.{bits}
use Rattle.rules.specs.Bundle.{string}
use Rattle.rules.specs.Template.{TemplateMapping}
use Rattle.rules.specs.Error.{RenderErrorReason, RenderError, page-limit}
use Rattle.error.specs.Reasons.{reason}
use Rattle.rules.specs.State as rules
use Rattle.rules.specs.State.{entries, Res, ok, err}
use Rattle.output.specs.Outputs.{Outputs, outputs, marks_of, indent_of, out_of, room_of, Sound, so_far}
use Rattle.layout.specs.Text.{text_at}
use Rattle.parts.specs.Holds.{Holds}
use Rattle.meaning.specs.Kept.{Agree}
use Rattle.scope.specs.declared.Scope.{Scope}
use Rattle.scope.specs.Scopes.{blank, partials_of, context_of, blocks_of}
use Rattle.scope.specs.Standing.{ScopesStand}
use Rattle.scope.specs.NameBits.{AllCovered}
use Rattle.scope.specs.Made.{with_count}
use Rattle.state.specs.Context.{RenderContext}
use Rattle.error.specs.declared.RenderErrorReason.{RenderErrorReason as Reason}

pub record World : Type 0 where
  pub rc : RenderContext
  pub page : Bytes
  pub texts : Bytes
  -- the buffer of which the indent is a prefix
  pub indent : Bytes
  -- the entries of merged objects and inline partials
  pub ent : List ℕ

abbrev pub world : RenderContext → Bytes → Bytes → Bytes → List ℕ → World
world c p t i e = record { rc = c; page = p; texts = t; indent = i; ent = e }

-- with another context
abbrev pub over : RenderContext → World → World
over c w = world c w.page w.texts w.indent w.ent

abbrev pub outputs_of : World → Outputs
outputs_of w = outputs w.rc.writer w.page w.texts

-- the newest scope
abbrev pub front : World → Scope
front w = get_or w.rc.scopes (w.rc.used - 1) blank

-- where the entries in use end
abbrev pub top : World → ℕ
top w = (front w).inline + (front w).count

-- The rules' state

-- what a scope's `block` says: not yet or no partial, a partial without a text, or the text of n bytes from h on
abbrev pub text_on : Bytes → ℕ → ℕ → ℕ → List (Option Bytes) → List (Option Bytes)
text_on ts zero h n below = below
text_on ts (suc zero) h n below = none ∷ below
text_on ts (suc (suc k)) h n below = some (take n (drop h ts)) ∷ below

-- the block texts of the first n scopes, the newest first; they lie one behind the other from h on
abbrev pub stack_of : Bytes → List Scope → ℕ → ℕ → List (Option Bytes)
stack_of ts l zero h = []
stack_of ts l (suc n) h = text_on ts (get_or l n blank).block h (get_or l n blank).text (stack_of ts l n (h + (get_or l n blank).text))

-- the bytes that they take
abbrev pub sizes_of : List Scope → ℕ → ℕ
sizes_of l zero = 0
sizes_of l (suc n) = (get_or l n blank).text + sizes_of l n

-- a name by one more than its place; 0 where there is none
abbrev pub name_at : Bytes → ℕ → Option Bytes
name_at b zero = none
name_at b (suc p) = some (text_at (bits b) p)

unfoldable pub abs : Bytes → Bytes → World → rules.RenderContext
abs s b w = record {
  kept = record {
    block = context_of s b w.ent (front w);
    blocks_beneath = blocks_of s b w.ent w.rc.scopes (w.rc.used - 1);
    partial_block_stack = stack_of w.texts w.rc.scopes w.rc.used w.rc.writer.high;
    indent_string = indent_of w.indent w.rc.writer;
    disable_escape = w.rc.disable_escape;
    out = out_of w.rc.writer;
  };
  seen = record {
    block_partials = partials_of s b w.ent (front w).inline (front w).count;
    current_template = name_at b w.rc.template;
    marks = marks_of w.rc.writer;
    room = room_of (outputs_of w);
  };
}

-- The error that a context holds

abbrev pub reason_of : RustOption Reason → RenderErrorReason
reason_of None = page-limit
reason_of (Some e) = reason e

abbrev pub position_of : RenderContext → Option TemplateMapping
position_of c = pick c.placed (some (record { line = c.line; column = c.column })) none

unfoldable pub error_of : Bytes → RenderContext → RenderError
error_of b c = record { reason = reason_of c.bad; position = position_of c; template_name = name_at b c.named }

-- A context that may be drawn from

pub record Ready (s b : Bytes) (w : World) : Type 0 where
  pub sized : length w.rc.scopes ≡ 32
  pub one : 1 ≤ w.rc.used
  pub most : w.rc.used ≤ 32
  pub fine : w.rc.bad ≡ None
  pub nowhere : w.rc.placed ≡ false
  pub nameless : w.rc.named ≡ 0
  pub sound : Sound (outputs_of w)
  pub scopes : ScopesStand s b w.ent w.rc.scopes w.rc.used (top w)
  -- a block name of an open scope is in the set of them
  pub covered : AllCovered w.rc.names b w.ent w.rc.scopes w.rc.used
  pub total : w.rc.total ≡ entries (abs s b w)
  pub few : w.rc.total ≤ 4096
  pub enough : top w ≤ w.rc.total
  pub table : 8192 ≤ length w.ent
  pub texts : w.rc.writer.high + sizes_of w.rc.scopes w.rc.used ≤ length w.texts
  pub high : w.rc.writer.high ≤ 16384
  pub indent : w.rc.writer.indent ≤ 256
  pub absent : w.rc.writer.has_indent ≡ false → w.rc.writer.indent ≡ 0
  pub buffer : 256 ≤ length w.indent
  pub template : (w.rc.template ≡ 0 → ⊥) → Holds string (bits b) (w.rc.template - 1)

-- Drawing

-- the lengths of the buffers stay
pub record Sizes (w w' : World) : Type 0 where
  pub page : length w'.page ≡ length w.page
  pub texts : length w'.texts ≡ length w.texts
  pub indent : length w'.indent ≡ length w.indent
  pub ent : length w'.ent ≡ length w.ent

-- v came behind the text so far; the bytes of the texts that are free may be others
pub record Grows (v : Bytes) (o o' : Outputs) : Type 0 where
  pub sound : Sound o'
  pub text : (k : ℕ) → k ≤ o.writer.low → so_far k o' ≡ so_far k o ++ v
  pub low : o.writer.low ≤ o'.writer.low
  pub high : o'.writer.high ≡ o.writer.high
  pub out : o'.writer.block_text ≡ o.writer.block_text
  pub has_indent : o'.writer.has_indent ≡ o.writer.has_indent
  pub indent : o'.writer.indent ≡ o.writer.indent
  -- the texts that are drawn beneath, and the finished ones
  pub beneath : take o.writer.low o'.texts ≡ take o.writer.low o.texts
  pub finished : drop o.writer.high o'.texts ≡ drop o.writer.high o.texts
  -- the output that is not in force
  pub page : o.writer.block_text ≡ true → (o'.writer.written ≡ o.writer.written) × (o'.page ≡ o.page)
  pub still : o.writer.block_text ≡ false → o'.writer.low ≡ o.writer.low

-- v was written, and what was open before is as it was
pub record Goes (s b v : Bytes) (w w' : World) : Type 0 where
  pub ready : Ready s b w'
  pub used : w'.rc.used ≡ w.rc.used
  pub beneath : (i : ℕ) → suc i < w.rc.used → get_or w'.rc.scopes i blank ≡ get_or w.rc.scopes i blank
  pub newest : front w' ≡ with_count (front w) (front w').count
  pub agree : Agree w.ent w'.ent (front w).inline
  pub grows : Grows v (outputs_of w) (outputs_of w')
  pub indent : take w.rc.writer.indent w'.indent ≡ take w.rc.writer.indent w.indent
  pub sizes : Sizes w w'

pub record Drawn (s b : Bytes) (w w' : World) (x : Res) : Type 0 where
  pub text : Bytes
  pub is : x ≡ ok (abs s b w') text
  pub goes : Goes s b text w w'

-- w' is what drawing x makes of w
pub record Draws (s b : Bytes) (w w' : World) (x : Res) : Type 0 where
  pub fine : w'.rc.bad ≡ None → Drawn s b w w' x
  pub refused : (w'.rc.bad ≡ None → ⊥) → x ≡ err (error_of b w'.rc)
