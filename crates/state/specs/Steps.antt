-- Steps of a context: parts of it are set, scopes are opened, changed and closed.
use Prim.Native.Nat.{ℕ, zero, suc, ◌+◌, ◌-◌, ◌*◌, ◌≤◌, ◌<◌}
use Rattle.std.specs.Prelude.{Bool, true, false, ◌≡◌, length, get_or, take, drop, set}
use mathlib.Core.List.{List, [], ◌∷◌, ◌++◌, append-nil}
use Rattle.std.proofs.Math.Option.{Option, none, some}
use Rattle.std.proofs.Math.Path.{refl, sym, ap, ap₂, subst}
use Rattle.std.proofs.Common.{◌∙◌, get_or-set_same, get_or-set_other}
use native.Mathlib.Omega.{arith}
use Rattle.std.proofs.Math.ListN.{length-set}
use Rattle.rules.specs.Bytes.{Bytes, pick}
use Rattle.rules.specs.Bits.{bits}
use Rattle.rules.specs.Bundle.{string}
use Rattle.rules.specs.Partials.{size}
use Rattle.rules.specs.Block.{Block, BlockContext}
use Rattle.rules.specs.State as rules
use Rattle.rules.specs.State.{entries, entries_in, blocks, depth, push_block, pop_block, set_block, set_disable_escape, set_current_template_name, set_content_produced, set_indent_before_write, Res, ok, err, ◌after◌}
use Rattle.output.specs.declared.Writer.{Writer}
use Rattle.output.specs.Outputs.{Outputs, outputs, Sound}
use Rattle.parts.specs.Holds.{Holds}
use Rattle.meaning.specs.Kept.{Agree}
use Rattle.scope.specs.declared.Scope.{Scope}
use Rattle.scope.specs.Scopes.{blank, context_of, partials_of, block_of, blocks_of}
use Rattle.scope.specs.Standing.{ScopeStands, ScopesStand}
use Rattle.std.specs.Int.Bits.{bit_or}
use Rattle.scope.specs.NameBits.{Covers, push_covered}
use Rattle.scope.specs.Made.{with_count}
use Rattle.scope.proofs.StackLaws.{blocks_under, blocks_set, push_stands, pop_stands, blocks_kept, scopes_kept}
use Rattle.state.specs.Context.{RenderContext}
use Rattle.state.specs.Setters.{with_escape, with_template, with_writer, with_marks, with_scopes, with_names}
use Rattle.state.specs.World.{World, over, outputs_of, front, top, text_on, stack_of, sizes_of, name_at, abs, error_of, Ready, Sizes, Grows, Goes, Drawn, Draws}
use Rattle.state.specs.Laws.{grows_none, grows_trans, sizes_trans, goes_self}

-- One part is set

module _ (s b : Bytes) (w : World) (r : Ready s b w) where
  pub goes_escape : (y : Bool) → Goes s b [] w (over (with_escape w.rc y) w)
  unfolding abs
  goes_escape y =
      let ready : Ready s b (over (with_escape w.rc y) w) = record { sized = r.sized; one = r.one; most = r.most; fine = r.fine; nowhere = r.nowhere; nameless = r.nameless; sound = r.sound; scopes = r.scopes; covered = r.covered; total = r.total; few = r.few; enough = r.enough; table = r.table; texts = r.texts; high = r.high; indent = r.indent; absent = r.absent; buffer = r.buffer; template = r.template } in
      record { ready = ready; used = refl; beneath = λ i lt. refl; newest = refl; agree = record { same = λ i lt. refl }; grows = grows_none (outputs_of w) r.sound; indent = refl; sizes = record { page = refl; texts = refl; indent = refl; ent = refl } }

  pub goes_template : (n : ℕ) → ((n ≡ 0 → ⊥) → Holds string (bits b) (n - 1)) → Goes s b [] w (over (with_template w.rc n) w)
  unfolding abs
  goes_template n h =
      let ready : Ready s b (over (with_template w.rc n) w) = record { sized = r.sized; one = r.one; most = r.most; fine = r.fine; nowhere = r.nowhere; nameless = r.nameless; sound = r.sound; scopes = r.scopes; covered = r.covered; total = r.total; few = r.few; enough = r.enough; table = r.table; texts = r.texts; high = r.high; indent = r.indent; absent = r.absent; buffer = r.buffer; template = h } in
      record { ready = ready; used = refl; beneath = λ i lt. refl; newest = refl; agree = record { same = λ i lt. refl }; grows = grows_none (outputs_of w) r.sound; indent = refl; sizes = record { page = refl; texts = refl; indent = refl; ent = refl } }

  pub goes_marks : (p q : Bool) → Goes s b [] w (over (with_writer w.rc (with_marks w.rc.writer p q)) w)
  unfolding abs
  goes_marks p q =
      let sound : Sound (outputs (with_marks w.rc.writer p q) w.page w.texts) = record { goes = r.sound.goes; written_fits = r.sound.written_fits; low_fits = r.sound.low_fits; high_fits = r.sound.high_fits } in
      let ready : Ready s b (over (with_writer w.rc (with_marks w.rc.writer p q)) w) = record { sized = r.sized; one = r.one; most = r.most; fine = r.fine; nowhere = r.nowhere; nameless = r.nameless; sound = sound; scopes = r.scopes; covered = r.covered; total = r.total; few = r.few; enough = r.enough; table = r.table; texts = r.texts; high = r.high; indent = r.indent; absent = r.absent; buffer = r.buffer; template = r.template } in
      record {
        ready = ready;
        used = refl;
        beneath = λ i lt. refl;
        newest = refl;
        agree = record { same = λ i lt. refl };
        grows = record { sound = sound; text = λ k le. sym (append-nil _); low = omega arith; high = refl; out = refl; has_indent = refl; indent = refl; beneath = refl; finished = refl; page = λ e. (refl, refl); still = λ e. refl };
        indent = refl;
        sizes = record { page = refl; texts = refl; indent = refl; ent = refl };
      }

module _ (s b : Bytes) (w : World) where
  pub abs_escape : (y : Bool) → abs s b (over (with_escape w.rc y) w) ≡ set_disable_escape y (abs s b w)
  unfolding abs
  abs_escape y = refl

  pub abs_template : (n : ℕ) → abs s b (over (with_template w.rc n) w) ≡ set_current_template_name (name_at b n) (abs s b w)
  unfolding abs
  abs_template n = refl

  pub abs_marks : (p q : Bool) → abs s b (over (with_writer w.rc (with_marks w.rc.writer p q)) w) ≡ set_indent_before_write q (set_content_produced p (abs s b w))
  unfolding abs
  abs_marks p q = refl

-- One more scope

-- w' has the scopes of w and one more; v was written inside
pub record Within (s b v : Bytes) (w w' : World) : Type 0 where
  pub ready : Ready s b w'
  pub used : w'.rc.used ≡ suc w.rc.used
  pub beneath : (i : ℕ) → i < w.rc.used → get_or w'.rc.scopes i blank ≡ get_or w.rc.scopes i blank
  -- its entries are behind those of the others
  pub above : top w ≤ (front w').inline
  pub agree : Agree w.ent w'.ent (top w)
  pub grows : Grows v (outputs_of w) (outputs_of w')
  pub indent : take w.rc.writer.indent w'.indent ≡ take w.rc.writer.indent w.indent
  pub sizes : Sizes w w'

-- something is drawn inside
pub within_goes : (s b v u : Bytes) (w w₁ w₂ : World) → Within s b v w w₁ → Goes s b u w₁ w₂ → Within s b (v ++ u) w w₂
within_goes s b v u w w₁ w₂ h g =
    let inline : (front w₂).inline ≡ (front w₁).inline = ap (λ (c : Scope). c.inline) g.newest in
    let n : w₁.rc.writer.indent ≡ w.rc.writer.indent = h.grows.indent in
    record {
      ready = g.ready;
      used = g.used ∙ h.used;
      beneath = λ i lt. g.beneath i (omega (arith, h.used)) ∙ h.beneath i lt;
      above = omega (arith, h.above);
      agree = record { same = λ i lt. h.agree.same i lt ∙ g.agree.same i (omega (arith, h.above)) };
      grows = grows_trans v u (outputs_of w) (outputs_of w₁) (outputs_of w₂) h.grows g.grows;
      indent = subst (λ (k : ℕ). take k w₂.indent ≡ take k w₁.indent) n g.indent ∙ h.indent;
      sizes = sizes_trans w w₁ w₂ h.sizes g.sizes;
    }

-- the stack of texts does not see a scope above it
pub stack_under : (ts : Bytes) (l l' : List Scope) (n h : ℕ) → ((i : ℕ) → i < n → get_or l' i blank ≡ get_or l i blank) → stack_of ts l' n h ≡ stack_of ts l n h
stack_under ts l l' zero h e = refl
stack_under ts l l' (suc n) h e =
    ap (λ (c : Scope). text_on ts c.block h c.text (stack_of ts l' n (h + c.text))) (e n (omega arith))
    ∙ ap (text_on ts (get_or l n blank).block h (get_or l n blank).text) (stack_under ts l l' n (h + (get_or l n blank).text) (λ i lt. e i (omega arith)))

pub sizes_under : (l l' : List Scope) (n : ℕ) → ((i : ℕ) → i < n → get_or l' i blank ≡ get_or l i blank) → sizes_of l' n ≡ sizes_of l n
sizes_under l l' zero e = refl
sizes_under l l' (suc n) e = ap₂ (λ (c : Scope) (m : ℕ). c.text + m) (e n (omega arith)) (sizes_under l l' n (λ i lt. e i (omega arith)))

pub blocks_alike : (s b : Bytes) (ent : List ℕ) (l l' : List Scope) (n : ℕ) → ((i : ℕ) → i < n → get_or l' i blank ≡ get_or l i blank) → blocks_of s b ent l' n ≡ blocks_of s b ent l n
blocks_alike s b ent l l' zero e = refl
blocks_alike s b ent l l' (suc n) e = ap₂ (λ (c : Scope) (x : List Block). block_of s b ent c ∷ x) (e n (omega arith)) (blocks_alike s b ent l l' n (λ i lt. e i (omega arith)))

-- a scope without a block text puts nothing on it
pub text_plain : (ts : Bytes) (l : List Scope) (m h k n : ℕ) → k ≡ 0 → n ≡ 0 → text_on ts k h n (stack_of ts l m (h + n)) ≡ stack_of ts l m h
text_plain ts l m h k n e f =
    let z : h + n ≡ h = omega arith in
    ap (λ (k : ℕ). text_on ts k h n (stack_of ts l m (h + n))) e ∙ ap (stack_of ts l m) z

-- the open scopes of a context
pub blocks_abs : (s b : Bytes) (w : World) → 1 ≤ w.rc.used → blocks (abs s b w) ≡ blocks_of s b w.ent w.rc.scopes w.rc.used
unfolding abs
blocks_abs s b w le = let e : suc (w.rc.used - 1) ≡ w.rc.used = omega arith in ap (blocks_of s b w.ent w.rc.scopes) e

length_blocks : (s b : Bytes) (ent : List ℕ) (l : List Scope) (n : ℕ) → length (blocks_of s b ent l n) ≡ n
length_blocks s b ent l zero = refl
length_blocks s b ent l (suc n) = ap suc (length_blocks s b ent l n)

pub depth_abs : (s b : Bytes) (w : World) → 1 ≤ w.rc.used → depth (abs s b w) ≡ w.rc.used
unfolding abs
depth_abs s b w le = ap suc (length_blocks s b w.ent w.rc.scopes (w.rc.used - 1)) ∙ omega arith

-- a scope is opened: it has no inline partial and no block text yet; t is the entries in use with it, and its block names are in m
module _ (s b : Bytes) (w : World) (c : Scope) (t : ℕ) (r : Ready s b w) (lt : w.rc.used < 32) (st : ScopeStands s b w.ent c)
    (above : top w ≤ c.inline) (none_yet : c.count ≡ 0) (no_block : c.block ≡ 0) (no_text : c.text ≡ 0)
    (sum : t ≡ (context_of s b w.ent c).merged_entries + w.rc.total) (few : t ≤ 4096) (enough : c.inline ≤ t) (m : ℕ) (covers : Covers m b w.ent c) where
  abbrev opened : World
  opened = over (with_names (with_scopes w.rc (set w.rc.scopes w.rc.used c) (w.rc.used + 1) t) (bit_or w.rc.names m)) w

  under : (i : ℕ) → i < w.rc.used → get_or (set w.rc.scopes w.rc.used c) i blank ≡ get_or w.rc.scopes i blank
  under i h = get_or-set_other w.rc.scopes w.rc.used i c blank (λ e. omega arith)

  here : get_or (set w.rc.scopes w.rc.used c) w.rc.used blank ≡ c
  here = get_or-set_same w.rc.scopes w.rc.used c blank (omega (arith, r.sized))

  newest : front opened ≡ c
  newest = let e : w.rc.used + 1 - 1 ≡ w.rc.used = omega arith in ap (λ (i : ℕ). get_or (set w.rc.scopes w.rc.used c) i blank) e ∙ here

  stack_is : stack_of w.texts (set w.rc.scopes w.rc.used c) (w.rc.used + 1) w.rc.writer.high ≡ stack_of w.texts w.rc.scopes w.rc.used w.rc.writer.high
  stack_is =
      let e : w.rc.used + 1 ≡ suc w.rc.used = omega arith in
      ap (λ (n : ℕ). stack_of w.texts (set w.rc.scopes w.rc.used c) n w.rc.writer.high) e
      ∙ ap (λ (x : Scope). text_on w.texts x.block w.rc.writer.high x.text (stack_of w.texts (set w.rc.scopes w.rc.used c) w.rc.used (w.rc.writer.high + x.text))) here
      ∙ text_plain w.texts (set w.rc.scopes w.rc.used c) w.rc.used w.rc.writer.high c.block c.text no_block no_text
      ∙ stack_under w.texts w.rc.scopes (set w.rc.scopes w.rc.used c) w.rc.used w.rc.writer.high under

  sizes_is : sizes_of (set w.rc.scopes w.rc.used c) (w.rc.used + 1) ≡ sizes_of w.rc.scopes w.rc.used
  sizes_is =
      let e : w.rc.used + 1 ≡ suc w.rc.used = omega arith in
      let m : ℕ = sizes_of (set w.rc.scopes w.rc.used c) w.rc.used in
      let z : c.text + m ≡ m = omega arith in
      ap (sizes_of (set w.rc.scopes w.rc.used c)) e ∙ ap (λ (x : Scope). x.text + m) here ∙ z
      ∙ sizes_under w.rc.scopes (set w.rc.scopes w.rc.used c) w.rc.used under

  beneath_is : blocks_of s b w.ent (set w.rc.scopes w.rc.used c) (w.rc.used + 1 - 1) ≡ blocks (abs s b w)
  beneath_is =
      let e : w.rc.used + 1 - 1 ≡ w.rc.used = omega arith in
      ap (blocks_of s b w.ent (set w.rc.scopes w.rc.used c)) e
      ∙ blocks_alike s b w.ent w.rc.scopes (set w.rc.scopes w.rc.used c) w.rc.used under ∙ sym (blocks_abs s b w r.one)

  pub abs_open : abs s b opened ≡ push_block (context_of s b w.ent c) (abs s b w)
  unfolding abs
  abs_open =
      ap₂ (λ (x : Scope) (k : List (Option Bytes)). record {
        kept = record { block = context_of s b w.ent x; blocks_beneath = blocks_of s b w.ent (set w.rc.scopes w.rc.used c) (w.rc.used + 1 - 1); partial_block_stack = k; indent_string = (abs s b w).kept.indent_string; disable_escape = w.rc.disable_escape; out = (abs s b w).kept.out };
        seen = record { block_partials = partials_of s b w.ent x.inline x.count; current_template = (abs s b w).seen.current_template; marks = (abs s b w).seen.marks; room = (abs s b w).seen.room };
      }) newest stack_is
      ∙ ap₂ (λ (n : ℕ) (l : List Block). record {
        kept = record { block = context_of s b w.ent c; blocks_beneath = l; partial_block_stack = (abs s b w).kept.partial_block_stack; indent_string = (abs s b w).kept.indent_string; disable_escape = w.rc.disable_escape; out = (abs s b w).kept.out };
        seen = record { block_partials = partials_of s b w.ent c.inline n; current_template = (abs s b w).seen.current_template; marks = (abs s b w).seen.marks; room = (abs s b w).seen.room };
      }) none_yet beneath_is

  pub within_open : Within s b [] w opened
  unfolding abs
  within_open = record {
    ready = record {
      sized = length-set w.rc.scopes w.rc.used c ∙ r.sized;
      one = omega arith;
      most = omega arith;
      fine = r.fine;
      nowhere = r.nowhere;
      nameless = r.nameless;
      sound = r.sound;
      scopes = subst (λ (x : Scope). ScopesStand s b w.ent (set w.rc.scopes w.rc.used c) (w.rc.used + 1) (x.inline + x.count)) (sym newest) stand;
      covered = push_covered b w.ent w.rc.scopes w.rc.used w.rc.names m c (omega (arith, r.sized)) r.covered covers;
      total = sum ∙ ap (λ (i : ℕ). (context_of s b w.ent c).merged_entries + i) r.total ∙ sum_is;
      few = few;
      enough = subst (λ (x : Scope). x.inline + x.count ≤ t) (sym newest) (omega arith);
      table = r.table;
      texts = rw sizes_is r.texts;
      high = r.high;
      indent = r.indent;
      absent = r.absent;
      buffer = r.buffer;
      template = r.template;
    };
    used = omega arith;
    beneath = under;
    above = subst (λ (x : Scope). top w ≤ x.inline) (sym newest) above;
    agree = record { same = λ i h. refl };
    grows = grows_none (outputs_of w) r.sound;
    indent = refl;
    sizes = record { page = refl; texts = refl; indent = refl; ent = refl };
  }
    where
      stand : ScopesStand s b w.ent (set w.rc.scopes w.rc.used c) (w.rc.used + 1) (c.inline + c.count)
      stand =
          let e : suc w.rc.used ≡ w.rc.used + 1 = omega arith in
          subst (λ (n : ℕ). ScopesStand s b w.ent (set w.rc.scopes w.rc.used c) n (c.inline + c.count)) e
          (push_stands s b w.ent w.rc.scopes c w.rc.used (top w) (c.inline + c.count) r.scopes (omega (arith, r.sized)) st above (omega arith) (omega (arith, r.table)))

      sum_is : (context_of s b w.ent c).merged_entries + entries (abs s b w) ≡ entries (abs s b opened)
      sum_is =
          let z : (context_of s b w.ent c).merged_entries ≡ (context_of s b w.ent c).merged_entries + 0 = omega arith in
          ap (λ (m : ℕ). m + entries (abs s b w)) z ∙ ap entries (sym abs_open)
