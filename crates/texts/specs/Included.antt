-- The state inside a partial: its scope is open, and what its block text is has been settled.
use Rattle.std.specs.Prelude.{ℕ, zero, suc, ◌+◌, ◌-◌, ◌≤◌, ◌<◌, Bool, true, false, ◌≡◌, refl, eqb, length, get_or, take, drop, set}
use mathlib.Core.List.{List, [], ◌∷◌, append-nil}
use Rattle.std.proofs.Math.Option.{Option, none, some}
use Rattle.std.proofs.Common.{sym, ap, ◌∙◌, subst, arith, eqb-true, length-set, length-take-le, take-add, drop_at, drop-drop, get_or-set_same, get_or-set_other}
use Rattle.std.proofs.Math.Path.{ap₂}
use Rattle.std.proofs.lemmas.Bool.{eqb-false}
use Rattle.std.proofs.Math.Seq.{slice, slice_empty, length-slice}
use Rattle.rules.specs.Bytes.{Bytes, pick}
use Rattle.rules.specs.Block.{Block, BlockContext, BlockParams, set_block_params}
use Rattle.rules.specs.State.{entries}
use Rattle.output.specs.declared.Writer.{Writer}
use Rattle.output.specs.Outputs.{Outputs, outputs, marks_of, indent_of, out_of, room_of, Sound, so_far}
use Rattle.meaning.specs.Kept.{Agree}
use Rattle.scope.specs.declared.Scope.{Scope}
use Rattle.scope.specs.Scopes.{blank, params_by, context_of, partials_of, blocks_of}
use Rattle.scope.specs.Standing.{ScopeStands, ScopesStand}
use Rattle.scope.proofs.StackLaws.{names_move, push_stands, pop_stands}
use Rattle.scope.specs.Names.{param_by}
use Rattle.scope.specs.NameBits.{Covers}
use Rattle.state.specs.Setters.{with_writer, turned}
use Rattle.state.specs.World.{World, world, outputs_of, front, top, text_on, stack_of, sizes_of, abs, Ready, Sizes, Grows}
use Rattle.state.specs.Steps.{stack_under, sizes_under, blocks_alike}
use Rattle.texts.specs.Setters.{with_block}

-- the text so far is as it was, and so is what lies under and behind it
pub record Held (o o' : Outputs) : Type 0 where
  pub text : (k : ℕ) → k ≤ o.writer.low → so_far k o' ≡ so_far k o
  pub low : o'.writer.low ≡ o.writer.low
  pub out : o'.writer.block_text ≡ o.writer.block_text
  pub beneath : take o.writer.low o'.texts ≡ take o.writer.low o.texts
  pub finished : drop o.writer.high o'.texts ≡ drop o.writer.high o.texts
  -- the output that is not in force
  pub page : o.writer.block_text ≡ true → (o'.writer.written ≡ o.writer.written) × (o'.page ≡ o.page)

-- w' has the scopes of w and one more, that of a partial; nothing was written
pub record Included (s b : Bytes) (w w' : World) : Type 0 where
  pub ready : Ready s b w'
  pub used : w'.rc.used ≡ suc w.rc.used
  pub beneath : (i : ℕ) → i < w.rc.used → get_or w'.rc.scopes i blank ≡ get_or w.rc.scopes i blank
  pub above : top w ≤ (front w').inline
  pub agree : Agree w.ent w'.ent (top w)
  pub held : Held (outputs_of w) (outputs_of w')
  -- its block text, if it has one, lies in front of the finished ones
  pub settled : 1 ≤ (front w').block
  pub without : (front w').block ≡ 1 → (front w').text ≡ 0
  pub high : w'.rc.writer.high + (front w').text ≡ w.rc.writer.high
  -- the indent may have become longer
  pub indent : take w.rc.writer.indent w'.indent ≡ take w.rc.writer.indent w.indent
  pub longer : w.rc.writer.indent ≤ w'.rc.writer.indent
  pub sizes : Sizes w w'

-- Texts

-- the stack of texts does not see what lies in front of it
pub stack_behind : (ts ts' : Bytes) (l : List Scope) (n h : ℕ) → drop h ts' ≡ drop h ts → stack_of ts' l n h ≡ stack_of ts l n h
stack_behind ts ts' l zero h e = refl
stack_behind ts ts' l (suc n) h e =
    let t : ℕ = (get_or l n blank).text in
    go (get_or l n blank).block t (stack_behind ts ts' l n (h + t) (sym (drop-drop t h ts') ∙ ap (drop t) e ∙ drop-drop t h ts))
  where
    go : (k t : ℕ) {x y : List (Option Bytes)} → x ≡ y → text_on ts' k h t x ≡ text_on ts k h t y
    go zero t f = f
    go (suc zero) t f = ap (λ (z : List (Option Bytes)). none ∷ z) f
    go (suc (suc k)) t f = ap₂ (λ (d : Bytes) (z : List (Option Bytes)). some (take t d) ∷ z) e f

-- n bytes from h on
pub taken : (ts : Bytes) (h n : ℕ) → h + n ≤ length ts → take n (drop h ts) ≡ slice h (h + n) ts
taken ts h n le = sym (ap (drop h) (take-add h n ts) ∙ drop_at (take h ts) (take n (drop h ts)) h (length-take-le h ts (omega arith)))

pub so_far_text : (k : ℕ) (o : Outputs) → o.writer.block_text ≡ true → so_far k o ≡ slice k o.writer.low o.texts
so_far_text k o e = ap (λ (y : Bool). pick y (slice k o.writer.low o.texts) (take o.writer.written o.page)) e

-- where nothing was written
-- a block text leaves a scope's block names
covers_block : (m : ℕ) (b : Bytes) (ent : List ℕ) (c : Scope) (k n : ℕ) → Covers m b ent c → Covers m b ent (with_block c k n)
covers_block m b ent c k n h = record { clear = λ t x. same_by t c.kind ∙ h.clear t x }
  where
    same_by : (t : Bytes) (i : ℕ) → param_by b ent (with_block c k n) t i ≡ param_by b ent c t i
    same_by t zero = refl
    same_by t (suc zero) = refl
    same_by t (suc (suc zero)) = refl
    same_by t (suc (suc (suc i))) = refl

module _ (o o' : Outputs) (g : Grows [] o o') where
  low_held : o'.writer.low ≡ o.writer.low
  low_held = go o.writer.block_text refl
    where
      go : (y : Bool) → o.writer.block_text ≡ y → o'.writer.low ≡ o.writer.low
      go false e = g.still e
      go true e =
          let m : ℕ = o.writer.low in
          let x : slice m o'.writer.low o'.texts ≡ [] =
          sym (so_far_text m o' (g.out ∙ e)) ∙ g.text m (omega arith) ∙ append-nil (so_far m o) ∙ so_far_text m o e ∙ slice_empty m o.texts in
          let n : 0 ≡ o'.writer.low - m = sym (ap length x) ∙ length-slice m o'.writer.low o'.texts (omega (arith, g.sound.low_fits, g.sound.high_fits)) in
          omega (arith, n, g.low)

  pub held_none : Held o o'
  held_none = record { text = λ k le. g.text k le ∙ append-nil (so_far k o); low = low_held; out = g.out; beneath = g.beneath; finished = g.finished; page = g.page }

-- The newest scope gets a block text

module _ (s b : Bytes) (ent : List ℕ) (c : Scope) (k n : ℕ) where
  pub with_block_is : context_of s b ent (with_block c k n) ≡ context_of s b ent c
  with_block_is = ap (λ (p : BlockParams). set_block_params p (context_of s b ent c)) (params c.kind)
    where
      params : (m : ℕ) → params_by s b ent (with_block c k n) m ≡ params_by s b ent c m
      params zero = refl
      params (suc zero) = refl
      params (suc (suc zero)) = refl
      params (suc (suc (suc m))) = refl

  pub with_block_stands : ScopeStands s b ent c → ScopeStands s b ent (with_block c k n)
  with_block_stands st = record { base = st.base; present = st.present; key = st.key; locals = st.locals; names = names_move b c (with_block c k n) c.kind refl refl st.names; inlines = st.inlines; distinct = st.distinct }

-- with the writer q and the texts ts
module _ (s b : Bytes) (w : World) (r : Ready s b w) (k n : ℕ) (q : Writer) (ts : Bytes) (sound : Sound (outputs q w.page ts))
    (fits : q.high + (n + sizes_of w.rc.scopes (w.rc.used - 1)) ≤ length ts) (same_indent : q.indent ≡ w.rc.writer.indent) (same-has : q.has_indent ≡ w.rc.writer.has_indent) where
  abbrev m : ℕ
  m = w.rc.used - 1

  abbrev c : Scope
  c = with_block (front w) k n

  abbrev l : List Scope
  l = w.rc.scopes

  abbrev pub given : World
  given = world (turned (with_writer w.rc q) c) w.page ts w.indent w.ent

  e : w.rc.used ≡ suc m
  e = omega (arith, r.one)

  lt : m < length l
  lt = omega (arith, r.sized, r.most, r.one)

  pub given_under : (i : ℕ) → i < m → get_or (set l m c) i blank ≡ get_or l i blank
  given_under i h = get_or-set_other l m i c blank (λ z. omega arith)

  pub given_front : front given ≡ c
  given_front = get_or-set_same l m c blank lt

  stack_is : stack_of ts (set l m c) w.rc.used q.high ≡ text_on ts k q.high n (stack_of ts l m (q.high + n))
  stack_is =
      ap (λ (i : ℕ). stack_of ts (set l m c) i q.high) e
      ∙ ap (λ (x : Scope). text_on ts x.block q.high x.text (stack_of ts (set l m c) m (q.high + x.text))) given_front
      ∙ ap (text_on ts k q.high n) (stack_under ts l (set l m c) m (q.high + n) given_under)

  sizes_is : sizes_of (set l m c) w.rc.used ≡ n + sizes_of l m
  sizes_is = ap (sizes_of (set l m c)) e ∙ ap₂ (λ (x : Scope) (y : ℕ). x.text + y) given_front (sizes_under l (set l m c) m given_under)

  pub abs_given : abs s b given ≡ record {
    kept = record { block = (abs s b w).kept.block; blocks_beneath = (abs s b w).kept.blocks_beneath; partial_block_stack = text_on ts k q.high n (stack_of ts l m (q.high + n)); indent_string = indent_of w.indent q; disable_escape = (abs s b w).kept.disable_escape; out = out_of q };
    seen = record { block_partials = (abs s b w).seen.block_partials; current_template = (abs s b w).seen.current_template; marks = marks_of q; room = room_of (outputs q w.page ts) };
  }
  unfolding abs
  abs_given =
      ap₂ (λ (x : Scope) (z : List (Option Bytes)). record {
        kept = record { block = context_of s b w.ent x; blocks_beneath = blocks_of s b w.ent (set l m c) m; partial_block_stack = z; indent_string = indent_of w.indent q; disable_escape = w.rc.disable_escape; out = out_of q };
        seen = record { block_partials = partials_of s b w.ent x.inline x.count; current_template = (abs s b w).seen.current_template; marks = marks_of q; room = room_of (outputs q w.page ts) };
      }) given_front stack_is
      ∙ ap₂ (λ (x : BlockContext) (z : List Block). record {
        kept = record { block = x; blocks_beneath = z; partial_block_stack = text_on ts k q.high n (stack_of ts l m (q.high + n)); indent_string = indent_of w.indent q; disable_escape = w.rc.disable_escape; out = out_of q };
        seen = record { block_partials = (abs s b w).seen.block_partials; current_template = (abs s b w).seen.current_template; marks = marks_of q; room = room_of (outputs q w.page ts) };
      }) (with_block_is s b w.ent (front w) k n) (blocks_alike s b w.ent l (set l m c) m given_under)

  stand : ScopesStand s b w.ent (set l m c) w.rc.used (top given)
  stand =
      let under = pop_stands s b w.ent l m (top w) (subst (λ (i : ℕ). ScopesStand s b w.ent l i (top w)) e r.scopes) in
      subst (λ (x : Scope). ScopesStand s b w.ent (set l m c) w.rc.used (x.inline + x.count)) (sym given_front)
      (subst (λ (i : ℕ). ScopesStand s b w.ent (set l m c) i (top w)) (sym e)
      (push_stands s b w.ent l c m (front w).inline (top w) under lt (with_block_stands s b w.ent (front w) k n (r.scopes.each m (omega (arith, r.one)))) (omega arith) (omega arith) r.scopes.entries))

  at_all : (P : Scope → Type 0) → ((i : ℕ) → i < w.rc.used → P (get_or l i blank)) → P c → (i : ℕ) → i < w.rc.used → P (get_or (set l m c) i blank)
  at_all P f y i h = go (eqb i m) refl
    where
      go : (t : Bool) → eqb i m ≡ t → P (get_or (set l m c) i blank)
      go true z = subst P (sym (ap (λ (j : ℕ). get_or (set l m c) j blank) (eqb-true i m z) ∙ given_front)) y
      go false z = let x = eqb-false i m z in subst P (sym (given_under i (omega arith))) (f i h)

  pub ready_given : q.high ≤ 16384 → Ready s b given
  ready_given bounded = record {
    sized = length-set l m c ∙ r.sized;
    one = r.one;
    most = r.most;
    fine = r.fine;
    nowhere = r.nowhere;
    nameless = r.nameless;
    sound = sound;
    scopes = stand;
    covered = at_all (Covers w.rc.names b w.ent) r.covered (covers_block w.rc.names b w.ent (front w) k n (r.covered m (omega (arith, r.one))));
    total = r.total ∙ ap entries (sym abs_given);
    few = r.few;
    enough = subst (λ (x : Scope). x.inline + x.count ≤ w.rc.total) (sym given_front) r.enough;
    table = r.table;
    texts = rw sizes_is fits;
    high = bounded;
    indent = rw same_indent r.indent;
    absent = λ z. same_indent ∙ r.absent (sym same-has ∙ z);
    buffer = r.buffer;
    template = r.template;
  }
