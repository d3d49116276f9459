-- The newest scope is changed or closed.
use Prim.Native.Nat.{ℕ, zero, suc, ◌+◌, ◌-◌, ◌*◌, ◌≤◌, ◌<◌}
use Rattle.std.specs.Prelude.{Bool, true, false, ◌≡◌, refl, eqb, length, get_or, take, drop, set, None}
use mathlib.Core.List.{List, [], ◌∷◌, ◌++◌, append-nil}
use Rattle.std.proofs.Math.Option.{Option, none, some}
use Rattle.std.proofs.Common.{sym, ◌∙◌, subst, eqb-true, length-set, get_or-set_same, get_or-set_other}
use Rattle.std.proofs.Math.Path.{ap, ap₂}
use native.Mathlib.Omega.{arith}
use Rattle.std.proofs.lemmas.Bool.{eqb-false}
use Rattle.rules.specs.Bytes.{Bytes, pick}
use Rattle.rules.specs.Partials.{Partials, size}
use Rattle.rules.specs.Block.{Block, BlockContext}
use Rattle.rules.specs.State as rules
use Rattle.rules.specs.State.{entries, entries_in, blocks, depth, push_block, pop_block, set_block, first_context, first_partials, rest, Res, ok, err, ◌after◌}
use Rattle.output.specs.Outputs.{Outputs, outputs, Sound}
use Rattle.meaning.specs.Kept.{Agree}
use Rattle.scope.specs.declared.Scope.{Scope}
use Rattle.scope.specs.Scopes.{blank, context_of, partials_of, block_of, blocks_of}
use Rattle.scope.specs.Standing.{ScopeStands, ScopesStand}
use Rattle.scope.specs.Made.{with_count}
use Rattle.scope.specs.NameBits.{Covers, covered_kept}
use Rattle.scope.proofs.StackLaws.{push_stands, pop_stands, blocks_kept, scopes_kept}
use Rattle.state.specs.Context.{RenderContext}
use Rattle.state.specs.Setters.{with_scopes, turned, closed}
use Rattle.state.specs.World.{World, over, outputs_of, front, top, text_on, stack_of, sizes_of, abs, error_of, Ready, Sizes, Grows, Goes, Drawn, Draws}
use Rattle.state.specs.Laws.{grows_none, grows_trans, sizes_trans, goes_self, draws_stop_after}
use Rattle.state.specs.Steps.{Within, within_goes, stack_under, sizes_under, blocks_alike, blocks_abs, text_plain}

-- The scopes that stand, with no entry behind them

pub tight : (s b : Bytes) (ent : List ℕ) (l : List Scope) (n t : ℕ) → 1 ≤ n → ScopesStand s b ent l n t
    → ScopesStand s b ent l n ((get_or l (n - 1) blank).inline + (get_or l (n - 1) blank).count)
tight s b ent l n t le st =
    let e : suc (n - 1) ≡ n = omega arith in
    let under = pop_stands s b ent l (n - 1) t (subst (λ (k : ℕ). ScopesStand s b ent l k t) (sym e) st) in
    record {
      each = st.each;
      within = λ i h. go i h (eqb i (n - 1)) refl (under.within i);
      stacked = st.stacked;
      room = st.room;
      entries = omega (arith, st.within (n - 1) (omega arith), st.entries);
    }
  where
    go : (i : ℕ) → i < n → (y : Bool) → eqb i (n - 1) ≡ y → (i < n - 1 → (get_or l i blank).inline + (get_or l i blank).count ≤ (get_or l (n - 1) blank).inline)
        → (get_or l i blank).inline + (get_or l i blank).count ≤ (get_or l (n - 1) blank).inline + (get_or l (n - 1) blank).count
    go i h true x f = let z : i ≡ n - 1 = eqb-true i (n - 1) x in subst (λ (j : ℕ). (get_or l j blank).inline + (get_or l j blank).count ≤ (get_or l (n - 1) blank).inline + (get_or l (n - 1) blank).count) (sym z) (omega arith)
    go i h false x f = let z : i ≡ n - 1 → ⊥ = eqb-false i (n - 1) x in omega (arith, f (omega arith))

-- Closing: the scopes are those of before, by the array of the one who opened

module _ (s b v : Bytes) (w w' : World) (le : 1 ≤ w.rc.used) (r : Ready s b w) (h : Within s b v w w') (no_block : (front w').block ≡ 0) (no_text : (front w').text ≡ 0) where
  abbrev shut : World
  shut = over (closed w.rc w'.rc) w'

  abbrev l : List Scope
  l = w.rc.scopes

  abbrev l' : List Scope
  l' = w'.rc.scopes

  n_is : w'.rc.used - 1 ≡ w.rc.used
  n_is = omega (arith, h.used)

  beneath_is : blocks_of s b w'.ent l' (w'.rc.used - 1) ≡ blocks_of s b w'.ent l w.rc.used
  beneath_is = ap (blocks_of s b w'.ent l') n_is ∙ blocks_alike s b w'.ent l l' w.rc.used h.beneath

  blocks_shut : blocks (abs s b shut) ≡ blocks (abs s b w)
  blocks_shut = blocks_abs s b shut le ∙ sym (blocks_kept s b w.ent w'.ent l w.rc.used (top w) h.agree r.scopes) ∙ sym (blocks_abs s b w le)

  stack_is : stack_of w'.texts l' w'.rc.used w'.rc.writer.high ≡ stack_of w'.texts l w.rc.used w'.rc.writer.high
  stack_is =
      let e : w'.rc.used ≡ suc (w'.rc.used - 1) = omega (arith, h.used) in
      ap (λ (k : ℕ). stack_of w'.texts l' k w'.rc.writer.high) e
      ∙ text_plain w'.texts l' (w'.rc.used - 1) w'.rc.writer.high (front w').block (front w').text no_block no_text
      ∙ ap (λ (k : ℕ). stack_of w'.texts l' k w'.rc.writer.high) n_is
      ∙ stack_under w'.texts l l' w.rc.used w'.rc.writer.high h.beneath

  pub abs_close : pop_block (abs s b w') ≡ abs s b shut
  unfolding abs
  abs_close =
      let e : w.rc.used ≡ suc (w.rc.used - 1) = omega arith in
      ap₂ (λ (k : List Block) (t : List (Option Bytes)). record {
        kept = record { block = first_context (context_of s b w'.ent (front w')) k; blocks_beneath = rest k; partial_block_stack = t; indent_string = (abs s b w').kept.indent_string; disable_escape = (abs s b w').kept.disable_escape; out = (abs s b w').kept.out };
        seen = record { block_partials = first_partials (abs s b w').seen.block_partials k; current_template = (abs s b w').seen.current_template; marks = (abs s b w').seen.marks; room = (abs s b w').seen.room };
      }) (beneath_is ∙ ap (blocks_of s b w'.ent l) e) stack_is

  sizes_is : sizes_of l' w'.rc.used ≡ sizes_of l w.rc.used
  sizes_is =
      let e : w'.rc.used ≡ suc (w'.rc.used - 1) = omega (arith, h.used) in
      let m : ℕ = sizes_of l' (w'.rc.used - 1) in
      let z : (front w').text + m ≡ m = omega arith in
      ap (sizes_of l') e ∙ z ∙ ap (sizes_of l') n_is ∙ sizes_under l l' w.rc.used h.beneath

  pub goes_close : Goes s b v w shut
  goes_close =
      let q = h.ready in
      record {
        ready = record {
          sized = r.sized;
          one = r.one;
          most = r.most;
          fine = q.fine;
          nowhere = q.nowhere;
          nameless = q.nameless;
          sound = q.sound;
          scopes = scopes_kept s b w.ent w'.ent l w.rc.used (top w) h.agree r.scopes (omega (arith, r.scopes.entries, h.sizes.ent));
          covered = covered_kept s b w.ent w'.ent w.rc.names l w.rc.used (top w) h.agree r.scopes r.covered;
          total = r.total ∙ ap entries_in (sym blocks_shut);
          few = r.few;
          enough = r.enough;
          table = q.table;
          texts = rw sizes_is at q.texts;
          high = q.high;
          indent = q.indent;
          absent = q.absent;
          buffer = q.buffer;
          template = q.template;
        };
        used = refl;
        beneath = λ i lt. refl;
        newest = refl;
        agree = record { same = λ i lt. h.agree.same i (omega arith) };
        grows = h.grows;
        indent = h.indent;
        sizes = record { page = h.sizes.page; texts = h.sizes.texts; indent = h.sizes.indent; ent = h.sizes.ent };
      }

-- x is drawn inside a scope that was opened, and the scope is closed
pub draws_close : (s b : Bytes) (w w₁ w₂ : World) (x : Res) → Ready s b w → Within s b [] w w₁ → (front w₁).block ≡ 0 → (front w₁).text ≡ 0 → Draws s b w₁ w₂ x → w₂.rc.bad ≡ None
    → Draws s b w (over (closed w.rc w₂.rc) w₂) (pop_block after x)
unfolding ◌after◌
draws_close s b w w₁ w₂ x r h nb nt d e =
    let y = d.fine e in
    let i = within_goes s b [] y.text w w₁ w₂ h y.goes in
    let bl : (front w₂).block ≡ 0 = ap (λ (c : Scope). c.block) y.goes.newest ∙ nb in
    let tx : (front w₂).text ≡ 0 = ap (λ (c : Scope). c.text) y.goes.newest ∙ nt in
    record {
      fine = λ z. record {
        text = y.text;
        is = ap (λ (q : Res). pop_block after q) y.is ∙ ap (λ (c : rules.RenderContext). ok c y.text) (abs_close s b y.text w w₂ r.one r i bl tx);
        goes = goes_close s b y.text w w₂ r.one r i bl tx;
      };
      refused = λ z. absurd (z e);
    }

-- Another scope in place of the newest, with the same entries and block text

module _ (s b v : Bytes) (w w' : World) (c : Scope) (h : Within s b v w w') (st : ScopeStands s b w'.ent c)
    (inline : c.inline ≡ (front w').inline) (count : c.count ≡ (front w').count) (block : c.block ≡ (front w').block) (text : c.text ≡ (front w').text)
    (merged : (context_of s b w'.ent c).merged_entries ≡ (context_of s b w'.ent (front w')).merged_entries)
    (covers : Covers w'.rc.names b w'.ent c) where
  abbrev m : ℕ
  m = w'.rc.used - 1

  abbrev k' : List Scope
  k' = set w'.rc.scopes m c

  abbrev changed : World
  changed = over (turned w'.rc c) w'

  under : (i : ℕ) → i < m → get_or k' i blank ≡ get_or w'.rc.scopes i blank
  under i lt = get_or-set_other w'.rc.scopes m i c blank (λ e. omega arith)

  here : get_or k' m blank ≡ c
  here = get_or-set_same w'.rc.scopes m c blank (omega (arith, h.ready.sized, h.ready.most, h.ready.one))

  e : w'.rc.used ≡ suc m
  e = omega (arith, h.used)

  stack_same : stack_of w'.texts k' w'.rc.used w'.rc.writer.high ≡ stack_of w'.texts w'.rc.scopes w'.rc.used w'.rc.writer.high
  stack_same =
      let hi = w'.rc.writer.high in
      ap (λ (k : ℕ). stack_of w'.texts k' k hi) e
      ∙ ap (λ (x : Scope). text_on w'.texts x.block hi x.text (stack_of w'.texts k' m (hi + x.text))) here
      ∙ ap₂ (λ (x y : ℕ). text_on w'.texts x hi y (stack_of w'.texts k' m (hi + y))) block text
      ∙ ap (text_on w'.texts (front w').block hi (front w').text) (stack_under w'.texts w'.rc.scopes k' m (hi + (front w').text) under)
      ∙ ap (λ (k : ℕ). stack_of w'.texts w'.rc.scopes k hi) (sym e)

  sizes_same : sizes_of k' w'.rc.used ≡ sizes_of w'.rc.scopes w'.rc.used
  sizes_same =
      ap (sizes_of k') e
      ∙ ap₂ (λ (x : Scope) (y : ℕ). x.text + y) here (sizes_under w'.rc.scopes k' m under)
      ∙ ap (λ (y : ℕ). y + sizes_of w'.rc.scopes m) text
      ∙ ap (sizes_of w'.rc.scopes) (sym e)

  partials_same : partials_of s b w'.ent c.inline c.count ≡ partials_of s b w'.ent (front w').inline (front w').count
  partials_same = ap₂ (partials_of s b w'.ent) inline count

  pub abs_change : abs s b changed ≡ set_block (context_of s b w'.ent c) (abs s b w')
  unfolding abs
  abs_change =
      ap₂ (λ (x : Scope) (k : List (Option Bytes)). record {
        kept = record { block = context_of s b w'.ent x; blocks_beneath = blocks_of s b w'.ent k' m; partial_block_stack = k; indent_string = (abs s b w').kept.indent_string; disable_escape = (abs s b w').kept.disable_escape; out = (abs s b w').kept.out };
        seen = record { block_partials = partials_of s b w'.ent x.inline x.count; current_template = (abs s b w').seen.current_template; marks = (abs s b w').seen.marks; room = (abs s b w').seen.room };
      }) here stack_same
      ∙ ap₂ (λ (l : List Block) (q : Partials). record {
        kept = record { block = context_of s b w'.ent c; blocks_beneath = l; partial_block_stack = (abs s b w').kept.partial_block_stack; indent_string = (abs s b w').kept.indent_string; disable_escape = (abs s b w').kept.disable_escape; out = (abs s b w').kept.out };
        seen = record { block_partials = q; current_template = (abs s b w').seen.current_template; marks = (abs s b w').seen.marks; room = (abs s b w').seen.room };
      }) (blocks_alike s b w'.ent w'.rc.scopes k' m under) partials_same

  entries_same : entries (abs s b w') ≡ entries (abs s b changed)
  unfolding abs
  entries_same =
      ap (λ (k : ℕ). k + size (partials_of s b w'.ent (front w').inline (front w').count) + entries_in (blocks_of s b w'.ent w'.rc.scopes m)) (sym merged)
      ∙ ap entries (sym abs_change)

  changed_stand : ScopesStand s b w'.ent k' w'.rc.used (top changed)
  changed_stand =
      let q = h.ready in
      let under-it = pop_stands s b w'.ent w'.rc.scopes m (top w') (subst (λ (k : ℕ). ScopesStand s b w'.ent w'.rc.scopes k (top w')) e q.scopes) in
      subst (λ (x : Scope). ScopesStand s b w'.ent k' w'.rc.used (x.inline + x.count)) (sym here)
      (subst (λ (k : ℕ). ScopesStand s b w'.ent k' k (c.inline + c.count)) (sym e)
      (push_stands s b w'.ent w'.rc.scopes c m (front w').inline (c.inline + c.count) under-it (omega (arith, q.sized, q.most, q.one)) st (omega arith) (omega arith) (omega (arith, q.scopes.entries))))

  -- what holds of a scope that stays, and of the new one
  at_all : (P : Scope → Type 0) (i : ℕ) → i < w'.rc.used → P (get_or w'.rc.scopes i blank) → P c → P (get_or k' i blank)
  at_all P i lt x y = go (eqb i m) refl
    where
      go : (t : Bool) → eqb i m ≡ t → P (get_or k' i blank)
      go true z = subst P (sym (ap (λ (j : ℕ). get_or k' j blank) (eqb-true i m z) ∙ here)) y
      go false z = let f = eqb-false i m z in subst P (sym (under i (omega arith))) x

  pub within_change : Within s b v w changed
  within_change =
      let q = h.ready in
      record {
        ready = record {
          sized = length-set w'.rc.scopes m c ∙ q.sized;
          one = q.one;
          most = q.most;
          fine = q.fine;
          nowhere = q.nowhere;
          nameless = q.nameless;
          sound = q.sound;
          scopes = changed_stand;
          covered = λ i lt. at_all (Covers w'.rc.names b w'.ent) i lt (q.covered i lt) covers;
          total = q.total ∙ entries_same;
          few = q.few;
          enough = subst (λ (x : Scope). x.inline + x.count ≤ w'.rc.total) (sym here) (omega (arith, q.enough));
          table = q.table;
          texts = rw sizes_same q.texts;
          high = q.high;
          indent = q.indent;
          absent = q.absent;
          buffer = q.buffer;
          template = q.template;
        };
        used = h.used;
        beneath = λ i lt. under i (omega (arith, h.used)) ∙ h.beneath i lt;
        above = subst (λ (x : Scope). top w ≤ x.inline) (sym here) (omega (arith, h.above));
        agree = h.agree;
        grows = h.grows;
        indent = h.indent;
        sizes = record { page = h.sizes.page; texts = h.sizes.texts; indent = h.sizes.indent; ent = h.sizes.ent };
      }
