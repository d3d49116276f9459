-- The world whose newest scope has an inline partial more, or another body under a name that it has: it stands for what `define` makes.
use Rattle.std.specs.Prelude.{ℕ, suc, ◌+◌, ◌-◌, ◌≤◌, ◌<◌, Bool, true, false, List, [], ◌≡◌, eqb, length, get_or, set}
use Rattle.std.proofs.Math.Option.{Option}
use Rattle.std.proofs.Math.Path.{refl, ap, ap₂}
use Rattle.std.proofs.Common.{sym, ◌∙◌, subst, arith, length-set, eqb-true}
use Rattle.std.proofs.lemmas.List.{set-get_or}
use Rattle.std.proofs.Math.Seq.{get_or-set_same, get_or-set_other}
use Rattle.std.proofs.lemmas.Bool.{eqb-false}
use Rattle.rules.specs.Bytes.{Bytes}
use Rattle.rules.specs.Template.{Template}
use Rattle.rules.specs.Block.{Block}
use Rattle.rules.specs.Partials.{define, size}
use Rattle.rules.specs.State as rules
use Rattle.rules.specs.State.{blocks, entries, entries_in, set_block_partials, first_context, first_partials, rest}
use Rattle.scope.specs.declared.Scope.{Scope}
use Rattle.scope.specs.Scopes.{blank, blocks_of}
use Rattle.scope.specs.Standing.{ScopesStand}
use Rattle.scope.specs.NameBits.{Covers, AllCovered, covers_counted, covered_kept}
use Rattle.scope.proofs.StackLaws.{push_stands, pop_stands, scope_again}
use Rattle.scope.specs.Made.{with_count}
use Rattle.scope.proofs.InlineLaws.{size_is}
use Rattle.decorators.specs.Defined.{Holding, scopes_defined, blocks_defined}
use Rattle.state.specs.Context.{RenderContext}
use Rattle.state.specs.Setters.{with_scopes}
use Rattle.state.specs.World.{World, world, outputs_of, front, top, text_on, stack_of, sizes_of, abs, Ready, Goes}
use Rattle.state.specs.Laws.{grows_none}
use Rattle.state.specs.Steps.{stack_under, sizes_under}

-- more or fewer inline partials of the newest of m + 1 scopes leave its block names
covered_counted : (M : ℕ) (b : Bytes) (ent : List ℕ) (x y : List Scope) (m k : ℕ) → ((i : ℕ) → i < m → get_or y i blank ≡ get_or x i blank)
    → get_or y m blank ≡ with_count (get_or x m blank) k → AllCovered M b ent x (suc m) → AllCovered M b ent y (suc m)
covered_counted M b ent x y m k under here h i lt = go (eqb i m) refl
  where
    go : (t : Bool) → eqb i m ≡ t → Covers M b ent (get_or y i blank)
    go true q =
        subst (Covers M b ent) (sym (ap (λ (j : ℕ). get_or y j blank) (eqb-true i m q) ∙ here)) (covers_counted M b ent (get_or x m blank) k (h m (omega arith)))
    go false q = let ne = eqb-false i m q in subst (Covers M b ent) (sym (under i (omega arith))) (h i lt)

-- n is the number of inline partials then, T the number of entries
module _ (s b : Bytes) (w : World) (r : Ready s b w) (n T : ℕ) (ent' : List ℕ) (x : Bytes) (B : Template) (h : Holding s b w.ent ent' (front w) n x B)
    (same_length : length ent' ≡ length w.ent) (sum : T + (front w).count ≡ w.rc.total + n) (few : T ≤ 4096) where
  abbrev m : ℕ
  m = w.rc.used - 1

  abbrev l : List Scope
  l = w.rc.scopes

  abbrev l' : List Scope
  l' = set l m (with_count (front w) n)

  abbrev pub defining : World
  defining = world (with_scopes w.rc l' w.rc.used T) w.page w.texts w.indent ent'

  e : w.rc.used ≡ suc m
  e = omega (arith, r.one)

  under : (i : ℕ) → i < m → get_or l' i blank ≡ get_or l i blank
  under i lt = get_or-set_other l m i (with_count (front w) n) blank (λ q. omega arith)

  here : get_or l' m blank ≡ with_count (front w) n
  here = get_or-set_same l m (with_count (front w) n) blank (omega (arith, r.sized, r.most, r.one))

  st : ScopesStand s b w.ent l (suc m) (top w)
  st = subst (λ (k : ℕ). ScopesStand s b w.ent l k (top w)) e r.scopes

  stack_same : stack_of w.texts l' w.rc.used w.rc.writer.high ≡ stack_of w.texts l w.rc.used w.rc.writer.high
  stack_same =
      let hi = w.rc.writer.high in
      ap (λ (k : ℕ). stack_of w.texts l' k hi) e
      ∙ ap (λ (c : Scope). text_on w.texts c.block hi c.text (stack_of w.texts l' m (hi + c.text))) here
      ∙ ap (text_on w.texts (front w).block hi (front w).text) (stack_under w.texts l l' m (hi + (front w).text) under)
      ∙ ap (λ (k : ℕ). stack_of w.texts l k hi) (sym e)

  sizes_same : sizes_of l' w.rc.used ≡ sizes_of l w.rc.used
  sizes_same = ap (sizes_of l') e ∙ ap₂ (λ (c : Scope) (k : ℕ). c.text + k) here (sizes_under l l' m under) ∙ ap (sizes_of l) (sym e)

  blocks_now : blocks (abs s b w) ≡ blocks_of s b w.ent l (suc m)
  unfolding abs
  blocks_now = refl

  -- a state by its scopes and its stack
  abbrev built : List Block → List (Option Bytes) → rules.RenderContext
  built k t = record {
    kept = record { block = first_context (abs s b w).kept.block k; blocks_beneath = rest k; partial_block_stack = t; indent_string = (abs s b w).kept.indent_string; disable_escape = (abs s b w).kept.disable_escape; out = (abs s b w).kept.out };
    seen = record { block_partials = first_partials (abs s b w).seen.block_partials k; current_template = (abs s b w).seen.current_template; marks = (abs s b w).seen.marks; room = (abs s b w).seen.room };
  }

  pub abs_defining : set_block_partials (define x B (abs s b w).seen.block_partials) (abs s b w) ≡ abs s b defining
  unfolding abs
  abs_defining = ap₂ built (blocks_defined s b w.ent ent' l m n (top w) x B st h same_length (abs s b w) blocks_now) (sym stack_same)

  entries_now : (k j : ℕ) → k ≡ (abs s b w).kept.block.merged_entries → j ≡ entries_in (abs s b w).kept.blocks_beneath → w.rc.total ≡ k + (front w).count + j → T ≡ k + n + j
  entries_now k j p q z = omega arith

  old_size : size (abs s b w).seen.block_partials ≡ (front w).count
  unfolding abs
  old_size = size_is s b w.ent (front w).inline (front w).count (st.each m (omega arith)).distinct

  new_size : size (define x B (abs s b w).seen.block_partials) ≡ n
  unfolding abs
  new_size = ap size (sym h.defines) ∙ size_is s b ent' (front w).inline n h.stands.distinct

  total_is : T ≡ entries (abs s b defining)
  total_is =
      entries_now (abs s b w).kept.block.merged_entries (entries_in (abs s b w).kept.blocks_beneath) refl refl
      (r.total ∙ ap (λ (k : ℕ). (abs s b w).kept.block.merged_entries + k + entries_in (abs s b w).kept.blocks_beneath) old_size)
      ∙ ap (λ (k : ℕ). (abs s b w).kept.block.merged_entries + k + entries_in (abs s b w).kept.blocks_beneath) (sym new_size)
      ∙ ap entries abs_defining

  stand : ScopesStand s b ent' l' w.rc.used (top defining)
  stand =
      subst (λ (c : Scope). ScopesStand s b ent' l' w.rc.used (c.inline + c.count)) (sym here)
      (subst (λ (k : ℕ). ScopesStand s b ent' l' k ((front w).inline + n)) (sym e)
      (scopes_defined s b w.ent ent' l m n (top w) x B st h same_length ((front w).inline + n) (omega arith) (omega (arith, r.enough, r.table))))

  -- the block names stay in their set: without its inline partials the newest scope is before all that changes
  bare : List Scope
  bare = set l m (with_count (front w) 0)

  bare_here : get_or bare m blank ≡ with_count (front w) 0
  unfolding bare
  bare_here = get_or-set_same l m (with_count (front w) 0) blank (omega (arith, r.sized, r.most, r.one))

  bare_under : (i : ℕ) → i < m → get_or bare i blank ≡ get_or l i blank
  unfolding bare
  bare_under i lt = get_or-set_other l m i (with_count (front w) 0) blank (λ q. omega arith)

  bare_stands : ScopesStand s b w.ent bare (suc m) (front w).inline
  unfolding bare
  bare_stands =
      push_stands s b w.ent l (with_count (front w) 0) m (front w).inline (front w).inline (pop_stands s b w.ent l m (top w) st) (omega (arith, r.sized, r.most, r.one))
      (scope_again s b w.ent w.ent (front w) (front w).inline (record { same = λ i lt. refl }) (st.each m (omega arith)) (omega arith) 0
      (λ i lt. absurd (omega arith)) (λ i j lt q. absurd (omega arith)))
      (omega arith) (omega arith) (omega (arith, r.enough, r.few, r.table))

  covered : AllCovered w.rc.names b ent' l' w.rc.used
  covered =
      let M : ℕ = w.rc.names in
      let old : AllCovered M b w.ent l (suc m) = subst (AllCovered M b w.ent l) e r.covered in
      let less : AllCovered M b w.ent bare (suc m) = covered_counted M b w.ent l bare m 0 bare_under bare_here old in
      let kept : AllCovered M b ent' bare (suc m) = covered_kept s b w.ent ent' M bare (suc m) (front w).inline h.beneath bare_stands less in
      subst (AllCovered M b ent' l') (sym e)
      (covered_counted M b ent' bare l' m n (λ i lt. under i lt ∙ sym (bare_under i lt)) (here ∙ ap (λ (c : Scope). with_count c n) (sym bare_here)) kept)

  pub goes_defining : Goes s b [] w defining
  goes_defining = record {
    ready = record {
      sized = length-set l m (with_count (front w) n) ∙ r.sized;
      one = r.one;
      most = r.most;
      fine = r.fine;
      nowhere = r.nowhere;
      nameless = r.nameless;
      sound = r.sound;
      scopes = stand;
      covered = covered;
      total = total_is;
      few = few;
      enough = subst (λ (c : Scope). c.inline + c.count ≤ T) (sym here) (omega (arith, r.enough));
      table = omega (arith, r.table);
      texts = rw sizes_same r.texts;
      high = r.high;
      indent = r.indent;
      absent = r.absent;
      buffer = r.buffer;
      template = r.template;
    };
    used = refl;
    beneath = λ i lt. under i (omega arith);
    newest = here ∙ ap (λ (c : Scope). with_count (front w) c.count) (sym here);
    agree = h.beneath;
    grows = grows_none (outputs_of w) r.sound;
    indent = refl;
    sizes = record { page = refl; texts = refl; indent = refl; ent = same_length };
  }

-- where it is another body, the context stays as it is
module _ (s b : Bytes) (w : World) (r : Ready s b w) (ent' : List ℕ) (x : Bytes) (B : Template) (h : Holding s b w.ent ent' (front w) (front w).count x B)
    (same_length : length ent' ≡ length w.ent) where
  abbrev pub changing : World
  changing = world w.rc w.page w.texts w.indent ent'

  stays : defining s b w r (front w).count w.rc.total ent' x B h same_length refl r.few ≡ changing
  stays = ap (λ (l : List Scope). world (with_scopes w.rc l w.rc.used w.rc.total) w.page w.texts w.indent ent') (set-get_or w.rc.scopes (w.rc.used - 1) blank)

  pub abs_changing : set_block_partials (define x B (abs s b w).seen.block_partials) (abs s b w) ≡ abs s b changing
  abs_changing = abs_defining s b w r (front w).count w.rc.total ent' x B h same_length refl r.few ∙ ap (abs s b) stays

  pub goes_changing : Goes s b [] w changing
  goes_changing = subst (Goes s b [] w) stays (goes_defining s b w r (front w).count w.rc.total ent' x B h same_length refl r.few)
