-- A partial that was found: what it works out, and its scope.
use Rattle.std.specs.Prelude.{ℕ, suc, ◌+◌, ◌-◌, ◌*◌, ◌≤◌, ◌<◌, Bool, List, [], ◌∷◌, ◌≡◌, eqb, length, get_or, Some}
use Rattle.std.proofs.Math.Bool.{true, false}
use Rattle.std.proofs.Math.Option.{Option, none, some}
use Rattle.std.proofs.Math.Path.{refl, ap, subst}
use Rattle.std.proofs.Common.{sym, ap₂, ◌∙◌, arith, get_or-set_same}
use borrow.Author.Tests.{le-leb, lt-leb, lt-ltb, le-ltb, eqb-true, eqb-false}
use Rattle.std.proofs.Math.Dec.{leb, ltb}
use Rattle.rules.specs.Bytes.{Bytes, pick}
use Rattle.rules.specs.Bits.{bits}
use Rattle.rules.specs.Json.{Json}
use Rattle.rules.specs.Error.{Got, got, entries-limit, scopes-limit}
use Rattle.rules.specs.LocalVars.{LocalVars, default}
use Rattle.rules.specs.Block.{Block, BlockContext, new, set_merged_entries, set_base_value, set_local_variables, set_block_params}
use Rattle.rules.specs.State as rules
use Rattle.rules.specs.State.{Res, Draw, fail, choose, or_fail, entries, depth, blocks, push_block}
use Rattle.rules.specs.Context.{merge_json}
use Rattle.rules.specs.Registry.{Registry}
use Rattle.rules.specs.BlockUtil as block-util
use Rattle.rules.specs.BlockUtil.{Drawable}
use Rattle.rules.specs.Partial.{hash_ctx, hash_params, merged_entries, include_block, block_text_of, render_partial, include}
use Rattle.value.specs.declared.Value.{Value}
use Rattle.value.specs.declared.Value.TheVariants.{Merged}
use Rattle.value.specs.Numbers.{encoded}
use Rattle.meaning.specs.Meaning.{json_of}
use Rattle.meaning.specs.Kept.{Agree}
use Rattle.scope.specs.declared.Scope.{Scope}
use Rattle.scope.specs.Scopes.{blank, context_of}
use Rattle.scope.specs.Standing.{ScopeStands}
use Rattle.scope.specs.Made.{child, with_names, with_locals}
use Rattle.scope.specs.NameBits.{Covers}
use Rattle.scope.specs.Names.{Readable}
use Rattle.scope.proofs.NamesLaws.{readable}
use Rattle.expand.specs.declared.Options.{Options}
use Rattle.including.specs.Included.{included}
use Rattle.including.specs.Pairs.{with_pairs}
use Rattle.including.specs.Including.{Includes}
use Rattle.state.specs.Setters.{failed, pushed, counted, with_scopes}
use Rattle.state.specs.World.{World, world, over, front, top, abs, Ready, Draws}
use Rattle.state.specs.Laws.{draws_fail}
use Rattle.state.specs.Steps.{Within, abs_open, within_open, depth_abs}
use Rattle.state.specs.Entries.{abs_entries, ready_entries, within_entries}
use Rattle.drawing.specs.Renders.{registry_of}
use Rattle.error.specs.declared.RenderErrorReason.TheVariants.{EntriesLimit, ScopesLimit}

-- h is the hash and j the base by the rules; l has the numbers of the hash values; st has the scopes of w
module _ (s b : Bytes) (o : Options) (w : World) (r : Ready s b w) (base : Value) (l : List ℕ) (d p n : ℕ) (st : rules.RenderContext) (same : blocks st ≡ blocks (abs s b w)) (j : Json) (h : List (Bytes × Json))
    (taken : n ≤ merged_entries h (merge_json j h)) (F O : Drawable) (D : Draw) (ind : Option Bytes) where
  abbrev g : Registry
  g = registry_of s b o (length w.page)

  abbrev m : ℕ
  m = merged_entries h (merge_json j h)

  abbrev drawn : Res
  drawn = include g F O D h ind (merge_json j h) (abs s b w)

  abbrev inside : Res
  inside = block_text_of F O (render_partial (abs s b w).seen.current_template (abs s b w).kept.indent_string ind D) (push_block (include_block (abs s b w) h (merge_json j h)) (abs s b w))

  over_entries : 4096 < w.rc.total + m → drawn ≡ fail entries-limit
  unfolding include choose
  over_entries lt =
      let e : leb (entries (abs s b w) + m) 4096 ≡ false = lt-leb (entries (abs s b w) + m) 4096 (omega (arith, r.total)) in
      ap (λ (y : Bool). choose y (λ _. choose (ltb (depth (abs s b w)) 32) (λ _. inside) (λ _. fail scopes-limit)) (λ _. fail entries-limit)) e

  within_entries_limit : w.rc.total + m ≤ 4096 → drawn ≡ choose (ltb (depth (abs s b w)) 32) (λ _. inside) (λ _. fail scopes-limit)
  unfolding include choose
  within_entries_limit le =
      let e : leb (entries (abs s b w) + m) 4096 ≡ true = le-leb (entries (abs s b w) + m) 4096 (omega (arith, r.total)) in
      ap (λ (y : Bool). choose y (λ _. choose (ltb (depth (abs s b w)) 32) (λ _. inside) (λ _. fail scopes-limit)) (λ _. fail entries-limit)) e

  -- the pairs alone are too many
  pub too_many_pairs : 4096 < top w + n → Draws s b w (over (failed w.rc (Some EntriesLimit)) w) drawn
  too_many_pairs lt = subst (Draws s b w (over (failed w.rc (Some EntriesLimit)) w)) (sym (over_entries (omega (arith, taken, r.enough)))) (draws_fail s b w (over (failed w.rc (Some EntriesLimit)) w) entries-limit refl r.nowhere r.nameless)

  module _ (I : Includes s b w.ent (top w) base l d p n (front w) st j h) where
    abbrev ent : List ℕ
    ent = with_pairs w.ent (bits b) (top w) (encoded base) l d p n

    abbrev w₀ : World
    w₀ = world w.rc w.page w.texts w.indent ent

    abbrev c : Scope
    c = included base (top w) n (front w)

    pub too_many_entries : 4096 < w.rc.total + m → Draws s b w (over (failed w.rc (Some EntriesLimit)) w₀) drawn
    too_many_entries lt = subst (Draws s b w (over (failed w.rc (Some EntriesLimit)) w₀)) (sym (over_entries lt)) (draws_fail s b w (over (failed w.rc (Some EntriesLimit)) w₀) entries-limit refl r.nowhere r.nameless)

    pub too_many_scopes : w.rc.total + m ≤ 4096 → 32 ≤ w.rc.used → Draws s b w (over (failed w.rc (Some ScopesLimit)) w₀) drawn
    unfolding choose
    too_many_scopes le ge =
        let e : ltb (depth (abs s b w)) 32 ≡ false = le-ltb (depth (abs s b w)) 32 (omega (arith, depth_abs s b w r.one)) in
        subst (Draws s b w (over (failed w.rc (Some ScopesLimit)) w₀)) (sym (within_entries_limit le ∙ ap (λ (y : Bool). choose y (λ _. inside) (λ _. fail scopes-limit)) e))
        (draws_fail s b w (over (failed w.rc (Some ScopesLimit)) w₀) scopes-limit refl r.nowhere r.nameless)

    -- the names of its scope can be read
    pub include_readable : w.rc.total + m ≤ 4096 → Readable b ent c
    include_readable le = readable s b ent c (I.stands (omega (arith, le))) (omega (arith, I.behind, I.long, taken, r.enough, r.table))

    -- its names are in the set k
    module _ (le : w.rc.total + m ≤ 4096) (lt : w.rc.used < 32) (k : ℕ) (covers : Covers k b ent c) where
      abbrev w₁ : World
      w₁ = over (pushed (counted w.rc (w.rc.total + m)) c k) w₀

      ready₀ : Ready s b w₀
      ready₀ = ready_entries s b w ent r I.agree I.long

      sum : w.rc.total + m ≡ (context_of s b ent c).merged_entries + w.rc.total
      sum = let e : (context_of s b ent c).merged_entries ≡ m = ap (λ (x : BlockContext). x.merged_entries) I.scope in omega (arith, e)

      no_block : (c.block ≡ 0) × (c.text ≡ 0)
      no_block = go (eqb n 0)
        where
          go : (y : Bool) → ((pick y (with_locals (child (encoded base) (top w)) (front w)) (with_names (with_locals (child (encoded (Merged (top w) n)) (top w + n)) (front w)) 3 0)).block ≡ 0)
              × ((pick y (with_locals (child (encoded base) (top w)) (front w)) (with_names (with_locals (child (encoded (Merged (top w) n)) (top w + n)) (front w)) 3 0)).text ≡ 0)
          go true = (refl, refl)
          go false = (refl, refl)

      starts : top w ≤ c.inline
      starts = omega (arith, I.behind)

      enough : c.inline ≤ w.rc.total + m
      enough = omega (arith, I.behind, taken, r.enough)

      pub include_within : Within s b [] w w₁
      include_within = within_entries s b w ent r I.agree I.long [] w₁ (within_open s b w₀ c (w.rc.total + m) ready₀ lt (I.stands (omega (arith, le))) starts I.empty no_block.0 no_block.1 sum le enough k covers)

      newest : front w₁ ≡ c
      newest = let e : w.rc.used + 1 - 1 ≡ w.rc.used = omega arith in ap (λ (i : ℕ). get_or w₁.rc.scopes i blank) e ∙ get_or-set_same w.rc.scopes w.rc.used c blank (omega (arith, r.sized))

      pub include_no_block : (front w₁).block ≡ 0
      include_no_block = ap (λ (x : Scope). x.block) newest ∙ no_block.0

      pub include_no_text : (front w₁).text ≡ 0
      include_no_text = ap (λ (x : Scope). x.text) newest ∙ no_block.1

      -- the local variables are those of the scopes that are open
      locals_same : include_block st h (merge_json j h) ≡ include_block (abs s b w) h (merge_json j h)
      locals_same = ap (λ (x : List Block). include_by (first_locals x)) same
        where
          first_locals : List Block → LocalVars
          first_locals [] = default
          first_locals (x ∷ y) = x.context.local_variables

          include_by : LocalVars → BlockContext
          include_by x = set_merged_entries m (set_base_value (merge_json j h) (set_local_variables x (set_block_params (hash_params h) new)))

      pub include_abs : abs s b w₁ ≡ push_block (include_block (abs s b w) h (merge_json j h)) (abs s b w)
      include_abs =
          abs_open s b w₀ c (w.rc.total + m) ready₀ lt (I.stands (omega (arith, le))) starts I.empty no_block.0 no_block.1 sum le enough k covers
          ∙ ap₂ push_block (I.scope ∙ locals_same) (sym (abs_entries s b w ent r I.agree I.long))

      pub include_drawn : drawn ≡ block_text_of F O (render_partial (abs s b w).seen.current_template (abs s b w).kept.indent_string ind D) (abs s b w₁)
      unfolding choose
      include_drawn =
          let e : ltb (depth (abs s b w)) 32 ≡ true = lt-ltb (depth (abs s b w)) 32 (omega (arith, depth_abs s b w r.one)) in
          within_entries_limit le ∙ ap (λ (y : Bool). choose y (λ _. inside) (λ _. fail scopes-limit)) e
          ∙ ap (block_text_of F O (render_partial (abs s b w).seen.current_template (abs s b w).kept.indent_string ind D)) (sym include_abs)
