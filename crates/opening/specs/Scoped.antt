-- The scope of a partial: s is the plan, b the bundle.
use Rattle.std.specs.Prelude.{ℕ, suc, ◌+◌, ◌-◌, ◌≤◌, ◌<◌, List, [], ◌≡◌, refl, length, get_or, Option as RustOption, Some, None}
use Rattle.std.proofs.Math.Option.{Option, some}
use Rattle.std.proofs.lemmas.Option.{none-some}
use Rattle.std.proofs.Common.{sym, ◌∙◌, subst, arith}
use Rattle.std.proofs.Math.Path.{ap}
use Rattle.rules.specs.Bytes.{Bytes}
use Rattle.rules.specs.Bits.{bits}
use Rattle.rules.specs.Bundle.{param, call_of}
use Rattle.rules.specs.Json.{Json}
use Rattle.rules.specs.Plan.{answer}
use Rattle.rules.specs.State as rules
use Rattle.rules.specs.State.{Res, Draw, blocks, or_fail}
use Rattle.rules.specs.Registry.{Registry}
use Rattle.rules.specs.BlockUtil as block-util
use Rattle.rules.specs.BlockUtil.{Drawable}
use Rattle.rules.specs.Context.{merge_json}
use Rattle.rules.specs.Partial.{hash_ctx, merged_entries, partial_context, include, block_text_of, render_partial}
use Rattle.rules.specs.Render.{render_body, render_template}
use Rattle.parts.specs.Holds.{Holds}
use Rattle.calls.specs.declared.Call.{Call}
use Rattle.calls.specs.Calls.{call_view}
use Rattle.template.specs.Views.{body_says}
use Rattle.value.specs.declared.Value.{Value}
use Rattle.value.specs.declared.Value.TheVariants.{Merged}
use Rattle.value.specs.Numbers.{Fits, encoded}
use Rattle.meaning.specs.Meaning.{json_of}
use Rattle.members.specs.Parts.{Parts}
use Rattle.scope.specs.Scopes.{blank}
use Rattle.scope.specs.Names.{Readable}
use Rattle.scope.specs.NameBits.{Covers}
use Rattle.expand.specs.declared.Options.{Options}
use Rattle.expand.specs.declared.Expanded.{Expanded}
use Rattle.expand.specs.Answers.{Setting, IsExpanded}
use Rattle.including.specs.Values.{HashValues}
use Rattle.including.specs.ValuesLaws.{stands_fits}
use Rattle.rules.specs.BundleLaws.{bits_binary}
use Rattle.including.specs.Pairs.{PairsStand, with_pairs}
use Rattle.including.specs.PairsLaws.{call_pairs_stand}
use Rattle.including.specs.Starting.{GivesContext}
use Rattle.including.specs.Included.{included, entries_of}
use Rattle.including.specs.Including.{pairs_fit, Includes, includes}
use Rattle.state.specs.Context.{RenderContext}
use Rattle.state.specs.Setters.{failed, counted, pushed, unless_bad}
use Rattle.state.specs.World.{World, world, over, front, top, abs, Ready, Draws}
use Rattle.state.specs.Steps.{Within, blocks_abs}
use Rattle.texts.specs.Setters.{cleaned}
use Rattle.drawing.specs.Renders.{registry_of, Worked, joined, target, IncludeDrawn, TextDrawn}
use Rattle.drawing.specs.Members.{setting}
use Rattle.drawing.specs.Continues.{unless_refused}
use Rattle.drawing.specs.Including.{too_many_pairs, too_many_entries, too_many_scopes, include_readable, include_within, include_no_block, include_no_text, include_drawn}
use Rattle.error.specs.declared.RenderErrorReason.TheVariants.{EntriesLimit, ScopesLimit}
use Rattle.error.specs.declared.RenderErrorReason.{RenderErrorReason as Reason}
use Rattle.error.specs.Reasons.{refusal}

-- where the entries in use end
abbrev pub end_of : RenderContext → ℕ
end_of c = (get_or c.scopes (c.used - 1) blank).inline + (get_or c.scopes (c.used - 1) blank).count

-- v is the context of the partial whose call x is, for the rules as for the code
abbrev pub Starts : Bytes → Bytes → List ℕ → Options → RenderContext → Expanded → Value → Type 0
Starts s b ent o c x v =
    (g : Registry) (st : rules.RenderContext) (t : ℕ) (e : block-util.Expanded)
    → Setting s b ent c.scopes c.used o g st t → IsExpanded s b ent t x e → GivesContext s b ent t (partial_context g st e.params) v

-- the call at p is what x says, whatever page, texts and indent there are
pub record SomeWorked (s b : Bytes) (ent : List ℕ) (o : Options) (c : RenderContext) (d p : ℕ) (x : Expanded) : Type 0 where
  pub page : Bytes
  pub texts : Bytes
  pub indent : Bytes
  pub expanded : block-util.Expanded
  pub ready : Ready s b (world c page texts indent ent)
  pub worked : Worked s b o (world c page texts indent ent) d p x expanded

-- the scope is open in w₁, or it was refused: what is drawn in it draws the partial, whose body is that of e depths at q under the name at n
pub record Entered (s b : Bytes) (o : Options) (w w₁ : World) (d p : ℕ) (x : Expanded) (q e n : ℕ) (own at : RustOption ℕ) : Type 0 where
  pub refused : (w₁.rc.bad ≡ None → ⊥) → IncludeDrawn s b o w w₁ d p x q e n own at
  pub within : w₁.rc.bad ≡ None → Within s b [] w w₁
  pub no_block : w₁.rc.bad ≡ None → (front w₁).block ≡ 0
  pub no_text : w₁.rc.bad ≡ None → (front w₁).text ≡ 0
  pub same_writer : w₁.rc.writer ≡ w.rc.writer
  pub done : w₁.rc.bad ≡ None → (w₂ : World) → TextDrawn s b o w₁ w₂ d q e n own at → IncludeDrawn s b o w (over (unless_bad (λ c. cleaned c w.rc) w₂.rc) w₂) d p x q e n own at

pub record ScopeOpened (s b : Bytes) (ent ent' : List ℕ) (o : Options) (c r : RenderContext) (d p : ℕ) (x : Expanded) : Type 0 where
  pub at : (page texts indent : Bytes) → Ready s b (world c page texts indent ent) → (y : block-util.Expanded) → Worked s b o (world c page texts indent ent) d p x y → (q e n : ℕ) (own ind : RustOption ℕ) → Entered s b o (world c page texts indent ent) (world r page texts indent ent') d p x q e n own ind

-- Laws

-- w is in front; the call's hash pairs are v, their numbers l, and the context is base
module _ (s b : Bytes) (ent : List ℕ) (o : Options) (c : RenderContext) (d p : ℕ) (x : Expanded) (ok : answer s ≡ 0) (small : length b ≤ 65536) (H : Holds (call_of (param d)) (bits b) p)
    (v : Call) (view : v ≡ call_view d (bits b) p) (base : Value) (starts : Starts s b ent o c x base) (l : List ℕ)
    (L : (g : Registry) (st : rules.RenderContext) (t : ℕ) → Setting s b ent c.scopes c.used o g st t → HashValues s b ent t d v.pair v.pairs g st l) where
  module _ (page texts indent : Bytes) (r : Ready s b (world c page texts indent ent)) where
    abbrev w : World
    w = world c page texts indent ent

    abbrev g : Registry
    g = registry_of s b o (length page)

    module _ (y : block-util.Expanded) (W : Worked s b o w d p x y) where
      -- the context by the rules
      given : GivesContext s b ent (top w) (partial_context g (abs s b w) y.params) base
      given = starts g (abs s b w) (top w) y (setting s b o w r (length page)) W.expanded

      abbrev j : Json
      j = given.json

      abbrev h : List (Bytes × Json)
      h = hash_ctx y.hash

      abbrev m : ℕ
      m = merged_entries h (merge_json j h)

      pairs : v.pairs ≤ m
      pairs = pairs_fit s b ent c.scopes c.used o g W.st (top w) W.setting (omega (arith, r.one)) ok small d p H v view y W.is l (L g W.st (top w) W.setting) j

      I : top w + v.pairs ≤ 4096 → Includes s b ent (top w) base l d v.pair v.pairs (front w) W.st j h
      I few = includes s b ent c.scopes c.used o g W.st (top w) W.setting (omega (arith, r.one)) ok small d p H v view y W.is l (L g W.st (top w) W.setting) base j given.value few (omega (arith, few, r.table))

      same_blocks : blocks W.st ≡ blocks (abs s b w)
      same_blocks = W.setting.open_scopes ∙ sym (blocks_abs s b w r.one)

      -- the rules draw what follows the context
      context_known : (F : Json → Res) → or_fail (partial_context g (abs s b w) y.params) F ≡ F j
      unfolding or_fail
      context_known F = ap (λ z. or_fail z F) given.is

  -- a refusal: r is the context that is left, and ent' the entries
  module _ (ent' : List ℕ) (k : Reason)
      (stops : (page texts indent : Bytes) (r : Ready s b (world c page texts indent ent)) (y : block-util.Expanded) (W : Worked s b o (world c page texts indent ent) d p x y) (F O : Drawable) (D : Draw) (ind : Option Bytes)
      → Draws s b (world c page texts indent ent) (world (failed c (Some k)) page texts indent ent') (include (registry_of s b o (length page)) F O D (hash_ctx y.hash) ind (merge_json (given page texts indent r y W).json (hash_ctx y.hash)) (abs s b (world c page texts indent ent)))) where
    scope_refused : ScopeOpened s b ent ent' o c (failed c (Some k)) d p x
    scope_refused = record {
      at = λ page texts indent r z U q e n own ind.
          let w₀ : World = world c page texts indent ent in
          let w₁ : World = world (failed c (Some k)) page texts indent ent' in
          record {
            refused = λ z. record {
              at = λ f m le ge y W D eq.
                  subst (Draws s b w₀ w₁) (sym (context_known page texts indent r y W (λ j. include (registry_of s b o (length page)) (some D) (render_body (registry_of s b o (length page)) (render_template (registry_of s b o (length page)) f) (body_says 16 d (bits b) own)) D (hash_ctx y.hash) (joined s b w₀ ind) (merge_json j (hash_ctx y.hash)) (abs s b w₀))))
                  (stops page texts indent r y W (some D) (render_body (registry_of s b o (length page)) (render_template (registry_of s b o (length page)) f) (body_says 16 d (bits b) own)) D (joined s b w₀ ind));
            };
            within = λ z. absurd (none-some k (sym z));
            no_block = λ z. absurd (none-some k (sym z));
            no_text = λ z. absurd (none-some k (sym z));
            same_writer = refl;
            done = λ z. absurd (none-some k (sym z));
          };
    }

  abbrev t : ℕ
  t = end_of c

  -- the pairs of the call
  pub scope_holds : PairsStand (bits b) d v.pair v.pairs
  scope_holds = call_pairs_stand d (bits b) p v (bits_binary b) H view

  -- what the hash is merged into
  pub scope_base : (O : SomeWorked s b ent o c d p x) → Fits base
  scope_base O = stands_fits s b ent t ok small (omega (arith, O.ready.enough, O.ready.few)) base (given O.page O.texts O.indent O.ready O.expanded O.worked).value.stands

  -- the pairs alone are too many
  pub scope_pairs : 4096 < t + v.pairs → ScopeOpened s b ent ent o c (failed c (Some EntriesLimit)) d p x
  scope_pairs lt =
      scope_refused ent EntriesLimit (λ page texts indent r y W F O D ind.
      too_many_pairs s b o (w page texts indent r) r base l d v.pair v.pairs W.st (same_blocks page texts indent r y W) (j page texts indent r y W) (h page texts indent r y W) (pairs page texts indent r y W) F O D ind lt)

  module _ (few : t + v.pairs ≤ 4096) where
    abbrev after : List ℕ
    after = with_pairs ent (bits b) t (encoded base) l d v.pair v.pairs

    -- the entries of the merged object, as they are counted
    abbrev k : ℕ
    k = entries_of v.pairs (json_of s b after (Merged t v.pairs))

    counted_so : (page texts indent : Bytes) (r : Ready s b (world c page texts indent ent)) (y : block-util.Expanded) (W : Worked s b o (world c page texts indent ent) d p x y) → k ≡ m page texts indent r y W
    counted_so page texts indent r y W = (I page texts indent r y W few).entries

    pub scope_full : 4096 < c.total + k → ScopeOpened s b ent after o c (failed c (Some EntriesLimit)) d p x
    scope_full lt =
        scope_refused after EntriesLimit (λ page texts indent r y W F O D ind.
        too_many_entries s b o (w page texts indent r) r base l d v.pair v.pairs W.st (same_blocks page texts indent r y W) (j page texts indent r y W) (h page texts indent r y W) (pairs page texts indent r y W) F O D ind (I page texts indent r y W few) (omega (arith, counted_so page texts indent r y W)))

    pub scope_deep : c.total + k ≤ 4096 → 32 ≤ c.used → ScopeOpened s b ent after o c (failed c (Some ScopesLimit)) d p x
    scope_deep le ge =
        scope_refused after ScopesLimit (λ page texts indent r y W F O D ind.
        too_many_scopes s b o (w page texts indent r) r base l d v.pair v.pairs W.st (same_blocks page texts indent r y W) (j page texts indent r y W) (h page texts indent r y W) (pairs page texts indent r y W) F O D ind (I page texts indent r y W few) (omega (arith, counted_so page texts indent r y W)) ge)

    -- what `merged_entries` asks for
    pub scope_parts : (O : SomeWorked s b ent o c d p x) → 0 < v.pairs → Parts s b after t v.pairs
    scope_parts O lt = (I O.page O.texts O.indent O.ready O.expanded O.worked few).parts lt

    -- and `names_of`
    pub scope_readable : (O : SomeWorked s b ent o c d p x) → c.total + k ≤ 4096 → Readable b after (included base t v.pairs (get_or c.scopes (c.used - 1) blank))
    scope_readable O le =
        let r = O.ready in
        let y = O.expanded in
        let W = O.worked in
        let D : Draw = λ u. rules.ok u [] in
        include_readable s b o (w O.page O.texts O.indent r) r base l d v.pair v.pairs W.st (same_blocks O.page O.texts O.indent r y W) (j O.page O.texts O.indent r y W) (h O.page O.texts O.indent r y W)
        (pairs O.page O.texts O.indent r y W) (some D) (some D) D (some []) (I O.page O.texts O.indent r y W few) (omega (arith, counted_so O.page O.texts O.indent r y W))

    -- the block names of the scope are in the set
    module _ (le : c.total + k ≤ 4096) (lt : c.used < 32) (names : ℕ) (covers : Covers names b after (included base t v.pairs (get_or c.scopes (c.used - 1) blank))) where
      abbrev opened : RenderContext
      opened = pushed (counted c (c.total + k)) (included base t v.pairs (get_or c.scopes (c.used - 1) blank)) names

      pub scope_opened : ScopeOpened s b ent after o c opened d p x
      scope_opened = record {
        at = λ page texts indent r y U q e n own ind.
            let eq : k ≡ m page texts indent r y U = counted_so page texts indent r y U in
            let w₀ : World = world c page texts indent ent in
            let w₁ : World = world opened page texts indent after in
            record {
              refused = λ z. absurd (z r.fine);
              within = λ z. within_so page texts indent r y U;
              no_block = λ z. subst (λ (i : ℕ). (front (world (pushed (counted c (c.total + i)) (included base t v.pairs (get_or c.scopes (c.used - 1) blank)) names) page texts indent after)).block ≡ 0) (sym eq) (include_no_block s b o w₀ r base l d v.pair v.pairs U.st (same_blocks page texts indent r y U) (j page texts indent r y U) (h page texts indent r y U) (pairs page texts indent r y U) (some (target (registry_of s b o (length page)) 0 b q e n)) (some (target (registry_of s b o (length page)) 0 b q e n)) (target (registry_of s b o (length page)) 0 b q e n) (joined s b w₀ ind) (I page texts indent r y U few) (omega (arith, eq)) lt names covers);
              no_text = λ z. subst (λ (i : ℕ). (front (world (pushed (counted c (c.total + i)) (included base t v.pairs (get_or c.scopes (c.used - 1) blank)) names) page texts indent after)).text ≡ 0) (sym eq) (include_no_text s b o w₀ r base l d v.pair v.pairs U.st (same_blocks page texts indent r y U) (j page texts indent r y U) (h page texts indent r y U) (pairs page texts indent r y U) (some (target (registry_of s b o (length page)) 0 b q e n)) (some (target (registry_of s b o (length page)) 0 b q e n)) (target (registry_of s b o (length page)) 0 b q e n) (joined s b w₀ ind) (I page texts indent r y U few) (omega (arith, eq)) lt names covers);
              same_writer = refl;
              done = λ z w₂ T. record { at = λ f i fe ie y W D same. finished page texts indent r U q e n own ind w₂ T f i fe ie y W D (same lt) };
            };
      }
        where
          -- the scope is the one that the rules open
          within_so : (page texts indent : Bytes) (r : Ready s b (world c page texts indent ent)) (y : block-util.Expanded) (U : Worked s b o (world c page texts indent ent) d p x y) → Within s b [] (world c page texts indent ent) (world opened page texts indent after)
          within_so page texts indent r y U =
              let eq : k ≡ m page texts indent r y U = counted_so page texts indent r y U in
              subst (λ (i : ℕ). Within s b [] (world c page texts indent ent) (world (pushed (counted c (c.total + i)) (included base t v.pairs (get_or c.scopes (c.used - 1) blank)) names) page texts indent after)) (sym eq)
              (include_within s b o (world c page texts indent ent) r base l d v.pair v.pairs U.st (same_blocks page texts indent r y U) (j page texts indent r y U) (h page texts indent r y U) (pairs page texts indent r y U) (some (λ u. rules.ok u [])) (some (λ u. rules.ok u [])) (λ u. rules.ok u []) (some []) (I page texts indent r y U few) (omega (arith, eq)) lt names covers)

          finished : (page texts indent : Bytes) (r : Ready s b (world c page texts indent ent)) {z : block-util.Expanded} (U : Worked s b o (world c page texts indent ent) d p x z) (q e n : ℕ) (own ind : RustOption ℕ) (w₂ : World) → TextDrawn s b o (world opened page texts indent after) w₂ d q e n own ind
              → (f i : ℕ) → 32 ≤ f + suc c.used → 32 ≤ i + suc c.used → (y : block-util.Expanded) (W : Worked s b o (world c page texts indent ent) d p x y) (D : Draw) → D ≡ target (registry_of s b o (length page)) i b q e n
              → Draws s b (world c page texts indent ent) (over (unless_bad (λ u. cleaned u c) w₂.rc) w₂) (or_fail (partial_context (registry_of s b o (length page)) (abs s b (world c page texts indent ent)) y.params) (λ j.
              include (registry_of s b o (length page)) (some D) (render_body (registry_of s b o (length page)) (render_template (registry_of s b o (length page)) f) (body_says 16 d (bits b) own)) D (hash_ctx y.hash) (joined s b (world c page texts indent ent) ind) (merge_json j (hash_ctx y.hash)) (abs s b (world c page texts indent ent))))
          finished page texts indent r U q e n own ind w₂ T f i fe ie y W D same =
              let w₀ : World = world c page texts indent ent in
              let w₁ : World = world opened page texts indent after in
              let G : Registry = registry_of s b o (length page) in
              let O : Drawable = render_body G (render_template G f) (body_says 16 d (bits b) own) in
              let E : Draw = target G i b q e n in
              let eq : k ≡ m page texts indent r y W = counted_so page texts indent r y W in
              let fit : c.total + m page texts indent r y W ≤ 4096 = omega (arith, eq) in
              let J : Json = j page texts indent r y W in
              let Hs = hash_ctx y.hash in
              let is : include G (some E) O E Hs (joined s b w₀ ind) (merge_json J Hs) (abs s b w₀) ≡ block_text_of (some E) O (render_partial (abs s b w₀).seen.current_template (abs s b w₀).kept.indent_string (joined s b w₀ ind) E) (abs s b w₁) =
              include_drawn s b o w₀ r base l d v.pair v.pairs W.st (same_blocks page texts indent r y W) J Hs (pairs page texts indent r y W) (some E) O E (joined s b w₀ ind) (I page texts indent r y W few) fit lt names covers
              ∙ ap (λ (a : ℕ). block_text_of (some E) O (render_partial (abs s b w₀).seen.current_template (abs s b w₀).kept.indent_string (joined s b w₀ ind) E) (abs s b (world (pushed (counted c (c.total + a)) (included base t v.pairs (get_or c.scopes (c.used - 1) blank)) names) page texts indent after))) (sym eq) in
              let whole : or_fail (partial_context G (abs s b w₀) y.params) (λ j. include G (some D) O D Hs (joined s b w₀ ind) (merge_json j Hs) (abs s b w₀)) ≡ block_text_of (some E) O (render_partial (abs s b w₀).seen.current_template (abs s b w₀).kept.indent_string (joined s b w₀ ind) E) (abs s b w₁) =
              context_known page texts indent r y W (λ j. include G (some D) O D Hs (joined s b w₀ ind) (merge_json j Hs) (abs s b w₀)) ∙ ap (λ (u : Draw). include G (some u) O u Hs (joined s b w₀ ind) (merge_json J Hs) (abs s b w₀)) same ∙ is in
              let nb : (front w₁).block ≡ 0 = subst (λ (a : ℕ). (front (world (pushed (counted c (c.total + a)) (included base t v.pairs (get_or c.scopes (c.used - 1) blank)) names) page texts indent after)).block ≡ 0) (sym eq) (include_no_block s b o w₀ r base l d v.pair v.pairs W.st (same_blocks page texts indent r y W) J Hs (pairs page texts indent r y W) (some E) O E (joined s b w₀ ind) (I page texts indent r y W few) fit lt names covers) in
              let nt : (front w₁).text ≡ 0 = subst (λ (a : ℕ). (front (world (pushed (counted c (c.total + a)) (included base t v.pairs (get_or c.scopes (c.used - 1) blank)) names) page texts indent after)).text ≡ 0) (sym eq) (include_no_text s b o w₀ r base l d v.pair v.pairs W.st (same_blocks page texts indent r y W) J Hs (pairs page texts indent r y W) (some E) O E (joined s b w₀ ind) (I page texts indent r y W few) fit lt names covers) in
              let K = T.at w₀ r (within_so page texts indent r y W) nb nt f i (omega arith) (omega arith) in
              subst (Draws s b w₀ (over (unless_bad (λ u. cleaned u c) w₂.rc) w₂)) (sym whole)
              (unless_refused (λ u. Draws s b w₀ u (block_text_of (some E) O (render_partial (abs s b w₀).seen.current_template (abs s b w₀).kept.indent_string (joined s b w₀ ind) E) (abs s b w₁))) (λ u. cleaned u c) w₂ (λ z. K.fine z) (λ z. K.refused z))
