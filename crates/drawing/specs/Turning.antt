-- `each`: its template is drawn for each turn, all in one scope.
use Rattle.std.specs.Prelude.{ℕ, zero, suc, ◌+◌, ◌-◌, ◌≤◌, ◌<◌, ◌≡◌, length, get_or, None}
use mathlib.Core.List.{List, [], ◌∷◌, ◌++◌, append-nil}
use Rattle.std.proofs.Math.Option.{Option, none, some}
use Rattle.std.proofs.Math.Path.{Path, refl, ap}
use Rattle.std.proofs.Common.{sym, ◌∙◌, subst, arith, get_or-set_same}
use Rattle.std.proofs.Math.ListN.{drop, drop_of_length-le}
use Rattle.rules.specs.Bytes.{Bytes}
use Rattle.rules.specs.Template as template
use Rattle.rules.specs.Block.{Block, BlockContext}
use Rattle.rules.specs.State as rules
use Rattle.rules.specs.State.{Res, ok, err, Draw, prefixed, ◌then◌, ◌after◌, push_block, pop_block, set_block, depth, first_context, first_partials, rest}
use Rattle.rules.specs.Registry.{Registry}
use Rattle.rules.specs.BlockUtil.{render_or_nothing}
use Rattle.rules.specs.HelperEach.{Turn, turns}
use Rattle.rules.specs.Partial.{Rendering}
use Rattle.rules.specs.Render.{render_body, render_template}
use Rattle.scope.specs.declared.Scope.{Scope}
use Rattle.scope.specs.Scopes.{blank, context_of}
use Rattle.scope.specs.Standing.{ScopeStands}
use Rattle.scope.specs.NameBits.{Covers}
use Rattle.expand.specs.declared.Options.{Options}
use Rattle.state.specs.Setters.{turned, closed}
use Rattle.state.specs.World.{World, over, front, abs, error_of, Ready, Goes, Draws}
use Rattle.state.specs.Steps.{Within, within_goes, depth_abs}
use Rattle.state.specs.Scoped.{abs_close, goes_close, abs_change, within_change}
use Rattle.drawing.specs.Renders.{registry_of, Renders}
use Rattle.drawing.specs.Loop.{drawn_as, prefixed_nothing, prefixed_both}

-- a scope that is popped is not seen
pop_set : (B : BlockContext) (s : rules.RenderContext) → 2 ≤ depth s → pop_block (set_block B s) ≡ pop_block s
pop_set B s h = go s.kept.blocks_beneath h
  where
    go : (y : List Block) → 2 ≤ suc (length y) → Path rules.RenderContext
        (record {
          kept = record { block = first_context B y; blocks_beneath = rest y; partial_block_stack = s.kept.partial_block_stack; indent_string = s.kept.indent_string; disable_escape = s.kept.disable_escape; out = s.kept.out };
          seen = record { block_partials = first_partials s.seen.block_partials y; current_template = s.seen.current_template; marks = s.seen.marks; room = s.seen.room };
        })
        (record {
          kept = record { block = first_context s.kept.block y; blocks_beneath = rest y; partial_block_stack = s.kept.partial_block_stack; indent_string = s.kept.indent_string; disable_escape = s.kept.disable_escape; out = s.kept.out };
          seen = record { block_partials = first_partials s.seen.block_partials y; current_template = s.seen.current_template; marks = s.seen.marks; room = s.seen.room };
        })
    go [] h = absurd (omega arith)
    go (c ∷ y) h = refl

-- F is the scope at the start of a turn, ts are the turns, B the scope as it is opened
module _ (s b : Bytes) (o : Options) (w : World) (r : Ready s b w) (F : Turn → BlockContext → BlockContext) (ts : List Turn) (B : BlockContext) (T : template.Body) where
  abbrev g : Registry
  g = registry_of s b o (length w.page)

  abbrev D : ℕ → Draw
  D f = render_or_nothing (render_body g (render_template g f) T)

  -- k turns are drawn, and l is left; by the rules its newest scope is `block`
  pub record Turning (l : World) (k : ℕ) : Type 0 where
    pub text : Bytes
    pub within : Within s b text w l
    pub no_block : (front l).block ≡ 0
    pub no_text : (front l).text ≡ 0
    pub block : BlockContext
    pub rest : (f : ℕ) → 32 ≤ f + w.rc.used → turns F (D f) ts (push_block B (abs s b w)) ≡ prefixed text (turns F (D f) (drop k ts) (set_block block (abs s b l)))

  unfoldable pub turning_start : (l : World) → Within s b [] w l → (front l).block ≡ 0 → (front l).text ≡ 0 → (C : BlockContext) → abs s b l ≡ push_block C (abs s b w) → Turning l 0
  turning_start l h nb nt C e = record {
    text = [];
    within = h;
    no_block = nb;
    no_text = nt;
    block = B;
    rest = λ f le. ap (λ (x : rules.RenderContext). turns F (D f) ts (set_block B x)) (sym e) ∙ sym (prefixed_nothing (turns F (D f) ts (set_block B (abs s b l))));
  }

  module _ (l : World) (k : ℕ) (t : Turning l k) where
    pub turning_end : length ts ≤ k → (f : ℕ) → 32 ≤ f + w.rc.used → Draws s b w (over (closed w.rc l.rc) l) (pop_block after turns F (D f) ts (push_block B (abs s b w)))
    unfolding turns prefixed ◌after◌
    turning_end ge f le =
        let deep : 2 ≤ depth (abs s b l) = omega (arith, depth_abs s b l t.within.ready.one, t.within.used, r.one) in
        let none_left : drop k ts ≡ [] = drop_of_length-le ts ge in
        let e : turns F (D f) ts (push_block B (abs s b w)) ≡ ok (set_block t.block (abs s b l)) t.text =
        t.rest f le ∙ ap (λ (x : List Turn). prefixed t.text (turns F (D f) x (set_block t.block (abs s b l)))) none_left ∙ ap (ok (set_block t.block (abs s b l))) (append-nil t.text) in
        let is : (pop_block after turns F (D f) ts (push_block B (abs s b w))) ≡ ok (abs s b (over (closed w.rc l.rc) l)) t.text =
        ap (λ (x : Res). pop_block after x) e ∙ ap (λ (c : rules.RenderContext). ok c t.text) (pop_set t.block (abs s b l) deep ∙ abs_close s b t.text w l r.one r t.within t.no_block t.no_text) in
        let goes = goes_close s b t.text w l r.one r t.within t.no_block t.no_text in
        record { fine = λ z. record { text = t.text; is = is; goes = goes }; refused = λ z. absurd (z goes.ready.fine) }

    -- one more, in the scope c
    module _ (u : Turn) (here : drop k ts ≡ u ∷ drop (suc k) ts) (c : Scope) (st : ScopeStands s b l.ent c) (inline : c.inline ≡ (front l).inline) (count : c.count ≡ (front l).count)
        (block : c.block ≡ (front l).block) (text : c.text ≡ (front l).text) (merged : (context_of s b l.ent c).merged_entries ≡ (context_of s b l.ent (front l)).merged_entries)
        (covers : Covers l.rc.names b l.ent c) (is : context_of s b l.ent c ≡ F u t.block) where
      abbrev l₁ : World
      l₁ = over (turned l.rc c) l

      pub turning_within : Within s b t.text w l₁
      turning_within = within_change s b t.text w l c t.within st inline count block text merged covers

      turned_is : abs s b l₁ ≡ set_block (F u t.block) (set_block t.block (abs s b l))
      turned_is = abs_change s b t.text w l c t.within st inline count block text merged covers ∙ ap (λ (x : BlockContext). set_block x (abs s b l)) is

      module _ (l₂ : World) (d : Renders s b o l₁ l₂ (λ g R. render_or_nothing (render_body g R T))) where
        one : (f : ℕ) → 32 ≤ f + w.rc.used → Draws s b l₁ l₂ (D f (abs s b l₁))
        one f le =
            subst (λ (n : ℕ). Draws s b l₁ l₂ (render_or_nothing (render_body (registry_of s b o n) (render_template (registry_of s b o n) f) T) (abs s b l₁))) t.within.sizes.page
            (d.at f (omega (arith, t.within.used)))

        unrolled : (f : ℕ) → 32 ≤ f + w.rc.used → turns F (D f) ts (push_block B (abs s b w)) ≡ prefixed t.text (D f (abs s b l₁) then turns F (D f) (drop (suc k) ts))
        unfolding turns
        unrolled f le =
            t.rest f le ∙ ap (λ (x : List Turn). prefixed t.text (turns F (D f) x (set_block t.block (abs s b l)))) here
            ∙ ap (λ (x : rules.RenderContext). prefixed t.text (D f x then turns F (D f) (drop (suc k) ts))) (sym turned_is)

        pub turning_stop : (l₂.rc.bad ≡ None → ⊥) → (f : ℕ) → 32 ≤ f + w.rc.used → Draws s b w l₂ (pop_block after turns F (D f) ts (push_block B (abs s b w)))
        unfolding ◌then◌ prefixed ◌after◌
        turning_stop n f le = record {
          fine = λ z. absurd (n z);
          refused = λ z. ap (λ (x : Res). pop_block after x) (unrolled f le ∙ ap (λ (x : Res). prefixed t.text (x then turns F (D f) (drop (suc k) ts))) ((one f le).refused n));
        }

        pub turning_more : l₂.rc.bad ≡ None → Turning l₂ (suc k)
        unfolding ◌then◌
        turning_more e =
            let y = (one 32 (omega arith)).fine e in
            record {
              text = t.text ++ y.text;
              within = within_goes s b t.text y.text w l₁ l₂ turning_within y.goes;
              no_block = ap (λ (x : Scope). x.block) y.goes.newest ∙ front_same (λ (x : Scope). x.block) ∙ block ∙ t.no_block;
              no_text = ap (λ (x : Scope). x.text) y.goes.newest ∙ front_same (λ (x : Scope). x.text) ∙ text ∙ t.no_text;
              block = (abs s b l₂).kept.block;
              rest = λ f le.
                  unrolled f le
                  ∙ ap (λ (x : Res). prefixed t.text (x then turns F (D f) (drop (suc k) ts))) (drawn_as s b y.text l₁ l₂ (D f (abs s b l₁)) (one f le) e y.goes)
                  ∙ prefixed_both t.text y.text (turns F (D f) (drop (suc k) ts) (abs s b l₂));
            }
          where
            front_same : (f : Scope → ℕ) → f (front l₁) ≡ f c
            front_same f = ap f (get_or-set_same l.rc.scopes (l.rc.used - 1) c blank (omega (arith, t.within.ready.sized, t.within.ready.most, t.within.ready.one)))

        -- its scope by the rules is that of the code
        pub more_block : (e : l₂.rc.bad ≡ None) → (turning_more e).block ≡ context_of s b l₂.ent (front l₂)
        unfolding turning_more abs
        more_block e = refl
