-- The turns of `each` by the code's cursor: v is the value, ns are the block names.
use Rattle.std.specs.Prelude.{None, ℕ, zero, suc, ◌+◌, ◌-◌, ◌≤◌, ◌<◌, Bool, true, false, List, [], ◌∷◌, ◌≡◌, eqb, leb, length, drop, get_or}
use Rattle.std.proofs.Math.Option.{Option, none, some}
use Rattle.std.proofs.Math.Path.{refl}
use Rattle.std.proofs.Common.{sym, ap, ap₂, ◌∙◌, subst, arith, get_or-set_same}
use Rattle.std.proofs.lemmas.Bool.{lt-leb}
use Rattle.std.proofs.Math.ListN.{get_elem?}
use Rattle.rules.specs.Bytes.{Bytes, pick, maybe}
use Rattle.rules.specs.Bits.{bits}
use Rattle.rules.specs.Json.{Json}
use Rattle.rules.specs.Value.{ScopedJson, missing, derived, context}
use Rattle.rules.specs.Template as template
use Rattle.rules.specs.Block.{BlockContext}
use Rattle.rules.specs.State as rules
use Rattle.rules.specs.State.{Draw, Res, pop_block, push_block, ◌after◌}
use Rattle.rules.specs.BlockUtil.{create_block, render_or_nothing}
use Rattle.rules.specs.HelperEach.{Turn, turn_block, turns}
use Rattle.rules.specs.Render.{render_body, render_template}
use Rattle.parts.specs.declared.BlockParam.{BlockParam}
use Rattle.parts.specs.declared.BlockParam.TheVariants.{None, Single, Pair}
use Rattle.parts.specs.Says.{names_says, NamesHold}
use Rattle.value.specs.declared.Value.{Value}
use Rattle.value.specs.Numbers.{Fits, encoded, decoded, decoded_encoded}
use Rattle.meaning.specs.Meaning.{context_place, is_missing, json_of, scoped_of}
use Rattle.meaning.specs.Standing.{Stands, plain, stands_later}
use Rattle.meaning.specs.Kept.{Agree, kept}
use Rattle.places.specs.Places.{path_at}
use Rattle.members.specs.Turns.{each_turns}
use Rattle.scope.specs.declared.Scope.{Scope}
use Rattle.scope.specs.Scopes.{blank, base_of, over_object, context_of}
use Rattle.scope.specs.Standing.{ScopeStands}
use Rattle.scope.specs.NameBits.{Covers, covers_turn}
use Rattle.scope.proofs.MadeLaws.{turned_stands, turn_object}
use Rattle.turns.specs.declared.Turn.{Turn as Told}
use Rattle.turns.specs.Turning.{is_map, TurnIs}
use Rattle.turns.proofs.Laws.{BaseBefore, base_next, turn_context}
use Rattle.expand.specs.declared.Options.{Options}
use Rattle.state.specs.Setters as set
use Rattle.state.specs.World.{World, over, front, top, abs, Ready, Draws}
use Rattle.state.specs.Steps.{Within}
use Rattle.drawing.specs.Renders.{registry_of, Renders}
use Rattle.drawing.specs.Turning.{Turning, turning_more, more_block, turning_stop, turning_within}
use Rattle.scope.specs.Made as made

-- the scope of the turns so far: its names are ns, and its base is the item before, or v
pub record EachScope (s b : Bytes) (v : Value) (ns : BlockParam) (J : Json) (k : ℕ) (c : Scope) : Type 0 where
  pub few : c.kind ≤ 2
  pub names : made.names_said b c c.kind ≡ names_says (bits b) ns
  pub base : BaseBefore s (context_place v) k (base_of c)
  pub fresh : is_map J ≡ false → over_object c ≡ false

drop_got : {A : Type 0} (l : List A) (k : ℕ) (a : A) → get_elem? l k ≡ some a → drop k l ≡ a ∷ drop (suc k) l
drop_got [] k a e = let z : ◌≡◌ {A = ℕ} 0 1 = cc in absurd (omega arith)
drop_got (x ∷ l) zero a e = ap (λ (y : _). y ∷ l) (same e)
  where
    same : some x ≡ some a → x ≡ a
    same q = ap (λ (o : Option _). maybe o x (λ y. y)) q
drop_got (x ∷ l) (suc k) a e = drop_got l k a e

-- a scope that merges nothing
unmerged : (s b : Bytes) (ent : List ℕ) (c : Scope) → c.kind ≤ 2 → (context_of s b ent c).merged_entries ≡ 0
unmerged s b ent c le = let e : leb 3 c.kind ≡ false = lt-leb 3 c.kind (omega arith) in rw e

module _ (s b : Bytes) (o : Options) (w : World) (r : Ready s b w) (v : Value) (st : Stands s b w.ent (top w) v) (ns : BlockParam) (T : template.Body) where
  abbrev Z : ScopedJson
  Z = scoped_of s b w.ent v

  abbrev J : Json
  J = json_of s b w.ent v

  abbrev F : Turn → BlockContext → BlockContext
  F = turn_block Z (names_says (bits b) ns)

  abbrev Going : World → ℕ → Type 0
  Going l k = Turning s b o w r F (each_turns J) (create_block Z) T l k

  -- what v means is the same while its turns are drawn
  module _ (l : World) (a : Agree w.ent l.ent (top w)) where
    means_same : J ≡ json_of s b l.ent v
    means_same = (kept s b w.ent l.ent (top w) v a st).means

    scoped_same : Z ≡ scoped_of s b l.ent v
    scoped_same = ap (λ (j : Json). pick (is_missing v) missing (maybe (context_place v) (derived j) (λ i. context j (path_at s i)))) means_same

  module _ (l : World) (k : ℕ) (G : Going l k) (anew : (u : Turn) → F u G.block ≡ F u (context_of s b l.ent (front l))) (E : EachScope s b v ns J k (front l))
      (item key : Value) (object last : Bool) (I : TurnIs s b l.ent (top w) v k item key object last) (fits : Fits item) (key_fits : Fits key) where
    abbrev c : Scope
    c = made.turned (front l) (encoded item) (encoded key) k (eqb k 0) last object

    agree : Agree w.ent l.ent (top w)
    agree = G.within.agree

    front_there : ScopeStands s b l.ent (front l)
    front_there = G.within.ready.scopes.each (l.rc.used - 1) (omega (arith, G.within.ready.one))

    item_is : decoded (encoded item) ≡ item
    item_is = decoded_encoded item fits

    key_is : decoded (encoded key) ≡ key
    key_is = decoded_encoded key key_fits

    there : ScopeStands s b l.ent c
    there =
        turned_stands s b l.ent (front l) (encoded item) (encoded key) k (eqb k 0) last object front_there E.few (ap is_missing item_is ∙ I.present)
        (subst (Stands s b l.ent (front l).inline) (sym item_is) (stands_later s b l.ent (top w) (front l).inline item G.within.above I.stands))
        (λ q. subst (Stands s b l.ent (front l).inline) (sym key_is) (plain I.key_plain I.key_stands))

    here : drop k (each_turns J) ≡ I.turn ∷ drop (suc k) (each_turns J)
    here = drop_got (each_turns J) k I.turn (ap (λ (j : Json). get_elem? (each_turns j) k) (means_same l agree) ∙ I.is)

    not_object : object ≡ false → over_object (front l) ≡ false
    not_object q = E.fresh (ap is_map (means_same l agree) ∙ sym I.over ∙ q)

    is : context_of s b l.ent c ≡ F I.turn G.block
    is =
        turn_context s b l.ent (top w) v k item key object last I (front l) (encoded item) (encoded key) item_is key_is E.few not_object E.base
        ∙ ap₂ (λ (x : ScopedJson) (n : template.BlockParam). turn_block x n I.turn (context_of s b l.ent (front l))) (sym (scoped_same l agree)) E.names
        ∙ sym (anew I.turn)

    merged : (context_of s b l.ent c).merged_entries ≡ (context_of s b l.ent (front l)).merged_entries
    merged = unmerged s b l.ent c E.few ∙ sym (unmerged s b l.ent (front l) E.few)

    covers : Covers l.rc.names b l.ent c
    covers = covers_turn l.rc.names b l.ent (front l) c refl refl E.few (G.within.ready.covered (l.rc.used - 1) (omega (arith, G.within.ready.one)))

    abbrev l₁ : World
    l₁ = over (set.turned l.rc c) l

    pub each_ready : Ready s b l₁
    each_ready = (turning_within s b o w r F (each_turns J) (create_block Z) T l k G I.turn here c there refl refl refl refl merged covers is).ready

    module _ (l₂ : World) (d : Renders s b o l₁ l₂ (λ g R. render_or_nothing (render_body g R T))) where
      pub each_stop : (l₂.rc.bad ≡ None → ⊥) → (f : ℕ) → 32 ≤ f + w.rc.used
          → Draws s b w l₂ (pop_block after turns F (render_or_nothing (render_body (registry_of s b o (length w.page)) (render_template (registry_of s b o (length w.page)) f) T)) (each_turns J) (push_block (create_block Z) (abs s b w)))
      each_stop n f le = turning_stop s b o w r F (each_turns J) (create_block Z) T l k G I.turn here c there refl refl refl refl merged covers is l₂ d n f le

      pub each_more : l₂.rc.bad ≡ None → Going l₂ (suc k)
      each_more e = turning_more s b o w r F (each_turns J) (create_block Z) T l k G I.turn here c there refl refl refl refl merged covers is l₂ d e

      pub each_more_block : (e : l₂.rc.bad ≡ None) → (each_more e).block ≡ context_of s b l₂.ent (front l₂)
      unfolding each_more
      each_more_block e = more_block s b o w r F (each_turns J) (create_block Z) T l k G I.turn here c there refl refl refl refl merged covers is l₂ d e
