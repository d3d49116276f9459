-- There is a registry and a state that the code is handed as places and numbers; so what is worked out stands.
use Rattle.std.specs.Prelude.{ℕ, zero, suc, ◌+◌, ◌≤◌, ◌<◌, false, List, [], ◌≡◌, refl, length, get_or, replicate, None, Result, Ok, Err}
use Rattle.std.proofs.Common.{arith, sym, ap, subst}
use Rattle.std.proofs.Math.Option.{none}
use Rattle.rules.specs.Bytes.{Bytes}
use Rattle.rules.specs.Error as rule
use Rattle.rules.specs.Value.{ScopedJson}
use Rattle.rules.specs.State.{RenderContext, page}
use Rattle.rules.specs.Registry.{Registry, paper_limits}
use Rattle.rules.specs.BlockUtil as block-util
use Rattle.places.specs.Places.{json_at}
use Rattle.places.specs.Nodes.{some_places}
use Rattle.places.proofs.Paths.{root_live}
use Rattle.value.specs.declared.Value.TheVariants.{Context}
use Rattle.value.specs.Numbers.{decoded, decoded_encoded}
use Rattle.meaning.specs.Meaning.{is_missing}
use Rattle.meaning.specs.Standing.{Stands, plain}
use Rattle.meaning.specs.Means.{stands_known}
use Rattle.scope.specs.declared.Scope.{Scope}
use Rattle.scope.specs.Scopes.{blank, context_of, partials_of, blocks_of}
use Rattle.scope.specs.Standing.{ScopeStands, ScopesStand}
use Rattle.scope.specs.Made.{child}
use Rattle.scope.proofs.MadeLaws.{child_stands}
use Rattle.context.specs.Near.{NearScopes}
use Rattle.expand.specs.declared.Options.{Options}
use Rattle.expand.specs.declared.Expanded.{Expanded}
use Rattle.expand.specs.Answers.{Setting, Expands, IsTemplate, ExpandedHeld, GotKnown}
use Rattle.error.specs.declared.RenderErrorReason.{RenderErrorReason as Reason}
use Rattle.value.specs.declared.Value.{Value}

blocks_length : (s b : Bytes) (ent : List ℕ) (l : List Scope) (n : ℕ) → length (blocks_of s b ent l n) ≡ n
blocks_length s b ent l zero = refl
blocks_length s b ent l (suc n) = ap suc (blocks_length s b ent l n)

abbrev some_registry : Bytes → Options → Registry
some_registry s o = record {
  templates = [];
  plan = json_at s 0;
  options = record { strict_mode = o.strict; recursive_lookup = o.recursive_lookup; guide_truth = o.guide_truth };
  limits = paper_limits 0;
}

abbrev some_state : Bytes → Bytes → List ℕ → List Scope → ℕ → RenderContext
some_state s b ent l n = record {
  kept = record { block = context_of s b ent (get_or l n blank); blocks_beneath = blocks_of s b ent l n; partial_block_stack = []; indent_string = none; disable_escape = false; out = page };
  seen = record {
    block_partials = partials_of s b ent (get_or l n blank).inline (get_or l n blank).count;
    current_template = none;
    marks = record { trailing_newline = false; content_produced = false; indent_before_write = false };
    room = record { page_room = 0; texts_room = 0 };
  };
}

pub record SomeSetting (s b : Bytes) (ent : List ℕ) (l : List Scope) (used : ℕ) (o : Options) (t : ℕ) : Type 0 where
  pub g : Registry
  pub st : RenderContext
  pub setting : Setting s b ent l used o g st t

pub some_setting : (s b : Bytes) (ent : List ℕ) (l : List Scope) (used : ℕ) (o : Options) (t : ℕ) → 0 < used → ScopesStand s b ent l used t → SomeSetting s b ent l used o t
some_setting s b ent l zero o t lt h = absurd (omega arith)
some_setting s b ent l (suc n) o t lt h = record {
  g = some_registry s o;
  st = some_state s b ent l n;
  setting = record {
    alike = record { strict = refl; scopes = refl; deep = ap suc (blocks_length s b ent l n) };
    plan = refl;
    recursive = refl;
    open_scopes = refl;
    stand = h;
  };
}

-- scopes over the whole plan, and nothing else
module _ (s b : Bytes) (ent : List ℕ) (l : List Scope) where
  root_stands : ScopeStands s b ent (child 5 0)
  root_stands =
      let e : decoded 5 ≡ Context 0 = decoded_encoded (Context 0) (omega arith) in
      child_stands s b ent 5 0 (ap is_missing e) (subst (Stands s b ent 0) (sym e) (plain {v = Context 0} refl (some_places s, root_live s)))

  pub roots_stand : (n : ℕ) → n ≤ length l → ((i : ℕ) → i < n → get_or l i blank ≡ child 5 0) → ScopesStand s b ent l n 0
  roots_stand n le f = record {
    each = λ i lt. subst (ScopeStands s b ent) (sym (f i lt)) root_stands;
    within = λ i lt. subst (λ (c : Scope). c.inline + c.count ≤ 0) (sym (f i lt)) (omega arith);
    stacked = λ i lt. subst (λ (c : Scope). c.inline + c.count ≤ (get_or l (suc i) blank).inline) (sym (f i (omega arith))) (omega arith);
    room = le;
    entries = omega arith;
  }

-- the stack of a call that begins has only such scopes
begun_root : (n i : ℕ) → get_or (replicate n blank) i blank ≡ blank
begun_root zero i = refl
begun_root (suc n) zero = refl
begun_root (suc n) (suc i) = begun_root n i

pub begun_near : (s b : Bytes) (ent : List ℕ) (n : ℕ) → n ≤ 32 → NearScopes s b ent (replicate 32 blank) n
begun_near s b ent n le = record { top = 0; near = omega arith; stand = roots_stand s b ent (replicate 32 blank) n le (λ i lt. begun_root 32 i) }

module _ (s b : Bytes) (ent : List ℕ) (t : ℕ) where
  pub got_known : (x : rule.Got ScopedJson) (r : Result Value Reason) → Expands s b ent t x r → GotKnown s b r
  got_known x (Ok v) h = stands_known s b ent t v h.1
  got_known x (Err n) h = tt

  pub expanded_held : (l : List Scope) (used : ℕ) (x : rule.Got block-util.Expanded) (w : Expanded) → ScopesStand s b ent l used t → IsTemplate s b ent t x w → w.bad ≡ None → ExpandedHeld s b ent w
  expanded_held l used x w st h e =
      let f = h.fine e in
      record { used = t; room = st.entries; name = f.2.name_stands; first = f.2.params.first; second = f.2.params.second }
