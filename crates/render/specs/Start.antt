-- The context that a call starts with: s is the plan, b the bundle.
use Prim.Native.Nat.{ℕ, suc, ◌+◌, ◌-◌, ◌≤◌, ◌<◌}
use Rattle.std.specs.Prelude.{true, List, [], ◌≡◌, refl, replicate}
use Rattle.std.proofs.Math.Bool.{false}
use Rattle.std.proofs.Math.Option.{Option, none, some}
use Rattle.std.proofs.Math.Path.{sym, ap, ap₂, subst}
use Rattle.std.proofs.Common.{◌∙◌}
use native.Mathlib.Omega.{arith}
use Rattle.std.proofs.Math.ListN.{length, get_or}
use Rattle.rules.specs.Bytes.{Bytes}
use Rattle.rules.specs.Bits.{bits}
use Rattle.rules.specs.Bundle.{string, body}
use Rattle.rules.specs.Partials.{no_partials}
use Rattle.rules.specs.Block.{BlockContext, new, set_base_path}
use Rattle.rules.specs.BlockUtil.{create_block}
use Rattle.rules.specs.State as rules
use Rattle.rules.specs.State.{entries, set_current_template_name}
use Rattle.rules.specs.Registry.{Registry, paper_limits}
use Rattle.rules.specs.Call as call
use Rattle.rules.specs.Render.{render_elements, render_template}
use Rattle.output.specs.Outputs.{Sound}
use Rattle.layout.specs.Text.{text_at}
use Rattle.parts.specs.Holds.{Holds}
use Rattle.template.specs.Views.{template_at}
use Rattle.places.specs.Places.{path_at, json_at}
use Rattle.places.proofs.Paths.{root_path}
use Rattle.value.specs.declared.Value.{Value}
use Rattle.value.specs.declared.Value.TheVariants.{Context}
use Rattle.value.specs.Numbers.{decoded, decoded_encoded}
use Rattle.meaning.specs.Meaning.{is_missing, json_of, scoped_of}
use Rattle.scope.specs.declared.Scope.{Scope}
use Rattle.scope.specs.Scopes.{blank, context_of}
use Rattle.scope.specs.NameBits.{Covers, covers_none}
use Rattle.scope.specs.Made.{child}
use Rattle.scope.proofs.MadeLaws.{child_is}
use Rattle.settings.specs.Settings.{roots_stand}
use Rattle.expand.specs.declared.Options.{Options}
use Rattle.state.specs.Context.{RenderContext}
use Rattle.state.specs.Setters.{fresh, with_template}
use Rattle.state.specs.World.{World, world, over, outputs_of, name_at, abs, Ready, Draws}
use Rattle.state.specs.Laws.{draws_from}
use Rattle.state.specs.Steps.{goes_template, abs_template}
use Rattle.drawing.specs.Renders.{registry_of, Renders}
use Rattle.drawing.specs.Renders.{body_rule}

module _ (s b page texts indent : Bytes) (ent : List ℕ) where
  abbrev w : World
  w = world fresh page texts indent ent

  root_is : decoded 5 ≡ Context 0
  root_is = decoded_encoded (Context 0) (omega arith)

  first_block : context_of s b ent blank ≡ new
  first_block =
      child_is s b ent 5 0 (ap is_missing root_is) ∙ ap (λ (v : Value). create_block (scoped_of s b ent v)) root_is ∙ ap (λ (p : List Bytes). set_base_path p new) (root_path s)

  pub abs_fresh : abs s b w ≡ call.fresh (paper_limits (length page))
  unfolding abs
  abs_fresh =
      let z : length page - 0 ≡ length page = omega arith in
      ap₂ (λ (x : BlockContext) (k : ℕ). record {
        kept = record { block = x; blocks_beneath = []; partial_block_stack = []; indent_string = none; disable_escape = false; out = rules.page };
        seen = record { block_partials = no_partials; current_template = none; marks = record { trailing_newline = false; content_produced = false; indent_before_write = false }; room = record { page_room = k; texts_room = 16384 } };
      }) first_block z

  pub ready_fresh : 8192 ≤ length ent → 16384 ≤ length texts → 256 ≤ length indent → Ready s b w
  unfolding abs
  ready_fresh le lt li =
      let sound : Sound (outputs_of w) = record { goes = refl; written_fits = omega arith; low_fits = omega arith; high_fits = lt } in
      record {
        sized = refl;
        one = omega arith;
        most = omega arith;
        fine = refl;
        nowhere = refl;
        nameless = refl;
        sound = sound;
        scopes = roots_stand s b ent (replicate 32 blank) 1 (omega arith) (λ i h. first_root i h);
        covered = λ i h. subst (Covers 0 b ent) (sym (first_root i h)) (covers_none b ent 0 blank refl);
        total = sym (ap entries abs_fresh);
        few = omega arith;
        enough = omega arith;
        table = le;
        texts = omega (arith, lt);
        high = omega arith;
        indent = omega arith;
        absent = λ z. refl;
        buffer = li;
        template = λ z. absurd (z refl);
      }
    where
      first_root : (i : ℕ) → i < 1 → get_or (replicate 32 blank) i blank ≡ child 5 0
      first_root i h = let z : i ≡ 0 = omega arith in ap (λ (k : ℕ). get_or (replicate 32 blank) k blank) z

  -- a template whose name stands at n and its body at p
  module _ (o : Options) (n p : ℕ) (r : Ready s b w) (held : Holds string (bits b) n) (u : World) where
    abbrev c : RenderContext
    c = with_template fresh (n + 1)

    named : (n + 1 ≡ 0 → ⊥) → Holds string (bits b) (n + 1 - 1)
    named z = let e : n ≡ n + 1 - 1 = omega arith in subst (Holds string (bits b)) e held

    pub start_ready : Ready s b (over c w)
    start_ready = (goes_template s b w r (n + 1) named).ready

    pub start_named : (n + 1 ≡ 0 → ⊥) → Holds string (bits b) (n + 1 - 1)
    start_named = named

    pub start_drawn : Renders s b o (over c w) u (body_rule b 16 p (n + 1)) → Draws s b w u (render_template (registry_of s b o (length page)) 32 (some (text_at (bits b) n)) (template_at 16 16 (bits b) p) (call.fresh (paper_limits (length page))))
    unfolding render_template
    start_drawn R =
        let g : Registry = registry_of s b o (length page) in
        let T = template_at 16 16 (bits b) p in
        let e : n + 1 ≡ suc n = omega arith in
        let m : name_at b (n + 1) ≡ some (text_at (bits b) n) = ap (name_at b) e in
        draws_from s b w (over c w) u _ (goes_template s b w r (n + 1) named)
        (subst (λ (x : Option Bytes). Draws s b (over c w) u (render_elements g (render_template g 31) x T (set_current_template_name x (call.fresh (paper_limits (length page)))))) m
        (subst (λ (x : rules.RenderContext). Draws s b (over c w) u (render_elements g (render_template g 31) (name_at b (n + 1)) T x)) (abs_template s b w (n + 1) ∙ ap (set_current_template_name (name_at b (n + 1))) abs_fresh) (R.at 31 (omega arith))))
