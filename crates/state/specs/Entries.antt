-- Entries behind those in use come and go.
use Rattle.std.specs.Prelude.{ℕ, suc, ◌+◌, ◌-◌, ◌*◌, ◌≤◌, ◌<◌, ◌≡◌, refl, length, get_or}
use mathlib.Core.List.{List, []}
use Rattle.std.proofs.Math.Option.{Option}
use Rattle.std.proofs.Common.{sym, ◌∙◌, subst, arith}
use Rattle.std.proofs.Math.Path.{ap, ap₂}
use Rattle.rules.specs.Bytes.{Bytes}
use Rattle.rules.specs.Partials.{Partials}
use Rattle.rules.specs.Block.{Block, BlockContext}
use Rattle.rules.specs.State.{entries, rest}
use Rattle.meaning.specs.Kept.{Agree}
use Rattle.scope.specs.Scopes.{blank, context_of, partials_of, blocks_of}
use Rattle.scope.specs.NameBits.{covered_kept}
use Rattle.scope.proofs.StackLaws.{partials_kept, context_kept, blocks_kept, scopes_kept}
use Rattle.state.specs.World.{World, world, outputs_of, front, top, abs, Ready, Goes}
use Rattle.state.specs.Laws.{grows_none}
use Rattle.state.specs.Steps.{Within}

module _ (s b : Bytes) (w : World) (ent : List ℕ) (r : Ready s b w) (a : Agree w.ent ent (top w)) (long : length ent ≡ length w.ent) where
  abbrev other : World
  other = world w.rc w.page w.texts w.indent ent

  blocks_same : blocks_of s b w.ent w.rc.scopes w.rc.used ≡ blocks_of s b ent w.rc.scopes w.rc.used
  blocks_same = blocks_kept s b w.ent ent w.rc.scopes w.rc.used (top w) a r.scopes

  front_blocks : blocks_of s b w.ent w.rc.scopes (suc (w.rc.used - 1)) ≡ blocks_of s b ent w.rc.scopes (suc (w.rc.used - 1))
  front_blocks = let e : w.rc.used ≡ suc (w.rc.used - 1) = omega (arith, r.one) in subst (λ (n : ℕ). blocks_of s b w.ent w.rc.scopes n ≡ blocks_of s b ent w.rc.scopes n) e blocks_same

  pub abs_entries : abs s b w ≡ abs s b other
  unfolding abs
  abs_entries =
      let h = context_kept s b w.ent ent (front w) (top w) a (r.scopes.each (w.rc.used - 1) (omega (arith, r.one))) (omega arith) in
      let p = partials_kept s b w.ent ent (front w).inline (front w).count (top w) a (omega arith) (r.scopes.each (w.rc.used - 1) (omega (arith, r.one))).inlines in
      ap₂ (λ (x : BlockContext) (m : Partials). record {
        kept = record { block = x; blocks_beneath = blocks_of s b w.ent w.rc.scopes (w.rc.used - 1); partial_block_stack = (abs s b w).kept.partial_block_stack; indent_string = (abs s b w).kept.indent_string; disable_escape = (abs s b w).kept.disable_escape; out = (abs s b w).kept.out };
        seen = record { block_partials = m; current_template = (abs s b w).seen.current_template; marks = (abs s b w).seen.marks; room = (abs s b w).seen.room };
      }) h p
      ∙ ap (λ (l : List Block). record {
        kept = record { block = context_of s b ent (front w); blocks_beneath = l; partial_block_stack = (abs s b w).kept.partial_block_stack; indent_string = (abs s b w).kept.indent_string; disable_escape = (abs s b w).kept.disable_escape; out = (abs s b w).kept.out };
        seen = record { block_partials = partials_of s b ent (front w).inline (front w).count; current_template = (abs s b w).seen.current_template; marks = (abs s b w).seen.marks; room = (abs s b w).seen.room };
      }) (ap rest front_blocks)

  pub ready_entries : Ready s b other
  ready_entries = record {
    sized = r.sized;
    one = r.one;
    most = r.most;
    fine = r.fine;
    nowhere = r.nowhere;
    nameless = r.nameless;
    sound = r.sound;
    scopes = scopes_kept s b w.ent ent w.rc.scopes w.rc.used (top w) a r.scopes (rw long r.scopes.entries);
    covered = covered_kept s b w.ent ent w.rc.names w.rc.scopes w.rc.used (top w) a r.scopes r.covered;
    total = r.total ∙ ap entries abs_entries;
    few = r.few;
    enough = r.enough;
    table = rw long r.table;
    texts = r.texts;
    high = r.high;
    indent = r.indent;
    absent = r.absent;
    buffer = r.buffer;
    template = r.template;
  }

  -- a scope that is opened in it is opened in w
  pub within_entries : (v : Bytes) (w' : World) → Within s b v other w' → Within s b v w w'
  within_entries v w' h = record {
    ready = h.ready;
    used = h.used;
    beneath = h.beneath;
    above = h.above;
    agree = record { same = λ i lt. a.same i lt ∙ h.agree.same i lt };
    grows = h.grows;
    indent = h.indent;
    sizes = record { page = h.sizes.page; texts = h.sizes.texts; indent = h.sizes.indent; ent = h.sizes.ent ∙ long };
  }
