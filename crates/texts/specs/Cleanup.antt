-- Behind the drawing of a partial: its scope is closed, and what was saved is set again.
use Prim.Native.Nat.{ℕ, zero, suc, ◌+◌, ◌-◌, ◌≤◌, ◌<◌}
use mathlib.Core.List.{List, ◌++◌}
use Rattle.std.proofs.Math.Option.{Option, none, some}
use Rattle.std.specs.Prelude.{◌≡◌, refl, length, get_or, take, drop, None}
use Rattle.std.proofs.Common.{sym, ◌∙◌, subst, arith, length-drop, length-take-le, take-take, drop-drop}
use Rattle.std.proofs.Math.Path.{ap, ap₂}
use Rattle.rules.specs.Bytes.{Bytes, pick}
use Rattle.rules.specs.Block.{Block}
use Rattle.rules.specs.State as rules
use Rattle.rules.specs.State.{entries_in, blocks, first_context, first_partials, rest, peek_partial_block, text_size, Res, ok, ◌after◌}
use Rattle.rules.specs.Partial.{cleanup}
use Rattle.output.specs.Outputs.{Sound}
use Rattle.meaning.specs.Kept.{Agree}
use Rattle.scope.specs.declared.Scope.{Scope}
use Rattle.scope.specs.Scopes.{blank, context_of, blocks_of}
use Rattle.scope.specs.Standing.{ScopesStand}
use Rattle.scope.specs.Made.{with_count}
use Rattle.scope.specs.NameBits.{covered_kept}
use Rattle.scope.proofs.StackLaws.{blocks_kept, scopes_kept}
use Rattle.state.specs.World.{World, over, outputs_of, front, top, text_on, stack_of, sizes_of, abs, Ready, Sizes, Grows, Goes, Draws}
use Rattle.state.specs.Laws.{sizes_trans}
use Rattle.state.specs.Steps.{sizes_under, blocks_alike, blocks_abs, stack_under}
use Rattle.state.specs.Scoped.{tight}
use Rattle.texts.specs.Setters.{cleaned}
use Rattle.texts.specs.Included.{Included}

-- w is from before the partial
abbrev pub cleaned_up : World → World → World
cleaned_up w w' = over (cleaned w'.rc w.rc) w'

-- the newest partial is taken off the stack
rest_on : (ts : Bytes) (k h n : ℕ) (below : List (Option Bytes)) → 1 ≤ k → rest (text_on ts k h n below) ≡ below
rest_on ts zero h n below le = absurd (omega arith)
rest_on ts (suc zero) h n below le = refl
rest_on ts (suc (suc k)) h n below le = refl

size_on : (ts : Bytes) (k h n : ℕ) (below : List (Option Bytes)) → 1 ≤ k → (k ≡ 1 → n ≡ 0) → h + n ≤ length ts → text_size (peek_partial_block (text_on ts k h n below)) ≡ n
size_on ts zero h n below le z fits = absurd (omega arith)
size_on ts (suc zero) h n below le z fits = sym (z refl)
size_on ts (suc (suc k)) h n below le z fits = let e = length-drop h ts in length-take-le n (drop h ts) (omega (arith, e))

module _ (s b u : Bytes) (w w₅ w₆ : World) (r : Ready s b w) (h : Included s b w w₅) (g : Goes s b u w₅ w₆) where
  abbrev l : List Scope
  l = w₆.rc.scopes

  abbrev m : ℕ
  m = w.rc.used

  abbrev c : Scope
  c = front w₆

  abbrev hi : ℕ
  hi = w₆.rc.writer.high

  used_is : w₆.rc.used ≡ suc m
  used_is = g.used ∙ h.used

  under : (i : ℕ) → i < m → get_or l i blank ≡ get_or w.rc.scopes i blank
  under i lt = g.beneath i (omega (arith, h.used)) ∙ h.beneath i lt

  newest : front (cleaned_up w w₆) ≡ front w
  newest = refl

  block_is : c.block ≡ (front w₅).block
  block_is = ap (λ (x : Scope). x.block) g.newest

  text_is : c.text ≡ (front w₅).text
  text_is = ap (λ (x : Scope). x.text) g.newest

  agree : Agree w.ent w₆.ent (top w)
  agree = record { same = λ i lt. h.agree.same i lt ∙ g.agree.same i (omega (arith, h.above)) }

  indent_is : take w.rc.writer.indent w₆.indent ≡ take w.rc.writer.indent w.indent
  indent_is =
      let i : ℕ = w.rc.writer.indent in
      let j : ℕ = w₅.rc.writer.indent in
      sym (take-take i j w₆.indent h.longer) ∙ ap (take i) g.indent ∙ take-take i j w₅.indent h.longer ∙ h.indent

  -- the finished texts from before lie behind the partial's own
  high_is : hi + c.text ≡ w.rc.writer.high
  high_is = ap₂ (λ (x y : ℕ). x + y) g.grows.high text_is ∙ h.high

  sizes_is : sizes_of l m ≡ sizes_of w.rc.scopes m
  sizes_is = sizes_under w.rc.scopes l m under

  all_fit : hi + c.text ≤ length w₆.texts
  all_fit = let x = h.sizes.texts in let y = g.sizes.texts in omega (arith, high_is, x, y, r.sound.high_fits)

  top_is : stack_of w₆.texts l w₆.rc.used hi ≡ text_on w₆.texts c.block hi c.text (stack_of w₆.texts l m w.rc.writer.high)
  top_is =
      let e : m ≡ w₆.rc.used - 1 = omega (arith, used_is) in
      let f : w₆.rc.used ≡ suc (w₆.rc.used - 1) = omega (arith, used_is) in
      ap (λ (i : ℕ). stack_of w₆.texts l i hi) f
      ∙ ap₂ (λ (i j : ℕ). text_on w₆.texts c.block hi c.text (stack_of w₆.texts l i j)) (sym e) high_is

  settled : 1 ≤ c.block
  settled = let x = block_is in omega (arith, x, h.settled)

  stack_is : rest (stack_of w₆.texts l w₆.rc.used hi) ≡ stack_of w₆.texts l m w.rc.writer.high
  stack_is = ap rest top_is ∙ rest_on w₆.texts c.block hi c.text (stack_of w₆.texts l m w.rc.writer.high) settled

  size_is : text_size (peek_partial_block (stack_of w₆.texts l w₆.rc.used hi)) ≡ c.text
  size_is =
      ap (λ (x : List (Option Bytes)). text_size (peek_partial_block x)) top_is
      ∙ size_on w₆.texts c.block hi c.text (stack_of w₆.texts l m w.rc.writer.high) settled (λ z. text_is ∙ h.without (sym block_is ∙ z)) all_fit

  pub abs_cleanup : cleanup (abs s b w).seen.current_template (abs s b w).kept.indent_string (abs s b w₆) ≡ abs s b (cleaned_up w w₆)
  unfolding abs
  abs_cleanup =
      let a = abs s b w₆ in
      let e : w₆.rc.used - 1 ≡ m = omega (arith, used_is, r.one) in
      let f : m ≡ suc (m - 1) = omega (arith, r.one) in
      let k : List Scope = w.rc.scopes in
      let beneath : blocks_of s b w₆.ent l (w₆.rc.used - 1) ≡ blocks_of s b w₆.ent k (suc (m - 1)) = ap (blocks_of s b w₆.ent l) e ∙ blocks_alike s b w₆.ent k l m under ∙ ap (blocks_of s b w₆.ent k) f in
      let stack = stack_is ∙ stack_under w₆.texts k l m w.rc.writer.high under in
      let room : hi - w₆.rc.writer.low + text_size (peek_partial_block (stack_of w₆.texts l w₆.rc.used hi)) ≡ w.rc.writer.high - w₆.rc.writer.low =
      omega (arith, size_is, high_is, g.ready.sound.low_fits) in
      let made : List Block → List (Option Bytes) → ℕ → Option Bytes → rules.RenderContext = λ q t x i. record {
        kept = record { block = first_context (context_of s b w₆.ent c) q; blocks_beneath = rest q; partial_block_stack = t; indent_string = i; disable_escape = a.kept.disable_escape; out = a.kept.out };
        seen = record { block_partials = first_partials a.seen.block_partials q; current_template = (abs s b w).seen.current_template; marks = a.seen.marks; room = record { page_room = a.seen.room.page_room; texts_room = x } };
      } in
      ap₂ (λ (q : List Block) (t : List (Option Bytes)). made q t (a.seen.room.texts_room + text_size (peek_partial_block a.kept.partial_block_stack)) (abs s b w).kept.indent_string) beneath stack
      ∙ ap₂ (made (blocks_of s b w₆.ent k (suc (m - 1))) (stack_of w₆.texts k m w.rc.writer.high)) room (ap (λ (x : Bytes). pick w.rc.writer.has_indent (some x) none) (sym indent_is))

  blocks_is : blocks (abs s b (cleaned_up w w₆)) ≡ blocks (abs s b w)
  blocks_is =
      blocks_abs s b (cleaned_up w w₆) r.one
      ∙ sym (blocks_kept s b w.ent w₆.ent w.rc.scopes m (top w) agree r.scopes)
      ∙ sym (blocks_abs s b w r.one)

  stand : ScopesStand s b w₆.ent w.rc.scopes m (top w)
  stand = let x = h.sizes.ent in let y = g.sizes.ent in scopes_kept s b w.ent w₆.ent w.rc.scopes m (top w) agree r.scopes (omega (arith, x, y, r.scopes.entries))

  sound : Sound (outputs_of (cleaned_up w w₆))
  sound = record { goes = g.ready.sound.goes; written_fits = g.ready.sound.written_fits; low_fits = omega (arith, g.ready.sound.low_fits, high_is); high_fits = omega (arith, high_is, all_fit) }

  grown : Grows u (outputs_of w) (outputs_of (cleaned_up w w₆))
  grown =
      let low : w₅.rc.writer.low ≡ w.rc.writer.low = h.held.low in
      let t : ℕ = (front w₅).text in
      let k : ℕ = w₅.rc.writer.high in
      let behind : drop (k + t) w₆.texts ≡ drop (k + t) w₅.texts = sym (drop-drop t k w₆.texts) ∙ ap (drop t) g.grows.finished ∙ drop-drop t k w₅.texts in
      record {
        sound = sound;
        text = λ i le. g.grows.text i (omega (arith, low)) ∙ ap (λ (x : Bytes). x ++ u) (h.held.text i le);
        low = omega (arith, low, g.grows.low);
        high = refl;
        out = g.grows.out ∙ h.held.out;
        has_indent = refl;
        indent = refl;
        beneath = subst (λ (i : ℕ). take i w₆.texts ≡ take i w₅.texts) low g.grows.beneath ∙ h.held.beneath;
        finished = subst (λ (i : ℕ). drop i w₆.texts ≡ drop i w₅.texts) h.high behind ∙ h.held.finished;
        page = λ e. let x = g.grows.page (h.held.out ∙ e) in (x.0 ∙ (h.held.page e).0, x.1 ∙ (h.held.page e).1);
        still = λ e. g.grows.still (h.held.out ∙ e) ∙ low;
      }

  pub goes_cleanup : Goes s b u w (cleaned_up w w₆)
  goes_cleanup =
      let q = g.ready in
      let z : Sizes w w₆ = sizes_trans w w₅ w₆ h.sizes g.sizes in
      record {
        ready = record {
          sized = r.sized;
          one = r.one;
          most = r.most;
          fine = q.fine;
          nowhere = q.nowhere;
          nameless = q.nameless;
          sound = sound;
          scopes = stand;
          covered = covered_kept s b w.ent w₆.ent w.rc.names w.rc.scopes m (top w) agree r.scopes r.covered;
          total = r.total ∙ ap entries_in (sym blocks_is);
          few = r.few;
          enough = r.enough;
          table = q.table;
          texts = let x = z.texts in omega (arith, x, r.texts);
          high = r.high;
          indent = r.indent;
          absent = r.absent;
          buffer = q.buffer;
          template = r.template;
        };
        used = refl;
        beneath = λ i lt. refl;
        newest = refl;
        agree = record { same = λ i lt. agree.same i (omega arith) };
        grows = grown;
        indent = indent_is;
        sizes = record { page = z.page; texts = z.texts; indent = z.indent; ent = z.ent };
      }

-- x is drawn inside the partial
pub draws_cleanup : (s b : Bytes) (w w₅ w₆ : World) (x : Res) → Ready s b w → Included s b w w₅ → Draws s b w₅ w₆ x → w₆.rc.bad ≡ None
    → Draws s b w (cleaned_up w w₆) (cleanup (abs s b w).seen.current_template (abs s b w).kept.indent_string after x)
unfolding ◌after◌
draws_cleanup s b w w₅ w₆ x r h d e =
    let y = d.fine e in
    let f : rules.RenderContext → rules.RenderContext = cleanup (abs s b w).seen.current_template (abs s b w).kept.indent_string in
    record {
      fine = λ z. record {
        text = y.text;
        is = ap (λ (q : Res). f after q) y.is ∙ ap (λ (c : rules.RenderContext). ok c y.text) (abs_cleanup s b y.text w w₅ w₆ r h y.goes);
        goes = goes_cleanup s b y.text w w₅ w₆ r h y.goes;
      };
      refused = λ z. absurd (z e);
    }

-- and refused; f is what would have come behind it
pub draws_cleanup_stop : (s b : Bytes) (w w₅ w₆ : World) (x : Res) (f : rules.RenderContext → rules.RenderContext) → Draws s b w₅ w₆ x → (w₆.rc.bad ≡ None → ⊥) → Draws s b w w₆ (f after x)
unfolding ◌after◌
draws_cleanup_stop s b w w₅ w₆ x f d n = record { fine = λ e. absurd (n e); refused = λ z. ap (λ (q : Res). f after q) (d.refused n) }
