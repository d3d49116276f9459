-- The block text of a partial is drawn and finished, or there is none; and its indent is set.
use Prim.Native.Nat.{ℕ, suc, ◌+◌, ◌-◌, ◌≤◌}
use Rattle.std.specs.Prelude.{Bool, false, ◌≡◌, length, take, drop}
use mathlib.Core.List.{List, [], ◌∷◌, ◌++◌}
use Rattle.std.proofs.Math.Option.{Option, none, some}
use Rattle.std.proofs.Math.Path.{refl, sym, ap, ap₂}
use Rattle.std.proofs.Common.{◌∙◌, subst, arith}
use Rattle.std.proofs.Math.Seq.{slice, slice_empty, length-sets}
use Rattle.std.proofs.lemmas.List.Edits.{sets}
use Rattle.rules.specs.Bytes.{Bytes, pick}
use Rattle.rules.specs.Bits.{bits}
use Rattle.rules.specs.Bundle.{string}
use Rattle.rules.specs.State as rules
use Rattle.rules.specs.State.{block_text, set_out, set_indent_string, push_partial_block}
use Rattle.output.specs.declared.Writer.{Writer}
use Rattle.output.specs.Outputs.{outputs, Sound}
use Rattle.output.proofs.Texts.{moved_text, moved_finished, moved_beneath}
use Rattle.parts.specs.Holds.{Holds}
use Rattle.scope.specs.declared.Scope.{Scope}
use Rattle.state.specs.Setters.{with_template}
use Rattle.state.specs.World.{World, world, over, outputs_of, front, top, stack_of, sizes_of, abs, Ready, Sizes, Goes}
use Rattle.state.specs.Laws.{sizes_trans}
use Rattle.state.specs.Steps.{Within, text_plain, goes_template}
use Rattle.texts.specs.Setters.{with_texts, text_opened, text_place, text_closed, without_text, indented}
use Rattle.texts.specs.Included.{Held, Included, stack_behind, taken, so_far_text, held_none, given_under, given_front, abs_given, ready_given}

-- The worlds behind each step

abbrev pub text_begun : World → World
text_begun w = over (text_opened w.rc) w

-- w has the partial's scope, w' the text behind its low end
abbrev pub text_done : World → World → World
text_done w w' =
    let begin = w.rc.writer.low in
    world (text_closed w'.rc begin w.rc.writer.block_text) w'.page (sets w'.texts (text_place w'.rc begin) (slice begin w'.rc.writer.low w'.texts)) w'.indent w'.ent

abbrev pub text_none : World → World
text_none w = over (without_text w.rc) w

-- with another buffer of the indent
abbrev pub indent_set : World → Bool → ℕ → Bytes → World
indent_set w has len i = world (indented w.rc has len) w.page w.texts i w.ent

-- The own body of the element is drawn into a text

module _ (s b : Bytes) (w : World) where
  pub abs_begun : abs s b (text_begun w) ≡ set_out block_text (abs s b w)
  unfolding abs
  abs_begun = refl

  pub ready_begun : Ready s b w → Ready s b (text_begun w)
  unfolding abs
  ready_begun r =
      let sound : Sound (outputs_of (text_begun w)) = record { goes = r.sound.goes; written_fits = r.sound.written_fits; low_fits = r.sound.low_fits; high_fits = r.sound.high_fits } in
      record { sized = r.sized; one = r.one; most = r.most; fine = r.fine; nowhere = r.nowhere; nameless = r.nameless; sound = sound; scopes = r.scopes; covered = r.covered; total = r.total; few = r.few; enough = r.enough; table = r.table; texts = r.texts; high = r.high; indent = r.indent; absent = r.absent; buffer = r.buffer; template = r.template }

-- the stack beneath a scope that has no text yet
plain_stack : (s b : Bytes) (w : World) → 1 ≤ w.rc.used → (front w).block ≡ 0 → (front w).text ≡ 0
    → stack_of w.texts w.rc.scopes w.rc.used w.rc.writer.high ≡ stack_of w.texts w.rc.scopes (w.rc.used - 1) w.rc.writer.high
plain_stack s b w le nb nt =
    let e : w.rc.used ≡ suc (w.rc.used - 1) = omega arith in
    ap (λ (k : ℕ). stack_of w.texts w.rc.scopes k w.rc.writer.high) e
    ∙ text_plain w.texts w.rc.scopes (w.rc.used - 1) w.rc.writer.high (front w).block (front w).text nb nt

plain_sizes : (w : World) → 1 ≤ w.rc.used → (front w).text ≡ 0 → sizes_of w.rc.scopes (w.rc.used - 1) ≡ sizes_of w.rc.scopes w.rc.used
plain_sizes w le nt =
    let e : w.rc.used ≡ suc (w.rc.used - 1) = omega arith in
    let m : ℕ = sizes_of w.rc.scopes (w.rc.used - 1) in
    let z : m ≡ (front w).text + m = omega (arith, nt) in
    z ∙ ap (sizes_of w.rc.scopes) (sym e)

-- The text is finished

module _ (s b v : Bytes) (w w₁ w₃ : World) (h : Within s b [] w w₁) (no_block : (front w₁).block ≡ 0) (no_text : (front w₁).text ≡ 0) (g : Goes s b v (text_begun w₁) w₃) where
  abbrev begin : ℕ
  begin = w₁.rc.writer.low

  abbrev n : ℕ
  n = w₃.rc.writer.low - begin

  abbrev place : ℕ
  place = text_place w₃.rc begin

  abbrev ts : Bytes
  ts = sets w₃.texts place (slice begin w₃.rc.writer.low w₃.texts)

  abbrev q : Writer
  q = with_texts w₃.rc.writer begin place w₁.rc.writer.block_text

  r₃ : Ready s b w₃
  r₃ = g.ready

  bl : begin ≤ w₃.rc.writer.low
  bl = g.grows.low

  lh : w₃.rc.writer.low ≤ w₃.rc.writer.high
  lh = r₃.sound.low_fits

  ht : w₃.rc.writer.high ≤ length w₃.texts
  ht = r₃.sound.high_fits

  nb : (front w₃).block ≡ 0
  nb = ap (λ (c : Scope). c.block) g.newest ∙ no_block

  nt : (front w₃).text ≡ 0
  nt = ap (λ (c : Scope). c.text) g.newest ∙ no_text

  ts_length : length ts ≡ length w₃.texts
  ts_length = length-sets w₃.texts place (slice begin w₃.rc.writer.low w₃.texts)

  end : place + n ≡ w₃.rc.writer.high
  end = omega (arith, bl, lh)

  sound : Sound (outputs q w₃.page ts)
  sound = record { goes = r₃.sound.goes; written_fits = r₃.sound.written_fits; low_fits = omega (arith, bl, lh); high_fits = omega (arith, ts_length, ht) }

  fits : place + (n + sizes_of w₃.rc.scopes (w₃.rc.used - 1)) ≤ length ts
  fits = let z = plain_sizes w₃ r₃.one nt in omega (arith, end, z, r₃.texts, ts_length)

  drawn : slice begin w₃.rc.writer.low w₃.texts ≡ v
  drawn =
      sym (so_far_text begin (outputs_of w₃) g.grows.out) ∙ g.grows.text begin (omega arith) ∙ ap (λ (x : Bytes). x ++ v) (slice_empty begin w₁.texts)

  text_is : take n (drop place ts) ≡ v
  text_is =
      taken ts place n (omega (arith, end, ts_length, ht))
      ∙ ap (λ (k : ℕ). slice place k ts) end
      ∙ moved_text w₃.texts begin w₃.rc.writer.low w₃.rc.writer.high bl lh ht
      ∙ drawn

  behind : drop w₃.rc.writer.high ts ≡ drop w₃.rc.writer.high w₃.texts
  behind = moved_finished w₃.texts begin w₃.rc.writer.low w₃.rc.writer.high bl lh ht

  stack_done : stack_of ts w₃.rc.scopes (w₃.rc.used - 1) (place + n) ≡ stack_of w₃.texts w₃.rc.scopes w₃.rc.used w₃.rc.writer.high
  stack_done =
      ap (stack_of ts w₃.rc.scopes (w₃.rc.used - 1)) end
      ∙ stack_behind w₃.texts ts w₃.rc.scopes (w₃.rc.used - 1) w₃.rc.writer.high behind
      ∙ sym (plain_stack s b w₃ r₃.one nb nt)

  pub ready_done : Ready s b (text_done w₁ w₃)
  ready_done = ready_given s b w₃ r₃ 2 n q ts sound fits refl refl (omega (arith, r₃.high))

  pub abs_done : abs s b (text_done w₁ w₃) ≡ push_partial_block (some v) (set_out (abs s b w₁).kept.out (abs s b w₃))
  unfolding abs
  abs_done =
      let room : place - begin ≡ w₃.rc.writer.high - w₃.rc.writer.low = omega (arith, bl, lh) in
      let u = abs s b w₃ in
      let made : List (Option Bytes) → ℕ → rules.RenderContext = λ l m. record {
        kept = record { block = u.kept.block; blocks_beneath = u.kept.blocks_beneath; partial_block_stack = l; indent_string = u.kept.indent_string; disable_escape = u.kept.disable_escape; out = (abs s b w₁).kept.out };
        seen = record { block_partials = u.seen.block_partials; current_template = u.seen.current_template; marks = u.seen.marks; room = record { page_room = u.seen.room.page_room; texts_room = m } };
      } in
      abs_given s b w₃ r₃ 2 n q ts sound fits refl refl
      ∙ ap₂ (λ (x : Bytes) (l : List (Option Bytes)). made (some x ∷ l) (place - begin)) text_is stack_done
      ∙ ap (made (some v ∷ u.kept.partial_block_stack)) room

  pub included_text : Included s b w (text_done w₁ w₃)
  included_text =
      let fr : front (text_done w₁ w₃) ≡ _ = given_front s b w₃ r₃ 2 n q ts sound fits refl refl in
      let same-high : w₃.rc.writer.high ≡ w.rc.writer.high = g.grows.high ∙ h.grows.high in
      let base : Held (outputs_of w) (outputs_of w₁) = held_none (outputs_of w) (outputs_of w₁) h.grows in
      let beneath : take begin ts ≡ take begin w₁.texts = moved_beneath w₃.texts begin w₃.rc.writer.low w₃.rc.writer.high bl lh ht ∙ g.grows.beneath in
      let still = g.grows.page refl in
      let inline : (front w₃).inline ≡ (front w₁).inline = ap (λ (c : Scope). c.inline) g.newest in
      record {
        ready = ready_done;
        used = g.used ∙ h.used;
        beneath = λ i lt. given_under s b w₃ r₃ 2 n q ts sound fits refl refl i (omega (arith, g.used, h.used)) ∙ g.beneath i (omega (arith, h.used)) ∙ h.beneath i lt;
        above = subst (λ (x : Scope). top w ≤ x.inline) (sym fr) (omega (arith, inline, h.above));
        agree = record { same = λ i lt. h.agree.same i lt ∙ g.agree.same i (omega (arith, h.above)) };
        held = record {
          text = λ k le. ap₂ (λ (x y : Bytes). pick w₁.rc.writer.block_text (drop k x) y) beneath (ap₂ take still.0 still.1) ∙ base.text k le;
          low = base.low;
          out = base.out;
          beneath = subst (λ (k : ℕ). take k ts ≡ take k w₁.texts) base.low beneath ∙ base.beneath;
          finished = subst (λ (k : ℕ). drop k ts ≡ drop k w₃.texts) same-high behind ∙ subst (λ (k : ℕ). drop k w₃.texts ≡ drop k w₁.texts) h.grows.high g.grows.finished ∙ base.finished;
          page = λ y. (still.0 ∙ (base.page y).0, still.1 ∙ (base.page y).1);
        };
        settled = subst (λ (x : Scope). 1 ≤ x.block) (sym fr) (omega arith);
        without = λ z. absurd (omega (arith, sym (ap (λ (x : Scope). x.block) fr) ∙ z));
        high = ap (λ (x : Scope). place + x.text) fr ∙ end ∙ same-high;
        indent = subst (λ (k : ℕ). take k w₃.indent ≡ take k w₁.indent) h.grows.indent g.indent ∙ h.indent;
        longer = let x = g.grows.indent in let y = h.grows.indent in omega (arith, x, y);
        sizes = let z : Sizes w w₃ = sizes_trans w w₁ w₃ h.sizes (record { page = g.sizes.page; texts = g.sizes.texts; indent = g.sizes.indent; ent = g.sizes.ent }) in record { page = z.page; texts = ts_length ∙ z.texts; indent = z.indent; ent = z.ent };
      }

-- There is no text

module _ (s b : Bytes) (w w₁ : World) (h : Within s b [] w w₁) (no_block : (front w₁).block ≡ 0) (no_text : (front w₁).text ≡ 0) where
  r₁ : Ready s b w₁
  r₁ = h.ready

  none_fits : w₁.rc.writer.high + ((front w₁).text + sizes_of w₁.rc.scopes (w₁.rc.used - 1)) ≤ length w₁.texts
  none_fits = let z = plain_sizes w₁ r₁.one no_text in omega (arith, z, no_text, r₁.texts)

  pub ready_none : Ready s b (text_none w₁)
  ready_none = ready_given s b w₁ r₁ 1 (front w₁).text w₁.rc.writer w₁.texts r₁.sound none_fits refl refl r₁.high

  pub abs_none : abs s b (text_none w₁) ≡ push_partial_block none (abs s b w₁)
  unfolding abs
  abs_none =
      let z : w₁.rc.writer.high + (front w₁).text ≡ w₁.rc.writer.high = omega (arith, no_text) in
      abs_given s b w₁ r₁ 1 (front w₁).text w₁.rc.writer w₁.texts r₁.sound none_fits refl refl
      ∙ ap (λ (l : List (Option Bytes)). push_partial_block none (rules.over (rules.with_stack l) (abs s b w₁)))
      (ap (stack_of w₁.texts w₁.rc.scopes (w₁.rc.used - 1)) z ∙ sym (plain_stack s b w₁ r₁.one no_block no_text))

  pub included_none : Included s b w (text_none w₁)
  included_none =
      let fr : front (text_none w₁) ≡ _ = given_front s b w₁ r₁ 1 (front w₁).text w₁.rc.writer w₁.texts r₁.sound none_fits refl refl in
      let base : Held (outputs_of w) (outputs_of w₁) = held_none (outputs_of w) (outputs_of w₁) h.grows in
      record {
        ready = ready_none;
        used = h.used;
        beneath = λ i lt. given_under s b w₁ r₁ 1 (front w₁).text w₁.rc.writer w₁.texts r₁.sound none_fits refl refl i (omega (arith, h.used)) ∙ h.beneath i lt;
        above = subst (λ (x : Scope). top w ≤ x.inline) (sym fr) h.above;
        agree = h.agree;
        held = base;
        settled = subst (λ (x : Scope). 1 ≤ x.block) (sym fr) (omega arith);
        without = λ z. ap (λ (x : Scope). x.text) fr ∙ no_text;
        high = ap (λ (x : Scope). w₁.rc.writer.high + x.text) fr ∙ (let z : w₁.rc.writer.high + (front w₁).text ≡ w₁.rc.writer.high = omega (arith, no_text) in z) ∙ h.grows.high;
        indent = h.indent;
        longer = let y = h.grows.indent in omega (arith, y);
        sizes = record { page = h.sizes.page; texts = h.sizes.texts; indent = h.sizes.indent; ent = h.sizes.ent };
      }

-- The indent: its buffer i' is another behind the indent of w

module _ (s b : Bytes) (w₄ : World) (has : Bool) (len : ℕ) (i' : Bytes) where
  pub abs_indent : abs s b (indent_set w₄ has len i') ≡ set_indent_string (pick has (some (take len i')) none) (abs s b w₄)
  unfolding abs
  abs_indent = refl

  pub included_indent : (w : World) → Included s b w w₄ → len ≤ 256 → (has ≡ false → len ≡ 0) → w.rc.writer.indent ≤ len → length i' ≡ length w₄.indent → take w.rc.writer.indent i' ≡ take w.rc.writer.indent w₄.indent
      → Included s b w (indent_set w₄ has len i')
  unfolding abs
  included_indent w h few absent longer same_length same-front =
      let r = h.ready in
      let sound : Sound (outputs_of (indent_set w₄ has len i')) = record { goes = r.sound.goes; written_fits = r.sound.written_fits; low_fits = r.sound.low_fits; high_fits = r.sound.high_fits } in
      record {
        ready = record { sized = r.sized; one = r.one; most = r.most; fine = r.fine; nowhere = r.nowhere; nameless = r.nameless; sound = sound; scopes = r.scopes; covered = r.covered; total = r.total; few = r.few; enough = r.enough; table = r.table; texts = r.texts; high = r.high; indent = few; absent = absent; buffer = rw same_length r.buffer; template = r.template };
        used = h.used;
        beneath = h.beneath;
        above = h.above;
        agree = h.agree;
        held = record { text = h.held.text; low = h.held.low; out = h.held.out; beneath = h.held.beneath; finished = h.held.finished; page = h.held.page };
        settled = h.settled;
        without = h.without;
        high = h.high;
        indent = same-front ∙ h.indent;
        longer = longer;
        sizes = record { page = h.sizes.page; texts = h.sizes.texts; indent = same_length ∙ h.sizes.indent; ent = h.sizes.ent };
      }

-- another template
pub included_template : (s b : Bytes) (w w₄ : World) (n : ℕ) → ((n ≡ 0 → ⊥) → Holds string (bits b) (n - 1)) → Included s b w w₄ → Included s b w (over (with_template w₄.rc n) w₄)
included_template s b w w₄ n st h = record {
  ready = (goes_template s b w₄ h.ready n st).ready;
  used = h.used;
  beneath = h.beneath;
  above = h.above;
  agree = h.agree;
  held = h.held;
  settled = h.settled;
  without = h.without;
  high = h.high;
  indent = h.indent;
  longer = h.longer;
  sizes = record { page = h.sizes.page; texts = h.sizes.texts; indent = h.sizes.indent; ent = h.sizes.ent };
}
