-- Laws of writes: the world goes on by the text that was written, and the rules draw the same.
use Rattle.std.specs.Prelude.{ℕ, zero, suc, ◌+◌, ◌-◌, ◌≤◌, Bool, not, List, [], ◌∷◌, ◌++◌, ◌≡◌, refl, ltb, length, get_or, take, drop, Some}
use Rattle.std.proofs.Math.Bool.{true, false}
use Rattle.std.proofs.Math.Option.{Option, none, some}
use Rattle.std.proofs.Common.{sym, ap₂, ◌∙◌, subst, arith, length-append, length-drop, drop-drop}
use Rattle.std.proofs.Math.Path.{ap}
use Rattle.std.proofs.Math.Seq.{slice, length-slice, length-sets}
use Rattle.rules.specs.Bytes.{Bytes, pick}
use Rattle.rules.specs.Json.{Json, jpos}
use Rattle.rules.specs.State as rules
use Rattle.rules.specs.State.{Out, entries, Res, ok, fail, choose}
use Rattle.rules.specs.Support.{escape_html}
use Rattle.rules.specs.Output.{full, write, do_escape, indent_aware_write}
use Rattle.output.specs.declared.Writer.{Writer}
use Rattle.output.specs.Writer.{Output, over, filled, stored, place_of, limit_of, put, all_put}
use Rattle.output.specs.Outputs as buffers
use Rattle.output.specs.Outputs.{Outputs, outputs, in_force, on, out_of, indent_of, Says, Sound, said, answer, Grown}
use Rattle.output.proofs.Agree.{write_is, write_grown}
use Rattle.support.specs.Feed.{begun, finished, all_emitted, escaped, fed_text, fed}
use Rattle.support.proofs.Agree.{fed_outputs, indent_aware_write_is, fed_grown}
use Rattle.value.specs.declared.Value.{Value}
use Rattle.value.specs.declared.Value.TheVariants.{Index}
use Rattle.meaning.specs.MeaningLaws.{plain_is}
use Rattle.meaning.specs.Means.{Means}
use Rattle.scope.specs.declared.Scope.{Scope}
use Rattle.scope.specs.Scopes.{blank}
use Rattle.state.specs.Context.{RenderContext}
use Rattle.state.specs.Setters.{failed, with_writer, wrote}
use Rattle.state.specs.World.{World, world, outputs_of, text_on, stack_of, abs, Ready, Grows, Goes, Draws}
use Rattle.state.specs.Laws.{draws_fail}
use Rattle.writing.specs.Writes.{Wrote}
use Rattle.error.specs.declared.RenderErrorReason.TheVariants.{BlockTextsLimit, PageLimit}
use Rattle.error.specs.Reasons.{refusal}

-- Growing

low_grows : (v : Bytes) (o o' : Outputs) → Sound o → Grown v o o' → (t : Bool) → o.writer.block_text ≡ t → o.writer.low ≤ o'.writer.low
low_grows v o o' k g true e =
    let e' : o'.writer.block_text ≡ true = g.out ∙ e in
    let h : slice 0 o'.writer.low o'.texts ≡ slice 0 o.writer.low o.texts ++ v = rw (e', e) at (g.text 0 (omega arith)) in
    let m = length-slice 0 o'.writer.low o'.texts (omega (arith, g.sound.low_fits, g.sound.high_fits)) in
    let n = length-slice 0 o.writer.low o.texts (omega (arith, k.low_fits, k.high_fits)) in
    let l = ap length h ∙ length-append (slice 0 o.writer.low o.texts) v in
    omega (arith, m, n, l)
low_grows v o o' k g false e = let l = (g.texts e).0 in omega (arith, l)

pub grows_grown : (v : Bytes) (o o' : Outputs) → Sound o → Grown v o o' → Grows v o o'
grows_grown v o o' k g = record {
  sound = g.sound;
  text = g.text;
  low = low_grows v o o' k g o.writer.block_text refl;
  high = g.high;
  out = g.out;
  has_indent = g.has_indent;
  indent = g.indent;
  beneath = g.beneath;
  finished = g.finished;
  page = g.page;
  still = λ e. (g.texts e).0;
}

-- the buffer of the block texts keeps its length
texts_size : (v : Bytes) (o o' : Outputs) → Sound o → Grown v o o' → length o'.texts ≡ length o.texts
texts_size v o o' k g =
    let h = o.writer.high in
    let e : length o'.texts - h ≡ length o.texts - h = sym (length-drop h o'.texts) ∙ ap length g.finished ∙ length-drop h o.texts in
    omega (arith, e, k.high_fits, g.sound.high_fits, g.high)

-- The rules' state

pub says_abs : (s b : Bytes) (w : World) → Says w.indent (outputs_of w) (abs s b w)
unfolding abs
says_abs s b w = record { marks = refl; indent = refl; out = refl; room = refl }

-- finished texts that are the same from h on
pub stack_same : (h : ℕ) (x y : Bytes) → drop h x ≡ drop h y → (l : List Scope) (n k : ℕ) → stack_of x l n (h + k) ≡ stack_of y l n (h + k)
stack_same h x y e l zero k = refl
stack_same h x y e l (suc n) k =
    let c = get_or l n blank in
    let d : drop (h + k) x ≡ drop (h + k) y = sym (drop-drop k h x) ∙ ap (drop k) e ∙ drop-drop k h y in
    let q : h + k + c.text ≡ h + (k + c.text) = omega arith in
    let below : stack_of x l n (h + k + c.text) ≡ stack_of y l n (h + k + c.text) =
    ap (stack_of x l n) q ∙ stack_same h x y e l n (k + c.text) ∙ ap (stack_of y l n) (sym q) in
    ap (text_on x c.block (h + k) c.text) below ∙ text_same c.block (h + k) c.text (stack_of y l n (h + k + c.text)) d
  where
    text_same : (i m j : ℕ) (r : List (Option Bytes)) → drop m x ≡ drop m y → text_on x i m j r ≡ text_on y i m j r
    text_same zero m j r d = refl
    text_same (suc zero) m j r d = refl
    text_same (suc (suc i)) m j r d = ap (λ (z : Bytes). some (take j z) ∷ r) d

-- a world with another writer and other outputs
abbrev pub with_outputs : World → Outputs → World
with_outputs w o = world (with_writer w.rc o.writer) o.page o.texts w.indent w.ent

pub abs_written : (s b v : Bytes) (w : World) (o : Outputs) → Grown v (outputs_of w) o → abs s b (with_outputs w o) ≡ said o (abs s b w)
unfolding abs
abs_written s b v w o g =
    let h = w.rc.writer.high in
    let z : h + 0 ≡ h = omega arith in
    let stack : stack_of o.texts w.rc.scopes w.rc.used o.writer.high ≡ stack_of w.texts w.rc.scopes w.rc.used h =
    ap (stack_of o.texts w.rc.scopes w.rc.used) (g.high ∙ sym z)
    ∙ stack_same h o.texts w.texts g.finished w.rc.scopes w.rc.used 0
    ∙ ap (stack_of w.texts w.rc.scopes w.rc.used) z in
    let indent : indent_of w.indent o.writer ≡ indent_of w.indent w.rc.writer =
    ap₂ (λ (t : Bool) (n : ℕ). pick t (some (take n w.indent)) none) g.has_indent g.indent in
    let out : out_of o.writer ≡ out_of w.rc.writer = ap (λ (t : Bool). pick t Out.block_text Out.page) g.out in
    rw (stack, indent, out)

-- Going on

pub ready_written : (s b v : Bytes) (w : World) (o : Outputs) → Ready s b w → Grown v (outputs_of w) o → Ready s b (with_outputs w o)
ready_written s b v w o r g = record {
  sized = r.sized;
  one = r.one;
  most = r.most;
  fine = r.fine;
  nowhere = r.nowhere;
  nameless = r.nameless;
  sound = g.sound;
  scopes = r.scopes;
  covered = r.covered;
  total = r.total ∙ sym (ap entries (abs_written s b v w o g));
  few = r.few;
  enough = r.enough;
  table = r.table;
  texts = rw (g.high, texts_size v (outputs_of w) o r.sound g) r.texts;
  high = rw g.high r.high;
  indent = rw g.indent r.indent;
  absent = λ e. g.indent ∙ r.absent (sym g.has_indent ∙ e);
  buffer = r.buffer;
  template = r.template;
}

pub goes_written : (s b v : Bytes) (w : World) (o : Outputs) → Ready s b w → Grown v (outputs_of w) o → length o.page ≡ length w.page → Goes s b v w (with_outputs w o)
goes_written s b v w o r g m = record {
  ready = ready_written s b v w o r g;
  used = refl;
  beneath = λ i lt. refl;
  newest = refl;
  agree = record { same = λ i lt. refl };
  grows = grows_grown v (outputs_of w) o r.sound g;
  indent = refl;
  sizes = record { page = m; texts = texts_size v (outputs_of w) o r.sound g; indent = refl; ent = refl };
}

-- Drawing

full_refusal : (t : Bool) → Some (pick t BlockTextsLimit PageLimit) ≡ refusal (full (pick t Out.block_text Out.page))
full_refusal true = refl
full_refusal false = refl

-- the world that a write leaves, refused or not
abbrev pub wrote_world : World → Outputs → World
wrote_world w o = world (wrote w.rc o.writer) o.page o.texts w.indent w.ent

module _ (s b v : Bytes) (w : World) (o : Outputs) (r : Ready s b w) (m : length o.page ≡ length w.page) where
  over_limit : RenderContext
  over_limit = failed (with_writer w.rc o.writer) (Some (pick o.writer.block_text BlockTextsLimit PageLimit))

  -- what is to be shown, where the writer is full or not
  Shown : Bool → Type 0
  Shown t = Draws s b w (world (pick t over_limit (with_writer w.rc o.writer)) o.page o.texts w.indent w.ent) (choose t (λ _. fail (full (out_of o.writer))) (λ _. ok (said o (abs s b w)) v))

  shown : (t : Bool) → (t ≡ false → Grown v (outputs_of w) o) → Shown t
  unfolding choose Shown over_limit
  shown true g = draws_fail s b w (world over_limit o.page o.texts w.indent w.ent) (full (out_of o.writer)) (full_refusal o.writer.block_text) r.nowhere r.nameless
  shown false g = record {
    fine = λ z. record { text = v; is = ap (λ (c : rules.RenderContext). ok c v) (sym (abs_written s b v w o (g refl))); goes = goes_written s b v w o r (g refl) m };
    refused = λ z. absurd (z r.fine);
  }

  draws_answer : (o.writer.full ≡ false → Grown v (outputs_of w) o) → Draws s b w (wrote_world w o) (answer o v (abs s b w))
  unfolding Shown over_limit
  draws_answer g = shown o.writer.full g

-- THE LAW: a write that leaves the rules' answer, and grows the text where it fits
pub draws_wrote : (s b v : Bytes) (w : World) (o : Outputs) (x : Res) → Ready s b w → x ≡ answer o v (abs s b w) → (o.writer.full ≡ false → Grown v (outputs_of w) o)
    → length o.page ≡ length w.page → Draws s b w (wrote_world w o) x
draws_wrote s b v w o x r e g m = subst (Draws s b w (wrote_world w o)) (sym e) (draws_answer s b v w o r m g)

-- By what the writer did

put_size : (c : ℕ) (o : Output) → length (put c o).out ≡ length o.out
unfolding put
put_size c o = by (ltb (place_of o.writer) (limit_of o.writer (length o.out)))
  where
    by : (t : Bool) → length (pick t (stored (c ∷ []) o) (over filled o)).out ≡ length o.out
    by true = length-sets o.out (place_of o.writer) (c ∷ [])
    by false = refl

all_put_size : (v : Bytes) (o : Output) → length (all_put v o).out ≡ length o.out
unfolding all_put
all_put_size [] o = refl
all_put_size (c ∷ v) o = all_put_size v (put c o) ∙ put_size c o

put_page : (v : Bytes) (o : Outputs) → length (on (all_put v) o).page ≡ length o.page
put_page v o = by o.writer.block_text (all_put v (in_force o)) (all_put_size v (in_force o))
  where
    by : (t : Bool) (x : Output) → length x.out ≡ length (pick t o.texts o.page) → length (pick t o.page x.out) ≡ length o.page
    by true x e = refl
    by false x e = e

fed_page : (i v : Bytes) (o : Outputs) → length (fed i v o).page ≡ length o.page
fed_page i v o = ap (λ (x : Outputs). length x.page) (fed_outputs i v o) ∙ put_page (fed_text i o.writer v) o

module _ (s b : Bytes) (w : World) (c : RenderContext) (p t : Bytes) (r : Ready s b w) where
  by_wrote : (o : Outputs) (x : Res) → Wrote w.rc c p t o → Draws s b w (wrote_world w o) x → Draws s b w (world c p t w.indent w.ent) x
  by_wrote o x h d =
      subst (λ (q : RenderContext). Draws s b w (world q p t w.indent w.ent) x) (sym h.context)
      (subst (λ (q : Bytes). Draws s b w (world (wrote w.rc o.writer) q t w.indent w.ent) x) (sym h.page)
      (subst (λ (q : Bytes). Draws s b w (world (wrote w.rc o.writer) o.page q w.indent w.ent) x) (sym h.texts) d))

  -- a text that was fed
  pub draws_fed : (v : Bytes) → Wrote w.rc c p t (fed w.indent v (outputs_of w)) → Draws s b w (world c p t w.indent w.ent) (indent_aware_write v (abs s b w))
  draws_fed v h =
      let i = w.indent in
      let o = outputs_of w in
      let x = indent_aware_write v (abs s b w) in
      by_wrote (fed i v o) x h
      (draws_wrote s b (fed_text i o.writer v) w (fed i v o) x r (indent_aware_write_is i v o (abs s b w) r.sound (says_abs s b w)) (fed_grown i v o r.sound) (fed_page i v o))

  -- one that was written plainly
  pub draws_put : (v : Bytes) → Wrote w.rc c p t (on (all_put v) (outputs_of w)) → Draws s b w (world c p t w.indent w.ent) (write v (abs s b w))
  draws_put v h =
      let o = outputs_of w in
      let x = write v (abs s b w) in
      by_wrote (on (all_put v) o) x h
      (draws_wrote s b v w (on (all_put v) o) x r (write_is w.indent v o (abs s b w) r.sound (says_abs s b w)) (write_grown v o r.sound) (put_page v o))

-- escaping
pub escape_is : (s b : Bytes) (w : World) (v : Bytes) → escaped (not w.rc.disable_escape) v ≡ do_escape (abs s b w) v
unfolding abs
escape_is s b w v = by w.rc.disable_escape
  where
    by : (t : Bool) → escaped (not t) v ≡ pick t v (escape_html v)
    by true = refl
    by false = refl

-- How a function comes to it

pub wrote_by : (c r : RenderContext) (u : Writer) (p t : Bytes) (o : Outputs) → outputs u p t ≡ o → r ≡ wrote c u → Wrote c r p t o
wrote_by c r u p t o e h = record { context = h ∙ ap (λ (x : Outputs). wrote c x.writer) e; page = ap (λ (x : Outputs). x.page) e; texts = ap (λ (x : Outputs). x.texts) e }

-- beginning, feeding, finishing
pub wrote_fed : (c r : RenderContext) (w q u : Writer) (i v p t p' t' : Bytes) → w ≡ begun c.writer → outputs q p' t' ≡ on (all_emitted i v) (outputs w p t) → u ≡ finished q → r ≡ wrote c u
    → Wrote c r p' t' (fed i v (outputs c.writer p t))
wrote_fed c r w q u i v p t p' t' begins feeds ends h =
    wrote_by c r u p' t' (fed i v (outputs c.writer p t))
    (ap (λ (x : Writer). outputs x p' t') ends ∙ ap (buffers.with_writer finished) (feeds ∙ ap (λ (x : Writer). on (all_emitted i v) (outputs x p t)) begins)) h

-- the number of a turn
pub index_means : (s b : Bytes) (v : Value) (n : ℕ) → v ≡ Index n → (P : Json → Type 0) → P (jpos n) → Means s b v P
index_means s b v n e P x = subst (λ (u : Value). Means s b u P) (sym e) (record { at = λ ent t st. subst P (sym (plain_is s b ent (Index n) refl)) x })
