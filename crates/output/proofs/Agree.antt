-- The writer and the rules: a write leaves both alike, and the text grows by what the rules say.
use mathlib.Core.Path.{◌≡◌, refl, sym, ap, subst, ◌∙◌}
use mathlib.Core.Bool.{Bool, true, false}
use mathlib.Core.List.{◌++◌}
use mathlib.Core.Option.{none, some}
use Prim.Native.Nat.{ℕ, ◌+◌, ◌-◌, ◌≤◌, ◌<◌, min}
use native.Mathlib.Nat.{min-eq_left}
use native.Mathlib.Omega.{arith}
use borrow.Author.Tests.{leb-true, leb-false, ltb-true, ltb-false}
use lib.Dec.{leb, ltb}
use lib.ListN.{length, take, drop}
use lib.Seq.{sets, slice, length-sets}
use Rattle.rules.specs.Bytes.{Bytes, pick}
use Rattle.rules.specs.State.{Out, Marks, Room, RenderContext, set_marks, set_room, ok, fail, choose}
use Rattle.rules.specs.Output.{left, less, full, write}
use Rattle.output.specs.Writer.{Output, over, stored, filled, room, all_put}
use Rattle.output.specs.Outputs.{Outputs, outputs, in_force, on, out_of, room_of, Says, Sound, said, answer, Grown}
use Rattle.output.proofs.Texts.{drop_sets, take_sets, take_behind, slice_behind}
use Rattle.output.proofs.Written.{all_put_fits, all_put_over}

-- the room

left_by : (b : Bool) (h l m : ℕ) (p t : Bytes) → h ≤ length t → left (pick b Out.block_text Out.page) (record { page_room = length p - m; texts_room = h - l }) ≡ pick b (min h (length (pick b t p))) (length (pick b t p)) - pick b l m
left_by true h l m p t g = rw (min-eq_left g)
left_by false h l m p t g = refl

left_room : (o : Outputs) → Sound o → left (out_of o.writer) (room_of o) ≡ room (in_force o)
left_room o g = left_by o.writer.block_text o.writer.high o.writer.low o.writer.written o.page o.texts g.high_fits

less_by : (b : Bool) (h l m : ℕ) (p t v : Bytes) → less (pick b Out.block_text Out.page) (length v) (record { page_room = length p - m; texts_room = h - l }) ≡ record { page_room = length (pick b p (sets (pick b t p) (pick b l m) v)) - pick b m (m + length v); texts_room = h - pick b (l + length v) l }
less_by true h l m p t v = let e : h - l - length v ≡ h - (l + length v) = omega arith in rw e
less_by false h l m p t v = let e : length p - m - length v ≡ length p - (m + length v) = omega arith in rw (length-sets p m v, e)

less_room : (v : Bytes) (o : Outputs) → less (out_of o.writer) (length v) (room_of o) ≡ room_of (on (stored v) o)
less_room v o = less_by o.writer.block_text o.writer.high o.writer.low o.writer.written o.page o.texts v

-- one thing done to the output in force, or another that does the same
on_same : (f g : Output → Output) (o : Outputs) → f (in_force o) ≡ g (in_force o) → on f o ≡ on g o
on_same f g o e = ap (λ (x : Output). outputs x.writer (pick o.writer.block_text o.page x.out) (pick o.writer.block_text x.out o.texts)) e

same_page : (b : Bool) (p t : Bytes) → pick b p (pick b t p) ≡ p
same_page true p t = refl
same_page false p t = refl

same_texts : (b : Bool) (p t : Bytes) → pick b (pick b t p) t ≡ t
same_texts true p t = refl
same_texts false p t = refl

pub on_nothing : (o : Outputs) → on (λ u. u) o ≡ o
on_nothing o =
    let b = o.writer.block_text in
    ap (λ (p : Bytes). outputs o.writer p (pick b (pick b o.texts o.page) o.texts)) (same_page b o.page o.texts) ∙ ap (outputs o.writer o.page) (same_texts b o.page o.texts)

-- `write`

module _ (i v : Bytes) (o : Outputs) (s : RenderContext) (g : Sound o) (a : Says i o s) where
  there : left s.kept.out s.seen.room ≡ room (in_force o)
  there = ap (λ (x : Out). left x s.seen.room) a.out ∙ ap (left (out_of o.writer)) a.room ∙ left_room o g

  said_stored : set_room (less s.kept.out (length v) s.seen.room) s ≡ said (on (stored v) o) s
  said_stored =
      let r : less s.kept.out (length v) s.seen.room ≡ room_of (on (stored v) o) = ap (λ (x : Out). less x (length v) s.seen.room) a.out ∙ ap (less (out_of o.writer) (length v)) a.room ∙ less_room v o in
      ap (λ (x : Room). set_room x s) r ∙ ap (λ (m : Marks). set_room (room_of (on (stored v) o)) (set_marks m s)) a.marks

  by_left : (b : Bool) → leb (length v) (left s.kept.out s.seen.room) ≡ b → choose b (λ _. ok (set_room (less s.kept.out (length v) s.seen.room) s) v) (λ _. fail (full s.kept.out)) ≡ answer (on (all_put v) o) v s
  unfolding choose
  by_left true e =
      let h : length v ≤ room (in_force o) = rw there at (leb-true (length v) (left s.kept.out s.seen.room) e) in
      ap (λ (c : RenderContext). ok c v) said_stored
      ∙ ap (λ (b : Bool). choose b (λ _. fail (full (out_of o.writer))) (λ _. ok (said (on (stored v) o) s) v)) (sym g.goes)
      ∙ ap (λ (u : Outputs). answer u v s) (on_same (stored v) (all_put v) o (sym (all_put_fits v (in_force o) h)))
  by_left false e =
      let h : room (in_force o) < length v = rw there at (leb-false (length v) (left s.kept.out s.seen.room) e) in
      ap (λ (x : Out). fail (full x)) a.out
      ∙ ap (λ (u : Outputs). answer u v s) (on_same (λ u. over filled (stored (take (room u) v) u)) (all_put v) o (sym (all_put_over v (in_force o) h)))

  pub write_is : write v s ≡ answer (on (all_put v) o) v s
  unfolding write
  write_is = by_left (leb (length v) (left s.kept.out s.seen.room)) refl

pub said_same : (i : Bytes) (o : Outputs) (s : RenderContext) → Says i o s → s ≡ said o s
said_same i o s a = ap (λ (r : Room). set_room r s) a.room ∙ ap (λ (m : Marks). set_room (room_of o) (set_marks m s)) a.marks

-- a write that fits: the text grows

module _ (v p t : Bytes) (m l h : ℕ) (mp : m ≤ length p) (lh : l ≤ h) (ht : h ≤ length t) where
  in_page : (b : Bool) → length v ≤ pick b (min h (length (pick b t p))) (length (pick b t p)) - pick b l m → pick b m (m + length v) ≤ length (pick b p (sets (pick b t p) (pick b l m) v))
  in_page true f = mp
  in_page false f = rw (length-sets p m v) (omega arith)

  in_low : (b : Bool) → length v ≤ pick b (min h (length (pick b t p))) (length (pick b t p)) - pick b l m → pick b (l + length v) l ≤ h
  in_low true f = omega arith
  in_low false f = lh

  in_texts : (b : Bool) → h ≤ length (pick b (sets (pick b t p) (pick b l m) v) t)
  in_texts true = rw (length-sets t l v) ht
  in_texts false = ht

  text_grows : (b : Bool) → length v ≤ pick b (min h (length (pick b t p))) (length (pick b t p)) - pick b l m → (k : ℕ) → k ≤ l → pick b (slice k (pick b (l + length v) l) (pick b (sets (pick b t p) (pick b l m) v) t)) (take (pick b m (m + length v)) (pick b p (sets (pick b t p) (pick b l m) v))) ≡ pick b (slice k l t) (take m p) ++ v
  text_grows true f k kl = slice_behind v t l k kl (omega arith)
  text_grows false f k kl = take_behind v p m (omega arith)

  beneath_stays : (b : Bool) → take l (pick b (sets (pick b t p) (pick b l m) v) t) ≡ take l t
  beneath_stays true = take_sets v t l l (omega arith)
  beneath_stays false = refl

  finished_stays : (b : Bool) → length v ≤ pick b (min h (length (pick b t p))) (length (pick b t p)) - pick b l m → drop h (pick b (sets (pick b t p) (pick b l m) v) t) ≡ drop h t
  finished_stays true f = drop_sets v t l h (omega arith)
  finished_stays false f = refl

page_stays : (b : Bool) (n m : ℕ) (p x : Bytes) → b ≡ true → (pick b m (m + n) ≡ m) × (pick b p x ≡ p)
page_stays true n m p x e = (refl, refl)
page_stays false n m p x e = let z : ◌≡◌ {A = ℕ} 0 1 = cc in absurd (omega arith)

texts_stay : (b : Bool) (n l : ℕ) (t x : Bytes) → b ≡ false → (pick b (l + n) l ≡ l) × (pick b x t ≡ t)
texts_stay true n l t x e = let z : ◌≡◌ {A = ℕ} 0 1 = cc in absurd (omega arith)
texts_stay false n l t x e = (refl, refl)

stored_grown : (v : Bytes) (o : Outputs) → Sound o → length v ≤ room (in_force o) → Grown v o (on (stored v) o)
stored_grown v o g f =
    let w = o.writer in
    let b = w.block_text in
    let x = sets (pick b o.texts o.page) (pick b w.low w.written) v in
    record {
      sound = record {
        goes = g.goes;
        written_fits = in_page v o.page o.texts w.written w.low w.high g.written_fits g.low_fits g.high_fits b f;
        low_fits = in_low v o.page o.texts w.written w.low w.high g.written_fits g.low_fits g.high_fits b f;
        high_fits = in_texts v o.page o.texts w.written w.low w.high g.written_fits g.low_fits g.high_fits b;
      };
      text = text_grows v o.page o.texts w.written w.low w.high g.written_fits g.low_fits g.high_fits b f;
      high = refl;
      out = refl;
      has_indent = refl;
      indent = refl;
      beneath = beneath_stays v o.page o.texts w.written w.low w.high g.written_fits g.low_fits g.high_fits b;
      finished = finished_stays v o.page o.texts w.written w.low w.high g.written_fits g.low_fits g.high_fits b f;
      page = page_stays b (length v) w.written o.page x;
      texts = texts_stay b (length v) w.low o.texts x;
    }

full_if_over : (v : Bytes) (o : Output) → (all_put v o).writer.full ≡ false → room o < length v → ⊥
full_if_over v o e h = let z : true ≡ false = sym (ap (λ (u : Output). u.writer.full) (all_put_over v o h)) ∙ e in let n : ◌≡◌ {A = ℕ} 0 1 = cc in omega arith

grown_by : (b : Bool) (v : Bytes) (o : Outputs) → ltb (room (in_force o)) (length v) ≡ b → Sound o → (on (all_put v) o).writer.full ≡ false → Grown v o (on (all_put v) o)
grown_by true v o e g n = absurd (full_if_over v (in_force o) n (ltb-true (room (in_force o)) (length v) e))
grown_by false v o e g n =
    let f = ltb-false (room (in_force o)) (length v) e in
    subst (Grown v o) (on_same (stored v) (all_put v) o (sym (all_put_fits v (in_force o) f))) (stored_grown v o g f)

pub write_grown : (v : Bytes) (o : Outputs) → Sound o → (on (all_put v) o).writer.full ≡ false → Grown v o (on (all_put v) o)
write_grown v o = grown_by (ltb (room (in_force o)) (length v)) v o refl

-- the writer goes on to say what the state has
pub says_grown : (i v : Bytes) (o u : Outputs) (s : RenderContext) → Says i o s → Grown v o u → Says i u (said u s)
says_grown i v o u s a g =
    record {
      marks = refl;
      indent = a.indent ∙ ap (λ (b : Bool). pick b (some (take o.writer.indent i)) none) (sym g.has_indent) ∙ ap (λ (n : ℕ). pick u.writer.has_indent (some (take n i)) none) (sym g.indent);
      out = a.out ∙ ap (λ (b : Bool). pick b Out.block_text Out.page) (sym g.out);
      room = refl;
    }
