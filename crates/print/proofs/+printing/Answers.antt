use Prim.Native.Nat.{◌*◌, ◌+◌, ◌-◌, ◌<◌, ℕ}
use Rattle.meaning.specs.Forms.{Formed}
use Rattle.meaning.specs.Meaning.{plain_json}
use Rattle.meaning.specs.Means.{means}
use Rattle.meaning.specs.declared.Form.TheVariants.{Boolean, List, Merged, Negative, Null, Object, String, Unsigned}
use Rattle.output.specs.Writer.{Output, output}
use Rattle.places.specs.Kinds.{found}
use Rattle.places.specs.Nodes.{short}
use Rattle.places.specs.Places.{json_at, places}
use Rattle.print.proofs.Lists.{Left, left_end, left_on, left_start, left_weight, left_within, list_is, list_none, means_place, next_behind, weight}
use Rattle.print.specs.Printed.{IsList, printed, printed_append, printed_none}
use Rattle.rules.specs.Json.{Json}
use Rattle.rules.specs.Plan.{answer}
use Rattle.rules.specs.Value.{render}
use borrow.Author.Rules.{rules}
use lib.ListN.{length}
use mathlib.Core.Path.{◌∙◌, ◌≡◌, ap, refl, subst, sym}
use native.Mathlib.Omega.{arith}
use Rattle.print.proofs.+printing.Goals as goal

pub write_list-shape_of-out-in_default : goal.write_list-shape_of-out-in_default
write_list-shape_of-out-in_default t c = c.feed_bytes.auto.out ∙ c.feed_bytes-q.auto.out

pub write_list-returns-in_default : goal.write_list-returns-in_default
write_list-returns-in_default t c = let z = c in
    let a = z.args in
    let h = z.requires.0.answers in
    let lt = z.requires.2 in
    let e = z.requires.3 in
    let f = c.feed_bytes-q in
    let g = c.feed_bytes in
    list_none a.s.now h a.i lt e Output (printed a.indent.now a.escape) (printed_append a.indent.now a.escape) (output a.w a.out.now) (output f.result f.new.out) (output g.result g.new.out)
    (ap found (sym c.in_default.is) ∙ c.first.ensures) f.ensures g.ensures

pub write_list-loop-d-init : goal.write_list-loop-d-init
write_list-loop-d-init t c = let a = c.args in
    (refl, λ h lt e. left_start a.s.now h a.i lt e Output (printed a.indent.now a.escape) (printed_append a.indent.now a.escape) c.in-Some.f _ (ap found (sym c.in-Some.is) ∙ c.first.ensures))

pub write_list-write_value-q-requires : goal.write_list-write_value-q-requires
write_list-write_value-q-requires t c = let z = c in
    let a = z.args in
    let h = z.requires.0.answers in
    let lt = z.requires.2 in
    let e = z.requires.3 in
    let l = c.loop-d.invariant.1 h lt e in
    (omega (arith, left_weight a.s.now h a.i lt e Output (printed a.indent.now a.escape) (printed_append a.indent.now a.escape) _ _ _ l, z.decreases), (z.requires.0, z.requires.1, λ _. left_within a.s.now h a.i lt e Output (printed a.indent.now a.escape) (printed_append a.indent.now a.escape) _ _ _ l))

pub write_list-next-requires : goal.write_list-next-requires
write_list-next-requires t c = let z = c in
    let a = z.args in
    let h = z.requires.0.answers in
    let lt = z.requires.2 in
    let e = z.requires.3 in
    let l = c.loop-d.invariant.1 h lt e in
    (z.requires.0, lt, left_within a.s.now h a.i lt e Output (printed a.indent.now a.escape) (printed_append a.indent.now a.escape) _ _ _ l)

pub write_list-shape_of-out-in_default-next : goal.write_list-shape_of-out-in_default-next
write_list-shape_of-out-in_default-next t c = c.feed_bytes-in_default-next.auto.out ∙ c.write_value-q.auto.out ∙ c.loop-d.invariant.0 ∙ c.feed_bytes-q.auto.out

pub write_list-returns-in_default-next : goal.write_list-returns-in_default-next
write_list-returns-in_default-next t c = let z = c in
    let a = z.args in
    let h = z.requires.0.answers in
    let lt = z.requires.2 in
    let e = z.requires.3 in
    let f = c.feed_bytes-q in
    let y = c.loop-d in
    let v = c.write_value-q in
    let g = c.feed_bytes-in_default-next in
    let l = y.invariant.1 h lt e in
    let o = output y.q y.out in
    let o₀ = output f.result f.new.out in
    let o₂ = output g.result g.new.out in
    list_is a.s.now h a.i lt e Output (printed a.indent.now a.escape) (printed_append a.indent.now a.escape) (output a.w a.out.now) o₀ o₂ f.ensures
    (left_end a.s.now h a.i lt e Output (printed a.indent.now a.escape) (printed_append a.indent.now a.escape) y.c o o₀ (output v.result v.new.out) o₂ l (means_place a.s.now a.b.now _ y.c (left_within a.s.now h a.i lt e Output (printed a.indent.now a.escape) (printed_append a.indent.now a.escape) y.c o o₀ l) v.ensures)
    (ap found (sym c.in_default-next.is) ∙ c.next.ensures.0 l.number l.at) g.ensures)

pub write_list-loop-d-smaller : goal.write_list-loop-d-smaller
write_list-loop-d-smaller t c = let z = c in
    let a = z.args in
    let h = z.requires.0.answers in
    let lt = z.requires.2 in
    let e = z.requires.3 in
    let y = c.loop-d in
    let l = y.invariant.1 h lt e in
    let n = ap found (sym c.in-Some-next.is) ∙ c.next.ensures.0 l.number l.at in
    omega (arith, left_within a.s.now h a.i lt e Output (printed a.indent.now a.escape) (printed_append a.indent.now a.escape) _ _ _ l, next_behind a.s.now h a.i lt l.number y.c c.in-Some-next.d l.at (sym n))

pub write_list-loop-d-preserved : goal.write_list-loop-d-preserved
write_list-loop-d-preserved t c = let a = c.args in
    let f = c.feed_bytes-q in
    let y = c.loop-d in
    let v = c.write_value-q in
    let g = c.feed_bytes-q-in-loop-d in
    let o = output y.q y.out in
    let o₀ = output f.result f.new.out in (
      g.auto.out ∙ v.auto.out ∙ y.invariant.0,
      λ h lt e.
          let l = y.invariant.1 h lt e in
          left_on a.s.now h a.i lt e Output (printed a.indent.now a.escape) (printed_append a.indent.now a.escape) y.c o o₀ (output v.result v.new.out) (output g.result g.new.out) l
          (means_place a.s.now a.b.now _ y.c (left_within a.s.now h a.i lt e Output (printed a.indent.now a.escape) (printed_append a.indent.now a.escape) y.c o o₀ l) v.ensures)
          c.in-Some-next.d (ap found (sym c.in-Some-next.is) ∙ c.next.ensures.0 l.number l.at) g.ensures,
    )

pub write_value-write_text-requires : goal.write_value-write_text-requires
write_value-write_text-requires t c = let z = c in
    let a = z.args in
    let h = subst (Formed a.s.now a.b.now a.v) c.in-String.is c.form_of.ensures in
    (short a.s.now z.requires.0.answers, h.is.stands)

pub write_value-write_list-requires : goal.write_value-write_list-requires
write_value-write_list-requires t c = let z = c in
    let a = z.args in
    let h = subst (Formed a.s.now a.b.now a.v) c.in-List.is c.form_of.ensures in
    (omega (arith, ap weight h.is.at, z.decreases), (z.requires.0, z.requires.1, h.is.within, subst IsList h.is.at h.is.is))

pub write_value-returns-in-Null : goal.write_value-returns-in-Null
write_value-returns-in-Null t c = let a = c.args in
    let h = subst (Formed a.s.now a.b.now a.v) c.in-Null.is c.form_of.ensures in
    means a.s.now a.b.now _ a.v Null h (sym (printed_none a.indent.now a.escape (output a.w a.out.now)))

pub write_value-shape_of-out-in-Boolean : goal.write_value-shape_of-out-in-Boolean
write_value-shape_of-out-in-Boolean t c = c.write_bool.auto.out

pub write_value-returns-in-Boolean : goal.write_value-returns-in-Boolean
write_value-returns-in-Boolean t c = let a = c.args in
    let h = subst (Formed a.s.now a.b.now a.v) c.in-Boolean.is c.form_of.ensures in
    means a.s.now a.b.now _ a.v (Boolean c.in-Boolean.t) h c.write_bool.ensures

pub write_value-shape_of-out-in-Unsigned : goal.write_value-shape_of-out-in-Unsigned
write_value-shape_of-out-in-Unsigned t c = c.write_digits.auto.out

pub write_value-returns-in-Unsigned : goal.write_value-returns-in-Unsigned
write_value-returns-in-Unsigned t c = let a = c.args in
    let h = subst (Formed a.s.now a.b.now a.v) c.in-Unsigned.is c.form_of.ensures in
    means a.s.now a.b.now _ a.v (Unsigned c.in-Unsigned.n) h c.write_digits.ensures

pub write_value-shape_of-out-in-Negative : goal.write_value-shape_of-out-in-Negative
write_value-shape_of-out-in-Negative t c = c.write_minus.auto.out

pub write_value-returns-in-Negative : goal.write_value-returns-in-Negative
write_value-returns-in-Negative t c = let a = c.args in
    let h = subst (Formed a.s.now a.b.now a.v) c.in-Negative.is c.form_of.ensures in
    means a.s.now a.b.now _ a.v (Negative c.in-Negative.n) h c.write_minus.ensures

pub write_value-shape_of-out-in-String : goal.write_value-shape_of-out-in-String
write_value-shape_of-out-in-String t c = c.write_text.auto.out

pub write_value-returns-in-String : goal.write_value-returns-in-String
write_value-returns-in-String t c = let a = c.args in
    let h = subst (Formed a.s.now a.b.now a.v) c.in-String.is c.form_of.ensures in
    means a.s.now a.b.now _ a.v (String c.in-String.t) h (λ _. c.write_text.ensures)

pub write_value-shape_of-out-in-List : goal.write_value-shape_of-out-in-List
write_value-shape_of-out-in-List t c = c.write_list.auto.out

pub write_value-returns-in-List : goal.write_value-returns-in-List
write_value-returns-in-List t c = let a = c.args in
    let h = subst (Formed a.s.now a.b.now a.v) c.in-List.is c.form_of.ensures in
    means a.s.now a.b.now _ a.v (List c.in-List.i) h (λ _ _ e. c.write_list.ensures ∙ ap (λ (j : Json). printed a.indent.now a.escape (render j) (output a.w a.out.now)) e)

pub write_value-shape_of-out-in-Object : goal.write_value-shape_of-out-in-Object
write_value-shape_of-out-in-Object t c = c.feed_bytes.auto.out

pub write_value-returns-in-Object : goal.write_value-returns-in-Object
write_value-returns-in-Object t c = let a = c.args in
    let h = subst (Formed a.s.now a.b.now a.v) c.in-Object.is c.form_of.ensures in
    means a.s.now a.b.now _ a.v (Object c.in-Object.i) h (λ _ _ _. c.feed_bytes.ensures)

pub write_value-shape_of-out-in-Merged : goal.write_value-shape_of-out-in-Merged
write_value-shape_of-out-in-Merged t c = c.feed_bytes-in-Merged.auto.out

pub write_value-returns-in-Merged : goal.write_value-returns-in-Merged
write_value-returns-in-Merged t c = let a = c.args in
    let h = subst (Formed a.s.now a.b.now a.v) c.in-Merged.is c.form_of.ensures in
    means a.s.now a.b.now _ a.v (Merged c.in-Merged.h c.in-Merged.n) h (λ _ _. c.feed_bytes-in-Merged.ensures)
