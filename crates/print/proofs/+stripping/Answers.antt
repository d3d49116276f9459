use Prim.Native.Nat.{◌*◌, ◌+◌, ◌-◌, ◌<◌, ℕ}
use Rattle.meaning.specs.Forms.{Formed}
use Rattle.meaning.specs.Meaning.{plain_json}
use Rattle.meaning.specs.Means.{means}
use Rattle.meaning.specs.declared.Form.TheVariants.{Boolean, List, Merged, Negative, Null, Object, String, Unsigned}
use Rattle.places.specs.Kinds.{found}
use Rattle.places.specs.Nodes.{short}
use Rattle.places.specs.Places.{json_at, places}
use Rattle.print.proofs.Lists.{Left, left_broken, left_end, left_on, left_start, left_stuck, left_weight, left_within, list_broken, list_is, list_none, means_place, next_behind, weight}
use Rattle.print.specs.Printed.{IsList}
use Rattle.rules.specs.Bytes.{Bytes}
use Rattle.rules.specs.Json.{Json}
use Rattle.rules.specs.Plan.{answer}
use Rattle.rules.specs.Value.{render}
use Rattle.text.specs.Laws.{strip_none}
use Rattle.text.specs.Strip.{stripped}
use borrow.Author.Rules.{rules}
use mathlib.Core.Option.{Option, none, some}
use mathlib.Core.Path.{◌∙◌, ◌≡◌, ap, refl, subst, sym}
use native.Mathlib.Omega.{arith}
use Rattle.print.specs.Target as target
use Rattle.print.proofs.+stripping.Goals as goal

pub strip_list-strip_bytes-requires : goal.strip_list-strip_bytes-requires
strip_list-strip_bytes-requires t c = (short c.args.s.now c.requires.0.answers, c.requires.2)

pub strip_list-returns-in_err-t : goal.strip_list-returns-in_err-t
strip_list-returns-in_err-t t c = let z = c in
    let a = z.args in
    let h = z.requires.0.answers in
    let lt = z.requires.3 in
    let e = z.requires.4 in
    let p = c.in_err-t.ensures in
    rw c.from_residual.ensures (record { is = list_broken a.s.now h a.i lt e (Option Bytes) target.taken target.taken_append (some (target.rest a.s.now a.b.now a.w.now a.g)) none p.is (λ _. refl); stands = tt })

pub strip_list-first-requires : goal.strip_list-first-requires
strip_list-first-requires t c = (c.requires.0, c.requires.3)

pub strip_list-strip_bytes-requires-in_default : goal.strip_list-strip_bytes-requires-in_default
strip_list-strip_bytes-requires-in_default t c = let z = c in
    let a = z.args in
    let p = c.in_ok-t.ensures in
    (short a.s.now z.requires.0.answers, p.stands)

pub strip_list-returns-in_default : goal.strip_list-returns-in_default
strip_list-returns-in_default t c = let z = c in
    let a = z.args in
    let h = z.requires.0.answers in
    let lt = z.requires.3 in
    let e = z.requires.4 in
    let p = c.in_ok-t.ensures in
    let r = c.strip_bytes-in_default in
    record {
      is = list_none a.s.now h a.i lt e (Option Bytes) target.taken target.taken_append (some (target.rest a.s.now a.b.now a.w.now a.g)) (some (target.rest a.s.now a.b.now a.w.now c.in_ok-t.t)) (target.left a.s.now a.b.now a.w.now r.result)
          (ap found (sym c.in_default.is) ∙ c.first.ensures) p.is r.ensures.is;
      stands = r.ensures.stands;
    }

pub strip_list-loop-x-init : goal.strip_list-loop-x-init
strip_list-loop-x-init t c = let a = c.args in
    let p = c.in_ok-t.ensures in
    (p.stands, λ h lt e. left_start a.s.now h a.i lt e (Option Bytes) target.taken target.taken_append c.in-Some.f _ (ap found (sym c.in-Some.is) ∙ c.first.ensures))

pub strip_list-strip_value-requires : goal.strip_list-strip_value-requires
strip_list-strip_value-requires t c = let z = c in
    let a = z.args in
    let h = z.requires.0.answers in
    let lt = z.requires.3 in
    let e = z.requires.4 in
    let l = c.loop-x.invariant.1 h lt e in
    (omega (arith, left_weight a.s.now h a.i lt e (Option Bytes) target.taken target.taken_append _ _ _ l, z.decreases), (z.requires.0, z.requires.1, c.loop-x.invariant.0, λ _. left_within a.s.now h a.i lt e (Option Bytes) target.taken target.taken_append _ _ _ l))

pub strip_list-returns-in_err-x : goal.strip_list-returns-in_err-x
strip_list-returns-in_err-x t c = let z = c in
    let a = z.args in
    let h = z.requires.0.answers in
    let lt = z.requires.3 in
    let e = z.requires.4 in
    let p = c.in_ok-t.ensures in
    let y = c.loop-x in
    let o = some (target.rest a.s.now a.b.now a.w.now y.u) in
    let o₀ = some (target.rest a.s.now a.b.now a.w.now c.in_ok-t.t) in
    let l = y.invariant.1 h lt e in
    let q = ap (target.left a.s.now a.b.now a.w.now) (sym c.in_err-x.was) ∙ means_place a.s.now a.b.now _ y.c (left_within a.s.now h a.i lt e (Option Bytes) target.taken target.taken_append y.c o o₀ l) c.strip_value.ensures.means in
    rw c.from_residual-in_err-x.ensures (record { is = list_is a.s.now h a.i lt e (Option Bytes) target.taken target.taken_append (some (target.rest a.s.now a.b.now a.w.now a.g)) o₀ none p.is (left_broken a.s.now h a.i lt e (Option Bytes) target.taken target.taken_append y.c o o₀ none l q (λ _. refl)); stands = tt })

pub strip_list-next-requires : goal.strip_list-next-requires
strip_list-next-requires t c = let z = c in
    let a = z.args in
    let h = z.requires.0.answers in
    let lt = z.requires.3 in
    let e = z.requires.4 in
    let l = c.loop-x.invariant.1 h lt e in
    (z.requires.0, lt, left_within a.s.now h a.i lt e (Option Bytes) target.taken target.taken_append _ _ _ l)

pub strip_list-strip_bytes-requires-in_default-next : goal.strip_list-strip_bytes-requires-in_default-next
strip_list-strip_bytes-requires-in_default-next t c = let z = c in
    let a = z.args in
    (short a.s.now z.requires.0.answers, subst (target.LeftStands a.s.now a.b.now a.w.now) c.in_ok-x.was c.strip_value.ensures.stands)

pub strip_list-returns-in_default-next : goal.strip_list-returns-in_default-next
strip_list-returns-in_default-next t c = let z = c in
    let a = z.args in
    let h = z.requires.0.answers in
    let lt = z.requires.3 in
    let e = z.requires.4 in
    let p = c.in_ok-t.ensures in
    let y = c.loop-x in
    let o = some (target.rest a.s.now a.b.now a.w.now y.u) in
    let o₀ = some (target.rest a.s.now a.b.now a.w.now c.in_ok-t.t) in
    let l = y.invariant.1 h lt e in
    let q = ap (target.left a.s.now a.b.now a.w.now) (sym c.in_ok-x.was) ∙ means_place a.s.now a.b.now _ y.c (left_within a.s.now h a.i lt e (Option Bytes) target.taken target.taken_append y.c o o₀ l) c.strip_value.ensures.means in
    let r = c.strip_bytes-in_default-next in
    let n = ap found (sym c.in_default-next.is) ∙ c.next.ensures.0 l.number l.at in
    record {
      is = list_is a.s.now h a.i lt e (Option Bytes) target.taken target.taken_append (some (target.rest a.s.now a.b.now a.w.now a.g)) o₀ (target.left a.s.now a.b.now a.w.now r.result) p.is
          (left_end a.s.now h a.i lt e (Option Bytes) target.taken target.taken_append y.c o o₀ (some (target.rest a.s.now a.b.now a.w.now c.in_ok-x.x)) (target.left a.s.now a.b.now a.w.now r.result) l q n r.ensures.is);
      stands = r.ensures.stands;
    }

pub strip_list-strip_bytes-requires-in-loop-x : goal.strip_list-strip_bytes-requires-in-loop-x
strip_list-strip_bytes-requires-in-loop-x t c = let z = c in
    let a = z.args in
    (short a.s.now z.requires.0.answers, subst (target.LeftStands a.s.now a.b.now a.w.now) c.in_ok-x.was c.strip_value.ensures.stands)

pub strip_list-returns-in_err-y : goal.strip_list-returns-in_err-y
strip_list-returns-in_err-y t c = let z = c in
    let a = z.args in
    let h = z.requires.0.answers in
    let lt = z.requires.3 in
    let e = z.requires.4 in
    let p = c.in_ok-t.ensures in
    let y = c.loop-x in
    let o = some (target.rest a.s.now a.b.now a.w.now y.u) in
    let o₀ = some (target.rest a.s.now a.b.now a.w.now c.in_ok-t.t) in
    let l = y.invariant.1 h lt e in
    let q = ap (target.left a.s.now a.b.now a.w.now) (sym c.in_ok-x.was) ∙ means_place a.s.now a.b.now _ y.c (left_within a.s.now h a.i lt e (Option Bytes) target.taken target.taken_append y.c o o₀ l) c.strip_value.ensures.means in
    let r = c.in_err-y.ensures in
    let n = ap found (sym c.in-Some-next.is) ∙ c.next.ensures.0 l.number l.at in
    let d = c.in-Some-next.d in
    rw c.from_residual-in_err-y.ensures (record {
      is = list_is a.s.now h a.i lt e (Option Bytes) target.taken target.taken_append (some (target.rest a.s.now a.b.now a.w.now a.g)) o₀ none p.is
          (left_stuck a.s.now h a.i lt e (Option Bytes) target.taken target.taken_append d none o₀ (left_on a.s.now h a.i lt e (Option Bytes) target.taken target.taken_append y.c o o₀ (some (target.rest a.s.now a.b.now a.w.now c.in_ok-x.x)) none l q d n r.is) (λ _. refl));
      stands = tt;
    })

pub strip_list-loop-x-smaller : goal.strip_list-loop-x-smaller
strip_list-loop-x-smaller t c = let z = c in
    let a = z.args in
    let h = z.requires.0.answers in
    let lt = z.requires.3 in
    let e = z.requires.4 in
    let y = c.loop-x in
    let l = y.invariant.1 h lt e in
    let n = ap found (sym c.in-Some-next.is) ∙ c.next.ensures.0 l.number l.at in
    omega (arith, left_within a.s.now h a.i lt e (Option Bytes) target.taken target.taken_append _ _ _ l, next_behind a.s.now h a.i lt l.number y.c c.in-Some-next.d l.at (sym n))

pub strip_list-loop-x-preserved : goal.strip_list-loop-x-preserved
strip_list-loop-x-preserved t c = let a = c.args in
    let y = c.loop-x in
    let o = some (target.rest a.s.now a.b.now a.w.now y.u) in
    let o₀ = some (target.rest a.s.now a.b.now a.w.now c.in_ok-t.t) in
    let r = c.in_ok-y.ensures in (
      r.stands,
      λ h lt e.
          let l = y.invariant.1 h lt e in
          let q = ap (target.left a.s.now a.b.now a.w.now) (sym c.in_ok-x.was) ∙ means_place a.s.now a.b.now _ y.c (left_within a.s.now h a.i lt e (Option Bytes) target.taken target.taken_append y.c o o₀ l) c.strip_value.ensures.means in
          let n = ap found (sym c.in-Some-next.is) ∙ c.next.ensures.0 l.number l.at in
          left_on a.s.now h a.i lt e (Option Bytes) target.taken target.taken_append y.c o o₀ (some (target.rest a.s.now a.b.now a.w.now c.in_ok-x.x)) (some (target.rest a.s.now a.b.now a.w.now c.in_ok-y.y)) l q c.in-Some-next.d n r.is,
    )

pub strip_value-strip_bool-requires : goal.strip_value-strip_bool-requires
strip_value-strip_bool-requires t c = (short c.args.s.now c.requires.0.answers, c.requires.2)

pub strip_value-strip_text-requires : goal.strip_value-strip_text-requires
strip_value-strip_text-requires t c = (short c.args.s.now c.requires.0.answers, c.requires.2, tt)

pub strip_value-strip_text-requires-in-Negative : goal.strip_value-strip_text-requires-in-Negative
strip_value-strip_text-requires-in-Negative t c = (short c.args.s.now c.requires.0.answers, c.requires.2, tt)

pub strip_value-strip_text-requires-in-String : goal.strip_value-strip_text-requires-in-String
strip_value-strip_text-requires-in-String t c = let z = c in
    let a = z.args in
    let h = subst (Formed a.s.now a.b.now a.v) c.in-String.is c.form_of.ensures in
    (short a.s.now z.requires.0.answers, z.requires.2, h.is.stands)

pub strip_value-strip_list-requires : goal.strip_value-strip_list-requires
strip_value-strip_list-requires t c = let z = c in
    let a = z.args in
    let h = subst (Formed a.s.now a.b.now a.v) c.in-List.is c.form_of.ensures in
    (omega (arith, ap weight h.is.at, z.decreases), (z.requires.0, z.requires.1, z.requires.2, h.is.within, subst IsList h.is.at h.is.is))

pub strip_value-strip_bytes-requires : goal.strip_value-strip_bytes-requires
strip_value-strip_bytes-requires t c = (short c.args.s.now c.requires.0.answers, c.requires.2)

pub strip_value-strip_bytes-requires-in-Merged : goal.strip_value-strip_bytes-requires-in-Merged
strip_value-strip_bytes-requires-in-Merged t c = (short c.args.s.now c.requires.0.answers, c.requires.2)

pub strip_value-returns-in-Null : goal.strip_value-returns-in-Null
strip_value-returns-in-Null t c = let a = c.args in
    let h = subst (Formed a.s.now a.b.now a.v) c.in-Null.is c.form_of.ensures in
    record { means = means a.s.now a.b.now _ a.v Null h (sym (strip_none (target.rest a.s.now a.b.now a.w.now a.g))); stands = c.requires.2 }

pub strip_value-returns-in-Boolean : goal.strip_value-returns-in-Boolean
strip_value-returns-in-Boolean t c = let a = c.args in
    let h = subst (Formed a.s.now a.b.now a.v) c.in-Boolean.is c.form_of.ensures in
    record { means = means a.s.now a.b.now _ a.v (Boolean c.in-Boolean.t) h c.strip_bool.ensures.is; stands = c.strip_bool.ensures.stands }

pub strip_value-returns-in-Unsigned : goal.strip_value-returns-in-Unsigned
strip_value-returns-in-Unsigned t c = let a = c.args in
    let h = subst (Formed a.s.now a.b.now a.v) c.in-Unsigned.is c.form_of.ensures in
    record { means = means a.s.now a.b.now _ a.v (Unsigned c.in-Unsigned.n) h c.strip_text.ensures.is; stands = c.strip_text.ensures.stands }

pub strip_value-returns-in-Negative : goal.strip_value-returns-in-Negative
strip_value-returns-in-Negative t c = let a = c.args in
    let h = subst (Formed a.s.now a.b.now a.v) c.in-Negative.is c.form_of.ensures in
    record { means = means a.s.now a.b.now _ a.v (Negative c.in-Negative.n) h c.strip_text-in-Negative.ensures.is; stands = c.strip_text-in-Negative.ensures.stands }

pub strip_value-returns-in-String : goal.strip_value-returns-in-String
strip_value-returns-in-String t c = let a = c.args in
    let h = subst (Formed a.s.now a.b.now a.v) c.in-String.is c.form_of.ensures in
    record { means = means a.s.now a.b.now _ a.v (String c.in-String.t) h (λ _. c.strip_text-in-String.ensures.is); stands = c.strip_text-in-String.ensures.stands }

pub strip_value-returns-in-List : goal.strip_value-returns-in-List
strip_value-returns-in-List t c = let a = c.args in
    let h = subst (Formed a.s.now a.b.now a.v) c.in-List.is c.form_of.ensures in
    record { means = means a.s.now a.b.now _ a.v (List c.in-List.i) h (λ _ _ e. c.strip_list.ensures.is ∙ ap (λ (j : Json). stripped (render j) (target.rest a.s.now a.b.now a.w.now a.g)) e); stands = c.strip_list.ensures.stands }

pub strip_value-returns-in-Object : goal.strip_value-returns-in-Object
strip_value-returns-in-Object t c = let a = c.args in
    let h = subst (Formed a.s.now a.b.now a.v) c.in-Object.is c.form_of.ensures in
    record { means = means a.s.now a.b.now _ a.v (Object c.in-Object.i) h (λ _ _ _. c.strip_bytes.ensures.is); stands = c.strip_bytes.ensures.stands }

pub strip_value-returns-in-Merged : goal.strip_value-returns-in-Merged
strip_value-returns-in-Merged t c = let a = c.args in
    let h = subst (Formed a.s.now a.b.now a.v) c.in-Merged.is c.form_of.ensures in
    record { means = means a.s.now a.b.now _ a.v (Merged c.in-Merged.h c.in-Merged.n) h (λ _ _. c.strip_bytes-in-Merged.ensures.is); stands = c.strip_bytes-in-Merged.ensures.stands }
