use Prim.Native.Nat.{ℕ, ◌+◌, ◌-◌}
use native.Mathlib.Omega.{arith}
use mathlib.Core.Path.{◌≡◌, refl, sym, ap, ◌∙◌, subst}
use Rattle.rules.specs.Bits.{bits}
use Rattle.rules.specs.Json.{get_member}
use Rattle.rules.specs.Context.{base_map}
use Rattle.layout.specs.Text.{text_at}
use Rattle.value.specs.Numbers.{decoded}
use Rattle.value.specs.declared.Value.TheVariants.{Merged}
use Rattle.meaning.specs.Meaning.{pairs, json_of}
use Rattle.merging.specs.Lookup.{find_last}
use Rattle.lookup.specs.Answers as answers
use Rattle.lookup.specs.Keys.{KeyFound}
use Rattle.lookup.specs.Numbers.{pair_at}
use Rattle.lookup.specs.Telling.{stands_object}
use Rattle.lookup.proofs.Finding.{inward_start, inward_merged, inward_room, inward_found}
use Rattle.lookup.proofs.Keyed.{key_pair, key_base, key_within, key_found}
use Rattle.lookup.proofs.Numbers.{pair_some, number_found, number_some, no_object}
use Rattle.lookup.proofs.Ordered.{string_near}
use borrow.Author.Rules.{rules}
use Rattle.lookup.proofs.merged_key.Goals as goal

pub last_pair-k-requires : goal.last_pair-k-requires
last_pair-k-requires c = let z = c in
    let a = z.args in
    let v = Merged a.h a.n in
    let k = text_at (bits a.b.now) a.q in
    let w = inward_start a.s.now a.b.now a.ent.now v k z.requires.2 in
    (z.requires.1, inward_room a.s.now a.b.now a.ent.now v k v w a.h a.n refl, (inward_merged a.s.now a.b.now a.ent.now v k v w a.h a.n refl).keys, string_near a.b.now a.q z.requires.1 z.requires.3, z.requires.4)

pub overflow_sub-k : goal.overflow_sub-k
overflow_sub-k c = omega (arith, c.if-k-ne0.true)

pub overflow_add-h : goal.overflow_add-h
overflow_add-h c = let z = c in
    let a = z.args in
    let v = Merged a.h a.n in
    let k = text_at (bits a.b.now) a.q in
    let w = inward_start a.s.now a.b.now a.ent.now v k z.requires.2 in
    let f = subst (KeyFound a.s.now a.b.now a.ent.now a.h a.n (find_last (pairs a.b.now a.ent.now (json_of a.s.now a.b.now a.ent.now) a.h a.n) k)) (pair_some a.h c.last_pair-k.result (omega (arith, c.if-k-ne0.true))) (c.last_pair-k.ensures a.s.now) in
    omega (arith, c.if-k-ne0.true, f.high, inward_room a.s.now a.b.now a.ent.now v k v w a.h a.n refl)

pub low-low-requires : goal.low-low-requires
low-low-requires c = let z = c in
    let a = z.args in
    let v = Merged a.h a.n in
    let k = text_at (bits a.b.now) a.q in
    let w = inward_start a.s.now a.b.now a.ent.now v k z.requires.2 in
    let f = subst (KeyFound a.s.now a.b.now a.ent.now a.h a.n (find_last (pairs a.b.now a.ent.now (json_of a.s.now a.b.now a.ent.now) a.h a.n) k)) (pair_some a.h c.last_pair-k.result (omega (arith, c.if-k-ne0.true))) (c.last_pair-k.ensures a.s.now) in
    omega (arith, f.high, inward_room a.s.now a.b.now a.ent.now v k v w a.h a.n refl)

pub overflow_add-result : goal.overflow_add-result
overflow_add-result c = omega arith

pub returns-then-k-ne0 : goal.returns-then-k-ne0
returns-then-k-ne0 c = let z = c in
    let a = z.args in
    let v = Merged a.h a.n in
    let k = text_at (bits a.b.now) a.q in
    let w = inward_start a.s.now a.b.now a.ent.now v k z.requires.2 in
    let K = subst (KeyFound a.s.now a.b.now a.ent.now a.h a.n (find_last (pairs a.b.now a.ent.now (json_of a.s.now a.b.now a.ent.now) a.h a.n) k)) (pair_some a.h c.last_pair-k.result (omega (arith, c.if-k-ne0.true))) (c.last_pair-k.ensures a.s.now) in
    record {
      small = omega arith;
      known = number_some c.pathless_number.result ∙ sym (key_pair a.s.now a.b.now a.ent.now a.h a.n k _ K.value);
      told = λ ne.
          subst (answers.Finds a.s.now a.b.now a.ent.now v (get_member (base_map (json_of a.s.now a.b.now a.ent.now v)) k)) (number_found _ c.pathless_number.result refl)
          (inward_found a.s.now a.b.now a.ent.now v k v w a.h a.n refl _ K
          (decoded c.pathless_number.result) (c.pathless_number.ensures ∙ ap (λ (n : ℕ). answers.pathless (decoded n)) c.low-low.ensures));
    }

pub high-u-requires : goal.high-u-requires
high-u-requires c = let z = c in
    let a = z.args in
    let v = Merged a.h a.n in
    let k = text_at (bits a.b.now) a.q in
    let w = inward_start a.s.now a.b.now a.ent.now v k z.requires.2 in
    omega (arith, inward_room a.s.now a.b.now a.ent.now v k v w a.h a.n refl, (inward_merged a.s.now a.b.now a.ent.now v k v w a.h a.n refl).keys.some)

pub object_key-requires : goal.object_key-requires
object_key-requires c = let z = c in
    let a = z.args in
    let k = text_at (bits a.b.now) a.q in
    let o = subst (λ (i : ℕ). KeyFound a.s.now a.b.now a.ent.now a.h a.n (find_last (pairs a.b.now a.ent.now (json_of a.s.now a.b.now a.ent.now) a.h a.n) k) (pair_at a.h i)) c.if-k-ne0.false (c.last_pair-k.ensures a.s.now) in
    (z.requires.0, z.requires.1, key_within a.s.now a.b.now a.ent.now a.h a.n k z.requires.2 c.high-u.result (ap decoded c.high-u.ensures) o c.if-tag.true, z.requires.3, z.requires.4)

pub returns-then-tag : goal.returns-then-tag
returns-then-tag c = let z = c in
    let a = z.args in
    let k = text_at (bits a.b.now) a.q in
    let o = subst (λ (i : ℕ). KeyFound a.s.now a.b.now a.ent.now a.h a.n (find_last (pairs a.b.now a.ent.now (json_of a.s.now a.b.now a.ent.now) a.h a.n) k) (pair_at a.h i)) c.if-k-ne0.false (c.last_pair-k.ensures a.s.now) in
    key_found a.s.now a.b.now a.ent.now a.h a.n k z.requires.2 c.high-u.result (ap decoded c.high-u.ensures) o c.if-tag.true c.object_key.result c.object_key.ensures

pub returns : goal.returns
returns c = let z = c in
    let a = z.args in
    let k = text_at (bits a.b.now) a.q in
    let o = subst (λ (i : ℕ). KeyFound a.s.now a.b.now a.ent.now a.h a.n (find_last (pairs a.b.now a.ent.now (json_of a.s.now a.b.now a.ent.now) a.h a.n) k) (pair_at a.h i)) c.if-k-ne0.false (c.last_pair-k.ensures a.s.now) in
    record {
      small = omega arith;
      known = sym (key_base a.s.now a.b.now a.ent.now a.h a.n k o ∙ ap (λ (n : ℕ). stands_object a.s.now (decoded n)) (sym c.high-u.ensures) ∙ no_object a.s.now c.high-u.result c.if-tag.false);
      told = λ ne. absurd (ne refl);
    }
