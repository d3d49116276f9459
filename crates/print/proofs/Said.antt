-- A string of the plan, by runs of bytes that stand for themselves.
use Prim.Native.Nat.{ℕ, ◌+◌, ◌-◌, ◌≤◌, ◌<◌}
use mathlib.Core.Bool.{Bool, true, false}
use mathlib.Core.List.{List, [], ◌∷◌, ◌++◌}
use mathlib.Core.Path.{◌≡◌, refl, sym, ap, ◌∙◌, subst}
use native.Mathlib.Omega.{arith}
use lib.Dec.{ltb}
use lib.ListN.{length, take, drop, length-append}
use borrow.Author.Tests.{ltb-true, ltb-false}
use Rattle.rules.specs.Bytes.{Bytes, run}
use Rattle.scan.proofs.Runs.{run_end, run_within}
use Rattle.saying.specs.Said.{remaining, Inside, is_own, own_end}
use Rattle.saying.proofs.Remaining.{own_run}
use Rattle.output.specs.Writer.{Output}
use Rattle.print.specs.Printed.{printed, printed_none, printed_append}

take_none : (l : Bytes) → take 0 l ≡ []
take_none [] = refl
take_none (c ∷ l) = refl

pub no_part : (x : Bytes) (esc : Bool) (l : Bytes) (n : ℕ) (o : Output) → n ≡ 0 → o ≡ printed x esc (take n l) o
no_part x esc l n o z = sym (printed_none x esc o) ∙ ap (λ (v : Bytes). printed x esc v o) (sym (ap (λ (k : ℕ). take k l) z ∙ take_none l))

module _ (s : Bytes) (i e : ℕ) (h : e ≡ own_end s i) where
  pub part_in : i < e → e ≤ length s
  part_in lt = go (ltb i (length s)) refl
    where
      go : (t : Bool) → ltb i (length s) ≡ t → e ≤ length s
      go true x = omega (arith, run_within is_own s i (let y = ltb-true i (length s) x in omega arith))
      go false x = absurd (omega (arith, run_end is_own s i (ltb-false i (length s) x)))

  module _ (j : ℕ) (ls : length s ≤ 65536) (q : Inside s i j) where
    pub part_inside : Inside s e j
    part_inside = subst (λ (n : ℕ). Inside s n j) (sym h) (own_run s i j ls q).inside

    pub part_is : remaining s i j ≡ take (e - i) (drop i s) ++ remaining s e j
    part_is =
        let m : e - i ≡ run is_own (drop i s) = omega (arith, h) in
        (own_run s i j ls q).is ∙ ap (λ (n : ℕ). take n (drop i s) ++ remaining s (own_end s i) j) (sym m) ∙ ap (λ (n : ℕ). take (e - i) (drop i s) ++ remaining s n j) (sym h)

    pub part_less : (c : ℕ) (l : Bytes) → remaining s e j ≡ c ∷ l → length l < length (remaining s i j)
    part_less c l k = omega (arith, ap length part_is, length-append (take (e - i) (drop i s)) (remaining s e j), ap length k)

    pub part_printed : (x : Bytes) (esc : Bool) (o o' : Output) → o' ≡ printed x esc (take (e - i) (drop i s)) o → printed x esc (remaining s e j) o' ≡ printed x esc (remaining s i j) o
    part_printed x esc o o' k =
        ap (printed x esc (remaining s e j)) k ∙ sym (printed_append x esc (take (e - i) (drop i s)) (remaining s e j) o) ∙ ap (λ (l : Bytes). printed x esc l o) (sym part_is)
