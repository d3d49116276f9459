-- The loop over a string's characters.
use mathlib.Core.Bool.{Bool, true, false}
use mathlib.Core.Path.{◌≡◌, refl, sym, ap, ◌∙◌, subst}
use Prim.Native.Nat.{ℕ, zero, suc, ◌+◌, ◌≤◌, ◌<◌}
use native.Mathlib.Nat.{add-zero}
use native.Mathlib.Omega.{arith}
use lib.Dec.{eqb, ltb}
use lib.ListN.{length, drop}
use borrow.Author.Tests.{eq-eqb, ne_eqb, ltb-true, ltb-false}
use Rattle.rules.specs.Bytes.{Bytes, byte_at, run}
use Rattle.rules.specs.Scan.{char_length, string_from}
use Rattle.scan.proofs.Bounds.{eq_in}
use Rattle.scan.proofs.Runs.{run_on, run_off, run_end}
use Rattle.strings.specs.Plain.{is_plain, plain_end}
use Rattle.strings.proofs.Lengths.{char_most, char_in, plain_length, plain_no_quote}

string_more : (s : Bytes) (k j : ℕ) → (byte_at s j ≡ 34 → ⊥) → (char_length s j ≡ 0 → ⊥) → string_from s (suc k) j ≡ string_from s k (j + char_length s j)
unfolding string_from
string_more s k j q n = rw (ne_eqb (byte_at s j) 34 q, ne_eqb (char_length s j) 0 n)

string_quote : (s : Bytes) (k j : ℕ) → byte_at s j ≡ 34 → string_from s (suc k) j ≡ j + 1
unfolding string_from
string_quote s k j q = rw (eq-eqb (byte_at s j) 34 q)

string_none : (s : Bytes) (k j : ℕ) → (byte_at s j ≡ 34 → ⊥) → char_length s j ≡ 0 → string_from s (suc k) j ≡ 0
unfolding string_from
string_none s k j q n = rw (ne_eqb (byte_at s j) 34 q, eq-eqb (char_length s j) 0 n)

string_out : (s : Bytes) (j : ℕ) → string_from s zero j ≡ 0
unfolding string_from
string_out s j = refl

-- a string from i on has been passed up to j: what stands from there on decides
pub record Going (s : Bytes) (i j : ℕ) : Type 0 where
  pub fuel : ℕ
  pub enough : length s < fuel + j
  pub near : j ≤ length s + 12
  pub is : string_from s (suc (length s)) i ≡ string_from s fuel j

pub going_start : (s : Bytes) (i : ℕ) → i ≤ length s + 1 → Going s i i
going_start s i le = record { fuel = suc (length s); enough = omega arith; near = omega arith; is = refl }

module _ (s : Bytes) (i j : ℕ) (g : Going s i j) where
  pub going_on : (byte_at s j ≡ 34 → ⊥) → (char_length s j ≡ 0 → ⊥) → Going s i (j + char_length s j)
  going_on q n = go g.fuel g.enough g.is
    where
      go : (k : ℕ) → length s < k + j → string_from s (suc (length s)) i ≡ string_from s k j → Going s i (j + char_length s j)
      go zero e h = let l = char_in s j n in absurd (omega arith)
      go (suc k) e h =
          let l = char_in s j n in
          record { fuel = k; enough = omega arith; near = omega (arith, char_most s j); is = h ∙ string_more s k j q n }

  pub going_end : byte_at s j ≡ 34 → j + 1 ≡ string_from s (suc (length s)) i
  going_end q = go g.fuel g.enough g.is
    where
      go : (k : ℕ) → length s < k + j → string_from s (suc (length s)) i ≡ string_from s k j → j + 1 ≡ string_from s (suc (length s)) i
      go zero e h = let l = eq_in s j 34 refl (eq-eqb (byte_at s j) 34 q) in absurd (omega arith)
      go (suc k) e h = sym (h ∙ string_quote s k j q)

  pub going_broken : (byte_at s j ≡ 34 → ⊥) → char_length s j ≡ 0 → 0 ≡ string_from s (suc (length s)) i
  going_broken q n = go g.fuel g.is
    where
      go : (k : ℕ) → string_from s (suc (length s)) i ≡ string_from s k j → 0 ≡ string_from s (suc (length s)) i
      go zero h = sym (h ∙ string_out s j)
      go (suc k) h = sym (h ∙ string_none s k j q n)

-- Plain characters

record First (p : ℕ → Bool) (s : Bytes) (j n : ℕ) : Type 0 where
  pub passed : p (byte_at s j) ≡ true
  pub others : n ≡ run p (drop (j + 1) s)

-- a run that is not empty has a first byte
run_first : (p : ℕ → Bool) (s : Bytes) (j n : ℕ) → suc n ≡ run p (drop j s) → First p s j n
run_first p s j n h = go (ltb j (length s)) refl (p (byte_at s j)) refl
  where
    go : (a : Bool) → ltb j (length s) ≡ a → (b : Bool) → p (byte_at s j) ≡ b → First p s j n
    go false e b f = absurd (omega (arith, run_end p s j (ltb-false j (length s) e)))
    go true e false f = absurd (omega (arith, run_off p s j (ltb-true j (length s) e) f))
    go true e true f = record { passed = f; others = omega (arith, run_on p s j (ltb-true j (length s) e) f) }

going_past : (s : Bytes) (i n j : ℕ) → n ≡ run is_plain (drop j s) → Going s i j → Going s i (j + n)
going_past s i zero j e g = rw (add-zero j) g
going_past s i (suc n) j e g =
    let f = run_first is_plain s j n e in
    let l = plain_length s j f.passed in
    let q = plain_no_quote s j f.passed in
    let o = going_on s i j g q (λ z. omega arith) in
    let k = going_past s i n (j + 1) f.others (subst (λ (m : ℕ). Going s i (j + m)) l o) in
    subst (λ (m : ℕ). Going s i m) (omega arith) k

pub going_run : (s : Bytes) (i j k : ℕ) → Going s i j → k ≡ plain_end s j → Going s i k
going_run s i j k g e = subst (λ (m : ℕ). Going s i m) (sym e) (going_past s i (run is_plain (drop j s)) j refl g)
