-- What a first byte of UTF-8 asks for.
use Prim.Native.Nat.{ℕ, zero, suc, ◌≤◌, ◌<◌}
use mathlib.Core.Bool.{Bool, true, false}
use mathlib.Core.List.{[], ◌∷◌}
use mathlib.Core.Path.{◌≡◌, refl, sym, ◌∙◌}
use native.Mathlib.Omega.{arith}
use lib.Dec.{eqb, ltb}
use lib.ListN.{take}
use borrow.Author.Tests.{le-leb, lt-leb, le-ltb, lt-ltb, ltb-true, ltb-false, eqb-true}
use Rattle.rules.specs.Bytes.{Bytes, pick, between}
use Rattle.rules.specs.Order.{differ}
use Rattle.rules.specs.Utf8.{Wants, wants, bad, lead, follows, never_follows}
use Rattle.scan.proofs.Bounds.{by_cases}
use Rattle.chars.specs.Leads.{lead_length}

pub low_byte : (c : ℕ) → c < 128 → between 128 191 c ≡ false
low_byte c h = rw (lt-leb 128 c h)

pub high_byte : (c : ℕ) → 191 < c → between 128 191 c ≡ false
high_byte c h = rw (le-leb 128 c (omega arith), lt-leb c 191 h)

-- so many bytes more, of which the first is no first byte itself; and c goes on no character
pub record Asks (c k low : ℕ) : Type 0 where
  pub count : lead_length c ≡ suc k
  pub few : k ≤ 3
  pub above : 128 ≤ low
  pub starts : between 128 191 c ≡ false

abbrev pub Leads : ℕ → Wants → Type 0
Leads c (wants k low high) = Asks c k low
Leads c bad = Unit {0}

module _ (c : ℕ) where
  pub one_byte : c < 128 → lead_length c ≡ 1
  unfolding lead_length
  one_byte h = rw (lt-ltb c 128 h)

  pub two_bytes : 128 ≤ c → c < 224 → lead_length c ≡ 2
  unfolding lead_length
  two_bytes h k = rw (le-ltb c 128 h, lt-ltb c 224 k)

  pub three_bytes : 224 ≤ c → c < 240 → lead_length c ≡ 3
  unfolding lead_length
  three_bytes h k = rw (le-ltb c 128 (omega arith), le-ltb c 224 h, lt-ltb c 240 k)

  pub four_bytes : 240 ≤ c → lead_length c ≡ 4
  unfolding lead_length
  four_bytes h = rw (le-ltb c 128 (omega arith), le-ltb c 224 (omega arith), le-ltb c 240 h)

  two : 194 ≤ c → c < 224 → Asks c 1 128
  two h k = record { count = two_bytes (omega arith) k; few = omega arith; above = omega arith; starts = high_byte c (omega arith) }

  three : (low : ℕ) → 128 ≤ low → 224 ≤ c → c < 240 → Asks c 2 low
  three low l h k = record { count = three_bytes h k; few = omega arith; above = l; starts = high_byte c (omega arith) }

  four : (low : ℕ) → 128 ≤ low → 240 ≤ c → Asks c 3 low
  four low l h = record { count = four_bytes h; few = omega arith; above = l; starts = high_byte c (omega arith) }

  pub leads : Leads c (lead c)
  leads =
      by_cases (Leads c) (ltb c 128) _ _ (λ t. let h = ltb-true c 128 t in record { count = one_byte h; few = omega arith; above = omega arith; starts = low_byte c h })
      (λ _. by_cases (Leads c) (ltb c 194) _ _ (λ _. tt)
      (λ t. let a = ltb-false c 194 t in
      by_cases (Leads c) (ltb c 224) _ _ (λ u. two a (ltb-true c 224 u))
      (λ u. let d = ltb-false c 224 u in
      by_cases (Leads c) (eqb c 224) _ _ (λ e. let f = eqb-true c 224 e in three 160 (omega arith) d (omega arith))
      (λ _. by_cases (Leads c) (eqb c 237) _ _ (λ e. let f = eqb-true c 237 e in three 128 (omega arith) d (omega arith))
      (λ _. by_cases (Leads c) (ltb c 240) _ _ (λ e. three 128 (omega arith) d (ltb-true c 240 e))
      (λ e. let g = ltb-false c 240 e in
      by_cases (Leads c) (eqb c 240) _ _ (λ _. four 144 (omega arith) g)
      (λ _. by_cases (Leads c) (ltb c 244) _ _ (λ _. four 128 (omega arith) g)
      (λ _. by_cases (Leads c) (eqb c 244) _ _ (λ _. four 128 (omega arith) g)
      (λ _. tt)))))))))

-- the bytes that are wanted are enough
pub enough : (k low high : ℕ) (t : Bytes) → follows t (wants k low high) ≡ true → follows (take k t) (wants k low high) ≡ true
enough zero low high t e = refl
enough (suc k) low high [] e = e
enough (suc k) low high (d ∷ t) e = go (ltb d low) (ltb high d) e (enough k 128 191 t)
  where
    go : (x y : Bool) → follows t (pick x bad (pick y bad (wants k 128 191))) ≡ true → (follows t (wants k 128 191) ≡ true → follows (take k t) (wants k 128 191) ≡ true)
        → follows (take k t) (pick x bad (pick y bad (wants k 128 191))) ≡ true
    go true y e f = differ (sym e ∙ never_follows t)
    go false true e f = differ (sym e ∙ never_follows t)
    go false false e f = f e
