-- What stands at a place. A layout c finds a value at p and a place behind it: `Holds c b p`. Where that is known, the two are
-- `value x c b p`, whatever x, and `end c b p`.
use Rattle.std.specs.Prelude.{ℕ, List, ◌≡◌}
use Rattle.rules.specs.Bits.{Bits}
use Rattle.rules.specs.Layout.{Read, read, broken, Layout, all_fit, enc_all, dec_all}

pub record Holds {A : Type 0} (c : Layout A) (b : Bits) (p : ℕ) : Type 0 where
  pub found : A
  pub behind : ℕ
  pub reads : c.dec b p ≡ read found behind

abbrev pub end_of : {A : Type 0} → Read A → ℕ
end_of (read a q) = q
end_of broken = 0

abbrev pub value_of : {A : Type 0} → A → Read A → A
value_of x (read a q) = a
value_of x broken = x

unfoldable pub end : {A : Type 0} → Layout A → Bits → ℕ → ℕ
end c b p = end_of (c.dec b p)

unfoldable pub value : {A : Type 0} → A → Layout A → Bits → ℕ → A
value x c b p = value_of x (c.dec b p)

-- n parts in a row
abbrev pub row : {A : Type 0} → Layout A → ℕ → Layout (List A)
row c n = record { fits = all_fit c; enc = enc_all c; dec = dec_all c n }
