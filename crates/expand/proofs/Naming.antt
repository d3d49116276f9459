-- The helper whose name a text is, by its first byte, and what prints no such name.
use Prim.Native.Nat.{ℕ, zero, suc, ◌+◌, ◌*◌, ◌/◌, ◌%◌, ◌<◌}
use native.Mathlib.Omega.{arith}
use mathlib.Core.Bool.{Bool, true, false}
use mathlib.Core.List.{List, [], ◌∷◌}
use mathlib.Core.Option.{none, some}
use mathlib.Core.Path.{◌≡◌, refl, sym, ap, ap₂, ◌∙◌}
use lib.Dec.{eqb, ltb}
use lib.ListN.{length}
use borrow.Author.Tests.{eq-eqb, ne_eqb, ltb-true}
use types.Run.{OneOf, miss}
use denote.Enum.Declared.{tag_of}
use Rattle.rules.specs.Bytes.{Bytes, pick, same, ascii, digits, digits_onto}
use Rattle.rules.specs.Order.{same_eq, same_refl}
use Rattle.rules.specs.Json.{jbool}
use Rattle.rules.specs.Bits.{Bits}
use Rattle.rules.specs.Layout.{field}
use Rattle.rules.specs.LayoutLaws.{Binary, field_lt}
use Rattle.rules.specs.Value.{render}
use Rattle.rules.specs.Registry as registry
use Rattle.rules.specs.Registry.{get_helper}
use Rattle.bits.specs.Fields.{field_none, field_append}
use Rattle.bits.specs.Packed.{bytes_at, bytes_length}
use Rattle.layout.specs.Text.{text_at}
use Rattle.names.specs.Head.{head_of, count_of}
use Rattle.value.specs.declared.Value.{Value}
use Rattle.meaning.specs.contracts.Form.{the_type as form_type_lem}
use Rattle.meaning.specs.declared.Form.{Form}
use Rattle.meaning.specs.declared.Form.TheVariants.{Null, Boolean, Unsigned, Negative, String, List as Row, Object, Merged}
use Rattle.meaning.specs.Forms.{Formed}
use Rattle.meaning.specs.Means.{Means, means}
use Rattle.expand.specs.declared.HelperDef.{HelperDef}
use Rattle.expand.specs.declared.HelperDef.TheVariants.{Each, With, If, Unless, Lookup, Unknown}
use Rattle.expand.specs.Answers.{helper_of, packed_onto, packed}

pub get_empty : (n : Bytes) → n ≡ [] → Unknown ≡ helper_of (get_helper n)
get_empty n e = rw e

-- n has the first byte c
module _ (n l : Bytes) (c : ℕ) (e : n ≡ c ∷ l) where
  module _ (r : HelperDef) where
    pub get_each : c ≡ 101 → r ≡ pick (same n (ascii "each")) Each Unknown → r ≡ helper_of (get_helper n)
    get_each h q = q ∙ rw (e, h) (go (same (101 ∷ l) (ascii "each")))
      where
        go : (x : Bool) → pick x Each Unknown ≡ helper_of (pick x (some registry.HelperDef.each) none)
        go true = refl
        go false = refl

    pub get_with : c ≡ 119 → r ≡ pick (same n (ascii "with")) With Unknown → r ≡ helper_of (get_helper n)
    get_with h q = q ∙ rw (e, h) (go (same (119 ∷ l) (ascii "with")))
      where
        go : (x : Bool) → pick x With Unknown ≡ helper_of (pick x (some registry.HelperDef.with) none)
        go true = refl
        go false = refl

    pub get_if : c ≡ 105 → r ≡ pick (same n (ascii "if")) If Unknown → r ≡ helper_of (get_helper n)
    get_if h q = q ∙ rw (e, h) (go (same (105 ∷ l) (ascii "if")))
      where
        go : (x : Bool) → pick x If Unknown ≡ helper_of (pick x (some registry.HelperDef.if) none)
        go true = refl
        go false = refl

    pub get_unless : c ≡ 117 → r ≡ pick (same n (ascii "unless")) Unless Unknown → r ≡ helper_of (get_helper n)
    get_unless h q = q ∙ rw (e, h) (go (same (117 ∷ l) (ascii "unless")))
      where
        go : (x : Bool) → pick x Unless Unknown ≡ helper_of (pick x (some registry.HelperDef.unless) none)
        go true = refl
        go false = refl

    pub get_lookup : c ≡ 108 → r ≡ pick (same n (ascii "lookup")) Lookup Unknown → r ≡ helper_of (get_helper n)
    get_lookup h q = q ∙ rw (e, h) (go (same (108 ∷ l) (ascii "lookup")))
      where
        go : (x : Bool) → pick x Lookup Unknown ≡ helper_of (pick x (some registry.HelperDef.lookup) none)
        go true = refl
        go false = refl

  pub get_none : (c ≡ 101 → ⊥) → (c ≡ 119 → ⊥) → (c ≡ 105 → ⊥) → (c ≡ 117 → ⊥) → (c ≡ 108 → ⊥) → Unknown ≡ helper_of (get_helper n)
  get_none f g h i j = rw (e, ne_eqb c 101 f, ne_eqb c 119 g, ne_eqb c 105 h, ne_eqb c 117 i, ne_eqb c 108 j)

-- Bytes compared as one number

abbrev Small : Bytes → Type 0
Small [] = Unit {0}
Small (c ∷ l) = (c < 256) × Small l

packed_differ : (l t : Bytes) (x y : ℕ) → length l ≡ length t → Small l → Small t → packed_onto x l ≡ packed_onto y t → (x ≡ y) × (l ≡ t)
packed_differ [] [] x y n a c e = (e, refl)
packed_differ [] (d ∷ t) x y n a c e = absurd (omega (arith, n))
packed_differ (d ∷ l) [] x y n a c e = absurd (omega (arith, n))
packed_differ (d ∷ l) (f ∷ t) x y n a c e =
    let z = packed_differ l t (x * 256 + d) (y * 256 + f) (omega (arith, n)) a.1 c.1 e in
    let u : d ≡ f = omega (arith, z.0, a.0, c.0) in
    (omega (arith, z.0, u), ap₂ ◌∷◌ u z.1)

module _ (b : Bits) (bin : Binary b) where
  bytes_small : (q n : ℕ) → Small (bytes_at b q n)
  unfolding bytes_at
  bytes_small q zero = tt
  bytes_small q (suc n) = (field_lt b bin 8 q, bytes_small (q + 8) n)

  -- w bits, and behind them n bytes
  field_packed : (n w q : ℕ) → packed_onto (field b w q) (bytes_at b (q + w) n) ≡ field b (w + 8 * n) q
  unfolding bytes_at
  field_packed zero w q =
      let e : w + 8 * 0 ≡ w = omega arith in
      rw e
  field_packed (suc n) w q =
      let e : w + 8 * suc n ≡ w + 8 + 8 * n = omega arith in
      let f : q + w + 8 ≡ q + (w + 8) = omega arith in
      rw (e, f, ← field_append b w 8 q) (field_packed n (w + 8) q)

  pub packed_same : (q : ℕ) (t : Bytes) → Small t → eqb (field b (8 * length t) q) (packed t) ≡ same (bytes_at b q (length t)) t
  packed_same q t st = go (same (bytes_at b q (length t)) t) refl
    where
      clash : true ≡ false → ⊥
      clash h = let n : ◌≡◌ {A = ℕ} 0 1 = cc in omega arith

      whole : packed (bytes_at b q (length t)) ≡ field b (8 * length t) q
      whole =
          let z : q + 0 ≡ q = omega arith in
          let n : 0 + 8 * length t ≡ 8 * length t = omega arith in
          ap₂ (λ (x m : ℕ). packed_onto x (bytes_at b m (length t))) (sym (field_none b q)) (sym z) ∙ field_packed (length t) 0 q ∙ ap (λ (m : ℕ). field b m q) n

      go : (c : Bool) → same (bytes_at b q (length t)) t ≡ c → eqb (field b (8 * length t) q) (packed t) ≡ c
      go true e = eq-eqb _ _ (sym whole ∙ ap packed (same_eq (bytes_at b q (length t)) t e))
      go false e =
          ne_eqb _ _
          (λ k.
          let z = (packed_differ (bytes_at b q (length t)) t 0 0 (bytes_length b q (length t)) (bytes_small q (length t)) st (whole ∙ k)).1 in
          clash (sym (same_refl (bytes_at b q (length t))) ∙ ap (same (bytes_at b q (length t))) z ∙ e))

-- the string at p, whose count and first byte are known
pub text_packed : (b : Bits) → Binary b → (p : ℕ) (c : ℕ) (l : Bytes) → c < 256 → field b 24 p ≡ head_of (c ∷ l) → Small (c ∷ l)
    → eqb (field b (8 * suc (length l)) (p + 16)) (packed (c ∷ l)) ≡ same (text_at b p) (c ∷ l)
text_packed b bin p c l lt e st = packed_same b bin (p + 16) (c ∷ l) st ∙ ap (λ (m : ℕ). same (bytes_at b (p + 16) m) (c ∷ l)) (sym (count_of b p bin c l lt e))

-- the number of a name is x, and what is read is told apart from it
pub by_bits : (h : HelperDef) (f x y : ℕ) {u : Bool} (r : HelperDef) → r ≡ pick (eqb f x) h Unknown → x ≡ y → eqb f y ≡ u → r ≡ pick u h Unknown
by_bits h f x y r e q k = e ∙ ap (λ (z : ℕ). pick (eqb f z) h Unknown) q ∙ ap (λ (t : Bool). pick t h Unknown) k

-- Digits

record Digital (l : Bytes) : Type 0 where
  pub first : ℕ
  pub more : Bytes
  pub is : l ≡ first ∷ more
  pub low : first < 58

digit : (n : ℕ) (acc : Bytes) → Digital ((48 + n % 10) ∷ acc)
digit n acc = record { first = 48 + n % 10; more = acc; is = refl; low = omega arith }

digital_step : (f n : ℕ) (acc : Bytes) → Digital (digits_onto f (n / 10) ((48 + n % 10) ∷ acc)) → Digital (digits_onto (suc f) n acc)
digital_step f n acc r = go (ltb n 10) refl
  where
    go : (t : Bool) → ltb n 10 ≡ t → Digital (pick t ((48 + n) ∷ acc) (digits_onto f (n / 10) ((48 + n % 10) ∷ acc)))
    go true e = record { first = 48 + n; more = acc; is = refl; low = omega (arith, ltb-true n 10 e) }
    go false e = r

digital_onto : (f n : ℕ) (acc : Bytes) → Digital acc → Digital (digits_onto f n acc)
digital_onto zero n acc h = h
digital_onto (suc f) n acc h = digital_step f n acc (digital_onto f (n / 10) ((48 + n % 10) ∷ acc) (digit n acc))

get_digits : (n : ℕ) → Unknown ≡ helper_of (get_helper (digits n))
get_digits n =
    let d = digital_step 19 n [] (digital_onto 19 (n / 10) ((48 + n % 10) ∷ []) (digit n [])) in
    get_none (digits n) d.more d.first d.is (λ z. omega (arith, d.low)) (λ z. omega (arith, d.low)) (λ z. omega (arith, d.low)) (λ z. omega (arith, d.low)) (λ z. omega (arith, d.low))

-- only a string prints the name of a helper
pub get_other : (s b : Bytes) (v : Value) (f : Form) → OneOf (0 ∷ 1 ∷ 2 ∷ 3 ∷ 5 ∷ 6 ∷ 7 ∷ []) (tag_of form_type_lem f) → Formed s b v f → Means s b v (λ j. Unknown ≡ helper_of (get_helper (render j)))
get_other s b v Null k h = means s b _ v Null h refl
get_other s b v (Boolean t) k h = means s b _ v (Boolean t) h (go t)
  where
    go : (t : Bool) → Unknown ≡ helper_of (get_helper (render (jbool t)))
    go true = refl
    go false = refl
get_other s b v (Unsigned n) k h = means s b _ v (Unsigned n) h (get_digits n)
get_other s b v (Negative n) k h = means s b _ v (Negative n) h refl
get_other s b v (String t) k h = absurd (miss (0 ∷ 1 ∷ 2 ∷ 3 ∷ 5 ∷ 6 ∷ 7 ∷ []) 4 tt k)
get_other s b v (Row i) k h = means s b _ v (Row i) h (λ l _ _. refl)
get_other s b v (Object i) k h = means s b _ v (Object i) h (λ m _ _. refl)
get_other s b v (Merged i n) k h = means s b _ v (Merged i n) h (λ m _. refl)
