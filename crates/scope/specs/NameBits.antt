-- Sets of names by one bit a name: a name whose bit is clear is not among them.
use Prim.Native.Nat.{ℕ, zero, suc, ◌+◌, ◌-◌, ◌*◌, ◌/◌, ◌%◌, ◌^◌, ◌≤◌, ◌<◌}
use Rattle.std.specs.Prelude.{Bool, true, false, List, [], ◌∷◌, ◌≡◌, eqb, length, get_or, set, Option as RustOption, Some, None}
use Rattle.std.proofs.Math.Option.{Option, none, some}
use Rattle.std.proofs.Math.Path.{refl, ap}
use Rattle.std.proofs.Common.{sym, ap₂, ◌∙◌, subst, arith, pow-suc, pow_pos, eqb-true, get_or-set_same, get_or-set_other}
use Rattle.std.proofs.Math.Nat.{div_self, zero-div}
use Rattle.std.proofs.Math.Pow.{high, ones_split, ones_lt}
use Rattle.std.specs.Int.Bits.{bit_and, bit_or, or_add_and}
use Rattle.std.proofs.lemmas.Nat.{and_shr, and_mask, or_shr, or_mod, and_le_l, and_le_r}
use Rattle.std.proofs.lemmas.Bool.{eqb-false}
use Rattle.rules.specs.Bytes.{Bytes, pick, maybe, same}
use Rattle.rules.specs.Bits.{bits}
use Rattle.rules.specs.Order.{same_eq}
use Rattle.rules.specs.Bundle.{string}
use Rattle.layout.specs.Text.{text_at}
use Rattle.parts.specs.Holds.{end}
use Rattle.meaning.specs.Entries.{place, hash_value}
use Rattle.meaning.specs.Meaning.{merged_of}
use Rattle.meaning.specs.Kept.{Agree}
use Rattle.meaning.specs.Standing.{stands_merged}
use Rattle.value.specs.Numbers.{decoded}
use Rattle.scope.specs.Made.{with_count}
use Rattle.scope.specs.Standing.{ScopeStands, ScopesStand}
use Rattle.value.specs.declared.Value.{Value}
use Rattle.value.specs.declared.Value.TheVariants.{Merged}
use Rattle.scope.specs.declared.Scope.{Scope}
use Rattle.scope.specs.Scopes.{base_of, blank}
use Rattle.scope.specs.Names.{without_path, hash_param, second_value, one_param, two_params, param_by, param_of, first_param, or_param}

-- which bit: by the count of the name and its first byte
abbrev pub bit_at : ℕ → ℕ
bit_at x = (x + x / 8) % 64

abbrev pub bit_of : Bytes → ℕ
bit_of [] = 0
bit_of (y ∷ t) = bit_at (suc (length t) * 256 + y)

pub bit_small : (k : Bytes) → bit_of k < 64
bit_small [] = omega arith
bit_small (y ∷ t) = omega arith

-- the bit i of m is clear
abbrev pub Clear : ℕ → ℕ → Type 0
Clear m i = m / 2 ^ i % 2 ≡ 0

-- the name k is not in the set m
abbrev pub Lacks : ℕ → Bytes → Type 0
Lacks m k = Clear m (bit_of k)

-- what is not in m is no block name of the scope
pub record Covers (m : ℕ) (b : Bytes) (ent : List ℕ) (c : Scope) : Type 0 where
  pub clear : (k : Bytes) → Lacks m k → param_of b ent c k ≡ None

-- of the first n
abbrev pub AllCovered : ℕ → Bytes → List ℕ → List Scope → ℕ → Type 0
AllCovered m b ent l n = (i : ℕ) → i < n → Covers m b ent (get_or l i blank)

-- Bits

pub and_clear : (m i : ℕ) → bit_and m (2 ^ i) ≡ 0 → Clear m i
and_clear m i e =
    let p = pow_pos i in
    let one : 2 ^ i / 2 ^ i ≡ 1 = div_self p in
    let z : bit_and (m / 2 ^ i) 1 ≡ 0 = sym (and_shr m (2 ^ i) i ∙ ap (bit_and (m / 2 ^ i)) one) ∙ ap (λ (x : ℕ). x / 2 ^ i) e ∙ zero-div (2 ^ i) in
    sym (and_mask (m / 2 ^ i) 1) ∙ z

pub or_clear : (x y i : ℕ) → Clear (bit_or x y) i → Clear x i × Clear y i
or_clear x y i e =
    let u : ℕ = x / 2 ^ i % 2 in
    let v : ℕ = y / 2 ^ i % 2 in
    let z : bit_or u v ≡ 0 = sym (ap (λ (n : ℕ). n % 2) (or_shr x y i) ∙ or_mod (x / 2 ^ i) (y / 2 ^ i) 1) ∙ e in
    (omega (arith, or_add_and u v, and_le_l u v, and_le_r u v), omega (arith, or_add_and u v, and_le_l u v, and_le_r u v))

-- its own bit is set
pub own_bit : (i : ℕ) → Clear (2 ^ i) i → ⊥
own_bit i e =
    let p = pow_pos i in
    let one : 2 ^ i / 2 ^ i ≡ 1 = div_self p in
    let f : 1 % 2 ≡ 0 = sym (ap (λ (n : ℕ). n % 2) one) ∙ e in
    omega arith

-- The text t is in the set m

abbrev pub Has : ℕ → Bytes → Type 0
Has m t = (k : Bytes) → Lacks m k → same t k ≡ false

pub has_own : (t : Bytes) → Has (2 ^ bit_of t) t
has_own t k l = go (same t k) refl
  where
    go : (r : Bool) → same t k ≡ r → r ≡ false
    go true e = absurd (own_bit (bit_of t) (subst (λ (u : Bytes). Lacks (2 ^ bit_of t) u) (sym (same_eq t k e)) l))
    go false e = refl

pub has_left : (x y : ℕ) (t : Bytes) → Has x t → Has (bit_or x y) t
has_left x y t h k l = h k (or_clear x y (bit_of k) l).0

pub has_right : (x y : ℕ) (t : Bytes) → Has y t → Has (bit_or x y) t
has_right x y t h k l = h k (or_clear x y (bit_of k) l).1

-- every name is in the set of all
pub full_lacks_none : (k : Bytes) → Lacks 18446744073709551615 k → ⊥
full_lacks_none k l = all_bits (bit_of k) (bit_small k) l
  where
    all_bits : (i : ℕ) → i < 64 → Clear 18446744073709551615 i → ⊥
    all_bits i lt e =
        let j : ℕ = 63 - i in
        let s : suc j + i ≡ 64 = omega arith in
        let f : 18446744073709551615 / 2 ^ i ≡ 2 ^ suc j - 1 = ap (λ (n : ℕ). (2 ^ n - 1) / 2 ^ i) (sym s) ∙ ap (λ (n : ℕ). n / 2 ^ i) (ones_split (suc j) i) ∙ high (2 ^ suc j - 1) i (ones_lt i) in
        let g : 2 ^ suc j ≡ 2 ^ j * 2 = pow-suc 2 j in
        let p = pow_pos j in
        let h : (2 ^ suc j - 1) % 2 ≡ 0 = sym (ap (λ (n : ℕ). n % 2) f) ∙ e in
        omega arith

-- The block names of a scope

module _ (b : Bytes) (ent : List ℕ) where
  pub hash_missed : (k : Bytes) (h n : ℕ) → ((j : ℕ) → j < n → same (text_at (bits b) (place ent (h + j))) k ≡ false) → hash_param b ent k h n ≡ None
  hash_missed k h zero f = refl
  hash_missed k h (suc n) f =
      let x : h + 0 ≡ h = omega arith in
      let e : same (text_at (bits b) (place ent h)) k ≡ false = subst (λ (i : ℕ). same (text_at (bits b) (place ent i)) k ≡ false) x (f 0 (omega arith)) in
      rw e (hash_missed k (suc h) n (λ j lt. let y : h + suc j ≡ suc h + j = omega arith in subst (λ (i : ℕ). same (text_at (bits b) (place ent i)) k ≡ false) y (f (suc j) (omega arith))))

  -- the keys of i hash pairs, and one more
  abbrev pub HasKeys : ℕ → ℕ → ℕ → Type 0
  HasKeys m h n = (k : Bytes) → Lacks m k → (j : ℕ) → j < n → same (text_at (bits b) (place ent (h + j))) k ≡ false

  pub keys_on : (x y h i : ℕ) → HasKeys x h i → Has y (text_at (bits b) (place ent (h + i))) → HasKeys (bit_or x y) h (i + 1)
  keys_on x y h i f g k l j lt = go (eqb j i) refl
    where
      go : (t : Bool) → eqb j i ≡ t → same (text_at (bits b) (place ent (h + j))) k ≡ false
      go true e =
          let z = eqb-true j i e in
          subst (λ (n : ℕ). same (text_at (bits b) (place ent (h + n))) k ≡ false) (sym z) (g k (or_clear x y (bit_of k) l).1)
      go false e = let z = eqb-false j i e in f k (or_clear x y (bit_of k) l).0 j (omega arith)

  module _ (m : ℕ) (c : Scope) where
    pub covers_none : c.kind ≡ 0 → Covers m b ent c
    covers_none e = record { clear = λ k l. ap (param_by b ent c k) e }

    pub covers_one : c.kind ≡ 1 → Has m (text_at (bits b) c.names) → Covers m b ent c
    covers_one e h = record { clear = λ k l. ap (param_by b ent c k) e ∙ ap (λ (t : Bool). pick t (Some (base_of c)) None) (h k l) }

    pub covers_two : c.kind ≡ 2 → Has m (text_at (bits b) c.names) → Has m (text_at (bits b) (end string (bits b) c.names)) → Covers m b ent c
    covers_two e h g = record {
      clear = λ k l.
          ap (param_by b ent c k) e ∙ ap (λ (t : Bool). pick t (Some (second_value c)) (one_param b c k)) (g k l)
          ∙ ap (λ (t : Bool). pick t (Some (base_of c)) None) (h k l);
    }

    pub covers_hash : (i h n : ℕ) → c.kind ≡ suc (suc (suc i)) → base_of c ≡ Merged h n → HasKeys m h n → Covers m b ent c
    covers_hash i h n e f g = record {
      clear = λ k l. ap (param_by b ent c k) e ∙ ap (λ (v : Value). maybe (merged_of v) None (λ z. hash_param b ent k z.0 z.1)) f ∙ hash_missed k h n (g k l);
    }

    pub covers_unmerged : (i : ℕ) → c.kind ≡ suc (suc (suc i)) → merged_of (base_of c) ≡ none → Covers m b ent c
    covers_unmerged i e f = record {
      clear = λ k l. ap (param_by b ent c k) e ∙ ap (λ (o : Option (ℕ × ℕ)). maybe o None (λ z. hash_param b ent k z.0 z.1)) f;
    }

  -- larger sets
  pub covers_left : (x y : ℕ) (c : Scope) → Covers x b ent c → Covers (bit_or x y) b ent c
  covers_left x y c h = record { clear = λ k l. h.clear k (or_clear x y (bit_of k) l).0 }

  pub covers_right : (x y : ℕ) (c : Scope) → Covers y b ent c → Covers (bit_or x y) b ent c
  covers_right x y c h = record { clear = λ k l. h.clear k (or_clear x y (bit_of k) l).1 }

  pub covers_full : (c : Scope) → Covers 18446744073709551615 b ent c
  covers_full c = record { clear = λ k l. absurd (full_lacks_none k l) }

  -- one scope more is open
  pub push_covered : (l : List Scope) (n x y : ℕ) (c : Scope) → n < length l → AllCovered x b ent l n → Covers y b ent c → AllCovered (bit_or x y) b ent (set l n c) (n + 1)
  push_covered l n x y c room a h i lt = go (eqb i n) refl
    where
      go : (t : Bool) → eqb i n ≡ t → Covers (bit_or x y) b ent (get_or (set l n c) i blank)
      go true e =
          let f = eqb-true i n e in
          subst (Covers (bit_or x y) b ent) (sym (ap (λ (j : ℕ). get_or (set l n c) j blank) f ∙ get_or-set_same l n c blank room)) (covers_right x y c h)
      go false e =
          let f = eqb-false i n e in
          subst (Covers (bit_or x y) b ent) (sym (get_or-set_other l n i c blank f)) (covers_left x y (get_or l i blank) (a i (omega arith)))

  -- a name that is not in the set is in no scope
  pub none_first : (l : List Scope) (n m : ℕ) (k : Bytes) → AllCovered m b ent l n → Lacks m k → first_param b ent l k n ≡ None
  unfolding first_param
  none_first l zero m k a x = refl
  none_first l (suc n) m k a x = ap (λ (z : RustOption Value). or_param z (first_param b ent l k n)) ((a n (omega arith)).clear k x) ∙ none_first l n m k (λ i lt. a i (omega arith)) x

-- Entries behind the scope come and go

module _ (s b : Bytes) (ent ent' : List ℕ) where
  hash_same : (u : ℕ) → Agree ent ent' u → (k : Bytes) (e n : ℕ) → e + n ≤ u → hash_param b ent k e n ≡ hash_param b ent' k e n
  hash_same u a k e zero le = refl
  hash_same u a k e (suc n) le =
      let p : place ent e ≡ place ent' e = a.same (2 * e + 1) (omega arith) in
      let v : hash_value ent e ≡ hash_value ent' e = ap (λ (x : ℕ). decoded (x % 4294967296)) (a.same (2 * e) (omega arith)) in
      ap₂ (λ (q : ℕ) (w : Value). pick (same (text_at (bits b) q) k) (Some (without_path w)) (hash_param b ent k (suc e) n)) p v
      ∙ ap (pick (same (text_at (bits b) (place ent' e)) k) (Some (without_path (hash_value ent' e)))) (hash_same u a k (suc e) n (omega arith))

  param_same : (c : Scope) (u : ℕ) → Agree ent ent' u → c.inline ≤ u → ScopeStands s b ent c → (k : Bytes) (n : ℕ) → param_by b ent c k n ≡ param_by b ent' c k n
  param_same c u a le st k zero = refl
  param_same c u a le st k (suc zero) = refl
  param_same c u a le st k (suc (suc zero)) = refl
  param_same c u a le st k (suc (suc (suc n))) = go (merged_of (base_of c)) refl
    where
      go : (o : Option (ℕ × ℕ)) → merged_of (base_of c) ≡ o → maybe o None (λ m. hash_param b ent k m.0 m.1) ≡ maybe o None (λ m. hash_param b ent' k m.0 m.1)
      go none e = refl
      go (some m) e =
          let x = stands_merged s b ent c.inline (base_of c) m.0 m.1 e st.base in
          hash_same u a k m.0 m.1 (omega (arith, x.within))

  pub covered_kept : (m : ℕ) (l : List Scope) (n t : ℕ) → Agree ent ent' t → ScopesStand s b ent l n t → AllCovered m b ent l n → AllCovered m b ent' l n
  covered_kept m l n t a st h i lt =
      let c = get_or l i blank in
      record { clear = λ k x. sym (param_same c t a (omega (arith, st.within i lt)) (st.each i lt) k c.kind) ∙ (h i lt).clear k x }

-- Only the first n scopes count
pub covered_alike : (m : ℕ) (b : Bytes) (ent : List ℕ) (l l' : List Scope) (n : ℕ) → ((i : ℕ) → i < n → get_or l' i blank ≡ get_or l i blank) → AllCovered m b ent l n → AllCovered m b ent l' n
covered_alike m b ent l l' n e h i lt = subst (Covers m b ent) (sym (e i lt)) (h i lt)

-- more inline partials leave a scope's block names
pub covers_counted : (m : ℕ) (b : Bytes) (ent : List ℕ) (c : Scope) (n : ℕ) → Covers m b ent c → Covers m b ent (with_count c n)
covers_counted m b ent c n h = record { clear = λ k x. same_by k c.kind ∙ h.clear k x }
  where
    same_by : (k : Bytes) (i : ℕ) → param_by b ent (with_count c n) k i ≡ param_by b ent c k i
    same_by k zero = refl
    same_by k (suc zero) = refl
    same_by k (suc (suc zero)) = refl
    same_by k (suc (suc (suc i))) = refl

-- and so does another turn: the names of `each` are the same
pub covers_turn : (m : ℕ) (b : Bytes) (ent : List ℕ) (c d : Scope) → c.names ≡ d.names → c.kind ≡ d.kind → c.kind ≤ 2 → Covers m b ent c → Covers m b ent d
covers_turn m b ent c d e f le h = record { clear = λ k x. at k c.kind le (h.clear k x) (ap (param_by b ent d k) (sym f)) }
  where
    not_said : (y : Bool) (v : Value) (r : RustOption Value) → pick y (Some v) r ≡ None → y ≡ false
    not_said true v r z = let o : ◌≡◌ {A = ℕ} 0 1 = cc in absurd (omega arith)
    not_said false v r z = refl

    one : (k : Bytes) → one_param b c k ≡ None → one_param b d k ≡ None
    one k z =
        let n = not_said (same (text_at (bits b) c.names) k) (base_of c) None z in
        ap (λ (q : ℕ). pick (same (text_at (bits b) q) k) (Some (base_of d)) None) (sym e) ∙ ap (λ (y : Bool). pick y (Some (base_of d)) None) n

    two : (k : Bytes) → two_params b c k ≡ None → two_params b d k ≡ None
    two k z =
        let q : ℕ = end string (bits b) c.names in
        let n = not_said (same (text_at (bits b) q) k) (second_value c) (one_param b c k) z in
        let o : one_param b c k ≡ None = sym (ap (λ (y : Bool). pick y (Some (second_value c)) (one_param b c k)) n) ∙ z in
        ap (λ (a : ℕ). pick (same (text_at (bits b) (end string (bits b) a)) k) (Some (second_value d)) (one_param b d k)) (sym e)
        ∙ ap (λ (y : Bool). pick y (Some (second_value d)) (one_param b d k)) n ∙ one k o

    at : (k : Bytes) (i : ℕ) → i ≤ 2 → param_by b ent c k i ≡ None → param_by b ent d k d.kind ≡ param_by b ent d k i → param_of b ent d k ≡ None
    at k zero le z y = y
    at k (suc zero) le z y = y ∙ one k z
    at k (suc (suc zero)) le z y = y ∙ two k z
    at k (suc (suc (suc i))) le z y = absurd (omega arith)
