-- Parameters, hash pairs and calls.
use Prim.Native.Nat.{ℕ, zero, suc, ◌+◌, ◌-◌, ◌≤◌, ◌<◌}
use mathlib.Core.Bool.{Bool, true, false, ◌&&◌, ◌||◌}
use mathlib.Core.List.{List, [], ◌∷◌}
use mathlib.Core.Logic.{inl, inr}
use mathlib.Core.Option.{Option, none, some}
use mathlib.Core.Path.{◌≡◌, refl, sym, ap, ◌∙◌}
use native.Mathlib.Omega.{arith}
use lib.Dec.{leb, ltb}
use borrow.Author.Tests.{lt-ltb, le-ltb, eq-eqb, ne_eqb}
use Rattle.rules.specs.Bytes.{Bytes, pick, before}
use Rattle.rules.specs.Template.{Parameter, Call}
use Rattle.rules.specs.Bits.{Bits}
use Rattle.rules.specs.Layout.{Read, read, broken, onward, Layout, field, ◌then◌, shaped, dec_all, tagged}
use Rattle.rules.specs.LayoutLaws.{not_read, mapped_was, pick_was, shaped_was, tagged_was}
use Rattle.rules.specs.Bundle.{string, path, literal, params_make, ascend_from, ascending, params, pairs, CallShape, call_out, call_make, call_of}
use Rattle.rules.specs.Bundle.{ParamShape, param_out, param_make, param, name_or_path, params_context, call_context}
use Rattle.layout.specs.Walk.{Place, At, Broken, next, from, past, unmarked, after, number_at, ahead, marked}
use Rattle.layout.specs.WalkLaws.{or_false, past_shaped, past_ext, past_then, headed, counted_is, kind_is, kind_none}
use Rattle.layout.specs.Arms.{param_kinds, param_0, param_1, param_2, param_3}
use Rattle.layout.specs.Text.{text_at}
use Rattle.layout.specs.Names.{key_before, key_ok}
use Rattle.layout.proofs.Entries.{entries, entry_start, entry_broken, entry_end, entry_none, entry_bad, entry_again}

-- Parameters, at a depth that is left

pub param_deep : (d : ℕ) (b : Bits) (p : Place) → d ≡ 0 → Broken ≡ after (param d) b p
param_deep d b p e = rw e (none p)
  where
    none : (p : Place) → Broken ≡ after (param 0) b p
    none (At p s) = refl
    none Broken = refl

module _ (d : ℕ) (h : d ≡ 0 → ⊥) (b : Bits) (p q : Place) (n : ℕ) (hn : n ≡ number_at b 2 p) (hq : q ≡ ahead b 2 p) where
  abbrev inner : Layout Call
  inner = call_of (param (d - 1))

  here : after (shaped param_out param_make (tagged 2 (param_kinds inner))) b p ≡ after (param d) b p
  here = let e : suc (d - 1) ≡ d = omega arith in ap (λ (d : ℕ). after (param d) b p) e

  pub param_name : n ≡ 0 → after string b q ≡ after (param d) b p
  param_name e = kind_is unmarked param_out param_make 2 (param_kinds inner) b p q n hn hq 0 string inl (param_0 inner) e ∙ here

  pub param_path : n ≡ 1 → after path b q ≡ after (param d) b p
  param_path e = kind_is unmarked param_out param_make 2 (param_kinds inner) b p q n hn hq 1 path (λ x. inr (inl x)) (param_1 inner) e ∙ here

  pub param_literal : n ≡ 2 → after literal b q ≡ after (param d) b p
  param_literal e = kind_is unmarked param_out param_make 2 (param_kinds inner) b p q n hn hq 2 literal (λ x. inr (inr (inl x))) (param_2 inner) e ∙ here

  pub param_call : n ≡ 3 → after (call_of (param (d - 1))) b q ≡ after (param d) b p
  param_call e = kind_is unmarked param_out param_make 2 (param_kinds inner) b p q n hn hq 3 inner (λ x. inr (inr (inr (inl x)))) (param_3 inner) e ∙ here

  pub param_other : 3 < n → Broken ≡ after (param d) b p
  param_other l = kind_none unmarked param_out param_make 2 (param_kinds inner) b p q n hn hq (suc (suc (suc (suc (n - 4))))) (λ q. refl) (omega arith) ∙ here

pub call_is : (c : Layout Parameter) (b : Bits) (p : Place) → after (pairs c) b (after (params c) b (after c b p)) ≡ after (call_of c) b p
call_is c b p =
    sym (past_shaped unmarked call_out call_make (c then params c then pairs c) b p ∙ past_then unmarked unmarked c (params c then pairs c) b p
    ∙ past_then unmarked unmarked (params c) (pairs c) b (after c b p))

-- Hash pairs: each key after the one before it

abbrev pub ascends : Option Bytes → List (Bytes × Parameter) → Bool
ascends none l = ascending l
ascends (some k) l = ascend_from k l

abbrev next_key : Option Bytes → Bytes → Option Bytes
next_key k s = some s

ascends_more : (k : Option Bytes) (s : Bytes) (v : Parameter) (l : List (Bytes × Parameter)) → ascends k ((s, v) ∷ l) ≡ (key_ok k s && ascends (some s) l)
ascends_more none s v l = refl
ascends_more (some k) s v l = refl

ascends_none : (k : Option Bytes) → ascends k [] ≡ true
ascends_none none = refl
ascends_none (some k) = refl

-- n pairs from a place on, the key k before them
abbrev pub pairs_left : Layout Parameter → ℕ → Option Bytes → Bits → Place → Place
pairs_left c n k b p = entries ascends unmarked c n k b p

pub pairs_is : (c : Layout Parameter) (b : Bits) (p q : Place) (n : ℕ) → n ≡ number_at b 4 p → q ≡ ahead b 4 p
    → pairs_left c n none b q ≡ after (pairs c) b p
pairs_is c b p q n hn hq =
    rw (hn, hq) (sym (headed unmarked (λ x. onward (onward x (λ n q. dec_all (string then c) n b q)) (λ l r. pick (ascending l) (read l r) broken)) refl 4 b p))

pub pairs_start : (c : Layout Parameter) (b : Bits) (n : ℕ) (p : Place) → pairs_left c (n - 0) (key_before b 0 0) b p ≡ pairs_left c n none b p
pairs_start c b n p = entry_start ascends unmarked c b n none p

module _ (c : Layout Parameter) (b : Bits) (n i prev : ℕ) (p : Place) where
  pub pairs_broken : p ≡ Broken → Broken ≡ pairs_left c (n - i) (key_before b i prev) b p
  pairs_broken e = entry_broken ascends unmarked c b (n - i) (key_before b i prev) p e

  pub pairs_end : n ≤ i → p ≡ pairs_left c (n - i) (key_before b i prev) b p
  pairs_end h = entry_end ascends unmarked c b n i (key_before b i prev) p (ascends_none (key_before b i prev)) refl h

  module _ (lt : i < n) (at : ℕ) (m : Bool) (hp : p ≡ At at m) (v : Place) (hv : v ≡ after string b (At at m)) where
    pub pairs_none : v ≡ Broken → Broken ≡ pairs_left c (n - i) (key_before b i prev) b p
    pairs_none e =
        entry_none ascends unmarked unmarked key_ok next_key ascends_more (λ k v l. refl) c b n i lt (key_before b i prev) p at m hp v hv e

    module _ (r : ℕ) (k : Bool) (e : v ≡ At r k) (t : Bool) (ht : t ≡ key_ok (key_before b i prev) (text_at b at)) where
      pub pairs_order : t ≡ false → Broken ≡ pairs_left c (n - i) (key_before b i prev) b p
      pairs_order f =
          entry_bad ascends unmarked unmarked key_ok next_key ascends_more (λ k v l. refl) c b n i lt (key_before b i prev) p at m hp v hv r k e t ht f

      pub pairs_again : t ≡ true → (q : Place) → q ≡ after c b (At r k)
          → pairs_left c (n - (i + 1)) (key_before b (i + 1) at) b q ≡ pairs_left c (n - i) (key_before b i prev) b p
      pairs_again f q hq =
          entry_again ascends unmarked unmarked key_ok next_key ascends_more (λ k v l. refl) c b n i lt (key_before b i prev) p at m hp v hv r k e t ht f q
          (key_before b (i + 1) at) hq (ap (λ t. pick {A = Option Bytes} t none (some (text_at b at))) (ne_eqb (i + 1) 0 (omega arith)))

pub first_key : (b : Bits) (i prev : ℕ) (s : Bytes) → i ≡ 0 → true ≡ key_ok (key_before b i prev) s
first_key b i prev s e = rw (eq-eqb i 0 e)

pub later_key : (b : Bits) (i prev : ℕ) (s : Bytes) (t : Bool) → (i ≡ 0 → ⊥) → t ≡ before (text_at b prev) s → t ≡ key_ok (key_before b i prev) s
later_key b i prev s t h e = rw (ne_eqb i 0 h) e

-- A partial's first parameter: its kind is the tag that stands behind the count

kind_says : (c : Layout Call) (b : Bits) (r k : ℕ) (y : ParamShape) (z : ℕ) → (param_kinds c).dec k b r ≡ read y z → ltb k 2 ≡ name_or_path (param_make y)
kind_says c b r zero y z h = ap (λ y. name_or_path (param_make y)) (mapped_was (string.dec b r) inl y z h).2
kind_says c b r (suc zero) y z h =
    let m = mapped_was (path.dec b r) (λ x. inr (inl x)) y z (sym ((param_1 c).reads b r) ∙ h) in ap (λ y. name_or_path (param_make y)) m.2
kind_says c b r (suc (suc zero)) y z h =
    let m = mapped_was (literal.dec b r) (λ x. inr (inr (inl x))) y z (sym ((param_2 c).reads b r) ∙ h) in ap (λ y. name_or_path (param_make y)) m.2
kind_says c b r (suc (suc (suc zero))) y z h =
    let m = mapped_was (c.dec b r) (λ x. inr (inr (inr (inl x)))) y z (sym ((param_3 c).reads b r) ∙ h) in ap (λ y. name_or_path (param_make y)) m.2
kind_says c b r (suc (suc (suc (suc k)))) y z h = not_read h

param_kind : (d : ℕ) (b : Bits) (p : ℕ) (x : Parameter) (q : ℕ) → (param d).dec b p ≡ read x q → ltb (field b 2 p) 2 ≡ name_or_path x
param_kind zero b p x q h = not_read h
param_kind (suc d) b p x q h =
    let s = shaped_was param_out param_make (tagged 2 (param_kinds (call_of (param d)))) b p x q h in
    let t = tagged_was 2 (param_kinds (call_of (param d))) b p s.0 q s.1 in
    let n = pick_was (leb (p + 2) b.size) (field b 2 p) t.0 (p + 2) t.1 t.2 in
    ap (λ (k : ℕ). ltb k 2) n.1 ∙ kind_says (call_of (param d)) b t.1 t.0 s.0 q t.3 ∙ ap name_or_path s.2

abbrev first_context : List Parameter → Bool
first_context l = params_context (params_make l)

marked_twice : {A : Type 0} (c : Layout A) (b : Bits) (p : Place) → after c b (marked p) ≡ marked (after c b p)
marked_twice {A} c b (At p s) = at (c.dec b p)
  where
    at : (x : Read A) → next unmarked true x ≡ marked (next unmarked s x)
    at (read a q) = refl
    at broken = refl
marked_twice c b Broken = refl

abbrev some_of : ℕ → Bool
some_of zero = false
some_of (suc n) = true

some_is : (n : ℕ) → (n ≡ 0 → ⊥) → some_of n ≡ true
some_is zero h = absurd (h refl)
some_is (suc n) h = refl

-- n parameters from the place q on, and k the tag of the first
module _ (d : ℕ) (b : Bits) where
  firsts : (n : ℕ) (q : Place) (k : ℕ) → k ≡ number_at b 2 q
      → from first_context (dec_all (param d) n b) q ≡ pick (some_of n && ltb k 2) (marked (from unmarked (dec_all (param d) n b) q)) (from unmarked (dec_all (param d) n b) q)
  firsts zero (At q s) k e = refl
  firsts zero Broken k e = refl
  firsts (suc n) (At q s) k e = first ((param d).dec b q) refl
    where
      first : (x : Read Parameter) → (param d).dec b q ≡ x
          → next first_context s (onward x (λ a r. onward (dec_all (param d) n b r) (λ l z. read (a ∷ l) z)))
          ≡ pick (ltb k 2) (marked (next unmarked s (onward x (λ a r. onward (dec_all (param d) n b r) (λ l z. read (a ∷ l) z)))))
          (next unmarked s (onward x (λ a r. onward (dec_all (param d) n b r) (λ l z. read (a ∷ l) z))))
      first (read a r) h = rw (e, param_kind d b q a r h) (rest (name_or_path a) (dec_all (param d) n b r) refl)
        where
          rest : (t : Bool) (y : Read (List Parameter)) → name_or_path a ≡ t
              → next first_context s (onward y (λ l z. read (a ∷ l) z))
              ≡ pick t (marked (next unmarked s (onward y (λ l z. read (a ∷ l) z)))) (next unmarked s (onward y (λ l z. read (a ∷ l) z)))
          rest true (read l z) h = rw h
          rest false (read l z) h = rw h
          rest true broken h = refl
          rest false broken h = refl
      first broken h = either (ltb k 2)
        where
          either : (t : Bool) → Broken ≡ pick t Broken Broken
          either true = refl
          either false = refl
  firsts (suc n) Broken k e = either (ltb k 2)
    where
      either : (t : Bool) → Broken ≡ pick t Broken Broken
      either true = refl
      either false = refl

  -- p is the call's place, q the place behind its name, n the count that stands there and k the tag behind it
  module _ (p q : Place) (n : ℕ) (hq : q ≡ after (param d) b p) (hn : n ≡ number_at b 4 q) (r : Place) (hr : r ≡ after (params (param d)) b q) where
    partial_from : (a : Place) (k : ℕ) → a ≡ ahead b 4 q → k ≡ number_at b 2 a
        → past call_context (call_of (param d)) b p ≡ after (pairs (param d)) b (pick (some_of n && ltb k 2) (marked r) r)
    partial_from a k ha hk =
        let c = param d in
        past_shaped call_context call_out call_make (c then params c then pairs c) b p
        ∙ past_ext _ (λ (x : CallShape). false || (first_context x.1.0 || false)) (c then params c then pairs c) b p (λ x. or_false (first_context x.1.0))
        ∙ past_then unmarked (λ (y : List Parameter × List (Bytes × Parameter)). first_context y.0 || false) c (params c then pairs c) b p
        ∙ past_then first_context unmarked (params c) (pairs c) b (after c b p)
        ∙ ap (λ (x : Place). after (pairs c) b (past first_context (params c) b x)) (sym hq)
        ∙ ap (after (pairs c) b) (sym (counted_is first_context 4 c b q a n hn ha) ∙ firsts n a k hk
        ∙ ap (λ (x : Place). pick (some_of n && ltb k 2) (marked x) x) (counted_is unmarked 4 c b q a n hn ha ∙ sym hr))

    module _ (s : Place) (hs : s ≡ after (pairs (param d)) b r) where
      partial_as : (a : Place) (k : ℕ) → a ≡ ahead b 4 q → k ≡ number_at b 2 a → (t : Bool) → (some_of n && ltb k 2) ≡ t
          → pick t (marked s) s ≡ past call_context (call_of (param d)) b p
      partial_as a k ha hk t ht = picked t ∙ sym (partial_from a k ha hk ∙ ap (λ t. after (pairs (param d)) b (pick t (marked r) r)) ht)
        where
          picked : (t : Bool) → pick t (marked s) s ≡ after (pairs (param d)) b (pick t (marked r) r)
          picked true = ap marked hs ∙ sym (marked_twice (pairs (param d)) b r)
          picked false = hs

      pub partial_none : n ≡ 0 → s ≡ past call_context (call_of (param d)) b p
      partial_none e = partial_as (ahead b 4 q) (number_at b 2 (ahead b 4 q)) refl refl false (rw e)

      module _ (h : n ≡ 0 → ⊥) (a : Place) (k : ℕ) (ha : a ≡ ahead b 4 q) (hk : k ≡ number_at b 2 a) where
        pub partial_other : 2 ≤ k → s ≡ past call_context (call_of (param d)) b p
        partial_other l = partial_as a k ha hk false (rw (some_is n h, le-ltb k 2 l))

        pub partial_named : k < 2 → marked s ≡ past call_context (call_of (param d)) b p
        partial_named l = partial_as a k ha hk true (rw (some_is n h, lt-ltb k 2 l))
