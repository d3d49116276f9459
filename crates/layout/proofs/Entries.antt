-- Names, each with a value, read one by one: a test of the whole list that goes by a state is a test of each name as it is met.
use Prim.Native.Nat.{ℕ, suc, ◌+◌, ◌-◌, ◌≤◌, ◌<◌}
use mathlib.Core.Bool.{Bool, true, false, ◌&&◌, ◌||◌}
use mathlib.Core.List.{List, [], ◌∷◌}
use mathlib.Core.Path.{◌≡◌, refl, sym, ap, ◌∙◌}
use native.Mathlib.Omega.{arith}
use Rattle.rules.specs.Bytes.{Bytes, pick}
use Rattle.rules.specs.Bits.{Bits}
use Rattle.rules.specs.Layout.{Read, read, broken, onward, Layout, ◌then◌, dec_all}
use Rattle.rules.specs.Bundle.{string}
use Rattle.layout.specs.Walk.{Place, At, Broken, next, from, past, unmarked, after}
use Rattle.layout.specs.WalkLaws.{or_swap, next_at}
use Rattle.layout.specs.Text.{text_at, string_was}

broken_either : (t : Bool) → Broken ≡ pick t Broken Broken
broken_either true = refl
broken_either false = refl

-- a string that was read, and the place behind it
module _ (b : Bits) (at : ℕ) (m : Bool) (v : Place) (hv : v ≡ after string b (At at m)) where
  text_read : (r : ℕ) (k : Bool) → v ≡ At r k → (string.dec b at ≡ read (text_at b at) r) × (k ≡ m)
  text_read r k e =
      let h = next_at unmarked m (string.dec b at) r k (sym hv ∙ e) in
      (h.1 ∙ ap (λ s. read s r) (sym (string_was b at h.0 r h.1).0), h.2)

  pub text_in : (r : ℕ) (k : Bool) → v ≡ At r k → at + 16 ≤ b.size
  text_in r k e = let h = string_was b at (text_at b at) r (text_read r k e).0 in omega (arith, h.1, h.2)

module _ {W S : Type 0} (test : S → List (Bytes × W) → Bool) (g : List (Bytes × W) → Bool) where
  abbrev tested_from : S → List (Bytes × W) → ℕ → Read (List (Bytes × W))
  tested_from s l r = pick (test s l) (read l r) broken

  -- n entries from a place on, in the state s
  abbrev pub entries : Layout W → ℕ → S → Bits → Place → Place
  entries c n s b p = from g (λ q. onward (dec_all (string then c) n b q) (tested_from s)) p

  pub entry_start : (c : Layout W) (b : Bits) (n : ℕ) (s : S) (p : Place) → entries c (n - 0) s b p ≡ entries c n s b p
  entry_start c b n s p = let e : n - 0 ≡ n = omega arith in rw e

  pub entry_broken : (c : Layout W) (b : Bits) (n : ℕ) (s : S) (p : Place) → p ≡ Broken → Broken ≡ entries c n s b p
  entry_broken c b n s p e = rw e

  pub entry_end : (c : Layout W) (b : Bits) (n i : ℕ) (s : S) (p : Place) → test s [] ≡ true → g [] ≡ false → n ≤ i → p ≡ entries c (n - i) s b p
  entry_end c b n i s p t f h = let e : n - i ≡ 0 = omega arith in rw e (ends p)
    where
      ends : (p : Place) → p ≡ entries c 0 s b p
      ends (At p m) = rw (t, f)
      ends Broken = refl

  module _ (f : W → Bool) (ok : S → Bytes → Bool) (step : S → Bytes → S)
      (more : (s : S) (k : Bytes) (v : W) (l : List (Bytes × W)) → test s ((k, v) ∷ l) ≡ (ok s k && test (step s k) l))
      (adds : (k : Bytes) (v : W) (l : List (Bytes × W)) → g ((k, v) ∷ l) ≡ (f v || g l)) where
    one_test : (t u : Bool) (k : Bytes) (v : W) (l : List (Bytes × W)) (r : ℕ) (m : Bool)
        → next g m (pick (t && u) (read ((k, v) ∷ l) r) broken) ≡ pick t (next g (f v || m) (pick u (read l r) broken)) Broken
    one_test true true k v l r m = ap (λ x. At r (x || m)) (adds k v l) ∙ ap (At r) (or_swap (f v) (g l) m)
    one_test true false k v l r m = refl
    one_test false u k v l r m = refl

    rest_step : (s : S) (k : Bytes) (v : W) (m : Bool) (x : Read (List (Bytes × W)))
        → next g m (onward (onward x (λ l r. read ((k, v) ∷ l) r)) (tested_from s))
        ≡ pick (ok s k) (next g (f v || m) (onward x (tested_from (step s k)))) Broken
    rest_step s k v m (read l r) =
        ap (λ t. next g m (pick t (read ((k, v) ∷ l) r) broken)) (more s k v l) ∙ one_test (ok s k) (test (step s k) l) k v l r m
    rest_step s k v m broken = broken_either (ok s k)

    value_step : (c : Layout W) (n : ℕ) (s : S) (b : Bits) (k : Bytes) (m : Bool) (x : Read W)
        → next g m (onward (onward (onward x (λ v t. read (k, v) t)) (λ e q. onward (dec_all (string then c) n b q) (λ l r. read (e ∷ l) r))) (tested_from s))
        ≡ pick (ok s k) (entries c n (step s k) b (next f m x)) Broken
    value_step c n s b k m (read v t) = rest_step s k v m (dec_all (string then c) n b t)
    value_step c n s b k m broken = broken_either (ok s k)

    -- as a loop meets them: i entries of n are read, the next name stands at `at`, and v is the place behind it
    module _ (c : Layout W) (b : Bits) (n i : ℕ) (lt : i < n) (s : S) (p : Place) (at : ℕ) (m : Bool) (hp : p ≡ At at m) (v : Place)
        (hv : v ≡ after string b (At at m)) where
      abbrev after_name : Read Bytes → Read (List (Bytes × W))
      after_name x =
          onward (onward (onward x (λ x q. onward (c.dec b q) (λ y t. read (x, y) t)))
          (λ e q. onward (dec_all (string then c) (n - (i + 1)) b q) (λ l r. read (e ∷ l) r))) (tested_from s)

      one_more : entries c (n - i) s b p ≡ next g m (after_name (string.dec b at))
      one_more = let e : n - i ≡ suc (n - (i + 1)) = omega arith in rw (e, hp)

      pub entry_none : v ≡ Broken → Broken ≡ entries c (n - i) s b p
      entry_none e = unread (string.dec b at) (sym hv ∙ e) ∙ sym one_more
        where
          unread : (x : Read Bytes) → next unmarked m x ≡ Broken → Broken ≡ next g m (after_name x)
          unread (read k r) h = let z : ◌≡◌ {A = ℕ} 0 1 = cc in absurd (omega arith)
          unread broken h = refl

      module _ (r : ℕ) (k : Bool) (e : v ≡ At r k) (t : Bool) (ht : t ≡ ok s (text_at b at)) where
        entry_at : entries c (n - i) s b p ≡ pick t (entries c (n - (i + 1)) (step s (text_at b at)) b (past f c b (At r k))) Broken
        entry_at =
            let h = text_read b at m v hv r k e in
            one_more ∙ ap (λ x. next g m (after_name x)) h.0
            ∙ value_step c (n - (i + 1)) s b (text_at b at) m (c.dec b r)
            ∙ rw (← ht, h.1)

        pub entry_bad : t ≡ false → Broken ≡ entries c (n - i) s b p
        entry_bad h = sym (entry_at ∙ ap (λ t. pick t (entries c (n - (i + 1)) (step s (text_at b at)) b (past f c b (At r k))) Broken) h)

        pub entry_again : t ≡ true → (q : Place) (z : S) → q ≡ past f c b (At r k) → z ≡ step s (text_at b at)
            → entries c (n - (i + 1)) z b q ≡ entries c (n - i) s b p
        entry_again h q z hq hz =
            ap (λ z. entries c (n - (i + 1)) z b q) hz ∙ ap (entries c (n - (i + 1)) (step s (text_at b at)) b) hq
            ∙ sym (entry_at ∙ ap (λ t. pick t (entries c (n - (i + 1)) (step s (text_at b at)) b (past f c b (At r k))) Broken) h)
