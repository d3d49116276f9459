-- How the machine and the length of a character hang together: a text is UTF-8 exactly if it is a run of characters.
use Prim.Native.Nat.{ℕ, zero, suc, ◌+◌, ◌≤◌, ◌<◌}
use native.Mathlib.Nat.{add-zero}
use native.Mathlib.Numerals.{add-one}
use native.Mathlib.Omega.{arith}
use mathlib.Core.Bool.{Bool, true, false, ◌&&◌}
use mathlib.Core.List.{[], ◌∷◌, ◌++◌}
use mathlib.Core.Path.{◌≡◌, refl, sym, ap, subst, ◌∙◌}
use mathlib.Core.Logic.{◌⊎◌, inl, inr}
use lib.Dec.{T, ltb, leb, eqb}
use lib.ListN.{length, drop, take, drop_of_length-le, get_or-eq_default}
use lib.Seq.{drop-cons, drop-drop}
use borrow.Author.Tests.{ltb-true, ltb-false, leb-true, lt-ltb, le-ltb, le-leb, lt-leb, ne_eqb}
use Rattle.rules.specs.Bytes.{Bytes, pick, byte_at, between}
use Rattle.rules.specs.Utf8.{Wants, wants, bad, lead, more, done, follows, utf8, never_follows, tails, length_by, utf8_length, length_inside}
use Rattle.rules.specs.Context.{chars, goes_on, on_head}
use Rattle.utf8.specs.Machine.{begun, after, Run, end, one}
use Rattle.utf8.proofs.Steps.{lead_sane, Sane}

-- Bytes fed one by one

pub after_more : (w : Wants) (l : Bytes) (c : ℕ) → after w (l ++ (c ∷ [])) ≡ more (after w l) c
after_more w [] c = refl
after_more w (d ∷ l) c = after_more (more w d) l c

pub after_done : (w : Wants) (l : Bytes) → done (after w l) ≡ follows l w
after_done w [] = refl
after_done w (d ∷ l) = after_done (more w d) l

pub after_bad : (l : Bytes) → after bad l ≡ bad
after_bad [] = refl
after_bad (d ∷ l) = after_bad l

pub after_append : (w : Wants) (l m : Bytes) → after w (l ++ m) ≡ after (after w l) m
after_append w [] m = refl
after_append w (d ∷ l) m = after_append (more w d) l m

-- FOR A LOOP OVER ANY SOURCE, with w the machine after the bytes l: one byte more, and the end
pub fed_byte : (from : Wants) (l : Bytes) (c : ℕ) (w next : Wants) → w ≡ after from l → next ≡ more w c → next ≡ after from (l ++ (c ∷ []))
fed_byte from l c w next e n = n ∙ ap (λ v. more v c) e ∙ sym (after_more from l c)

pub fed_end : (l : Bytes) (w : Wants) → w ≡ after begun l → done w ≡ utf8 l
fed_end l w e = ap done e ∙ after_done begun l

-- once bad, nothing mends it
pub bad_stays : (w : Wants) (l m : Bytes) → after w l ≡ bad → follows (l ++ m) w ≡ false
bad_stays w l m e = sym (after_done w (l ++ m)) ∙ rw (after_append, e, after_bad)

-- a loop over lent bytes feeds the byte at j
pub follows_next : (s : Bytes) (j : ℕ) (w : Wants) → j < length s → follows (drop j s) w ≡ follows (drop (j + 1) s) (more w (byte_at s j))
follows_next s j w h = ap (λ l. follows l w) (drop-cons s j 0 h) ∙ ap (λ m. follows (drop m s) (more w (byte_at s j))) (sym (add-one j))

pub follows_end : (s : Bytes) (j : ℕ) (w : Wants) → length s ≤ j → follows (drop j s) w ≡ done w
follows_end s j w h = ap (λ l. follows l w) (drop_of_length-le s h)

-- The character at a place

known : (b : Bool) → (b ≡ true) ⊎ (b ≡ false)
known true = inl refl
known false = inr refl

between_no : (low high c : ℕ) → (c < low) ⊎ (high < c) → between low high c ≡ false
between_no low high c (inl h) = rw (lt-leb low c h)
between_no low high c (inr h) = go (known (leb low c))
  where
    go : (leb low c ≡ true) ⊎ (leb low c ≡ false) → (leb low c && leb c high) ≡ false
    go (inl e) = rw (e, lt-leb c high h)
    go (inr e) = rw e

any_bounds : (s : Bytes) (low high : ℕ) → follows s (wants 0 low high) ≡ follows s begun
any_bounds [] low high = refl
any_bounds (c ∷ s) low high = refl

-- a byte that is wanted, and what follows it
wanted_in : (k low high c : ℕ) → low ≤ c → c ≤ high → more (wants (suc k) low high) c ≡ wants k 128 191
wanted_in k low high c l h = rw (le-ltb c low l, le-ltb high c h)

wanted_out : (k low high c : ℕ) → (c < low) ⊎ (high < c) → more (wants (suc k) low high) c ≡ bad
wanted_out k low high c (inl h) = rw (lt-ltb c low h)
wanted_out k low high c (inr h) = go (known (ltb c low))
  where
    go : (ltb c low ≡ true) ⊎ (ltb c low ≡ false) → pick (ltb c low) bad (pick (ltb high c) bad (wants k 128 191)) ≡ bad
    go (inl e) = rw e
    go (inr e) = rw (e, lt-ltb high c h)

where_to : (low high c : ℕ) → ((low ≤ c) × (c ≤ high)) ⊎ ((c < low) ⊎ (high < c))
where_to low high c = go (known (ltb c low)) (known (ltb high c))
  where
    go : (ltb c low ≡ true) ⊎ (ltb c low ≡ false) → (ltb high c ≡ true) ⊎ (ltb high c ≡ false) → ((low ≤ c) × (c ≤ high)) ⊎ ((c < low) ⊎ (high < c))
    go (inl e) f = inr (inl (ltb-true c low e))
    go (inr e) (inl f) = inr (inr (ltb-true high c f))
    go (inr e) (inr f) = inl (ltb-false c low e, ltb-false high c f)

-- the machine goes through the rest of a character exactly if its bytes stand there
pub follows_tails : (k low high : ℕ) (s : Bytes) (j : ℕ) → 0 < low → follows (drop j s) (wants k low high) ≡ pick (tails k low high s j) (utf8 (drop (j + k) s)) false
follows_tails zero low high s j p = any_bounds (drop j s) low high ∙ rw add-zero
follows_tails (suc k) low high s j p = go (follows_tails k 128 191 s (j + 1) (omega arith)) (known (ltb j (length s)))
  where
    Rest : Type 0
    Rest = follows (drop (j + 1) s) (wants k 128 191) ≡ pick (tails k 128 191 s (j + 1)) (utf8 (drop (j + 1 + k) s)) false

    here : Rest → j < length s → ((low ≤ byte_at s j) × (byte_at s j ≤ high)) ⊎ ((byte_at s j < low) ⊎ (high < byte_at s j)) → follows (drop j s) (wants (suc k) low high) ≡ pick (tails (suc k) low high s j) (utf8 (drop (j + suc k) s)) false
    here rest h (inl b) =
        let e : j + 1 + k ≡ j + suc k = omega arith in
        follows_next s j (wants (suc k) low high) h ∙ ap (follows (drop (j + 1) s)) (wanted_in k low high (byte_at s j) b.0 b.1) ∙ rest
        ∙ rw (le-leb low (byte_at s j) b.0, le-leb (byte_at s j) high b.1, e)
    here rest h (inr b) =
        follows_next s j (wants (suc k) low high) h ∙ ap (follows (drop (j + 1) s)) (wanted_out k low high (byte_at s j) b) ∙ never_follows (drop (j + 1) s)
        ∙ rw (between_no low high (byte_at s j) b)

    go : Rest → (ltb j (length s) ≡ true) ⊎ (ltb j (length s) ≡ false) → follows (drop j s) (wants (suc k) low high) ≡ pick (tails (suc k) low high s j) (utf8 (drop (j + suc k) s)) false
    go rest (inl e) = here rest (ltb-true j (length s) e) (where_to low high (byte_at s j))
    go rest (inr e) =
        let past : length s ≤ j = ltb-false j (length s) e in
        rw (drop_of_length-le s past, get_or-eq_default s 0 past, lt-leb low 0 p)

-- THE TIE: where a text has bytes left, it goes on with a character, and the text behind that character
pub utf8_at : (s : Bytes) (i : ℕ) → i < length s → utf8 (drop i s) ≡ pick (eqb (utf8_length s i) 0) false (utf8 (drop (i + utf8_length s i) s))
utf8_at s i h = rw (length_inside s i h) (first (lead (byte_at s i)) (lead_sane (byte_at s i)) refl)
  where
    by : (k low high : ℕ) → follows (drop (i + 1) s) (wants k low high) ≡ pick (tails k low high s (i + 1)) (utf8 (drop (i + 1 + k) s)) false → (tails k low high s (i + 1) ≡ true) ⊎ (tails k low high s (i + 1) ≡ false) → follows (drop (i + 1) s) (wants k low high) ≡ pick (eqb (length_by (wants k low high) s i) 0) false (utf8 (drop (i + length_by (wants k low high) s i) s))
    by k low high e (inl t) =
        let m : i + 1 + k ≡ i + suc k = omega arith in
        e ∙ rw (t, ne_eqb (suc k) 0 (λ z. omega arith), m)
    by k low high e (inr t) = e ∙ rw t

    first : (w : Wants) → Sane w → lead (byte_at s i) ≡ w → utf8 (drop i s) ≡ pick (eqb (length_by (lead (byte_at s i)) s i) 0) false (utf8 (drop (i + length_by (lead (byte_at s i)) s i) s))
    first (wants k low high) sane e =
        follows_next s i begun h ∙ rw e (by k low high (follows_tails k low high s (i + 1) (omega arith)) (known (tails k low high s (i + 1))))
    first bad sane e = follows_next s i begun h ∙ rw e (never_follows (drop (i + 1) s))

-- a reader that has seen a byte other than 0 is inside
pub seen_inside : (s : Bytes) (i : ℕ) → 0 < byte_at s i → i < length s
seen_inside s i p = go (known (ltb i (length s)))
  where
    go : (ltb i (length s) ≡ true) ⊎ (ltb i (length s) ≡ false) → i < length s
    go (inl e) = ltb-true i (length s) e
    go (inr e) = let z = get_or-eq_default s 0 (ltb-false i (length s) e) in omega arith

pub length_few : (s : Bytes) (i : ℕ) → utf8_length s i ≤ 4
unfolding utf8_length
length_few s i = within (ltb i (length s)) (go (lead (byte_at s i)) (lead_sane (byte_at s i)))
  where
    within : (b : Bool) {n : ℕ} → n ≤ 4 → pick b n 0 ≤ 4
    within true h = h
    within false h = omega arith

    chosen : (b : Bool) (k : ℕ) → k ≤ 3 → pick b (suc k) 0 ≤ 4
    chosen true k h = omega arith
    chosen false k h = omega arith

    go : (w : Wants) → Sane w → length_by w s i ≤ 4
    go (wants k low high) sane = chosen (tails k low high s (i + 1)) k sane.0
    go bad sane = omega arith

and_first : (a b : Bool) → (a && b) ≡ true → a ≡ true
and_first true b e = refl
and_first false b e = e

and_second : (a b : Bool) → (a && b) ≡ true → b ≡ true
and_second true b e = e
and_second false b e = absurd (subst T (sym e) tt)

tails_inside : (k low high : ℕ) (s : Bytes) (j : ℕ) → 0 < low → j ≤ length s → tails k low high s j ≡ true → j + k ≤ length s
tails_inside zero low high s j p h e = omega arith
tails_inside (suc k) low high s j p h e =
    let first = and_first (between low high (byte_at s j)) (tails k 128 191 s (j + 1)) e in
    let low_is = leb-true low (byte_at s j) (and_first (leb low (byte_at s j)) (leb (byte_at s j) high) first) in
    let here = seen_inside s j (omega arith) in
    let rest = tails_inside k 128 191 s (j + 1) (omega arith) (omega arith) (and_second (between low high (byte_at s j)) (tails k 128 191 s (j + 1)) e) in
    omega arith

-- a character that stands somewhere stands there whole
pub length_fits : (s : Bytes) (i : ℕ) → i < length s → i + utf8_length s i ≤ length s
length_fits s i h = rw (length_inside s i h) (go (lead (byte_at s i)) (lead_sane (byte_at s i)))
  where
    chosen : (k low high : ℕ) → 128 ≤ low → (tails k low high s (i + 1) ≡ true) ⊎ (tails k low high s (i + 1) ≡ false) → i + pick (tails k low high s (i + 1)) (suc k) 0 ≤ length s
    chosen k low high l (inl t) = let m = tails_inside k low high s (i + 1) (omega arith) (omega arith) t in rw t (omega arith)
    chosen k low high l (inr t) = rw t (omega arith)

    go : (w : Wants) → Sane w → i + length_by w s i ≤ length s
    go (wants k low high) sane = chosen k low high sane.1 (known (tails k low high s (i + 1)))
    go bad sane = omega arith

-- where a valid text goes on, a character stands, from one to four bytes, and the rest is valid
pub record Character (s : Bytes) (i n : ℕ) : Type 0 where
  pub some : 0 < n
  pub few : n ≤ 4
  pub fits : i + n ≤ length s
  pub rest : utf8 (drop (i + n) s) ≡ true

pub character : (s : Bytes) (i : ℕ) → i < length s → utf8 (drop i s) ≡ true → Character s i (utf8_length s i)
character s i h e = go (utf8_length s i) (length_few s i) (length_fits s i h) (sym e ∙ utf8_at s i h)
  where
    go : (n : ℕ) → n ≤ 4 → i + n ≤ length s → true ≡ pick (eqb n 0) false (utf8 (drop (i + n) s)) → Character s i n
    go zero f g t = absurd (subst T t tt)
    go (suc n) f g t = record { some = omega arith; few = f; fits = g; rest = sym (rw (ne_eqb (suc n) 0 (λ z. omega arith)) at t) }

-- the same by what the code gives: a loop from character to character
pub utf8_stop : (s : Bytes) (i : ℕ) → i < length s → utf8_length s i ≡ 0 → utf8 (drop i s) ≡ false
utf8_stop s i h e = utf8_at s i h ∙ rw e

pub utf8_go : (s : Bytes) (i : ℕ) → i < length s → (utf8_length s i ≡ 0 → ⊥) → utf8 (drop i s) ≡ utf8 (drop (i + utf8_length s i) s)
utf8_go s i h e = utf8_at s i h ∙ rw (ne_eqb (utf8_length s i) 0 e)

-- A valid text is a run of characters, and only that

pub run_utf8 : (s : Bytes) {i : ℕ} → Run s i → utf8 (drop i s) ≡ true
run_utf8 s end = follows_end s (length s) begun (omega arith)
run_utf8 s (one {i} n h e r) = utf8_at s i h ∙ rw (e, ne_eqb (suc n) 0 (λ z. omega arith)) (run_utf8 s r)

run_by : (k : ℕ) (s : Bytes) (i : ℕ) → i ≤ length s → length s ≤ i + k → utf8 (drop i s) ≡ true → Run s i
run_by zero s i h m e = let z : length s ≡ i = omega arith in subst (Run s) z end
run_by (suc k) s i h m e = go (run_by k s) (known (ltb i (length s)))
  where
    Shorter : Type 0
    Shorter = (j : ℕ) → j ≤ length s → length s ≤ j + k → utf8 (drop j s) ≡ true → Run s j

    by : Shorter → i < length s → (n : ℕ) → utf8_length s i ≡ n → Character s i n → Run s i
    by shorter l zero z c = let p = c.some in absurd (omega arith)
    by shorter l (suc n) z c = let f = c.fits in one n l z (shorter (i + suc n) f (omega arith) c.rest)

    go : Shorter → (ltb i (length s) ≡ true) ⊎ (ltb i (length s) ≡ false) → Run s i
    go shorter (inl t) = let l = ltb-true i (length s) t in by shorter l (utf8_length s i) refl (character s i l e)
    go shorter (inr t) = let l = ltb-false i (length s) t in let z : length s ≡ i = omega arith in subst (Run s) z end

pub utf8_run : (s : Bytes) → utf8 s ≡ true → Run s 0
utf8_run s e = run_by (length s) s 0 (omega arith) (omega arith) e

-- `chars` gives the same characters

never : {A : Type 0} (b : Bool) → b ≡ false → b ≡ true → A
never b e t = absurd (subst T (sym (sym e ∙ t)) tt)

goes_no : (t : Bytes) (low high : ℕ) → follows t (wants 0 low high) ≡ true → goes_on t ≡ false
goes_no [] low high e = refl
goes_no (d ∷ t) low high e = go (where_to 128 191 d)
  where
    go : ((128 ≤ d) × (d ≤ 191)) ⊎ ((d < 128) ⊎ (191 < d)) → between 128 191 d ≡ false
    go (inl b) =
        let none : lead d ≡ bad = rw (le-ltb d 128 b.0, lt-ltb d 194 (omega arith)) in
        never (follows t (lead d)) (ap (follows t) none ∙ never_follows t) e
    go (inr b) = between_no 128 191 d b

-- a first byte, and as many bytes as it asks for
pub chars_first : (k low high : ℕ) (c : ℕ) (t : Bytes) → 128 ≤ low → high ≤ 191 → follows t (wants k low high) ≡ true → chars (c ∷ t) ≡ (c ∷ take k t) ∷ chars (drop k t)
chars_first zero low high c t l h e = rw (goes_no t low high e)
chars_first (suc k) low high c [] l h e = absurd (subst T (sym e) tt)
chars_first (suc k) low high c (d ∷ t) l h e = go (chars_first k 128 191 d t (omega arith) (omega arith)) (where_to low high d)
  where
    go : (follows t (wants k 128 191) ≡ true → chars (d ∷ t) ≡ (d ∷ take k t) ∷ chars (drop k t)) → ((low ≤ d) × (d ≤ high)) ⊎ ((d < low) ⊎ (high < d)) → chars (c ∷ d ∷ t) ≡ (c ∷ d ∷ take k t) ∷ chars (drop k t)
    go rest (inl b) =
        let f : follows t (wants k 128 191) ≡ true = sym (ap (follows t) (wanted_in k low high d b.0 b.1)) ∙ e in
        let here : chars (c ∷ d ∷ t) ≡ on_head c (chars (d ∷ t)) = rw (le-leb 128 d (omega arith), le-leb d 191 (omega arith)) in
        here ∙ ap (on_head c) (rest f)
    go rest (inr b) = never (follows (d ∷ t) (wants (suc k) low high)) (ap (follows t) (wanted_out k low high d b) ∙ never_follows t) e

pub chars_at : (s : Bytes) (i : ℕ) → i < length s → utf8 (drop i s) ≡ true → chars (drop i s) ≡ take (utf8_length s i) (drop i s) ∷ chars (drop (i + utf8_length s i) s)
chars_at s i h e = rw (length_inside s i h) (go (lead (byte_at s i)) (lead_sane (byte_at s i)) (sym (follows_next s i begun h) ∙ e))
  where
    by : (k low high : ℕ) → 128 ≤ low → high ≤ 191 → follows (drop (i + 1) s) (wants k low high) ≡ true → (tails k low high s (i + 1) ≡ true) ⊎ (tails k low high s (i + 1) ≡ false) → chars (drop i s) ≡ take (length_by (wants k low high) s i) (drop i s) ∷ chars (drop (i + length_by (wants k low high) s i) s)
    by k low high l m f (inl t) =
        let n : i + 1 + k ≡ i + suc k = omega arith in
        let d : drop i s ≡ byte_at s i ∷ drop (i + 1) s = drop-cons s i 0 h ∙ ap (λ j. byte_at s i ∷ drop j s) (sym (add-one i)) in
        rw (t, d, chars_first k low high (byte_at s i) (drop (i + 1) s) l m f, drop-drop, n)
    by k low high l m f (inr t) = never (follows (drop (i + 1) s) (wants k low high)) (follows_tails k low high s (i + 1) (omega arith) ∙ rw t) f

    go : (w : Wants) → Sane w → follows (drop (i + 1) s) w ≡ true → chars (drop i s) ≡ take (length_by w s i) (drop i s) ∷ chars (drop (i + length_by w s i) s)
    go (wants k low high) sane f = by k low high sane.1 sane.2 f (known (tails k low high s (i + 1)))
    go bad sane f = never (follows (drop (i + 1) s) bad) (never_follows (drop (i + 1) s)) f
