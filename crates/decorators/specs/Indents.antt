-- The indent in force is a prefix of a lent buffer; an element's own indent is a string of the bundle.
use Rattle.std.specs.Prelude.{ℕ, ◌+◌, ◌-◌, ◌≤◌, ◌<◌, Bool, true, false, ◌||◌, [], ◌++◌, ◌≡◌, refl, leb, length, take, drop, Option as RustOption, Some, None}
use Rattle.std.proofs.Math.Option.{Option, none, some}
use Rattle.std.proofs.Common.{sym, ap, ap₂, ◌∙◌, arith, length-append, length-take-le, take_at, le-leb, leb-true, leb-false}
use Rattle.std.proofs.lemmas.List.Edits.{sets, sets-eq}
use Rattle.std.proofs.lemmas.Bool.{lt-leb}
use Rattle.rules.specs.Bytes.{Bytes, pick, maybe}
use Rattle.rules.specs.Bits.{Bits}
use Rattle.rules.specs.Bundle.{string}
use Rattle.rules.specs.Registry.{Registry}
use Rattle.rules.specs.Render.{join_indent, indent_fits, is_some}
use Rattle.rules.specs.State.{text_size}
use Rattle.layout.specs.Text.{text_at}
use Rattle.parts.specs.Holds.{Holds}

-- an element's own indent
abbrev pub own : Bits → RustOption ℕ → Option Bytes
own b (Some p) = some (text_at b p)
own b None = none

abbrev pub OwnStands : Bits → RustOption ℕ → Type 0
OwnStands b (Some p) = Holds string b p
OwnStands b None = Unit {0}

abbrev pub bytes_of : Option Bytes → Bytes
bytes_of i = maybe i [] (λ t. t)

-- the first n bytes of the buffer, where there is an indent
abbrev pub in_force : Bool → ℕ → Bytes → Option Bytes
in_force has n l = pick has (some (take n l)) none

pub size_is : (i : Option Bytes) → text_size i ≡ length (bytes_of i)
size_is none = refl
size_is (some t) = refl

-- joined, an indent has the bytes of both
pub fits_is : (g : Registry) (i j : Option Bytes) → g.limits.indent ≡ 256 → indent_fits g (join_indent i j) ≡ leb (text_size i + text_size j) 256
fits_is g none none e = sym (le-leb 0 256 (omega arith))
fits_is g none (some w) e = let z : 0 + length w ≡ length w = omega arith in rw (z, e)
fits_is g (some v) none e = let z : length v + 0 ≡ length v = omega arith in rw (e, z)
fits_is g (some v) (some w) e = rw (length-append, e)

-- the buffer with an indent stored behind the one in force
pub appended : (l w : Bytes) (n : ℕ) → n + length w ≤ length l → take (n + length w) (sets l n w) ≡ take n l ++ w
appended l w n le =
    let e : length (take n l) ≡ n = length-take-le n l (omega arith) in
    ap (take (n + length w)) (sets-eq w l n le) ∙ take_at (take n l ++ w) (drop (n + length w) l) (n + length w) (length-append (take n l) w ∙ ap (λ (k : ℕ). k + length w) e)

-- what is then in force is the joined indent
pub join_is : (has : Bool) (n : ℕ) (l : Bytes) (j : Option Bytes) → (has ≡ false → n ≡ 0) → n + text_size j ≤ length l
    → in_force (has || is_some j) (n + text_size j) (sets l n (bytes_of j)) ≡ join_indent (in_force has n l) j
join_is true n l none e le = let z : n + 0 ≡ n = omega arith in rw z
join_is false n l none e le = refl
join_is true n l (some w) e le = ap some (appended l w n le)
join_is false n l (some w) e le = ap some (appended l w n le ∙ ap (λ (k : ℕ). take k l ++ w) (e refl))

-- Against the code

fits_so : (m n : ℕ) → m ≤ 256 → leb n (256 - m) ≡ leb (m + n) 256
fits_so m n le = go (leb n (256 - m)) refl
  where
    go : (y : Bool) → leb n (256 - m) ≡ y → y ≡ leb (m + n) 256
    go true e = let h : n ≤ 256 - m = leb-true n (256 - m) e in sym (le-leb (m + n) 256 (omega arith))
    go false e = let h : 256 - m < n = leb-false n (256 - m) e in sym (lt-leb (m + n) 256 (omega arith))

module _ (g : Registry) (has : Bool) (v : Bytes) (m n : ℕ) (j : Option Bytes) (limit : g.limits.indent ≡ 256) (len : length v ≡ m) (size : n ≡ text_size j) where
  pub fits_alone : has ≡ false → leb n 256 ≡ indent_fits g (join_indent (pick has (some v) none) j)
  fits_alone e =
      let z : 0 + text_size j ≡ n = omega (arith, size) in
      sym (ap (λ (x : Bool). indent_fits g (join_indent (pick x (some v) none) j)) e ∙ fits_is g none j limit ∙ ap (λ (k : ℕ). leb k 256) z)

  both : has ≡ true → indent_fits g (join_indent (pick has (some v) none) j) ≡ leb (m + n) 256
  both e =
      ap (λ (x : Bool). indent_fits g (join_indent (pick x (some v) none) j)) e ∙ fits_is g (some v) j limit
      ∙ ap₂ (λ (x y : ℕ). leb (x + y) 256) len (sym size)

  pub fits_joined : has ≡ true → m ≤ 256 → leb n (256 - m) ≡ indent_fits g (join_indent (pick has (some v) none) j)
  fits_joined e le = fits_so m n le ∙ sym (both e)

  pub fits_never : has ≡ true → 256 < m → false ≡ indent_fits g (join_indent (pick has (some v) none) j)
  fits_never e lt = sym (both e ∙ lt-leb (m + n) 256 (omega arith))
