-- What a printed value is compared with: a text, or lent bytes w. s is the plan, b the bundle.
use Rattle.std.specs.Prelude.{ℕ, ◌≤◌, Bool, true, false, List, [], ◌∷◌, ◌++◌, ◌≡◌, refl, length, drop, Option as RustOption, Some, None}
use Rattle.std.proofs.Math.Option.{Option, none, some}
use Rattle.std.proofs.Common.{sym, ap, ◌∙◌}
use Rattle.rules.specs.Bytes.{Bytes, maybe, same}
use Rattle.rules.specs.Value.{render}
use Rattle.text.specs.Rest as text
use Rattle.text.specs.Strip.{stripped}
use Rattle.text.specs.Laws.{strip_append, strip_all, all_strip}
use Rattle.value.specs.declared.Value.{Value}
use Rattle.meaning.specs.Means.{Means}
use Rattle.print.specs.declared.Target.{Target}
use Rattle.print.specs.declared.Target.TheVariants.{Text, Lent}

-- the bytes that are still to be met
abbrev pub rest : Bytes → Bytes → Bytes → Target → Bytes
rest s b w (Text t) = text.rest s b t
rest s b w (Lent k) = drop k w

abbrev pub Stands : Bytes → Bytes → Bytes → Target → Type 0
Stands s b w (Text t) = text.Stands s b t
Stands s b w (Lent k) = k ≤ length w

abbrev pub Stepped : Bytes → Bytes → Bytes → Target → RustOption (ℕ × Target) → Type 0
Stepped s b w g (Some (c, u)) = (rest s b w g ≡ c ∷ rest s b w u) × Stands s b w u
Stepped s b w g None = rest s b w g ≡ []

-- what is left, or nothing where another thing stands there
abbrev pub left : Bytes → Bytes → Bytes → RustOption Target → Option Bytes
left s b w (Some g) = some (rest s b w g)
left s b w None = none

abbrev pub LeftStands : Bytes → Bytes → Bytes → RustOption Target → Type 0
LeftStands s b w (Some g) = Stands s b w g
LeftStands s b w None = Unit {0}

pub record Stripped (s b w : Bytes) (o : Option Bytes) (r : RustOption Target) : Type 0 where
  pub is : left s b w r ≡ o
  pub stands : LeftStands s b w r

-- where the text of a value was in front
pub record ValueStripped (s b w : Bytes) (v : Value) (g : Target) (r : RustOption Target) : Type 0 where
  pub means : Means s b v (λ j. left s b w r ≡ stripped (render j) (rest s b w g))
  pub stands : LeftStands s b w r

-- stripping on
abbrev pub taken : Bytes → Option Bytes → Option Bytes
taken v o = maybe o none (stripped v)

pub taken_append : (u v : Bytes) (o : Option Bytes) → taken (u ++ v) o ≡ taken v (taken u o)
taken_append u v none = refl
taken_append u v (some l) = strip_append u v l

-- whether it was there, and nothing is left behind it
abbrev pub met : Option Bytes → Bool
met none = false
met (some []) = true
met (some (c ∷ l)) = false

pub met_same : (v l : Bytes) → met (stripped v l) ≡ same v l
met_same v l = go (same v l) refl (stripped v l) refl
  where
    go : (t : Bool) → same v l ≡ t → (o : Option Bytes) → stripped v l ≡ o → met o ≡ t
    go true e none q = let z = sym q ∙ strip_all v l e in cc
    go true e (some []) q = refl
    go true e (some (c ∷ m)) q = let z = sym q ∙ strip_all v l e in cc
    go false e none q = refl
    go false e (some []) q = sym (all_strip v l q) ∙ e
    go false e (some (c ∷ m)) q = refl
