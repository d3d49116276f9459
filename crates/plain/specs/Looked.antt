-- Calls of `lookup` over a path and a literal or another path: s is the plan, b the bundle.
use Rattle.std.specs.Prelude.{ℕ, ◌+◌, ◌*◌, ◌-◌, ◌≤◌, ◌<◌, Bool, true, false, List, ◌⊎◌, ◌≡◌, eqb, ltb, length}
use Rattle.rules.specs.Bytes.{Bytes, pick}
use Rattle.rules.specs.Bits.{Bits, bits}
use Rattle.rules.specs.Layout.{field}
use Rattle.rules.specs.Template as rule
use Rattle.rules.specs.Registry.{get_helper}
use Rattle.rules.specs.HelperLookup.{looked_up}
use Rattle.rules.specs.Bundle.{string, path, literal, param}
use Rattle.layout.specs.Text.{text_at}
use Rattle.parts.specs.Holds.{Holds, end}
use Rattle.parts.specs.Says.{path_at, literal_at}
use Rattle.calls.specs.declared.Parameter.{Parameter}
use Rattle.calls.specs.declared.Parameter.TheVariants as parameter
use Rattle.calls.specs.Calls.{call_at, param_view}
use Rattle.template.specs.Views.{flag_at, call_end}
use Rattle.value.specs.declared.Value.{Value}
use Rattle.value.specs.Numbers.{decoded}
use Rattle.meaning.specs.Meaning.{json_of}
use Rattle.meaning.specs.Standing.{Stands}
use Rattle.scope.specs.declared.Scope.{Scope}
use Rattle.lookup.specs.Answers.{Finds}
use Rattle.lookup.specs.Numbers.{numbered_found}
use Rattle.lookup.specs.Keyed.{LookedNumber}
use Rattle.context.specs.declared.Evaluated.{Evaluated}
use Rattle.context.specs.declared.Evaluated.TheVariants.{BadIndex}
use Rattle.context.specs.Evaluated.{evaluated_of}
use Rattle.context.specs.Start.{Newest, needs_all}
use Rattle.expand.specs.declared.Options.{Options}
use Rattle.expand.specs.declared.HelperDef.{HelperDef}
use Rattle.expand.specs.declared.HelperDef.TheVariants as helper
use Rattle.expand.specs.Answers.{helper_of}
use Rattle.helping.specs.Decided.{Leads}
use Rattle.plain.specs.declared.Lookup.{Lookup}
use Rattle.plain.specs.declared.Lookup.TheVariants.{Paths, Literal, Other}
use Rattle.plain.specs.declared.Shown.{Shown}
use Rattle.plain.specs.declared.Shown.TheVariants as shown

-- What the reader tells

abbrev pub is_lookup : HelperDef → Bool
is_lookup helper.Each = false
is_lookup helper.With = false
is_lookup helper.If = false
is_lookup helper.Unless = false
is_lookup helper.Lookup = true
is_lookup helper.Unknown = false

-- the second parameter ends at f: behind it no pairs, and the last bit
abbrev pub paths_view : Bits → ℕ → ℕ → ℕ → Lookup
paths_view b v k f = pick (ltb 1 (field b 5 f)) Other (Paths v k (eqb (field b 5 f) 1) (f + 5))

abbrev pub literal_view : Bits → ℕ → ℕ → ℕ → Lookup
literal_view b v k f = pick (ltb 1 (field b 5 f)) Other (Literal v k (eqb (field b 5 f) 1) (f + 5))

-- the first one is the path at v
abbrev pub second_by : Bits → ℕ → Parameter → Lookup
second_by b v (parameter.Name q) = Other
second_by b v (parameter.Path q) = paths_view b v q (end path b q)
second_by b v (parameter.Literal q) = literal_view b v q (end literal b q)
second_by b v (parameter.Subexpression q) = Other

abbrev pub second_view : Bits → ℕ → Lookup
second_view b v = second_by b v (param_view b (end path b v))

abbrev pub first_by : Bits → Parameter → Lookup
first_by b (parameter.Name q) = Other
first_by b (parameter.Path q) = second_view b q
first_by b (parameter.Literal q) = Other
first_by b (parameter.Subexpression q) = Other

-- the name ends at q: behind it the count of parameters
abbrev pub first_view : Bits → ℕ → Lookup
first_view b q = pick (eqb (field b 4 q) 2) (first_by b (param_view b (q + 4))) Other

abbrev pub named_by : Bits → Parameter → Lookup
named_by b (parameter.Name q) = pick (is_lookup (helper_of (get_helper (text_at b q)))) (first_view b (end string b q)) Other
named_by b (parameter.Path q) = Other
named_by b (parameter.Literal q) = Other
named_by b (parameter.Subexpression q) = Other

-- the call at p
abbrev pub lookup_view : Bits → ℕ → Lookup
lookup_view b p = named_by b (param_view b p)

-- there stands a path, behind it a parameter, and behind that a count
pub record SecondHolds (d : ℕ) (b : Bits) (v : ℕ) : Type 0 where
  pub here : Holds path b v
  pub behind : Holds (param d) b (end path b v)
  pub fits : end (param d) b (end path b v) + 4 ≤ b.size

-- What it says, and its parts stand

-- the call at p: its name is a string, and it has the path at v and what y says as parameters, and no hash
abbrev pub CallIs : ℕ → Bits → ℕ → ℕ → rule.Parameter → Type 0
CallIs d b p v y = call_at d b p ≡ rule.call (rule.name (text_at b (p + 2))) (rule.pcons (rule.path (path_at b v)) (rule.pcons y rule.pnil)) rule.hnil

-- the helper's name, and what comes behind the call
pub record LookedAt (d : ℕ) (b : Bits) (p : ℕ) (before : Bool) (next : ℕ) : Type 0 where
  pub named : helper.Lookup ≡ helper_of (get_helper (text_at b (p + 2)))
  pub bit : before ≡ flag_at b (call_end d b p)
  pub behind : next ≡ call_end d b p + 1

pub record PathsAre (d : ℕ) (b : Bits) (p v k : ℕ) (before : Bool) (next : ℕ) : Type 0 where
  pub few : CallIs d b p v (rule.path (path_at b k)) × Holds string b (p + 2) × Holds path b v × Holds path b k
  pub at : LookedAt d b p before next

pub record LiteralIs (d : ℕ) (b : Bits) (p v k : ℕ) (before : Bool) (next : ℕ) : Type 0 where
  pub few : CallIs d b p v (rule.literal (literal_at b k)) × Holds string b (p + 2) × Holds path b v × Holds literal b k
  pub at : LookedAt d b p before next

abbrev pub LookupIs : ℕ → Bits → ℕ → Lookup → Type 0
LookupIs d b p (Paths v k before next) = PathsAre d b p v k before next
LookupIs d b p (Literal v k before next) = LiteralIs d b p v k before next
LookupIs d b p Other = Unit {0}

-- What is found, by the front alone

-- a value that stands before entries that have numbers
pub record NearValue (s b : Bytes) (ent : List ℕ) (v : Value) : Type 0 where
  pub top : ℕ
  pub near : top < 1048576
  pub room : 2 * top ≤ length ent
  pub stands : Stands s b ent top v

-- what an expression shows whose call is a lookup, where n is told of it
abbrev pub found_view : ℕ → Bool → Bool → ℕ → Shown
found_view n html before next = pick (ltb n 2) shown.Other (shown.Lookup (n - 2) html before next)

abbrev pub shown_by : Bool → Lookup → ℕ → Shown
shown_by html (Paths v k before next) n = found_view n html before next
shown_by html (Literal v k before next) n = found_view n html before next
shown_by html Other n = shown.Other

module _ (s b : Bytes) (ent : List ℕ) (front : Scope) (names : ℕ) (o : Options) where
  -- what the path at v leads to, whatever scopes are open beneath the front
  abbrev pub LeadsNear : ℕ → Evaluated → Type 0
  LeadsNear v f = (l : List Scope) (used : ℕ) → Newest b ent front names l used → Leads s b ent l used o v f

  -- r is one more than the number of the value that it leads to, or of what is missing; 0 where all scopes are needed, or the path is refused
  pub record Led (v r : ℕ) : Type 0 where
    pub small : r ≤ 4294967296
    pub far : needs_all b ent front names (path_at (bits b) v) ≡ true → r ≡ 0
    pub none : r ≡ 0 → (needs_all b ent front names (path_at (bits b) v) ≡ true) ⊎ LeadsNear v BadIndex
    pub some : (r ≡ 0 → ⊥) → LeadsNear v (evaluated_of r)

  -- r is what the value u has under the value that the path at k leads to: that is always told, but where k is not led
  pub record UnderPath (u : Value) (k r : ℕ) : Type 0 where
    pub key : ℕ
    pub led : Led k key
    pub small : r < 4294967298
    pub known : ltb 0 r ≡ ltb 0 key
    pub told : (key ≡ 0 → ⊥) → Finds s b ent u (looked_up (json_of s b ent u) (json_of s b ent (decoded (key - 1)))) (numbered_found r)

  -- r is what the value that the path at v leads to has, as U says; 0 where v is not led
  pub record Keyed (U : Value → ℕ → Type 0) (v r : ℕ) : Type 0 where
    pub value : ℕ
    pub led : Led v value
    pub small : r < 4294967298
    pub none : value ≡ 0 → r ≡ 0
    pub some : (value ≡ 0 → ⊥) → U (decoded (value - 1)) r

  abbrev pub KeyedPaths : ℕ → ℕ → ℕ → Type 0
  KeyedPaths v k r = Keyed (λ u n. UnderPath u k n) v r

  abbrev pub KeyedLiteral : ℕ → ℕ → ℕ → Type 0
  KeyedLiteral v k r = Keyed (λ u n. LookedNumber s b ent u k n) v r

  -- n is told of the lookup x: 0 where it is none, or nothing is told, 1 where nothing is found, else two more than the number of the value
  abbrev pub Numbered : Lookup → ℕ → Type 0
  Numbered (Paths v k before next) n = KeyedPaths v k n
  Numbered (Literal v k before next) n = KeyedLiteral v k n
  Numbered Other n = n ≡ 0

  -- and the expression with the call at p shows that
  pub record LookupShown (html : Bool) (p : ℕ) (r : Shown) : Type 0 where
    pub number : ℕ
    pub told : Numbered (lookup_view (bits b) p) number
    pub is : r ≡ shown_by html (lookup_view (bits b) p) number
