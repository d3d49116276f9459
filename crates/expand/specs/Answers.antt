-- What working a parameter out answers: s is the plan, b the bundle, ent the entries of open partials.
use Rattle.std.specs.Prelude.{Option as RustOption, Some, None, Result, Ok, Err, ℕ, ◌+◌, ◌*◌, ◌≤◌, Bool, false, ◌||◌, List, [], ◌∷◌, ◌≡◌, eqb, ltb, length}
use Rattle.std.specs.Option.{option_or}
use Rattle.std.proofs.Math.Option.{Option, none, some}
use Rattle.rules.specs.Bytes.{Bytes, pick, same, ascii}
use Rattle.rules.specs.Json.{Json}
use Rattle.rules.specs.Bits.{bits}
use Rattle.rules.specs.Error as rule
use Rattle.rules.specs.Error.{RenderErrorReason, missing-variable, param-not-found-for-index, scopes-limit, got, bad, wth}
use Rattle.rules.specs.Value.{ScopedJson, render}
use Rattle.rules.specs.State.{RenderContext, blocks, depth}
use Rattle.rules.specs.Registry as registry
use Rattle.rules.specs.Registry.{Registry}
use Rattle.rules.specs.BlockUtil as block-util
use Rattle.rules.specs.HelperIf.{include_zero}
use Rattle.rules.specs.Expand as rules
use Rattle.error.specs.Reasons.{coded, refusal}
use Rattle.error.specs.declared.RenderErrorReason.{RenderErrorReason as Reason}
use Rattle.layout.specs.Text.{text_at}
use Rattle.names.specs.Head.{head_of}
use Rattle.places.specs.Places.{json_at}
use Rattle.value.specs.declared.Value.{Value}
use Rattle.value.specs.declared.Value.TheVariants.{Missing, Empty, Text}
use Rattle.meaning.specs.Meaning.{json_of, scoped_of}
use Rattle.meaning.specs.Standing.{Stands}
use Rattle.meaning.specs.Forms.{Known}
use Rattle.meaning.specs.Means.{Means}
use Rattle.meaning.specs.Truth.{bool_of}
use Rattle.scope.specs.declared.Scope.{Scope}
use Rattle.scope.specs.Scopes.{blocks_of}
use Rattle.scope.specs.Standing.{ScopesStand}
use Rattle.expand.specs.declared.Options.{Options}
use Rattle.expand.specs.declared.HelperDef.{HelperDef}
use Rattle.expand.specs.declared.HelperDef.TheVariants.{Each, With, If, Unless, Lookup, Unknown}
use Rattle.expand.specs.declared.Params.{Params}
use Rattle.expand.specs.declared.Hash.{Hash}
use Rattle.expand.specs.declared.Expanded.{Expanded}

-- what of the registry and the state a helper's value depends on
pub record Alike (used : ℕ) (o : Options) (g : Registry) (st : RenderContext) : Type 0 where
  pub strict : g.options.strict_mode ≡ o.strict
  pub scopes : g.limits.scopes ≡ 32
  pub deep : depth st ≡ used

-- the registry and the state that the code is handed as places and numbers; t is behind the entries in use
pub record Setting (s b : Bytes) (ent : List ℕ) (l : List Scope) (used : ℕ) (o : Options) (g : Registry) (st : RenderContext) (t : ℕ) : Type 0 where
  pub alike : Alike used o g st
  pub plan : g.plan ≡ json_at s 0
  pub recursive : g.options.recursive_lookup ≡ o.recursive_lookup
  pub open_scopes : blocks st ≡ blocks_of s b ent l used
  pub stand : ScopesStand s b ent l used t

-- Answers

-- a refusal, as the code keeps it
pub record Refuses {A : Type 0} (x : rule.Got A) (n : RustOption Reason) : Type 0 where
  pub reason : RenderErrorReason
  pub is : x ≡ bad reason
  pub by_reason : refusal reason ≡ n

-- a value that stands at t; f says what it means
abbrev pub Gives : {A : Type 0} → Bytes → Bytes → List ℕ → ℕ → (Value → A) → rule.Got A → Result Value Reason → Type 0
Gives s b ent t f x (Ok v) = (x ≡ got (f v)) × Stands s b ent t v
Gives s b ent t f x (Err e) = Refuses x (Some e)

-- as a parameter
abbrev pub Expands : Bytes → Bytes → List ℕ → ℕ → rule.Got ScopedJson → Result Value Reason → Type 0
Expands s b ent t x r = Gives s b ent t (scoped_of s b ent) x r

-- as a name: its printed text
abbrev pub name_of : Bytes → Bytes → List ℕ → Value → Bytes
name_of s b ent v = render (json_of s b ent v)

abbrev pub Names : Bytes → Bytes → List ℕ → ℕ → rule.Got Bytes → Result Value Reason → Type 0
Names s b ent t x r = Gives s b ent t (name_of s b ent) x r

-- n is the refusal, if there is one
pub record Works {A : Type 0} (P : A → Type 0) (x : rule.Got A) (n : RustOption Reason) : Type 0 where
  pub fine : n ≡ None → (a : A) × (x ≡ got a) × P a
  pub refused : (n ≡ None → ⊥) → Refuses x n

-- the first two of a list of values
abbrev pub Begins : Bytes → Bytes → List ℕ → List ScopedJson → Value → Value → Type 0
Begins s b ent [] v w = Unit {0}
Begins s b ent (x ∷ []) v w = x ≡ scoped_of s b ent v
Begins s b ent (x ∷ y ∷ l) v w = (x ≡ scoped_of s b ent v) × (y ≡ scoped_of s b ent w)

pub record Front (s b : Bytes) (ent : List ℕ) (t n : ℕ) (v w : Value) (l : List ScopedJson) : Type 0 where
  pub count : n ≡ length l
  pub begins : Begins s b ent l v w
  pub first : Stands s b ent t v
  pub second : Stands s b ent t w

abbrev pub ExpandsAll : Bytes → Bytes → List ℕ → ℕ → ℕ → rule.Got (List ScopedJson) → Params → Type 0
ExpandsAll s b ent t n x r = Works (Front s b ent t n r.first r.second) x r.bad

abbrev pub ExpandsHash : rule.Got (List (Bytes × ScopedJson)) → Hash → Type 0
ExpandsHash x r = Works (λ h. include_zero h ≡ r.zero) x r.bad

pub record IsExpanded (s b : Bytes) (ent : List ℕ) (t : ℕ) (w : Expanded) (e : block-util.Expanded) : Type 0 where
  pub name : e.name ≡ name_of s b ent w.name
  pub name_stands : Stands s b ent t w.name
  pub params : Front s b ent t w.count w.first w.second e.params
  pub zero : include_zero e.hash ≡ w.zero

abbrev pub IsTemplate : Bytes → Bytes → List ℕ → ℕ → rule.Got block-util.Expanded → Expanded → Type 0
IsTemplate s b ent t x w = Works (IsExpanded s b ent t w) x w.bad

-- its values stand, and the table has the entries that are in use
pub record ExpandedHeld (s b : Bytes) (ent : List ℕ) (w : Expanded) : Type 0 where
  pub used : ℕ
  pub room : 2 * used ≤ length ent
  pub name : Stands s b ent used w.name
  pub first : Stands s b ent used w.first
  pub second : Stands s b ent used w.second

-- Helpers

abbrev pub helper_of : Option registry.HelperDef → HelperDef
helper_of none = Unknown
helper_of (some registry.HelperDef.each) = Each
helper_of (some registry.HelperDef.with) = With
helper_of (some registry.HelperDef.if) = If
helper_of (some registry.HelperDef.unless) = Unless
helper_of (some registry.HelperDef.lookup) = Lookup

-- whether x, a string's count and first byte as one number, is that of a helper's name
abbrev pub may_name : ℕ → Bool
may_name x =
    eqb x (head_of (ascii "each"))
    || eqb x (head_of (ascii "with"))
    || eqb x (head_of (ascii "if"))
    || eqb x (head_of (ascii "unless"))
    || eqb x (head_of (ascii "lookup"))

-- bytes as one number, the first the most significant
abbrev pub packed_onto : ℕ → Bytes → ℕ
packed_onto x [] = x
packed_onto x (c ∷ l) = packed_onto (x * 256 + c) l

abbrev pub packed : Bytes → ℕ
packed l = packed_onto 0 l

-- what a helper with no bodies writes is nothing
abbrev pub written : ℕ → Result Value Reason
written n = pick (eqb n 0) (Err (coded param-not-found-for-index)) (Ok Empty)

abbrev pub in_scope : ℕ → Result Value Reason
in_scope used = pick (ltb used 32) (Ok Empty) (Err (coded scopes-limit))

abbrev pub unless_strict : Bool → Value → Result Value Reason
unless_strict strict v = pick strict (Err (coded missing-variable)) (Ok v)

-- what the helper gives
abbrev pub Calls : Bytes → Bytes → List ℕ → ℕ → Options → Expanded → (Registry → RenderContext → block-util.Expanded → rule.Got ScopedJson) → Result Value Reason → Type 0
Calls s b ent used o w f r = (g : Registry) (st : RenderContext) (t : ℕ) (e : block-util.Expanded) → Alike used o g st → IsExpanded s b ent t w e → Expands s b ent t (f g st e) r

-- the same of one that may be refused
abbrev pub Finishes : Bytes → Bytes → List ℕ → ℕ → Options → Expanded → Result Value Reason → Type 0
Finishes s b ent used o w r =
    (g : Registry) (st : RenderContext) (t : ℕ) (x : rule.Got block-util.Expanded) → Alike used o g st → IsTemplate s b ent t x w → Expands s b ent t (wth x (rules.called g st)) r

-- Parts of a list

abbrev pub joined : Result Value Reason → Params → Params
joined (Ok v) l = record { first = v; second = l.first; bad = l.bad }
joined (Err e) l = record { first = Missing; second = Missing; bad = Some e }

abbrev pub gathered : Result Value Reason → ℕ → Params → Hash → Expanded
gathered (Ok v) n ps hs = record { name = v; count = n; first = ps.first; second = ps.second; zero = hs.zero; bad = option_or ps.bad hs.bad }
gathered (Err e) n ps hs = record { name = Missing; count = 0; first = Missing; second = Missing; zero = false; bad = Some e }

-- a call that is the string at q and no hash, with no parameter or one
abbrev pub bare : ℕ → Expanded
bare q = record { name = Text q; count = 0; first = Missing; second = Missing; zero = false; bad = None }

abbrev pub with_one : ℕ → Result Value Reason → Expanded
with_one q (Ok v) = record { name = Text q; count = 1; first = v; second = Missing; zero = false; bad = None }
with_one q (Err e) = record { name = Text q; count = 1; first = Missing; second = Missing; zero = false; bad = Some e }

abbrev pub GotKnown : Bytes → Bytes → Result Value Reason → Type 0
GotKnown s b (Ok v) = Known s b v
GotKnown s b (Err e) = Unit {0}

-- whether includeZero is true, by the key k and the value j, or else by what comes later
abbrev pub zero_or : Bytes → Bool → Json → Bool
zero_or k later j = pick (same k (ascii "includeZero")) (bool_of j) later

pub record PairedIs (s b : Bytes) (p : ℕ) (v : Value) (l x : Hash) : Type 0 where
  pub zero : Means s b v (λ j. x.zero ≡ zero_or (text_at (bits b) p) l.zero j)
  pub bad : x.bad ≡ l.bad

abbrev pub Paired : Bytes → Bytes → ℕ → Result Value Reason → Hash → Hash → Type 0
Paired s b p (Ok v) l x = PairedIs s b p v l x
Paired s b p (Err e) l x = x ≡ record { zero = false; bad = Some e }
