-- Where a path starts.
use Rattle.std.specs.Prelude.{ℕ, ◌-◌, ◌^◌, ◌<◌, eqb, get_or, Bool, true, false, List, [], ◌∷◌, ◌≡◌, Option as RustOption, Some, None}
use Rattle.std.specs.Int.Bits.{bit_and}
use Rattle.rules.specs.Bytes.{Bytes, pick}
use Rattle.rules.specs.Json.{Json}
use Rattle.rules.specs.Bits.{Bits, bits}
use Rattle.rules.specs.Bundle.{string, seg}
use Rattle.rules.specs.Path.{PathSeg, named, path-root, path_up, Path, relative, local, merge_json_path}
use Rattle.rules.specs.Block.{Block}
use Rattle.rules.specs.Context.{ResolvedPath, without_block_param, visit, parse_json_visitor, is_lone_name, follow}
use Rattle.layout.specs.Text.{text_at}
use Rattle.parts.specs.Holds.{Holds, end, row}
use Rattle.parts.specs.Says.{segment_at, segments_at, path_at}
use Rattle.value.specs.declared.Value.{Value}
use Rattle.value.specs.Numbers.{decoded, Fits}
use Rattle.meaning.specs.Meaning.{is_missing}
use Rattle.meaning.specs.Standing.{Stands}
use Rattle.scope.specs.declared.Scope.{Scope}
use Rattle.scope.specs.Scopes.{blocks_of, blank}
use Rattle.scope.specs.NameBits.{AllCovered, bit_of}
use Rattle.rules.specs.State.{RenderContext, blocks}
use Rattle.rules.specs.Registry.{Registry}
use Rattle.rules.specs.Expand.{evaluate2}
use Rattle.places.specs.Places.{json_at}
use Rattle.context.specs.declared.Evaluated.{Evaluated}
use Rattle.context.specs.declared.Evaluated.TheVariants.{Nothing as Nowhere}
use Rattle.context.specs.Evaluated.{Evaluates, found_of}
use Rattle.context.specs.Near.{NearScopes}
use Rattle.scope.specs.Standing.{ScopesStand}
use Rattle.scope.specs.Names.{resolved, param_of}
use Rattle.context.specs.declared.Start.{Start}

-- the first of the n segments at p is the name at q, and next is the place behind it
pub record FirstIs (b : Bits) (p n q next : ℕ) : Type 0 where
  pub all : Holds (row seg n) b p
  pub some : 0 < n
  pub text : Holds string b q
  pub is : segment_at b p ≡ named (text_at b q)
  pub behind : next ≡ end seg b p

-- without a block name a path leads where all its names lead from v
pub record BasedAt (s b : Bytes) (ent : List ℕ) (l : List Scope) (used t ups : ℕ) (root : Bool) (v : Value) : Type 0 where
  pub leads : (plan : Json) (r : Bool) (segs : List PathSeg)
      → follow plan r (without_block_param segs ups root (blocks_of s b ent l used)) ≡ follow plan r (resolved s b ent v (merge_json_path segs))
  pub stands : Stands s b ent t v
  pub present : is_missing v ≡ false

abbrev pub Based : List Scope → ℕ → ℕ → Bool → Value → Type 0
Based l used ups root v = (s b : Bytes) (ent : List ℕ) (t : ℕ) → ScopesStand s b ent l used t → BasedAt s b ent l used t ups root v

-- what `from` makes of the open scopes leads where the segments that are left lead from the value
pub record OpensAt (s b : Bytes) (ent : List ℕ) (l : List Scope) (used t : ℕ) (from : List Block → ResolvedPath) (x : Start) : Type 0 where
  pub leads : (plan : Json) (r : Bool)
      → follow plan r (from (blocks_of s b ent l used)) ≡ follow plan r (resolved s b ent (decoded x.value) (merge_json_path (segments_at x.left (bits b) x.place)))
  pub stands : Stands s b ent t (decoded x.value)
  pub present : is_missing (decoded x.value) ≡ false

-- of a lone name all is left, or nothing
pub record Opens (b : Bytes) (ent : List ℕ) (l : List Scope) (used : ℕ) (segs : List PathSeg) (from : List Block → ResolvedPath) (x : Start) : Type 0 where
  pub holds : Holds (row seg x.left) (bits b) x.place
  pub lone : is_lone_name segs ≡ true → 0 < x.left → is_lone_name (segments_at x.left (bits b) x.place) ≡ true
  pub at : (s : Bytes) (t : ℕ) → ScopesStand s b ent l used t → OpensAt s b ent l used t from x

-- the n segments at p, from the ups in front on
abbrev pub Starts : Bytes → List ℕ → List Scope → ℕ → ℕ → ℕ → Start → Type 0
Starts b ent l used p n x = Opens b ent l used (segments_at n (bits b) p) (parse_json_visitor (segments_at n (bits b) p)) x

-- the n segments at p, which stand behind the ups of a path
abbrev pub NameStarts : Bytes → List ℕ → List Scope → ℕ → ℕ → ℕ → ℕ → Start → Type 0
NameStarts b ent l used p n ups x =
    (segs : List PathSeg) → merge_json_path segs ≡ merge_json_path (segments_at n (bits b) p)
    → (is_lone_name segs ≡ true → is_lone_name (segments_at n (bits b) p) ≡ true) → Opens b ent l used segs (visit segs ups (segments_at n (bits b) p)) x

abbrev pub started : ℕ → ℕ → ℕ → Start
started v p n = record { value = v; place = p; left = n; far = false }

-- By the front alone

-- the stack l has this front, and the block names of its scopes are in the set
pub record Newest (b : Bytes) (ent : List ℕ) (front : Scope) (names : ℕ) (l : List Scope) (used : ℕ) : Type 0 where
  pub some : 0 < used
  pub is : front ≡ get_or l (used - 1) blank
  pub covered : AllCovered names b ent l used

-- there is such a stack in a call
pub record NearFront (s b : Bytes) (ent : List ℕ) (front : Scope) (names : ℕ) : Type 0 where
  pub stack : List Scope
  pub used : ℕ
  pub newest : Newest b ent front names stack used
  pub near : NearScopes s b ent stack used

-- Whether the front does not tell where a path leads: all scopes are needed

abbrev pub is_nothing : RustOption Value → Bool
is_nothing (Some w) = false
is_nothing None = true

-- a first name that is in the set and no block name of the front
abbrev pub name_needs_all : Bytes → List ℕ → Scope → ℕ → Bytes → Bool
name_needs_all b ent front names k = pick (eqb (bit_and names (2 ^ bit_of k)) 0) false (is_nothing (param_of b ent front k))

abbrev pub segments_need_all : Bytes → List ℕ → Scope → ℕ → List PathSeg → Bool
segments_need_all b ent front names [] = false
segments_need_all b ent front names (named k ∷ r) = name_needs_all b ent front names k
segments_need_all b ent front names (path-root ∷ r) = false
segments_need_all b ent front names (path_up ∷ r) = true

-- a local variable of a scope further out, or a path that starts so
abbrev pub needs_all : Bytes → List ℕ → Scope → ℕ → Path → Bool
needs_all b ent front names (relative raw segs) = segments_need_all b ent front names segs
needs_all b ent front names (local raw level n) = pick (eqb level 0) false true

-- a start in a call
pub record Began (s b : Bytes) (ent : List ℕ) (p n : ℕ) (x : Start) : Type 0 where
  pub stack : List Scope
  pub used : ℕ
  pub near : NearScopes s b ent stack used
  pub starts : Starts b ent stack used p n x

-- What a path leads to

abbrev pub Found : Bytes → Bytes → List ℕ → List Scope → ℕ → Bool → ℕ → Evaluated → Type 0
Found s b ent l used recursive p r =
    (g : Registry) (st : RenderContext) (t : ℕ) → g.plan ≡ json_at s 0 → g.options.recursive_lookup ≡ recursive → blocks st ≡ blocks_of s b ent l used → ScopesStand s b ent l used t
    → Evaluates s b ent t (evaluate2 g st (path_at (bits b) p)) r

abbrev pub ParamFits : RustOption Value → Type 0
ParamFits (Some v) = Fits v
ParamFits None = Unit {0}

abbrev pub said : RustOption Value → Evaluated
said (Some v) = found_of v
said None = Nowhere
