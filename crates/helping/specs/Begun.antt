-- What the beginning of a helper leaves to be drawn: s is the plan, b the bundle.
use Rattle.std.specs.Prelude.{ℕ, ◌+◌, Bool, List, ◌≡◌, length, Option as RustOption, Some, None}
use Rattle.rules.specs.Bytes.{Bytes}
use Rattle.rules.specs.Bits.{Bits, bits}
use Rattle.rules.specs.Bundle.{body}
use Rattle.parts.specs.Holds.{Holds}
use Rattle.parts.specs.Views.{names_view}
use Rattle.parts.specs.Says.{names_at}
use Rattle.output.specs.declared.Writer.{Writer}
use Rattle.value.specs.declared.Value.{Value}
use Rattle.blocks.specs.Opened.{with_scope, newest}
use Rattle.expand.specs.declared.Options.{Options}
use Rattle.scope.specs.declared.Scope.{Scope}
use Rattle.scope.specs.NameBits.{Covers}
use Rattle.state.specs.declared.RenderContext as state
use Rattle.state.specs.Context.{RenderContext, whole, topped, Current}
use Rattle.state.specs.Setters.{with_template, settled, pushed, finished, finished_within}
use Rattle.state.specs.World.{World}
use Rattle.drawing.specs.Renders.{Renders, Openable, body_rule}
use Rattle.drawing.specs.EachLoop.{each_rule}
use Rattle.drawing.specs.Continues.{Continues}
use Rattle.helping.specs.declared.Next.{Next}
use Rattle.helping.specs.declared.Next.TheVariants.{Done, Body, Within, Turns}
use Rattle.helping.specs.declared.Begun as code
use Rattle.helping.specs.Decided.{helper_rule}

-- what is returned, with its scopes, of which the array l tells
pub record Begun : Type 0 where
  pub rc : RenderContext
  pub next : Next

abbrev pub whole_begun : code.Begun → List Scope → Begun
whole_begun r l = record { rc = whole r.rc l; next = r.next }

-- the newest scope stands in its place
abbrev pub topped_begun : code.Begun → List Scope → Begun
topped_begun r l = record { rc = topped r.rc l r.top; next = r.next }

abbrev pub done : RenderContext → Begun
done c = record { rc = c; next = Done }

abbrev pub body_next : RustOption ℕ → RenderContext → Writer → Begun
body_next (Some p) c w = record { rc = with_template c 0; next = Body p }
body_next None c w = done (settled c w)

abbrev pub turns_next : RustOption ℕ → Value → RenderContext → Writer → Begun
turns_next (Some p) v c w = record { rc = c; next = Turns v p }
turns_next None v c w = done (settled c w)

-- the scope of `with` is opened; its names stand at n, and are in the set m
abbrev pub within_next : Bits → ℕ → RustOption ℕ → Value → RenderContext → Writer → ℕ → Begun
within_next b n (Some p) v c w m = record { rc = with_template (pushed c (with_scope v (names_view b n) (newest c)) m) 0; next = Within p }
within_next b n None v c w m = done (settled c w)

-- how many scopes were opened
abbrev pub opened : Next → ℕ
opened Done = 0
opened (Body p) = 0
opened (Within p) = 1
opened (Turns v p) = 0

-- no scope was opened, and x is left
pub record Stays (front : Scope) (r : code.Begun) (x : List Scope → Begun) : Type 0 where
  pub top : r.top ≡ front
  pub is : (l : List Scope) → whole_begun r l ≡ x l

-- the scope of `with` was opened
pub record WithOpened (b : Bytes) (ent : List ℕ) (n p : ℕ) (v : Value) (front : Scope) (rc : state.RenderContext) (r : code.Begun) : Type 0 where
  pub top : r.top ≡ with_scope v (names_view (bits b) n) front
  pub names : ℕ
  pub covers : Covers names b ent r.top
  pub next : r.next ≡ Within p
  pub is : (l : List Scope) → length l ≡ 32 → Current l rc → topped r.rc l r.top ≡ with_template (pushed (whole rc l) r.top names) 0

abbrev pub WithinBegun : Bytes → List ℕ → ℕ → RustOption ℕ → Value → Scope → state.RenderContext → Writer → code.Begun → Type 0
WithinBegun b ent n (Some p) v front rc w r = WithOpened b ent n p v front rc r
WithinBegun b ent n None v front rc w r = Stays front r (λ l. done (settled (whole rc l) w))

-- top is the newest scope: the one that was opened, else the front
pub record TopIs (front : Scope) (rc : state.RenderContext) (r : code.Begun) : Type 0 where
  pub used : r.rc.used ≡ opened r.next + rc.used
  pub count : r.top.count ≡ r.rc.count
  pub same : opened r.next ≡ 0 → r.top ≡ front

-- w is in front of the helper, w₁ is what its beginning leaves
abbrev pub HelperBegun : Bytes → Bytes → Options → World → World → ℕ → ℕ → ℕ → RustOption ℕ → RustOption ℕ → Bool → Next → Type 0
HelperBegun s b o w w₁ d p n tm im before Done = Renders s b o w w₁ (helper_rule b d p before (names_at (bits b) n) tm im)
HelperBegun s b o w w₁ d p n tm im before (Body q) =
    Holds (body 16 d) (bits b) q × Continues s b o w w₁ 0 (body_rule b d q 0) (helper_rule b d p before (names_at (bits b) n) tm im) (finished w.rc.writer)
HelperBegun s b o w w₁ d p n tm im before (Within q) =
    Holds (body 16 d) (bits b) q × Continues s b o w w₁ 1 (body_rule b d q 0) (helper_rule b d p before (names_at (bits b) n) tm im) (finished_within w.rc)
HelperBegun s b o w w₁ d p n tm im before (Turns v q) =
    Holds (body 16 d) (bits b) q × Openable s b w₁ v × Continues s b o w w₁ 0 (each_rule s b w₁ d n q v) (helper_rule b d p before (names_at (bits b) n) tm im) (finished w.rc.writer)
