-- The array and its newest scope while a body is drawn: O is the array in which x₀ was put at k, the place of the newest, when the body began.
use Rattle.std.specs.Prelude.{ℕ, zero, suc, ◌-◌, ◌≤◌, ◌<◌, Bool, true, false, List, [], ◌∷◌, ◌≡◌, refl, eqb, length, get_or, set}
use Rattle.std.specs.Option.{is_some}
use Rattle.std.proofs.Common.{sym, ap, ◌∙◌, subst, arith, length-set, get_or-set_same}
use Rattle.rules.specs.Bytes.{Bytes}
use Rattle.rules.specs.State.{Draw}
use Rattle.rules.specs.Registry.{Registry}
use Rattle.rules.specs.Partial.{Rendering}
use Rattle.output.specs.declared.Writer.{Writer}
use Rattle.expand.specs.declared.Options.{Options}
use Rattle.scope.specs.declared.Scope.{Scope}
use Rattle.scope.specs.Scopes.{blank}
use Rattle.scope.specs.Made.{with_count}
use Rattle.state.specs.declared.RenderContext as code
use Rattle.state.specs.Context.{RenderContext, whole, Front}
use Rattle.state.specs.Setters.{wrote, marked, finished}
use Rattle.state.specs.World.{World, world}
use Rattle.drawing.specs.Renders.{Renders}
use Rattle.drawing.specs.Parts.{before_helper}
use Rattle.plain.specs.Drawn.{left_by}
use Rattle.drawing.specs.Arrays.{front_counted}

set_again : (l : List Scope) (i : ℕ) (c d : Scope) → set (set l i c) i d ≡ set l i d
set_again [] i c d = refl
set_again (x ∷ l) zero c d = refl
set_again (x ∷ l) (suc i) c d = ap (λ (y : List Scope). x ∷ y) (set_again l i c d)

-- l has x there, which knows of all inline partials of q
pub record Topmost (O : List Scope) (k : ℕ) (x₀ : Scope) (q : code.RenderContext) (x : Scope) (l : List Scope) : Type 0 where
  pub newest : x ≡ with_count x₀ q.count
  pub array : l ≡ set O k x

module _ (O : List Scope) (k : ℕ) (x₀ : Scope) (q : code.RenderContext) (x : Scope) (l : List Scope) (sized : length O ≡ 32) (one : 1 ≤ q.used) (most : q.used ≤ 32)
    (at : k ≡ q.used - 1) (B : Topmost O k x₀ q x l) where
  there : get_or (set O k x) k blank ≡ x
  there = get_or-set_same O k x blank (omega (arith, sized, at, one, most))

  pub body_front : Front l q x
  body_front = record {
    is = sym (ap (λ (i : ℕ). get_or l i blank) (sym at) ∙ ap (λ (m : List Scope). get_or m k blank) B.array ∙ there);
    current = ap (λ (c : Scope). c.count) B.newest;
  }

  pub body_sized : length l ≡ 32
  body_sized = ap length B.array ∙ length-set O k x ∙ sized

  -- the array is as it was when the body began, but for what the newest scope gained
  pub body_left : get_or O k blank ≡ x₀ → whole q l ≡ whole q O
  body_left first =
      ap (whole q) (B.array ∙ ap (set O k) B.newest ∙ ap (λ (i : ℕ). set O i (with_count x₀ q.count)) at)
      ∙ front_counted q O sized one most x₀ (sym first ∙ ap (λ (i : ℕ). get_or O i blank) at)

-- r has as many scopes and inline partials as q
pub body_kept : (O : List Scope) (k : ℕ) (x₀ : Scope) (q r : code.RenderContext) (x : Scope) (l : List Scope) → r.count ≡ q.count → Topmost O k x₀ q x l → Topmost O k x₀ r x l
body_kept O k x₀ q r x l e B = record { newest = B.newest ∙ ap (with_count x₀) (sym e); array = B.array }

-- r has more inline partials: the newest scope is put again
module _ (O : List Scope) (k : ℕ) (x₀ : Scope) (q r : code.RenderContext) (x : Scope) (l : List Scope) (sized : length O ≡ 32) (one : 1 ≤ q.used) (most : q.used ≤ 32)
    (at : k ≡ q.used - 1) (used : r.used ≡ q.used) (B : Topmost O k x₀ q x l) (y : Scope) (m : List Scope) (is : y ≡ with_count x r.count) (here : m ≡ set l k y) where
  pub body_gained : Topmost O k x₀ r y m
  body_gained = record {
    newest = is ∙ ap (λ (c : Scope). with_count c r.count) B.newest;
    array = here ∙ ap (λ (i : List Scope). set i k y) B.array ∙ set_again O k x y;
  }

  pub body_same : whole r m ≡ whole r l
  body_same =
      let one' : 1 ≤ r.used = omega (arith, used, one) in
      let most' : r.used ≤ 32 = omega (arith, used, most) in
      let at' : k ≡ r.used - 1 = omega (arith, at, used) in
      ap (whole r) (here ∙ ap (set l k) is ∙ ap (λ (i : ℕ). set l i (with_count x r.count)) at')
      ∙ front_counted r l (body_sized O k x₀ q x l sized one most at B) one' most' x
      ((body_front O k x₀ q x l sized one most at B).is ∙ ap (λ (i : ℕ). get_or l (i - 1) blank) (sym used))

-- the body begins: x₀ was put into l
pub topmost_first : (l : List Scope) (k : ℕ) (x₀ : Scope) (q : code.RenderContext) (O : List Scope) → O ≡ set l k x₀ → x₀.count ≡ q.count → Topmost O k x₀ q x₀ O
topmost_first l k x₀ q O e f = record {
  newest = ap (with_count x₀) f;
  array = e ∙ sym (ap (λ (m : List Scope). set m k x₀) e ∙ set_again l k x₀ x₀);
}

pub topped_there : (l : List Scope) (k : ℕ) (x : Scope) → length (set l k x) ≡ 32 → k < 32 → get_or (set l k x) k blank ≡ x
topped_there l k x e lt = get_or-set_same l k x blank (omega (arith, length-set l k x, e))

-- the same drawing by another name for its array
pub left_of : (s b : Bytes) (o : Options) (c : code.RenderContext) (l m : List Scope) (page texts indent : Bytes) (ent : List ℕ) (rule : Registry → Rendering → Draw) → l ≡ m → {w' : World}
    → Renders s b o (world (whole c l) page texts indent ent) w' rule → Renders s b o (world (whole c m) page texts indent ent) w' rule
left_of s b o c l m page texts indent ent rule e {w'} R = subst (λ (k : List Scope). Renders s b o (world (whole c k) page texts indent ent) w' rule) e R

-- a writer that wrote keeps the scopes
pub wrote_kept : (c : RenderContext) (w : Writer) → ((wrote c w).used ≡ c.used) × ((wrote c w).scopes ≡ c.scopes)
wrote_kept c w = go w.full refl
  where
    go : (t : Bool) → w.full ≡ t → ((wrote c w).used ≡ c.used) × ((wrote c w).scopes ≡ c.scopes)
    go true e = (rw e refl, rw e refl)
    go false e = (rw e refl, rw e refl)

finished_kept : (w : Writer) (c : RenderContext) → ((finished w c).used ≡ c.used) × ((finished w c).scopes ≡ c.scopes)
finished_kept w c = go (is_some c.bad) refl
  where
    go : (t : Bool) → is_some c.bad ≡ t → ((finished w c).used ≡ c.used) × ((finished w c).scopes ≡ c.scopes)
    go true e = (rw e refl, rw e refl)
    go false e = (rw e refl, rw e refl)

-- and so does a helper that writes
pub left_kept : (c : RenderContext) (before : Bool) (u : Writer) → ((left_by c before u).used ≡ c.used) × ((left_by c before u).scopes ≡ c.scopes)
left_kept c before u =
    let m : RenderContext = marked c (before_helper c.writer before) in
    let x : RenderContext = wrote m u in
    ((finished_kept c.writer x).0 ∙ (wrote_kept m u).0, (finished_kept c.writer x).1 ∙ (wrote_kept m u).1)
