-- The array of scopes that stands beside a context while bodies are drawn.
use Rattle.std.specs.Prelude.{ℕ, zero, suc, ◌+◌, ◌-◌, ◌≤◌, Bool, true, false, List, [], ◌∷◌, ◌≡◌, eqb, length, get_or, set, None, Option as RustOption, Some}
use Rattle.error.specs.Reasons.{not_none}
use Rattle.std.specs.Option.{is_some}
use Rattle.std.proofs.Math.Path.{refl}
use Rattle.std.proofs.Common.{sym, ap, ◌∙◌, subst, arith, length-set, get_or-set_same}
use Rattle.std.proofs.lemmas.Bool.{eqb-false}
use Rattle.rules.specs.Bytes.{Bytes, pick}
use Rattle.rules.specs.State.{Draw, err}
use Rattle.rules.specs.Registry.{Registry}
use Rattle.rules.specs.Partial.{Rendering}
use Rattle.scope.specs.declared.Scope.{Scope}
use Rattle.scope.specs.Scopes.{blank}
use Rattle.scope.specs.Made.{with_count}
use Rattle.scope.specs.NameBits.{AllCovered}
use Rattle.context.specs.Near.{NearScopes}
use Rattle.context.specs.Start.{Newest, NearFront}
use Rattle.expand.specs.declared.Options.{Options}
use Rattle.state.specs.declared.RenderContext as code
use Rattle.state.specs.Context.{RenderContext, whole, topped, Current, Front}
use Rattle.state.specs.Current.{gained_current}
use Rattle.state.specs.Setters.{with_scopes, pushed, turned, settled, closed, unless_bad, finished_within}
use Rattle.state.specs.World.{World, world, front, top, error_of, Ready}
use Rattle.texts.specs.Setters.{cleaned, concluded}
use Rattle.drawing.specs.Renders.{Renders}
use Rattle.error.specs.Reasons.{refusal}
use Rattle.error.specs.declared.RenderErrorReason.{RenderErrorReason as Reason}

set_again : (l : List Scope) (i : ℕ) (c d : Scope) → set (set l i c) i d ≡ set l i d
set_again [] i c d = refl
set_again (x ∷ l) zero c d = refl
set_again (x ∷ l) (suc i) c d = ap (λ (y : List Scope). x ∷ y) (set_again l i c d)

-- with other scopes
abbrev with_list : code.RenderContext → List Scope → RenderContext
with_list q l = with_scopes (whole q []) l q.used q.total

-- l is the array of q
module _ (q : code.RenderContext) (l : List Scope) (sized : length l ≡ 32) (one : 1 ≤ q.used) (most : q.used ≤ 32) where
  abbrev k : ℕ
  k = q.used - 1

  -- an array that knows of all inline partials says the scopes as they are
  pub whole_current : Current l q → (whole q l).scopes ≡ l
  whole_current e = gained_current l q.used q.count sized most e

  pub whole_newest : get_or (whole q l).scopes k blank ≡ with_count (get_or l k blank) q.count
  whole_newest = get_or-set_same l k (with_count (get_or l k blank) q.count) blank (omega arith)

  -- q' has the same scopes: it is q with another part changed
  module _ (q' : code.RenderContext) (c : RenderContext) (is : whole q' l ≡ c) (used : c.used ≡ q.used) (scopes : c.scopes ≡ (whole q l).scopes) where
    used_kept : q'.used ≡ q.used
    used_kept = ap (λ (x : RenderContext). x.used) is ∙ used

    pub count_kept : q'.count ≡ q.count
    count_kept =
        let e : q'.used - 1 ≡ k = ap (λ (n : ℕ). n - 1) used_kept in
        let f : (get_or (whole q' l).scopes (q'.used - 1) blank).count ≡ q'.count = ap (λ (x : Scope). x.count) (get_or-set_same l (q'.used - 1) (with_count (get_or l (q'.used - 1) blank) q'.count) blank (omega arith)) in
        sym f ∙ ap (λ (x : RenderContext). (get_or x.scopes (q'.used - 1) blank).count) is
        ∙ ap (λ (x : List Scope). (get_or x (q'.used - 1) blank).count) scopes ∙ ap (λ (n : ℕ). (get_or (whole q l).scopes n blank).count) e ∙ ap (λ (x : Scope). x.count) whole_newest

    pub current_kept : Current l q → Current l q'
    current_kept h = ap (λ (n : ℕ). (get_or l (n - 1) blank).count) used_kept ∙ h ∙ sym count_kept

    pub front_kept : (x : Scope) → Front l q x → Front l q' x
    front_kept x f = record { is = f.is ∙ ap (λ (n : ℕ). get_or l (n - 1) blank) (sym used_kept); current = f.current ∙ sym count_kept }

  here : (x : Scope) → get_or (set l k x) k blank ≡ x
  here x = get_or-set_same l k x blank (omega arith)

  -- where x stands in the place of the newest
  topped_scopes : (x : Scope) → (topped q l x).scopes ≡ set l k (with_count x q.count)
  topped_scopes x = ap (λ (y : Scope). set (set l k x) k (with_count y q.count)) (here x) ∙ set_again l k x (with_count x q.count)

  topped_length : (x : Scope) → length (set l k x) ≡ 32
  topped_length x = length-set l k x ∙ sized

  pub topped_newest : (x : Scope) → get_or (topped q l x).scopes k blank ≡ with_count x q.count
  topped_newest x = ap (λ (y : List Scope). get_or y k blank) (topped_scopes x) ∙ here (with_count x q.count)

  -- how many inline partials x says it has does not matter
  pub topped_counted : (x : Scope) (n : ℕ) → topped q l (with_count x n) ≡ topped q l x
  topped_counted x n = ap (with_list q) (topped_scopes (with_count x n) ∙ sym (topped_scopes x))

  -- another scope in its place, which knows of all
  pub topped_turned : (x c : Scope) → c.count ≡ q.count → topped q l c ≡ turned (topped q l x) c
  topped_turned x c e =
      ap (with_list q)
      (topped_scopes c ∙ ap (λ (n : ℕ). set l k (with_count c n)) (sym e)
      ∙ sym (ap (λ (y : List Scope). set y k c) (topped_scopes x) ∙ set_again l k (with_count x q.count) c))

  -- put in its place, it is the newest
  pub front_put : (x : Scope) → x.count ≡ q.count → Front (set l k x) q x
  front_put x e = record { is = sym (here x); current = e }

  -- x is the newest of the array
  module _ (x : Scope) (f : x ≡ get_or l k blank) where
    pub front_set : set l k x ≡ l
    front_set = ap (set l k) f ∙ gained_current l q.used (get_or l k blank).count sized most refl

    pub front_topped : topped q l x ≡ whole q l
    front_topped = ap (whole q) front_set

    -- and it gained inline partials
    pub front_counted : topped q l (with_count x q.count) ≡ whole q l
    front_counted = topped_counted x q.count ∙ front_topped

-- A scope is opened

-- c stands behind the scopes of q
pub pushed_topped : (r q : code.RenderContext) (l : List Scope) (c : Scope) (m : ℕ) → whole r (set l q.used c) ≡ pushed (whole q l) c m → topped r l c ≡ pushed (whole q l) c m
pushed_topped r q l c m e =
    let n : r.used ≡ q.used + 1 = ap (λ (x : RenderContext). x.used) e in
    let i : r.used - 1 ≡ q.used = omega arith in
    ap (λ (j : ℕ). whole r (set l j c)) i ∙ e

-- x is the newest of the array, so this knows of all inline partials
pub front_current : (l : List Scope) (q : code.RenderContext) (x : Scope) → Front l q x → Current l q
front_current l q x f = ap (λ (y : Scope). y.count) (sym f.is) ∙ f.current

-- A context that may be drawn from, with its array l

module _ (s b : Bytes) (q : code.RenderContext) (l : List Scope) (p t i : Bytes) (e : List ℕ) (r : Ready s b (world (whole q l) p t i e)) where
  abbrev w : World
  w = world (whole q l) p t i e

  pub array_sized : length l ≡ 32
  array_sized = sym (length-set l (q.used - 1) (with_count (get_or l (q.used - 1) blank) q.count)) ∙ r.sized

  -- it is kept in 16 bits
  pub count_small : q.count ≤ 4096
  count_small =
      let n : (front w).count ≡ q.count = ap (λ (x : Scope). x.count) (whole_newest q l array_sized r.one r.most) in
      omega (arith, n, r.enough, r.few)

  pub array_scopes : Current l q → (whole q l).scopes ≡ l
  array_scopes c = whole_current q l array_sized r.one r.most c

  pub array_near : Current l q → NearScopes s b e l q.used
  array_near c = subst (λ (k : List Scope). NearScopes s b e k q.used) (array_scopes c) (record { top = top w; near = omega (arith, r.enough, r.few); stand = r.scopes })

  pub array_covered : Current l q → AllCovered q.names b e l q.used
  array_covered c = subst (λ (k : List Scope). AllCovered q.names b e k q.used) (array_scopes c) r.covered

  -- as it is known by its newest scope alone
  pub array_newest : (x : Scope) → Front l q x → Newest b e x q.names l q.used
  array_newest x f = record { some = r.one; is = f.is; covered = array_covered (front_current l q x f) }

  pub array_near_front : (x : Scope) → Front l q x → NearFront s b e x q.names
  array_near_front x f = record { stack = l; used = q.used; newest = array_newest x f; near = array_near (front_current l q x f) }

-- A refusal: it does not matter which array stands beside its context

module _ (s b : Bytes) (o : Options) (w : World) (q : code.RenderContext) (l m : List Scope) (p t i : Bytes) (e : List ℕ) (rule : Registry → Rendering → Draw) where
  error_any : error_of b (whole q m) ≡ error_of b (whole q l)
  unfolding error_of
  error_any = refl

  pub refused_any : (q.bad ≡ None → ⊥) → Renders s b o w (world (whole q m) p t i e) rule → Renders s b o w (world (whole q l) p t i e) rule
  refused_any n d = record {
    at = λ f le. record { fine = λ z. absurd (n z); refused = λ z. (d.at f le).refused n ∙ ap err error_any };
  }

  -- what is done behind a drawing unless it was refused, by a function that does not look at the array
  unless_any : (f : RenderContext → RenderContext) → f (whole q m) ≡ f (whole q l) → Renders s b o w (world (unless_bad f (whole q m)) p t i e) rule → Renders s b o w (world (unless_bad f (whole q l)) p t i e) rule
  unless_any f same = go q.bad refl
    where
      go : (y : RustOption Reason) → q.bad ≡ y → Renders s b o w (world (pick (is_some y) (whole q m) (f (whole q m))) p t i e) rule
          → Renders s b o w (world (pick (is_some y) (whole q l) (f (whole q l))) p t i e) rule
      go None z d = subst (λ (c : RenderContext). Renders s b o w (world c p t i e) rule) same d
      go (Some x) z d = refused_any (not_none x z) d

  pub within_any : (c : RenderContext) → Renders s b o w (world (finished_within c (whole q m)) p t i e) rule → Renders s b o w (world (finished_within c (whole q l)) p t i e) rule
  within_any c = unless_any (λ x. settled (closed c x) c.writer) refl

  pub concluded_any : (c : RenderContext) → Renders s b o w (world (concluded c (whole q m)) p t i e) rule → Renders s b o w (world (concluded c (whole q l)) p t i e) rule
  concluded_any c = unless_any (λ x. settled (cleaned x c) c.writer) refl
