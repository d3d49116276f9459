-- The newest scope beside the array of the others, as the context changes.
use Rattle.std.specs.Prelude.{ℕ, ◌+◌, ◌-◌, ◌≤◌, ◌<◌, Bool, List, [], ◌≡◌, refl, length, get_or, set, Option as RustOption}
use Rattle.std.proofs.Common.{sym, ap, ◌∙◌, arith, length-set, get_or-set_same}
use Rattle.rules.specs.Bytes.{Bytes}
use Rattle.rules.specs.Bits.{bits}
use Rattle.scope.specs.declared.Scope.{Scope}
use Rattle.scope.specs.Scopes.{blank}
use Rattle.scope.specs.Made.{with_count}
use Rattle.state.specs.declared.RenderContext as code
use Rattle.state.specs.Context.{RenderContext, whole, topped, Current, Front}
use Rattle.state.specs.Current.{same_count}
use Rattle.state.specs.Setters.{counted, pushed, turned, with_template}
use Rattle.texts.specs.Setters.{newest, with_block, text_opened, text_moved, without_text}
use Rattle.drawing.specs.Arrays.{whole_current, topped_newest, topped_turned, front_topped}
use Rattle.opening.specs.Opens.{Tops}
use Rattle.beginning.specs.Opened.{body_context, text_context}

-- v is what f makes of u, whatever array stands beside it
module _ (v u : code.RenderContext) (f : RenderContext → RenderContext) (is : (l : List Scope) → whole v l ≡ f (whole u l)) (used : (c : RenderContext) → (f c).used ≡ c.used) where
  used_is : v.used ≡ u.used
  used_is = ap (λ (c : RenderContext). c.used) (is []) ∙ used (whole u [])

  -- the newest scope goes beside the array
  pub topped_by : (l : List Scope) (x : Scope) → topped v l x ≡ f (topped u l x)
  topped_by l x = ap (λ (n : ℕ). whole v (set l (n - 1) x)) used_is ∙ is (set l (u.used - 1) x)

  module _ (scopes : (c : RenderContext) → (f c).scopes ≡ c.scopes) (most : u.used ≤ 32) where
    pub count_by : v.count ≡ u.count
    count_by = same_count v u used_is most (λ l. ap (λ (c : RenderContext). c.scopes) (is l) ∙ scopes (whole u l))

    pub front_by : (l : List Scope) (x : Scope) → Front l u x → Front l v x
    front_by l x e = record { is = e.is ∙ ap (λ (n : ℕ). get_or l (n - 1) blank) (sym used_is); current = e.current ∙ sym count_by }

    -- it is the newest of the array
    pub front_made : (l : List Scope) (x : Scope) → length l ≡ 32 → 1 ≤ u.used → Front l u x → topped v l x ≡ f (whole u l)
    front_made l x sized one e = topped_by l x ∙ ap f (front_topped u l sized one most x e.is)

-- The newest scope of the array

module _ (c : code.RenderContext) (l : List Scope) (x : Scope) (sized : length l ≡ 32) (one : 1 ≤ c.used) (most : c.used ≤ 32) (e : Front l c x) where
  pub front_current : Current l c
  front_current = ap (λ (y : Scope). y.count) (sym e.is) ∙ e.current

  pub front_array : (whole c l).scopes ≡ l
  front_array = whole_current c l sized one most front_current

  pub front_tops : Tops (whole c l) x c.used c.total
  front_tops = record { is = e.is ∙ ap (λ (k : List Scope). get_or k (c.used - 1) blank) (sym front_array); deep = refl; taken = refl }

-- The length of the array, by that of its scopes
pub array_length : (c : code.RenderContext) (l : List Scope) → length (whole c l).scopes ≡ 32 → length l ≡ 32
array_length c l e = sym (length-set l (c.used - 1) (with_count (get_or l (c.used - 1) blank) c.count)) ∙ e

-- A scope is opened: u₀ is c with x more, and u has t entries in use besides

module _ (c u₀ u : code.RenderContext) (x : Scope) (m t : ℕ)
    (deep : (l : List Scope) (y : Scope) → length l ≡ 32 → Current l c → y.count ≡ 0 → whole u₀ (set l c.used y) ≡ pushed (whole c l) y m)
    (total : (l : List Scope) → whole u l ≡ counted (whole u₀ l) t) (empty : x.count ≡ 0) (lt : c.used < 32)
    (l : List Scope) (sized : length l ≡ 32) (current : Current l c) where
  behind : whole u (set l c.used x) ≡ pushed (counted (whole c l) t) x m
  behind = total (set l c.used x) ∙ ap (λ (y : RenderContext). counted y t) (deep l x sized current empty)

  used_more : u.used ≡ c.used + 1
  used_more = ap (λ (y : RenderContext). y.used) behind

  pub opened_writer : u.writer ≡ c.writer
  opened_writer = ap (λ (y : RenderContext). y.writer) behind

  one : 1 ≤ u.used
  one = omega (arith, used_more)

  most : u.used ≤ 32
  most = omega (arith, used_more)

  pub opened_top : topped u l x ≡ pushed (counted (whole c l) t) x m
  opened_top = let e : u.used - 1 ≡ c.used = omega (arith, used_more) in ap (λ (n : ℕ). whole u (set l n x)) e ∙ behind

  -- it has no inline partials yet
  pub opened_count : u.count ≡ 0
  opened_count =
      let e : u.used - 1 ≡ c.used = omega (arith, used_more) in
      let long : length (whole c l).scopes ≡ 32 = length-set l (c.used - 1) (with_count (get_or l (c.used - 1) blank) c.count) ∙ sized in
      let f : get_or (topped u l x).scopes (u.used - 1) blank ≡ x =
      ap (λ (y : RenderContext). get_or y.scopes (u.used - 1) blank) opened_top
      ∙ ap (λ (n : ℕ). get_or (set (whole c l).scopes c.used x) n blank) e ∙ get_or-set_same (whole c l).scopes c.used x blank (omega (arith, long)) in
      ap (λ (y : Scope). y.count) (sym (topped_newest u l sized one most x) ∙ f) ∙ empty

  newest_is : newest (topped u l x) ≡ x
  newest_is = topped_newest u l sized one most x ∙ ap (with_count x) (opened_count ∙ sym empty)

  -- a partial without a block text: its body begins
  module _ (b : Bytes) (at : RustOption ℕ) (n : ℕ) (v : code.RenderContext) (is : (k : List Scope) → whole v k ≡ body_context (bits b) at n (whole u k)) (y : Scope) (none : y ≡ with_block x 1 x.text) where
    pub body_top : topped v l y ≡ body_context (bits b) at n (without_text (pushed (counted (whole c l) t) x m))
    body_top =
        topped_by v u (body_context (bits b) at n) is (λ z. refl) l y
        ∙ ap (body_context (bits b) at n)
        (topped_turned u l sized one most x y (ap (λ (z : Scope). z.count) none ∙ empty ∙ sym opened_count)
        ∙ ap (turned (topped u l x)) (none ∙ ap (λ (z : Scope). with_block z 1 z.text) (sym newest_is))
        ∙ ap without_text opened_top)

    pub body_count : y.count ≡ v.count
    body_count = ap (λ (z : Scope). z.count) none ∙ empty ∙ sym opened_count ∙ sym (count_by v u (body_context (bits b) at n) is (λ z. refl) (λ z. refl) most)

  -- with one: the body of the text begins
  module _ (v : code.RenderContext) (is : (k : List Scope) → whole v k ≡ with_template (text_opened (whole u k)) 0) where
    pub text_top : topped v l x ≡ with_template (text_opened (pushed (counted (whole c l) t) x m)) 0
    text_top = topped_by v u (λ z. with_template (text_opened z) 0) is (λ z. refl) l x ∙ ap (λ (z : RenderContext). with_template (text_opened z) 0) opened_top

    pub text_count : x.count ≡ v.count
    text_count = empty ∙ sym opened_count ∙ sym (count_by v u (λ z. with_template (text_opened z) 0) is (λ z. refl) (λ z. refl) most)

-- A block text is finished: u is what `end_text` makes of q, whose newest scope x is given the text

module _ (b : Bytes) (at : RustOption ℕ) (n begin : ℕ) (block : Bool) (q u : code.RenderContext) (is : (k : List Scope) → whole u k ≡ body_context (bits b) at n (text_moved (whole q k) begin block))
    (l : List Scope) (x : Scope) (sized : length l ≡ 32) (one : 1 ≤ q.used) (most : q.used ≤ 32) where
  abbrev given : Scope
  given = with_block (with_count x q.count) 2 (q.writer.low - begin)

  pub ended_top : topped u l given ≡ text_context (bits b) at n begin block (whole q (set l (q.used - 1) x))
  ended_top =
      topped_by u q (λ z. body_context (bits b) at n (text_moved z begin block)) is (λ z. refl) l given
      ∙ ap (λ (z : RenderContext). body_context (bits b) at n (text_moved z begin block)) (topped_turned q l sized one most x given refl)
      ∙ ap (λ (z : Scope). body_context (bits b) at n (turned (text_moved (topped q l x) begin block) (with_block z 2 (q.writer.low - begin)))) (sym (topped_newest q l sized one most x))

  pub ended_count : given.count ≡ u.count
  ended_count = sym (count_by u q (λ z. body_context (bits b) at n (text_moved z begin block)) is (λ z. refl) (λ z. refl) most)
