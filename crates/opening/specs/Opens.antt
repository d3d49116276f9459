-- What `open_scope` answers: s is the plan, b the bundle, ent the entries of open partials; front is the newest of so many scopes.
use Rattle.std.specs.Prelude.{ℕ, ◌+◌, ◌-◌, ◌≤◌, ◌<◌, Bool, true, false, List, ◌≡◌, refl, eqb, length, get_or, Some, Result, Ok, Err}
use Rattle.std.proofs.Common.{sym, ap, ap₂, ◌∙◌, subst, arith}
use Rattle.rules.specs.Bytes.{Bytes, pick}
use Rattle.rules.specs.Bits.{bits}
use Rattle.rules.specs.Bundle.{param, call_of}
use Rattle.rules.specs.Plan.{answer}
use Rattle.rules.specs.State as rules
use Rattle.rules.specs.Registry.{Registry}
use Rattle.parts.specs.Holds.{Holds}
use Rattle.calls.specs.declared.Call.{Call}
use Rattle.calls.specs.Calls.{call_view}
use Rattle.places.specs.Accepted.{Accepted}
use Rattle.value.specs.declared.Value.{Value}
use Rattle.value.specs.declared.Value.TheVariants.{Merged}
use Rattle.value.specs.Numbers.{Fits, encoded}
use Rattle.meaning.specs.Meaning.{json_of}
use Rattle.members.specs.Parts.{Parts}
use Rattle.scope.specs.declared.Scope.{Scope}
use Rattle.scope.specs.Scopes.{blank}
use Rattle.scope.specs.Made.{child, with_names, with_locals}
use Rattle.scope.specs.Names.{Readable}
use Rattle.scope.specs.NameBits.{Covers}
use Rattle.expand.specs.declared.Options.{Options}
use Rattle.expand.specs.declared.Expanded.{Expanded}
use Rattle.expand.specs.Answers.{Setting}
use Rattle.including.specs.Values.{HashValues}
use Rattle.including.specs.Pairs.{PairsStand, with_pairs}
use Rattle.including.specs.Included.{included, entries_of}
use Rattle.state.specs.Context.{RenderContext}
use Rattle.state.specs.Setters.{failed, counted, pushed}
use Rattle.opening.specs.Scoped.{Starts, SomeWorked, ScopeOpened, scope_base, scope_holds, scope_pairs, scope_parts, scope_full, scope_deep, scope_readable, scope_opened}
use Rattle.error.specs.declared.RenderErrorReason.TheVariants.{EntriesLimit, ScopesLimit}
use Rattle.error.specs.declared.RenderErrorReason.{RenderErrorReason as Reason}
use Rattle.error.specs.Reasons.{Listed}

-- the context has this newest scope, so many scopes, and so many entries in use
pub record Tops (c : RenderContext) (front : Scope) (used total : ℕ) : Type 0 where
  pub is : front ≡ get_or c.scopes (c.used - 1) blank
  pub deep : used ≡ c.used
  pub taken : total ≡ c.total

-- the call at p, which x is, has the n hash pairs at q; l are the numbers of their values, and base is what they are merged into
pub record Given (s b : Bytes) (ent : List ℕ) (o : Options) (c : RenderContext) (d p : ℕ) (x : Expanded) (base : Value) (q n : ℕ) (l : List ℕ) : Type 0 where
  pub call : Holds (call_of (param d)) (bits b) p
  pub pairs : n ≡ (call_view d (bits b) p).pairs
  pub pair : q ≡ (call_view d (bits b) p).pair
  pub values : (g : Registry) (st : rules.RenderContext) (t : ℕ) → Setting s b ent c.scopes c.used o g st t → HashValues s b ent t d q n g st l
  pub starts : Starts s b ent o c x base

-- what `open_scope` asks for: there is such a call, and it was worked out
pub record Openable (s : Bytes) (tab : List ℕ) (b : Bytes) (ent : List ℕ) (front : Scope) (base : Value) (d q n : ℕ) (l : List ℕ) (used total : ℕ) : Type 0 where
  pub plan : Accepted s tab
  pub small : length b ≤ 65536
  pub long : n ≤ length l
  pub c : RenderContext
  pub tops : Tops c front used total
  pub o : Options
  pub p : ℕ
  pub x : Expanded
  pub given : Given s b ent o c d p x base q n l
  pub worked : SomeWorked s b ent o c d p x

-- The answer

-- a scope that may be opened behind so many
pub record Fresh (b : Bytes) (ent : List ℕ) (used : ℕ) (x : Scope) : Type 0 where
  pub room : used < 32
  pub empty : x.count ≡ 0
  pub readable : Readable b ent x

abbrev pub Answers : Bytes → List ℕ → ℕ → Result (Scope × ℕ) Reason → Type 0
Answers b ent used (Err k) = Listed k
Answers b ent used (Ok (x, t)) = Fresh b ent used x

-- what it makes of a context; the block names of the scope are in the set m
abbrev pub opened_by : RenderContext → ℕ → Result (Scope × ℕ) Reason → RenderContext
opened_by c m (Err k) = failed c (Some k)
opened_by c m (Ok (x, t)) = pushed (counted c t) x m

abbrev pub CoversOpened : ℕ → Bytes → List ℕ → Result (Scope × ℕ) Reason → Type 0
CoversOpened m b ent (Err k) = Unit {0}
CoversOpened m b ent (Ok (x, t)) = Covers m b ent x

-- for every context with this newest scope, and every such call
pub record Opens (s b : Bytes) (ent ent' : List ℕ) (front : Scope) (base : Value) (d q n : ℕ) (l : List ℕ) (used total : ℕ) (r : Result (Scope × ℕ) Reason) : Type 0 where
  pub well : Answers b ent' used r
  pub at : (c : RenderContext) (o : Options) (p : ℕ) (x : Expanded) (m : ℕ) → Tops c front used total → Given s b ent o c d p x base q n l → CoversOpened m b ent' r
      → ScopeOpened s b ent ent' o c (opened_by c m r) d p x

-- Laws

-- it has no inline partials yet
no_inlines : (base : Value) (t n : ℕ) (front : Scope) → (included base t n front).count ≡ 0
no_inlines base t n front = go (eqb n 0)
  where
    go : (y : Bool) → (pick y (with_locals (child (encoded base) t) front) (with_names (with_locals (child (encoded (Merged t n)) (t + n)) front) 3 0)).count ≡ 0
    go true = refl
    go false = refl

module _ (s b : Bytes) (ent : List ℕ) (base : Value) (d q n : ℕ) (l : List ℕ) where
  -- the table, and the entries that the merged object takes, where f is the newest scope
  abbrev pub behind : Scope → ℕ
  behind f = f.inline + f.count

  abbrev pub merged : Scope → List ℕ
  merged f = with_pairs ent (bits b) (behind f) (encoded base) l d q n

  abbrev pub taken : Scope → ℕ
  taken f = entries_of n (json_of s b (merged f) (Merged (behind f) n))

  module _ (o : Options) (c : RenderContext) (p : ℕ) (x : Expanded) (ok : answer s ≡ 0) (small : length b ≤ 65536) (G : Given s b ent o c d p x base q n l) where
    abbrev v : Call
    v = record { params = (call_view d (bits b) p).params; param = (call_view d (bits b) p).param; pairs = n; pair = q }

    view : v ≡ call_view d (bits b) p
    view = ap₂ (λ (i j : ℕ). record { params = (call_view d (bits b) p).params; param = (call_view d (bits b) p).param; pairs = i; pair = j }) G.pairs G.pair

    given_fits : SomeWorked s b ent o c d p x → Fits base
    given_fits = scope_base s b ent o c d p x ok small G.call v view base G.starts l G.values

    given_stand : PairsStand (bits b) d q n
    given_stand = scope_holds s b ent o c d p x ok small G.call v view base G.starts l G.values

    module _ (f : Scope) (e : f ≡ get_or c.scopes (c.used - 1) blank) where
      -- what holds where f is the newest scope of the context
      moved : (P : Scope → Type 0) → P (get_or c.scopes (c.used - 1) blank) → P f
      moved P y = subst P (sym e) y

      given_parts : SomeWorked s b ent o c d p x → behind f + n ≤ 4096 → 0 < n → Parts s b (merged f) (behind f) n
      given_parts O =
          moved (λ (f : Scope). behind f + n ≤ 4096 → 0 < n → Parts s b (merged f) (behind f) n)
          (λ few lt. scope_parts s b ent o c d p x ok small G.call v view base G.starts l G.values few O lt)

      given_many : 4096 < behind f + n → ScopeOpened s b ent ent o c (failed c (Some EntriesLimit)) d p x
      given_many =
          moved (λ (f : Scope). 4096 < behind f + n → ScopeOpened s b ent ent o c (failed c (Some EntriesLimit)) d p x)
          (scope_pairs s b ent o c d p x ok small G.call v view base G.starts l G.values)

      given_full : behind f + n ≤ 4096 → 4096 < c.total + taken f → ScopeOpened s b ent (merged f) o c (failed c (Some EntriesLimit)) d p x
      given_full =
          moved (λ (f : Scope). behind f + n ≤ 4096 → 4096 < c.total + taken f → ScopeOpened s b ent (merged f) o c (failed c (Some EntriesLimit)) d p x)
          (scope_full s b ent o c d p x ok small G.call v view base G.starts l G.values)

      given_deep : behind f + n ≤ 4096 → c.total + taken f ≤ 4096 → 32 ≤ c.used → ScopeOpened s b ent (merged f) o c (failed c (Some ScopesLimit)) d p x
      given_deep =
          moved (λ (f : Scope). behind f + n ≤ 4096 → c.total + taken f ≤ 4096 → 32 ≤ c.used → ScopeOpened s b ent (merged f) o c (failed c (Some ScopesLimit)) d p x)
          (scope_deep s b ent o c d p x ok small G.call v view base G.starts l G.values)

      given_readable : SomeWorked s b ent o c d p x → behind f + n ≤ 4096 → c.total + taken f ≤ 4096 → Readable b (merged f) (included base (behind f) n f)
      given_readable O =
          moved (λ (f : Scope). behind f + n ≤ 4096 → c.total + taken f ≤ 4096 → Readable b (merged f) (included base (behind f) n f))
          (λ few le. scope_readable s b ent o c d p x ok small G.call v view base G.starts l G.values few O le)

      given_opened : behind f + n ≤ 4096 → c.total + taken f ≤ 4096 → c.used < 32 → (m : ℕ) → Covers m b (merged f) (included base (behind f) n f)
          → ScopeOpened s b ent (merged f) o c (pushed (counted c (c.total + taken f)) (included base (behind f) n f) m) d p x
      given_opened =
          moved (λ (f : Scope). behind f + n ≤ 4096 → c.total + taken f ≤ 4096 → c.used < 32 → (m : ℕ) → Covers m b (merged f) (included base (behind f) n f)
          → ScopeOpened s b ent (merged f) o c (pushed (counted c (c.total + taken f)) (included base (behind f) n f) m) d p x)
          (scope_opened s b ent o c d p x ok small G.call v view base G.starts l G.values)

-- What each step asks for, and each answer
module _ (s : Bytes) (tab : List ℕ) (b : Bytes) (ent : List ℕ) (front : Scope) (base : Value) (d q n : ℕ) (l : List ℕ) (used total : ℕ) (P : Openable s tab b ent front base d q n l used total) where
  ok : answer s ≡ 0
  ok = P.plan.answers

  pub open_base : Fits base
  open_base = given_fits s b ent base d q n l P.o P.c P.p P.x ok P.small P.given P.worked

  pub open_pairs : PairsStand (bits b) d q n
  open_pairs = given_stand s b ent base d q n l P.o P.c P.p P.x ok P.small P.given

  pub open_total : total ≤ 4096
  open_total = omega (arith, P.tops.taken, P.worked.ready.few)

  pub open_behind : front.inline + front.count ≤ 4096
  open_behind = let e = ap (λ (f : Scope). f.inline + f.count) P.tops.is in omega (arith, e, P.worked.ready.enough, P.worked.ready.few)

  pub open_table : 8192 ≤ length ent
  open_table = P.worked.ready.table

  abbrev t : ℕ
  t = front.inline + front.count

  pub open_many : 4096 < t + n → Opens s b ent ent front base d q n l used total (Err EntriesLimit)
  open_many lt = record {
    well = refl;
    at = λ c o p x k T G y. given_many s b ent base d q n l o c p x ok P.small G front T.is lt;
  }

  -- ent' is the table behind the merge
  module _ (few : t + n ≤ 4096) (ent' : List ℕ) (is : ent' ≡ with_pairs ent (bits b) t (encoded base) l d q n) where
    pub open_parts : 0 < n → Parts s b ent' t n
    open_parts lt =
        subst (λ (k : List ℕ). Parts s b k t n) (sym is)
        (given_parts s b ent base d q n l P.o P.c P.p P.x ok P.small P.given front P.tops.is P.worked few lt)

    -- m is the entries that the merged object takes
    module _ (m : ℕ) (many : m ≡ entries_of n (json_of s b ent' (Merged t n))) where
      so_many : m ≡ taken s b ent base d q n l front
      so_many = many ∙ ap (λ (k : List ℕ). entries_of n (json_of s b k (Merged t n))) is

      pub open_full : 4096 < total + m → Opens s b ent ent' front base d q n l used total (Err EntriesLimit)
      open_full lt = record {
        well = refl;
        at = λ c o p x k T G y.
            subst (λ (k : List ℕ). ScopeOpened s b ent k o c (failed c (Some EntriesLimit)) d p x) (sym is)
            (given_full s b ent base d q n l o c p x ok P.small G front T.is few (omega (arith, lt, T.taken, so_many)));
      }

      pub open_deep : total + m ≤ 4096 → 32 ≤ used → Opens s b ent ent' front base d q n l used total (Err ScopesLimit)
      open_deep le ge = record {
        well = refl;
        at = λ c o p x k T G y.
            subst (λ (k : List ℕ). ScopeOpened s b ent k o c (failed c (Some ScopesLimit)) d p x) (sym is)
            (given_deep s b ent base d q n l o c p x ok P.small G front T.is few (omega (arith, le, T.taken, so_many)) (omega (arith, ge, T.deep)));
      }

      module _ (c' : Scope) (made : c' ≡ included base t n front) (le : total + m ≤ 4096) (lt : used < 32) where
        opened_so : (c : RenderContext) (o : Options) (p : ℕ) (x : Expanded) (k : ℕ) → Tops c front used total → Given s b ent o c d p x base q n l
            → Covers k b (with_pairs ent (bits b) t (encoded base) l d q n) (included base t n front)
            → ScopeOpened s b ent (with_pairs ent (bits b) t (encoded base) l d q n) o c (pushed (counted c (total + m)) (included base t n front) k) d p x
        opened_so c o p x k T G y =
            let e : c.total + taken s b ent base d q n l front ≡ total + m = omega (arith, T.taken, so_many) in
            subst (λ (i : ℕ). ScopeOpened s b ent (with_pairs ent (bits b) t (encoded base) l d q n) o c (pushed (counted c i) (included base t n front) k) d p x) e
            (given_opened s b ent base d q n l o c p x ok P.small G front T.is few (omega (arith, le, T.taken, so_many)) (omega (arith, lt, T.deep)) k y)

        pub open_done : Opens s b ent ent' front base d q n l used total (Ok (c', total + m))
        open_done =
            subst (λ (z : Scope). Opens s b ent ent' front base d q n l used total (Ok (z, total + m))) (sym made)
            (subst (λ (j : List ℕ). Opens s b ent j front base d q n l used total (Ok (included base t n front, total + m))) (sym is)
            (record {
              well = record {
                room = lt;
                empty = no_inlines base t n front;
                readable = given_readable s b ent base d q n l P.o P.c P.p P.x ok P.small P.given front P.tops.is P.worked few (omega (arith, le, P.tops.taken, so_many));
              };
              at = opened_so;
            }))
