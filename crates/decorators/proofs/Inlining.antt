-- `inline` of the rules against what the code finds.
use Prim.Native.Nat.{ℕ, ◌+◌, ◌≤◌, ◌<◌}
use mathlib.Core.Bool.{Bool, true, false}
use mathlib.Core.List.{List, [], ◌∷◌}
use mathlib.Core.Option.{Option, none, some}
use mathlib.Core.Path.{◌≡◌, refl, sym, ap, ap₂, ◌∙◌}
use native.Mathlib.Omega.{arith}
use lib.Dec.{leb}
use lib.ListN.{length}
use borrow.Author.Tests.{le-leb, lt-leb}
use Rattle.rules.specs.Bytes.{Bytes}
use Rattle.rules.specs.Json.{Json, as_str}
use Rattle.rules.specs.Order.{differ}
use Rattle.rules.specs.Template.{Template}
use Rattle.rules.specs.Error.{param-not-found-for-index, invalid-param-type, block-content-required, entries-limit}
use Rattle.rules.specs.Value.{ScopedJson, as_json}
use Rattle.rules.specs.Partials.{Partials, define, find}
use Rattle.rules.specs.State.{RenderContext, set_block_partials, entries, Res, ok, fail, choose, either}
use Rattle.rules.specs.Registry.{Registry}
use Rattle.rules.specs.BlockUtil as block-util
use Rattle.rules.specs.Inline.{one_more, set_local_partial, inline}
use Rattle.meaning.specs.Meaning.{json_of, scoped_of}
use Rattle.scope.specs.declared.Scope.{Scope}
use Rattle.scope.specs.Standing.{ScopeStands}
use Rattle.scope.proofs.InlineLaws.{find_none, find_here}
use Rattle.expand.specs.declared.Expanded.{Expanded}
use Rattle.expand.specs.Answers.{name_of, Begins}
use Rattle.expand.proofs.Calling.{as_json_of}
use Rattle.decorators.specs.declared.Inlined.{Inlined}
use Rattle.decorators.specs.declared.Inlined.TheVariants.{Bad, New, Again}
use Rattle.decorators.specs.Inlined.{is_string, has_body, Unnamed, Named, Defines, InlinedIs, Inlining}
use Rattle.decorators.proofs.Naming.{string_name, string_none}
use Rattle.error.specs.declared.RenderErrorReason.TheVariants.{BlockContentRequired, EntriesLimit, InvalidParamType, ParamNotFoundForIndex}

-- the rule past the first parameter, by the string that it is
abbrev given : Registry → RenderContext → Option Template → Option Bytes → Res
given g st T o = either o (λ _. fail invalid-param-type) (λ n. either T (λ _. fail block-content-required) (λ B. set_local_partial g n B st))

defined_is : (g : Registry) (st : RenderContext) (n : Bytes) (B : Template) → leb (entries st + one_more (find n st.seen.block_partials)) g.limits.entries ≡ true
    → set_local_partial g n B st ≡ ok (set_block_partials (define n B st.seen.block_partials) st) []
unfolding set_local_partial choose
defined_is g st n B h = rw h

refused_is : (g : Registry) (st : RenderContext) (n : Bytes) (B : Template) → leb (entries st + one_more (find n st.seen.block_partials)) g.limits.entries ≡ false
    → set_local_partial g n B st ≡ fail entries-limit
unfolding set_local_partial choose
refused_is g st n B h = rw h

given_none : (g : Registry) (st : RenderContext) (T : Option Template) → given g st T none ≡ fail invalid-param-type
unfolding either
given_none g st T = refl

given_bare : (g : Registry) (st : RenderContext) (n : Bytes) → given g st none (some n) ≡ fail block-content-required
unfolding either
given_bare g st n = refl

given_body : (g : Registry) (st : RenderContext) (n : Bytes) (B : Template) → given g st (some B) (some n) ≡ set_local_partial g n B st
unfolding either
given_body g st n B = refl

empty_is : (g : Registry) (st : RenderContext) (T : Option Template) → inline g [] T st ≡ fail param-not-found-for-index
unfolding inline
empty_is g st T = refl

more_is : (g : Registry) (st : RenderContext) (T : Option Template) (v : ScopedJson) (l : List ScopedJson) → inline g (v ∷ l) T st ≡ given g st T (as_str (as_json v))
unfolding inline
more_is g st T v l = refl

no_content : (T : Option Template) → has_body T ≡ false → T ≡ none
no_content none h = refl
no_content (some B) h = differ h

some_content : (T : Option Template) → has_body T ≡ true → (B : Template) × (T ≡ some B)
some_content none h = differ (sym h)
some_content (some B) h = (B, refl)

module _ (s b : Bytes) (ent : List ℕ) (c : Scope) (taken : ℕ) (w : Expanded) (has : Bool) (g : Registry) (st : RenderContext) (t : ℕ) (e : block-util.Expanded) (T : Option Template)
    (I : Inlining s b ent c taken w has g st t e T) where
  abbrev rule : Res
  rule = inline g e.params T st

  abbrev Is : Inlined → Type 0
  Is = InlinedIs s b ent t c taken w st T rule

  pub no_params : w.count ≡ 0 → Is (Bad ParamNotFoundForIndex)
  no_params z = record { reason = param-not-found-for-index; is = go e.params I.expanded.params.count; by_reason = refl }
    where
      go : (k : List ScopedJson) → w.count ≡ length k → inline g k T st ≡ fail param-not-found-for-index
      go [] n = empty_is g st T
      go (v ∷ k) n = absurd (omega arith)

  module _ (z : w.count ≡ 0 → ⊥) where
    with_first : rule ≡ given g st T (as_str (json_of s b ent w.first))
    with_first = go e.params I.expanded.params.count I.expanded.params.begins
      where
        one : (v : ScopedJson) (k : List ScopedJson) → v ≡ scoped_of s b ent w.first → inline g (v ∷ k) T st ≡ given g st T (as_str (json_of s b ent w.first))
        one v k q = more_is g st T v k ∙ ap (λ (j : Json). given g st T (as_str j)) (ap as_json q ∙ as_json_of s b ent w.first)

        go : (k : List ScopedJson) → w.count ≡ length k → Begins s b ent k w.first w.second → inline g k T st ≡ given g st T (as_str (json_of s b ent w.first))
        go [] n h = absurd (z n)
        go (v ∷ []) n h = one v [] h
        go (v ∷ u ∷ k) n h = one v (u ∷ k) h.0

    pub not_string : false ≡ is_string (json_of s b ent w.first) → Is (Bad InvalidParamType)
    not_string q =
        record {
          reason = invalid-param-type;
          is = with_first ∙ ap (given g st T) (string_none (json_of s b ent w.first) q) ∙ given_none g st T;
          by_reason = refl;
        }

    module _ (q : true ≡ is_string (json_of s b ent w.first)) where
      abbrev name : Bytes
      name = name_of s b ent w.first

      named : rule ≡ given g st T (some name)
      named = with_first ∙ ap (given g st T) (string_name (json_of s b ent w.first) q)

      pub bare : has ≡ false → Is (Bad BlockContentRequired)
      bare h =
          record {
            reason = block-content-required;
            is = named ∙ ap (λ (o : Option Template). given g st o (some name)) (no_content T (sym I.content ∙ h)) ∙ given_bare g st name;
            by_reason = refl;
          }

      with_body : (B : Template) → T ≡ some B → rule ≡ set_local_partial g name B st
      with_body B h = named ∙ ap (λ (o : Option Template). given g st o (some name)) h ∙ given_body g st name B

      fresh : Unnamed s b ent c.inline c.count name → one_more (find name st.seen.block_partials) ≡ 1
      fresh u =
          ap (λ (m : Partials). one_more (find name m)) I.partials
          ∙ ap one_more (find_none s b ent name c.inline c.count u)

      there : (k : ℕ) → ScopeStands s b ent c → Named s b ent c.inline c.count name k → one_more (find name st.seen.block_partials) ≡ 0
      there k S n =
          ap (λ (m : Partials). one_more (find name m)) I.partials
          ∙ ap one_more (find_here s b ent name c.inline c.count n.turn S.distinct n.within n.is)

      room : (x : ℕ) → one_more (find name st.seen.block_partials) ≡ x
          → leb (entries st + one_more (find name st.seen.block_partials)) g.limits.entries ≡ leb (taken + x) 4096
      room x h = ap₂ leb (ap₂ (λ (y z : ℕ). y + z) I.total h) I.limit

      defines : leb (entries st + one_more (find name st.seen.block_partials)) g.limits.entries ≡ true → Defines s b ent t w st T rule w.first
      defines h =
          record {
            first = refl;
            stands = I.expanded.params.first;
            name = string_name (json_of s b ent w.first) q;
            result = λ B p. with_body B p ∙ defined_is g st name B h;
          }

      pub again : (k : ℕ) → ScopeStands s b ent c → Named s b ent c.inline c.count name k → Is (Again k w.first)
      again k S n = let f = I.few in (defines (room 0 (there k S n) ∙ le-leb (taken + 0) 4096 (omega arith)), n)

      pub new : Unnamed s b ent c.inline c.count name → taken < 4096 → Is (New w.first)
      new u lt = (defines (room 1 (fresh u) ∙ le-leb (taken + 1) 4096 (omega arith)), u, lt)

      pub full : has ≡ true → Unnamed s b ent c.inline c.count name → 4096 ≤ taken → Is (Bad EntriesLimit)
      full h u le =
          let B = some_content T (sym I.content ∙ h) in
          record {
            reason = entries-limit;
            is = with_body B.0 B.1 ∙ refused_is g st name B.0 (room 1 (fresh u) ∙ lt-leb (taken + 1) 4096 (omega arith));
            by_reason = refl;
          }
