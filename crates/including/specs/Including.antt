-- What a partial works out before it is drawn, all together: from its call to the table and the scope.
use Rattle.std.specs.Prelude.{ℕ, ◌+◌, ◌-◌, ◌*◌, ◌≤◌, ◌<◌, Bool, true, false, List, ◌≡◌, refl, eqb, length, get_or}
use Rattle.std.proofs.Common.{sym, ap, ◌∙◌, subst, arith, eqb-true}
use Rattle.rules.specs.Bytes.{Bytes, pick}
use Rattle.rules.specs.Bits.{bits}
use Rattle.rules.specs.BundleLaws.{bits_binary}
use Rattle.rules.specs.Bundle.{param, call_of}
use Rattle.rules.specs.Json.{Json}
use Rattle.rules.specs.Plan.{answer}
use Rattle.rules.specs.Error as rule
use Rattle.rules.specs.Error.{got, bad, wth}
use Rattle.rules.specs.Template as template
use Rattle.rules.specs.Value.{ScopedJson}
use Rattle.rules.specs.State.{RenderContext}
use Rattle.rules.specs.Registry.{Registry}
use Rattle.rules.specs.BlockUtil as block-util
use Rattle.rules.specs.Context.{merge_json}
use Rattle.rules.specs.Partial.{hash_ctx, merged_entries, include_block}
use Rattle.rules.specs.Expand as rules
use Rattle.parts.specs.Holds.{Holds}
use Rattle.calls.specs.declared.Call.{Call}
use Rattle.calls.specs.Calls.{param_at, call_at, params_at, hash_at, call_view, call_read}
use Rattle.value.specs.declared.Value.{Value}
use Rattle.value.specs.declared.Value.TheVariants.{Merged}
use Rattle.value.specs.Numbers.{encoded}
use Rattle.meaning.specs.Meaning.{json_of}
use Rattle.meaning.specs.Kept.{Agree}
use Rattle.lookup.specs.Answers.{Held}
use Rattle.members.specs.Parts.{Parts}
use Rattle.scope.specs.declared.Scope.{Scope}
use Rattle.scope.specs.Scopes.{blank, context_of}
use Rattle.scope.specs.Standing.{ScopeStands}
use Rattle.scope.specs.Made.{child, with_names, with_locals}
use Rattle.scope.specs.Names.{ValueIs}
use Rattle.expand.specs.declared.Options.{Options}
use Rattle.expand.specs.Answers.{Setting}
use Rattle.including.specs.Values.{HashValues, hash_pairs}
use Rattle.including.specs.ValuesLaws.{got_is, stands_fits, values_are}
use Rattle.including.specs.Pairs.{PairsStand, with_pairs}
use Rattle.including.specs.PairsLaws.{call_pairs_stand, pairs_length, pairs_agree}
use Rattle.including.specs.Starting.{front_is, front_stands, front_ends}
use Rattle.including.specs.Included.{included, entries_of, Mergeable}
use Rattle.including.specs.IncludedLaws.{merged_parts, merged_stands, merged_means, entries_are, included_is, included_stands}
use Rattle.including.specs.Counted.{pairs_taken}

-- the hash of a call that was worked out
pub hash_given : (g : Registry) (st : RenderContext) (n : template.Parameter) (ps : template.Params) (hs : template.Hash) (e : block-util.Expanded)
    → rules.try_from_template g st (template.call n ps hs) ≡ got e → rules.expand_hash g st hs ≡ got e.hash
hash_given g st n ps hs e = go (rules.expand_as_name g st n) (rules.expand_all g st ps) (rules.expand_hash g st hs)
  where
    go : (x : rule.Got Bytes) (y : rule.Got (List ScopedJson)) (z : rule.Got (List (Bytes × ScopedJson)))
        → Path (rule.Got block-util.Expanded) (wth x (λ b. wth y (λ vs. wth z (λ kvs. got (record { name = b; params = vs; hash = kvs }))))) (got e) → z ≡ got e.hash
    go (got b) (got vs) (got kvs) q = let w : Path block-util.Expanded (record { name = b; params = vs; hash = kvs }) e = cc in ap (λ (u : block-util.Expanded). got u.hash) w
    go (got b) (got vs) (bad r) q = got_is e r q refl
    go (got b) (bad r) z q = got_is e r q refl
    go (bad r) y z q = got_is e r q refl

-- the n hash pairs at p, whose values are the numbers l, are merged into base; for the rules base is j and the hash is h
pub record Includes (s b : Bytes) (ent : List ℕ) (t : ℕ) (base : Value) (l : List ℕ) (d p n : ℕ) (front : Scope) (st : RenderContext) (j : Json) (h : List (Bytes × Json)) : Type 0 where
  -- the entries that were in use are as they were
  pub agree : Agree ent (with_pairs ent (bits b) t (encoded base) l d p n) t
  pub long : length (with_pairs ent (bits b) t (encoded base) l d p n) ≡ length ent
  -- the merged object, and the entries that it takes: it stands within limit 22
  pub parts : 0 < n → Parts s b (with_pairs ent (bits b) t (encoded base) l d p n) t n
  pub means : 0 < n → json_of s b (with_pairs ent (bits b) t (encoded base) l d p n) (Merged t n) ≡ merge_json j h
  pub entries : entries_of n (json_of s b (with_pairs ent (bits b) t (encoded base) l d p n) (Merged t n)) ≡ merged_entries h (merge_json j h)
  pub held : merged_entries h (merge_json j h) ≤ 4096 → 0 < n → Held s b (with_pairs ent (bits b) t (encoded base) l d p n) (Merged t n)
  -- the scope: it stands behind the pairs, and has no inline partials yet
  pub scope : context_of s b (with_pairs ent (bits b) t (encoded base) l d p n) (included base t n front) ≡ include_block st h (merge_json j h)
  pub stands : merged_entries h (merge_json j h) ≤ 4096 → ScopeStands s b (with_pairs ent (bits b) t (encoded base) l d p n) (included base t n front)
  pub behind : (included base t n front).inline ≡ t + n
  pub empty : (included base t n front).count ≡ 0

scope_behind : (base : Value) (t n : ℕ) (front : Scope) → ((included base t n front).inline ≡ t + n) × ((included base t n front).count ≡ 0)
scope_behind base t n front = go (eqb n 0) refl
  where
    go : (y : Bool) → eqb n 0 ≡ y
        → ((pick y (with_locals (child (encoded base) t) front) (with_names (with_locals (child (encoded (Merged t n)) (t + n)) front) 3 0)).inline ≡ t + n)
        × ((pick y (with_locals (child (encoded base) t) front) (with_names (with_locals (child (encoded (Merged t n)) (t + n)) front) 3 0)).count ≡ 0)
    go true e = (omega (arith, eqb-true n 0 e), refl)
    go false e = (refl, refl)

-- The call at q, in a setting: its hash pairs, and the numbers of their values

module _ (s b : Bytes) (ent : List ℕ) (list : List Scope) (used : ℕ) (o : Options) (g : Registry) (st : RenderContext) (t : ℕ) (S : Setting s b ent list used o g st t) (lt : 0 < used)
    (ok : answer s ≡ 0) (le : length b ≤ 65536) (d q : ℕ) (H : Holds (call_of (param d)) (bits b) q) (v : Call) (view : v ≡ call_view d (bits b) q) (e : block-util.Expanded)
    (E : rules.try_from_template g st (call_at d (bits b) q) ≡ got e) (l : List ℕ) (L : HashValues s b ent t d v.pair v.pairs g st l) where
  pub pairs_stand : PairsStand (bits b) d v.pair v.pairs
  pairs_stand = call_pairs_stand d (bits b) q v (bits_binary b) H view

  pub hash_is : e.hash ≡ hash_pairs s b ent d v.pair l 0 v.pairs
  hash_is =
      let c = call_read d (bits b) q H v view in
      values_are s b ent t d v.pair g st l v.pairs L v.pairs 0 (omega arith) pairs_stand.holds e.hash
      (hash_given g st (param_at d (bits b) q) (params_at d v.params (bits b) v.param) (hash_at d v.pairs (bits b) v.pair) e (sym (ap (rules.try_from_template g st) c.is) ∙ E))

  -- a merge takes an entry for each pair at least
  pub pairs_fit : (j : Json) → v.pairs ≤ merged_entries (hash_ctx e.hash) (merge_json j (hash_ctx e.hash))
  pairs_fit j = subst (λ (x : List (Bytes × ScopedJson)). v.pairs ≤ merged_entries (hash_ctx x) (merge_json j (hash_ctx x))) (sym hash_is) (pairs_taken s b ent l d v.pair v.pairs pairs_stand j)

  module _ (base : Value) (j : Json) (B : ValueIs s b ent t j base) (few : t + v.pairs ≤ 4096) (room : 2 * (t + v.pairs) ≤ length ent) where
    abbrev front : Scope
    front = get_or list (used - 1) blank

    mergeable : Mergeable s b ent t base l d v.pair v.pairs
    mergeable = record {
      pairs = pairs_stand;
      room = room;
      few = few;
      fits = stands_fits s b ent t ok le (omega arith) base B.stands;
      stands = B.stands;
      near = λ i h. (L.each i h).near;
      values = λ i h. (L.each i h).stands;
    }

    included_so : Includes s b ent t base l d v.pair v.pairs front st (json_of s b ent base) (hash_ctx (hash_pairs s b ent d v.pair l 0 v.pairs))
    included_so = record {
      agree = pairs_agree ent (bits b) t (encoded base) l d v.pair v.pairs;
      long = pairs_length ent (bits b) t (encoded base) l d v.pair v.pairs;
      parts = merged_parts s b ent t base l d v.pair v.pairs mergeable;
      held = λ x h. record {
        used = t + v.pairs;
        room = omega (arith, room, pairs_length ent (bits b) t (encoded base) l d v.pair v.pairs);
        stands = merged_stands s b ent t base l d v.pair v.pairs mergeable x h;
      };
      means = merged_means s b ent t base l d v.pair v.pairs mergeable;
      entries = entries_are s b ent t base l d v.pair v.pairs mergeable;
      scope =
          included_is s b ent t base l d v.pair v.pairs mergeable front (front_stands s b ent list used o g st t S lt) (front_ends s b ent list used o g st t S lt) st (front_is s b ent list used o g st t S lt) B.pathless;
      stands = λ x.
          included_stands s b ent t base l d v.pair v.pairs mergeable front (front_stands s b ent list used o g st t S lt) (front_ends s b ent list used o g st t S lt) x B.present;
      behind = (scope_behind base t v.pairs front).0;
      empty = (scope_behind base t v.pairs front).1;
    }

    -- after `merge`, with the scope that `scope_of` makes
    pub includes : Includes s b ent t base l d v.pair v.pairs front st j (hash_ctx e.hash)
    includes =
        subst (λ (x : List (Bytes × ScopedJson)). Includes s b ent t base l d v.pair v.pairs front st j (hash_ctx x)) (sym hash_is)
        (subst (λ (y : Json). Includes s b ent t base l d v.pair v.pairs front st y (hash_ctx (hash_pairs s b ent d v.pair l 0 v.pairs))) B.means included_so)
