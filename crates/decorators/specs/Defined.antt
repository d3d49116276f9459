-- The newest scope has an inline partial more, or another body under a name that it has: what is then true of the scopes and of the rules' state.
use Rattle.std.specs.Prelude.{ℕ, suc, ◌+◌, ◌*◌, ◌%◌, ◌/◌, ◌≤◌, ◌<◌, Bool, true, false, List, [], ◌∷◌, ◌≡◌, refl, eqb, length, set, get_or}
use Rattle.std.proofs.Math.Option.{Option, none, some}
use Rattle.std.proofs.Common.{sym, ap, ap₂, ◌∙◌, subst, arith, eqb-true}
use Rattle.std.proofs.lemmas.List.{set-get_or}
use Rattle.std.proofs.lemmas.Bool.{eqb-false}
use Rattle.rules.specs.Bytes.{Bytes, maybe, same}
use Rattle.rules.specs.Json.{as_str}
use Rattle.rules.specs.Order.{same_eq}
use Rattle.rules.specs.Template.{Template, tnil}
use Rattle.rules.specs.Bits.{bits}
use Rattle.rules.specs.Bundle.{body}
use Rattle.rules.specs.Block.{Block, BlockContext}
use Rattle.rules.specs.Partials.{Partials, define}
use Rattle.rules.specs.State.{RenderContext, blocks, set_block_partials}
use Rattle.parts.specs.Holds.{Holds, value}
use Rattle.value.specs.Numbers.{decoded}
use Rattle.meaning.specs.Entries.{low, high, place}
use Rattle.meaning.specs.Meaning.{merged_of, json_of}
use Rattle.meaning.specs.MeaningLaws.{plain_is}
use Rattle.meaning.specs.Standing.{Stands, plain, stands_plain}
use Rattle.meaning.specs.Kept.{Agree}
use Rattle.entries.specs.Stored.{stored, stored_other, stored_agrees, stored_low, stored_high, stored_place}
use Rattle.scope.specs.declared.Scope.{Scope}
use Rattle.scope.specs.Scopes.{inline_name, inline_body, partials_of, blocks_of, blank}
use Rattle.scope.specs.Standing.{InlineStands, ScopeStands, ScopesStand}
use Rattle.scope.specs.Made.{with_count}
use Rattle.scope.proofs.MadeLaws.{with_count_is}
use Rattle.scope.proofs.StackLaws.{blocks_set, push_stands, pop_stands, scope_kept, scope_again, context_kept, blocks_kept, scopes_kept}
use Rattle.scope.proofs.InlineLaws.{Distinct, defined, name_plain, names_again, inlines_again, distinct_again, defined_again}
use Rattle.decorators.specs.Inlined.{Unnamed, Named}

abbrev pub body_at : Bytes → ℕ → ℕ → Template
body_at b d p = value tnil (body 16 d) (bits b) p

-- the scope c with n inline partials, of which the one named x is new
pub record Holding (s b : Bytes) (ent ent' : List ℕ) (c : Scope) (n : ℕ) (x : Bytes) (B : Template) : Type 0 where
  pub beneath : Agree ent ent' c.inline
  pub stands : ScopeStands s b ent' (with_count c n)
  pub defines : partials_of s b ent' c.inline n ≡ define x B (partials_of s b ent c.inline c.count)

-- One more

module _ (s b : Bytes) (ent : List ℕ) (c : Scope) (u d p : ℕ) where
  abbrev pub added : List ℕ
  added = stored ent (c.inline + c.count) u d p

  module _ (st : ScopeStands s b ent c) (small : u < 4294967296) (fits : 2 * (c.inline + c.count) + 1 < length ent) (few : d ≤ 16) (held : Holds (body 16 d) (bits b) p)
      (t : ℕ) (x : Bytes) (stands : Stands s b ent t (decoded u)) (name : as_str (json_of s b ent (decoded u)) ≡ some x) where
    is_plain : merged_of (decoded u) ≡ none
    is_plain = name_plain s b ent ent t (decoded u) x stands name

    low_is : low added (c.inline + c.count) ≡ u
    low_is = stored_low ent (c.inline + c.count) u d p fits small

    high_is : high added (c.inline + c.count) ≡ d
    high_is = stored_high ent (c.inline + c.count) u d p fits small (omega arith)

    place_is : place added (c.inline + c.count) ≡ p
    place_is = stored_place ent (c.inline + c.count) u d p fits

    said : as_str (json_of s b added (decoded (low added (c.inline + c.count)))) ≡ some x
    said =
        ap (λ (y : ℕ). as_str (json_of s b added (decoded y))) low_is
        ∙ ap as_str (plain_is s b added (decoded u) is_plain ∙ sym (plain_is s b ent (decoded u) is_plain)) ∙ name

    name_is : inline_name s b added (c.inline + c.count) ≡ x
    name_is = ap (λ (o : Option Bytes). maybe o [] (λ n. n)) said

    body_is : inline_body s b added (c.inline + c.count) ≡ body_at b d p
    body_is = ap₂ (body_at b) high_is place_is

    here : InlineStands s b added (c.inline + c.count)
    here =
        record {
          name = subst (λ (y : ℕ). Stands s b added (c.inline + c.count) (decoded y)) (sym low_is) (plain is_plain (stands_plain s b ent t (decoded u) is_plain stands));
          is_name = said ∙ ap some (sym name_is);
          depth = subst (λ (y : ℕ). y ≤ 16) (sym high_is) few;
          inside = subst (λ (y : ℕ). Holds (body 16 y) (bits b) (place added (c.inline + c.count))) (sym high_is) (subst (Holds (body 16 d) (bits b)) (sym place_is) held);
        }

    agree : Agree ent added (c.inline + c.count)
    agree = stored_agrees ent (c.inline + c.count) u d p

    kept : ScopeStands s b added c
    kept = scope_kept s b ent added c (c.inline + c.count) agree st (omega arith) (omega arith)

    all : (i : ℕ) → i < suc c.count → InlineStands s b added (c.inline + i)
    all i lt = go (eqb i c.count) refl
      where
        go : (y : Bool) → eqb i c.count ≡ y → InlineStands s b added (c.inline + i)
        go true e = subst (λ (j : ℕ). InlineStands s b added (c.inline + j)) (sym (eqb-true i c.count e)) here
        go false e = let ne : i ≡ c.count → ⊥ = eqb-false i c.count e in kept.inlines i (omega arith)

    same_low : (j : ℕ) → j < c.count → low ent (c.inline + j) ≡ low added (c.inline + j)
    same_low j lt = ap (λ (y : ℕ). y % 4294967296) (agree.same (2 * (c.inline + j)) (omega arith))

    name_kept : (j : ℕ) → j < c.count → inline_name s b ent (c.inline + j) ≡ inline_name s b added (c.inline + j)
    name_kept j lt =
        names_again s b ent added c.inline c.count c.count st.inlines same_low
        (λ i h ne. ap (λ (y : ℕ). y / 4294967296 % 4294967296) (agree.same (2 * (c.inline + i)) (omega arith)))
        (λ i h ne. agree.same (2 * (c.inline + i) + 1) (omega arith)) j lt

    apart : Unnamed s b ent c.inline c.count x → Distinct s b added c.inline (suc c.count)
    apart new i j p q = go (eqb j c.count) refl
      where
        go : (y : Bool) → eqb j c.count ≡ y → same (inline_name s b added (c.inline + i)) (inline_name s b added (c.inline + j)) ≡ false
        go true e =
            let z : j ≡ c.count = eqb-true j c.count e in
            ap (λ (k : ℕ). same (inline_name s b added (c.inline + i)) (inline_name s b added (c.inline + k))) z
            ∙ ap₂ same (sym (name_kept i (omega arith))) name_is
            ∙ new i (omega arith)
        go false e = let ne : j ≡ c.count → ⊥ = eqb-false j c.count e in kept.distinct i j p (omega arith)

    pub holds_new : Unnamed s b ent c.inline c.count x → Holding s b ent added c (suc c.count) x (body_at b d p)
    holds_new new =
        record {
          beneath = record { same = λ i lt. agree.same i (omega arith) };
          stands = scope_again s b ent added c (c.inline + c.count) agree st (omega arith) (suc c.count) all (apart new);
          defines = defined s b ent added c.inline c.count agree st.inlines
              ∙ ap₂ (λ (k : Bytes) (B : Template). define k B (partials_of s b ent c.inline c.count)) name_is body_is;
        }

-- Another body under a name that the scope has: its entry keeps the name

module _ (s b : Bytes) (ent : List ℕ) (c : Scope) (k d p : ℕ) where
  abbrev pub changed : List ℕ
  changed = stored ent k (low ent k) d p

  module _ (st : ScopeStands s b ent c) (fits : 2 * k + 1 < length ent) (few : d ≤ 16) (held : Holds (body 16 d) (bits b) p)
      (x : Bytes) (n : Named s b ent c.inline c.count x k) where
    low_small : low ent k < 4294967296
    low_small = omega arith

    lows : (j : ℕ) → j < c.count → low ent (c.inline + j) ≡ low changed (c.inline + j)
    lows j lt = go (eqb (c.inline + j) k) refl
      where
        go : (y : Bool) → eqb (c.inline + j) k ≡ y → low ent (c.inline + j) ≡ low changed (c.inline + j)
        go true e =
            let z : c.inline + j ≡ k = eqb-true (c.inline + j) k e in
            ap (low ent) z ∙ sym (stored_low ent k (low ent k) d p fits low_small) ∙ ap (low changed) (sym z)
        go false e =
            let ne : c.inline + j ≡ k → ⊥ = eqb-false (c.inline + j) k e in
            ap (λ (y : ℕ). y % 4294967296) (sym (stored_other ent k (low ent k) d p (2 * (c.inline + j)) (λ q. ne (omega arith)) (λ q. omega arith)))

    highs : (j : ℕ) → j < c.count → (j ≡ n.turn → ⊥) → high ent (c.inline + j) ≡ high changed (c.inline + j)
    highs j lt ne =
        ap (λ (y : ℕ). y / 4294967296 % 4294967296)
        (sym (stored_other ent k (low ent k) d p (2 * (c.inline + j)) (λ q. ne (omega (arith, n.at))) (λ q. omega arith)))

    spots : (j : ℕ) → j < c.count → (j ≡ n.turn → ⊥) → place ent (c.inline + j) ≡ place changed (c.inline + j)
    spots j lt ne = sym (stored_other ent k (low ent k) d p (2 * (c.inline + j) + 1) (λ q. omega arith) (λ q. ne (omega (arith, n.at))))

    high_now : high changed (c.inline + n.turn) ≡ d
    high_now = ap (high changed) (sym n.at) ∙ stored_high ent k (low ent k) d p fits low_small (omega arith)

    place_now : place changed (c.inline + n.turn) ≡ p
    place_now = ap (place changed) (sym n.at) ∙ stored_place ent k (low ent k) d p fits

    lower : Agree ent changed c.inline
    lower = record { same = λ i lt. (stored_agrees ent k (low ent k) d p).same i (omega (arith, n.at)) }

    pub holds_again : Holding s b ent changed c c.count x (body_at b d p)
    holds_again =
        record {
          beneath = lower;
          stands = scope_again s b ent changed c c.inline lower st (omega arith) c.count
              (inlines_again s b ent changed c.inline c.count n.turn st.inlines lows highs spots
              (subst (λ (y : ℕ). y ≤ 16) (sym high_now) few)
              (subst (λ (y : ℕ). Holds (body 16 y) (bits b) (place changed (c.inline + n.turn))) (sym high_now) (subst (Holds (body 16 d) (bits b)) (sym place_now) held)))
              (distinct_again s b ent changed c.inline c.count n.turn st.inlines lows highs spots st.distinct);
          defines = defined_again s b ent changed c.inline c.count n.turn st.inlines lows highs spots st.distinct n.within
              ∙ ap₂ (λ (y : Bytes) (B : Template). define y B (partials_of s b ent c.inline c.count))
              (same_eq (inline_name s b ent (c.inline + n.turn)) x n.is) (ap₂ (body_at b) high_now place_now);
        }

-- The stack: c is the newest of m + 1 scopes

module _ (s b : Bytes) (ent ent' : List ℕ) (l : List Scope) (m n t : ℕ) (x : Bytes) (B : Template) (st : ScopesStand s b ent l (suc m) t)
    (h : Holding s b ent ent' (get_or l m blank) n x B) (same_length : length ent' ≡ length ent) where
  abbrev c : Scope
  c = get_or l m blank

  under : ScopesStand s b ent l m c.inline
  under = pop_stands s b ent l m t st

  pub scopes_defined : (u : ℕ) → c.inline + n ≤ u → 2 * u ≤ length ent → ScopesStand s b ent' (set l m (with_count c n)) (suc m) u
  scopes_defined u le room =
      push_stands s b ent' l (with_count c n) m c.inline u (scopes_kept s b ent ent' l m c.inline h.beneath under (omega (arith, under.entries)))
      (omega (arith, st.room)) h.stands (omega arith) le (omega arith)

  abbrev with_defined : List Block → List Block
  with_defined [] = []
  with_defined (a ∷ r) = record { context = a.context; partials = define x B a.partials } ∷ r

  -- the state has what `define` leaves
  pub blocks_defined : (q : RenderContext) → blocks q ≡ blocks_of s b ent l (suc m)
      → blocks (set_block_partials (define x B q.seen.block_partials) q) ≡ blocks_of s b ent' (set l m (with_count c n)) (suc m)
  blocks_defined q e =
      ap with_defined e
      ∙ ap₂ (λ (k : BlockContext) (y : List Block). record { context = k; partials = define x B (partials_of s b ent c.inline c.count) } ∷ y)
      (context_kept s b ent ent' c c.inline h.beneath (st.each m (omega arith)) (omega arith)) (blocks_kept s b ent ent' l m c.inline h.beneath under)
      ∙ ap₂ (λ (k : BlockContext) (y : Partials). record { context = k; partials = y } ∷ blocks_of s b ent' l m) (sym (with_count_is s b ent' c n)) (sym h.defines)
      ∙ sym (blocks_set s b ent' l (with_count c n) m (omega (arith, st.room)))

-- where it is another body, the list of scopes stays as it is
module _ (s b : Bytes) (ent ent' : List ℕ) (l : List Scope) (m t : ℕ) (x : Bytes) (B : Template) (st : ScopesStand s b ent l (suc m) t)
    (h : Holding s b ent ent' (get_or l m blank) (get_or l m blank).count x B) (same_length : length ent' ≡ length ent) where
  stays : set l m (with_count (get_or l m blank) (get_or l m blank).count) ≡ l
  stays = set-get_or l m blank

  pub scopes_changed : ScopesStand s b ent' l (suc m) t
  scopes_changed =
      subst (λ (k : List Scope). ScopesStand s b ent' k (suc m) t) stays
      (scopes_defined s b ent ent' l m (get_or l m blank).count t x B st h same_length t (st.within m (omega arith)) st.entries)

  pub blocks_changed : (q : RenderContext) → blocks q ≡ blocks_of s b ent l (suc m)
      → blocks (set_block_partials (define x B q.seen.block_partials) q) ≡ blocks_of s b ent' l (suc m)
  blocks_changed q e =
      blocks_defined s b ent ent' l m (get_or l m blank).count t x B st h same_length q e
      ∙ ap (λ (k : List Scope). blocks_of s b ent' k (suc m)) stays
