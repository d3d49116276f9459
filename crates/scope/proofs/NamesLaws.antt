-- What the code finds is what the rules find.
use Prim.Native.Nat.{ℕ, zero, suc, ◌+◌, ◌-◌, ◌*◌, ◌≤◌, ◌<◌}
use Rattle.std.specs.Prelude.{Bool, List, [], ◌∷◌, ◌++◌, ◌≡◌, refl, eqb, ltb, leb, length, get_or, Option as RustOption, Some, None}
use Rattle.std.proofs.Math.Bool.{true, false}
use Rattle.std.proofs.Math.Option.{Option, none, some}
use Rattle.std.proofs.Common.{sym, ◌∙◌, subst, ltb-true, ltb-false}
use Rattle.std.proofs.Math.Path.{ap}
use native.Mathlib.Omega.{arith}
use Rattle.std.proofs.Math.ListN.{get_elem?}
use Rattle.rules.specs.Bytes.{Bytes, pick, maybe, same, ascii}
use Rattle.rules.specs.Json.{Json, jbool, jpos}
use Rattle.rules.specs.Bits.{bits}
use Rattle.rules.specs.Bundle.{string}
use Rattle.rules.specs.LocalVars.{default, get}
use Rattle.rules.specs.Block.{BlockParamHolder, get_block_param, BlockParamHolder.path as holds-path, BlockParamHolder.value as holds-value}
use Rattle.rules.specs.Value.{ScopedJson, missing}
use Rattle.rules.specs.Context.{absolute_path, block_param_value, local_value, from_holder, from_block, follow, front, get_or_front, get_in_block_params}
use Rattle.rules.specs.Expand.{or_missing}
use Rattle.rules.specs.Partial.{hash_params}
use Rattle.layout.specs.Text.{text_at}
use Rattle.parts.specs.Holds.{Holds, end}
use Rattle.parts.specs.HoldsLaws.{string_in}
use Rattle.rules.specs.BundleLaws.{bits_size}
use Rattle.places.specs.Places.{path_at}
use Rattle.value.specs.declared.Value.{Value}
use Rattle.value.specs.declared.Value.TheVariants.{Missing, Null, False, True, Empty, Context, Place, Literal, Index, IndexText, Name, Text, SaidChar, PackedChar, Merged}
use Rattle.meaning.specs.Entries.{place, hash_value}
use Rattle.meaning.specs.Meaning.{pairs, merged_of, context_place, is_missing, json_of, scoped_of}
use Rattle.meaning.specs.MeaningLaws.{plain_is}
use Rattle.meaning.specs.Standing.{Stands, plain, stands_plain, stands_later, stands_merged}
use Rattle.scope.specs.declared.Scope.{Scope}
use Rattle.scope.specs.Scopes.{base_of, key_of, is_first, is_last, over_object, holder, second, params_by, locals_of, turn_locals, context_of, block_of, blocks_of, blank}
use Rattle.scope.specs.Standing.{ScopeStands, ScopesStand}
use Rattle.scope.specs.Names.{Readable, AllReadable, without_path, hash_param, resolved, LeadsAs, ParamIs, own_param, ValueIs, LocalIs, local_at, second_value, one_param, two_params, param_by, param_of, or_param, first_param, level_place, flag, local_key, local_variable}

-- within a list the default does not matter
pub get_d_any : {A : Type 0} (l : List A) (i : ℕ) (d e : A) → i < length l → get_or l i d ≡ get_or l i e
get_d_any [] i d e lt = absurd (omega arith)
get_d_any (x ∷ l) zero d e lt = refl
get_d_any (x ∷ l) (suc i) d e lt = get_d_any l i d e (omega arith)

-- where a stack is read by index
pub in_stack : (l : List Scope) (i : ℕ) → length l ≡ 32 → i < 32 → get_or l i blank ≡ get_or l i (record { base = 0; names = 0; key = 0; index = 0; inline = 0; count = 0; text = 0; kind = 0; locals = 0; block = 0 })
in_stack l i e lt = get_d_any l i blank _ (omega arith)

pub string_near : (b : Bytes) (p : ℕ) → length b ≤ 65536 → Holds string (bits b) p → p ≤ 524288
string_near b p le h = omega (arith, string_in (bits b) p h, bits_size b)

-- The n hash pairs from h on, one by one

module _ (b : Bytes) (ent : List ℕ) (k : Bytes) (h n i : ℕ) where
  pub hash_here : i < n → same (text_at (bits b) (place ent (h + i))) k ≡ true → hash_param b ent k (h + i) (n - i) ≡ Some (without_path (hash_value ent (h + i)))
  hash_here lt e = let x : n - i ≡ suc (n - (i + 1)) = omega arith in rw (x, e)

  pub hash_on : i < n → same (text_at (bits b) (place ent (h + i))) k ≡ false → hash_param b ent k (h + i) (n - i) ≡ hash_param b ent k (h + (i + 1)) (n - (i + 1))
  hash_on lt e =
      let x : n - i ≡ suc (n - (i + 1)) = omega arith in
      let y : h + (i + 1) ≡ suc (h + i) = omega arith in
      rw (x, e, y)

  pub hash_none : n ≤ i → hash_param b ent k (h + i) (n - i) ≡ None
  hash_none le = let x : n - i ≡ 0 = omega arith in rw x

module _ (b : Bytes) (ent : List ℕ) (c : Scope) (k : Bytes) (i : ℕ) where
  pub no_merged_param : merged_of (base_of c) ≡ none → None ≡ param_by b ent c k (suc (suc (suc i)))
  no_merged_param e = rw e

  pub merged_param : (h n : ℕ) → base_of c ≡ Merged h n → hash_param b ent k h n ≡ param_by b ent c k (suc (suc (suc i)))
  merged_param h n e = rw e

module _ (s b : Bytes) (ent : List ℕ) where
  -- what the code needs is there where scopes stand
  pub readable : (c : Scope) → ScopeStands s b ent c → 2 * c.inline ≤ length ent → Readable b ent c
  readable c st le =
      record {
        names = st.names;
        hash = λ h n e.
            let m = stands_merged s b ent c.inline (base_of c) h n (ap merged_of e) st.base in
            record { few = m.keys.few; within = omega (arith, m.within); keys = m.keys.keys };
      }

  pub all_readable : (l : List Scope) (n t : ℕ) → ScopesStand s b ent l n t → AllReadable b ent l n
  all_readable l n t st i lt = readable (get_or l i blank) (st.each i lt) (omega (arith, st.within i lt, st.entries))

  -- Values without a path

  pub value_is : (t : ℕ) (v : Value) → Stands s b ent t v → ValueIs s b ent t (json_of s b ent v) (without_path v)
  value_is t Missing st = record { means = plain_is s b ent Null refl ∙ sym (plain_is s b ent Missing refl); pathless = refl; present = refl; stands = plain refl tt }
  value_is t Null st = record { means = refl; pathless = refl; present = refl; stands = st }
  value_is t False st = record { means = refl; pathless = refl; present = refl; stands = st }
  value_is t True st = record { means = refl; pathless = refl; present = refl; stands = st }
  value_is t Empty st = record { means = refl; pathless = refl; present = refl; stands = st }
  value_is t (Context i) st =
      record {
        means = plain_is s b ent (Place i) refl ∙ sym (plain_is s b ent (Context i) refl);
        pathless = refl;
        present = refl;
        stands = plain refl (stands_plain s b ent t (Context i) refl st).0;
      }
  value_is t (Place i) st = record { means = refl; pathless = refl; present = refl; stands = st }
  value_is t (Literal p) st = record { means = refl; pathless = refl; present = refl; stands = st }
  value_is t (Index n) st = record { means = refl; pathless = refl; present = refl; stands = st }
  value_is t (IndexText n) st = record { means = refl; pathless = refl; present = refl; stands = st }
  value_is t (Name o) st = record { means = refl; pathless = refl; present = refl; stands = st }
  value_is t (Text p) st = record { means = refl; pathless = refl; present = refl; stands = st }
  value_is t (SaidChar o n) st = record { means = refl; pathless = refl; present = refl; stands = st }
  value_is t (PackedChar p n) st = record { means = refl; pathless = refl; present = refl; stands = st }
  value_is t (Merged h n) st = record { means = refl; pathless = refl; present = refl; stands = st }

  index_is : (t n : ℕ) → n < 65536 → ValueIs s b ent t (jpos n) (Index n)
  index_is t n lt = record { means = plain_is s b ent (Index n) refl; pathless = refl; present = refl; stands = plain refl lt }

  flag_is : (t : ℕ) (y : Bool) → ValueIs s b ent t (jbool y) (flag y)
  flag_is t true = record { means = plain_is s b ent True refl; pathless = refl; present = refl; stands = plain refl tt }
  flag_is t false = record { means = plain_is s b ent False refl; pathless = refl; present = refl; stands = plain refl tt }

  -- Holders

  leads_value : (t : ℕ) (j : Json) (w : Value) (base : List Bytes) → ValueIs s b ent t j w → LeadsAs s b ent t (holds-value j) base w
  leads_value t j w base x =
      record { leads = λ q. rw x.pathless (ap (block_param_value q) (sym x.means)); present = x.present; stands = x.stands }

  leads_base : (t : ℕ) (v : Value) → is_missing v ≡ false → Stands s b ent t v → LeadsAs s b ent t (holder s b ent v) (maybe (context_place v) [] (path_at s)) v
  leads_base t v p st = record { leads = λ q. go q (context_place v); present = p; stands = st }
    where
      go : (q : List Bytes) (o : Option ℕ) → from_holder (maybe o (holds-value (json_of s b ent v)) (λ i. holds-path [])) (maybe o [] (path_at s)) q
          ≡ maybe o (block_param_value q (json_of s b ent v)) (λ i. absolute_path (path_at s i ++ q))
      go q none = refl
      go q (some i) = refl

  -- One scope

  module _ (k : Bytes) (base : List Bytes) (t : ℕ) where
    hash_is : (e n : ℕ) → ((i : ℕ) → i < n → Stands s b ent t (hash_value ent (e + i)))
        → ParamIs s b ent t (maybe (get_block_param (hash_params (pairs b ent (json_of s b ent) e n)) k) none (λ h. some (h, base))) (hash_param b ent k e n)
    hash_is e zero st = tt
    hash_is e (suc n) st =
        go (same (text_at (bits b) (place ent e)) k)
        (hash_is (suc e) n (λ i lt. let x : e + suc i ≡ suc e + i = omega arith in subst (λ (y : ℕ). Stands s b ent t (hash_value ent y)) x (st (suc i) (omega arith))))
      where
        here : Stands s b ent t (hash_value ent e)
        here = let x : e + 0 ≡ e = omega arith in subst (λ (y : ℕ). Stands s b ent t (hash_value ent y)) x (st 0 (omega arith))

        go : (y : Bool) → ParamIs s b ent t (maybe (get_block_param (hash_params (pairs b ent (json_of s b ent) (suc e) n)) k) none (λ h. some (h, base))) (hash_param b ent k (suc e) n)
            → ParamIs s b ent t
            (maybe (pick y (some (holds-value (json_of s b ent (hash_value ent e)))) (get_block_param (hash_params (pairs b ent (json_of s b ent) (suc e) n)) k)) none (λ h. some (h, base)))
            (pick y (Some (without_path (hash_value ent e))) (hash_param b ent k (suc e) n))
        go true later = leads_value t (json_of s b ent (hash_value ent e)) (without_path (hash_value ent e)) base (value_is t (hash_value ent e) here)
        go false later = later

  module _ (c : Scope) (st : ScopeStands s b ent c) (k : Bytes) where
    abbrev base_path : List Bytes
    base_path = maybe (context_place (base_of c)) [] (path_at s)

    abbrev own_by : ℕ → Option (BlockParamHolder × List Bytes)
    own_by n = maybe (get_block_param (params_by s b ent c n) k) none (λ h. some (h, base_path))

    one_is : ParamIs s b ent c.inline (own_by 1) (one_param b c k)
    one_is = go (same (text_at (bits b) c.names) k)
      where
        go : (y : Bool) → ParamIs s b ent c.inline (maybe (pick y (some (holder s b ent (base_of c))) none) none (λ h. some (h, base_path))) (pick y (Some (base_of c)) None)
        go true = leads_base c.inline (base_of c) st.present st.base
        go false = tt

    second_is : c.index < 65536 → ValueIs s b ent c.inline (second s b ent c) (second_value c)
    second_is lt = go (leb 5 c.locals) refl
      where
        go : (y : Bool) → leb 5 c.locals ≡ y → ValueIs s b ent c.inline (pick y (json_of s b ent (key_of c)) (jpos c.index)) (pick y (without_path (key_of c)) (Index c.index))
        go true e = value_is c.inline (key_of c) (st.key e)
        go false e = index_is c.inline c.index lt

    two_is : c.index < 65536 → ParamIs s b ent c.inline (own_by 2) (two_params b c k)
    two_is lt = go (same (text_at (bits b) (end string (bits b) c.names)) k)
      where
        go : (y : Bool) → ParamIs s b ent c.inline
            (maybe (pick y (some (holds-value (second s b ent c))) (get_block_param (params_by s b ent c 1) k)) none (λ h. some (h, base_path)))
            (pick y (Some (second_value c)) (one_param b c k))
        go true = leads_value c.inline (second s b ent c) (second_value c) base_path (second_is lt)
        go false = one_is

    hash_names_is : (n : ℕ) → ParamIs s b ent c.inline (own_by (suc (suc (suc n)))) (param_by b ent c k (suc (suc (suc n))))
    hash_names_is n = go (merged_of (base_of c)) refl
      where
        go : (o : Option (ℕ × ℕ)) → merged_of (base_of c) ≡ o → ParamIs s b ent c.inline
            (maybe (get_block_param (maybe o [] (λ m. hash_params (pairs b ent (json_of s b ent) m.0 m.1))) k) none (λ h. some (h, base_path)))
            (maybe o None (λ m. hash_param b ent k m.0 m.1))
        go none e = tt
        go (some m) e =
            let x = stands_merged s b ent c.inline (base_of c) m.0 m.1 e st.base in
            hash_is k base_path c.inline m.0 m.1 (λ i lt. stands_later s b ent m.0 c.inline (hash_value ent (m.0 + i)) (omega (arith, x.within)) (x.values i lt))

    pub own_is : (n : ℕ) → (n ≡ 2 → c.index < 65536) → c.kind ≡ n → (r : RustOption Value) → r ≡ param_by b ent c k n → ParamIs s b ent c.inline (own_param s b ent c k) r
    own_is n lt e r f =
        subst (λ (x : RustOption Value). ParamIs s b ent c.inline (own_param s b ent c k) x) (sym f)
        (subst (λ (x : ℕ). ParamIs s b ent c.inline (own_by x) (param_by b ent c k n)) (sym e) (at n lt))
      where
        at : (n : ℕ) → (n ≡ 2 → c.index < 65536) → ParamIs s b ent c.inline (own_by n) (param_by b ent c k n)
        at zero lt = tt
        at (suc zero) lt = one_is
        at (suc (suc zero)) lt = two_is (lt refl)
        at (suc (suc (suc n))) lt = hash_names_is n

    -- it has no such name
    two_none : two_params b c k ≡ None → ParamIs s b ent c.inline (own_by 2) None
    two_none = go (same (text_at (bits b) (end string (bits b) c.names)) k)
      where
        go : (y : Bool) → pick y (Some (second_value c)) (one_param b c k) ≡ None → ParamIs s b ent c.inline
            (maybe (pick y (some (holds-value (second s b ent c))) (get_block_param (params_by s b ent c 1) k)) none (λ h. some (h, base_path))) None
        go true e = let z : ◌≡◌ {A = ℕ} 0 1 = cc in absurd (omega arith)
        go false e = subst (λ (x : RustOption Value). ParamIs s b ent c.inline (own_by 1) x) e one_is

    pub own_none : param_of b ent c k ≡ None → ParamIs s b ent c.inline (own_param s b ent c k) None
    own_none e = at c.kind e
      where
        at : (n : ℕ) → param_by b ent c k n ≡ None → ParamIs s b ent c.inline (own_by n) None
        at zero e = tt
        at (suc zero) e = subst (λ (x : RustOption Value). ParamIs s b ent c.inline (own_by 1) x) e one_is
        at (suc (suc zero)) e = two_none e
        at (suc (suc (suc n))) e = subst (λ (x : RustOption Value). ParamIs s b ent c.inline (own_by (suc (suc (suc n)))) x) e (hash_names_is n)

  -- Scope by scope

  param_later : (t u : ℕ) (o : Option (BlockParamHolder × List Bytes)) (r : RustOption Value) → t ≤ u → ParamIs s b ent t o r → ParamIs s b ent u o r
  param_later t u none None le x = tt
  param_later t u none (Some w) le x = x
  param_later t u (some h) None le x = x
  param_later t u (some h) (Some w) le x = record { leads = x.leads; present = x.present; stands = stands_later s b ent t u w le x.stands }

  module _ (l : List Scope) (n : ℕ) (k : Bytes) where
    abbrev within : ℕ → Option (BlockParamHolder × List Bytes)
    within i = get_in_block_params (blocks_of s b ent l i) k

    -- the newest scope has the name
    pub in_found : (t : ℕ) (w : Value) → (get_or l n blank).inline ≤ t → ParamIs s b ent (get_or l n blank).inline (own_param s b ent (get_or l n blank) k) (Some w) → ParamIs s b ent t (within (suc n)) (Some w)
    in_found t w le x = go (get_block_param (context_of s b ent (get_or l n blank)).block_params k) (param_later (get_or l n blank).inline t (own_param s b ent (get_or l n blank) k) (Some w) le x)
      where
        go : (o : Option BlockParamHolder) → ParamIs s b ent t (maybe o none (λ h. some (h, (context_of s b ent (get_or l n blank)).base_path))) (Some w)
            → ParamIs s b ent t (maybe o (within n) (λ h. some (h, (context_of s b ent (get_or l n blank)).base_path))) (Some w)
        go none x = absurd x
        go (some h) x = x

    -- it has not
    pub in_outer : (t : ℕ) → ParamIs s b ent t (own_param s b ent (get_or l n blank) k) None → within (suc n) ≡ within n
    in_outer t x = go (get_block_param (context_of s b ent (get_or l n blank)).block_params k) x
      where
        go : (o : Option BlockParamHolder) → ParamIs s b ent t (maybe o none (λ h. some (h, (context_of s b ent (get_or l n blank)).base_path))) None
            → maybe o (within n) (λ h. some (h, (context_of s b ent (get_or l n blank)).base_path)) ≡ within n
        go none x = refl
        go (some h) x = absurd x

  -- one turn of the loop over scopes, from i scopes to one less: found is what the scope has
  module _ (l : List Scope) (i n t : ℕ) (k : Bytes) (found : RustOption Value) (lt : 0 < i) (le : i ≤ n) (st : ScopesStand s b ent l n t)
      (d : Scope) (here : d ≡ get_or l (i - 1) blank) (x : ScopeStands s b ent d → ParamIs s b ent d.inline (own_param s b ent d k) found) where
    turned : ParamIs s b ent (get_or l (i - 1) blank).inline (own_param s b ent (get_or l (i - 1) blank) k) found
    turned =
        subst (λ (c : Scope). ScopeStands s b ent c → ParamIs s b ent c.inline (own_param s b ent c k) found) here x (st.each (i - 1) (omega arith))

    pub turn_found : (w : Value) → found ≡ Some w → ParamIs s b ent t (get_in_block_params (blocks_of s b ent l i) k) (Some w)
    turn_found w e =
        let y : suc (i - 1) ≡ i = omega arith in
        subst (λ (j : ℕ). ParamIs s b ent t (get_in_block_params (blocks_of s b ent l j) k) (Some w)) y
        (in_found l (i - 1) k t w (omega (arith, st.within (i - 1) (omega arith)))
        (subst (λ (r : RustOption Value). ParamIs s b ent (get_or l (i - 1) blank).inline (own_param s b ent (get_or l (i - 1) blank) k) r) e turned))

    pub turn_outer : found ≡ None → get_in_block_params (blocks_of s b ent l (i - 1)) k ≡ get_in_block_params (blocks_of s b ent l i) k
    turn_outer e =
        let y : suc (i - 1) ≡ i = omega arith in
        sym
        (subst (λ (j : ℕ). get_in_block_params (blocks_of s b ent l j) k ≡ get_in_block_params (blocks_of s b ent l (i - 1)) k) y
        (in_outer l (i - 1) k (get_or l (i - 1) blank).inline
        (subst (λ (r : RustOption Value). ParamIs s b ent (get_or l (i - 1) blank).inline (own_param s b ent (get_or l (i - 1) blank) k) r) e turned)))

  -- Levels

  module _ (l : List Scope) where
    pub block_at : (n k : ℕ) → k < n → get_elem? (blocks_of s b ent l n) k ≡ some (block_of s b ent (get_or l (n - 1 - k) blank))
    block_at zero k lt = absurd (omega arith)
    block_at (suc n) zero lt = let e : suc n - 1 - 0 ≡ n = omega arith in rw e
    block_at (suc n) (suc k) lt = let e : suc n - 1 - suc k ≡ n - 1 - k = omega arith in rw e (block_at n k (omega arith))

    pub no_block_at : (n k : ℕ) → n ≤ k → get_elem? (blocks_of s b ent l n) k ≡ none
    no_block_at zero k le = refl
    no_block_at (suc n) zero le = absurd (omega arith)
    no_block_at (suc n) (suc k) le = no_block_at n k (omega arith)

    front_is : (n : ℕ) → 0 < n → front (blocks_of s b ent l n) ≡ some (context_of s b ent (get_or l (n - 1) blank))
    front_is zero lt = absurd (omega arith)
    front_is (suc n) lt = let e : suc n - 1 ≡ n = omega arith in rw e

    -- the scope that `get_or_front` gives
    pub or_front_is : (n k : ℕ) → 0 < n → get_or_front (blocks_of s b ent l n) k ≡ some (context_of s b ent (get_or l (level_place n k) blank))
    or_front_is n k lt = go (ltb k n) refl
      where
        go : (y : Bool) → ltb k n ≡ y → get_or_front (blocks_of s b ent l n) k ≡ some (context_of s b ent (get_or l (pick y (n - 1 - k) (n - 1)) blank))
        go true e = rw (block_at n k (ltb-true k n e))
        go false e = rw (no_block_at n k (ltb-false k n e)) (front_is n lt)

  pub level_within : (n k : ℕ) → 0 < n → level_place n k < n
  level_within n k lt = go (ltb k n)
    where
      go : (y : Bool) → pick y (n - 1 - k) (n - 1) < n
      go true = omega arith
      go false = omega arith

  -- both kinds of value are followed alike
  pub follow_local : (plan : Json) (r : Bool) (q : List Bytes) (v : Json) → follow plan r (local_value q v) ≡ follow plan r (block_param_value q v)
  follow_local plan true q v = refl
  follow_local plan false q v = refl

  -- a path from a scope leads where its base value leads
  pub follow_base : (plan : Json) (r : Bool) (c : Scope) (q : List Bytes) → follow plan r (from_block (some (context_of s b ent c)) q) ≡ follow plan r (resolved s b ent (base_of c) q)
  follow_base plan r c q = go (context_place (base_of c))
    where
      go : (o : Option ℕ) → follow plan r (maybe (maybe o (some (json_of s b ent (base_of c))) (λ i. none)) (absolute_path (maybe o [] (path_at s) ++ q)) (λ v. local_value q v))
          ≡ follow plan r (maybe o (block_param_value q (json_of s b ent (base_of c))) (λ i. absolute_path (path_at s i ++ q)))
      go none = follow_local plan r q (json_of s b ent (base_of c))
      go (some i) = refl

  -- Local variables

  module _ (c : Scope) (t : ℕ) (le : c.inline ≤ t) (st : ScopeStands s b ent c) (lt : c.index < 65536) (k : Bytes) where
    key_is : LocalIs s b ent t (pick (over_object c) (some (json_of s b ent (key_of c))) none) (local_key c)
    key_is = go (leb 5 c.locals) refl
      where
        go : (y : Bool) → leb 5 c.locals ≡ y → LocalIs s b ent t (pick y (some (json_of s b ent (key_of c))) none) (pick y (Some (without_path (key_of c))) None)
        go true e = value_is t (key_of c) (stands_later s b ent c.inline t (key_of c) le (st.key e))
        go false e = tt

    none_of : (x y z w : Bool) → Path (Option Json) (pick x none (pick y none (pick z none (pick w none none)))) none
    none_of true y z w = refl
    none_of false true z w = refl
    none_of false false true w = refl
    none_of false false false true = refl
    none_of false false false false = refl

    turn_is : (x y z w : Bool) → LocalIs s b ent t
        (pick x (turn_locals s b ent c).first (pick y (turn_locals s b ent c).last (pick z (turn_locals s b ent c).index (pick w (turn_locals s b ent c).key none))))
        (pick x (Some (flag (is_first c))) (pick y (Some (flag (is_last c))) (pick z (Some (Index c.index)) (pick w (local_key c) None))))
    turn_is true y z w = flag_is t (is_first c)
    turn_is false true z w = flag_is t (is_last c)
    turn_is false false true w = index_is t c.index lt
    turn_is false false false true = key_is
    turn_is false false false false = tt

    pub local_is : LocalIs s b ent t (get (locals_of s b ent c) k) (local_variable c k)
    unfolding local_variable
    local_is = go (eqb c.locals 0)
      where
        go : (y : Bool) → LocalIs s b ent t (get (pick y default (turn_locals s b ent c)) k)
            (pick y None
            (pick (same k (ascii "first")) (Some (flag (is_first c)))
            (pick (same k (ascii "last")) (Some (flag (is_last c)))
            (pick (same k (ascii "index")) (Some (Index c.index)) (pick (same k (ascii "key")) (local_key c) None)))))
        go true = rw (none_of (same k (ascii "first")) (same k (ascii "last")) (same k (ascii "index")) (same k (ascii "key"))) tt
        go false = turn_is (same k (ascii "first")) (same k (ascii "last")) (same k (ascii "index")) (same k (ascii "key"))

  module _ (l : List Scope) (n level t : ℕ) (k : Bytes) where
    pub no_local : n ≤ level → LocalIs s b ent t (local_at s b ent l n level k) None
    no_local le = rw (no_block_at l n level le) tt

    pub local_found : (d : Scope) (r : RustOption Value) → level < n → ScopesStand s b ent l n t → d ≡ get_or l (n - 1 - level) blank → d.index < 65536 → r ≡ local_variable d k
        → LocalIs s b ent t (local_at s b ent l n level k) r
    local_found d r lt st f small e =
        let i : ℕ = n - 1 - level in
        rw (block_at l n level lt, e, f)
        (local_is (get_or l i blank) t (omega (arith, st.within i (omega arith))) (st.each i (omega arith)) (subst (λ (c : Scope). c.index < 65536) f small) k)

  -- as the rules answer a local path
  abbrev pub said : RustOption Value → ScopedJson
  said (Some w) = scoped_of s b ent w
  said None = missing

  pub local_said : (t : ℕ) (o : Option Json) (r : RustOption Value) → LocalIs s b ent t o r → or_missing o ≡ said r
  local_said t none None x = refl
  local_said t none (Some w) x = absurd x
  local_said t (some j) None x = absurd x
  local_said t (some j) (Some w) x = rw (x.present, x.pathless, x.means)

-- The code's own terms, whether or not the scopes stand

pub own_settled : (b : Bytes) (ent : List ℕ) (c : Scope) (k : Bytes) (n : ℕ) → (n ≡ 2 → c.index < 65536) → c.kind ≡ n → (r : RustOption Value) → r ≡ param_by b ent c k n
    → (r ≡ param_of b ent c k) × ((s : Bytes) → ScopeStands s b ent c → ParamIs s b ent c.inline (own_param s b ent c k) r)
own_settled b ent c k n lt e r f = (f ∙ ap (param_by b ent c k) (sym e), λ s st. own_is s b ent c st k n lt e r f)

module _ (b : Bytes) (ent : List ℕ) (l : List Scope) (k : Bytes) (i : ℕ) (d : Scope) (pos : 0 < i) (here : d ≡ get_or l (i - 1) blank) (r : RustOption Value) (own : r ≡ param_of b ent d k) where
  pub first_own : first_param b ent l k i ≡ or_param r (first_param b ent l k (i - 1))
  unfolding first_param
  first_own =
      let x : i ≡ suc (i - 1) = omega arith in
      let f = own ∙ ap (λ (c : Scope). param_of b ent c k) here in
      ap (first_param b ent l k) x ∙ ap (λ (z : RustOption Value). or_param z (first_param b ent l k (i - 1))) (sym f)

  pub first_found : (w : Value) → r ≡ Some w → Some w ≡ first_param b ent l k i
  first_found w e = sym (first_own ∙ ap (λ (z : RustOption Value). or_param z (first_param b ent l k (i - 1))) e)

  pub first_outer : r ≡ None → first_param b ent l k (i - 1) ≡ first_param b ent l k i
  first_outer e = sym (first_own ∙ ap (λ (z : RustOption Value). or_param z (first_param b ent l k (i - 1))) e)
