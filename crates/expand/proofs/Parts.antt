-- Parts of a call.
use Rattle.std.proofs.lemmas.Option.{none-some}
use Rattle.std.specs.Prelude.{Option as RustOption, Some, None, Result, Ok, Err}
use Rattle.std.specs.Option.{option_or}
use Prim.Native.Nat.{ℕ, zero, suc, ◌-◌, ◌<◌}
use native.Mathlib.Omega.{arith}
use mathlib.Core.Bool.{Bool, true, false}
use mathlib.Core.List.{List, [], ◌∷◌}
use mathlib.Core.Option.{none}
use mathlib.Core.Path.{◌≡◌, refl, sym, ap, ◌∙◌, subst}
use lib.ListN.{length, get_or}
use borrow.Author.Tests.{ne_eqb}
use Rattle.rules.specs.Bytes.{Bytes, pick, same, ascii}
use Rattle.rules.specs.Json.{Json}
use Rattle.rules.specs.Bits.{Bits, bits}
use Rattle.rules.specs.Layout.{Layout, field, ◌then◌}
use Rattle.rules.specs.LayoutLaws.{Binary, field_lt}
use Rattle.rules.specs.Bundle.{string, param, call_of}
use Rattle.rules.specs.Template as template
use Rattle.rules.specs.Error as rule
use Rattle.rules.specs.Error.{got, bad, wth}
use Rattle.rules.specs.Value.{ScopedJson, as_json, render}
use Rattle.rules.specs.State.{RenderContext, page}
use Rattle.rules.specs.Registry.{Registry, paper_limits}
use Rattle.rules.specs.BlockUtil as block-util
use Rattle.rules.specs.HelperIf.{include_zero}
use Rattle.rules.specs.Expand as rules
use Rattle.error.specs.Reasons.{refusal_some, refusal}
use Rattle.error.specs.declared.RenderErrorReason.{RenderErrorReason as Reason}
use Rattle.layout.specs.Text.{text_at}
use Rattle.parts.specs.Holds.{Holds, end, row}
use Rattle.parts.specs.HoldsLaws.{moved, more_holds}
use Rattle.parts.specs.Says.{path_at}
use Rattle.calls.specs.Calls.{param_at, params_at, hash_at, call_at, call_read, name_end, params_end, call_view, no_params, params_more, no_hash, hash_more}
use Rattle.calls.specs.declared.Call.{Call}
use Rattle.places.specs.Places.{json_at}
use Rattle.value.specs.declared.Value.{Value}
use Rattle.value.specs.declared.Value.TheVariants.{Missing, Text}
use Rattle.meaning.specs.Meaning.{json_of, scoped_of}
use Rattle.meaning.specs.Means.{stands_known}
use Rattle.meaning.specs.MeaningLaws.{plain_is}
use Rattle.meaning.specs.Standing.{plain}
use Rattle.meaning.specs.Truth.{bool_of}
use Rattle.scope.specs.declared.Scope.{Scope}
use Rattle.scope.specs.Scopes.{blank, context_of, partials_of, blocks_of}
use Rattle.scope.specs.Standing.{ScopesStand}
use Rattle.context.specs.Near.{NearScopes}
use Rattle.expand.specs.declared.Options.{Options}
use Rattle.expand.specs.declared.Params.{Params}
use Rattle.expand.specs.declared.Hash.{Hash}
use Rattle.expand.specs.declared.Expanded.{Expanded}
use Rattle.expand.specs.Answers.{Setting, Refuses, Expands, Names, name_of, Works, Begins, ExpandsAll, ExpandsHash, IsExpanded, IsTemplate, ExpandedHeld}
use Rattle.expand.specs.Answers.{Calls, Finishes, joined, gathered, bare, with_one, GotKnown, zero_or, Paired}
use Rattle.expand.specs.WithoutHash.{without_hash}
use Rattle.expand.proofs.Calling.{as_json_of}

-- a refusal goes on
onward : {A B : Type 0} (x : rule.Got A) (f : A → rule.Got B) (n : RustOption Reason) → Refuses x n → Refuses (wth x f) n
onward x f n r = record { reason = r.reason; is = ap (λ y. wth y f) r.is; by_reason = r.by_reason }

stops : {A B : Type 0} (P : B → Type 0) (x : rule.Got A) (f : A → rule.Got B) (n : RustOption Reason) → Refuses x n → Works P (wth x f) n
stops P x f n r = record { fine = λ e. absurd (refusal_some r.reason (r.by_reason ∙ e)); refused = λ e. onward x f n r }

-- behind a value
goes : {A B : Type 0} (P : B → Type 0) (x : rule.Got A) (f : A → rule.Got B) (a : A) (n : RustOption Reason) → x ≡ got a → Works P (f a) n → Works P (wth x f) n
goes P x f a n e w = subst (λ y. Works P (wth y f) n) (sym e) w

module _ (s b : Bytes) (ent : List ℕ) (t : ℕ) where
  pub no_params_given : ExpandsAll s b ent t 0 (got []) (record { first = Missing; second = Missing; bad = None })
  no_params_given = record {
    fine = λ e. ([], refl, record { count = refl; begins = tt; first = plain refl tt; second = plain refl tt });
    refused = λ e. absurd (e refl);
  }

  pub joined_given : (x : rule.Got ScopedJson) (y : rule.Got (List ScopedJson)) (r : Result Value Reason) (l : Params) (n : ℕ) → Expands s b ent t x r → ExpandsAll s b ent t n y l
      → ExpandsAll s b ent t (suc n) (wth x (λ v. wth y (λ vs. got (v ∷ vs)))) (joined r l)
  joined_given x y (Err m) l n h k = stops _ x _ (Some m) h
  joined_given x y (Ok v) l n h k = goes _ x _ (scoped_of s b ent v) l.bad h.0 (record {
    fine = λ e. let f = k.fine e in (scoped_of s b ent v ∷ f.0, ap (λ z. wth z (λ vs. got (scoped_of s b ent v ∷ vs))) f.1, record { count = ap suc f.2.count; begins = begin f.0 f.2.begins; first = h.1; second = f.2.first });
    refused = λ e. onward y _ l.bad (k.refused e);
  })
    where
      begin : (a : List ScopedJson) → Begins s b ent a l.first l.second → Begins s b ent (scoped_of s b ent v ∷ a) v l.first
      begin [] q = refl
      begin (z ∷ []) q = (refl, q)
      begin (z ∷ u ∷ a) q = (refl, q.0)

  pub no_hash_given : ExpandsHash (got []) (record { zero = false; bad = None })
  no_hash_given = record { fine = λ e. ([], refl, refl); refused = λ e. absurd (e refl) }

  zero_given : (k : Bytes) (v : Value) (a : List (Bytes × ScopedJson)) (later : Bool) → include_zero a ≡ later → include_zero ((k, scoped_of s b ent v) ∷ a) ≡ zero_or k later (json_of s b ent v)
  zero_given k v a later e = go (same k (ascii "includeZero")) refl
    where
      go : (c : Bool) → same k (ascii "includeZero") ≡ c → include_zero ((k, scoped_of s b ent v) ∷ a) ≡ zero_or k later (json_of s b ent v)
      go true q = rw q (ap bool_of (as_json_of s b ent v))
      go false q = rw q e

  pub paired_given : (p : ℕ) (x : rule.Got ScopedJson) (y : rule.Got (List (Bytes × ScopedJson))) (r : Result Value Reason) (l z : Hash) → Expands s b ent t x r → ExpandsHash y l → Paired s b p r l z
      → ExpandsHash (wth x (λ v. wth y (λ vs. got ((text_at (bits b) p, v) ∷ vs)))) z
  paired_given p x y (Err m) l z h k q = subst (ExpandsHash _) (sym q) (stops _ x _ (Some m) h)
  paired_given p x y (Ok v) l z h k q = goes _ x _ (scoped_of s b ent v) z.bad h.0 (subst (Works _ _) (sym q.bad) (record {
    fine = λ e. let f = k.fine e in ((text_at (bits b) p, scoped_of s b ent v) ∷ f.0, ap (λ u. wth u (λ vs. got ((text_at (bits b) p, scoped_of s b ent v) ∷ vs))) f.1, zero_given (text_at (bits b) p) v f.0 l.zero f.2 ∙ sym (q.zero.at ent t h.1));
    refused = λ e. onward y _ l.bad (k.refused e);
  }))

  abbrev gathers : rule.Got Bytes → rule.Got (List ScopedJson) → rule.Got (List (Bytes × ScopedJson)) → rule.Got block-util.Expanded
  gathers x y z = wth x (λ n. wth y (λ vs. wth z (λ kvs. got (record { name = n; params = vs; hash = kvs }))))

  pub gathered_given : (x : rule.Got Bytes) (y : rule.Got (List ScopedJson)) (z : rule.Got (List (Bytes × ScopedJson))) (r : Result Value Reason) (n : ℕ) (ps : Params) (hs : Hash)
      → Names s b ent t x r → ExpandsAll s b ent t n y ps → ExpandsHash z hs → IsTemplate s b ent t (gathers x y z) (gathered r n ps hs)
  gathered_given x y z (Err m) n ps hs h k q = stops _ x _ (Some m) h
  gathered_given x y z (Ok v) n ps hs h k q = goes _ x _ (name_of s b ent v) _ h.0 (by ps.bad refl)
    where
      by : (m : RustOption Reason) → ps.bad ≡ m → Works (IsExpanded s b ent t (gathered (Ok v) n ps hs)) (wth y (λ vs. wth z (λ kvs. got (record { name = name_of s b ent v; params = vs; hash = kvs })))) (option_or m hs.bad)
      by (Some m) e = stops _ y _ (Some m) (subst (Refuses y) e (k.refused (λ f. none-some m (sym f ∙ e))))
      by None e =
          let f = k.fine e in
          goes _ y _ f.0 hs.bad f.1 (record {
            fine = λ e. let g = q.fine e in (record { name = name_of s b ent v; params = f.0; hash = g.0 }, ap (λ u. wth u (λ kvs. got (record { name = name_of s b ent v; params = f.0; hash = kvs }))) g.1, record { name = refl; name_stands = h.1; params = f.2; zero = g.2 });
            refused = λ e. onward z _ hs.bad (q.refused e);
          })

  -- as a name
  pub named_given : (x : rule.Got ScopedJson) (r : Result Value Reason) → Expands s b ent t x r → Names s b ent t (wth x (λ v. got (render (as_json v)))) r
  named_given x (Ok v) h = (ap (λ y. wth y (λ v. got (render (as_json v)))) h.0 ∙ ap (λ j. got (render j)) (as_json_of s b ent v), h.1)
  named_given x (Err m) h = onward x _ (Some m) h

  pub got_known : (x : rule.Got ScopedJson) (r : Result Value Reason) → Expands s b ent t x r → GotKnown s b r
  got_known x (Ok v) h = stands_known s b ent t v h.1
  got_known x (Err n) h = tt

  pub expanded_held : (l : List Scope) (used : ℕ) (x : rule.Got block-util.Expanded) (w : Expanded) → ScopesStand s b ent l used t → IsTemplate s b ent t x w → w.bad ≡ None → ExpandedHeld s b ent w
  expanded_held l used x w st h e =
      let f = h.fine e in
      record { used = t; room = st.entries; name = f.2.name_stands; first = f.2.params.first; second = f.2.params.second }

-- A call whose name is the string at q: alone, or with one parameter and no hash
module _ (s b : Bytes) (ent : List ℕ) (t q : ℕ) (H : Holds string (bits b) q) (g : Registry) (st : RenderContext) where
  name_given : Names s b ent t (got (text_at (bits b) q)) (Ok (Text q))
  name_given = (ap (λ (j : Json). got (render j)) (sym (plain_is s b ent (Text q) refl)), plain refl H)

  pub string_given : (x : template.Parameter) → x ≡ template.name (text_at (bits b) q) → Names s b ent t (rules.expand_as_name g st x) (Ok (Text q))
  string_given x e = (ap (rules.expand_as_name g st) e ∙ name_given.0, name_given.1)

  pub bare_given : IsTemplate s b ent t (rules.try_from_template g st (template.call (template.name (text_at (bits b) q)) template.pnil template.hnil)) (bare q)
  bare_given = gathered_given s b ent t _ _ _ (Ok (Text q)) 0 _ _ name_given (no_params_given s b ent t) (no_hash_given s b ent t)

  abbrev with_path : ℕ → template.Call
  with_path v = template.call (template.name (text_at (bits b) q)) (template.pcons (template.path (path_at (bits b) v)) template.pnil) template.hnil

  pub one_given : (v : ℕ) (r : Result Value Reason) → Expands s b ent t (rules.evaluate2 g st (path_at (bits b) v)) r → IsTemplate s b ent t (rules.try_from_template g st (with_path v)) (with_one q r)
  one_given v (Ok w) h =
      gathered_given s b ent t _ _ _ (Ok (Text q)) 1 _ _ name_given (joined_given s b ent t _ _ (Ok w) _ 0 h (no_params_given s b ent t)) (no_hash_given s b ent t)
  one_given v (Err n) h =
      stops (IsExpanded s b ent t (with_one q (Err n)))
      (wth (rules.evaluate2 g st (path_at (bits b) v)) (λ (w : ScopedJson). got (w ∷ [])))
      (λ (vs : List ScopedJson). got (record { name = text_at (bits b) q; params = vs; hash = [] }))
      (Some n)
      (onward (rules.evaluate2 g st (path_at (bits b) v)) _ (Some n) h)

-- Where working out was refused
module _ (s b : Bytes) (ent : List ℕ) (used : ℕ) (o : Options) (w : Expanded) where
  pub finished_bad : (e : Reason) → w.bad ≡ Some e → Finishes s b ent used o w (Err e)
  finished_bad e q g st t x a h = onward x _ (Some e) (subst (Refuses x) q (h.refused (λ f. none-some e (sym f ∙ q))))

  pub finished_called : w.bad ≡ None → (r : Result Value Reason) → Calls s b ent used o w (λ g st e. rules.called g st e) r → Finishes s b ent used o w r
  finished_called e r c g st t x a h =
      let f = h.fine e in
      subst (λ (y : rule.Got block-util.Expanded). Expands s b ent t (wth y (rules.called g st)) r) (sym f.1) (c g st t f.0 a f.2)

-- There is such a registry and such a state

blocks_length : (s b : Bytes) (ent : List ℕ) (l : List Scope) (n : ℕ) → length (blocks_of s b ent l n) ≡ n
blocks_length s b ent l zero = refl
blocks_length s b ent l (suc n) = ap suc (blocks_length s b ent l n)

abbrev some_registry : Bytes → Options → Registry
some_registry s o = record {
  templates = [];
  plan = json_at s 0;
  options = record { strict_mode = o.strict; recursive_lookup = o.recursive_lookup; guide_truth = o.guide_truth };
  limits = paper_limits 0;
}

abbrev some_state : Bytes → Bytes → List ℕ → List Scope → ℕ → RenderContext
some_state s b ent l n = record {
  kept = record { block = context_of s b ent (get_or l n blank); blocks_beneath = blocks_of s b ent l n; partial_block_stack = []; indent_string = none; disable_escape = false; out = page };
  seen = record {
    block_partials = partials_of s b ent (get_or l n blank).inline (get_or l n blank).count;
    current_template = none;
    marks = record { trailing_newline = false; content_produced = false; indent_before_write = false };
    room = record { page_room = 0; texts_room = 0 };
  };
}

pub record SomeSetting (s b : Bytes) (ent : List ℕ) (l : List Scope) (used : ℕ) (o : Options) : Type 0 where
  pub g : Registry
  pub st : RenderContext
  pub t : ℕ
  pub setting : Setting s b ent l used o g st t

pub some_setting : (s b : Bytes) (ent : List ℕ) (l : List Scope) (used : ℕ) (o : Options) → 0 < used → NearScopes s b ent l used → SomeSetting s b ent l used o
some_setting s b ent l zero o lt h = absurd (omega arith)
some_setting s b ent l (suc n) o lt h = record {
  g = some_registry s o;
  st = some_state s b ent l n;
  t = h.top;
  setting = record {
    alike = record { strict = refl; scopes = refl; deep = ap suc (blocks_length s b ent l n) };
    plan = refl;
    recursive = refl;
    open_scopes = refl;
    stand = h.stand;
  };
}

pub some_used : (s b : Bytes) (ent : List ℕ) (l : List Scope) (used : ℕ) (o : Options) (lt : 0 < used) (h : NearScopes s b ent l used)
    → (some_setting s b ent l used o lt h).t ≡ h.top
unfolding some_setting
some_used s b ent l zero o lt h = absurd (omega arith)
some_used s b ent l (suc n) o lt h = refl

-- Rows, one by one

module _ {A : Type 0} (c : Layout A) (n : ℕ) (b : Bits) (p : ℕ) (z : n ≡ 0 → ⊥) (H : Holds (row c n) b p) where
  one_more : n ≡ suc (n - 1)
  one_more = omega (arith, z)

  pub row_first : Holds c b p
  row_first = (more_holds c (n - 1) b p (subst (λ (k : ℕ). Holds (row c k) b p) one_more H)).first

  pub row_rest : (q : ℕ) → q ≡ end c b p → Holds (row c (n - 1)) b q
  row_rest q e = moved (row c (n - 1)) b _ _ (sym e) (more_holds c (n - 1) b p (subst (λ (k : ℕ). Holds (row c k) b p) one_more H)).rest

module _ (s b : Bytes) (ent : List ℕ) (t d n p : ℕ) (g : Registry) (st : RenderContext) where
  pub all_none : n ≡ 0 → ExpandsAll s b ent t n (rules.expand_all g st (params_at d n (bits b) p)) (record { first = Missing; second = Missing; bad = None })
  all_none e =
      subst (λ (k : ℕ). ExpandsAll s b ent t k (rules.expand_all g st (params_at d k (bits b) p)) (record { first = Missing; second = Missing; bad = None })) (sym e)
      (subst (λ (l : template.Params). ExpandsAll s b ent t 0 (rules.expand_all g st l) (record { first = Missing; second = Missing; bad = None })) (sym (no_params d (bits b) p)) (no_params_given s b ent t))

  pub all_more : (n ≡ 0 → ⊥) → Holds (row (param d) n) (bits b) p → (r : Result Value Reason) → Expands s b ent t (rules.expand g st (param_at d (bits b) p)) r → (q : ℕ) → q ≡ end (param d) (bits b) p → (l : Params)
      → ExpandsAll s b ent t (n - 1) (rules.expand_all g st (params_at d (n - 1) (bits b) q)) l → (y : Params) → y ≡ joined r l
      → ExpandsAll s b ent t n (rules.expand_all g st (params_at d n (bits b) p)) y
  all_more z H r h q e l k y f =
      let m : n ≡ suc (n - 1) = omega (arith, z) in
      let H' = subst (λ (k : ℕ). Holds (row (param d) k) (bits b) p) m H in
      let k' = subst (λ (x : ℕ). ExpandsAll s b ent t (n - 1) (rules.expand_all g st (params_at d (n - 1) (bits b) x)) l) e k in
      subst (ExpandsAll s b ent t n _) (sym f)
      (subst (λ (k : ℕ). ExpandsAll s b ent t k (rules.expand_all g st (params_at d k (bits b) p)) (joined r l)) (sym m)
      (subst (λ (x : template.Params). ExpandsAll s b ent t (suc (n - 1)) (rules.expand_all g st x) (joined r l)) (sym (params_more d (n - 1) (bits b) p H')) (joined_given s b ent t _ _ r l (n - 1) h k')))

  pub hash_none : n ≡ 0 → ExpandsHash (rules.expand_hash g st (hash_at d n (bits b) p)) (record { zero = false; bad = None })
  hash_none e =
      subst (λ (k : ℕ). ExpandsHash (rules.expand_hash g st (hash_at d k (bits b) p)) (record { zero = false; bad = None })) (sym e)
      (subst (λ (l : template.Hash). ExpandsHash (rules.expand_hash g st l) (record { zero = false; bad = None })) (sym (no_hash d (bits b) p)) (no_hash_given s b ent t))

  pub hash_one_more : (n ≡ 0 → ⊥) → Holds (row (string then param d) n) (bits b) p → (q : ℕ) → q ≡ end string (bits b) p → (r : Result Value Reason) → Expands s b ent t (rules.expand g st (param_at d (bits b) q)) r
      → (u : ℕ) → u ≡ end (string then param d) (bits b) p → (l : Hash) → ExpandsHash (rules.expand_hash g st (hash_at d (n - 1) (bits b) u)) l → (y : Hash) → Paired s b p r l y
      → ExpandsHash (rules.expand_hash g st (hash_at d n (bits b) p)) y
  hash_one_more z H q eq r h u eu l k y f =
      let m : n ≡ suc (n - 1) = omega (arith, z) in
      let H' = subst (λ (k : ℕ). Holds (row (string then param d) k) (bits b) p) m H in
      let h' = subst (λ (x : ℕ). Expands s b ent t (rules.expand g st (param_at d (bits b) x)) r) eq h in
      let k' = subst (λ (x : ℕ). ExpandsHash (rules.expand_hash g st (hash_at d (n - 1) (bits b) x)) l) eu k in
      subst (λ (k : ℕ). ExpandsHash (rules.expand_hash g st (hash_at d k (bits b) p)) y) (sym m)
      (subst (λ (x : template.Hash). ExpandsHash (rules.expand_hash g st x) y) (sym (hash_more d (n - 1) (bits b) p H')) (paired_given s b ent t p _ _ r l y h' k' f))

-- behind the only one there are none
module _ (s b : Bytes) (ent : List ℕ) (t d n p : ℕ) (g : Registry) (st : RenderContext) (e : n ≡ 1) where
  pub all_one : Holds (row (param d) n) (bits b) p → (r : Result Value Reason) → Expands s b ent t (rules.expand g st (param_at d (bits b) p)) r → (y : Params) → y ≡ joined r (record { first = Missing; second = Missing; bad = None })
      → ExpandsAll s b ent t n (rules.expand_all g st (params_at d n (bits b) p)) y
  all_one H r h y f = all_more s b ent t d n p g st (λ z. omega arith) H r h _ refl _ (all_none s b ent t d (n - 1) (end (param d) (bits b) p) g st (omega arith)) y f

  pub hash_one : Holds (row (string then param d) n) (bits b) p → (q : ℕ) → q ≡ end string (bits b) p → (r : Result Value Reason) → Expands s b ent t (rules.expand g st (param_at d (bits b) q)) r → (y : Hash)
      → Paired s b p r (record { zero = false; bad = None }) y → ExpandsHash (rules.expand_hash g st (hash_at d n (bits b) p)) y
  hash_one H q eq r h y f = hash_one_more s b ent t d n p g st (λ z. omega arith) H q eq r h _ refl _ (hash_none s b ent t d (n - 1) (end (string then param d) (bits b) p) g st (omega arith)) y f

-- The counts of a call have four bits

pub few_params : (d : ℕ) (b : Bits) (p : ℕ) (v : Call) → Binary b → v ≡ call_view d b p → v.params < 16
few_params d b p v bin e = let f : v.params ≡ field b 4 (name_end d b p) = ap (λ (x : Call). x.params) e in omega (arith, f, field_lt b bin 4 (name_end d b p))

pub few_pairs : (d : ℕ) (b : Bits) (p : ℕ) (v : Call) → Binary b → v ≡ call_view d b p → v.pairs < 16
few_pairs d b p v bin e = let f : v.pairs ≡ field b 4 (params_end d b p) = ap (λ (x : Call). x.pairs) e in omega (arith, f, field_lt b bin 4 (params_end d b p))

-- A call without its hash, whose parts v says

pub gathered_zero : (r : Result Value Reason) (n : ℕ) (ps : Params) → (gathered r n ps (record { zero = false; bad = None })).zero ≡ false
gathered_zero (Ok v) n ps = refl
gathered_zero (Err x) n ps = refl

pub one_zero : (q : ℕ) (r : Result Value Reason) → (with_one q r).zero ≡ false
one_zero q (Ok v) = refl
one_zero q (Err x) = refl

module _ (s b : Bytes) (ent : List ℕ) (t d p : ℕ) (H : Holds (call_of (param d)) (bits b) p) (v : Call) (view : v ≡ call_view d (bits b) p) (g : Registry) (st : RenderContext) where
  pub head_given : (r : Result Value Reason) (ps : Params) → Names s b ent t (rules.expand_as_name g st (param_at d (bits b) p)) r → ExpandsAll s b ent t v.params (rules.expand_all g st (params_at d v.params (bits b) v.param)) ps
      → IsTemplate s b ent t (rules.try_from_template g st (without_hash (call_at d (bits b) p))) (gathered r v.params ps (record { zero = false; bad = None }))
  head_given r ps h k =
      subst (λ (c : template.Call). IsTemplate s b ent t (rules.try_from_template g st (without_hash c)) (gathered r v.params ps (record { zero = false; bad = None }))) (sym (call_read d (bits b) p H v view).is)
      (gathered_given s b ent t _ _ _ r v.params ps _ h k (no_hash_given s b ent t))

  -- its name is the string at q, and it has no parameters
  pub head_bare : (q : ℕ) → Holds string (bits b) q → param_at d (bits b) p ≡ template.name (text_at (bits b) q) → v.params ≡ 0
      → IsTemplate s b ent t (rules.try_from_template g st (without_hash (call_at d (bits b) p))) (bare q)
  head_bare q Q e z =
      subst (λ (n : ℕ). IsTemplate s b ent t (rules.try_from_template g st (without_hash (call_at d (bits b) p))) (gathered (Ok (Text q)) n (record { first = Missing; second = Missing; bad = None }) (record { zero = false; bad = None }))) z
      (head_given (Ok (Text q)) (record { first = Missing; second = Missing; bad = None }) (string_given s b ent t q Q g st _ e) (all_none s b ent t d v.params v.param g st z))
