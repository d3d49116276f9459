-- The name and the parameters of a call, worked out without its hash; and the call, where its hash is worked out on its own.
-- s is the plan, b the bundle, ent the entries of open partials.
use Rattle.std.specs.Prelude.{Option as RustOption, Some, None, ℕ, zero, suc, Bool, false, List, [], ◌≡◌, refl}
use Rattle.std.proofs.lemmas.Option.{none-some}
use Rattle.std.proofs.Common.{sym, ap, ◌∙◌, subst, arith}
use Rattle.rules.specs.Bytes.{Bytes}
use Rattle.rules.specs.Bits.{bits}
use Rattle.rules.specs.Bundle.{param, call_of}
use Rattle.rules.specs.Template as template
use Rattle.rules.specs.Error as rule
use Rattle.rules.specs.Error.{got, bad, wth}
use Rattle.rules.specs.Value.{ScopedJson}
use Rattle.rules.specs.State.{RenderContext}
use Rattle.rules.specs.Registry.{Registry}
use Rattle.rules.specs.BlockUtil as block-util
use Rattle.rules.specs.HelperIf.{include_zero}
use Rattle.rules.specs.Expand as rules
use Rattle.error.specs.declared.RenderErrorReason.{RenderErrorReason as Reason}
use Rattle.parts.specs.Holds.{Holds}
use Rattle.calls.specs.declared.Call.{Call}
use Rattle.calls.specs.Calls.{param_at, params_at, hash_at, call_at, call_says, call_view, call_read}
use Rattle.expand.specs.declared.Expanded.{Expanded}
use Rattle.expand.specs.Answers.{Refuses, Works, IsExpanded, IsTemplate}
use Rattle.error.specs.Reasons.{refusal}

abbrev pub without_hash : template.Call → template.Call
without_hash (template.call n ps hs) = template.call n ps template.hnil

-- with what its hash is worked out to: whether includeZero is true, and the refusal, if there is one
abbrev pub with_hash : Expanded → Bool → RustOption Reason → Expanded
with_hash w z n = record { name = w.name; count = w.count; first = w.first; second = w.second; zero = z; bad = n }

-- Laws

abbrev HashPairs : Type 0
HashPairs = List (Bytes × ScopedJson)

abbrev gathers : rule.Got Bytes → rule.Got (List ScopedJson) → rule.Got HashPairs → rule.Got block-util.Expanded
gathers x y z = wth x (λ n. wth y (λ vs. wth z (λ kvs. got (record { name = n; params = vs; hash = kvs }))))

apart : {A C : Type 0} {a : A} {r : rule.RenderErrorReason} → got a ≡ bad r → C
apart e = let z : ◌≡◌ {A = ℕ} 0 1 = cc in absurd (omega arith)

abbrev or_else : block-util.Expanded → rule.Got block-util.Expanded → block-util.Expanded
or_else d (got a) = a
or_else d (bad r) = d

head_stops : (x : rule.Got Bytes) (y : rule.Got (List ScopedJson)) (z : rule.Got HashPairs) (m : RustOption Reason) → Refuses (gathers x y (got [])) m → Refuses (gathers x y z) m
head_stops (bad r) y z m q = q
head_stops (got a) (bad r) z m q = q
head_stops (got a) (got l) z m q = apart q.is

-- e is what is worked out without the hash
with_pairs : (x : rule.Got Bytes) (y : rule.Got (List ScopedJson)) (z : rule.Got HashPairs) (e : block-util.Expanded) → gathers x y (got []) ≡ got e
    → gathers x y z ≡ wth z (λ kvs. got (record { name = e.name; params = e.params; hash = kvs }))
with_pairs (bad r) y z e q = apart (sym q)
with_pairs (got a) (bad r) z e q = apart (sym q)
with_pairs (got a) (got l) z e q = ap (λ (u : block-util.Expanded). wth z (λ kvs. got (record { name = u.name; params = u.params; hash = kvs }))) (ap (or_else e) q)

-- w is what the call at p is worked out to without its hash, whose pairs v says
module _ (s b : Bytes) (ent : List ℕ) (t d p : ℕ) (H : Holds (call_of (param d)) (bits b) p) (v : Call) (view : v ≡ call_view d (bits b) p) (g : Registry) (st : RenderContext) (w : Expanded)
    (head : IsTemplate s b ent t (rules.try_from_template g st (without_hash (call_at d (bits b) p))) w) where
  abbrev whole : rule.Got block-util.Expanded
  whole = rules.try_from_template g st (call_at d (bits b) p)

  abbrev hash : rule.Got HashPairs
  hash = rules.expand_hash g st (hash_at d v.pairs (bits b) v.pair)

  abbrev name : rule.Got Bytes
  name = rules.expand_as_name g st (param_at d (bits b) p)

  abbrev params : rule.Got (List ScopedJson)
  params = rules.expand_all g st (params_at d v.params (bits b) v.param)

  says : call_at d (bits b) p ≡ call_says d (bits b) p v
  says = (call_read d (bits b) p H v view).is

  head_so : IsTemplate s b ent t (rules.try_from_template g st (without_hash (call_says d (bits b) p v))) w
  head_so = subst (λ (c : template.Call). IsTemplate s b ent t (rules.try_from_template g st (without_hash c)) w) says head

  -- a refusal of the name or of a parameter comes first
  pub head_refused : (w.bad ≡ None → ⊥) → Refuses whole w.bad
  head_refused e = subst (λ (c : template.Call). Refuses (rules.try_from_template g st c) w.bad) (sym says) (head_stops name params hash w.bad (head_so.refused e))

  module _ (fine : w.bad ≡ None) where
    whole_is : whole ≡ wth hash (λ kvs. got (record { name = (head_so.fine fine).0.name; params = (head_so.fine fine).0.params; hash = kvs }))
    whole_is = ap (rules.try_from_template g st) says ∙ with_pairs name params hash (head_so.fine fine).0 (head_so.fine fine).1

    -- then one of the hash
    pub hash_refused : (n : RustOption Reason) → Refuses hash n → Refuses whole n
    hash_refused n r = record { reason = r.reason; is = whole_is ∙ ap (λ z. wth z (λ kvs. got (record { name = (head_so.fine fine).0.name; params = (head_so.fine fine).0.params; hash = kvs }))) r.is; by_reason = r.by_reason }

    -- nothing is refused
    pub hash_worked : (h : HashPairs) → hash ≡ got h → (e : block-util.Expanded) × (whole ≡ got e) × (e.hash ≡ h) × IsExpanded s b ent t (with_hash w (include_zero h) None) e
    hash_worked h q =
        let f = head_so.fine fine in (
          record { name = f.0.name; params = f.0.params; hash = h },
          whole_is ∙ ap (λ z. wth z (λ kvs. got (record { name = f.0.name; params = f.0.params; hash = kvs }))) q,
          refl,
          record { name = f.2.name; name_stands = f.2.name_stands; params = f.2.params; zero = refl },
        )

    -- all of it: n is the hash's refusal, if there is one
    pub joined_template : (z : Bool) (n : RustOption Reason) → Works (λ h. include_zero h ≡ z) hash n → IsTemplate s b ent t whole (with_hash w z n)
    joined_template z n k = record {
      fine = λ e.
          let f = k.fine e in
          let y = hash_worked f.0 f.1 in
          (y.0, y.1, record { name = y.3.name; name_stands = y.3.name_stands; params = y.3.params; zero = y.3.zero ∙ f.2 });
      refused = λ e. hash_refused n (k.refused e);
    }

    -- the same, whatever else is known of the hash: whether includeZero is true goes by it
    pub joined_any : (P : HashPairs → Type 0) (n : RustOption Reason) → Works P hash n → (z : Bool) × IsTemplate s b ent t whole (with_hash w z n)
    joined_any P None k = let f = k.fine refl in (include_zero f.0, joined_template (include_zero f.0) None (record { fine = λ e. (f.0, f.1, refl); refused = λ e. absurd (e refl) }))
    joined_any P (Some m) k = (false, joined_template false (Some m) (record { fine = λ e. absurd (none-some m (sym e)); refused = λ e. k.refused e }))
