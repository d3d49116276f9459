use native.Mathlib.Omega.{arith}
use Prim.Native.Nat.{ℕ, ◌+◌, ◌-◌, ◌*◌, ◌<◌}
use mathlib.Core.Path.{refl, sym, ap, ◌∙◌, subst}
use Rattle.rules.specs.Bytes.{Bytes}
use Rattle.rules.specs.Json.{Json}
use Rattle.rules.specs.Bits.{bits}
use Rattle.rules.specs.BundleLaws.{bits_size, bits_binary}
use Rattle.rules.specs.Layout.{◌then◌}
use Rattle.rules.specs.Bundle.{string, param}
use Rattle.rules.specs.Template as template
use Rattle.rules.specs.Error as rule
use Rattle.rules.specs.Error.{got}
use Rattle.rules.specs.Value.{ScopedJson, derived, render}
use Rattle.rules.specs.Expand as rules
use Rattle.parts.specs.Parts.{path_raw}
use Rattle.parts.specs.Says.{path_raw_is}
use Rattle.parts.specs.HoldsLaws.{string_in}
use Rattle.calls.specs.Calls.{call_at, param_fits, ParamStands, param_stands, CallStands, call_stands, pair_stands, pair_content, pair_next}
use Rattle.value.specs.declared.Value.TheVariants.{Literal, Text}
use Rattle.meaning.specs.MeaningLaws.{plain_is}
use Rattle.meaning.specs.Standing.{plain}
use Rattle.expand.specs.Answers.{Expands, Names, IsTemplate, gathered}
use Rattle.expand.proofs.Parts.{some_setting, expanded_held, got_known, named_given, gathered_given, row_first, row_rest, all_none, all_one, all_more, hash_none, hash_one, hash_one_more, few_params, few_pairs}
use borrow.Author.Rules.{rules}
use Rattle.expand.proofs.+expansion.Goals as goal

pub expand-param_at-x-requires : goal.expand-param_at-x-requires
expand-param_at-x-requires t c = let z = c in omega (arith, z.requires.1, param_fits z.args.d (bits z.args.b.now) z.args.p z.requires.5, bits_size z.args.b.now)

pub expand-path_value-requires : goal.expand-path_value-requires
expand-path_value-requires t c = let z = c in let x = subst (ParamStands z.args.d (bits z.args.b.now) z.args.p) (sym c.param_at-x.ensures ∙ c.in-Path.is) (param_stands z.args.d (bits z.args.b.now) z.args.p z.requires.5) in (z.requires.0, z.requires.1, z.requires.2, z.requires.3, z.requires.4, x.parts)

pub expand-overflow_sub-d : goal.expand-overflow_sub-d
expand-overflow_sub-d t c = let z = c in omega (arith, (param_stands z.args.d (bits z.args.b.now) z.args.p z.requires.5).deep)

pub expand-from_template-w-requires : goal.expand-from_template-w-requires
expand-from_template-w-requires t c = let z = c in let x = subst (ParamStands z.args.d (bits z.args.b.now) z.args.p) (sym c.param_at-x.ensures ∙ c.in-Subexpression.is) (param_stands z.args.d (bits z.args.b.now) z.args.p z.requires.5) in (omega (arith, (param_stands z.args.d (bits z.args.b.now) z.args.p z.requires.5).deep), (z.requires.0, z.requires.1, z.requires.2, z.requires.3, z.requires.4, x.parts))

pub expand-finished-requires : goal.expand-finished-requires
expand-finished-requires t c = let z = c in let w = some_setting z.args.s.now z.args.b.now z.args.ent.now z.args.scopes z.args.used z.args.options z.requires.2 z.requires.4 in (z.requires.0, z.requires.1, λ e. expanded_held z.args.s.now z.args.b.now z.args.ent.now w.t z.args.scopes z.args.used _ c.from_template-w.result w.setting.stand (c.from_template-w.ensures w.g w.st w.t w.setting) e)

pub expand-returns-in-Name : goal.expand-returns-in-Name
expand-returns-in-Name t c = let z = c in let x = subst (ParamStands z.args.d (bits z.args.b.now) z.args.p) (sym c.param_at-x.ensures ∙ c.in-Name.is) (param_stands z.args.d (bits z.args.b.now) z.args.p z.requires.5) in λ g st t h. (ap (rules.expand g st) x.is, plain refl tt)

pub expand-returns-in-Path : goal.expand-returns-in-Path
expand-returns-in-Path t c = let z = c in let x = subst (ParamStands z.args.d (bits z.args.b.now) z.args.p) (sym c.param_at-x.ensures ∙ c.in-Path.is) (param_stands z.args.d (bits z.args.b.now) z.args.p z.requires.5) in λ g st t h. subst (λ (y : rule.Got ScopedJson). Expands z.args.s.now z.args.b.now z.args.ent.now t y c.path_value.result) (sym (ap (rules.expand g st) x.is)) (c.path_value.ensures g st t h)

pub expand-returns-in-Literal : goal.expand-returns-in-Literal
expand-returns-in-Literal t c = let z = c in let x = subst (ParamStands z.args.d (bits z.args.b.now) z.args.p) (sym c.param_at-x.ensures ∙ c.in-Literal.is) (param_stands z.args.d (bits z.args.b.now) z.args.p z.requires.5) in λ g st t h. (ap (rules.expand g st) x.is ∙ ap (λ (j : Json). got (derived j)) (sym (plain_is z.args.s.now z.args.b.now z.args.ent.now (Literal c.in-Literal.q) refl)), plain refl x.parts)

pub expand-returns-in-Subexpression : goal.expand-returns-in-Subexpression
expand-returns-in-Subexpression t c = let z = c in let x = subst (ParamStands z.args.d (bits z.args.b.now) z.args.p) (sym c.param_at-x.ensures ∙ c.in-Subexpression.is) (param_stands z.args.d (bits z.args.b.now) z.args.p z.requires.5) in λ g st t h. subst (λ (y : rule.Got ScopedJson). Expands z.args.s.now z.args.b.now z.args.ent.now t y c.finished.result) (sym (ap (rules.expand g st) x.is)) (c.finished.ensures g st t (rules.try_from_template g st (call_at (z.args.d - 1) (bits z.args.b.now) c.in-Subexpression.q)) h.alike (c.from_template-w.ensures g st t h))

pub expand_all-returns-then-n-eq0 : goal.expand_all-returns-then-n-eq0
expand_all-returns-then-n-eq0 t c = let z = c in λ g st t h. all_none z.args.s.now z.args.b.now z.args.ent.now t z.args.d z.args.n z.args.p g st c.if-n-eq0.true

pub expand_all-expand-r-requires : goal.expand_all-expand-r-requires
expand_all-expand-r-requires t c = let z = c in (omega arith, (z.requires.0, z.requires.1, z.requires.2, z.requires.3, z.requires.4, row_first (param z.args.d) z.args.n (bits z.args.b.now) z.args.p c.if-n-eq0.false z.requires.6))

pub expand_all-returns-then-n-eq1 : goal.expand_all-returns-then-n-eq1
expand_all-returns-then-n-eq1 t c = let z = c in λ g st t h. all_one z.args.s.now z.args.b.now z.args.ent.now t z.args.d z.args.n z.args.p g st c.if-n-eq1.true z.requires.6 c.expand-r.result (c.expand-r.ensures g st t h) c.joined.result c.joined.ensures

pub expand_all-skip_param-next-requires : goal.expand_all-skip_param-next-requires
expand_all-skip_param-next-requires t c = let z = c in (z.requires.1, row_first (param z.args.d) z.args.n (bits z.args.b.now) z.args.p c.if-n-eq0.false z.requires.6)

pub expand_all-overflow_sub-n : goal.expand_all-overflow_sub-n
expand_all-overflow_sub-n t c = omega (arith, c.if-n-eq0.false)

pub expand_all-expand_all-rest-requires : goal.expand_all-expand_all-rest-requires
expand_all-expand_all-rest-requires t c = let z = c in (omega (arith, c.if-n-eq0.false), (z.requires.0, z.requires.1, z.requires.2, z.requires.3, z.requires.4, omega (arith, z.requires.5), row_rest (param z.args.d) z.args.n (bits z.args.b.now) z.args.p c.if-n-eq0.false z.requires.6 _ c.skip_param-next.ensures))

pub expand_all-returns : goal.expand_all-returns
expand_all-returns t c = let z = c in λ g st t h. all_more z.args.s.now z.args.b.now z.args.ent.now t z.args.d z.args.n z.args.p g st c.if-n-eq0.false z.requires.6 c.expand-r.result (c.expand-r.ensures g st t h) _ c.skip_param-next.ensures c.expand_all-rest.result (c.expand_all-rest.ensures g st t h) c.joined-2.result c.joined-2.ensures

pub expand_as_name-param_at-x-requires : goal.expand_as_name-param_at-x-requires
expand_as_name-param_at-x-requires t c = let z = c in omega (arith, z.requires.1, param_fits z.args.d (bits z.args.b.now) z.args.p z.requires.5, bits_size z.args.b.now)

pub expand_as_name-overflow_sub-d : goal.expand_as_name-overflow_sub-d
expand_as_name-overflow_sub-d t c = let z = c in omega (arith, (param_stands z.args.d (bits z.args.b.now) z.args.p z.requires.5).deep)

pub expand_as_name-from_template-w-requires : goal.expand_as_name-from_template-w-requires
expand_as_name-from_template-w-requires t c = let z = c in let x = subst (ParamStands z.args.d (bits z.args.b.now) z.args.p) (sym c.param_at-x.ensures ∙ c.in-Subexpression.is) (param_stands z.args.d (bits z.args.b.now) z.args.p z.requires.5) in (omega (arith, (param_stands z.args.d (bits z.args.b.now) z.args.p z.requires.5).deep), (z.requires.0, z.requires.1, z.requires.2, z.requires.3, z.requires.4, x.parts))

pub expand_as_name-finished-requires : goal.expand_as_name-finished-requires
expand_as_name-finished-requires t c = let z = c in let w = some_setting z.args.s.now z.args.b.now z.args.ent.now z.args.scopes z.args.used z.args.options z.requires.2 z.requires.4 in (z.requires.0, z.requires.1, λ e. expanded_held z.args.s.now z.args.b.now z.args.ent.now w.t z.args.scopes z.args.used _ c.from_template-w.result w.setting.stand (c.from_template-w.ensures w.g w.st w.t w.setting) e)

pub expand_as_name-returns-in-Name : goal.expand_as_name-returns-in-Name
expand_as_name-returns-in-Name t c = let z = c in let x = subst (ParamStands z.args.d (bits z.args.b.now) z.args.p) (sym c.param_at-x.ensures ∙ c.in-Name.is) (param_stands z.args.d (bits z.args.b.now) z.args.p z.requires.5) in λ g st t h. (ap (rules.expand_as_name g st) x.is ∙ ap (λ (j : Json). got (render j)) (sym (plain_is z.args.s.now z.args.b.now z.args.ent.now (Text c.in-Name.q) refl)), plain refl x.parts)

pub expand_as_name-returns-in-Path : goal.expand_as_name-returns-in-Path
expand_as_name-returns-in-Path t c = let z = c in let x = subst (ParamStands z.args.d (bits z.args.b.now) z.args.p) (sym c.param_at-x.ensures ∙ c.in-Path.is) (param_stands z.args.d (bits z.args.b.now) z.args.p z.requires.5) in λ g st t h. (ap (rules.expand_as_name g st) x.is ∙ ap got (path_raw_is (bits z.args.b.now) c.in-Path.q x.parts) ∙ ap (λ (j : Json). got (render j)) (sym (plain_is z.args.s.now z.args.b.now z.args.ent.now (Text c.in-Path.q) refl)), plain refl (path_raw (bits z.args.b.now) c.in-Path.q x.parts))

pub expand_as_name-returns-in-Literal : goal.expand_as_name-returns-in-Literal
expand_as_name-returns-in-Literal t c = let z = c in let x = subst (ParamStands z.args.d (bits z.args.b.now) z.args.p) (sym c.param_at-x.ensures ∙ c.in-Literal.is) (param_stands z.args.d (bits z.args.b.now) z.args.p z.requires.5) in λ g st t h. (ap (rules.expand_as_name g st) x.is ∙ ap (λ (j : Json). got (render j)) (sym (plain_is z.args.s.now z.args.b.now z.args.ent.now (Literal c.in-Literal.q) refl)), plain refl x.parts)

pub expand_as_name-returns-in-Subexpression : goal.expand_as_name-returns-in-Subexpression
expand_as_name-returns-in-Subexpression t c = let z = c in let x = subst (ParamStands z.args.d (bits z.args.b.now) z.args.p) (sym c.param_at-x.ensures ∙ c.in-Subexpression.is) (param_stands z.args.d (bits z.args.b.now) z.args.p z.requires.5) in λ g st t h. subst (λ (y : rule.Got Bytes). Names z.args.s.now z.args.b.now z.args.ent.now t y c.finished.result) (sym (ap (rules.expand_as_name g st) x.is)) (named_given z.args.s.now z.args.b.now z.args.ent.now t _ c.finished.result (c.finished.ensures g st t (rules.try_from_template g st (call_at (z.args.d - 1) (bits z.args.b.now) c.in-Subexpression.q)) h.alike (c.from_template-w.ensures g st t h)))

pub expand_hash-returns-then-n-eq0 : goal.expand_hash-returns-then-n-eq0
expand_hash-returns-then-n-eq0 t c = let z = c in λ g st t h. hash_none z.args.s.now z.args.b.now z.args.ent.now t z.args.d z.args.n z.args.p g st c.if-n-eq0.true

pub expand_hash-skip_string-q-requires : goal.expand_hash-skip_string-q-requires
expand_hash-skip_string-q-requires t c = let z = c in (z.requires.1, (pair_stands z.args.d (bits z.args.b.now) z.args.p (row_first (string then param z.args.d) z.args.n (bits z.args.b.now) z.args.p c.if-n-eq0.false z.requires.6)).key)

pub expand_hash-expand-r-requires : goal.expand_hash-expand-r-requires
expand_hash-expand-r-requires t c = let z = c in (omega arith, (z.requires.0, z.requires.1, z.requires.2, z.requires.3, z.requires.4, pair_content z.args.d (bits z.args.b.now) z.args.p (row_first (string then param z.args.d) z.args.n (bits z.args.b.now) z.args.p c.if-n-eq0.false z.requires.6) _ c.skip_string-q.ensures))

pub expand_hash-paired-requires : goal.expand_hash-paired-requires
expand_hash-paired-requires t c = let z = c in let w = some_setting z.args.s.now z.args.b.now z.args.ent.now z.args.scopes z.args.used z.args.options z.requires.2 z.requires.4 in (z.requires.0, z.requires.1, omega (arith, z.requires.1, string_in (bits z.args.b.now) z.args.p (pair_stands z.args.d (bits z.args.b.now) z.args.p (row_first (string then param z.args.d) z.args.n (bits z.args.b.now) z.args.p c.if-n-eq0.false z.requires.6)).key, bits_size z.args.b.now), got_known z.args.s.now z.args.b.now z.args.ent.now w.t _ c.expand-r.result (c.expand-r.ensures w.g w.st w.t w.setting))

pub expand_hash-returns-then-n-eq1 : goal.expand_hash-returns-then-n-eq1
expand_hash-returns-then-n-eq1 t c = let z = c in λ g st t h. hash_one z.args.s.now z.args.b.now z.args.ent.now t z.args.d z.args.n z.args.p g st c.if-n-eq1.true z.requires.6 _ c.skip_string-q.ensures c.expand-r.result (c.expand-r.ensures g st t h) c.paired.result c.paired.ensures

pub expand_hash-skip_param-next-requires : goal.expand_hash-skip_param-next-requires
expand_hash-skip_param-next-requires t c = let z = c in (z.requires.1, pair_content z.args.d (bits z.args.b.now) z.args.p (row_first (string then param z.args.d) z.args.n (bits z.args.b.now) z.args.p c.if-n-eq0.false z.requires.6) _ c.skip_string-q.ensures)

pub expand_hash-overflow_sub-n : goal.expand_hash-overflow_sub-n
expand_hash-overflow_sub-n t c = omega (arith, c.if-n-eq0.false)

pub expand_hash-expand_hash-rest-requires : goal.expand_hash-expand_hash-rest-requires
expand_hash-expand_hash-rest-requires t c = let z = c in (omega (arith, c.if-n-eq0.false), (z.requires.0, z.requires.1, z.requires.2, z.requires.3, z.requires.4, omega (arith, z.requires.5), row_rest (string then param z.args.d) z.args.n (bits z.args.b.now) z.args.p c.if-n-eq0.false z.requires.6 _ (pair_next z.args.d (bits z.args.b.now) z.args.p (row_first (string then param z.args.d) z.args.n (bits z.args.b.now) z.args.p c.if-n-eq0.false z.requires.6) _ c.skip_string-q.ensures _ c.skip_param-next.ensures)))

pub expand_hash-paired-requires-2 : goal.expand_hash-paired-requires-2
expand_hash-paired-requires-2 t c = let z = c in let w = some_setting z.args.s.now z.args.b.now z.args.ent.now z.args.scopes z.args.used z.args.options z.requires.2 z.requires.4 in (z.requires.0, z.requires.1, omega (arith, z.requires.1, string_in (bits z.args.b.now) z.args.p (pair_stands z.args.d (bits z.args.b.now) z.args.p (row_first (string then param z.args.d) z.args.n (bits z.args.b.now) z.args.p c.if-n-eq0.false z.requires.6)).key, bits_size z.args.b.now), got_known z.args.s.now z.args.b.now z.args.ent.now w.t _ c.expand-r.result (c.expand-r.ensures w.g w.st w.t w.setting))

pub expand_hash-returns : goal.expand_hash-returns
expand_hash-returns t c = let z = c in λ g st t h. hash_one_more z.args.s.now z.args.b.now z.args.ent.now t z.args.d z.args.n z.args.p g st c.if-n-eq0.false z.requires.6 _ c.skip_string-q.ensures c.expand-r.result (c.expand-r.ensures g st t h) _ (pair_next z.args.d (bits z.args.b.now) z.args.p (row_first (string then param z.args.d) z.args.n (bits z.args.b.now) z.args.p c.if-n-eq0.false z.requires.6) _ c.skip_string-q.ensures _ c.skip_param-next.ensures) c.expand_hash-rest.result (c.expand_hash-rest.ensures g st t h) c.paired-2.result c.paired-2.ensures

pub from_template-call_at-c-requires : goal.from_template-call_at-c-requires
from_template-call_at-c-requires t c = (c.requires.1, c.requires.5)

pub from_template-expand_as_name-name-requires : goal.from_template-expand_as_name-name-requires
from_template-expand_as_name-name-requires t c = let z = c in let x = subst (CallStands z.args.d (bits z.args.b.now) z.args.p) (sym c.call_at-c.ensures) (call_stands z.args.d (bits z.args.b.now) z.args.p z.requires.5) in (omega arith, (z.requires.0, z.requires.1, z.requires.2, z.requires.3, z.requires.4, x.name))

pub from_template-expand_all-ps-requires : goal.from_template-expand_all-ps-requires
from_template-expand_all-ps-requires t c = let z = c in let x = subst (CallStands z.args.d (bits z.args.b.now) z.args.p) (sym c.call_at-c.ensures) (call_stands z.args.d (bits z.args.b.now) z.args.p z.requires.5) in let y = few_params z.args.d (bits z.args.b.now) z.args.p c.call_at-c.result (bits_binary z.args.b.now) c.call_at-c.ensures in (omega (arith, y), (z.requires.0, z.requires.1, z.requires.2, z.requires.3, z.requires.4, y, x.params))

pub from_template-expand_hash-hs-requires : goal.from_template-expand_hash-hs-requires
from_template-expand_hash-hs-requires t c = let z = c in let x = subst (CallStands z.args.d (bits z.args.b.now) z.args.p) (sym c.call_at-c.ensures) (call_stands z.args.d (bits z.args.b.now) z.args.p z.requires.5) in let y = few_pairs z.args.d (bits z.args.b.now) z.args.p c.call_at-c.result (bits_binary z.args.b.now) c.call_at-c.ensures in (omega (arith, y), (z.requires.0, z.requires.1, z.requires.2, z.requires.3, z.requires.4, y, x.pairs))

pub from_template-returns : goal.from_template-returns
from_template-returns t c = let z = c in let x = subst (CallStands z.args.d (bits z.args.b.now) z.args.p) (sym c.call_at-c.ensures) (call_stands z.args.d (bits z.args.b.now) z.args.p z.requires.5) in λ g st t h. subst (IsTemplate z.args.s.now z.args.b.now z.args.ent.now t _) (sym c.gathered.ensures) (subst (λ (y : template.Call). IsTemplate z.args.s.now z.args.b.now z.args.ent.now t (rules.try_from_template g st y) (gathered c.expand_as_name-name.result c.call_at-c.result.params c.expand_all-ps.result c.expand_hash-hs.result)) (sym x.is) (gathered_given z.args.s.now z.args.b.now z.args.ent.now t _ _ _ c.expand_as_name-name.result c.call_at-c.result.params c.expand_all-ps.result c.expand_hash-hs.result (c.expand_as_name-name.ensures g st t h) (c.expand_all-ps.ensures g st t h) (c.expand_hash-hs.ensures g st t h)))
