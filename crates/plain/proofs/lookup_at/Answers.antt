use mathlib.Core.Path.{sym, ap, ◌∙◌}
use native.Mathlib.Omega.{arith}
use Rattle.rules.specs.BundleLaws.{bits_size, bits_binary}
use Rattle.rules.specs.Bits.{bits}
use Rattle.parts.specs.HoldsLaws.{string_in}
use Rattle.calls.specs.Calls.{param_fits, call_name}
use Rattle.plain.specs.Reading.{not_named, not_lookup, not_path, named_so, helper_left, count_left, first_so, called_name, called_fits, called_second}
use Rattle.plain.specs.Looked.{is_lookup, first_by}
use borrow.Author.Rules.{rules}
use borrow.Enum.Refused.{opened}
use Rattle.plain.proofs.lookup_at.Goals as goal

pub param_at-requires : goal.param_at-requires
param_at-requires c = let z = c in
    let b = z.args.b.now in
    omega (arith, z.requires.0, bits_size b, param_fits z.args.d (bits b) z.args.p (call_name z.args.d (bits b) z.args.p z.requires.1))

pub returns-in_default : goal.returns-in_default
returns-in_default c = let z = c in
    let b = z.args.b.now in
    sym (not_named (bits b) c.param_at.result (opened c.in_default.in_default-own.keys2)) ∙ named_so (bits b) z.args.p c.param_at.result c.param_at.ensures

pub helper_at-requires : goal.helper_at-requires
helper_at-requires c = let z = c in
    let b = z.args.b.now in
    omega (arith, z.requires.0, bits_size b, string_in (bits b) c.in-Name.n (called_name z.args.d (bits b) (bits_binary b) z.args.p z.requires.1 c.in-Name.n (sym c.in-Name.is ∙ c.param_at.ensures)))

pub returns-in_default-helper_at : goal.returns-in_default-helper_at
returns-in_default-helper_at c = let z = c in
    let b = z.args.b.now in
    helper_left (bits b) z.args.p c.param_at.result c.param_at.ensures c.in-Name.n c.in-Name.is c.helper_at.result c.helper_at.ensures (not_lookup c.helper_at.result (opened c.in_default-helper_at.in_default-helper_at-own.keys2))

pub skip_string-q-requires : goal.skip_string-q-requires
skip_string-q-requires c = let z = c in
    let b = z.args.b.now in
    (z.requires.0, called_name z.args.d (bits b) (bits_binary b) z.args.p z.requires.1 c.in-Name.n (sym c.in-Name.is ∙ c.param_at.ensures))

pub returns-then-field-ne2 : goal.returns-then-field-ne2
returns-then-field-ne2 c = let z = c in
    let b = z.args.b.now in
    count_left (bits b) z.args.p c.param_at.result c.param_at.ensures c.in-Name.n c.in-Name.is c.helper_at.result c.helper_at.ensures (ap is_lookup c.in-Lookup.is) c.skip_string-q.result c.field.result c.skip_string-q.ensures c.field.ensures c.if-field-ne2.true

pub overflow_add-q : goal.overflow_add-q
overflow_add-q c = let z = c in
    let b = z.args.b.now in
    omega (arith, z.requires.0, bits_size b, called_fits z.args.d (bits b) (bits_binary b) z.args.p z.requires.1 c.in-Name.n (sym c.in-Name.is ∙ c.param_at.ensures) c.skip_string-q.result c.skip_string-q.ensures)

pub param_at-requires-2 : goal.param_at-requires-2
param_at-requires-2 c = let z = c in
    let b = z.args.b.now in
    omega (arith, z.requires.0, bits_size b, called_fits z.args.d (bits b) (bits_binary b) z.args.p z.requires.1 c.in-Name.n (sym c.in-Name.is ∙ c.param_at.ensures) c.skip_string-q.result c.skip_string-q.ensures)

pub returns-in_default-param_at : goal.returns-in_default-param_at
returns-in_default-param_at c = let z = c in
    let b = z.args.b.now in
    sym (not_path (bits b) c.param_at-2.result (opened c.in_default-param_at.in_default-param_at-own.keys2))
    ∙ first_so (bits b) z.args.p c.param_at.result c.param_at.ensures c.in-Name.n c.in-Name.is c.helper_at.result c.helper_at.ensures (ap is_lookup c.in-Lookup.is) c.skip_string-q.result c.field.result c.skip_string-q.ensures c.field.ensures c.if-field-ne2.false c.param_at-2.result c.param_at-2.ensures

pub second_at-requires : goal.second_at-requires
second_at-requires c = let z = c in
    let b = z.args.b.now in
    (z.requires.0, called_second z.args.d (bits b) (bits_binary b) z.args.p z.requires.1 c.in-Name.n (sym c.in-Name.is ∙ c.param_at.ensures) c.skip_string-q.result c.skip_string-q.ensures (sym c.field.ensures ∙ c.if-field-ne2.false) c.in-Path.v (sym c.in-Path.is ∙ c.param_at-2.ensures))

pub returns : goal.returns
returns c = let z = c in
    let b = z.args.b.now in
    c.second_at.ensures ∙ sym (ap (first_by (bits b)) c.in-Path.is)
    ∙ first_so (bits b) z.args.p c.param_at.result c.param_at.ensures c.in-Name.n c.in-Name.is c.helper_at.result c.helper_at.ensures (ap is_lookup c.in-Lookup.is) c.skip_string-q.result c.field.result c.skip_string-q.ensures c.field.ensures c.if-field-ne2.false c.param_at-2.result c.param_at-2.ensures
