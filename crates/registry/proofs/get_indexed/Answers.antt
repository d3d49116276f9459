use Rattle.registry.specs.Index.{look_start, look_on, look_here, look_end, indexed_place, indexed_name}
use Rattle.parts.specs.HoldsLaws.{string_in}
use Rattle.parts.specs.Holds.{end}
use Rattle.layout.specs.Text.{text_at}
use Rattle.rules.specs.BundleLaws.{bits_size}
use Rattle.rules.specs.Bundle.{string}
use Rattle.rules.specs.Bytes.{same}
use Rattle.rules.specs.Bits.{bits}
use Prim.Native.Nat.{ℕ}
use mathlib.Core.Path.{ap, ◌∙◌}
use native.Mathlib.Omega.{arith}
use Rattle.registry.proofs.get_indexed.Goals as goal

pub loop-i-init : goal.loop-i-init
loop-i-init c = let z = c in look_start 16 (bits z.args.b.now) (text_at (bits z.args.b.now) z.args.at) z.requires.1 _ c.template_count-n.ensures

pub bounds-places-i : goal.bounds-places-i
bounds-places-i c = let z = c in omega (arith, c.loop-i-test.true, c.template_count-n.ensures, z.requires.2)

pub overflow_cast-p : goal.overflow_cast-p
overflow_cast-p c = let z = c in omega (arith, string_in (bits z.args.b.now) _ (indexed_name 16 (bits z.args.b.now) z.requires.1 _ z.requires.3 _ _ c.template_count-n.ensures c.loop-i-test.true), bits_size z.args.b.now, z.requires.0)

pub is_named-requires : goal.is_named-requires
is_named-requires c = let z = c in (omega (arith, string_in (bits z.args.b.now) _ (indexed_name 16 (bits z.args.b.now) z.requires.1 _ z.requires.3 _ _ c.template_count-n.ensures c.loop-i-test.true), bits_size z.args.b.now, z.requires.0), z.requires.4, c.field-y.ensures)

pub skip_string-requires : goal.skip_string-requires
skip_string-requires c = let z = c in (z.requires.0, indexed_name 16 (bits z.args.b.now) z.requires.1 _ z.requires.3 _ _ c.template_count-n.ensures c.loop-i-test.true)

pub returns-then-is_named : goal.returns-then-is_named
returns-then-is_named c = let z = c in
    let b = bits z.args.b.now in
    let m = text_at b z.args.at in
    let p = indexed_place 16 b z.requires.1 _ z.requires.3 _ _ c.template_count-n.ensures c.loop-i-test.true in
    look_here 16 b m _ _ c.loop-i.invariant c.loop-i-test.true _ (c.is_named.ensures ∙ ap (λ (p : ℕ). same (text_at b p) m) p) c.if-is_named.true _ _ p (c.skip_string.ensures ∙ ap (end string b) p)

pub loop-i-preserved : goal.loop-i-preserved
loop-i-preserved c = let z = c in
    let b = bits z.args.b.now in
    let m = text_at b z.args.at in
    let p = indexed_place 16 b z.requires.1 _ z.requires.3 _ _ c.template_count-n.ensures c.loop-i-test.true in
    look_on 16 b m _ _ c.loop-i.invariant c.loop-i-test.true _ (c.is_named.ensures ∙ ap (λ (p : ℕ). same (text_at b p) m) p) c.if-is_named.false

pub returns : goal.returns
returns c = let z = c in let b = bits z.args.b.now in look_end 16 b (text_at b z.args.at) _ _ c.loop-i.invariant c.loop-i-test.false
