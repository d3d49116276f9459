use Rattle.partials.proofs.Searches.{named_so}
use Rattle.registry.specs.Index.{Looking, look_start, look_on, look_here, look_end, indexed_place, indexed_name}
use Rattle.expand.specs.Answers.{name_of}
use Rattle.meaning.specs.Standing.{Stands}
use Rattle.registry.specs.declared.Template.{Template}
use Rattle.parts.specs.HoldsLaws.{moved}
use Rattle.parts.specs.Holds.{end}
use Rattle.layout.specs.Text.{text_at}
use Rattle.rules.specs.Bundle.{string}
use Rattle.rules.specs.Bits.{bits}
use Prim.Native.Nat.{ℕ, ◌-◌}
use mathlib.Core.Path.{sym, ap, ◌∙◌}
use mathlib.Core.List.{List}
use native.Mathlib.Omega.{arith}
use borrow.Author.Rules.{rules}
use Rattle.partials.proofs.get_printed.Goals as goal

pub loop-i-init : goal.loop-i-init
loop-i-init c = let z = c in λ ent t st. look_start 16 (bits z.args.b.now) (name_of z.args.s.now z.args.b.now ent z.args.v) z.requires.2 _ c.template_count-n.ensures

pub indexed_at-t-requires : goal.indexed_at-t-requires
indexed_at-t-requires c = let z = c in (z.requires.1, omega (arith, c.loop-i-test.true, c.template_count-n.ensures, z.requires.3), indexed_name 16 (bits z.args.b.now) z.requires.2 _ z.requires.4 _ _ c.template_count-n.ensures c.loop-i-test.true)

pub text_of-requires : goal.text_of-requires
text_of-requires c = let z = c in (z.requires.1, moved string (bits z.args.b.now) _ _ (sym (ap (λ (t : Template). t.name) c.indexed_at-t.ensures)) (indexed_name 16 (bits z.args.b.now) z.requires.2 _ z.requires.4 _ _ c.template_count-n.ensures c.loop-i-test.true))

pub text_same-requires : goal.text_same-requires
text_same-requires c = let z = c in (z.requires.0, z.requires.1, z.requires.5, c.text_of.ensures.1)

pub returns-then-text_same : goal.returns-then-text_same
returns-then-text_same c = let z = c in
    let b = bits z.args.b.now in
    let at = indexed_place 16 b z.requires.2 _ z.requires.4 _ _ c.template_count-n.ensures c.loop-i-test.true in
    let p = ap (λ (t : Template). t.name) c.indexed_at-t.ensures ∙ at in
    let q = ap (λ (t : Template). t.body) c.indexed_at-t.ensures ∙ ap (end string b) at in
    record { at = λ ent t st. look_here 16 b (name_of z.args.s.now z.args.b.now ent z.args.v) _ c.loop-i.i (c.loop-i.invariant ent t st) c.loop-i-test.true _ (named_so _ _ _ _ (c.text_same.ensures.at ent t st) (c.text_of.ensures.0 ∙ ap (text_at b) p)) c.if-text_same.true _ _ p q }

pub loop-i-preserved : goal.loop-i-preserved
loop-i-preserved c = let z = c in
    let b = bits z.args.b.now in
    let at = indexed_place 16 b z.requires.2 _ z.requires.4 _ _ c.template_count-n.ensures c.loop-i-test.true in
    let p = ap (λ (t : Template). t.name) c.indexed_at-t.ensures ∙ at in
    λ ent t st. look_on 16 b (name_of z.args.s.now z.args.b.now ent z.args.v) _ c.loop-i.i (c.loop-i.invariant ent t st) c.loop-i-test.true _ (named_so _ _ _ _ (c.text_same.ensures.at ent t st) (c.text_of.ensures.0 ∙ ap (text_at b) p)) c.if-text_same.false

pub returns : goal.returns
returns c = let z = c in record { at = λ ent t st. look_end 16 (bits z.args.b.now) (name_of z.args.s.now z.args.b.now ent z.args.v) _ c.loop-i.i (c.loop-i.invariant ent t st) c.loop-i-test.false }
