use Rattle.registry.specs.Templates.{search_fits}
use Rattle.rules.specs.BundleLaws.{bits_size}
use native.Mathlib.Omega.{arith}
use mathlib.Core.Path.{sym}
use Rattle.registry.specs.Templates.{search_start, search_template, search_here, search_on, search_end}
use Rattle.parts.specs.HoldsLaws.{moved}
use Rattle.rules.specs.Bundle.{body}
use Rattle.rules.specs.Bits.{bits}
use Rattle.registry.proofs.get_template.Goals as goal

pub loop-i-init : goal.loop-i-init
loop-i-init c = let s = c in search_start s.args.w (bits s.args.b.now) s.args.name.now s.requires.1 _ c.template_count-n.ensures

pub skip_string-body-requires : goal.skip_string-body-requires
skip_string-body-requires c = let s = c in (s.requires.0, (search_template (body s.args.w 16) (bits s.args.b.now) s.args.name.now _ _ _ _ _ c.loop-i.invariant (omega arith)).name)

pub text_is-requires : goal.text_is-requires
text_is-requires c = let s = c in omega (arith, search_fits (body s.args.w 16) (bits s.args.b.now) s.args.name.now _ _ _ _ _ c.loop-i.invariant (omega arith), bits_size s.args.b.now)

pub returns-then-text_is : goal.returns-then-text_is
returns-then-text_is c = let s = c in search_here (body s.args.w 16) (bits s.args.b.now) s.args.name.now _ _ _ _ _ c.loop-i.invariant (omega arith) _ _ c.skip_string-body.ensures c.text_is.ensures c.if-text_is.true

pub skip_body-cur-requires : goal.skip_body-cur-requires
skip_body-cur-requires c = let s = c in (s.requires.0, moved (body s.args.w 16) (bits s.args.b.now) _ _ (sym c.skip_string-body.ensures) (search_template (body s.args.w 16) (bits s.args.b.now) s.args.name.now _ _ _ _ _ c.loop-i.invariant (omega arith)).content)

pub loop-i-preserved : goal.loop-i-preserved
loop-i-preserved c = let s = c in search_on (body s.args.w 16) (bits s.args.b.now) s.args.name.now _ _ _ _ _ c.loop-i.invariant (omega arith) _ _ _ c.skip_string-body.ensures c.skip_body-cur.ensures c.text_is.ensures c.if-text_is.false

pub returns : goal.returns
returns c = let s = c in search_end (body s.args.w 16) (bits s.args.b.now) s.args.name.now _ _ _ _ _ c.loop-i.invariant (omega arith)
