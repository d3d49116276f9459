use native.Mathlib.Omega.{arith}
use Rattle.census.proofs.Steps.{count_start, template_here, body_here, template_on, all_counted}
use Rattle.registry.specs.Templates.{accepted_holds}
use Rattle.rules.specs.Bundle.{body}
use Rattle.rules.specs.Bits.{bits}
use Rattle.census.proofs.count.Goals as goal

pub loop-init : goal.loop-init
loop-init c = let s = c in count_start s.args.b.now s.args.kind (accepted_holds s.args.b.now s.requires) _ c.template_count-n.ensures

pub skip_string-p-requires : goal.skip_string-p-requires
skip_string-p-requires c = let s = c in ((accepted_holds s.args.b.now s.requires).small, (template_here (body 16 16) (bits s.args.b.now) s.args.kind _ _ _ _ _ _ c.loop.invariant (omega arith)).name)

pub count_body-sum-requires : goal.count_body-sum-requires
count_body-sum-requires c = let s = c in ((accepted_holds s.args.b.now s.requires).small, omega arith, body_here (body 16 16) (bits s.args.b.now) s.args.kind _ _ _ _ _ _ c.loop.invariant (omega arith) _ c.skip_string-p.ensures)

pub skip_body-cur-requires : goal.skip_body-cur-requires
skip_body-cur-requires c = let s = c in ((accepted_holds s.args.b.now s.requires).small, body_here (body 16 16) (bits s.args.b.now) s.args.kind _ _ _ _ _ _ c.loop.invariant (omega arith) _ c.skip_string-p.ensures)

pub loop-preserved : goal.loop-preserved
loop-preserved c = let s = c in template_on (body 16 16) (bits s.args.b.now) s.args.kind _ _ _ _ _ _ c.loop.invariant (omega arith) _ c.skip_string-p.ensures _ _ c.skip_body-cur.ensures c.count_body-sum.ensures

pub returns : goal.returns
returns c = let s = c in all_counted (body 16 16) (bits s.args.b.now) s.args.kind _ _ _ _ _ _ c.loop.invariant (omega arith)
