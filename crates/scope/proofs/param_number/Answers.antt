use Prim.Native.Nat.{◌-◌}
use native.Mathlib.Omega.{arith}
use mathlib.Core.Path.{sym, ap, ◌∙◌, subst}
use Rattle.rules.specs.Bits.{bits}
use Rattle.layout.specs.Text.{text_at}
use Rattle.scope.specs.declared.Scope.{Scope}
use Rattle.scope.specs.Names.{Readable}
use Rattle.scope.proofs.NamesLaws.{string_near, in_stack}
use Rattle.scope.proofs.Searching.{search_past, number_found, number_on, number_end}
use Rattle.scope.proofs.param_number.Goals as goal

pub own_number-n-requires : goal.own_number-n-requires
own_number-n-requires c = let z = c in
    let h = c.loop-i in (
      z.requires.0,
      string_near z.args.b.now z.args.p z.requires.0 z.requires.1,
      subst (Readable z.args.b.now z.args.ent.now) (in_stack z.args.scopes (h.i - 1) z.well_formed.1.1.0.1.0.1 (omega (arith, h.invariant.within, z.requires.2))) (z.requires.3 (h.i - 1) (omega (arith, h.invariant.within))),
      c.field-x.ensures,
      rw c.spare-k.ensures,
    )

pub returns-then-n-ne0 : goal.returns-then-n-ne0
returns-then-n-ne0 c = let z = c in
    let h = c.loop-i in
    number_found z.args.b.now z.args.ent.now z.args.scopes (text_at (bits z.args.b.now) z.args.p) z.args.used h.i (omega arith) h.invariant _ (sym (in_stack z.args.scopes (h.i - 1) z.well_formed.1.1.0.1.0.1 (omega (arith, h.invariant.within, z.requires.2)))) c.own_number-n.result c.own_number-n.ensures c.if-n-ne0.true

pub loop-i-preserved-else-n-ne0 : goal.loop-i-preserved-else-n-ne0
loop-i-preserved-else-n-ne0 c = let z = c in
    let h = c.loop-i in
    number_on z.args.b.now z.args.ent.now z.args.scopes (text_at (bits z.args.b.now) z.args.p) z.args.used h.i (omega arith) h.invariant _ (sym (in_stack z.args.scopes (h.i - 1) z.well_formed.1.1.0.1.0.1 (omega (arith, h.invariant.within, z.requires.2)))) c.own_number-n.result c.own_number-n.ensures c.if-n-ne0.false

pub loop-i-preserved : goal.loop-i-preserved
loop-i-preserved c = let z = c in
    let h = c.loop-i in
    search_past z.args.b.now z.args.ent.now z.args.scopes (text_at (bits z.args.b.now) z.args.p) z.args.used h.i (omega arith) h.invariant (ap (λ (d : Scope). d.kind) (in_stack z.args.scopes (h.i - 1) z.well_formed.1.1.0.1.0.1 (omega (arith, h.invariant.within, z.requires.2))) ∙ c.if-c-ne0.false)

pub returns : goal.returns
returns c = let a = c.args in
    number_end a.b.now a.ent.now a.scopes (text_at (bits a.b.now) a.p) a.used c.loop-i.i (omega arith) c.loop-i.invariant
