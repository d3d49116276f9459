use mathlib.Core.Path.{subst}
use Rattle.text.specs.Rest.{Stepped, rest}
use Rattle.expand.proofs.Naming.{get_empty, get_each, get_with, get_if, get_unless, get_lookup, get_none}
use borrow.Author.Rules.{rules}
use Rattle.expand.proofs.named_helper.Goals as goal

pub returns-in_default : goal.returns-in_default
returns-in_default c = let a = c.args in
    get_empty (rest a.s.now a.b.now a.t) (subst (Stepped a.s.now a.b.now a.t) c.in_default.is c.next.ensures)

pub returns-then-c-eq101 : goal.returns-then-c-eq101
returns-then-c-eq101 c = let a = c.args in
    let e = subst (Stepped a.s.now a.b.now a.t) c.in-Some.is c.next.ensures in
    get_each (rest a.s.now a.b.now a.t) (rest a.s.now a.b.now c.in-Some.u) c.in-Some.c e.0 c.if_named.result c.if-c-eq101.true c.if_named.ensures

pub returns-then-c-eq119 : goal.returns-then-c-eq119
returns-then-c-eq119 c = let a = c.args in
    let e = subst (Stepped a.s.now a.b.now a.t) c.in-Some.is c.next.ensures in
    get_with (rest a.s.now a.b.now a.t) (rest a.s.now a.b.now c.in-Some.u) c.in-Some.c e.0 c.if_named-then-c-eq119.result c.if-c-eq119.true c.if_named-then-c-eq119.ensures

pub returns-then-c-eq105 : goal.returns-then-c-eq105
returns-then-c-eq105 c = let a = c.args in
    let e = subst (Stepped a.s.now a.b.now a.t) c.in-Some.is c.next.ensures in
    get_if (rest a.s.now a.b.now a.t) (rest a.s.now a.b.now c.in-Some.u) c.in-Some.c e.0 c.if_named-then-c-eq105.result c.if-c-eq105.true c.if_named-then-c-eq105.ensures

pub returns-then-c-eq117 : goal.returns-then-c-eq117
returns-then-c-eq117 c = let a = c.args in
    let e = subst (Stepped a.s.now a.b.now a.t) c.in-Some.is c.next.ensures in
    get_unless (rest a.s.now a.b.now a.t) (rest a.s.now a.b.now c.in-Some.u) c.in-Some.c e.0 c.if_named-then-c-eq117.result c.if-c-eq117.true c.if_named-then-c-eq117.ensures

pub returns-then-c-eq108 : goal.returns-then-c-eq108
returns-then-c-eq108 c = let a = c.args in
    let e = subst (Stepped a.s.now a.b.now a.t) c.in-Some.is c.next.ensures in
    get_lookup (rest a.s.now a.b.now a.t) (rest a.s.now a.b.now c.in-Some.u) c.in-Some.c e.0 c.if_named-then-c-eq108.result c.if-c-eq108.true c.if_named-then-c-eq108.ensures

pub returns : goal.returns
returns c = let a = c.args in
    let e = subst (Stepped a.s.now a.b.now a.t) c.in-Some.is c.next.ensures in
    get_none (rest a.s.now a.b.now a.t) (rest a.s.now a.b.now c.in-Some.u) c.in-Some.c e.0
    c.if-c-eq101.false c.if-c-eq119.false c.if-c-eq105.false c.if-c-eq117.false c.if-c-eq108.false
