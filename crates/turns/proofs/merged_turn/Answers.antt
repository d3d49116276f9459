use Rattle.turns.proofs.Places.{is_merged}
use Rattle.turns.proofs.Stepping.{merged_past, merged_key, merged_is}
use Rattle.turns.specs.Listed.{is_end}
use Rattle.members.specs.Next.{after_name, shown}
use Rattle.meaning.specs.Meaning.{json_of}
use Rattle.merging.specs.Order.{above, first_of}
use Rattle.rules.specs.Context.{base_map}
use mathlib.Core.Path.{ap, sym}
use borrow.Author.Rules.{rules}
use Rattle.turns.proofs.merged_turn.Goals as goal

pub next_member-requires : goal.next_member-requires
next_member-requires c = (c.requires.0, c.requires.1, c.requires.2, c.requires.4)

pub returns-in_default : goal.returns-in_default
returns-in_default c = let a = c.args in
    let p = c.requires in
    let m = is_merged a.v p.3 in
    merged_past a.s.now a.b.now a.ent.now a.tab.now p.0 a.v p.2 m.0 m.1 m.2 a.k (first_of (above (after_name a.s.now a.b.now a.after) (base_map (json_of a.s.now a.b.now a.ent.now a.v)))) p.5 c.next_member.result c.next_member.ensures.0 c.in_default.is

pub next_member-requires-2 : goal.next_member-requires-2
next_member-requires-2 c = let a = c.args in
    let p = c.requires in
    let m = is_merged a.v p.3 in
    (p.0, p.1, p.2, merged_key a.s.now a.b.now a.ent.now a.tab.now p.0 a.v p.2 m.0 m.1 m.2 a.k (first_of (above (after_name a.s.now a.b.now a.after) (base_map (json_of a.s.now a.b.now a.ent.now a.v)))) p.5 c.next_member.result c.next_member.ensures.0 c.next_member.ensures.1 c.in-Some.key c.in-Some.item c.in-Some.is)

pub returns-in-Some-next_member : goal.returns-in-Some-next_member
returns-in-Some-next_member c = let a = c.args in
    let p = c.requires in
    let m = is_merged a.v p.3 in
    merged_is a.s.now a.b.now a.ent.now a.tab.now p.0 a.v p.2 m.0 m.1 m.2 a.k (first_of (above (after_name a.s.now a.b.now a.after) (base_map (json_of a.s.now a.b.now a.ent.now a.v)))) p.5 c.next_member.result c.next_member.ensures.0 c.next_member.ensures.1 c.in-Some.key c.in-Some.item c.in-Some.is c.next_member-2.result c.next_member-2.ensures.0 _ (sym (ap (λ r. is_end (shown a.s.now a.b.now (json_of a.s.now a.b.now a.ent.now) r)) c.in-Some-next_member.is))

pub returns-in-None : goal.returns-in-None
returns-in-None c = let a = c.args in
    let p = c.requires in
    let m = is_merged a.v p.3 in
    merged_is a.s.now a.b.now a.ent.now a.tab.now p.0 a.v p.2 m.0 m.1 m.2 a.k (first_of (above (after_name a.s.now a.b.now a.after) (base_map (json_of a.s.now a.b.now a.ent.now a.v)))) p.5 c.next_member.result c.next_member.ensures.0 c.next_member.ensures.1 c.in-Some.key c.in-Some.item c.in-Some.is c.next_member-2.result c.next_member-2.ensures.0 _ (sym (ap (λ r. is_end (shown a.s.now a.b.now (json_of a.s.now a.b.now a.ent.now) r)) c.in-None.is))
