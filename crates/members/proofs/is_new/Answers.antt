use Rattle.members.proofs.Counting.{old_one, new_one}
use Rattle.meaning.specs.Entries.{place}
use Rattle.meaning.specs.Meaning.{json_of}
use Rattle.layout.specs.Text.{text_at}
use Rattle.rules.specs.Context.{base_map}
use Rattle.rules.specs.Json.{get_member}
use Rattle.rules.specs.Bits.{bits}
use mathlib.Core.Path.{◌∙◌, ap}
use borrow.Author.Rules.{rules}
use Rattle.members.proofs.is_new.Goals as goal

pub text_of-key-requires : goal.text_of-key-requires
text_of-key-requires c = (c.requires.1, rw c.place.ensures c.requires.4)

pub get_member-requires : goal.get_member-requires
get_member-requires c = (c.requires.0, c.requires.1, c.requires.2, c.text_of-key.ensures.1)

pub returns-in-Some : goal.returns-in-Some
returns-in-Some c = old_one c.args.s.now c.args.b.now c.args.ent.now c.args.base _ (get_member (base_map (json_of c.args.s.now c.args.b.now c.args.ent.now c.args.base)) (text_at (bits c.args.b.now) (place c.args.ent.now c.args.e))) c.get_member.result c.get_member.ensures (ap (get_member (base_map (json_of c.args.s.now c.args.b.now c.args.ent.now c.args.base))) (c.text_of-key.ensures.0 ∙ ap (text_at (bits c.args.b.now)) c.place.ensures)) c.in-Some.field-0 c.in-Some.is

pub returns-in-None : goal.returns-in-None
returns-in-None c = new_one c.args.s.now c.args.b.now c.args.ent.now c.args.base _ (get_member (base_map (json_of c.args.s.now c.args.b.now c.args.ent.now c.args.base)) (text_at (bits c.args.b.now) (place c.args.ent.now c.args.e))) c.get_member.result c.get_member.ensures (ap (get_member (base_map (json_of c.args.s.now c.args.b.now c.args.ent.now c.args.base))) (c.text_of-key.ensures.0 ∙ ap (text_at (bits c.args.b.now)) c.place.ensures)) c.in-None.is
