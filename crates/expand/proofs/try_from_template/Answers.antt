use Rattle.std.specs.Prelude.{Ok}
use mathlib.Core.Path.{sym, ◌∙◌, subst}
use Rattle.rules.specs.Bits.{bits}
use Rattle.rules.specs.BundleLaws.{bits_binary}
use Rattle.rules.specs.Template as template
use Rattle.rules.specs.Expand as rules
use Rattle.calls.specs.Calls.{call_read}
use Rattle.calls.specs.Shorts.{short_read}
use Rattle.value.specs.declared.Value.TheVariants.{Text}
use Rattle.expand.specs.Answers.{IsTemplate, gathered, bare, with_one}
use Rattle.expand.proofs.Parts.{gathered_given, string_given, bare_given, one_given, few_params, few_pairs}
use borrow.Author.Rules.{rules}
use Rattle.expand.proofs.try_from_template.Goals as goal

pub path_value-requires : goal.path_value-requires
path_value-requires c = let z = c in
    let x = short_read z.args.d (bits z.args.b.now) (bits_binary z.args.b.now) z.args.p z.requires.5 _ (sym c.in-One.is ∙ c.short_at-x.ensures) in
    (z.requires.0, z.requires.1, z.requires.2, z.requires.3, z.requires.4, x.2)

pub expand_all-ps-requires : goal.expand_all-ps-requires
expand_all-ps-requires c = let z = c in
    let y = short_read z.args.d (bits z.args.b.now) (bits_binary z.args.b.now) z.args.p z.requires.5 _ (sym c.in-Named.is ∙ c.short_at-x.ensures) in
    let x = call_read z.args.d (bits z.args.b.now) z.args.p z.requires.5 _ y.0 in
    (z.requires.0, z.requires.1, z.requires.2, z.requires.3, z.requires.4, few_params z.args.d (bits z.args.b.now) z.args.p _ (bits_binary z.args.b.now) y.0, x.params)

pub expand_hash-hs-requires : goal.expand_hash-hs-requires
expand_hash-hs-requires c = let z = c in
    let y = short_read z.args.d (bits z.args.b.now) (bits_binary z.args.b.now) z.args.p z.requires.5 _ (sym c.in-Named.is ∙ c.short_at-x.ensures) in
    let x = call_read z.args.d (bits z.args.b.now) z.args.p z.requires.5 _ y.0 in
    (z.requires.0, z.requires.1, z.requires.2, z.requires.3, z.requires.4, few_pairs z.args.d (bits z.args.b.now) z.args.p _ (bits_binary z.args.b.now) y.0, x.pairs)

pub returns-in-Bare : goal.returns-in-Bare
returns-in-Bare c = let z = c in
    let x = short_read z.args.d (bits z.args.b.now) (bits_binary z.args.b.now) z.args.p z.requires.5 _ (sym c.in-Bare.is ∙ c.short_at-x.ensures) in
    λ g st t h. subst (IsTemplate z.args.s.now z.args.b.now z.args.ent.now t _) (sym c.bare.ensures)
    (subst (λ (y : template.Call). IsTemplate z.args.s.now z.args.b.now z.args.ent.now t (rules.try_from_template g st y) (bare c.in-Bare.q)) (sym x.0) (bare_given z.args.s.now z.args.b.now z.args.ent.now t _ x.1 g st))

pub returns-in-One : goal.returns-in-One
returns-in-One c = let z = c in
    let x = short_read z.args.d (bits z.args.b.now) (bits_binary z.args.b.now) z.args.p z.requires.5 _ (sym c.in-One.is ∙ c.short_at-x.ensures) in
    λ g st t h. subst (IsTemplate z.args.s.now z.args.b.now z.args.ent.now t _) (sym c.with_one.ensures)
    (subst (λ (y : template.Call). IsTemplate z.args.s.now z.args.b.now z.args.ent.now t (rules.try_from_template g st y) (with_one c.in-One.q c.path_value.result)) (sym x.0) (one_given z.args.s.now z.args.b.now z.args.ent.now t _ x.1 g st _ c.path_value.result (c.path_value.ensures g st t h)))

pub returns-in-Named : goal.returns-in-Named
returns-in-Named c = let z = c in
    let y = short_read z.args.d (bits z.args.b.now) (bits_binary z.args.b.now) z.args.p z.requires.5 _ (sym c.in-Named.is ∙ c.short_at-x.ensures) in
    let x = call_read z.args.d (bits z.args.b.now) z.args.p z.requires.5 _ y.0 in
    λ g st t h. subst (IsTemplate z.args.s.now z.args.b.now z.args.ent.now t _) (sym c.gathered.ensures)
    (subst (λ (w : template.Call). IsTemplate z.args.s.now z.args.b.now z.args.ent.now t (rules.try_from_template g st w) (gathered (Ok (Text c.in-Named.q)) c.in-Named.c.params c.expand_all-ps.result c.expand_hash-hs.result)) (sym x.is)
    (gathered_given z.args.s.now z.args.b.now z.args.ent.now t _ _ _ (Ok (Text c.in-Named.q)) c.in-Named.c.params c.expand_all-ps.result c.expand_hash-hs.result (string_given z.args.s.now z.args.b.now z.args.ent.now t _ y.2 g st _ y.1) (c.expand_all-ps.ensures g st t h) (c.expand_hash-hs.ensures g st t h)))
