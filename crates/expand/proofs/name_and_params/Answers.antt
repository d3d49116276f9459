use Rattle.std.specs.Prelude.{Ok}
use mathlib.Core.Path.{sym, ◌∙◌, ap, subst}
use Rattle.rules.specs.Bits.{bits}
use Rattle.rules.specs.BundleLaws.{bits_binary}
use Rattle.rules.specs.Template as template
use Rattle.rules.specs.Expand as rules
use Rattle.calls.specs.Calls.{call_read}
use Rattle.calls.specs.Shorts.{short_read}
use Rattle.value.specs.declared.Value.TheVariants.{Text}
use Rattle.expand.specs.declared.Expanded.{Expanded}
use Rattle.expand.specs.Answers.{IsTemplate, bare, with_one}
use Rattle.expand.specs.WithoutHash.{without_hash}
use Rattle.expand.proofs.Parts.{string_given, bare_given, one_given, few_params, gathered_zero, one_zero, head_given, head_bare}
use borrow.Author.Rules.{rules}
use Rattle.expand.proofs.name_and_params.Goals as goal

pub path_value-requires : goal.path_value-requires
path_value-requires c = let z = c in
    let x = short_read z.args.d (bits z.args.b.now) (bits_binary z.args.b.now) z.args.p z.requires.5 _ (sym c.in-One.is ∙ c.short_at-x.ensures) in
    (z.requires.0, z.requires.1, z.requires.2, z.requires.3, z.requires.4, x.2)

pub returns-then-c-eq0 : goal.returns-then-c-eq0
returns-then-c-eq0 c = let z = c in
    let y = short_read z.args.d (bits z.args.b.now) (bits_binary z.args.b.now) z.args.p z.requires.5 _ (sym c.in-Named.is ∙ c.short_at-x.ensures) in (record {
      template = λ g st t h. subst (IsTemplate z.args.s.now z.args.b.now z.args.ent.now t _) (sym c.bare-then-c-eq0.ensures) (head_bare z.args.s.now z.args.b.now z.args.ent.now t z.args.d z.args.p z.requires.5 _ y.0 g st _ y.2 y.1 c.if-c-eq0.true);
      zero_value = ap (λ (w : Expanded). w.zero) c.bare-then-c-eq0.ensures;
    })

pub expand_all-ps-requires : goal.expand_all-ps-requires
expand_all-ps-requires c = let z = c in
    let y = short_read z.args.d (bits z.args.b.now) (bits_binary z.args.b.now) z.args.p z.requires.5 _ (sym c.in-Named.is ∙ c.short_at-x.ensures) in
    let x = call_read z.args.d (bits z.args.b.now) z.args.p z.requires.5 _ y.0 in
    (z.requires.0, z.requires.1, z.requires.2, z.requires.3, z.requires.4, few_params z.args.d (bits z.args.b.now) z.args.p _ (bits_binary z.args.b.now) y.0, x.params)

pub expand_as_name-name-requires : goal.expand_as_name-name-requires
expand_as_name-name-requires c = let z = c in
    (z.requires.0, z.requires.1, z.requires.2, z.requires.3, z.requires.4, (call_read z.args.d (bits z.args.b.now) z.args.p z.requires.5 _ c.call_at-c.ensures).name)

pub expand_all-ps-requires-in-Other : goal.expand_all-ps-requires-in-Other
expand_all-ps-requires-in-Other c = let z = c in
    let x = call_read z.args.d (bits z.args.b.now) z.args.p z.requires.5 _ c.call_at-c.ensures in
    (z.requires.0, z.requires.1, z.requires.2, z.requires.3, z.requires.4, few_params z.args.d (bits z.args.b.now) z.args.p _ (bits_binary z.args.b.now) c.call_at-c.ensures, x.params)

pub returns-in-Bare : goal.returns-in-Bare
returns-in-Bare c = let z = c in
    let x = short_read z.args.d (bits z.args.b.now) (bits_binary z.args.b.now) z.args.p z.requires.5 _ (sym c.in-Bare.is ∙ c.short_at-x.ensures) in (record {
      template = λ g st t h. subst (IsTemplate z.args.s.now z.args.b.now z.args.ent.now t _) (sym c.bare.ensures)
          (subst (λ (y : template.Call). IsTemplate z.args.s.now z.args.b.now z.args.ent.now t (rules.try_from_template g st (without_hash y)) (bare c.in-Bare.q)) (sym x.0) (bare_given z.args.s.now z.args.b.now z.args.ent.now t _ x.1 g st));
      zero_value = ap (λ (w : Expanded). w.zero) c.bare.ensures;
    })

pub returns-in-One : goal.returns-in-One
returns-in-One c = let z = c in
    let x = short_read z.args.d (bits z.args.b.now) (bits_binary z.args.b.now) z.args.p z.requires.5 _ (sym c.in-One.is ∙ c.short_at-x.ensures) in (record {
      template = λ g st t h. subst (IsTemplate z.args.s.now z.args.b.now z.args.ent.now t _) (sym c.with_one.ensures)
          (subst (λ (y : template.Call). IsTemplate z.args.s.now z.args.b.now z.args.ent.now t (rules.try_from_template g st (without_hash y)) (with_one c.in-One.q c.path_value.result)) (sym x.0) (one_given z.args.s.now z.args.b.now z.args.ent.now t _ x.1 g st _ c.path_value.result (c.path_value.ensures g st t h)));
      zero_value = ap (λ (w : Expanded). w.zero) c.with_one.ensures ∙ one_zero _ c.path_value.result;
    })

pub returns-else-c-eq0 : goal.returns-else-c-eq0
returns-else-c-eq0 c = let z = c in
    let y = short_read z.args.d (bits z.args.b.now) (bits_binary z.args.b.now) z.args.p z.requires.5 _ (sym c.in-Named.is ∙ c.short_at-x.ensures) in
    let n = Ok (Text c.in-Named.q) in (record {
      template = λ g st t h. subst (IsTemplate z.args.s.now z.args.b.now z.args.ent.now t _) (sym c.gathered.ensures)
          (head_given z.args.s.now z.args.b.now z.args.ent.now t z.args.d z.args.p z.requires.5 _ y.0 g st n c.expand_all-ps.result (string_given z.args.s.now z.args.b.now z.args.ent.now t _ y.2 g st _ y.1) (c.expand_all-ps.ensures g st t h));
      zero_value = ap (λ (w : Expanded). w.zero) c.gathered.ensures;
    })

pub returns-in-Other : goal.returns-in-Other
returns-in-Other c = let z = c in
    let v = c.call_at-c.result in
    let n = c.expand_as_name-name.result in (record {
      template = λ g st t h. subst (IsTemplate z.args.s.now z.args.b.now z.args.ent.now t _) (sym c.gathered-in-Other.ensures)
          (head_given z.args.s.now z.args.b.now z.args.ent.now t z.args.d z.args.p z.requires.5 v c.call_at-c.ensures g st n c.expand_all-ps-in-Other.result (c.expand_as_name-name.ensures g st t h) (c.expand_all-ps-in-Other.ensures g st t h));
      zero_value = ap (λ (w : Expanded). w.zero) c.gathered-in-Other.ensures ∙ gathered_zero n v.params c.expand_all-ps-in-Other.result;
    })
