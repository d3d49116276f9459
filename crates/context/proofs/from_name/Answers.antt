use Rattle.std.specs.Prelude.{Option as RustOption}
use mathlib.Core.Path.{sym, ap, subst}
use Rattle.rules.specs.Bits.{bits}
use Rattle.layout.specs.Text.{text_at}
use Rattle.scope.specs.Scopes.{blocks_of}
use Rattle.rules.specs.Context.{get_in_block_params}
use Rattle.scope.specs.Names.{ParamIs, numbered}
use Rattle.context.specs.Start.{NameStarts}
use Rattle.context.proofs.Starting.{name_based, name_found, some_number}
use Rattle.context.proofs.Nearing.{lacks_here, none_is}
use Rattle.context.proofs.from_name.Goals as goal
use Rattle.value.specs.declared.Value.{Value}

pub returns-then-names-name_bit-eq0 : goal.returns-then-names-name_bit-eq0
returns-then-names-name_bit-eq0 c = let z = c in
    let b = z.args.b.now in
    let ent = z.args.ent.now in
    let l = z.args.scopes in
    let u = z.args.used in
    subst (NameStarts b ent l u z.args.p z.args.n z.args.ups) (sym c.start_at.ensures)
    (name_based b ent l u z.args.p z.args.n z.args.ups z.args.q z.args.next z.requires.4 c.without_block_param.result c.without_block_param.ensures
    (λ s t st. none_is s b ent l u t z.args.names (text_at (bits b) z.args.q) (lacks_here z.args.names c.name_bit.result (text_at (bits b) z.args.q) c.name_bit.ensures c.if-names-name_bit-eq0.true) st z.requires.5))

pub returns-then-found-eq0 : goal.returns-then-found-eq0
returns-then-found-eq0 c = let z = c in
    let b = z.args.b.now in
    let ent = z.args.ent.now in
    let l = z.args.scopes in
    let u = z.args.used in
    subst (NameStarts b ent l u z.args.p z.args.n z.args.ups) (sym c.start_at-then-found-eq0.ensures)
    (name_based b ent l u z.args.p z.args.n z.args.ups z.args.q z.args.next z.requires.4 c.without_block_param-then-found-eq0.result c.without_block_param-then-found-eq0.ensures
    (λ s t st. subst (λ (r : RustOption Value). ParamIs s b ent t (get_in_block_params (blocks_of s b ent l u) (text_at (bits b) z.args.q)) r) (ap numbered c.if-found-eq0.true) (c.param_number-found.ensures.means s t st)))

pub returns : goal.returns
returns c = let z = c in
    let b = z.args.b.now in
    let ent = z.args.ent.now in
    let l = z.args.scopes in
    let u = z.args.used in
    subst (NameStarts b ent l u z.args.p z.args.n z.args.ups) (sym c.start_at-2.ensures)
    (name_found b ent l u z.args.p z.args.n z.args.ups z.args.q z.args.next z.requires.4 _
    (λ s t st. subst (λ (r : RustOption Value). ParamIs s b ent t (get_in_block_params (blocks_of s b ent l u) (text_at (bits b) z.args.q)) r) (some_number c.param_number-found.result c.if-found-eq0.false) (c.param_number-found.ensures.means s t st)))
