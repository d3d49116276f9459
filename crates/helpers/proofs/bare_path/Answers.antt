use native.Mathlib.Omega.{arith}
use mathlib.Core.Path.{refl, sym, ◌∙◌}
use Rattle.rules.specs.Bits.{bits}
use Rattle.rules.specs.BundleLaws.{bits_size}
use Rattle.layout.specs.Text.{text_at}
use Rattle.parts.specs.Parts.{path_raw}
use Rattle.parts.specs.HoldsLaws.{string_in}
use Rattle.helpers.proofs.Expressing.{known_helper}
use Rattle.helpers.proofs.Pathing.{path_helper, path_value}
use borrow.Author.Rules.{rules}
use Rattle.helpers.proofs.bare_path.Goals as goal

pub helper_at-requires : goal.helper_at-requires
helper_at-requires c = let z = c in
    omega (arith, z.requires.1, string_in (bits z.args.b.now) z.args.q (path_raw (bits z.args.b.now) z.args.q z.requires.5), bits_size z.args.b.now)

pub returns-then-known : goal.returns-then-known
returns-then-known c = let a = c.args in
    let k = sym (known_helper (text_at (bits a.b.now) a.q) c.helper_at.result c.helper_at.ensures) ∙ sym c.known.ensures ∙ c.if-known.true in
    λ g st t d p ibw h H W Z. path_helper a.s.now a.b.now a.ent.now t g st ibw d p a.q H W _ _ refl refl Z k

pub returns : goal.returns
returns c = let a = c.args in
    let k = sym (known_helper (text_at (bits a.b.now) a.q) c.helper_at.result c.helper_at.ensures) ∙ sym c.known.ensures ∙ c.if-known.false in
    λ g st t d p ibw h H W Z.
    path_value a.s.now a.b.now a.ent.now t g st ibw d p a.q H W _ _ refl refl Z a.options.strict h.alike.strict k c.path_value.result (c.path_value.ensures g st t h) c.rendered.result c.rendered.ensures
