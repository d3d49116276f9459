use lib.ListN.{replicate}
use Rattle.scope.specs.Scopes.{blank}
use Rattle.rules.specs.Layout.{field}
use mathlib.Core.Path.{refl, sym, subst}
use Prim.Native.Nat.{ℕ, ◌≤◌}
use Rattle.handlebars.specs.Answers.{shown}
use Rattle.handlebars.specs.Begins.{few_templates}
use Rattle.rules.specs.Bits.{bits}
use Rattle.rules.specs.Call.{render_call}
use borrow.Author.Rules.{rules}
use Rattle.handlebars.proofs.draw.draw.Goals as goal

pub render_template-rc-requires : goal.render_template-rc-requires
render_template-rc-requires c = let z = c in
    (record { plan = z.requires.2; small = z.requires.0.small; bundle = z.requires.0.templates; listed = subst (λ (n : ℕ). field (bits z.args.b.now) 8 8 ≤ n) (sym z.requires.1.0) (few_templates (bits z.args.b.now) z.requires.0.templates); indexed = z.requires.1.1 }, z.requires.3, z.requires.4, z.requires.5, z.requires.6, z.requires.7)

pub returns : goal.returns
unfolding render_call
returns c = shown _ _ _ _ _ _ _ _ _ _ _ _ c.render_template-rc.ensures _ (c.answered.ensures (replicate 32 blank))
