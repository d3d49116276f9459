use Prim.Native.Nat.{◌+◌}
use mathlib.Core.List.{List}
use mathlib.Core.Path.{ap}
use lib.Bits.{bit_or}
use Rattle.scope.specs.declared.Scope.{Scope}
use Rattle.state.specs.Setters as set
use Rattle.state.specs.Context.{whole}
use Rattle.state.specs.Current.{gained_push}
use borrow.Author.Rules.{rules}
use Rattle.state.proofs.deeper.Goals as goal

pub returns : goal.returns
returns c = λ l d e f g.
    let z = c in
    ap (λ (k : List Scope). set.with_names (set.with_scopes (whole z.args.rc l) k (z.args.rc.used + 1) z.args.rc.total) (bit_or z.args.rc.names z.args.names)) (gained_push l z.args.rc.used z.args.rc.count d e z.requires f g)
