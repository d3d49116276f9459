use native.Mathlib.Omega.{arith}
use Rattle.calls.specs.Calls.{call_params_at, call_pairs_at}
use Rattle.calls.specs.Shorts.{short_ends, only_path, only_fits}
use Rattle.rules.specs.BundleLaws.{bits_size, bits_binary}
use Rattle.rules.specs.Bits.{bits}
use Rattle.rules.specs.Picks.{picks}
use Rattle.calls.proofs.short_at.Goals.{then-y-eq5+else-field-eq0, else-y-eq5}
use Rattle.calls.proofs.short_at.Goals as goal

pub returns-then-x-gt65535 : goal.returns-then-x-gt65535
returns-then-x-gt65535 c = simp (← c.field-x.ensures) (search picks depth 9)

pub overflow_add-q : goal.overflow_add-q
overflow_add-q c = let s = c in omega (arith, (short_ends s.args.d (bits s.args.b.now) (bits_binary s.args.b.now) s.args.p s.requires.1 _ c.field-x.ensures c.if-x-gt65535.false).1, bits_size s.args.b.now)

pub overflow_mul-q : goal.overflow_mul-q
overflow_mul-q c = let s = c in omega (arith, (short_ends s.args.d (bits s.args.b.now) (bits_binary s.args.b.now) s.args.p s.requires.1 _ c.field-x.ensures c.if-x-gt65535.false).1, bits_size s.args.b.now)

pub overflow_add-q-2 : goal.overflow_add-q-2
overflow_add-q-2 c = let s = c in omega (arith, (short_ends s.args.d (bits s.args.b.now) (bits_binary s.args.b.now) s.args.p s.requires.1 _ c.field-x.ensures c.if-x-gt65535.false).1, bits_size s.args.b.now)

pub overflow_add-result : goal.overflow_add-result
overflow_add-result c = let s = c in omega (arith, (short_ends s.args.d (bits s.args.b.now) (bits_binary s.args.b.now) s.args.p s.requires.1 _ c.field-x.ensures c.if-x-gt65535.false).1, bits_size s.args.b.now)

pub returns-then-y-eq0 : goal.returns-then-y-eq0
returns-then-y-eq0 c = simp (← c.field-x.ensures, ← c.field-y.ensures) (search picks depth 9)

pub overflow_add-q-then-y-eq5 : goal.overflow_add-q-then-y-eq5
overflow_add-q-then-y-eq5 c = let s = c in omega (arith, only_fits s.args.d (bits s.args.b.now) (bits_binary s.args.b.now) s.args.p s.requires.1 _ c.field-x.ensures c.if-x-gt65535.false _ c.field-y.ensures c.if-y-eq5.true, bits_size s.args.b.now)

pub skip_path-r-requires : goal.skip_path-r-requires
skip_path-r-requires c = let s = c in (s.requires.0, only_path s.args.d (bits s.args.b.now) (bits_binary s.args.b.now) s.args.p s.requires.1 _ c.field-x.ensures c.if-x-gt65535.false _ c.field-y.ensures c.if-y-eq5.true)

pub overflow_add-result-then-field-eq0 : goal.overflow_add-result-then-field-eq0
overflow_add-result-then-field-eq0 c = let s = c in omega (arith, (short_ends s.args.d (bits s.args.b.now) (bits_binary s.args.b.now) s.args.p s.requires.1 _ c.field-x.ensures c.if-x-gt65535.false).1, bits_size s.args.b.now)

pub overflow_add-result-then-field-eq0-2 : goal.overflow_add-result-then-field-eq0-2
overflow_add-result-then-field-eq0-2 c = let s = c in omega (arith, only_fits s.args.d (bits s.args.b.now) (bits_binary s.args.b.now) s.args.p s.requires.1 _ c.field-x.ensures c.if-x-gt65535.false _ c.field-y.ensures c.if-y-eq5.true, bits_size s.args.b.now)

pub returns-then-field-eq0 : goal.returns-then-field-eq0
returns-then-field-eq0 c = simp (← c.field-x.ensures, ← c.field-y.ensures, ← c.skip_path-r.ensures, ← c.field.ensures) (search picks depth 9)

pub overflow_add-result-2 : goal.overflow_add-result-2
overflow_add-result-2 c = let s = c in omega (arith, (short_ends s.args.d (bits s.args.b.now) (bits_binary s.args.b.now) s.args.p s.requires.1 _ c.field-x.ensures c.if-x-gt65535.false).1, bits_size s.args.b.now)

pub call_behind-requires : goal.call_behind-requires
call_behind-requires c = let s = c in let e = (short_ends s.args.d (bits s.args.b.now) (bits_binary s.args.b.now) s.args.p s.requires.1 _ c.field-x.ensures c.if-x-gt65535.false).0 in (s.requires.0, call_params_at s.args.d (bits s.args.b.now) s.args.p s.requires.1 _ e, call_pairs_at s.args.d (bits s.args.b.now) s.args.p s.requires.1 _ e)

pub returns : goal.returns
returns c = elim c.if-y-eq5.branch [
  | then-y-eq5+else-field-eq0 w ↦ simp (← c.field-x.ensures, ← c.field-y.ensures, ← w.skip_path-r.ensures, ← w.field.ensures, ← c.call_behind.ensures) (search (picks, w.if-y-eq5.true, w.if-field-eq0.false) depth 9)
  | else-y-eq5 w ↦ simp (← c.field-x.ensures, ← c.field-y.ensures, ← c.call_behind.ensures) (search (picks, w.if-y-eq5.false) depth 9)
]
