use mathlib.Core.Bool.{Bool, true, ◌&&◌}
use mathlib.Core.Option.{none}
use mathlib.Core.Path.{◌≡◌, refl, sym, ap, ap₂, ◌∙◌, subst}
use Rattle.rules.specs.Bits.{bits}
use Rattle.rules.specs.Error.{Got}
use Rattle.rules.specs.Order.{differ}
use Rattle.rules.specs.Value.{ScopedJson}
use Rattle.rules.specs.Path.{merge_json_path}
use Rattle.rules.specs.Context.{is_lone_name, parse_json_visitor, follow, navigate}
use Rattle.parts.specs.Says.{segments_at}
use Rattle.places.specs.Places.{json_at}
use Rattle.value.specs.declared.Value.{Value}
use Rattle.value.specs.Numbers.{decoded, context_number}
use Rattle.value.specs.declared.Value.TheVariants.{Context}
use Rattle.meaning.specs.Meaning.{context_place}
use Rattle.meaning.specs.Standing.{Stands, stands_plain}
use Rattle.scope.specs.Names.{resolved}
use Rattle.scope.specs.Scopes.{blocks_of}
use Rattle.scope.specs.Standing.{ScopesStand}
use Prim.Native.Nat.{ℕ, ◌-◌, ◌/◌}
use native.Mathlib.Omega.{arith}
use Rattle.context.specs.declared.Evaluated.{Evaluated}
use Rattle.context.specs.Evaluated.{Evaluates, Walked, numbered, evaluated_of}
use Rattle.context.specs.Numbers.{pathless_number}
use Rattle.context.proofs.Numbers.{past_one, nothing_told}
use Rattle.context.proofs.Climbing.{navigated}
use Rattle.context.proofs.Starting.{each_true}
use mathlib.Core.List.{List}
use Rattle.scope.specs.declared.Scope.{Scope}
use Rattle.context.specs.Start.{started, Starts}
use Rattle.context.proofs.navigate.Goals.{then-recursive+then-is_lone_name+else-value-eq5, then-recursive+else-is_lone_name, else-recursive}
use Rattle.context.proofs.navigate.Goals as goal

pub alone_number-requires : goal.alone_number-requires
alone_number-requires c = let z = c in
    let a = z.args in
    let K = z.requires.2 in
    let S = K.starts in
    let y = stands_plain a.s.now a.b.now a.ent.now K.near.top (Context (a.value / 16)) refl (subst (Stands a.s.now a.b.now a.ent.now K.near.top) (context_number a.value c.if-value-eq5.true) (S.at a.s.now K.near.top K.near.stand).stands) in
    (z.requires.0, z.requires.1, y.0, y.1, S.holds, S.lone (sym c.is_lone_name.ensures ∙ c.if-is_lone_name.true))

pub returns-then-value-eq5 : goal.returns-then-value-eq5
returns-then-value-eq5 c = let a = c.args in
    let s = a.s.now in
    let b = a.b.now in
    let ent = a.ent.now in
    let segs = segments_at a.n (bits b) a.p in
    let e = ap₂ (λ (x y : Bool). x && y) c.if-recursive.true (sym c.is_lone_name.ensures ∙ c.if-is_lone_name.true) in (
      c.alone_number.ensures.0,
      λ l used t S st.
          subst (λ (y : Got ScopedJson). Evaluates s b ent t y (evaluated_of c.alone_number.result))
          (sym (ap (λ (f : Bool). follow (json_at s 0) f (parse_json_visitor segs (blocks_of s b ent l used))) e
          ∙ (S.at s t st).leads (json_at s 0) true
          ∙ ap (λ (w : Value). follow (json_at s 0) true (resolved s b ent w (merge_json_path (segments_at a.left (bits b) a.place)))) (context_number a.value c.if-value-eq5.true)))
          (c.alone_number.ensures.1 t),
    )

pub quickly-r-requires : goal.quickly-r-requires
quickly-r-requires c = let z = c in
    let a = z.args in
    let K = z.requires.2 in
    (z.requires.0, z.requires.1, record { used = K.near.top; room = K.near.stand.entries; stands = (K.starts.at a.s.now K.near.top K.near.stand).stands }, K.starts.holds)

pub slow_number-requires : goal.slow_number-requires
slow_number-requires c = let z = c in
    let a = z.args in
    let K = z.requires.2 in
    let A = K.starts.at a.s.now K.near.top K.near.stand in
    (z.requires.0, z.requires.1, record { used = K.near.top; room = K.near.stand.entries; stands = A.stands }, K.starts.holds, record { top = K.near.top; near = K.near.near; stands = A.stands; present = A.present })

pub returns-then-r-eq0 : goal.returns-then-r-eq0
returns-then-r-eq0 c =
    let plainly : (y : Evaluated) → Walked c.args.s.now c.args.b.now c.args.ent.now (decoded c.args.value) c.args.place c.args.left y
    → (l : List Scope) (used t : ℕ) → Starts c.args.b.now c.args.ent.now l used c.args.p c.args.n (started c.args.value c.args.place c.args.left) → ScopesStand c.args.s.now c.args.b.now c.args.ent.now l used t
    → Evaluates c.args.s.now c.args.b.now c.args.ent.now t (navigate (json_at c.args.s.now 0) (segments_at c.args.n (bits c.args.b.now) c.args.p) (blocks_of c.args.s.now c.args.b.now c.args.ent.now l used) c.args.recursive) y = λ y W l used t S st. let a = c.args in
    let segs = segments_at a.n (bits a.b.now) a.p in
    let k : (a.recursive && is_lone_name segs) ≡ true → context_place (decoded a.value) ≡ none =
    λ e.
    let each = each_true a.recursive (is_lone_name segs) e in
    elim c.if-recursive.branch [
      | then-recursive+then-is_lone_name+else-value-eq5 w ↦ pathless_number a.value w.if-value-eq5.false
      | then-recursive+else-is_lone_name w ↦ differ (sym each.1 ∙ sym w.is_lone_name.ensures ∙ w.if-is_lone_name.false)
      | else-recursive w ↦ differ (sym each.0 ∙ w.if-recursive.false)
    ] in
    navigated a.s.now a.b.now a.ent.now a.tab.now c.requires.0 l used a.p a.n a.recursive (started a.value a.place a.left) S k y W t st in
    (c.slow_number.ensures.0, plainly (evaluated_of c.slow_number.result) c.slow_number.ensures.1)

pub returns-then-r-eq1 : goal.returns-then-r-eq1
returns-then-r-eq1 c =
    let plainly : (y : Evaluated) → Walked c.args.s.now c.args.b.now c.args.ent.now (decoded c.args.value) c.args.place c.args.left y
    → (l : List Scope) (used t : ℕ) → Starts c.args.b.now c.args.ent.now l used c.args.p c.args.n (started c.args.value c.args.place c.args.left) → ScopesStand c.args.s.now c.args.b.now c.args.ent.now l used t
    → Evaluates c.args.s.now c.args.b.now c.args.ent.now t (navigate (json_at c.args.s.now 0) (segments_at c.args.n (bits c.args.b.now) c.args.p) (blocks_of c.args.s.now c.args.b.now c.args.ent.now l used) c.args.recursive) y = λ y W l used t S st. let a = c.args in
    let segs = segments_at a.n (bits a.b.now) a.p in
    let k : (a.recursive && is_lone_name segs) ≡ true → context_place (decoded a.value) ≡ none =
    λ e.
    let each = each_true a.recursive (is_lone_name segs) e in
    elim c.if-recursive.branch [
      | then-recursive+then-is_lone_name+else-value-eq5 w ↦ pathless_number a.value w.if-value-eq5.false
      | then-recursive+else-is_lone_name w ↦ differ (sym each.1 ∙ sym w.is_lone_name.ensures ∙ w.if-is_lone_name.false)
      | else-recursive w ↦ differ (sym each.0 ∙ w.if-recursive.false)
    ] in
    navigated a.s.now a.b.now a.ent.now a.tab.now c.requires.0 l used a.p a.n a.recursive (started a.value a.place a.left) S k y W t st in
    let a = c.args in
    (omega arith, plainly (evaluated_of 1) (subst (Walked a.s.now a.b.now a.ent.now (decoded a.value) a.place a.left) (ap numbered c.if-r-eq1.true ∙ sym nothing_told) (c.quickly-r.ensures.told c.if-r-eq0.false)))

pub overflow_sub-result : goal.overflow_sub-result
overflow_sub-result c = omega (arith, c.if-r-eq0.false)

pub returns : goal.returns
returns c =
    let plainly : (y : Evaluated) → Walked c.args.s.now c.args.b.now c.args.ent.now (decoded c.args.value) c.args.place c.args.left y
    → (l : List Scope) (used t : ℕ) → Starts c.args.b.now c.args.ent.now l used c.args.p c.args.n (started c.args.value c.args.place c.args.left) → ScopesStand c.args.s.now c.args.b.now c.args.ent.now l used t
    → Evaluates c.args.s.now c.args.b.now c.args.ent.now t (navigate (json_at c.args.s.now 0) (segments_at c.args.n (bits c.args.b.now) c.args.p) (blocks_of c.args.s.now c.args.b.now c.args.ent.now l used) c.args.recursive) y = λ y W l used t S st. let a = c.args in
    let segs = segments_at a.n (bits a.b.now) a.p in
    let k : (a.recursive && is_lone_name segs) ≡ true → context_place (decoded a.value) ≡ none =
    λ e.
    let each = each_true a.recursive (is_lone_name segs) e in
    elim c.if-recursive.branch [
      | then-recursive+then-is_lone_name+else-value-eq5 w ↦ pathless_number a.value w.if-value-eq5.false
      | then-recursive+else-is_lone_name w ↦ differ (sym each.1 ∙ sym w.is_lone_name.ensures ∙ w.if-is_lone_name.false)
      | else-recursive w ↦ differ (sym each.0 ∙ w.if-recursive.false)
    ] in
    navigated a.s.now a.b.now a.ent.now a.tab.now c.requires.0 l used a.p a.n a.recursive (started a.value a.place a.left) S k y W t st in
    let a = c.args in
    (omega (arith, c.quickly-r.ensures.small), plainly (evaluated_of (c.quickly-r.result - 1)) (subst (Walked a.s.now a.b.now a.ent.now (decoded a.value) a.place a.left) (past_one c.quickly-r.result c.if-r-eq0.false c.if-r-eq1.false) (c.quickly-r.ensures.told c.if-r-eq0.false)))
