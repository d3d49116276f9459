use Rattle.scope.specs.declared.Scope.{Scope}
use Rattle.state.specs.Context.{whole}
use mathlib.Core.List.{List}
use Prim.Native.Nat.{ℕ, ◌+◌, ◌*◌, ◌≤◌}
use mathlib.Core.Path.{◌≡◌, ap, ◌∙◌}
use native.Mathlib.Omega.{arith}
use lib.ListN.{length}
use Rattle.rules.specs.Bytes.{Bytes}
use Rattle.rules.specs.Bits.{bits}
use Rattle.rules.specs.Layout.{field}
use Rattle.rules.specs.Bundle.{string}
use Rattle.rules.specs.BundleLaws.{bits_size}
use Rattle.bits.specs.Packed.{bytes_at}
use Rattle.output.specs.Outputs.{outputs}
use Rattle.support.specs.Feed.{fed}
use Rattle.layout.specs.Text.{text_at}
use Rattle.parts.specs.declared.Text.{Text}
use Rattle.parts.specs.Holds.{Holds}
use Rattle.parts.specs.HoldsLaws.{string_in}
use Rattle.state.specs.World.{world}
use Rattle.writing.specs.Writes.{Wrote}
use Rattle.writing.specs.Laws.{draws_fed, wrote_by}
use borrow.Author.Rules.{rules}
use Rattle.writing.proofs.raw_string.Goals as goal

near : (b : Bytes) (p : ℕ) → length b ≤ 65536 → Holds string (bits b) p → p + 16 + 8 * field (bits b) 16 p ≤ 524288
near b p le H = omega (arith, le, string_in (bits b) p H, bits_size b)

pub text_at-t-requires : goal.text_at-t-requires
text_at-t-requires c = let s = c in
    let n = near s.args.b.now s.args.p s.requires.0 s.requires.1 in
    omega (arith, n)

pub write_packed-requires : goal.write_packed-requires
write_packed-requires c = let s = c in
    let n = near s.args.b.now s.args.p s.requires.0 s.requires.1 in
    rw c.text_at-t.ensures (omega (arith, n))

pub returns : goal.returns
returns c = let a = c.args in
    let t = c.text_at-t in
    let f = c.write_packed in
    let page = f.new.page in
    let texts = f.new.texts in
    let z = bits a.b.now in
    let e : bytes_at z t.result.first t.result.count ≡ text_at z a.p = ap (λ (x : Text). bytes_at z x.first x.count) t.ensures in
    let w : (l : List Scope) → Wrote (whole a.rc l) (whole c.wrote.result l) page texts (fed a.indent.now (text_at z a.p) (outputs a.rc.writer a.page.now a.texts.now)) =
    λ l. wrote_by (whole a.rc l) (whole c.wrote.result l) f.result page texts (fed a.indent.now (text_at z a.p) (outputs a.rc.writer a.page.now a.texts.now))
    (f.ensures ∙ ap (λ (v : Bytes). fed a.indent.now v (outputs a.rc.writer a.page.now a.texts.now)) e) (c.wrote.ensures l) in
    (record { wrote = w; writes = λ l s ent r. draws_fed s a.b.now (world (whole a.rc l) a.page.now a.texts.now a.indent.now ent) (whole c.wrote.result l) page texts r (text_at z a.p) (w l) })
