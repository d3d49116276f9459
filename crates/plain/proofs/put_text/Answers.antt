use Prim.Native.Nat.{◌-◌}
use mathlib.Core.Bool.{Bool}
use mathlib.Core.Path.{refl, sym, ap, ◌∙◌}
use native.Mathlib.Omega.{arith}
use lib.ListN.{length}
use Rattle.rules.specs.Bytes.{Bytes, pick}
use Rattle.rules.specs.Bits.{bits}
use Rattle.rules.specs.BundleLaws.{bits_binary}
use Rattle.output.specs.Writer.{place_of}
use Rattle.output.specs.Outputs.{outputs}
use Rattle.output.proofs.Outputs.{on_texts, on_page}
use Rattle.support.specs.Feed.{fed}
use Rattle.direct.specs.Direct.{behind, set_short, written_text, short_bytes, short_packed, none_set, short_set}
use borrow.Author.Rules.{rules}
use Rattle.plain.proofs.put_text.Goals as goal

pub returns-then-w : goal.returns-then-w
returns-then-w c = let s = c in
    let a = s.args in
    let o = a.texts.now in
    let g = c.set_short in
    let x = c.field-x.result in
    let v = short_bytes a.n x in (record {
      put = record {
        none = λ z. (refl, none_set v o g.new.out (place_of a.w) g.result g.ensures.1 z);
        some = λ z. let k = short_set a.n x o g.new.out a.w g.result g.ensures.0 g.ensures.1 g.ensures.2 z in record {
          byte = k.1.byte;
          fits = omega (arith, k.1.fits, s.well_formed);
          is = λ i. on_texts (written_text i v) a.w (behind a.n (g.result - 1) a.w) a.page.now a.texts.now g.new.out c.if-w.true (k.1.is i)
              ∙ ap (λ (y : Bytes). fed i y (outputs a.w a.page.now a.texts.now)) (short_packed (bits a.b.now) (bits_binary a.b.now) a.p a.n x k.0 c.field-x.ensures);
        };
      };
      value = g.ensures.0 ∙ ap (λ (y : Bool). set_short a.w (pick y (length a.texts.now) (length a.page.now)) a.n x) (sym c.if-w.true) ∙ ap (set_short a.w (pick a.w.block_text (length a.texts.now) (length a.page.now)) a.n) c.field-x.ensures;
    })

pub returns : goal.returns
returns c = let s = c in
    let a = s.args in
    let o = a.page.now in
    let g = c.set_short-2 in
    let x = c.field-x.result in
    let v = short_bytes a.n x in (record {
      put = record {
        none = λ z. (none_set v o g.new.out (place_of a.w) g.result g.ensures.1 z, refl);
        some = λ z. let k = short_set a.n x o g.new.out a.w g.result g.ensures.0 g.ensures.1 g.ensures.2 z in record {
          byte = k.1.byte;
          fits = omega (arith, k.1.fits, s.well_formed);
          is = λ i. on_page (written_text i v) a.w (behind a.n (g.result - 1) a.w) a.page.now a.texts.now g.new.out c.if-w.false (k.1.is i)
              ∙ ap (λ (y : Bytes). fed i y (outputs a.w a.page.now a.texts.now)) (short_packed (bits a.b.now) (bits_binary a.b.now) a.p a.n x k.0 c.field-x.ensures);
        };
      };
      value = g.ensures.0 ∙ ap (λ (y : Bool). set_short a.w (pick y (length a.texts.now) (length a.page.now)) a.n x) (sym c.if-w.false) ∙ ap (set_short a.w (pick a.w.block_text (length a.texts.now) (length a.page.now)) a.n) c.field-x.ensures;
    })
