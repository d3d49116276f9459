use Prim.Native.Nat.{◌/◌, ◌%◌}
use mathlib.Core.Bool.{Bool, true}
use mathlib.Core.Path.{refl, sym, ap, ◌∙◌}
use native.Mathlib.Omega.{arith}
use lib.ListN.{length}
use Rattle.rules.specs.Bytes.{pick}
use Rattle.output.specs.Writer.{place_of}
use Rattle.output.proofs.Outputs.{on_texts, on_page}
use Rattle.direct.specs.Direct.{behind, set_bytes, written_text, plain_means, none_set, bytes_set}
use borrow.Author.Rules.{rules}
use Rattle.plain.proofs.put_bytes.Goals as goal

pub set_bytes-requires : goal.set_bytes-requires
set_bytes-requires c = c.requires.0

pub returns-then-w : goal.returns-then-w
returns-then-w c = let s = c in
    let a = s.args in
    let o = a.texts.now in
    let v = a.v.now in
    let g = c.set_bytes in
    let d = plain_means a.w.has_indent true v s.requires.1 in
    record {
      put = record {
        none = λ z. (refl, none_set v o g.new.out (place_of a.w) g.result g.ensures.1 z);
        some = λ z. let k = bytes_set v o g.new.out a.w g.result g.ensures.0 g.ensures.1 g.ensures.2 d.0 z in record {
          byte = k.byte;
          fits = omega (arith, k.fits, s.well_formed);
          is = λ i. on_texts (written_text i v) a.w (behind (g.result / 256) (g.result % 256) a.w) a.page.now a.texts.now g.new.out c.if-w.true (k.is i);
        };
      };
      told = g.ensures.0 ∙ ap (λ (y : Bool). set_bytes a.w (pick y (length a.texts.now) (length a.page.now)) v) (sym c.if-w.true);
      same = λ _. d.1;
    }

pub set_bytes-requires-2 : goal.set_bytes-requires-2
set_bytes-requires-2 c = c.requires.0

pub returns : goal.returns
returns c = let s = c in
    let a = s.args in
    let o = a.page.now in
    let v = a.v.now in
    let g = c.set_bytes-2 in
    let d = plain_means a.w.has_indent true v s.requires.1 in
    record {
      put = record {
        none = λ z. (none_set v o g.new.out (place_of a.w) g.result g.ensures.1 z, refl);
        some = λ z. let k = bytes_set v o g.new.out a.w g.result g.ensures.0 g.ensures.1 g.ensures.2 d.0 z in record {
          byte = k.byte;
          fits = omega (arith, k.fits, s.well_formed);
          is = λ i. on_page (written_text i v) a.w (behind (g.result / 256) (g.result % 256) a.w) a.page.now a.texts.now g.new.out c.if-w.false (k.is i);
        };
      };
      told = g.ensures.0 ∙ ap (λ (y : Bool). set_bytes a.w (pick y (length a.texts.now) (length a.page.now)) v) (sym c.if-w.false);
      same = λ _. d.1;
    }
