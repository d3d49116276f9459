-- The answer that a drawing leaves.
use Rattle.std.specs.Prelude.{ℕ, zero, suc, ◌<◌, Bool, ◌&&◌, List, ◌≡◌, ltb, take, Option as RustOption, Some, None}
use Rattle.error.specs.Reasons.{number_of, number_is, not_none}
use Rattle.std.specs.Option.{is_some}
use Rattle.std.proofs.Math.Bool.{true, false}
use Rattle.std.proofs.Common.{⊎_elim, sym, ap, ap₂, ◌∙◌, eq-or-lt_of_le, le_of_suc-le-suc, arith, length-take-le, eqb-true}
use Rattle.std.proofs.Math.Option.{none, some}
use Rattle.std.proofs.Math.Path.{refl, subst}
use Rattle.std.proofs.Math.Dec.{eqb}
use Rattle.std.proofs.Math.ListN.{length}
use Rattle.std.proofs.Math.Seq.{slice}
use Rattle.std.proofs.lemmas.Bool.{eqb-false}
use Rattle.rules.specs.Bytes.{Bytes, pick}
use Rattle.rules.specs.Error.{number}
use Rattle.rules.specs.State.{Res}
use Rattle.rules.specs.Call.{answer, line_of, column_of}
use Rattle.output.specs.Outputs.{so_far}
use Rattle.state.specs.Context.{RenderContext}
use Rattle.state.specs.Setters.{fresh}
use Rattle.state.specs.World.{world, outputs_of, name_at, reason_of, position_of, error_of, Drawn, Draws}
use Rattle.handlebars.specs.declared.Answer.{Answer}
use Rattle.rules.specs.Call as rules
use Rattle.error.specs.declared.RenderErrorReason.{RenderErrorReason as Reason}

-- a refusal by one of the first ten checks
abbrev pub refusal : ℕ → Answer
refusal n = record { number = n; template = 0; line = 0; column = 0; length = 0 }

-- the text is n bytes long
abbrev pub success : ℕ → Answer
success n = record { number = 0; template = 0; line = 0; column = 0; length = n }

abbrev pub failure : RenderContext → Answer
failure c = record { number = number (reason_of c.bad); template = c.named; line = line_of (position_of c); column = column_of (position_of c); length = 0 }

abbrev pub answer_of : RenderContext → Answer
answer_of c = pick (is_some c.bad) (failure c) (success c.writer.written)

placed : RenderContext → ℕ → Bool → Answer
placed c n p = record { number = n; template = c.named; line = line_of (pick p (some (record { line = c.line; column = c.column })) none); column = column_of (pick p (some (record { line = c.line; column = c.column })) none); length = 0 }

-- with its position, or without one
pub failure_placed : (c : RenderContext) (n : ℕ) → n ≡ number (reason_of c.bad) → c.placed ≡ true → record { number = n; template = c.named; line = c.line; column = c.column; length = 0 } ≡ failure c
unfolding placed
failure_placed c n e h = ap₂ (placed c) e (sym h)

pub failure_nowhere : (c : RenderContext) (n : ℕ) → n ≡ number (reason_of c.bad) → c.placed ≡ false → record { number = n; template = c.named; line = 0; column = 0; length = 0 } ≡ failure c
unfolding placed
failure_nowhere c n e h = ap₂ (placed c) e (sym h)

-- the number of the reason that it holds
pub number_so : {c : RustOption Reason} (e : Reason) {n : ℕ} → c ≡ Some e → n ≡ number_of e → n ≡ number (reason_of c)
number_so e q z = z ∙ sym (number_is e) ∙ ap (λ (o : RustOption Reason). number (reason_of o)) (sym q)

-- r says what the rules' answer a has: b is the bundle, p the page
pub record Shown (b : Bytes) (r : Answer) (p : Bytes) (a : rules.Answer) : Type 0 where
  pub number : r.number ≡ a.number
  pub template : name_at b r.template ≡ a.template_name
  pub line : r.line ≡ a.line
  pub column : r.column ≡ a.column
  pub length : r.length ≡ length a.text
  pub text : take r.length p ≡ a.text

pub both_are : (t u : Bool) → (t && u) ≡ true → (t ≡ true) × (u ≡ true)
both_are true u e = (refl, e)
both_are false u e = let z : ◌≡◌ {A = ℕ} 0 1 = cc in absurd (omega arith)

-- What a drawing from a fresh context leaves

module _ (s b p t i : Bytes) (e : List ℕ) (r : RenderContext) (p' t' i' : Bytes) (e' : List ℕ) (x : Res) (d : Draws s b (world fresh p t i e) (world r p' t' i' e') x) where
  drawn : (g : Drawn s b (world fresh p t i e) (world r p' t' i' e') x) → Shown b (success r.writer.written) p' (answer x)
  drawn g =
      let w = g.goes.grows in
      let o : so_far 0 (outputs_of (world r p' t' i' e')) ≡ take r.writer.written p' = ap (λ (y : Bool). pick y (slice 0 r.writer.low t') (take r.writer.written p')) w.out in
      let z : take r.writer.written p' ≡ g.text = sym o ∙ w.text 0 (omega arith) in
      let n : r.writer.written ≡ length g.text = sym (length-take-le r.writer.written p' w.sound.written_fits) ∙ ap length z in
      subst (λ (y : Res). Shown b (success r.writer.written) p' (answer y)) (sym g.is)
      (record { number = refl; template = refl; line = refl; column = refl; length = n; text = z })

  pub shown : (a : Answer) → a ≡ answer_of r → Shown b a p' (answer x)
  unfolding error_of
  shown a q = subst (λ (a : Answer). Shown b a p' (answer x)) (sym q) (go r.bad refl)
    where
      go : (y : RustOption Reason) → r.bad ≡ y → Shown b (pick (is_some y) (failure r) (success r.writer.written)) p' (answer x)
      go None q = drawn (d.fine q)
      go (Some e) q =
          subst (λ (y : Res). Shown b (failure r) p' (answer y)) (sym (d.refused (not_none e q)))
          (record { number = refl; template = refl; line = refl; column = refl; length = refl; text = refl })
