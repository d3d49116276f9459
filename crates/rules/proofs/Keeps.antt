-- What every element leaves as it was: the part `kept` of the state, where escaping is as a call begins it. The lemmas follow the rules, one for each.
use Rattle.std.specs.Prelude.{ℕ, zero, suc, Bool, true, false, List, [], ◌∷◌, ◌≡◌, refl}
use Rattle.std.proofs.Math.Option.{Option, none, some}
use Rattle.std.proofs.Common.{sym, ap, ◌∙◌, subst}
use Rattle.rules.specs.Bytes.{Bytes, pick}
use Rattle.rules.specs.Json.{Json, jnull, jbool, jpos, jneg, jstr, jarr, jobj}
use Rattle.rules.specs.Template.{Call, BlockParam, no_names, TemplateMapping, Template, tnil, tcons, Body, no_body, body, TemplateElement, raw_string, html_expression, expression, helper_block, decorator_expression, decorator_block, partial_expression, partial_block, comment}
use Rattle.rules.specs.Error.{RenderError, Got, got, bad}
use Rattle.rules.specs.Value.{ScopedJson, as_json}
use Rattle.rules.specs.Block.{BlockContext, Block}
use Rattle.rules.specs.State.{Out, block_text, Kept, RenderContext, blocks, with_block, with_indent_string, with_escape, with_out, set_block, set_out, set_disable_escape, set_indent_string, set_current_template_name, push_block, pop_block, popped, push_partial_block, Res, ok, err, Draw, choose, either, or_fail, prefixed, ◌then◌, ◌after◌, located}
use Rattle.rules.specs.Registry.{Registry, HelperDef, HelperDef.each, HelperDef.with, HelperDef.if, HelperDef.unless, HelperDef.lookup, get_template}
use Rattle.rules.specs.Output.{write, indent_aware_write}
use Rattle.rules.specs.BlockUtil.{Expanded, Drawable, render_or_nothing, render_inverse, in_block}
use Rattle.rules.specs.HelperEach.{Turn, turns, turn_block, each_turn, each_of, each_helper}
use Rattle.rules.specs.HelperWith.{with_helper}
use Rattle.rules.specs.HelperIf.{if_helper}
use Rattle.rules.specs.Helpers.{lookup_helper, call_helper}
use Rattle.rules.specs.Inline.{set_local_partial, inline}
use Rattle.rules.specs.Partial.{Rendering, get_partial, of_template, of_partial, find_partial, include_block, take_text, block_text_of, render_partial, include, include_found, render_partial_block, expand_partial}
use Rattle.rules.specs.Render.{indent_aware, call_indent_aware, render_helper, render_value, render_name, render_expression, render_html_expression, eval_decorator, render_partial_element, render_elements, render_body, render_element, render_template}
use Rattle.rules.specs.Keeps.{Keeps, Good, escape_of, GoodBody, last_block, GoodRendering, closed, opened}

-- The ways to put answers together

pub fails : {k : Kept} {e : RenderError} → Keeps k (err e)
fails = record { holds = tt }

pub stays : {k : Kept} {s : RenderContext} {w : Bytes} → s.kept ≡ k → Keeps k (ok s w)
stays e = record { holds = e }

pub choose_keeps : {k : Kept} (b : Bool) (x y : Unit {0} → Res) → Keeps k (x tt) → Keeps k (y tt) → Keeps k (choose b x y)
unfolding choose
choose_keeps true x y h i = h
choose_keeps false x y h i = i

pub either_keeps : {k : Kept} {A : Type 0} (o : Option A) (x : Unit {0} → Res) {f : A → Res} → Keeps k (x tt) → ((a : A) → Keeps k (f a)) → Keeps k (either o x f)
unfolding either
either_keeps none x h i = h
either_keeps (some a) x h i = i a

pub or_fail_keeps : {k : Kept} {A : Type 0} (o : Got A) {f : A → Res} → ((a : A) → Keeps k (f a)) → Keeps k (or_fail o f)
unfolding or_fail
or_fail_keeps (got a) i = i a
or_fail_keeps (bad n) i = fails

-- from k to l
pub after_keeps : {k l : Kept} (f : RenderContext → RenderContext) {r : Res} → Keeps k r → ((s : RenderContext) → s.kept ≡ k → (f s).kept ≡ l) → Keeps l (f after r)
unfolding ◌after◌
after_keeps f {r = ok s w} g h = stays (h s g.holds)
after_keeps f {r = err e} g h = fails

pub prefixed_keeps : {k : Kept} (w : Bytes) {r : Res} → Keeps k r → Keeps k (prefixed w r)
unfolding prefixed
prefixed_keeps w {r = ok s v} h = stays h.holds
prefixed_keeps w {r = err e} h = fails

pub then_keeps : {k l : Kept} {r : Res} (f : Draw) → Keeps k r → ((s : RenderContext) → s.kept ≡ k → Keeps l (f s)) → Keeps l (r then f)
unfolding ◌then◌
then_keeps {r = ok s w} f g h = prefixed_keeps w (h s g.holds)
then_keeps {r = err e} f g h = fails

pub located_keeps : {k : Kept} (n : Option Bytes) (p : TemplateMapping) {r : Res} → Keeps k r → Keeps k (located n p r)
unfolding located
located_keeps n p {r = ok s w} h = stays h.holds
located_keeps n p {r = err e} h = fails

-- Writing

pub write_good : {e : Bool} (w : Bytes) → Good e (write w)
unfolding write
write_good w s q = choose_keeps _ _ _ (stays refl) fails

pub indent_aware_write_good : {e : Bool} (v : Bytes) → Good e (indent_aware_write v)
unfolding indent_aware_write
indent_aware_write_good [] s q = stays refl
indent_aware_write_good (c ∷ v) s q = after_keeps _ (write_good _ s q) (λ t i. i)

pub render_or_nothing_good : {e : Bool} (b : Drawable) → GoodBody e b → Good e (render_or_nothing b)
render_or_nothing_good none h s q = stays refl
render_or_nothing_good (some d) h s q = h s q

pub render_inverse_good : {e : Bool} (g : Registry) (i : Drawable) → GoodBody e i → Good e (render_inverse g i)
unfolding render_inverse
render_inverse_good g none h s q = choose_keeps _ _ _ fails (stays refl)
render_inverse_good g (some d) h s q = h s q

-- what the drawing leaves of the pushed scope is dropped
pub in_block_good : {e : Bool} (g : Registry) (b : BlockContext) (d : Draw) (f : BlockContext → BlockContext)
    → ((s : RenderContext) → s.kept.disable_escape ≡ e → Keeps (with_block (f s.kept.block) s.kept) (d s)) → Good e (in_block g b d)
unfolding in_block
in_block_good g b d f h s q = choose_keeps _ _ _ (after_keeps pop_block (h (push_block b s) q) (λ t i. ap popped i)) fails

pub turns_keep : {e : Bool} (f : Turn → BlockContext → BlockContext) {d : Draw} → Good e d → (l : List Turn) (s : RenderContext) → s.kept.disable_escape ≡ e
    → Keeps (with_block (last_block f l s.kept.block) s.kept) (turns f d l s)
unfolding turns
turns_keep f g [] s q = stays refl
turns_keep f {d} g (t ∷ l) s q =
    then_keeps _ (g (set_block (f t s.kept.block) s) q) (λ u i.
    subst (λ (k : Kept). Keeps (with_block (last_block f l k.block) k) (turns f d l u)) i (turns_keep f g l u (escape_of i q)))

pub each_turn_good : {e : Bool} (g : Registry) (v : ScopedJson) (ns : BlockParam) {d : Draw} (i : Drawable) (l : List Turn) → Good e d → GoodBody e i → Good e (each_turn g v ns d i l)
unfolding each_turn
each_turn_good g v ns none [] gd gi s q = in_block_good g _ _ (λ b. b) (λ t r. stays refl) s q
each_turn_good g v ns (some i) [] gd gi s q = gi s q
each_turn_good g v ns i (t ∷ l) gd gi s q = in_block_good g _ _ (last_block (turn_block v ns) (t ∷ l)) (λ u r. turns_keep (turn_block v ns) gd (t ∷ l) u r) s q

pub each_of_good : {e : Bool} (g : Registry) (v : ScopedJson) (ns : BlockParam) {d : Draw} (i : Drawable) (j : Json) → Good e d → GoodBody e i → Good e (each_of g v ns d i j)
unfolding each_of
each_of_good g v ns i jnull gd gi s q = render_inverse_good g i gi s q
each_of_good g v ns i (jbool b) gd gi s q = render_inverse_good g i gi s q
each_of_good g v ns i (jpos n) gd gi s q = render_inverse_good g i gi s q
each_of_good g v ns i (jneg n) gd gi s q = render_inverse_good g i gi s q
each_of_good g v ns i (jstr t) gd gi s q = render_inverse_good g i gi s q
each_of_good g v ns i (jarr l) gd gi s q = each_turn_good g v ns i _ gd gi s q
each_of_good g v ns i (jobj m) gd gi s q = each_turn_good g v ns i _ gd gi s q

pub each_helper_good : {e : Bool} (g : Registry) (l : List ScopedJson) (ns : BlockParam) (t i : Drawable) → GoodBody e t → GoodBody e i → Good e (each_helper g l ns t i)
unfolding each_helper
each_helper_good g [] ns t i gt gi s q = fails
each_helper_good g (v ∷ l) ns none i gt gi s q = stays refl
each_helper_good g (v ∷ l) ns (some d) i gt gi s q = each_of_good g v ns i (as_json v) gt gi s q

pub with_helper_good : {e : Bool} (g : Registry) (l : List ScopedJson) (ns : BlockParam) (t i : Drawable) → GoodBody e t → GoodBody e i → Good e (with_helper g l ns t i)
unfolding with_helper
with_helper_good g [] ns t i gt gi s q = fails
with_helper_good g (v ∷ l) ns t i gt gi s q =
    choose_keeps _ _ _ (in_block_good g _ _ (λ b. b) (λ u r. render_or_nothing_good t gt u r) s q) (render_inverse_good g i gi s q)

pub pick_good : (e b : Bool) (t i : Drawable) → GoodBody e t → GoodBody e i → GoodBody e (pick b t i)
pick_good e true t i gt gi = gt
pick_good e false t i gt gi = gi

pub if_helper_good : {e : Bool} (g : Registry) (b : Bool) (l : List ScopedJson) (h : List (Bytes × ScopedJson)) (t i : Drawable) → GoodBody e t → GoodBody e i → Good e (if_helper g b l h t i)
unfolding if_helper
if_helper_good g b [] h t i gt gi s q = fails
if_helper_good {e} g b (v ∷ l) h t i gt gi s q =
    choose_keeps _ _ _ (render_or_nothing_good (pick b t i) (pick_good e b t i gt gi) s q) (render_or_nothing_good (pick b i t) (pick_good e b i t gi gt) s q)

pub lookup_helper_good : {e : Bool} (g : Registry) (l : List ScopedJson) → Good e (lookup_helper g l)
unfolding lookup_helper
lookup_helper_good g l s q = or_fail_keeps _ (λ v. indent_aware_write_good _ s q)

pub call_helper_good : {e : Bool} (g : Registry) (h : HelperDef) (w : Expanded) (ns : BlockParam) (t i : Drawable) → GoodBody e t → GoodBody e i → Good e (call_helper g h w ns t i)
unfolding call_helper
call_helper_good g each w ns t i gt gi s q = each_helper_good g w.params ns t i gt gi s q
call_helper_good g with w ns t i gt gi s q = with_helper_good g w.params ns t i gt gi s q
call_helper_good g if w ns t i gt gi s q = if_helper_good g true w.params w.hash t i gt gi s q
call_helper_good g unless w ns t i gt gi s q = if_helper_good g false w.params w.hash t i gt gi s q
call_helper_good g lookup w ns t i gt gi s q = lookup_helper_good g w.params s q

pick_kept : (b : Bool) (x y : RenderContext) (k : Kept) → x.kept ≡ k → y.kept ≡ k → (pick b x y).kept ≡ k
pick_kept true x y k h i = h
pick_kept false x y k h i = i

pub indent_aware_good : {e : Bool} (b : Bool) {d : Draw} → Good e d → Good e (indent_aware b d)
unfolding indent_aware
indent_aware_good b g s q = after_keeps _ (g _ q) (λ t i. pick_kept t.seen.marks.content_produced _ _ _ i i)

pub render_helper_good : {e : Bool} (g : Registry) (c : Call) (f : Bool) (ns : BlockParam) (t i : Drawable) → GoodBody e t → GoodBody e i → Good e (render_helper g c f ns t i)
unfolding render_helper call_indent_aware
render_helper_good g c f ns t i gt gi s q = or_fail_keeps _ (λ w. either_keeps _ _ fails (λ h. indent_aware_good _ (call_helper_good g h w ns t i gt gi) s q))

-- Expressions

pub render_expression_good : {e : Bool} (g : Registry) (c : Call) (f : Bool) → Good e (render_expression g c f)
unfolding render_expression render_name render_value
render_expression_good g c f s q =
    either_keeps _ _ (render_helper_good g c f no_names none none tt tt s q) (λ n.
    or_fail_keeps _ (λ name. either_keeps _ _
    (or_fail_keeps _ (λ v. choose_keeps _ _ _ (choose_keeps _ _ _ fails (stays refl)) (indent_aware_write_good _ s q)))
    (λ h. render_helper_good g c f no_names none none tt tt s q)))

-- escaping is cleared whatever it was: so it stays where it was clear
pub render_html_expression_good : (g : Registry) (c : Call) (f : Bool) → Good false (render_html_expression g c f)
unfolding render_html_expression
render_html_expression_good g c f s q =
    after_keeps _ (render_expression_good g c f (set_disable_escape true s) refl) (λ t i. ap (with_escape false) i ∙ ap (λ (b : Bool). with_escape b s.kept) (sym q))

-- Decorators

pub inline_good : {e : Bool} (g : Registry) (l : List ScopedJson) (t : Option Template) → Good e (inline g l t)
unfolding inline set_local_partial
inline_good g [] t s q = fails
inline_good g (v ∷ l) t s q = either_keeps _ _ fails (λ n. either_keeps _ _ fails (λ b. choose_keeps _ _ _ (stays refl) fails))

pub eval_decorator_good : {e : Bool} (g : Registry) (c : Call) (t : Option Template) (i : Option Bytes) → Good e (eval_decorator g c t i)
unfolding eval_decorator
eval_decorator_good g c t i s q = or_fail_keeps _ (λ w. choose_keeps _ _ _ (choose_keeps _ _ _ (inline_good g w.params t s q) fails) fails)

pub find_partial_good : {R : Rendering} → GoodRendering R → (g : Registry) (n : Bytes) (l : List Block) → GoodBody false (find_partial g R n l)
find_partial_good {R} gr g n l = from_scope (get_partial l n) (of_template R n (get_template g.templates n)) (from_bundle (get_template g.templates n))
  where
    from_bundle : (o : Option Template) → GoodBody false (of_template R n o)
    from_bundle none = tt
    from_bundle (some t) = gr (some n) t

    from_scope : (o : Option Template) (d : Drawable) → GoodBody false d → GoodBody false (of_partial R o d)
    from_scope none d h = h
    from_scope (some t) d h = gr none t

pub render_partial_keeps : (name new : Option Bytes) {d : Draw} (b : BlockContext) (s : RenderContext) (x : Option Bytes) (u : RenderContext) → Good false d → s.kept.disable_escape ≡ false
    → u.kept ≡ (push_block b s).kept → Keeps s.kept (render_partial name s.kept.indent_string new d x u)
unfolding render_partial
render_partial_keeps name new b s x u gd q h =
    after_keeps _ (gd (set_indent_string new (push_partial_block x u)) (escape_of h q)) (λ v i. ap (closed s.kept.indent_string) i ∙ ap (λ (k : Kept). closed s.kept.indent_string (opened new x k)) h)

pub take_text_keeps : {k l : Kept} (o : Out) (f : Option Bytes → Draw) {r : Res} → Keeps k r → ((w : Bytes) (s : RenderContext) → s.kept ≡ k → Keeps l (f (some w) (set_out o s))) → Keeps l (take_text o f r)
unfolding take_text
take_text_keeps o f {r = ok s w} g h = h w s g.holds
take_text_keeps o f {r = err e} g h = fails

pub block_text_of_keeps : {l : Kept} (f own : Drawable) (k : Option Bytes → Draw) (s : RenderContext) → GoodBody false own → s.kept.disable_escape ≡ false
    → ((x : Option Bytes) (t : RenderContext) → t.kept ≡ s.kept → Keeps l (k x t)) → Keeps l (block_text_of f own k s)
unfolding block_text_of
block_text_of_keeps none own k s go q h = h none s refl
block_text_of_keeps (some f) none k s go q h = h none s refl
block_text_of_keeps (some f) (some d) k s go q h =
    take_text_keeps _ k (go (set_out block_text s) q) (λ w t i. h (some w) (set_out s.kept.out t) (ap (with_out s.kept.out) i))

pub include_good : (g : Registry) (f own : Drawable) {d : Draw} (h : List (Bytes × Json)) (i : Option Bytes) (j : Json) → GoodBody false own → Good false d → Good false (include g f own d h i j)
unfolding include
include_good g f own h i j go gd s q =
    choose_keeps _ _ _ (choose_keeps _ _ _
    (block_text_of_keeps f own _ _ go q (λ x t r. render_partial_keeps s.seen.current_template i (include_block s h j) s x t gd q r))
    fails) fails

pub include_found_good : (g : Registry) (f own : Drawable) (w : Expanded) (i : Option Bytes) → GoodBody false f → GoodBody false own → Good false (include_found g f own w i)
unfolding include_found
include_found_good g none none w i gf go s q = fails
include_found_good g none (some d) w i gf go s q = or_fail_keeps _ (λ j. include_good g none (some d) _ i _ go go s q)
include_found_good g (some f) own w i gf go s q = or_fail_keeps _ (λ j. include_good g (some f) own _ i _ go gf s q)

pub render_partial_block_good : (o : Option Bytes) (own : Drawable) → GoodBody false own → Good false (render_partial_block o own)
unfolding render_partial_block
render_partial_block_good (some t) own go s q = write_good t s q
render_partial_block_good none none go s q = fails
render_partial_block_good none (some d) go s q = after_keeps _ (go s q) (λ t i. ap (with_indent_string s.kept.indent_string) i)

pub render_partial_element_good : (g : Registry) {R : Rendering} → GoodRendering R → (c : Call) (own : Drawable) (i : Option Bytes) (f : Bool) → GoodBody false own → Good false (render_partial_element g R c own i f)
unfolding render_partial_element expand_partial
render_partial_element_good g gr c own i f go s q =
    or_fail_keeps _ (λ w. choose_keeps _ _ _ (indent_aware_good _ (λ t r.
    choose_keeps _ _ _ fails (choose_keeps _ _ _ (render_partial_block_good _ own go t r) (include_found_good g _ own w _ (find_partial_good gr g w.name (blocks t)) go t r))) s q) fails)

-- Bodies

module _ (g : Registry) (R : Rendering) (gr : GoodRendering R) where
  mutual
    unfolding render_elements

    pub render_elements_good : (t : Template) (n : Option Bytes) → Good false (render_elements g R n t)
    render_elements_good tnil = λ n s q. stays refl
    render_elements_good (tcons p e t) = λ n s q.
        then_keeps _ (located_keeps n p (render_element_good e s q)) (λ u h. subst (λ (k : Kept). Keeps k (render_elements g R n t u)) h (render_elements_good t n u (escape_of h q)))

    pub render_body_good : (b : Body) → GoodBody false (render_body g R b)
    render_body_good no_body = tt
    render_body_good (body t) = λ s q. render_elements_good t none (set_current_template_name none s) q

    pub render_element_good : (e : TemplateElement) → Good false (render_element g R e)
    render_element_good (raw_string v) = λ s q. indent_aware_write_good v s q
    render_element_good (html_expression c f) = λ s q. render_html_expression_good g c f s q
    render_element_good (expression c f) = λ s q. render_expression_good g c f s q
    render_element_good (helper_block c ns t i f) = λ s q. render_helper_good g c f ns (render_body g R t) (render_body g R i) (render_body_good t) (render_body_good i) s q
    render_element_good (decorator_expression c i f) = λ s q. eval_decorator_good g c none i s q
    render_element_good (decorator_block c t i f) = λ s q. eval_decorator_good g c (some t) i s q
    render_element_good (partial_expression c i f) = λ s q. render_partial_element_good g gr c none i f tt s q
    render_element_good (partial_block c t i f) = λ s q. render_partial_element_good g gr c (some (λ u. render_elements g R none t (set_current_template_name none u))) i f (λ u r. render_elements_good t none (set_current_template_name none u) r) s q
    render_element_good (comment v) = λ s q. stays refl

pub render_template_good : (g : Registry) (k : ℕ) → GoodRendering (render_template g k)
unfolding render_template
render_template_good g zero n t s q = fails
render_template_good g (suc k) n t s q = render_elements_good g (render_template g k) (render_template_good g k) t n (set_current_template_name n s) q
