-- How many elements of a kind decoded templates have, in all bodies at every depth.
use Rattle.std.specs.Prelude.{ℕ, ◌+◌, List, [], ◌∷◌, eqb, leb}
use Rattle.std.proofs.Math.Option.{Option, none, some}
use Rattle.rules.specs.Bytes.{Bytes, pick}
use Rattle.rules.specs.Template.{Template, tnil, tcons, Body, no_body, TemplateElement, raw_string, html_expression, expression, helper_block}
use Rattle.rules.specs.Template.{decorator_expression, decorator_block, partial_expression, partial_block, comment}

-- one more for an element of kind k; a count stops at 65,535
unfoldable pub bump : ℕ → ℕ → ℕ → ℕ
bump kind k n = pick (eqb k kind) (pick (leb 65535 n) n (n + 1)) n

abbrev mutual
  pub count_body : ℕ → Template → ℕ → ℕ
  count_body kind tnil n = n
  count_body kind (tcons m e t) n = count_body kind t (count_element kind e n)

  pub count_maybe : ℕ → Body → ℕ → ℕ
  count_maybe kind no_body n = n
  count_maybe kind (Body.body t) n = count_body kind t n

  pub count_element : ℕ → TemplateElement → ℕ → ℕ
  count_element kind (raw_string x) n = bump kind 0 n
  count_element kind (html_expression c f) n = bump kind 1 n
  count_element kind (expression c f) n = bump kind 2 n
  count_element kind (helper_block c x t i f) n = count_maybe kind i (count_maybe kind t (bump kind 3 n))
  count_element kind (decorator_expression c i f) n = bump kind 4 n
  count_element kind (decorator_block c t i f) n = count_body kind t (bump kind 5 n)
  count_element kind (partial_expression c i f) n = bump kind 6 n
  count_element kind (partial_block c t i f) n = count_body kind t (bump kind 7 n)
  count_element kind (comment x) n = bump kind 8 n

abbrev pub count_templates : ℕ → List (Bytes × Template) → ℕ → ℕ
count_templates kind [] n = n
count_templates kind (t ∷ l) n = count_templates kind l (count_body kind t.1 n)

abbrev pub count_bundle : ℕ → Option (List (Bytes × Template)) → ℕ
count_bundle kind none = 0
count_bundle kind (some l) = count_templates kind l 0
