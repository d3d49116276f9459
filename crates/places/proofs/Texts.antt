-- The strings of a plan: where a value or a name is a string, what it says, and that it ends.
use Rattle.std.specs.Prelude.{ℕ, ◌+◌, ◌<◌, Bool, ◌≡◌}
use Rattle.std.proofs.Math.Bool.{true, false}
use Rattle.std.proofs.Math.Path.{refl, ap}
use Rattle.std.proofs.Common.{sym, ◌∙◌, subst, eqb-true}
use Rattle.std.proofs.Math.Dec.{eqb}
use Rattle.rules.specs.Bytes.{Bytes, pick, byte_at}
use Rattle.rules.specs.Order.{differ}
use Rattle.rules.specs.Json.{Json, jnull, jbool, jpos, jneg, jstr, jarr, jobj, mnil}
use Rattle.rules.specs.Scan.{saying, magnitude}
use Rattle.rules.specs.Tree.{Tree, tree}
use Rattle.rules.specs.Plan.{name_of, answer, scalar_at, meaning, meanings, members_onto}
use Rattle.saying.specs.Characters.{Whole}
use Rattle.places.specs.Places.{start_of, Node, places, tree_at, json_at, name_at}
use Rattle.places.specs.Sound.{SoundName}
use Rattle.places.specs.Nodes.{sound_at}
use Rattle.places.specs.Children.{is_object, left_node, Child}
use Rattle.places.proofs.MemberLaws.{by_left}
use Rattle.places.specs.Texts.{Says}

is_text : Json → Bool
is_text jnull = false
is_text (jbool b) = false
is_text (jpos n) = false
is_text (jneg n) = false
is_text (jstr s) = true
is_text (jarr l) = false
is_text (jobj m) = false

no_text : {C : Type 0} {b : Bytes} (j : Json) → is_text j ≡ false → j ≡ jstr b → C
unfolding is_text
no_text j h e = differ (sym (ap is_text e) ∙ h)

text_eq : {a b : Bytes} → jstr a ≡ jstr b → a ≡ b
text_eq h = cc

module _ (s : Bytes) (h : answer s ≡ 0) (i : ℕ) (lt : i < places s) where
  -- a value that is a string
  pub text_says : (b : Bytes) → json_at s i ≡ jstr b → Says s (start_of (tree_at s i)) b
  unfolding json_at scalar_at is_text
  text_says b e = go (tree_at s i) e (sound_at s h i lt).string
    where
      go : (t : Tree) → meaning s t ≡ jstr b → (byte_at s (start_of t) ≡ 34 → Whole s (start_of t + 1)) → Says s (start_of t) b
      go (tree n m l) q f =
          by (eqb (byte_at s n) 91) (eqb (byte_at s n) 123) (eqb (byte_at s n) 34) refl (eqb (byte_at s n) 116) (eqb (byte_at s n) 102) (eqb (byte_at s n) 110) (eqb (byte_at s n) 45) q
        where
          by : (x1 x2 x3 : Bool) → eqb (byte_at s n) 34 ≡ x3 → (x4 x5 x6 x7 : Bool)
              → pick x1 (jarr (meanings s l)) (pick x2 (jobj (members_onto s mnil l))
              (pick x3 (jstr (saying s n)) (pick x4 (jbool true) (pick x5 (jbool false) (pick x6 jnull (pick x7 (jneg (magnitude s n)) (jpos (magnitude s n)))))))) ≡ jstr b
              → Says s n b
          by true x2 x3 u x4 x5 x6 x7 k = no_text (jarr (meanings s l)) refl k
          by false true x3 u x4 x5 x6 x7 k = no_text (jobj (members_onto s mnil l)) refl k
          by false false true u x4 x5 x6 x7 k = record { says = text_eq k; whole = f (eqb-true (byte_at s n) 34 u) }
          by false false false u true x5 x6 x7 k = no_text (jbool true) refl k
          by false false false u false true x6 x7 k = no_text (jbool false) refl k
          by false false false u false false true x7 k = no_text jnull refl k
          by false false false u false false false true k = no_text (jneg (magnitude s n)) refl k
          by false false false u false false false false k = no_text (jpos (magnitude s n)) refl k

  -- the name of a member
  pub name_says : (j c : ℕ) → Child s i j c → is_object s i ≡ true → Says s (name_of (tree_at s c)) (name_at s c)
  unfolding name_at
  name_says j c q o =
      by_left s h i lt j c q _
      (λ t l k.
      let n = ap (λ (x : Node). name_of x.tree) (left_node s i j c t l k) in
      record { says = refl; whole = rw n (subst (λ (x : Bool). SoundName s x (name_of t)) o k.stands.sound.0) })
