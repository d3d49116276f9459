-- The code's reasons are those of the rules.
use Rattle.std.specs.Option.{is_some}
use Rattle.std.specs.Prelude.{ℕ, true, false, ◌≡◌, refl, eqb, Option as RustOption, Some, None, Result, Ok, Err}
use Rattle.rules.specs.Bytes.{pick}
use Rattle.std.proofs.Common.{sym, ◌∙◌, subst, arith}
use Rattle.std.proofs.Math.Path.{ap}
use Rattle.std.proofs.lemmas.Option.{none-some, same_Some}
use Rattle.rules.specs.Error as rule
use Rattle.rules.specs.Error.{missing-variable, partial-not-found, partial-block-not-found, helper-not-found, param-not-found-for-index, decorator-not-found, cannot-include-self, invalid-param-type, block-content-required, invalid-json-index, indent-limit, entries-limit, scopes-limit, block-texts-limit, page-limit}
use Rattle.error.specs.declared.RenderErrorReason.{RenderErrorReason as Reason}
use Rattle.error.specs.declared.RenderErrorReason.TheVariants.{MissingVariable, PartialNotFound, PartialBlockNotFound, HelperNotFound, ParamNotFoundForIndex, DecoratorNotFound, CannotIncludeSelf, InvalidParamType, BlockContentRequired, InvalidJsonIndex, IndentLimit, EntriesLimit, ScopesLimit, BlockTextsLimit, PageLimit, Other}

-- which of the rules' reasons it is
abbrev pub reason : Reason → rule.RenderErrorReason
reason MissingVariable = missing-variable
reason PartialNotFound = partial-not-found
reason PartialBlockNotFound = partial-block-not-found
reason HelperNotFound = helper-not-found
reason ParamNotFoundForIndex = param-not-found-for-index
reason DecoratorNotFound = decorator-not-found
reason CannotIncludeSelf = cannot-include-self
reason InvalidParamType = invalid-param-type
reason BlockContentRequired = block-content-required
reason InvalidJsonIndex = invalid-json-index
reason IndentLimit = indent-limit
reason EntriesLimit = entries-limit
reason ScopesLimit = scopes-limit
reason BlockTextsLimit = block-texts-limit
reason PageLimit = page-limit
reason (Other n) = page-limit

-- the paper's number of it
abbrev pub number_of : Reason → ℕ
number_of MissingVariable = 11
number_of PartialNotFound = 12
number_of PartialBlockNotFound = 13
number_of HelperNotFound = 14
number_of ParamNotFoundForIndex = 15
number_of DecoratorNotFound = 16
number_of CannotIncludeSelf = 17
number_of InvalidParamType = 18
number_of BlockContentRequired = 19
number_of InvalidJsonIndex = 20
number_of IndentLimit = 21
number_of EntriesLimit = 22
number_of ScopesLimit = 23
number_of BlockTextsLimit = 24
number_of PageLimit = 25
number_of (Other n) = 25

pub number_is : (e : Reason) → rule.number (reason e) ≡ number_of e
number_is MissingVariable = refl
number_is PartialNotFound = refl
number_is PartialBlockNotFound = refl
number_is HelperNotFound = refl
number_is ParamNotFoundForIndex = refl
number_is DecoratorNotFound = refl
number_is CannotIncludeSelf = refl
number_is InvalidParamType = refl
number_is BlockContentRequired = refl
number_is InvalidJsonIndex = refl
number_is IndentLimit = refl
number_is EntriesLimit = refl
number_is ScopesLimit = refl
number_is BlockTextsLimit = refl
number_is PageLimit = refl
number_is (Other n) = refl

-- which of the code's it is
abbrev pub coded : rule.RenderErrorReason → Reason
coded missing-variable = MissingVariable
coded partial-not-found = PartialNotFound
coded partial-block-not-found = PartialBlockNotFound
coded helper-not-found = HelperNotFound
coded param-not-found-for-index = ParamNotFoundForIndex
coded decorator-not-found = DecoratorNotFound
coded cannot-include-self = CannotIncludeSelf
coded invalid-param-type = InvalidParamType
coded block-content-required = BlockContentRequired
coded invalid-json-index = InvalidJsonIndex
coded indent-limit = IndentLimit
coded entries-limit = EntriesLimit
coded scopes-limit = ScopesLimit
coded block-texts-limit = BlockTextsLimit
coded page-limit = PageLimit

-- the reason of a number: one that is none of the rules' is kept as it is
unfoldable pub numbered : ℕ → Reason
numbered n =
    pick (eqb n 11) MissingVariable
    (pick (eqb n 12) PartialNotFound
    (pick (eqb n 13) PartialBlockNotFound
    (pick (eqb n 14) HelperNotFound
    (pick (eqb n 15) ParamNotFoundForIndex
    (pick (eqb n 16) DecoratorNotFound
    (pick (eqb n 17) CannotIncludeSelf
    (pick (eqb n 18) InvalidParamType
    (pick (eqb n 19) BlockContentRequired
    (pick (eqb n 20) InvalidJsonIndex
    (pick (eqb n 21) IndentLimit
    (pick (eqb n 22) EntriesLimit
    (pick (eqb n 23) ScopesLimit
    (pick (eqb n 24) BlockTextsLimit
    (pick (eqb n 25) PageLimit
    (Other n)))))))))))))))

pub numbered_is : (r : rule.RenderErrorReason) → numbered (rule.number r) ≡ coded r
unfolding numbered
numbered_is missing-variable = refl
numbered_is partial-not-found = refl
numbered_is partial-block-not-found = refl
numbered_is helper-not-found = refl
numbered_is param-not-found-for-index = refl
numbered_is decorator-not-found = refl
numbered_is cannot-include-self = refl
numbered_is invalid-param-type = refl
numbered_is block-content-required = refl
numbered_is invalid-json-index = refl
numbered_is indent-limit = refl
numbered_is entries-limit = refl
numbered_is scopes-limit = refl
numbered_is block-texts-limit = refl
numbered_is page-limit = refl

-- as the code keeps it: None where nothing is refused
abbrev pub refusal : rule.RenderErrorReason → RustOption Reason
refusal r = Some (coded r)

pub reason_coded : (r : rule.RenderErrorReason) → reason (coded r) ≡ r
reason_coded missing-variable = refl
reason_coded partial-not-found = refl
reason_coded partial-block-not-found = refl
reason_coded helper-not-found = refl
reason_coded param-not-found-for-index = refl
reason_coded decorator-not-found = refl
reason_coded cannot-include-self = refl
reason_coded invalid-param-type = refl
reason_coded block-content-required = refl
reason_coded invalid-json-index = refl
reason_coded indent-limit = refl
reason_coded entries-limit = refl
reason_coded scopes-limit = refl
reason_coded block-texts-limit = refl
reason_coded page-limit = refl

pub refusal_some : (r : rule.RenderErrorReason) → refusal r ≡ None → ⊥
refusal_some r e = cc

-- it is one of the rules' reasons, and none of the other numbers
abbrev pub Listed : Reason → Type 0
Listed e = coded (reason e) ≡ e

pub listed : (r : rule.RenderErrorReason) (e : Reason) → refusal r ≡ Some e → Listed e
listed r e h = subst Listed (same_Some (coded r) e h) (ap coded (reason_coded r))

pub not_other : (e : Reason) (n : ℕ) → Listed e → e ≡ Other n → ⊥
not_other e n h z = let k : Listed (Other n) = subst Listed z h in cc

-- the refusal of what may be refused, if there is one
abbrev pub refused : {A : Type 0} → Result A Reason → RustOption Reason
refused (Ok a) = None
refused (Err e) = Some e

pub not_none : {A : Type 0} {o : RustOption A} (a : A) → o ≡ Some a → o ≡ None → ⊥
not_none a e z = none-some a (sym z ∙ e)

pub reason_some : (r : rule.RenderErrorReason) → rule.number r ≡ 0 → ⊥
reason_some missing-variable e = omega arith
reason_some partial-not-found e = omega arith
reason_some partial-block-not-found e = omega arith
reason_some helper-not-found e = omega arith
reason_some param-not-found-for-index e = omega arith
reason_some decorator-not-found e = omega arith
reason_some cannot-include-self e = omega arith
reason_some invalid-param-type e = omega arith
reason_some block-content-required e = omega arith
reason_some invalid-json-index e = omega arith
reason_some indent-limit e = omega arith
reason_some entries-limit e = omega arith
reason_some scopes-limit e = omega arith
reason_some block-texts-limit e = omega arith
reason_some page-limit e = omega arith

pub none_of : {A : Type 0} (o : RustOption A) → is_some o ≡ false → o ≡ None
none_of None e = refl
none_of (Some a) e = cc

pub some_of : {A : Type 0} (o : RustOption A) → is_some o ≡ true → o ≡ None → ⊥
some_of None e z = cc
some_of (Some a) e z = none-some a (sym z)
