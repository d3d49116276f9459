use native.Mathlib.Omega.{arith}
use Prim.Native.Nat.{ℕ, ◌+◌, ◌-◌, ◌*◌, ◌<◌}
use mathlib.Core.Path.{refl, sym, ap, ◌∙◌, subst}
use Rattle.rules.specs.Bytes.{Bytes}
use Rattle.rules.specs.Json.{Json}
use Rattle.rules.specs.Bits.{bits}
use Rattle.rules.specs.BundleLaws.{bits_size, bits_binary}
use Rattle.rules.specs.Layout.{◌then◌}
use Rattle.rules.specs.Bundle.{string, param}
use Rattle.rules.specs.Template as template
use Rattle.rules.specs.Error as rule
use Rattle.rules.specs.Error.{got}
use Rattle.rules.specs.Value.{ScopedJson, derived, render}
use Rattle.rules.specs.Expand as rules
use Rattle.parts.specs.Parts.{path_raw}
use Rattle.parts.specs.Says.{path_raw_is}
use Rattle.parts.specs.HoldsLaws.{string_in}
use Rattle.calls.specs.Calls.{call_at, param_fits, ParamStands, param_stands, CallStands, call_stands, pair_stands, pair_content, pair_next}
use Rattle.value.specs.declared.Value.TheVariants.{Literal, Text}
use Rattle.meaning.specs.MeaningLaws.{plain_is}
use Rattle.meaning.specs.Standing.{plain}
use Rattle.expand.specs.Answers.{Expands, Names, IsTemplate, gathered}
use Rattle.expand.proofs.Parts.{some_setting, expanded_held, got_known, named_given, gathered_given, row_first, row_rest, all_none, all_one, all_more, hash_none, hash_one, hash_one_more, few_params, few_pairs}
use borrow.Author.Rules.{rules}
use Rattle.expand.proofs.+expansion.Given as goal

abbrev pub decreases-expand : goal.decreases-expand
decreases-expand l = 64 * l.d

abbrev pub decreases-expand_all : goal.decreases-expand_all
decreases-expand_all l = 64 * l.d + 2 + l.n

abbrev pub decreases-expand_as_name : goal.decreases-expand_as_name
decreases-expand_as_name l = 64 * l.d + 1

abbrev pub decreases-expand_hash : goal.decreases-expand_hash
decreases-expand_hash l = 64 * l.d + 2 + l.n

abbrev pub decreases-from_template : goal.decreases-from_template
decreases-from_template l = 64 * l.d + 32
