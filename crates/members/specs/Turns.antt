-- helpers/helper_each.rs: the turns over a value.
use Rattle.std.specs.Prelude.{ℕ, List, []}
use Rattle.rules.specs.Json.{Json, jnull, jbool, jpos, jneg, jstr, jarr, jobj}
use Rattle.rules.specs.HelperEach.{Turn, list_turns, map_turns}

-- of a list or an object; nothing else has any
abbrev pub each_turns : Json → List Turn
each_turns jnull = []
each_turns (jbool b) = []
each_turns (jpos n) = []
each_turns (jneg n) = []
each_turns (jstr t) = []
each_turns (jarr l) = list_turns 0 l
each_turns (jobj m) = map_turns 0 m
