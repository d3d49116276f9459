-- What stands behind each tag of the bundle's choices.
use Rattle.std.specs.Prelude.{Bool, ◌⊎◌}
use Rattle.std.proofs.Common.{inl, inr}
use Rattle.rules.specs.Template.{Call, BlockParam, Template, Body}
use Rattle.rules.specs.Layout.{Layout, num, empty, ◌then◌, Choice, Nothing, ◌or◌, no_more}
use Rattle.rules.specs.Bundle.{string, flag, SegShape, segs, level, PathKind, path, below_zero, LiteralShape, literal, ParamShape, NamesShape}
use Rattle.rules.specs.Bundle.{block_names, maybe_body, indent, Tail, ElementShape}
use Rattle.layout.specs.WalkLaws.{Arm, first, later}

-- Segments: behind 1 and 2 stands nothing

abbrev pub seg_kinds : Choice SegShape
seg_kinds = string or empty or empty or no_more

pub seg_0 : Arm seg_kinds 0 string inl
seg_0 = first string _

-- Paths

abbrev pub path_kinds : Choice PathKind
path_kinds = segs or level or no_more

pub path_0 : Arm path_kinds 0 segs inl
path_0 = first segs _

pub path_1 : Arm path_kinds 1 level (λ x. inr (inl x))
path_1 = later segs (first level no_more)

-- Literals: behind 0 to 2 stands nothing

abbrev pub literal_kinds : Choice LiteralShape
literal_kinds = empty or empty or empty or num 64 or below_zero or string or no_more

pub literal_3 : Arm literal_kinds 3 (num 64) (λ x. inr (inr (inr (inl x))))
literal_3 = later empty (later empty (later empty (first (num 64) _)))

pub literal_4 : Arm literal_kinds 4 below_zero (λ x. inr (inr (inr (inr (inl x)))))
literal_4 = later empty (later empty (later empty (later (num 64) (first below_zero _))))

pub literal_5 : Arm literal_kinds 5 string (λ x. inr (inr (inr (inr (inr (inl x))))))
literal_5 = later empty (later empty (later empty (later (num 64) (later below_zero (first string no_more)))))

-- Parameters

abbrev pub param_kinds : Layout Call → Choice ParamShape
param_kinds c = string or path or literal or c or no_more

module _ (c : Layout Call) where
  pub param_0 : Arm (param_kinds c) 0 string inl
  param_0 = first string _

  pub param_1 : Arm (param_kinds c) 1 path (λ x. inr (inl x))
  param_1 = later string (first path _)

  pub param_2 : Arm (param_kinds c) 2 literal (λ x. inr (inr (inl x)))
  param_2 = later string (later path (first literal _))

  pub param_3 : Arm (param_kinds c) 3 c (λ x. inr (inr (inr (inl x))))
  param_3 = later string (later path (later literal (first c no_more)))

-- Block names: behind 0 stands nothing

abbrev pub names_kinds : Choice NamesShape
names_kinds = empty or string or (string then string) or no_more

pub names_1 : Arm names_kinds 1 string (λ x. inr (inl x))
names_1 = later empty (first string _)

pub names_2 : Arm names_kinds 2 (string then string) (λ x. inr (inr (inl x)))
names_2 = later empty (later string (first (string then string) no_more))

-- A bit and what follows if it is 1

abbrev pub option_kinds : {A : Type 0} → Layout A → Choice (Unit {0} ⊎ A ⊎ Nothing)
option_kinds c = empty or c or no_more

pub option_1 : {A : Type 0} (c : Layout A) → Arm (option_kinds c) 1 c (λ x. inr (inl x))
option_1 c = later empty (first c no_more)

-- Elements

module _ (c : Layout Call) (t : Layout Template) where
  abbrev pub written : Layout (Call × Bool)
  written = c then flag

  abbrev pub block : Layout (Call × (BlockParam × (Body × (Body × Bool))))
  block = c then block_names then maybe_body t then maybe_body t then flag

  abbrev pub bodiless : Layout (Call × Tail)
  bodiless = c then indent then flag

  abbrev pub bodied : Layout (Call × (Template × Tail))
  bodied = c then t then indent then flag

  abbrev pub element_kinds : Choice ElementShape
  element_kinds = string or written or written or block or bodiless or bodied or bodiless or bodied or string or no_more

  pub element_0 : Arm element_kinds 0 string inl
  element_0 = first string _

  pub element_1 : Arm element_kinds 1 written (λ x. inr (inl x))
  element_1 = later string (first written _)

  pub element_2 : Arm element_kinds 2 written (λ x. inr (inr (inl x)))
  element_2 = later string (later written (first written _))

  pub element_3 : Arm element_kinds 3 block (λ x. inr (inr (inr (inl x))))
  element_3 = later string (later written (later written (first block _)))

  pub element_4 : Arm element_kinds 4 bodiless (λ x. inr (inr (inr (inr (inl x)))))
  element_4 = later string (later written (later written (later block (first bodiless _))))

  pub element_5 : Arm element_kinds 5 bodied (λ x. inr (inr (inr (inr (inr (inl x))))))
  element_5 = later string (later written (later written (later block (later bodiless (first bodied _)))))

  pub element_6 : Arm element_kinds 6 bodiless (λ x. inr (inr (inr (inr (inr (inr (inl x)))))))
  element_6 = later string (later written (later written (later block (later bodiless (later bodied (first bodiless _))))))

  pub element_7 : Arm element_kinds 7 bodied (λ x. inr (inr (inr (inr (inr (inr (inr (inl x))))))))
  element_7 = later string (later written (later written (later block (later bodiless (later bodied (later bodiless (first bodied _)))))))

  pub element_8 : Arm element_kinds 8 string (λ x. inr (inr (inr (inr (inr (inr (inr (inr (inl x)))))))))
  element_8 = later string (later written (later written (later block (later bodiless (later bodied (later bodiless (later bodied (first string no_more))))))))
