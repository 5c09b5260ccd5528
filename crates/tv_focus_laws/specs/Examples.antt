-- Focus on small structures.
use Rattle.std.specs.Prelude.{ℕ, ◌≡◌, ◌==◌, ◌<◌, Bool, true, false, List, [], ◌∷◌, length, map, None}
use Rattle.std.specs.Prelude.{if◌then◌else◌}
use Rattle.tv_kleene.specs.declared.K3.{K3}
use Rattle.tv_kleene.specs.declared.K3.TheVariants.{No, Half, Yes}
use Rattle.tv_model.specs.Form.{Form, FAtom, FAnd, FExists, FNot}
use Rattle.tv_structure_form.specs.StructureForm.{StructureForm, structure_of}
use Rattle.tv_focus_laws.specs.FocusAtoms.{AnchorsForm, focus_atoms, anchors_in}
use Rattle.tv_focus_laws.specs.Choices.{AimForm, Alone, Before, Behind, SplitForm, Nothing, Whole, Each}
use Rattle.tv_focus_laws.specs.Choices.{MemberForm, VectorSet, choices, members, sets_of}
use Rattle.tv_focus_laws.specs.Stages.{split_at}
use Rattle.tv_focus_laws.specs.Counts.{choice_count, largest_size, few_choices}

-- one summary, of which predicate 0 is unknown
abbrev pub one_summary : StructureForm
one_summary = record {
  size = 1;
  summaries = true ∷ [];
  planes = record { arity = 1; rows = (Half ∷ []) ∷ [] } ∷ [];
  fresh = None;
}

-- that many summaries, of which predicate 0 is unknown
abbrev pub all_half : List Bool → StructureForm
all_half flags = record {
  size = length flags;
  summaries = flags;
  planes = record { arity = 1; rows = map (λ flag. Half) flags ∷ [] } ∷ [];
  fresh = None;
}

-- a list: individual 0 is pointed at by predicate 0, and individual 1 is a summary of the others; predicate
-- 1 leads from 0 to 1 and from 1 to 1, maybe
abbrev pub list_table : StructureForm
list_table = record {
  size = 2;
  summaries = false ∷ true ∷ [];
  planes = record { arity = 1; rows = (Yes ∷ No ∷ []) ∷ [] }
      ∷ record { arity = 2; rows = (No ∷ Half ∷ []) ∷ (No ∷ Half ∷ []) ∷ [] } ∷ [];
  fresh = None;
}

-- there is v with x(v) and n(v, w)
abbrev pub next_of_x : Form
next_of_x = FExists 0 (FAnd (FAtom 0 (0 ∷ [])) (FAtom 1 (0 ∷ 1 ∷ [])))

-- sets of vectors of one value: no cell, all cells, some of each
abbrev pub none : VectorSet
none = (No ∷ []) ∷ []

abbrev pub all : VectorSet
all = (Yes ∷ []) ∷ []

abbrev pub some : VectorSet
some = (No ∷ []) ∷ (Yes ∷ []) ∷ []

-- the vectors of two values, in order
abbrev pub no_no : List K3
no_no = No ∷ No ∷ []

abbrev pub no_yes : List K3
no_yes = No ∷ Yes ∷ []

abbrev pub yes_no : List K3
yes_no = Yes ∷ No ∷ []

abbrev pub yes_yes : List K3
yes_yes = Yes ∷ Yes ∷ []

pub record Examples : Type 0 where
  -- the three choices of one summary: none, all, some
  pub three : choices (structure_of one_summary) 0 Alone
      ≡ (((No ∷ []) ∷ []) ∷ []) ∷ (((Yes ∷ []) ∷ []) ∷ []) ∷ (((No ∷ []) ∷ (Yes ∷ []) ∷ []) ∷ []) ∷ []
  pub copies : members (0 ∷ []) (((No ∷ []) ∷ (Yes ∷ []) ∷ []) ∷ [])
      ≡ record { origin = 0; vector = No ∷ [] } ∷ record { origin = 0; vector = Yes ∷ [] } ∷ []
  -- of two individuals the last one's sets differ first, whether or not it is a summary
  pub two : choices (structure_of (all_half (false ∷ false ∷ []))) 0 Alone
      ≡ (none ∷ none ∷ []) ∷ (none ∷ all ∷ []) ∷ (all ∷ none ∷ []) ∷ (all ∷ all ∷ []) ∷ []
  pub before_a_summary : choices (structure_of (all_half (false ∷ true ∷ []))) 0 Alone
      ≡ (none ∷ none ∷ []) ∷ (none ∷ all ∷ []) ∷ (none ∷ some ∷ [])
      ∷ (all ∷ none ∷ []) ∷ (all ∷ all ∷ []) ∷ (all ∷ some ∷ []) ∷ []
  pub behind_a_summary : choices (structure_of (all_half (true ∷ false ∷ []))) 0 Alone
      ≡ (none ∷ none ∷ []) ∷ (none ∷ all ∷ []) ∷ (all ∷ none ∷ []) ∷ (all ∷ all ∷ [])
      ∷ (some ∷ none ∷ []) ∷ (some ∷ all ∷ []) ∷ []
  -- the sets of a summary with two unknown values: those of one vector, of two, of three, of all four
  pub sets : sets_of true (Half ∷ Half ∷ [])
      ≡ (no_no ∷ []) ∷ (no_yes ∷ []) ∷ (yes_no ∷ []) ∷ (yes_yes ∷ []) ∷ (no_no ∷ no_yes ∷ [])
      ∷ (no_no ∷ yes_no ∷ []) ∷ (no_no ∷ yes_yes ∷ []) ∷ (no_yes ∷ yes_no ∷ []) ∷ (no_yes ∷ yes_yes ∷ [])
      ∷ (yes_no ∷ yes_yes ∷ []) ∷ (no_no ∷ no_yes ∷ yes_no ∷ []) ∷ (no_no ∷ no_yes ∷ yes_yes ∷ [])
      ∷ (no_no ∷ yes_no ∷ yes_yes ∷ []) ∷ (no_yes ∷ yes_no ∷ yes_yes ∷ [])
      ∷ (no_no ∷ no_yes ∷ yes_no ∷ yes_yes ∷ []) ∷ []
  -- seven summaries have 2187 choices, eight too many
  pub seven : choice_count
      (structure_of (all_half (true ∷ true ∷ true ∷ true ∷ true ∷ true ∷ true ∷ []))) 0 Alone ≡ 2187
  pub seven_few : few_choices
      (structure_of (all_half (true ∷ true ∷ true ∷ true ∷ true ∷ true ∷ true ∷ []))) 0 Alone ≡ 2187
  pub eight : choice_count
      (structure_of (all_half (true ∷ true ∷ true ∷ true ∷ true ∷ true ∷ true ∷ true ∷ []))) 0 Alone ≡ 6561
  pub eight_few : few_choices
      (structure_of (all_half (true ∷ true ∷ true ∷ true ∷ true ∷ true ∷ true ∷ true ∷ []))) 0 Alone ≡ 4097
  -- the first variable is anchored at the first cell; nothing surely follows, so the second at none
  pub anchors : anchors_in (structure_of list_table) (focus_atoms next_of_x)
      ≡ record { var = 0; anchors = 0 ∷ [] } ∷ record { var = 1; anchors = [] } ∷ []
  pub first : split_at (structure_of list_table) next_of_x 0 ≡ Each Alone
  pub second : split_at (structure_of list_table) next_of_x 1 ≡ Each (Behind (0 ∷ []))
  -- the summary may follow the first cell, or not, or in part
  pub following : choices (structure_of list_table) 1 (Behind (0 ∷ []))
      ≡ (((No ∷ []) ∷ []) ∷ ((No ∷ []) ∷ []) ∷ []) ∷ (((No ∷ []) ∷ []) ∷ ((Yes ∷ []) ∷ []) ∷ [])
      ∷ (((No ∷ []) ∷ []) ∷ ((No ∷ []) ∷ (Yes ∷ []) ∷ []) ∷ []) ∷ []
  pub most : largest_size (structure_of list_table) 1 (Behind (0 ∷ [])) ≡ 3
