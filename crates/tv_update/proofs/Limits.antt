-- The limits of an update.
use Rattle.std.proofs.Common.{ℕ, ◌≡◌, ◌<◌, ◌≤◌, ◌+◌, Bool, true, false, List, [], ◌∷◌, length, Option}
use Rattle.std.proofs.Common.{map, refl, sym, ap, subst, ◌∙◌, arith, All, Contains, IsTrue}
use Rattle.std.specs.Prelude.{◌^◌}
use Rattle.std.specs.List.{range_with_len}
use Rattle.std.proofs.lemmas.List.{length-append, length-map}
use Rattle.std.proofs.lemmas.List.Elements.{All-contains}
use Rattle.std.proofs.lemmas.List.FromFn.{length-range_with_len}
use Rattle.std.proofs.lemmas.Slice.Zip.{AllZip-long}
use Rattle.std.proofs.Math.Nat.{pow-le-pow_right}
use Rattle.tv_model.specs.declared.program.Mode.{Mode}
use Rattle.tv_model.specs.Program.{ProgramForm, ActionForm}
use Rattle.tv_model.specs.Truth.{Assignment}
use Rattle.tv_model.specs.Valid.{IsValid}
use Rattle.tv_model.proofs.Lists.{All-from_contains}
use Rattle.tv_embedding_laws.specs.LogicalStructure.{LogicalStructure}
use Rattle.tv_structure_form.specs.Halves.{row_halves}
use Rattle.tv_structure_form.specs.StructureForm.{StructureForm, IsStructure, structure_of}
use Rattle.tv_structure_form.proofs.Library.{Contains-range}
use Rattle.tv_eval.specs.AssignmentForm.{assignment_of, IsAssigned}
use Rattle.tv_eval.proofs.Parts.{individual_of}
use Rattle.tv_update_laws.specs.Applied.{keep_value, IsMiddleOf}
use Rattle.tv_update_laws.specs.Tables.{middle_table, kept_choices, IsTooLarge, HasManyChoices}
use Rattle.tv_update_laws.specs.Tables.{MiddlesAreAlike}
use Rattle.tv_update_laws.proofs.Counts.{choices_are_counted}
use Rattle.tv_update_laws.proofs.Middles.{one_middle_is_as_good}
use Rattle.tv_update_laws.proofs.Tables.{tables_are_middle}
use Rattle.tv_update.specs.Update.{IsFull, IsGivenOf}
use Rattle.tv_update.specs.Updated.{keep_values}

-- ---- individuals

pub too_large : (action : ActionForm) (s : StructureForm) → IsStructure s → IsTooLarge action (structure_of s)
    → IsFull action s
too_large action s is (m, middle, large) = by_fresh action.fresh refl middle
  where
    by_fresh : (b : Bool) → action.fresh ≡ b → IsMiddleOf b (structure_of s) m → IsFull action s
    by_fresh false e same =
        let size : length m.individuals ≡ s.size = ap (λ (t : LogicalStructure). length t.individuals) same
        ∙ length-range_with_len 0 s.size
        in absurd (omega (arith, large, size, is.table.size))
    by_fresh true e grown =
        let size : length m.individuals ≡ s.size + 1
        = ap length grown.individuals ∙ length-append (range_with_len 0 s.size) (grown.further ∷ [])
        ∙ ap (λ n. n + 1) (length-range_with_len 0 s.size)
        in record { adds = e; full = omega (arith, large, size, is.table.size) }

pub full_is_large : (action : ActionForm) (s : StructureForm) → IsStructure s → IsTrue action.fresh
    → s.size ≡ 256 → IsTooLarge action (structure_of s)
full_is_large action s is adds full = (
  structure_of (middle_table action.fresh s),
  tables_are_middle action.fresh s is,
  omega (
    arith,
    subst (λ b. length (structure_of (middle_table b s)).individuals ≡ s.size + 1)
        (sym adds) grown,
    full,
  ),
)
  where
    grown : length (range_with_len 0 (middle_table true s).size) ≡ s.size + 1
    grown = length-range_with_len 0 (middle_table true s).size ∙ length-range_with_len 0 (s.size + 1)

-- ---- choices

choice-count : (m : StructureForm) (picks : Assignment) (action : ActionForm)
    → length (kept_choices action (structure_of m) picks) ≡ 2 ^ row_halves (keep_values m picks action.retain)
choice-count m picks action =
    choices_are_counted (keep_value (structure_of m) picks action.retain) (range_with_len 0 m.size)

few-choices : (h : ℕ) → h ≤ 12 → 2 ^ h ≤ 4096
few-choices h le = pow-le-pow_right {n = 2} (omega arith) {i = h} {j = 12} le

many-choices : (h : ℕ) → 12 < h → 4096 < 2 ^ h
many-choices h lt =
    let more : 2 ^ 13 ≤ 2 ^ h = pow-le-pow_right {n = 2} (omega arith) {i = 13} {j = h} (omega (arith, lt))
    in omega (arith, more)

pub picks_inside : (s : StructureForm) (places : List (Option ℕ)) (action : ActionForm)
    → All (IsAssigned s.size places) action.picks
    → All (λ v. Contains (structure_of s).individuals (assignment_of places v)) action.picks
picks_inside s places action all =
    All-from_contains (λ v. Contains (range_with_len 0 s.size) (assignment_of places v)) action.picks (λ v at.
    Contains-range s.size (assignment_of places v)
    (individual_of s.size places v (All-contains (IsAssigned s.size places) action.picks v all at)))

pub few_are_not_many : (p : ProgramForm) → IsValid p → (action : ActionForm) → Contains p.actions action
    → (s : StructureForm) → IsStructure s
    → (picks : Assignment) → All (λ v. Contains (structure_of s).individuals (picks v)) action.picks
    → row_halves (keep_values (middle_table action.fresh s) picks action.retain) ≤ 12
    → ¬ HasManyChoices action (structure_of s) picks
few_are_not_many p valid action at s is picks inside few (m, middle, many) =
    let alike : MiddlesAreAlike action picks m (structure_of (middle_table action.fresh s))
    = one_middle_is_as_good p valid action at (structure_of s) picks inside m
    (structure_of (middle_table action.fresh s)) middle
    (tables_are_middle action.fresh s is)
    in omega (
      arith,
      many,
      alike.choices,
      choice-count (middle_table action.fresh s) picks action,
      few-choices (row_halves (keep_values (middle_table action.fresh s) picks action.retain)) few,
    )

pub many_are_many : (action : ActionForm) (s : StructureForm) → IsStructure s → (picks : Assignment)
    → 12 < row_halves (keep_values (middle_table action.fresh s) picks action.retain)
    → HasManyChoices action (structure_of s) picks
many_are_many action s is picks many = (
  structure_of (middle_table action.fresh s),
  tables_are_middle action.fresh s is,
  omega (
    arith,
    choice-count (middle_table action.fresh s) picks action,
    many-choices (row_halves (keep_values (middle_table action.fresh s) picks action.retain)) many,
  ),
)

-- one table a choice
pub few_tables : (p : ProgramForm) (mode : Mode) (action : ActionForm) (picks : Assignment) (m : StructureForm)
    (ts : List StructureForm) → IsGivenOf p mode action picks m ts
    → row_halves (keep_values m picks action.retain) ≤ 12 → length ts ≤ 4096
few_tables p mode action picks m ts of few =
    omega (
      arith,
      AllZip-long _ (kept_choices action (structure_of m) picks) (map structure_of ts) of.given,
      length-map ts structure_of,
      choice-count m picks action,
      few-choices (row_halves (keep_values m picks action.retain)) few,
    )
