-- What the joined analysis answers: what a round lists that the next one equals, and the messages that may
-- be true there.
use Rattle.std.specs.Prelude.{ℕ, ◌≡◌, ◌≢◌, ◌≤◌, ◌↔◌, List, length, sum_by, All, AllPairs, Contains}
use Rattle.std.specs.List.Sorted.{IsStrictlySortedBy}
use Rattle.tv_model.specs.declared.program.Mode.{Mode}
use Rattle.tv_model.specs.Program.{ProgramForm}
use Rattle.tv_listing.specs.declared.analysis.MessageLine.{MessageLine}
use Rattle.tv_struct.specs.Order.{structure_cmp}
use Rattle.tv_structure_form.specs.StructureForm.{StructureForm}
use Rattle.tv_step_laws.specs.Budgets.{MeetsSplits, MeetsIndividuals}
use Rattle.tv_work.specs.Analyzed.{IsReported, IsBefore, KeepAllBudgets, Meets}
use Rattle.tv_work.specs.Reach.{Point, IsListed, AreMoreThan}
use Rattle.tv_join.specs.Keys.{key_of}
use Rattle.tv_join.specs.Rounds.{IsInRound, IsLast}
use Rattle.tv_work.specs.declared.error.WorkError.{WorkError}
use Rattle.tv_work.specs.declared.error.WorkError.TheVariants.{Structures, Splits, Individuals, Memory}

-- no two of the structures have one key
abbrev pub HaveOwnKeys : ProgramForm → List StructureForm → Type 0
HaveOwnKeys p structures = AllPairs (λ s t. key_of p s ≢ key_of p t) structures

-- at most `max` points have the property: they stand in a listing of so many
pub record AreAtMost (max : ℕ) (P : Point → Type 0) : Type 0 where
  pub found : List (List StructureForm)
  pub all : (x : Point) → P x → IsListed found x
  pub most : sum_by length found ≤ max

-- the listing is that of the round, in order, and the next round equals it; the lines are exactly those of
-- the messages that may be true where it lists a structure, in order; no round up to this one lists over
-- `max` structures, and no step of what it lists meets a budget. Where rounds don't change any more they
-- never do again, so there is one such listing
pub record IsJoined (p : ProgramForm) (mode : Mode) (initial : List StructureForm) (max : ℕ)
    (listing : List (List StructureForm)) (lines : List MessageLine) : Type 0 where
  pub nodes : length listing ≡ length p.nodes
  pub sorted : All (IsStrictlySortedBy structure_cmp) listing
  pub round : ℕ
  pub exact : (x : Point) → IsListed listing x ↔ IsInRound p mode initial round x
  pub last : IsLast p mode initial round
  pub within : sum_by length listing ≤ max
  pub rounds : (before : ℕ) → before ≤ round → AreAtMost max (IsInRound p mode initial before)
  pub keys : All (HaveOwnKeys p) listing
  pub reported : (line : MessageLine) → Contains lines line ↔ IsReported p (IsListed listing) line
  pub ordered : AllPairs IsBefore lines
  pub budgets : (before : ℕ) → before ≤ round → KeepAllBudgets p (IsInRound p mode initial before)

-- what an error says of the rounds
abbrev pub IsJoinCause : ProgramForm → Mode → (initial : List StructureForm) → (max : ℕ) → WorkError → Type 0
IsJoinCause p mode initial max Structures = (round : ℕ) × AreMoreThan max (IsInRound p mode initial round)
IsJoinCause p mode initial max Splits = (round : ℕ) × Meets p (MeetsSplits p) (IsInRound p mode initial round)
IsJoinCause p mode initial max Individuals =
    (round : ℕ) × Meets p (MeetsIndividuals p) (IsInRound p mode initial round)
IsJoinCause p mode initial max Memory = Unit {0}
