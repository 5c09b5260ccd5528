-- How far the steps of a level were counted.
use Rattle.std.specs.Prelude.{ℕ, ◌≡◌, ◌≢◌, ◌<◌, ◌⊎◌, List, Some, slice_get}
use Rattle.tv_kleene.specs.declared.K3.{K3}
use Rattle.tv_kleene.specs.declared.K3.TheVariants.{Yes}
use Rattle.tv_model.specs.Truth.{Assignment}
use Rattle.tv_coerce_members.specs.Members.{MemberForm}
use Rattle.tv_coerce_members.specs.declared.levels.Step.{Step}
use Rattle.tv_eval_laws.specs.Value.{value}
use Rattle.tv_structure_form.specs.StructureForm.{StructureForm, structure_of}
use Rattle.tv_coerce.specs.Counting.{IsBarring, IsCounted}

-- one of the first steps is of a member that isn't Yes
pub record LacksStep (s : StructureForm) (ms : List MemberForm) (steps : List Step) (count : ℕ)
    (b : Assignment) : Type 0 where
  pub at : ℕ
  pub step : Step
  pub member : MemberForm
  pub before : at < count
  pub found : slice_get steps at ≡ Some step
  pub there : slice_get ms step.member ≡ Some member
  pub lacks : value (structure_of s) b member.form ≢ Yes

pub record BarsStep (s : StructureForm) (ms : List MemberForm) (steps : List Step) (b : Assignment)
    : Type 0 where
  pub at : ℕ
  pub step : Step
  pub member : MemberForm
  pub found : slice_get steps at ≡ Some step
  pub there : slice_get ms step.member ≡ Some member
  pub bars : IsBarring s b member

-- one of them bars, or two of them lack
pub record LacksSteps (s : StructureForm) (ms : List MemberForm) (steps : List Step) (count : ℕ)
    (b : Assignment) : Type 0 where
  pub one : LacksStep s ms steps count b
  pub other : LacksStep s ms steps count b
  pub apart : one.at ≢ other.at

abbrev pub IdleStep : StructureForm → List MemberForm → List Step → ℕ → Assignment → Type 0
IdleStep s ms steps count b = BarsStep s ms steps b ⊎ LacksSteps s ms steps count b

-- the word so far: that many of the steps were counted on the old one
abbrev pub CountedBy : StructureForm → Assignment → (v chunk : ℕ) → List MemberForm → (steps : List Step)
    → (count : ℕ) → (old new : List K3) → Type 0
CountedBy s a v chunk ms steps count old new =
    IsCounted s.size a v chunk (LacksStep s ms steps count) (IdleStep s ms steps count) old new
