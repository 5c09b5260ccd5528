-- Members that are counted on a word, along a variable.
use Rattle.std.specs.Prelude.{ℕ, ◌≡◌, ◌≢◌, ◌<◌, ◌*◌, Bool, List, length}
use Rattle.tv_kleene.specs.declared.K3.{K3}
use Rattle.tv_kleene.specs.declared.K3.TheVariants.{Yes}
use Rattle.tv_coerce_members.specs.Members.{MemberForm}
use Rattle.tv_coerce_members.specs.declared.levels.Step.{Step}
use Rattle.tv_eval.specs.AssignmentForm.{assignment_of}
use Rattle.tv_eval.specs.Bound.{bound_structure}
use Rattle.tv_eval.specs.ScratchForm.{ScratchForm}
use Rattle.tv_eval.specs.declared.evaluator.Evaluator.{Evaluator}
use Rattle.tv_eval_laws.specs.Value.{value}
use Rattle.tv_structure_form.specs.StructureForm.{StructureForm, structure_of}
use Rattle.tv_coerce.specs.Counting.{CanRead, IsAt, IsBarring, IsCounted, IsIdle, IsReadOf, Lacks, members_in}
use Rattle.tv_coerce.specs.Steps.{CountedBy}
use Rattle.tv_coerce.specs.declared.places.Along.{Along}

abbrev pub structure_along : Along → StructureForm
structure_along x = x.trial.now.structure.now

abbrev pub members_along : Along → List MemberForm
members_along x = members_in x.trial.now

-- the word has values for some of the structure's individuals, and the evaluator is one for that structure
pub record IsAlong (x : Along) (e : Evaluator) (word : List K3) : Type 0 where
  pub structure : bound_structure e ≡ structure_along x
  pub chunk : 64 * x.span.chunk < (structure_along x).size
  pub long : length word ≡ 64

-- the step's member can be valued for all individuals, put for the variable
abbrev pub CanReadAlong : Along → ScratchForm → Step → Type 0
CanReadAlong x room step = CanRead x.trial.now room x.span.v.0 x.a.now step

-- the individuals that the word doesn't rule out have the member's values
abbrev pub IsReadAlong : Along → MemberForm → (word values : List K3) → Type 0
IsReadAlong x m word values =
    IsReadOf (structure_along x) (assignment_of x.a.now) x.span.v.0 x.span.chunk m.form word values

-- the new word has the member counted on the old one
abbrev pub IsCountedWith : Along → MemberForm → (old new : List K3) → Type 0
IsCountedWith x m old new =
    IsCounted (structure_along x).size (assignment_of x.a.now) x.span.v.0 x.span.chunk
    (λ b. value (structure_of (structure_along x)) b m.form ≢ Yes)
    (λ b. IsBarring (structure_along x) b m) old new

-- and has those counted that are tested once all but so many variables have individuals
abbrev pub IsCountedAt : Along → (left : ℕ) → (last : Bool) → (old new : List K3) → Type 0
IsCountedAt x left last old new =
    IsCounted (structure_along x).size (assignment_of x.a.now) x.span.v.0 x.span.chunk
    (λ b. Lacks (IsAt left last) (structure_along x) b (members_along x))
    (λ b. IsIdle (IsAt left last) (structure_along x) b (members_along x)) old new

-- that many of the steps were counted
abbrev pub AreCounted : Along → List Step → (count : ℕ) → (old new : List K3) → Type 0
AreCounted x steps count old new =
    CountedBy (structure_along x) (assignment_of x.a.now) x.span.v.0 x.span.chunk (members_along x) steps
    count old new
