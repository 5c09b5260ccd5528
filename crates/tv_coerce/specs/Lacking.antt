-- Which members of a base rule aren't Yes, where all its variables have individuals.
use Rattle.std.specs.Prelude.{ℕ, ◌≡◌, ◌≢◌, List, Option, Some, slice_get}
use Rattle.tv_kleene.specs.declared.K3.{K3}
use Rattle.tv_kleene.specs.declared.K3.TheVariants.{No, Half, Yes}
use Rattle.tv_coerce_members.specs.Members.{MemberForm}
use Rattle.tv_model.specs.Truth.{Assignment}
use Rattle.tv_model.specs.Valid.{IsFormulaOver}
use Rattle.tv_eval.specs.Formulas.{AreAssigned}
use Rattle.tv_eval.specs.ScratchForm.{ScratchForm, HasScratchFor}
use Rattle.tv_eval_laws.specs.Value.{value}
use Rattle.tv_structure_form.specs.StructureForm.{StructureForm, arities_of, structure_of}
use Rattle.tv_coerce.specs.Counting.{AreOthersYes, IsSome, LacksTwo, members_in}
use Rattle.tv_coerce.specs.declared.counting.Missing.{Missing}
use Rattle.tv_coerce.specs.declared.counting.Missing.TheVariants.{Nothing, Member, Several}
use Rattle.tv_coerce.specs.declared.trial.Trial.{Trial}

-- a member can be valued
pub record CanValueOne (s : StructureForm) (room : ScratchForm) (places : List (Option ℕ)) (m : MemberForm)
    : Type 0 where
  pub formula : IsFormulaOver (arities_of s) m.form
  pub assigned : AreAssigned s.size places m.form
  pub fits : HasScratchFor room m.form s.size

-- each member of the trial can
abbrev pub CanValue : Trial → ScratchForm → List (Option ℕ) → Type 0
CanValue trial room places =
    (k : ℕ) (m : MemberForm) → slice_get (members_in trial) k ≡ Some m
    → CanValueOne trial.structure.now room places m

-- the member of that number isn't Yes, and all others are
pub record IsOnly (s : StructureForm) (a : Assignment) (ms : List MemberForm) (k : ℕ) : Type 0 where
  pub member : MemberForm
  pub there : slice_get ms k ≡ Some member
  pub lacks : value (structure_of s) a member.form ≢ Yes
  pub others : AreOthersYes s a k ms

-- those so far, and the one of that number, if its value isn't Yes
abbrev pub lacking_more : Missing → ℕ → Missing
lacking_more Nothing number = Member number
lacking_more (Member k) number = Several
lacking_more Several number = Several

abbrev pub lacking_too : Missing → ℕ → K3 → Missing
lacking_too found number No = lacking_more found number
lacking_too found number Half = lacking_more found number
lacking_too found number Yes = found

abbrev pub IsLacking : StructureForm → Assignment → List MemberForm → Missing → Type 0
IsLacking s a ms Nothing =
    (k : ℕ) (m : MemberForm) → slice_get ms k ≡ Some m → value (structure_of s) a m.form ≡ Yes
IsLacking s a ms (Member k) = IsOnly s a ms k
IsLacking s a ms Several = LacksTwo IsSome s a ms
