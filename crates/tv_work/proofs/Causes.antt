-- Why there is no answer, and what that says of the reached points.
use Rattle.std.proofs.Common.{ℕ, ◌≡◌, ◌∙◌, ◌⊎◌, List, Result, Ok, Err, OnOk, length}
use Rattle.tv_model.specs.Program.{ProgramForm}
use Rattle.tv_struct.specs.declared.analysis.StageError.{StageError}
use Rattle.tv_struct.specs.declared.analysis.StageError.TheVariants.{Splits as splits}
use Rattle.tv_struct.specs.declared.analysis.StageError.TheVariants.{Individuals as individuals}
use Rattle.tv_struct.specs.declared.analysis.StageError.TheVariants.{Memory as memory}
use Rattle.tv_step_laws.specs.Budgets.{IsStepCause}
use Rattle.tv_work.specs.Analyzed.{IsAtSource, IsWorkCause, IsMeetCause, work_error}
use Rattle.tv_structure_form.specs.StructureForm.{StructureForm}
use Rattle.tv_work.specs.Explored.{KeepsListed}
use Rattle.tv_work.specs.Reach.{Point, IsListed, AreMoreThan}
use Rattle.tv_work.specs.Stopped.{ListsOneMore, IsMeetStop, IsTaskStop}
use Rattle.tv_work.specs.Task.{TaskForm, reached_in, reached_within}
use Rattle.tv_work.specs.declared.error.WorkError.{WorkError}
use Rattle.tv_work.specs.declared.error.WorkError.TheVariants.{Structures, Splits, Individuals, Memory}
use Rattle.tv_work.proofs.Within.{within-kept}

-- what follows from three things that hold at Ok
pub ok-three : {T E A B C D : Type 0} (r : Result T E) → (A → B → C → D) → OnOk r A → OnOk r B → OnOk r C
    → OnOk r D
ok-three (Ok x) f a b c = f a b c
ok-three (Err e) f a b c = tt

pub more-weaker : (max : ℕ) (P Q : Point → Type 0) → ((x : Point) → P x → Q x) → AreMoreThan max P
    → AreMoreThan max Q
more-weaker max P Q weaker are = record {
  found = are.found;
  different = are.different;
  each = λ x h. weaker x (are.each x h);
  more = are.more;
}

pub meet-weaker : (max : ℕ) (P Q : Point → Type 0) → ((x : Point) → P x → Q x) → (e : WorkError)
    → IsMeetCause max P e
    → IsMeetCause max Q e
meet-weaker max P Q weaker Structures cause = more-weaker max P Q weaker cause
meet-weaker max P Q weaker Splits cause = cause
meet-weaker max P Q weaker Individuals cause = cause
meet-weaker max P Q weaker Memory cause = tt

-- structures are met that are reached
pub meet-cause : (p : ProgramForm) (max : ℕ) (P Q : Point → Type 0) → ((x : Point) → P x → Q x)
    → (e : WorkError)
    → IsMeetCause max P e → IsWorkCause p max Q e
meet-cause p max P Q weaker Structures cause = more-weaker max P Q weaker cause
meet-cause p max P Q weaker Splits cause = absurd cause
meet-cause p max P Q weaker Individuals cause = absurd cause
meet-cause p max P Q weaker Memory cause = tt

-- the step of a reached structure has no answer
pub step-cause : (p : ProgramForm) (max edge : ℕ) (P : Point → Type 0) (x : Point) → IsAtSource p edge P x
    → (fault : StageError) → IsStepCause p edge x.structure fault → IsWorkCause p max P (work_error fault)
step-cause p max edge P x source splits cause
    = record { edge = edge; at = x; source = source; budget = cause }
step-cause p max edge P x source individuals cause
    = record { edge = edge; at = x; source = source; budget = cause }
step-cause p max edge P x source memory cause = tt

-- ---- what is listed where one more is met than may be

listed-weaker : (m n max : ℕ) (P Q : Point → Type 0) (listing : List (List StructureForm)) → m ≡ n
    → ((x : Point) → P x → Q x) → ListsOneMore m max P listing → ListsOneMore n max Q listing
listed-weaker m n max P Q listing same weaker lists = record {
  count = lists.count ∙ same;
  different = lists.different;
  each = λ x h. weaker x (lists.each x h);
  total = lists.total;
}

-- a listing that grew to the middle one grows on
pub stop-on : (max : ℕ) (P Q : Point → Type 0) (old middle new : List (List StructureForm))
    → length middle ≡ length old → KeepsListed old middle
    → ((x : Point) → IsListed middle x ⊎ P x → IsListed old x ⊎ Q x) → (e : WorkError)
    → IsMeetStop max P middle new e → IsMeetStop max Q old new e
stop-on max P Q old middle new same keeps weaker Structures stop = record {
  kept = λ x has. stop.kept x (keeps x has);
  one_more = listed-weaker (length middle) (length old) max (λ x. IsListed middle x ⊎ P x)
      (λ x. IsListed old x ⊎ Q x) new same weaker stop.one_more;
}
stop-on max P Q old middle new same keeps weaker Splits stop = stop
stop-on max P Q old middle new same keeps weaker Individuals stop = stop
stop-on max P Q old middle new same keeps weaker Memory stop = tt

-- structures are met that are reached through listed ones
pub meet-stop : (t : TaskForm) (P : Point → Type 0) (old new : List (List StructureForm))
    → length old ≡ length t.program.nodes
    → ((x : Point) → IsListed old x ⊎ P x → reached_within t old x) → (e : WorkError)
    → IsMeetStop t.max P old new e → IsTaskStop t new e
meet-stop t P old new same within Structures stop =
    listed-weaker (length old) (length t.program.nodes) t.max (λ x. IsListed old x ⊎ P x)
    (reached_within t new) new same (λ x is. within-kept t old new stop.kept x (within x is)) stop.one_more
meet-stop t P old new same within Splits stop = absurd stop
meet-stop t P old new same within Individuals stop = absurd stop
meet-stop t P old new same within Memory stop = tt

-- the step of a reached structure has no answer
pub step-stop : (t : TaskForm) (edge : ℕ) (listing : List (List StructureForm)) (x : Point)
    → IsAtSource t.program edge (reached_in t) x → (fault : StageError)
    → IsStepCause t.program edge x.structure fault → IsTaskStop t listing (work_error fault)
step-stop t edge listing x source splits cause
    = record { edge = edge; at = x; source = source; budget = cause }
step-stop t edge listing x source individuals cause
    = record { edge = edge; at = x; source = source; budget = cause }
step-stop t edge listing x source memory cause = tt
