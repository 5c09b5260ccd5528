-- Actions that are made ready, one after the other.
use Rattle.std.proofs.Common.{ℕ, ◌≡◌, ◌∙◌, ◌<◌, ◌^◌, ◌-◌, List, [], ◌∷◌, ◌++◌, length, min}
use Rattle.std.proofs.Common.{⊎_elim, sym, ap, subst, arith, Some, slice_get}
use Rattle.std.proofs.lemmas.List.{length-map}
use Rattle.std.proofs.lemmas.List.Elements.{All-contains}
use Rattle.tv_lemmas.proofs.Lists.{pushed_at}
use Rattle.tv_model.specs.declared.program.Edge.{Edge}
use Rattle.tv_model.specs.declared.program.Mode.{Mode}
use Rattle.tv_model.specs.declared.program.Program.{Program}
use Rattle.tv_model.specs.Program.{action_of, program_of}
use Rattle.tv_model.specs.Valid.{IsEdge, IsValid}
use Rattle.tv_model.proofs.Lists.{slice_get-contains}
use Rattle.tv_step.specs.declared.job.Job.{Job}
use Rattle.tv_step_laws.specs.Transfer.{IsActionOf}
use Rattle.tv_step.specs.Job.{action_in, AreJobs, IsJob}

-- the action of an edge is one of the program's
pub taken-within : (program : Program) → IsValid (program_of program) → (edge : ℕ) (taken : Edge)
    → slice_get program.edges edge ≡ Some taken → taken.action < length program.actions
taken-within program valid edge taken there =
    let is : IsEdge (program_of program) taken
    = All-contains (IsEdge (program_of program)) program.edges taken valid.edges
    (slice_get-contains program.edges edge taken there)
    in omega (arith, is.2, length-map program.actions action_of)

pub jobs-next : (program : Program) (mode : Mode) (jobs : List Job) (job : Job) (n : ℕ) → length jobs ≡ n
    → ((k : ℕ) (j : Job) → slice_get jobs k ≡ Some j → (j.number ≡ min k (2 ^ 32 - 1)) × IsJob program mode j)
    → job.number ≡ min n (2 ^ 32 - 1) → IsJob program mode job → (k : ℕ) (j : Job)
    → slice_get (jobs ++ job ∷ []) k ≡ Some j → (j.number ≡ min k (2 ^ 32 - 1)) × IsJob program mode j
jobs-next program mode jobs job n count each number is k j there =
    ⊎_elim (λ earlier. each k j earlier)
    (λ last. subst (λ (i : Job). (i.number ≡ min k (2 ^ 32 - 1)) × IsJob program mode i) last.1
    (number ∙ ap (λ i. min i (2 ^ 32 - 1)) (sym (last.0 ∙ count)), is)) (pushed_at jobs job j k there)

-- the job of an edge's action is of that action
pub job-taken-by : (program : Program) (mode : Mode) (edge : ℕ) (taken : Edge) (job : Job)
    → IsJob program mode job → slice_get program.edges edge ≡ Some taken → job.number ≡ taken.action
    → IsActionOf (program_of program) edge (action_in job)
job-taken-by program mode edge taken job its its_edge number = record {
  taken = taken;
  its_edge = its_edge;
  its_action = subst (λ n. slice_get (program_of program).actions n ≡ Some (action_in job)) number its.action;
}

-- so is that among all jobs
pub job-taken : (program : Program) (mode : Mode) (jobs : List Job) (edge : ℕ) (taken : Edge) (job : Job)
    → AreJobs program mode jobs → slice_get program.edges edge ≡ Some taken
    → slice_get jobs taken.action ≡ Some job → taken.action < 2 ^ 32
    → IsActionOf (program_of program) edge (action_in job)
job-taken program mode jobs edge taken job are its_edge there fits =
    let its : (job.number ≡ min taken.action (2 ^ 32 - 1)) × IsJob program mode job
    = are.each taken.action job there
    in job-taken-by program mode edge taken job its.1 its_edge (omega (arith, its.0, fits))
