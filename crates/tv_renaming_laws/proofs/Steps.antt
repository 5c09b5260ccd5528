-- Steps and runs under other names.
use Rattle.std.proofs.Common.{ℕ, ◌≡◌, ◌↔◌, List, [], ◌∷◌, map, Bool, true, false, Option, Some, None, get_or}
use Rattle.std.proofs.Common.{refl, sym, ap, ◌∙◌}
use Rattle.std.specs.Prelude.{IfSome}
use Rattle.std.proofs.lemmas.List.{map_push}
use Rattle.tv_model.specs.Form.{Form}
use Rattle.tv_model.specs.Heap.{Heap, Holds}
use Rattle.tv_model.specs.Program.{ProgramForm, ActionForm, RetainForm, UpdateForm, ChangeForm, CFree, CTo}
use Rattle.tv_model.specs.Run.{IsStart, Stage, GoesOn}
use Rattle.tv_model.specs.Step.{IsMiddle, Keeps, update_for, AllowsChange, FollowsUpdate, StepsThrough}
use Rattle.tv_model.specs.Step.{AgreesWithGiven, FairStep, IsFairThrough}
use Rattle.tv_model.specs.Truth.{Assignment, Truth, put, put_all}
use Rattle.tv_model.specs.Valid.{IsValid}
use Rattle.tv_model.specs.declared.program.Edge.{Edge}
use Rattle.tv_model.specs.declared.program.Mode.{Mode}
use Rattle.tv_model.specs.declared.program.Mode.TheVariants.{Given, Recompute}
use Rattle.tv_renaming_laws.specs.Renamed.{renamed, renamed_values, renamed_stage, IsRenaming}
use Rattle.tv_renaming_laws.specs.Laws.{RenamingKeepsTruth, RenamingKeepsSteps, RenamingKeepsRuns}
use Rattle.tv_renaming_laws.proofs.Names.{among, among-back, holds-back, put-renamed, put_all-renamed}
use Rattle.tv_renaming_laws.proofs.Names.{truth-renamed, tuple-there}
use Rattle.tv_renaming_laws.proofs.Heaps.{heap-renamed, concrete-renamed, meets-renamed, tuple-of_old}

pub renaming_keeps_truth : RenamingKeepsTruth
renaming_keeps_truth r s is h a f = truth-renamed r s is h a (renamed_values r a) f (λ v free. refl)

-- ---- the parts of a step

middle-renamed : (r s : ℕ → ℕ) → IsRenaming r s → (fresh : Bool) (old middle : Heap) → IsMiddle fresh old middle
    → IsMiddle fresh (renamed r old) (renamed r middle)
middle-renamed r s is false old middle e = ap (renamed r) e
middle-renamed r s is true old middle (u, out, e) = (
  r u,
  λ at. out ((among r s is old.individuals u).1 at),
  ap (renamed r) e ∙ ap (λ (us : List ℕ). record { individuals = us; extents = (renamed r old).extents; fresh = Some (r u) }) (map_push r old.individuals u),
)

keeps-renamed : (r s : ℕ → ℕ) → IsRenaming r s → (middle : Heap) (picked : Assignment) (retain : Option RetainForm) (w : ℕ)
    → Keeps middle picked retain (s w) ↔ Keeps (renamed r middle) (renamed_values r picked) retain w
keeps-renamed r s is middle picked None w = (λ t. t, λ t. t)
keeps-renamed r s is middle picked (Some retain) w =
    truth-renamed r s is middle (put picked retain.var (s w)) (put (renamed_values r picked) retain.var w) retain.keep
    (λ v free. put-renamed r picked (renamed_values r picked) retain.var (s w) w (sym (is.there w)) (λ x. refl) v)

-- what a change lets hold
change-renamed : (r s : ℕ → ℕ) → IsRenaming r s → (middle new : Heap) (picked : Assignment) (q : ℕ) (vars : List ℕ) (change : ChangeForm) (ws : List ℕ)
    → AllowsChange middle picked vars change (map s ws) (Holds new q (map s ws))
    → AllowsChange (renamed r middle) (renamed_values r picked) vars change ws (Holds (renamed r new) q ws)
change-renamed r s is middle new picked q vars CFree ws allows = allows
change-renamed r s is middle new picked q vars (CTo f) ws allows =
    let agrees : (v : ℕ) → put_all (renamed_values r picked) vars ws v ≡ r (put_all picked vars (map s ws) v)
    = λ v. ap (λ us. put_all (renamed_values r picked) vars us v) (sym (tuple-there r s is ws))
    ∙ put_all-renamed r vars (map s ws) picked (renamed_values r picked) (λ x. refl) v
    in let truth = truth-renamed r s is middle (put_all picked vars (map s ws)) (put_all (renamed_values r picked) vars ws) f (λ v free. agrees v)
    in let holds = holds-back r s is new q ws
    in (λ t. truth.0 (allows.0 (holds.0 t)), λ t. holds.1 (allows.1 (truth.1 t)))

update-renamed : (r s : ℕ → ℕ) → IsRenaming r s → (middle new : Heap) (picked : Assignment) (q : ℕ) (update : Option UpdateForm) (ws : List ℕ)
    → FollowsUpdate q middle picked update (map s ws) new
    → FollowsUpdate q (renamed r middle) (renamed_values r picked) update ws (renamed r new)
update-renamed r s is middle new picked q None ws follows =
    let after = holds-back r s is new q ws
    in let before = holds-back r s is middle q ws
    in (λ t. before.1 (follows.0 (after.0 t)), λ t. after.1 (follows.1 (before.0 t)))
update-renamed r s is middle new picked q (Some w) ws follows = change-renamed r s is middle new picked q w.vars w.change ws follows

enabled-renamed : (r s : ℕ → ℕ) → IsRenaming r s → (old : Heap) (picked : Assignment) (pre : Option Form) → IfSome pre (Truth old picked)
    → IfSome pre (Truth (renamed r old) (renamed_values r picked))
enabled-renamed r s is old picked None enabled = enabled
enabled-renamed r s is old picked (Some f) enabled =
    (truth-renamed r s is old picked (renamed_values r picked) f (λ v free. refl)).0 enabled

-- ---- steps

pub step-renamed : (p : ProgramForm) → IsValid p → (r s : ℕ → ℕ) → IsRenaming r s → (action : ActionForm) (picked : Assignment) (old middle new : Heap)
    → StepsThrough p action picked old middle new
    → StepsThrough p action (renamed_values r picked) (renamed r old) (renamed r middle) (renamed r new)
step-renamed p valid r s is action picked old middle new step = record {
  old_heap = heap-renamed p r s is old step.old_heap;
  picks_individuals = λ k d lt. (among r s is old.individuals (picked (get_or action.picks k d))).0 (step.picks_individuals k d lt);
  precondition = enabled-renamed r s is old picked action.pre step.precondition;
  is_middle = middle-renamed r s is action.fresh old middle step.is_middle;
  keeps = λ w.
      let new_one = among-back r s is new.individuals w
      in let middle_one = among-back r s is middle.individuals w
      in let kept = keeps-renamed r s is middle picked action.retain w
      in let both = step.keeps (s w)
      in (
        λ at. let was = both.0 (new_one.0 at) in (middle_one.1 was.0, kept.0 was.1),
        λ at. new_one.1 (both.1 (middle_one.0 at.0, kept.1 at.1)),
      );
  core = λ q d found core ws fits.
      update-renamed r s is middle new picked q (update_for q action.updates) ws
      (step.core q d found core (map s ws) (tuple-of_old r s is new d.arity ws fits));
  new_heap = heap-renamed p r s is new step.new_heap;
  concrete = concrete-renamed p valid r s is new step.concrete;
}

pub given-renamed : (p : ProgramForm) (r s : ℕ → ℕ) → IsRenaming r s → (mode : Mode) (action : ActionForm) (picked : Assignment) (middle new : Heap)
    → AgreesWithGiven p mode action picked middle new
    → AgreesWithGiven p mode action (renamed_values r picked) (renamed r middle) (renamed r new)
given-renamed p r s is Recompute action picked middle new agrees = agrees
given-renamed p r s is Given action picked middle new agrees = λ q d found defined w update ws fits.
    change-renamed r s is middle new picked q w.vars w.change ws
    (agrees q d found defined w update (map s ws) (tuple-of_old r s is new d.arity ws fits))

pub renaming_keeps_steps : RenamingKeepsSteps
renaming_keeps_steps p valid r s is = record {
  heaps = heap-renamed p r s is;
  concrete = concrete-renamed p valid r s is;
  meets = meets-renamed p r s is;
  steps = step-renamed p valid r s is;
  given = given-renamed p r s is;
}

-- ---- runs

pub start-renamed : (p : ProgramForm) → IsValid p → (r s : ℕ → ℕ) → IsRenaming r s → (h : Heap) → IsStart p h → IsStart p (renamed r h)
start-renamed p valid r s is h start = record {
  is_heap = heap-renamed p r s is h start.is_heap;
  concrete = concrete-renamed p valid r s is h start.concrete;
  meets = meets-renamed p r s is h start.meets;
}

pub fair-through_renamed : (p : ProgramForm) → IsValid p → (r s : ℕ → ℕ) → IsRenaming r s → (mode : Mode) (action : ActionForm) (picked : Assignment)
    (old middle new : Heap) → IsFairThrough p mode action picked old middle new
    → IsFairThrough p mode action (renamed_values r picked) (renamed r old) (renamed r middle) (renamed r new)
fair-through_renamed p valid r s is mode action picked old middle new fair = record {
  step = step-renamed p valid r s is action picked old middle new fair.step;
  given = given-renamed p r s is mode action picked middle new fair.given;
  old_meets = meets-renamed p r s is old fair.old_meets;
  new_meets = meets-renamed p r s is new fair.new_meets;
}

pub fair-renamed : (p : ProgramForm) → IsValid p → (r s : ℕ → ℕ) → IsRenaming r s → (mode : Mode) (edge : Edge) (old new : Heap) → FairStep p mode edge old new
    → FairStep p mode edge (renamed r old) (renamed r new)
fair-renamed p valid r s is mode edge old new step = record {
  action = step.action;
  picked = renamed_values r step.picked;
  its_action = step.its_action;
  fair = (renamed r step.fair.0, fair-through_renamed p valid r s is mode step.action step.picked old step.fair.0 new step.fair.1);
}

goes-on_renamed : (p : ProgramForm) → IsValid p → (r s : ℕ → ℕ) → IsRenaming r s → (mode : Mode) (node : ℕ) (h : Heap) (stages : List Stage)
    → GoesOn p mode node h stages → GoesOn p mode node (renamed r h) (map (renamed_stage r) stages)
goes-on_renamed p valid r s is mode node h [] goes = goes
goes-on_renamed p valid r s is mode node h (stage ∷ later) (known, leaves, step, goes) = (
  known,
  leaves,
  fair-renamed p valid r s is mode stage.edge h stage.heap step,
  goes-on_renamed p valid r s is mode stage.edge.to stage.heap later goes,
)

pub renaming_keeps_runs : RenamingKeepsRuns
renaming_keeps_runs p valid r s is = record {
  starts = start-renamed p valid r s is;
  fair = fair-renamed p valid r s is;
  runs = λ mode start stages run. record {
    begins = start-renamed p valid r s is start run.begins;
    goes_on = goes-on_renamed p valid r s is mode 0 start stages run.goes_on;
  };
}
