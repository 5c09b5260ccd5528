-- The differenced program: its updates, and its runs.
use Rattle.std.proofs.Common.{ℕ, ◌≡◌, ◌↔◌, ◌∙◌, ◌+◌, Bool, true, false, suc, List, [], ◌∷◌, filter}
use Rattle.std.proofs.Common.{Option, Some, None, ⊎_elim, refl, sym, ap, subst, cond, eqb, arith, Contains}
use Rattle.std.specs.Prelude.{slice_get}
use Rattle.std.specs.List.{AllZip, find}
use Rattle.std.specs.Option.{option_or}
use Rattle.std.proofs.lemmas.Bool.{false≢true, cond-true, cond-false, eqb-true, false_from_ne_true}
use Rattle.std.proofs.lemmas.List.Elements.{Contains-append_cases}
use Rattle.std.proofs.lemmas.List.Folds.{find-append}
use Rattle.tv_model.specs.declared.program.Edge.{Edge}
use Rattle.tv_model.specs.declared.program.Mode.{Mode}
use Rattle.tv_model.specs.declared.program.Mode.TheVariants.{Given, Recompute}
use Rattle.tv_model.specs.Form.{Form}
use Rattle.tv_model.specs.Heap.{Heap, Holds, IsTuple}
use Rattle.tv_model.specs.Program.{ProgramForm, PredForm, KindForm, KCore, KDefined, ActionForm, UpdateForm}
use Rattle.tv_model.specs.Program.{ChangeForm, CTo, is_core_kind, is_core_pred}
use Rattle.tv_model.specs.Rules.{IsHeap, IsConcrete, MeetsProgram, blank}
use Rattle.tv_model.specs.Run.{Stage, GoesOn, IsRun}
use Rattle.tv_model.specs.Step.{StepsThrough, IsFairThrough, FairStep, FollowsUpdate, AllowsChange}
use Rattle.tv_model.specs.Step.{AgreesWithGiven, update_for}
use Rattle.tv_model.specs.Truth.{Assignment, Truth, put_all}
use Rattle.tv_model.specs.Valid.{IsValid}
use Rattle.tv_model.proofs.Lists.{Contains-here, Contains-there, Contains-none, Contains-cases}
use Rattle.tv_model.proofs.Lists.{Contains-filter_back, slice_get-contains}
use Rattle.tv_model.proofs.Programs.{kind-cases}
use Rattle.tv_delta_laws.specs.Differences.{AreAffected, Answer, DKeep, DEvaluate, DTo, answer_for}
use Rattle.tv_delta_laws.specs.Differences.{answer_by_kind, updates_by, answers_from}
use Rattle.tv_delta_laws.specs.Differences.{differenced_updates, with_updates, with_actions}
use Rattle.tv_delta_laws.specs.Differences.{IsDifferencedAction}
use Rattle.tv_delta_laws.specs.Laws.{RunsAreDifferenced}
use Rattle.tv_delta_laws.proofs.Options.{find-passes}
use Rattle.tv_delta_laws.proofs.StepTruths.{by-definition}
use Rattle.tv_delta_laws.proofs.AtomTruths.{Decided, updates_tell_the_truth}
use Rattle.tv_lemmas.proofs.Options.{or_none}
use Rattle.tv_lemmas.proofs.Zips.{zip_partner}

-- ---- updates that differencing makes

-- the update is the answer for a predicate of the list, whose predicates are numbered from k on
pub record AnswerAt (p : ProgramForm) (action : ActionForm) (affected : List Bool) (k : ℕ) (preds : List PredForm)
    (w : UpdateForm) : Type 0 where
  pub place : ℕ
  pub pred : PredForm
  pub found : slice_get preds place ≡ Some pred
  pub number : w.pred ≡ k + place
  pub formula : Form
  pub answer : answer_by_kind p action affected w.pred pred.kind ≡ DTo w.vars formula
  pub change : w.change ≡ CTo formula

first-answer : (p : ProgramForm) (action : ActionForm) (affected : List Bool) (k : ℕ) (d : PredForm)
    (preds : List PredForm) (w : UpdateForm) (x : Answer) → answer_by_kind p action affected k d.kind ≡ x
    → Contains (updates_by k x) w → AnswerAt p action affected k (d ∷ preds) w
first-answer p action affected k d preds w DKeep e at = absurd (Contains-none w at)
first-answer p action affected k d preds w DEvaluate e at = absurd (Contains-none w at)
first-answer p action affected k d preds w (DTo vars f) e at =
    let it : UpdateForm = record { pred = k; vars = vars; change = CTo f }
    in let At : UpdateForm → Type 0 = λ u. AnswerAt p action affected k (d ∷ preds) u
    in ⊎_elim
    (λ same. subst At same (record {
      place = 0;
      pred = d;
      found = refl;
      number = omega arith;
      formula = f;
      answer = e;
      change = refl;
    }))
    (λ none. absurd (Contains-none w none))
    (Contains-cases it w [] at)

pub answers-at : (p : ProgramForm) (action : ActionForm) (affected : List Bool) (k : ℕ) (preds : List PredForm)
    (w : UpdateForm) → Contains (answers_from p action affected k preds) w → AnswerAt p action affected k preds w
answers-at p action affected k [] w at = absurd (Contains-none w at)
answers-at p action affected k (d ∷ preds) w at =
    ⊎_elim
    (λ here. first-answer p action affected k d preds w (answer_by_kind p action affected k d.kind) refl here)
    (λ there. later (answers-at p action affected (k + 1) preds w there))
    (Contains-append_cases (updates_by k (answer_by_kind p action affected k d.kind))
    (answers_from p action affected (k + 1) preds) w at)
  where
    later : AnswerAt p action affected (k + 1) preds w → AnswerAt p action affected k (d ∷ preds) w
    later is = record {
      place = suc is.place;
      pred = is.pred;
      found = is.found;
      number = omega (arith, is.number);
      formula = is.formula;
      answer = is.answer;
      change = is.change;
    }

-- such an update stands at its predicate
pub answer-found : (p : ProgramForm) (action : ActionForm) (affected : List Bool) (w : UpdateForm)
    → (is : AnswerAt p action affected 0 p.preds w) → slice_get p.preds w.pred ≡ Some is.pred
answer-found p action affected w is =
    let same : is.place ≡ w.pred = omega (arith, is.number)
    in let At : ℕ → Type 0 = λ n. slice_get p.preds n ≡ Some is.pred
    in subst At same is.found

-- ---- the update of a predicate

find-none : {X : Type 0} (test : X → Bool) (xs : List X) → ((x : X) → Contains xs x → test x ≡ false) → find test xs ≡ None
find-none test [] fails = refl
find-none test (x ∷ xs) fails =
    cond-false (test x) (Some x) (find test xs) (fails x (Contains-here x xs))
    ∙ find-none test xs (λ y at. fails y (Contains-there x y xs at))

-- what is sought passes the filter
find-filtered : {X : Type 0} (test keep : X → Bool) (xs : List X) → ((x : X) → test x ≡ true → keep x ≡ true)
    → find test (filter keep xs) ≡ find test xs
find-filtered test keep [] kept = refl
find-filtered {X} test keep (x ∷ xs) kept =
    go (test x) refl (keep x) refl (find-filtered test keep xs kept)
  where
    go : (b : Bool) → test x ≡ b → (c : Bool) → keep x ≡ c → find test (filter keep xs) ≡ find test xs
        → find test (cond c (x ∷ filter keep xs) (filter keep xs)) ≡ cond b (Some x) (find test xs)
    go true passes true e later = cond-true (test x) (Some x) (find test (filter keep xs)) passes
    go true passes false e later = absurd (false≢true (sym e ∙ kept x passes))
    go false fails true e later = cond-false (test x) (Some x) (find test (filter keep xs)) fails ∙ later
    go false fails false e later = later

pub core-kind : (k : KindForm) → is_core_kind k ≡ true → k ≡ KCore
core-kind KCore e = refl
core-kind (KDefined vars body) e = absurd (false≢true e)

pub core-update_stays : (p : ProgramForm) (action : ActionForm) (affected : List Bool) (q : ℕ) (d : PredForm)
    → slice_get p.preds q ≡ Some d → d.kind ≡ KCore
    → update_for q (differenced_updates p action affected) ≡ update_for q action.updates
core-update_stays p action affected q d found core =
    let test : UpdateForm → Bool = λ w. eqb w.pred q
    in let keep : UpdateForm → Bool = λ w. is_core_pred (slice_get p.preds w.pred)
    in find-append test (filter keep action.updates) (answers_from p action affected 0 p.preds)
    ∙ ap (λ o. option_or (find test (filter keep action.updates)) o)
    (find-none test (answers_from p action affected 0 p.preds) (λ w at. no_answer w (answers-at p action affected 0 p.preds w at)))
    ∙ or_none (find test (filter keep action.updates))
    ∙ find-filtered test keep action.updates kept
  where
    kept : (w : UpdateForm) → eqb w.pred q ≡ true → is_core_pred (slice_get p.preds w.pred) ≡ true
    kept w same =
        let At : ℕ → Type 0 = λ n. slice_get p.preds n ≡ Some d
        in let here : slice_get p.preds w.pred ≡ Some d = subst At (sym (eqb-true w.pred q same)) found
        in ap is_core_pred here ∙ ap is_core_kind core

    no_answer : (w : UpdateForm) → AnswerAt p action affected 0 p.preds w → eqb w.pred q ≡ false
    no_answer w is =
        false_from_ne_true (eqb w.pred q) (λ same.
        let At : ℕ → Type 0 = λ n. slice_get p.preds n ≡ Some is.pred
        in let there : slice_get p.preds q ≡ Some is.pred
        = subst At (eqb-true w.pred q same) (answer-found p action affected w is)
        in let its : is.pred ≡ d = cc (there, found)
        in let Of : KindForm → Type 0 = λ k. answer_by_kind p action affected w.pred k ≡ DTo w.vars is.formula
        in let kind : is.pred.kind ≡ KCore = ap (λ (x : PredForm). x.kind) its ∙ core
        in let keeps : DKeep ≡ DTo w.vars is.formula = subst Of kind is.answer
        in cc keeps)

-- the update of a defined predicate is an answer
pub defined-update : (p : ProgramForm) (action : ActionForm) (affected : List Bool) (q : ℕ) (d : PredForm)
    → slice_get p.preds q ≡ Some d → (¬ (d.kind ≡ KCore)) → (w : UpdateForm)
    → update_for q (differenced_updates p action affected) ≡ Some w
    → AnswerAt p action affected 0 p.preds w × (w.pred ≡ q)
defined-update p action affected q d found defined w updated =
    let test : UpdateForm → Bool = λ w. eqb w.pred q
    in let keep : UpdateForm → Bool = λ w. is_core_pred (slice_get p.preds w.pred)
    in let at : (eqb w.pred q ≡ true) × Contains (differenced_updates p action affected) w
    = find-passes test (differenced_updates p action affected) w updated
    in let same : w.pred ≡ q = eqb-true w.pred q at.0
    in ⊎_elim
    (λ core. let passes : is_core_pred (slice_get p.preds w.pred) ≡ true
    = (Contains-filter_back keep action.updates w core).1
    in let At : ℕ → Type 0 = λ n. is_core_pred (slice_get p.preds n) ≡ true
    in let Of : Option PredForm → Type 0 = λ o. is_core_pred o ≡ true
    in absurd (defined (core-kind d.kind (subst Of found (subst At same passes)))))
    (λ answer. (answers-at p action affected 0 p.preds w answer, same))
    (Contains-append_cases (filter keep action.updates) (answers_from p action affected 0 p.preds) w at.1)

-- ---- steps

-- heaps of the program are heaps of the differenced one
heap-stays : (p : ProgramForm) (actions : List ActionForm) (h : Heap) → IsHeap p h → IsHeap (with_actions p actions) h
heap-stays p actions h is = record {
  individuals_differ = is.individuals_differ;
  one_extent_each = is.one_extent_each;
  tuples_fit = is.tuples_fit;
  no_mark = is.no_mark;
}

meets-stays : (p : ProgramForm) (actions : List ActionForm) (h : Heap) → MeetsProgram p h
    → MeetsProgram (with_actions p actions) h
meets-stays p actions h is = record { rules = is.rules; properties = is.properties }

step-stays : (p : ProgramForm) (actions : List ActionForm) (action : ActionForm) (affected : List Bool)
    (picked : Assignment) (old middle new : Heap) → StepsThrough p action picked old middle new
    → StepsThrough (with_actions p actions) (with_updates action (differenced_updates p action affected)) picked old middle new
step-stays p actions action affected picked old middle new is = record {
  old_heap = heap-stays p actions old is.old_heap;
  picks_individuals = is.picks_individuals;
  precondition = is.precondition;
  is_middle = is.is_middle;
  keeps = is.keeps;
  core = λ q d found core tuple fits.
      let At : Option UpdateForm → Type 0 = λ o. FollowsUpdate q middle picked o tuple new
      in subst At (sym (core-update_stays p action affected q d found core)) (is.core q d found core tuple fits);
  new_heap = heap-stays p actions new is.new_heap;
  concrete = is.concrete;
}

given-agrees : Decided → (p : ProgramForm) (actions : List ActionForm) (action : ActionForm) (affected : List Bool)
    (picked : Assignment) (old middle new : Heap) → IsValid p → Contains p.actions action
    → AreAffected p action affected → StepsThrough p action picked old middle new → IsConcrete p old
    → AgreesWithGiven (with_actions p actions) Given (with_updates action (differenced_updates p action affected)) picked
    middle new
given-agrees decided p actions action affected picked old middle new valid among marked step concrete =
    λ q d found defined w updated tuple fits.
    let it : AnswerAt p action affected 0 p.preds w × (w.pred ≡ q) = defined-update p action affected q d found defined w updated
    in let At : ℕ → Type 0 = λ n. slice_get p.preds n ≡ Some it.0.pred
    in let there : slice_get p.preds q ≡ Some it.0.pred = subst At it.1 (answer-found p action affected w it.0)
    in let same : it.0.pred ≡ d = cc (there, found)
    in let Of : ChangeForm → Type 0 = λ c. AllowsChange middle picked w.vars c tuple (Holds new q tuple)
    in let By : ℕ → Type 0 = λ n. answer_by_kind p action affected n it.0.pred.kind ≡ DTo w.vars it.0.formula
    in let answer : answer_by_kind p action affected q it.0.pred.kind ≡ DTo w.vars it.0.formula = subst By it.1 it.0.answer
    in let Its : PredForm → Type 0 = λ x. answer_by_kind p action affected q x.kind ≡ DTo w.vars it.0.formula
    in subst Of (sym it.0.change)
    (⊎_elim
    (λ core. absurd (defined core))
    (λ t. by_kind q d found t.0 t.1 t.2 w.vars it.0.formula tuple fits
    (let Kind : KindForm → Type 0 = λ k. answer_by_kind p action affected q k ≡ DTo w.vars it.0.formula
    in subst Kind t.2 (subst Its same answer)))
    (kind-cases d.kind))
  where
    by_kind : (q : ℕ) (d : PredForm) → slice_get p.preds q ≡ Some d → (vars : List ℕ) (body : Form)
        → d.kind ≡ KDefined vars body → (own : List ℕ) (f : Form) (tuple : List ℕ) → IsTuple new d.arity tuple
        → answer_for p action affected q vars body ≡ DTo own f
        → Holds new q tuple ↔ Truth middle (put_all picked own tuple) f
    by_kind q d found vars body kind own f tuple fits answer =
        let tells : Truth middle (put_all picked own tuple) f ↔ Truth new (put_all blank vars tuple) body
        = updates_tell_the_truth decided p action affected q d vars body own f picked old middle new tuple valid among marked
        found kind answer step concrete fits
        in let holds : Holds new q tuple ↔ Truth new (put_all blank vars tuple) body
        = by-definition p new step.concrete q d vars body found kind tuple fits
        in (λ t. tells.1 (holds.0 t), λ t. holds.1 (tells.0 t))

fair-step_stays : Decided → (p : ProgramForm) (actions : List ActionForm) → IsValid p
    → AllZip (IsDifferencedAction p) p.actions actions → (edge : Edge) (old new : Heap) → IsConcrete p old
    → FairStep p Recompute edge old new → FairStep (with_actions p actions) Given edge old new
fair-step_stays decided p actions valid zipped edge old new concrete is =
    let partner : (b : ActionForm) × (slice_get actions edge.action ≡ Some b) × IsDifferencedAction p is.action b
    = zip_partner (IsDifferencedAction p) p.actions actions zipped edge.action is.action is.its_action
    in let affected : List Bool = partner.2.0
    in let marked : AreAffected p is.action affected = partner.2.1
    in let At : ActionForm → Type 0 = λ b. slice_get actions edge.action ≡ Some b
    in let through : IsFairThrough p Recompute is.action is.picked old is.fair.0 new = is.fair.1
    in let among : Contains p.actions is.action = slice_get-contains p.actions edge.action is.action is.its_action
    in record {
      action = with_updates is.action (differenced_updates p is.action affected);
      picked = is.picked;
      its_action = subst At partner.2.2 partner.1;
      fair = (
        is.fair.0,
        record {
          step = step-stays p actions is.action affected is.picked old is.fair.0 new through.step;
          given = given-agrees decided p actions is.action affected is.picked old is.fair.0 new valid among marked
              through.step concrete;
          old_meets = meets-stays p actions old through.old_meets;
          new_meets = meets-stays p actions new through.new_meets;
        },
      );
    }

new-concrete : (p : ProgramForm) (mode : Mode) (edge : Edge) (old new : Heap) → FairStep p mode edge old new
    → IsConcrete p new
new-concrete p mode edge old new is = is.fair.1.step.concrete

stages-stay : Decided → (p : ProgramForm) (actions : List ActionForm) → IsValid p
    → AllZip (IsDifferencedAction p) p.actions actions → (node : ℕ) (h : Heap) (stages : List Stage) → IsConcrete p h
    → GoesOn p Recompute node h stages → GoesOn (with_actions p actions) Given node h stages
stages-stay decided p actions valid zipped node h [] concrete is = tt
stages-stay decided p actions valid zipped node h (stage ∷ later) concrete is = (
  is.0,
  is.1,
  fair-step_stays decided p actions valid zipped stage.edge h stage.heap concrete is.2,
  stages-stay decided p actions valid zipped stage.edge.to stage.heap later
      (new-concrete p Recompute stage.edge h stage.heap is.2) is.3,
)

pub runs_are_differenced : Decided → RunsAreDifferenced
runs_are_differenced decided p new start stages valid differenced run =
    let At : ProgramForm → Type 0 = λ x. IsRun x Given start stages
    in subst At (sym differenced.rest) (record {
      begins = record {
        is_heap = heap-stays p new.actions start run.begins.is_heap;
        concrete = run.begins.concrete;
        meets = meets-stays p new.actions start run.begins.meets;
      };
      goes_on = stages-stay decided p new.actions valid differenced.actions 0 start stages run.begins.concrete run.goes_on;
    })
