-- States, one after the other.
use Rattle.std.proofs.Common.{ℕ, suc, zero, ◌≡◌, ◌<◌, ◌≤◌, ◌+◌, ◌-◌, ◌++◌, List, [], ◌∷◌, length, map, take}
use Rattle.std.proofs.Common.{take_all, get_or, Some, None, refl, sym, ap, subst, ◌∙◌, arith, All}
use Rattle.std.specs.Prelude.{slice_get}
use Rattle.std.proofs.lemmas.List.{length-append, take_more}
use Rattle.std.proofs.lemmas.List.Elements.{All-get_or, All-push}
use Rattle.std.proofs.lemmas.Option.{slice_get-get_or}
use Rattle.tv_model.specs.Program.{ProgramForm, PredForm, pred_of, program_of}
use Rattle.tv_model.specs.Valid.{IsValid}
use Rattle.tv_model.specs.declared.program.Program.{Program}
use Rattle.tv_model.proofs.Lists.{map-compose}
use Rattle.tv_replay_laws.specs.Runs.{ShowsGivenRun, ShowsRecomputedRun}
use Rattle.tv_replay_laws.proofs.OneEnding.{goes-through, starts-at}
use Rattle.tv_replay_laws.proofs.Shown.{replays_show_runs}
use Rattle.tv_replay_laws.specs.States.{AreNextStates, IsFirstState, IsNextState, IsReplay, standing}
use Rattle.tv_replay_laws.specs.Stuck.{IsFirstFailure, GoesThrough, IsReplayCause, Taken, last_of, start_at}
use Rattle.tv_replay_laws.specs.declared.state.ReplayError.{ReplayError}
use Rattle.tv_replay_laws.specs.declared.state.ReplayError.TheVariants as error
use Rattle.tv_replay_laws.specs.declared.state.State.{State}
use Rattle.tv_replay_step.specs.Stepped.{Halts}
use Rattle.tv_replay_step.specs.declared.moved.Halt.{Halt}
use Rattle.tv_structure_form.specs.StructureForm.{StructureForm, IsOver, IsStructure}
use Rattle.tv_trace.specs.declared.trace.Move.{Move}
use Rattle.tv_two_valued.specs.TwoValued.{IsTwoValued}
use Rattle.tv_replay.specs.Judging.{IsFaultOf, IsStateAt, program_in}
use Rattle.tv_replay.specs.declared.states.Judge.{Judge}

abbrev last_state : State → List State → State
last_state first [] = first
last_state first (x ∷ later) = last_state x later

next-more : (p : ProgramForm) (listing : List (List StructureForm)) (before : State) (moves : List Move) (later : List State) (m : Move) (x : State)
    → AreNextStates p listing before moves later → IsNextState p listing m (last_state before later) x
    → AreNextStates p listing before (moves ++ m ∷ []) (later ++ x ∷ [])
next-more p listing before [] [] m x are next = (next, tt)
next-more p listing before [] (y ∷ later) m x are next = absurd are
next-more p listing before (n ∷ moves) [] m x are next = absurd are
next-more p listing before (n ∷ moves) (y ∷ later) m x are next = (are.0, next-more p listing y moves later m x are.1 next)

last-at : (first : State) (later : List State) (n : ℕ) (d : State) → length later ≡ n → get_or (first ∷ later) n d ≡ last_state first later
last-at first [] zero d long = refl
last-at first [] (suc n) d long = absurd (omega (arith, long))
last-at first (x ∷ later) zero d long = absurd (omega (arith, long))
last-at first (x ∷ later) (suc n) d long = last-at x later n d (omega (arith, long))

last-standing : (before : State) (later : List State) → last_of (standing before) (map standing later) ≡ standing (last_state before later)
last-standing before [] = refl
last-standing before (x ∷ later) = last-standing x later

-- the first n moves are made
pub record SoFar (judge : Judge) (initial : List StructureForm) (start : StructureForm) (moves : List Move) (n : ℕ) (states : List State)
    : Type 0 where
  pub first : State
  pub later : List State
  pub are : states ≡ first ∷ later
  pub begins : IsFirstState (program_in judge) initial start judge.listing.now first
  pub goes_on : AreNextStates (program_in judge) judge.listing.now first (take n moves) later
  pub count : length later ≡ n
  pub at : All (IsStateAt judge) states

module _ (judge : Judge) (initial : List StructureForm) (start : StructureForm) (moves : List Move) where
  pub begun : (states : List State) (x : State) → states ≡ [] → IsFirstState (program_in judge) initial start judge.listing.now x → IsStateAt judge x
      → SoFar judge initial start moves 0 (states ++ x ∷ [])
  begun states x none begins at = record {
    first = x;
    later = [];
    are = ap (λ (xs : List State). xs ++ x ∷ []) none;
    begins = begins;
    goes_on = tt;
    count = refl;
    at = All-push (IsStateAt judge) states x (subst (All (IsStateAt judge)) (sym none) (λ k d lt. absurd (omega (arith, lt)))) at;
  }

  module _ (n : ℕ) (states : List State) (so : SoFar judge initial start moves n states) where
    pub long : length states ≡ n + 1
    long = let count = so.count in ap length so.are ∙ omega (arith, count)

    last-is : (before : State) → before ≡ get_or states n before → before ≡ last_state so.first so.later
    last-is before is =
        is ∙ ap (λ (xs : List State). get_or xs n before) so.are ∙ last-at so.first so.later n before so.count

    pub at-last : (before : State) → before ≡ get_or states n before → IsStateAt judge before
    at-last before is =
        subst (IsStateAt judge) (sym is) (All-get_or (IsStateAt judge) states n before (let l = long in omega (arith, l)) so.at)

    pub goes-more : (before : State) (m : Move) (x : State) → before ≡ get_or states n before → n < length moves → m ≡ get_or moves n m
        → IsNextState (program_in judge) judge.listing.now m before x → IsStateAt judge x → SoFar judge initial start moves (n + 1) (states ++ x ∷ [])
    goes-more before m x is below m_is next at = record {
      first = so.first;
      later = so.later ++ x ∷ [];
      are = ap (λ (xs : List State). xs ++ x ∷ []) so.are;
      begins = so.begins;
      goes_on = subst (λ ms. AreNextStates (program_in judge) judge.listing.now so.first ms (so.later ++ x ∷ [])) (sym more)
          (next-more (program_in judge) judge.listing.now so.first (take n moves) so.later m x so.goes_on
          (subst (λ y. IsNextState (program_in judge) judge.listing.now m y x) (last-is before is) next));
      count = length-append so.later (x ∷ []) ∙ (let count = so.count in omega (arith, count));
      at = All-push (IsStateAt judge) states x so.at at;
    }
      where
        more : take (n + 1) moves ≡ take n moves ++ m ∷ []
        more = take_more moves n m below ∙ ap (λ (y : Move). take n moves ++ y ∷ []) (sym m_is)

    pub all-made : length moves ≤ n → IsReplay (program_in judge) initial start moves judge.listing.now states
    all-made whole = record {
      first = so.first;
      later = so.later;
      are = so.are;
      begins = so.begins;
      goes_on = subst (λ ms. AreNextStates (program_in judge) judge.listing.now so.first ms so.later) (take_all n moves whole) so.goes_on;
    }

    pub stuck : (before : State) (m : Move) (halt : Halt) (e : ReplayError) → before ≡ get_or states n before → n < length moves → m ≡ get_or moves n m
        → Halts (program_in judge) m (standing before) halt → IsFaultOf n halt e → IsReplayCause (program_in judge) start moves e
    stuck before m halt error.Memory is below m_is halts fault = tt
    stuck before m halt (error.Stuck step w) is below m_is halts fault =
        let fails : (t : Taken (program_in judge) m) × IsFirstFailure (standing before) m t w = subst (Halts (program_in judge) m (standing before)) fault.0 halts
        in let number : step - 1 ≡ n = let number_is = fault.1 in omega (arith, number_is)
        in record {
          before = map standing so.later;
          through = subst (λ k. GoesThrough (program_in judge) (start_at start) (take k moves) (map standing so.later)) (sym number)
              (subst (λ at. GoesThrough (program_in judge) at (take n moves) (map standing so.later)) start-is
              (goes-through (program_in judge) judge.listing.now so.first (take n moves) so.later so.goes_on));
          move = m;
          there = ap (slice_get moves) number ∙ slice_get-get_or moves n m below ∙ ap Some (sym m_is);
          counted = let number_is = fault.1 in omega (arith, number_is);
          taken = fails.0;
          fails = subst (λ at. IsFirstFailure at m fails.0 w)
              (ap standing (last-is before is) ∙ sym (last-standing so.first so.later) ∙ ap (λ at. last_of at (map standing so.later)) start-is)
              fails.1;
        }
      where
        start-is : standing so.first ≡ start_at start
        start-is = starts-at (program_in judge) initial start judge.listing.now so.first so.begins

-- a replay shows runs
pub shows : (program : Program) → IsValid (program_of program) → (initial : List StructureForm) (start : StructureForm) → IsStructure start
    → IsTwoValued start → IsOver program.vocab start → start.fresh ≡ None → (moves : List Move) (listing : List (List StructureForm)) (states : List State)
    → IsReplay (program_of program) initial start moves listing states
    → ShowsGivenRun (program_of program) initial moves states × ShowsRecomputedRun (program_of program) initial moves states
shows program valid initial start is two over unmarked moves listing states replay =
    replays_show_runs (program_of program) valid initial start is two
    (over ∙ sym (map-compose pred_of (λ (d : PredForm). d.arity) program.vocab.preds), unmarked) moves listing states replay
