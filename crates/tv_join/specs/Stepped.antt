-- What is listed is followed, and what was found is joined into what is listed.
use Rattle.std.specs.Prelude.{ℕ, ◌≡◌, ◌≢◌, ◌<◌, ◌≤◌, ◌⊎◌, List, [], length, Some, All, Contains, slice_get}
use Rattle.tv_kleene.specs.declared.K3.{K3}
use Rattle.tv_kleene.specs.Kleene.{larger_of}
use Rattle.tv_model.specs.declared.program.Edge.{Edge}
use Rattle.tv_model.specs.Program.{ProgramForm, program_of}
use Rattle.tv_model.specs.Valid.{IsValid}
use Rattle.tv_structure_form.specs.StructureForm.{StructureForm}
use Rattle.tv_step_laws.specs.Budgets.{KeepsBudgets, MeetsSplits, MeetsIndividuals}
use Rattle.tv_step.specs.Setting.{IsStableIn}
use Rattle.tv_step_laws.specs.Settled.{IsSettled}
use Rattle.tv_step_laws.specs.Transfer.{AreMessageValues, AreResults, IsMessageValue, IsOpening, HasNoOpening}
use Rattle.tv_join.specs.Members.{MembersForm}
use Rattle.tv_work.specs.Analyzed.{KeepAllBudgets, Meets}
use Rattle.tv_work.specs.Explored.{AreSaid}
use Rattle.tv_work.specs.Leaving.{LeavesBy}
use Rattle.tv_work.specs.Reach.{Point, IsStartPoint}
use Rattle.tv_work.specs.Task.{TaskForm, task_of}
use Rattle.tv_work.specs.declared.task.Task.{Task}
use Rattle.tv_work.specs.Told.{told_value}
use Rattle.tv_listing.specs.ListingForm.{at_node}
use Rattle.tv_join.specs.Flags.{IsPlain}
use Rattle.tv_join.specs.Joined.{AreAtMost}
use Rattle.tv_join.specs.Listed.{AreJoins}
use Rattle.tv_join.specs.Rounds.{point, IsFollowed, IsLast}
use Rattle.tv_join.specs.State.{JoinsForm, IsAbsorbed, IsAmongFound, IsIn, IsJoinState, StandsAt, listing_of}
use Rattle.tv_join.specs.State.{members_at, total_of}
use Rattle.tv_join.specs.Task.{round_in}
use Rattle.tv_join.specs.Values.{values_at}
use Rattle.tv_join.specs.Weight.{listing_weight}
use Rattle.tv_join.specs.declared.joins.Found.{Found}
use Rattle.tv_join.specs.declared.places.Place.{Place}
use Rattle.tv_work.specs.declared.error.WorkError.{WorkError}
use Rattle.tv_work.specs.declared.error.WorkError.TheVariants.{Structures, Splits, Individuals, Memory}

-- ---- what is found

-- a structure over the program, stable under its closed rules, at one of its nodes
pub record IsPlaced (t : TaskForm) (x : Point) : Type 0 where
  pub node : x.node < length t.program.nodes
  pub plain : IsPlain t.program x.structure
  pub stable : IsStableIn t.program x.structure

abbrev pub IsPlacedFound : TaskForm → Found → Type 0
IsPlacedFound t f = IsPlaced t (record { node = f.node; structure = f.structure })

-- a result of a listed structure, along some edge to its node
abbrev pub IsResultOf : TaskForm → (nodes : List MembersForm) → Point → Type 0
IsResultOf t nodes x = IsFollowed t.program t.mode (IsIn nodes) x × IsPlaced t x

-- from what was found before to what is found now: nothing is lost, and what has the property is added
pub record Finds (P : Point → Type 0) (old new : List Found) : Type 0 where
  pub kept : (x : Point) → IsAmongFound old x → IsAmongFound new x
  pub all : (x : Point) → P x → IsAmongFound new x
  pub only : (x : Point) → IsAmongFound new x → IsAmongFound old x ⊎ P x

-- ---- steps

-- from what was found before to what is found now: nothing is lost, and only results of what is listed are
-- found
pub record Gathers (t : TaskForm) (nodes : List MembersForm) (old new : List Found) : Type 0 where
  pub kept : (x : Point) → IsAmongFound old x → IsAmongFound new x
  pub only : (x : Point) → IsAmongFound new x → IsAmongFound old x ⊎ IsResultOf t nodes x

-- the structure at that place of the edge's source is followed along the edge: its results have the property
-- at the edge's target, and the values of its messages are kept
pub record IsFollowedAt (t : TaskForm) (A : Point → Type 0) (values : List (List (List K3))) (edge : ℕ)
    (taken : Edge) (at : ℕ) (s : StructureForm) : Type 0 where
  pub results : List StructureForm
  pub are_results : AreResults t.program t.mode edge s results
  pub covered : (u : StructureForm) → Contains results u → A (point taken.to u)
  pub messages : AreMessageValues t.program edge s (values_at values edge at)
  pub budgets : KeepsBudgets t.program edge s

-- what stands at the place is followed along the edge
abbrev pub IsFollowedAlong : TaskForm → (nodes : List MembersForm) → (A : Point → Type 0)
    → (values : List (List (List K3))) → Place → (edge : ℕ) → Type 0
IsFollowedAlong t nodes A values w edge = (taken : Edge) → slice_get t.program.edges edge ≡ Some taken
    → (s : StructureForm) → StandsAt nodes w s → IsFollowedAt t A values edge taken w.at s

-- and along all edges that leave its node
abbrev pub IsFollowedFrom : TaskForm → (nodes : List MembersForm) → (A : Point → Type 0)
    → (values : List (List (List K3))) → Place → Type 0
IsFollowedFrom t nodes A values w = (edge : ℕ) → LeavesBy t.program.edges w.node edge
    → IsFollowedAlong t nodes A values w edge

-- so is all that is listed
abbrev pub AreAllFollowed : TaskForm → (nodes : List MembersForm) → (A : Point → Type 0)
    → (values : List (List (List K3))) → Type 0
AreAllFollowed t nodes A values = (w : Place) → IsFollowedFrom t nodes A values w

-- no values are changed but those of edges from the place, for it
abbrev pub ChangesFrom : TaskForm → Place → (old new : List (List (List K3))) → Type 0
ChangesFrom t w old new = (v : Place) (edge : ℕ) → LeavesBy t.program.edges v.node edge
    → (v ≡ w) ⊎ (values_at new edge v.at ≡ values_at old edge v.at)

-- there are structures at the places
abbrev pub AreIn : List MembersForm → List Place → Type 0
AreIn nodes places = (w : Place) → Contains places w → w.at < length (members_at nodes w.node).structures

-- only results of what is listed are found
abbrev pub AreResultsOf : TaskForm → (nodes : List MembersForm) → List Found → Type 0
AreResultsOf t nodes found = (x : Point) → IsAmongFound found x → IsResultOf t nodes x

-- what was found, and the values that are kept
pub record GatheredForm : Type 0 where
  pub found : List Found
  pub values : List (List (List K3))

-- what stands at the places is followed, and all that is found are its results; the values that were kept for
-- other places stay
pub record AreFollowed (t : TaskForm) (nodes : List MembersForm) (places : List Place) (now : GatheredForm)
    (before : List (List (List K3))) : Type 0 where
  pub only : AreResultsOf t nodes now.found
  pub done : (w : Place) → Contains places w → IsFollowedFrom t nodes (IsAmongFound now.found) now.values w
  pub others : (w : Place) (edge : ℕ) → LeavesBy t.program.edges w.node edge
      → Contains places w ⊎ (values_at now.values edge w.at ≡ values_at before edge w.at)

-- what is listed has changed, or was followed, and its results have the property
abbrev pub HaveBeenFollowed : TaskForm → JoinsForm → (A : Point → Type 0) → (values : List (List (List K3)))
    → Type 0
HaveBeenFollowed t j A values = (w : Place) → Contains j.changed w ⊎ IsFollowedFrom t j.nodes A values w

-- ---- the values of messages are told

-- all that the task lists was followed, so that the values which are kept can be told
abbrev pub CanBeTold : Task → JoinsForm → (values : List (List (List K3))) → Type 0
CanBeTold x joins values = IsValid (program_of x.program.now) × IsJoinState (task_of x) joins
    × (length values ≡ length x.program.now.edges)
    × AreAllFollowed (task_of x) joins.nodes (IsAbsorbed (program_of x.program.now) joins.nodes) values

-- no value falls
abbrev pub Tells : (old new : List (List K3)) → Type 0
Tells old new = (edge number : ℕ) → larger_of (told_value old edge number) (told_value new edge number)
    ≡ told_value new edge number

-- the values of the edge's messages at the structure are told
abbrev pub AreToldOf : ProgramForm → (told : List (List K3)) → (edge : ℕ) → StructureForm → Type 0
AreToldOf p told edge s = (number : ℕ) (k : K3) → IsMessageValue p edge s number k
    → larger_of k (told_value told edge number) ≡ told_value told edge number

-- and at all structures that are listed at its source
abbrev pub IsToldAlong : TaskForm → (nodes : List MembersForm) → (told : List (List K3)) → (edge : ℕ) → Type 0
IsToldAlong t nodes told edge = (taken : Edge) → slice_get t.program.edges edge ≡ Some taken
    → (s : StructureForm) → IsIn nodes (point taken.from s) → AreToldOf t.program told edge s

-- the step of the structure along the edge is done: its results have the property at the edge's target, and
-- the values of its messages are told
pub record IsDoneAlong (t : TaskForm) (A : Point → Type 0) (told : List (List K3)) (edge : ℕ) (taken : Edge)
    (s : StructureForm) : Type 0 where
  pub results : List StructureForm
  pub are_results : AreResults t.program t.mode edge s results
  pub covered : (u : StructureForm) → Contains results u → A (point taken.to u)
  pub values : AreToldOf t.program told edge s
  pub budgets : KeepsBudgets t.program edge s

-- all that is listed is followed along all edges
pub record AreStepped (t : TaskForm) (nodes : List MembersForm) (A : Point → Type 0)
    (told : List (List K3)) : Type
    0 where
  pub done : (edge : ℕ) (taken : Edge) → slice_get t.program.edges edge ≡ Some taken → (s : StructureForm)
      → IsIn nodes (point taken.from s) → IsDoneAlong t A told edge taken s
  pub said : AreSaid t (listing_of nodes) told

-- ---- what was found is joined into what is listed

-- what is listed are the joins by key of what was listed and what was found
abbrev pub AreJoinsOf : TaskForm → (old new : List MembersForm) → List Found → Type 0
AreJoinsOf t old new found =
    (k : ℕ) → AreJoins t.program (λ s. IsIn old (point k s) ⊎ IsAmongFound found (point k s))
    (at_node (listing_of new) k)

-- nothing changed, or what is listed has risen
abbrev pub Rises : (old : List (List StructureForm)) → (new : JoinsForm) → Type 0
Rises old new = ((new.changed ≡ []) × (listing_of new.nodes ≡ old))
    ⊎ ((new.changed ≢ []) × (listing_weight old < listing_weight (listing_of new.nodes)))

-- what stands at a place whose change isn't noted stood there before
abbrev pub Stay : (old : List MembersForm) → (new : JoinsForm) → Type 0
Stay old new =
    (w : Place) (s : StructureForm) → StandsAt new.nodes w s → Contains new.changed w ⊎ StandsAt old w s

pub record HaveMet (t : TaskForm) (old : JoinsForm) (found : List Found) (new : JoinsForm) : Type 0 where
  pub kept : IsJoinState t new
  pub joins : AreJoinsOf t old.nodes new.nodes found
  pub rises : Rises (listing_of old.nodes) new
  pub stay : Stay old.nodes new

-- ---- openings

-- it is told whether the structure has an opening
abbrev pub IsOpenable : ProgramForm → StructureForm → Type 0
IsOpenable p s = HasNoOpening p s ⊎ ((u : StructureForm) × IsOpening p s u)

-- the opening of the structure at the start node
pub record IsOpeningPoint (t : TaskForm) (s : StructureForm) (x : Point) : Type 0 where
  pub node : x.node ≡ 0
  pub opening : IsOpening t.program s x.structure
  pub settled : IsSettled t.program x.structure

-- the opening of the structure, if there is one, is found beside what was found before
pub record FindsOpening (t : TaskForm) (s : StructureForm) (old new : List Found) : Type 0 where
  pub kept : (x : Point) → IsAmongFound old x → IsAmongFound new x
  pub all : (x : Point) → x.node ≡ 0 → IsOpening t.program s x.structure → IsAmongFound new x
  pub only : (x : Point) → IsAmongFound new x → IsAmongFound old x ⊎ IsOpeningPoint t s x

-- exactly the openings of the structures are found
pub record AreOpenings (t : TaskForm) (structures : List StructureForm) (found : List Found) : Type 0 where
  pub any : All (IsOpenable t.program) structures
  pub all : (x : Point) → IsStartPoint t.program structures x → IsAmongFound found x
  pub only : (x : Point) → IsAmongFound found x
      → IsStartPoint t.program structures x × IsSettled t.program x.structure

-- ---- rounds

-- each opening of an initial structure is absorbed at the start node
pub record AreOpened (t : TaskForm) (A : Point → Type 0) : Type 0 where
  pub any : All (IsOpenable t.program) t.initial
  pub absorbed : (x : Point) → IsStartPoint t.program t.initial x → A x

-- what the round lists is listed, and no round up to this one lists too many
pub record IsAtRound (t : TaskForm) (round : ℕ) (j : JoinsForm) : Type 0 where
  pub kept : IsJoinState t j
  pub listed : (x : Point) → IsIn j.nodes x → round_in t round x
  pub all : (x : Point) → round_in t round x → IsIn j.nodes x
  pub within : total_of j.nodes ≤ t.max
  pub opened : AreOpened t (IsAbsorbed t.program j.nodes)
  pub budgets : (before : ℕ) → before < round → KeepAllBudgets t.program (round_in t before)
  pub rounds : (before : ℕ) → before ≤ round → AreAtMost t.max (round_in t before)

-- what a round lists is listed, and what hasn't changed since the round before was followed, and its results
-- are absorbed
pub record IsAtSomeRound (t : TaskForm) (j : JoinsForm) (values : List (List (List K3))) : Type 0 where
  pub round : ℕ
  pub at : IsAtRound t round j
  pub followed : HaveBeenFollowed t j (IsAbsorbed t.program j.nodes) values

-- the next round lists the same
pub record IsAtLastRound (t : TaskForm) (j : JoinsForm) (told : List (List K3)) : Type 0 where
  pub round : ℕ
  pub at : IsAtRound t round j
  pub last : IsLast t.program t.mode t.initial round
  pub budgets : KeepAllBudgets t.program (round_in t round)
  pub stepped : AreStepped t j.nodes (IsAbsorbed t.program j.nodes) told

-- one round on: nothing changed, or what is listed has risen
pub record IsRoundOn (t : TaskForm) (old new : JoinsForm) (values : List (List (List K3))) : Type 0 where
  pub at : IsAtSomeRound t new values
  pub rises : Rises (listing_of old.nodes) new

-- ---- causes

-- why a structure's steps have no answer
abbrev pub IsFollowCause : ProgramForm → (Point → Type 0) → WorkError → Type 0
IsFollowCause p P Structures = ⊥
IsFollowCause p P Splits = Meets p (MeetsSplits p) P
IsFollowCause p P Individuals = Meets p (MeetsIndividuals p) P
IsFollowCause p P Memory = Unit {0}

-- why what was found isn't all listed
abbrev pub IsMeetingCause : TaskForm → (old : JoinsForm) → List Found → (new : JoinsForm) → WorkError → Type 0
IsMeetingCause t old found new Structures = HaveMet t old found new × (t.max < total_of new.nodes)
IsMeetingCause t old found new Splits = ⊥
IsMeetingCause t old found new Individuals = ⊥
IsMeetingCause t old found new Memory = Unit {0}
