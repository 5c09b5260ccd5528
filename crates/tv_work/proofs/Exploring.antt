-- Where all is explored, the listing is exactly what is reached, and it is closed.
use Rattle.std.proofs.Common.{ℕ, ◌≡◌, ◌≢◌, List, [], ◌∷◌, refl, sym, subst}
use Rattle.std.specs.Prelude.{All, Any, Contains}
use Rattle.std.specs.List.Sorted.{IsStrictlySortedBy}
use Rattle.std.proofs.lemmas.List.Elements.{All-contains, All-weaker}
use Rattle.tv_kleene.specs.declared.K3.{K3}
use Rattle.tv_kleene.specs.declared.K3.TheVariants.{No}
use Rattle.tv_kleene.specs.Kleene.{larger_of}
use Rattle.tv_model.specs.declared.program.Edge.{Edge}
use Rattle.tv_model.specs.declared.program.Program.{Program}
use Rattle.tv_model.specs.Program.{program_of}
use Rattle.tv_model.specs.Valid.{IsValid}
use Rattle.tv_embedding_laws.proofs.EmbeddingLaws.{EmbedsOn-id}
use Rattle.tv_listing.specs.ListingForm.{at_node}
use Rattle.tv_listing.specs.declared.analysis.MessageLine.{MessageLine}
use Rattle.tv_struct.specs.Order.{structure_cmp}
use Rattle.tv_structure_form.specs.StructureForm.{StructureForm, IsStructure, IsOver, structure_of}
use Rattle.tv_step_laws.specs.Closed.{IsClosed, IsCovered, IsOpened, IsFollowed, CoversRuns}
use Rattle.tv_step_laws.specs.Transfer.{IsOpening}
use Rattle.tv_step_laws.proofs.Exact.{results-once}
use Rattle.tv_step_laws.proofs.Runs.{closed_listings_cover_runs}
use Rattle.tv_work.specs.Analyzed.{IsSaid, IsAnalysis}
use Rattle.tv_work.specs.Explored.{IsExplored, IsOpenedIn, IsDoneAlong}
use Rattle.tv_work.specs.Reach.{Point, IsListed, IsStartPoint, IsDerivation, Leads}
use Rattle.tv_work.specs.Task.{TaskForm, reached_in}
use Rattle.tv_work.specs.Told.{told_value, AreLines}
use Rattle.tv_work.proofs.Reporting.{covered-opened, lines-reported, told-followed}
use Rattle.tv_work.proofs.Saying.{said-weaker}
use Rattle.tv_work.proofs.Sorting.{all-over}

-- a structure that is listed covers itself
pub covers-itself : (ts : List StructureForm) (s : StructureForm) → Contains ts s → IsCovered ts s
covers-itself ts s (k, within, at)
    = (k, s, within, at, ((λ u. u), EmbedsOn-id (λ pred. Unit {0}) (structure_of s)))

module _ (t : TaskForm) (valid : IsValid t.program) (listing : List (List StructureForm))
    (told : List (List K3))
    (ex : IsExplored t listing told) where
  -- ---- what is reached is listed

  start-listed : (x : Point) → IsStartPoint t.program t.initial x → IsListed listing x
  start-listed x start = by start.opens
    where
      by : Any (λ s. IsOpening t.program s x.structure) t.initial → IsListed listing x
      by (k, s, within, at, opening) = subst (λ n. Contains (at_node listing n) x.structure) (sym start.node)
          ((All-contains (IsOpenedIn t listing) t.initial s ex.opened (k, within, at)).listed x.structure
          opening)

  next-listed : (edge : ℕ) (taken : Edge) (x y : Point) → Leads t.program t.mode edge taken x y
      → IsListed listing x
      → IsListed listing y
  next-listed edge taken x y leads has =
      let done = ex.done x has edge taken leads.is_edge leads.leaves
      in let same = results-once t.program valid t.mode edge x.structure leads.result.0 done.results
      leads.result.1 done.are_results
      in subst (λ n. Contains (at_node listing n) y.structure) (sym leads.enters)
      (done.listed y.structure (subst (λ rs. Contains rs y.structure) same leads.result.2))

  derived-listed : (before : List Point) (x : Point) → IsDerivation t.program t.mode t.initial x before
      → IsListed listing x
  derived-listed [] x start = start-listed x start
  derived-listed (b ∷ before) x ((edge, taken, leads), derivation) =
      next-listed edge taken b x leads (derived-listed before b derivation)

  pub reached-listed : (x : Point) → reached_in t x → IsListed listing x
  reached-listed x is = derived-listed is.before x is.derivation

  -- ---- lines

  -- what is said at a reached structure is told
  said-told : (edge number : ℕ) (k : K3) → IsSaid t.program (reached_in t) edge number k
      → larger_of k (told_value told edge number) ≡ told_value told edge number
  said-told edge number k said =
      let source = said.source
      in (ex.done said.at (reached-listed said.at source.has) edge source.taken source.is_edge
      source.leaves).values number k said.value

  told-said : (edge number : ℕ) → told_value told edge number ≢ No
      → IsSaid t.program (reached_in t) edge number (told_value told edge number)
  told-said edge number some = said-weaker t.program (IsListed listing) (reached_in t) edge number
      (told_value told edge number)
      ex.reached (ex.said.said edge number some)

  module _ (lines : List MessageLine) (are : AreLines told lines) where
    pub explored-analysis : All (IsStrictlySortedBy structure_cmp) listing
        → IsAnalysis t.program t.mode t.initial t.max listing lines
    explored-analysis sorted = record {
      nodes = ex.nodes;
      sorted = sorted;
      exact = λ node s. (
        ex.reached (record { node = node; structure = s }),
        reached-listed (record { node = node; structure = s }),
      );
      within = ex.within;
      reported = lines-reported t.program told lines are (reached_in t) said-told told-said;
      ordered = are.ordered;
      budgets = λ edge x source.
          (ex.done x (reached-listed x source.has) edge source.taken source.is_edge source.leaves).budgets;
    }

    -- ---- closed

    opened : (s : StructureForm) → IsOpenedIn t listing s → IsOpened t.program (at_node listing 0) s
    opened s is = covered-opened t.program (at_node listing 0) s is.any
        (λ u opening. covers-itself (at_node listing 0) u (is.listed u opening))

    followed : (edge : ℕ) (taken : Edge) (s : StructureForm) → IsDoneAlong t listing told edge taken s
        → IsFollowed t.program t.mode edge s (at_node listing taken.to) lines
    followed edge taken s done =
        told-followed t.program told lines are t.mode edge s (at_node listing taken.to) done.results
        done.are_results (λ u has. covers-itself (at_node listing taken.to) u (done.listed u has)) done.values

    pub explored-closed : IsClosed t.program t.mode t.initial listing lines
    explored-closed = record {
      opened = All-weaker (IsOpenedIn t listing) (IsOpened t.program (at_node listing 0)) opened t.initial
          ex.opened;
      followed = λ edge taken at s has.
          followed edge taken s (ex.done (record { node = taken.from; structure = s }) has edge taken at
          refl);
    }

    pub explored-runs : CoversRuns t.program t.mode t.initial listing lines
    explored-runs = closed_listings_cover_runs t.program t.mode t.initial listing lines valid explored-closed

-- what is listed is over the vocabulary
pub explored-over : (program : Program) (t : TaskForm) (listing : List (List StructureForm))
    (told : List (List K3))
    → t.program ≡ program_of program → IsExplored t listing told
    → All (All (λ s. IsStructure s × IsOver program.vocab s)) listing
explored-over program t listing told is ex =
    all-over program t listing is (λ x has.
    let settled = ex.settled x has
    in (settled.is, settled.shaped))
