-- How a search advances.
use Rattle.std.proofs.Common.{ℕ, ◌≡◌, ◌<◌, ◌≤◌, ◌⊎◌, inl, inr, List, [], ◌∷◌, length, get_or, replicate}
use Rattle.std.proofs.Common.{zero, suc, None, Some, refl, sym, ap, subst, ◌∙◌, arith}
use Rattle.std.specs.Prelude.{All, Contains, sum_by, slice_get}
use Rattle.std.proofs.lemmas.Bool.{cases_lt}
use Rattle.std.proofs.lemmas.List.{length-replicate, get_or-replicate, get_or_default, get_or_past}
use Rattle.std.proofs.lemmas.List.Elements.{All-contains, All-weaker}
use Rattle.std.proofs.lemmas.List.Sums.{sum_by-cons}
use Rattle.std.proofs.lemmas.Option.{same_Some, slice_get-get_or, slice_get_within, get_or_from_slice_get}
use Rattle.tv_kleene.specs.declared.K3.{K3}
use Rattle.tv_kleene.specs.Kleene.{larger_of}
use Rattle.tv_model.specs.declared.program.Edge.{Edge}
use Rattle.tv_model.proofs.Lists.{Contains-none, slice_get-contains}
use Rattle.tv_listing.specs.ListingForm.{at_node}
use Rattle.tv_structure_form.specs.StructureForm.{StructureForm}
use Rattle.tv_step_laws.specs.Budgets.{KeepsBudgets}
use Rattle.tv_step_laws.specs.Settled.{IsSettled}
use Rattle.tv_step_laws.specs.Transfer.{AreResults, IsMessageValue, IsOpening}
use Rattle.tv_work.specs.Explored.{IsSearchState, AreSaid, Advances, IsOpenedIn, AreStepsDone, IsDoneAlong}
use Rattle.tv_work.specs.Explored.{AreDone, DoesAlong, Does, KeepsListed, IsExplored}
use Rattle.tv_work.specs.Reach.{Point, IsListed}
use Rattle.tv_work.specs.Search.{SearchForm, StandsFor, Waits, IsOnce, IsWithin, Grows, ListsOnly}
use Rattle.tv_work.specs.Task.{TaskForm, reached_in, reached_within}
use Rattle.tv_work.specs.Told.{told_value}
use Rattle.tv_work.specs.declared.search.Waiting.{Waiting}
use Rattle.tv_work.proofs.Growing.{grows-on, waits-on}
use Rattle.tv_work.proofs.Larger.{larger-self, larger-trans}
use Rattle.tv_work.proofs.Within.{within-reached, within-kept, start-within, step-within}

-- ---- what is listed

pub nothing-listed : (nodes : ℕ) (x : Point) → ¬ IsListed (replicate nodes []) x
nothing-listed nodes x has = Contains-none x.structure
    (subst (λ l. Contains l x.structure) (none (cases_lt x.node nodes)) has)
  where
    none : (x.node < nodes) ⊎ (nodes ≤ x.node) → at_node (replicate nodes []) x.node ≡ []
    none (inl lt) = get_or-replicate {A = List StructureForm} nodes x.node [] [] lt
    none (inr past) = get_or_past (replicate {A = List StructureForm} nodes []) x.node []
        (rw (length-replicate {A = List StructureForm} nodes []) past)

pub stands-listed : (listing : List (List StructureForm)) (w : Waiting) (x : Point) → StandsFor listing w x
    → IsListed listing x
stands-listed listing w x stands =
    subst (λ n. Contains (at_node listing n) x.structure) stands.node
    (slice_get-contains (at_node listing w.node) w.place x.structure stands.structure)

-- one place stands for one point
pub stands-once : (listing : List (List StructureForm)) (w : Waiting) (x y : Point) → StandsFor listing w x
    → StandsFor listing w y → x ≡ y
stands-once listing w x y a b =
    same x y (sym a.node ∙ b.node) (same_Some x.structure y.structure (sym a.structure ∙ b.structure))
  where
    same : (u v : Point) → u.node ≡ v.node → u.structure ≡ v.structure → u ≡ v
    same u v n s = rw (n, s) refl

-- ---- what a search keeps

pub kept-none : (t : TaskForm)
    → IsSearchState t (record { listing = replicate (length t.program.nodes) []; waiting = []; count = 0 })
kept-none t = record {
  nodes = length-replicate (length t.program.nodes) [];
  within = record { count = sym (none (length t.program.nodes)); most = omega arith };
  reached = λ x has. absurd (nothing-listed (length t.program.nodes) x has);
  settled = λ x has. absurd (nothing-listed (length t.program.nodes) x has);
}
  where
    none : (n : ℕ) → sum_by length (replicate {A = List StructureForm} n []) ≡ 0
    none zero = refl
    none (suc n) = omega (arith, sum_by-cons {X = List StructureForm} length [] (replicate n []), none n)

-- what is new is reached through what was listed, and settled
pub kept-more : (t : TaskForm) (P : Point → Type 0) (old new : SearchForm) → IsSearchState t old → Grows old new
    → IsWithin t.max new
    → ListsOnly P old new → ((x : Point) → P x → reached_within t old.listing x)
    → ((x : Point) → P x → IsSettled t.program x.structure)
    → IsSearchState t new
kept-more t P old new kept grows within only reached settled = record {
  nodes = grows.nodes ∙ kept.nodes;
  within = within;
  reached = λ x has. r x (only x has);
  settled = λ x has. s x (only x has);
}
  where
    on : (x : Point) → reached_within t old.listing x → reached_within t new.listing x
    on = within-kept t old.listing new.listing grows.kept

    r : (x : Point) → IsListed old.listing x ⊎ P x → reached_within t new.listing x
    r x (inl has) = on x (kept.reached x has)
    r x (inr is) = on x (reached x is)

    s : (x : Point) → IsListed old.listing x ⊎ P x → IsSettled t.program x.structure
    s x (inl has) = kept.settled x has
    s x (inr is) = settled x is

-- ---- a start

pub start-reached : (t : TaskForm) (s u : StructureForm) → Contains t.initial s → IsOpening t.program s u
    → reached_in t (record { node = 0; structure = u })
start-reached t s u has opening = within-reached t [] (record { node = 0; structure = u })
    (start-within t [] s u has opening)

module _ (t : TaskForm) (s u : StructureForm) (initial : Contains t.initial s)
    (opening : IsOpening t.program s u)
    (is_settled : IsSettled t.program u) where
  pub open-within : (old : SearchForm) → IsSearchState t old → (x : Point)
      → IsListed old.listing x ⊎ (x ≡ record { node = 0; structure = u }) → reached_within t old.listing x
  open-within old kept x (inl has) = kept.reached x has
  open-within old kept x (inr e) = subst (reached_within t old.listing) (sym e)
      (start-within t old.listing s u initial opening)

  pub open-kept : (old new : SearchForm) → IsSearchState t old → Grows old new
      → ListsOnly (λ x. x ≡ record { node = 0; structure = u }) old new → IsWithin t.max new → IsSearchState t new
  open-kept old new kept grows only within = kept-more t (λ x. x ≡ record { node = 0; structure = u }) old new
      kept grows within only
      (λ x e. open-within old kept x (inr e)) (λ x e. subst (λ (y : Point). IsSettled t.program y.structure)
      (sym e) is_settled)

pub opened-kept : (t : TaskForm) (old new : List (List StructureForm)) → KeepsListed old new
    → (s : StructureForm)
    → IsOpenedIn t old s → IsOpenedIn t new s
opened-kept t old new keeps s opened = record {
  listed = λ u is. keeps (record { node = 0; structure = u }) (opened.listed u is);
  any = opened.any;
}

-- ---- what is done stays done

abbrev pub Rises : (old new : List (List K3)) → Type 0
Rises old new = (edge number : ℕ) → larger_of (told_value old edge number) (told_value new edge number)
    ≡ told_value new edge number

pub rises-none : (told : List (List K3)) → Rises told told
rises-none told edge number = larger-self (told_value told edge number)

module _ (t : TaskForm) (old new : List (List StructureForm)) (told more : List (List K3))
    (keeps : KeepsListed old new)
    (rises : Rises told more) where
  pub along-kept : (edge : ℕ) (taken : Edge) (s : StructureForm) → IsDoneAlong t old told edge taken s
      → IsDoneAlong t new more edge taken s
  along-kept edge taken s done = record {
    results = done.results;
    are_results = done.are_results;
    listed = λ u has. keeps (record { node = taken.to; structure = u }) (done.listed u has);
    values = λ number k is. larger-trans k (told_value told edge number) (told_value more edge number)
        (done.values number k is) (rises edge number);
    budgets = done.budgets;
  }

  pub done-kept : (x : Point) → AreStepsDone t old told x → AreStepsDone t new more x
  done-kept x done edge taken at leaves = along-kept edge taken x.structure (done edge taken at leaves)

pub advances-on : (a b c : SearchForm) (k l m : List (List K3)) → Advances a k b l → Advances b l c m
    → Advances a k c m
advances-on a b c k l m first second = record {
  grows = grows-on a b c first.grows second.grows;
  rises = λ edge number. larger-trans (told_value k edge number) (told_value l edge number)
      (told_value m edge number)
      (first.rises edge number) (second.rises edge number);
}

-- ---- what waits

-- at first all that is listed waits
pub all-wait : (t : TaskForm) (nodes : ℕ) (s : SearchForm) (told : List (List K3))
    → Grows (record { listing = replicate nodes []; waiting = []; count = 0 }) s → AreDone t s told
all-wait t nodes s told grows x has = by (grows.fresh x has)
  where
    by : IsListed (replicate nodes []) x ⊎ Waits s x → Waits s x ⊎ AreStepsDone t s.listing told x
    by (inl none) = absurd (nothing-listed nodes x none)
    by (inr waits) = inl waits

-- the search before one that waits was taken out
abbrev pub with_first : SearchForm → Waiting → SearchForm
with_first s w = record { listing = s.listing; waiting = w ∷ s.waiting; count = s.count }

-- one that waits is taken out and done
pub done-next : (t : TaskForm) (popped new : SearchForm) (told more : List (List K3)) (w : Waiting)
    → AreDone t (with_first popped w) told
    → Advances popped told new more → Does t w popped new more → AreDone t new more
done-next t popped new told more w done advances does x has = by (advances.grows.fresh x has)
  where
    one-of : (v : Waiting) → Contains (w ∷ popped.waiting) v → Contains popped.waiting v ⊎ (w ≡ v)
    one-of v (zero, inside, e) = inr e
    one-of v (suc k, inside, e) = inl (k, omega (arith, inside), e)

    waited : (v : Waiting) → Contains popped.waiting v ⊎ (w ≡ v) → StandsFor popped.listing v x
        → Waits new x ⊎ AreStepsDone t new.listing more x
    waited v (inl still) stands = inl (waits-on popped new x advances.grows (v, still, stands))
    waited v (inr e) stands = inr (does x (subst (λ u. StandsFor popped.listing u x) (sym e) stands))

    before : Waits (with_first popped w) x ⊎ AreStepsDone t popped.listing told x → Waits new x
        ⊎ AreStepsDone t new.listing more x
    before (inl (v, has_it, stands)) = waited v (one-of v has_it) stands
    before (inr is) = inr (done-kept t popped.listing new.listing told more advances.grows.kept advances.rises
        x is)

    by : IsListed popped.listing x ⊎ Waits new x → Waits new x ⊎ AreStepsDone t new.listing more x
    by (inl listed) = before (done x listed)
    by (inr waits) = inl waits

-- where nothing waits all is done
pub all-done : (t : TaskForm) (s : SearchForm) (told : List (List K3)) → AreDone t s told → s.waiting ≡ []
    → (x : Point) → IsListed s.listing x → AreStepsDone t s.listing told x
all-done t s told done none x has = by (done x has)
  where
    by : Waits s x ⊎ AreStepsDone t s.listing told x → AreStepsDone t s.listing told x
    by (inl (w, waits, stands)) = absurd (Contains-none w (subst (λ l. Contains l w) none waits))
    by (inr is) = is

-- ---- following

-- the target of the edge of this number
abbrev pub target_at : List Edge → (edge : ℕ) → ℕ
target_at edges edge = (get_or edges edge (record { from = 0; action = 0; to = 0 })).to

pub target-is : (edges same : List Edge) (edge : ℕ) (taken : Edge) → same ≡ edges → slice_get edges edge
    ≡ Some taken
    → target_at same edge ≡ taken.to
target-is edges same edge taken e at =
    ap (λ xs. target_at xs edge) e
    ∙ ap (λ (x : Edge). x.to)
    (get_or_from_slice_get edges edge taken (record { from = 0; action = 0; to = 0 }) at)

-- a listed structure is followed along an edge that leaves its node
module _ (t : TaskForm) (edge to : ℕ) (taken : Edge) (x : Point) (results : List StructureForm)
    (is_edge : slice_get t.program.edges edge ≡ Some taken) (leaves : taken.from ≡ x.node)
    (enters : to ≡ taken.to)
    (are : AreResults t.program t.mode edge x.structure results)
    (all_settled : All (IsSettled t.program) results) where
  abbrev pub Arrives : Point → Type 0
  Arrives y = (y.node ≡ to) × Contains results y.structure

  pub arrived-within : (old : SearchForm) → IsSearchState t old → IsListed old.listing x → (y : Point)
      → IsListed old.listing y ⊎ Arrives y → reached_within t old.listing y
  arrived-within old kept has y (inl listed) = kept.reached y listed
  arrived-within old kept has y (inr (here, among)) =
      step-within t old.listing edge x has
      (record { taken = taken; is_edge = is_edge; leaves = leaves; has = kept.reached x has })
      results are y (here ∙ enters) among

  pub arrived-kept : (old new : SearchForm) → IsSearchState t old → IsListed old.listing x → Grows old new
      → ListsOnly Arrives old new
      → IsWithin t.max new → IsSearchState t new
  arrived-kept old new kept has grows only within = kept-more t Arrives old new kept grows within only
      (λ y among. arrived-within old kept has y (inr among))
      (λ y among. All-contains (IsSettled t.program) results y.structure all_settled among.1)

-- the structure at the place is followed: its step along the edge is done
pub does-along : (t : TaskForm) (w : Waiting) (edge to : ℕ) (x : Point) (old new : SearchForm)
    (told : List (List K3))
    (results : List StructureForm) → StandsFor old.listing w x
    → ((taken : Edge) → slice_get t.program.edges edge ≡ Some taken → to ≡ taken.to)
    → AreResults t.program t.mode edge x.structure results
    → ((u : StructureForm) → Contains results u → IsListed new.listing (record { node = to; structure = u }))
    → ((number : ℕ) (k : K3) → IsMessageValue t.program edge x.structure number k
    → larger_of k (told_value told edge number) ≡ told_value told edge number)
    → KeepsBudgets t.program edge x.structure → DoesAlong t w edge old new told
does-along t w edge to x old new told results here enters are listed values budgets y taken stands at =
    subst (λ (z : Point). IsDoneAlong t new.listing told edge taken z.structure)
    (stands-once old.listing w x y here stands)
    (record {
      results = results;
      are_results = are;
      listed = λ u has. subst (λ n. IsListed new.listing (record { node = n; structure = u }))
          (enters taken at) (listed u has);
      values = values;
      budgets = budgets;
    })

module _ (t : TaskForm) (w : Waiting) (edge : ℕ) (old middle new : SearchForm) (told more : List (List K3))
  where
    -- it stays done
    pub does-kept : Advances middle told new more → DoesAlong t w edge old middle told
        → DoesAlong t w edge old new more
    does-kept advances does x taken stands at =
        along-kept t middle.listing new.listing told more advances.grows.kept advances.rises edge taken
        x.structure
        (does x taken stands at)

    -- and places stay where they are
    pub does-from : Grows old middle → DoesAlong t w edge middle new more → DoesAlong t w edge old new more
    does-from grows does x taken stands at = does x taken (grows.placed w x stands) at

abbrev no-structure : StructureForm
no-structure = record { size = 0; summaries = []; planes = []; fresh = None }

-- a place that stands for something does so later
pub place-kept : (old new : SearchForm) (w : Waiting) → Grows old new
    → w.place < length (at_node old.listing w.node)
    → w.place < length (at_node new.listing w.node)
place-kept old new w grows within =
    let l : List StructureForm = at_node old.listing w.node
    in let s : StructureForm = get_or l w.place no-structure
    in let stands = grows.placed w (record { node = w.node; structure = s })
    (record { node = refl; structure = slice_get-get_or l w.place no-structure within })
    in slice_get_within (at_node new.listing w.node) w.place s stands.structure

pub node-within : (listing : List (List StructureForm)) (node place : ℕ)
    → place < length (at_node listing node)
    → node < length listing
node-within listing node place within = by (cases_lt node (length listing))
  where
    by : (node < length listing) ⊎ (length listing ≤ node) → node < length listing
    by (inl lt) = lt
    by (inr past) = absurd (omega (arith, within, ap length (get_or_past listing node [] past)))

-- the list that was read at the node is that of the node
pub leaving-at : (lists : List (List ℕ)) (node : ℕ) (list items : List ℕ) → node < length lists
    → items ≡ get_or lists node list → items ≡ get_or lists node []
leaving-at lists node list items within is = is ∙ get_or_default lists node list [] within

pub kept-popped : (t : TaskForm) (s : SearchForm) (w : Waiting) → IsSearchState t (with_first s w) → IsSearchState t s
kept-popped t s w kept = record {
  nodes = kept.nodes;
  within = record { count = kept.within.count; most = kept.within.most };
  reached = kept.reached;
  settled = kept.settled;
}

-- where nothing waits all is explored
pub explored-all : (t : TaskForm) (first s : SearchForm) (told : List (List K3)) → IsSearchState t s
    → AreSaid t s.listing told
    → AreDone t s told → s.waiting ≡ [] → ((node : ℕ) → IsOnce (at_node s.listing node))
    → KeepsListed first.listing s.listing
    → All (IsOpenedIn t first.listing) t.initial → IsExplored t s.listing told
explored-all t first s told kept said done none once keeps opened = record {
  nodes = kept.nodes;
  once = once;
  within = omega (arith, kept.within.count, kept.within.most);
  reached = λ x has. within-reached t s.listing x (kept.reached x has);
  settled = kept.settled;
  opened = All-weaker (IsOpenedIn t first.listing) (IsOpenedIn t s.listing)
      (opened-kept t first.listing s.listing keeps) t.initial opened;
  said = said;
  done = all-done t s told done none;
}
