-- Structures are opened and followed.
use Rattle.std.proofs.Common.{ℕ, ◌≡◌, ◌<◌, ◌⊎◌, inl, inr, List, [], ◌∷◌, ◌++◌, length, get_or, None, Some}
use Rattle.std.proofs.Common.{refl, sym, ap, subst, ◌∙◌, arith}
use Rattle.std.specs.Prelude.{All, Any, Contains, slice_get}
use Rattle.std.proofs.lemmas.List.Elements.{All-contains, All-push, Contains-append_left, Contains-push}
use Rattle.std.proofs.lemmas.List.Elements.{Contains-push_cases}
use Rattle.std.proofs.lemmas.Option.{none-some, same_Some, get_or_from_slice_get}
use Rattle.tv_lemmas.proofs.Lists.{found_at}
use Rattle.tv_kleene.specs.declared.K3.{K3}
use Rattle.tv_model.specs.declared.program.Edge.{Edge}
use Rattle.tv_model.specs.Program.{ProgramForm}
use Rattle.tv_model.specs.Valid.{IsValid, IsEdge}
use Rattle.tv_model.proofs.Lists.{Contains-none, slice_get-contains, Contains-here}
use Rattle.tv_structure_form.specs.StructureForm.{StructureForm}
use Rattle.tv_struct.specs.declared.analysis.StageError.{StageError}
use Rattle.tv_struct.specs.declared.analysis.StageError.TheVariants.{Splits as splits}
use Rattle.tv_struct.specs.declared.analysis.StageError.TheVariants.{Individuals as individuals}
use Rattle.tv_struct.specs.declared.analysis.StageError.TheVariants.{Memory as memory}
use Rattle.tv_step_laws.specs.Budgets.{IsStepCause, KeepsBudgets}
use Rattle.tv_step_laws.specs.Settled.{IsSettled}
use Rattle.tv_step_laws.specs.Transfer.{AreMessageValues, AreResults, IsOpening}
use Rattle.tv_join.specs.Members.{MembersForm}
use Rattle.tv_work.specs.Analyzed.{IsAtSource}
use Rattle.tv_work.specs.Leaving.{LeavesBy}
use Rattle.tv_work.specs.Reach.{Point, IsStartPoint}
use Rattle.tv_work.specs.Task.{TaskForm}
use Rattle.tv_join.specs.Flags.{IsPlain}
use Rattle.tv_work.specs.Analyzed.{work_error}
use Rattle.tv_join.specs.Places.{member_place}
use Rattle.tv_join.specs.Rounds.{point}
use Rattle.tv_join.specs.State.{IsIn, IsAmongFound, StandsAt, members_at}
use Rattle.tv_join.specs.Stepped.{AreFollowed, AreOpenings, AreResultsOf, ChangesFrom, Finds, FindsOpening}
use Rattle.tv_join.specs.Stepped.{GatheredForm, Gathers, IsFollowCause, IsFollowedAlong, IsFollowedAt}
use Rattle.tv_join.specs.Stepped.{IsFollowedFrom, IsOpenable, IsOpeningPoint, IsResultOf}
use Rattle.tv_join.specs.Values.{values_at, ChangesAlong}
use Rattle.tv_join.specs.declared.joins.Found.{Found}
use Rattle.tv_join.specs.declared.places.Place.{Place}
use Rattle.tv_join.proofs.Nodes.{listing-at}
use Rattle.tv_join.proofs.Noting.{contains-behind, contains-cases}

-- ---- what is found

-- what was found, as a point
same-found : (f : Found) (x : Point) → f.node ≡ x.node → f.structure ≡ x.structure
    → f ≡ record { node = x.node; structure = x.structure }
same-found f x node structure = λ i. record { node = node i; structure = structure i }

pub finds-start : (node : ℕ) (found : List Found)
    → Finds (λ x. (x.node ≡ node) × Contains [] x.structure) found found
finds-start node found = record {
  kept = λ x has. has;
  all = λ x (e, has). absurd (Contains-none x.structure has);
  only = λ x has. inl has;
}

pub finds-next : (node : ℕ) (structures : List StructureForm) (s : StructureForm) (old middle new : List Found)
    → Finds (λ x. (x.node ≡ node) × Contains structures x.structure) old middle
    → new ≡ middle ++ record { node = node; structure = s } ∷ []
    → Finds (λ x. (x.node ≡ node) × Contains (structures ++ s ∷ []) x.structure) old new
finds-next node structures s old middle new finds e =
    subst (Finds (λ x. (x.node ≡ node) × Contains (structures ++ s ∷ []) x.structure) old) (sym e) (record {
      kept = λ x has. keeps x (finds.kept x has);
      all = λ x (at, has). all x at (Contains-push_cases structures s x.structure has);
      only = λ x has. only x (Contains-push_cases middle f (record { node = x.node; structure = x.structure }) has);
    })
  where
    f : Found
    f = record { node = node; structure = s }

    keeps : (x : Point) → IsAmongFound middle x → IsAmongFound (middle ++ f ∷ []) x
    keeps x has = Contains-append_left middle (f ∷ []) (record { node = x.node; structure = x.structure }) has

    all : (x : Point) → x.node ≡ node → Contains structures x.structure ⊎ (s ≡ x.structure) → IsAmongFound (middle ++ f ∷ []) x
    all x at (inl has) = keeps x (finds.all x (at, has))
    all x at (inr same) =
        subst (Contains (middle ++ f ∷ [])) (same-found f x (sym at) same) (Contains-push middle f)

    only : (x : Point) → Contains middle (record { node = x.node; structure = x.structure })
        ⊎ (f ≡ record { node = x.node; structure = x.structure })
        → IsAmongFound old x ⊎ ((x.node ≡ node) × Contains (structures ++ s ∷ []) x.structure)
    only x (inl has) = by (finds.only x has)
      where
        by : IsAmongFound old x ⊎ ((x.node ≡ node) × Contains structures x.structure)
            → IsAmongFound old x ⊎ ((x.node ≡ node) × Contains (structures ++ s ∷ []) x.structure)
        by (inl before) = inl before
        by (inr (at, has)) = inr (at, Contains-append_left structures (s ∷ []) x.structure has)
    only x (inr same) =
        inr (
          sym (ap (λ (g : Found). g.node) same),
          subst (Contains (structures ++ s ∷ [])) (ap (λ (g : Found). g.structure) same) (Contains-push structures s),
        )

pub settled-plain : (p : ProgramForm) (s : StructureForm) → IsSettled p s → IsPlain p s
settled-plain p s settled = record { is = settled.is; shaped = settled.shaped; unmarked = settled.blurred.unmarked }

-- ---- openings

-- a structure without an opening
pub open-none : (t : TaskForm) (s : StructureForm) (found : List Found)
    → ((u : StructureForm) → IsOpening t.program s u → None ≡ Some u) → FindsOpening t s found found
open-none t s found none = record {
  kept = λ x has. has;
  all = λ x at opening. absurd (none-some x.structure (none x.structure opening));
  only = λ x has. inl has;
}

-- and one with its opening
pub open-some : (t : TaskForm) (s u : StructureForm) (found new : List Found) → IsOpening t.program s u
    → IsSettled t.program u → ((v : StructureForm) → IsOpening t.program s v → Some u ≡ Some v)
    → new ≡ found ++ record { node = 0; structure = u } ∷ [] → FindsOpening t s found new
open-some t s u found new opening settled only e =
    subst (FindsOpening t s found) (sym e) (record {
      kept = λ x has. Contains-append_left found (f ∷ []) (record { node = x.node; structure = x.structure }) has;
      all = λ x at is.
          subst (Contains (found ++ f ∷ []))
          (same-found f x (sym at) (same_Some u x.structure (only x.structure is))) (Contains-push found f);
      only = λ x has. by x (Contains-push_cases found f (record { node = x.node; structure = x.structure }) has);
    })
  where
    f : Found
    f = record { node = 0; structure = u }

    by : (x : Point) → Contains found (record { node = x.node; structure = x.structure })
        ⊎ (f ≡ record { node = x.node; structure = x.structure }) → IsAmongFound found x ⊎ IsOpeningPoint t s x
    by x (inl has) = inl has
    by x (inr same) =
        let structure : u ≡ x.structure = ap (λ (g : Found). g.structure) same
        in inr (record {
          node = sym (ap (λ (g : Found). g.node) same);
          opening = subst (IsOpening t.program s) structure opening;
          settled = subst (IsSettled t.program) structure settled;
        })

pub openings-none : (t : TaskForm) → AreOpenings t [] []
openings-none t = record {
  any = λ k d lt. absurd (omega (arith, lt));
  all = λ x start. absurd (nothing x start.opens);
  only = λ x has. absurd (Contains-none (record { node = x.node; structure = x.structure }) has);
}
  where
    nothing : (x : Point) → Any (λ s. IsOpening t.program s x.structure) [] → ⊥
    nothing x (k, s, lt, at, is) = omega (arith, lt)

pub openings-more : (t : TaskForm) (structures : List StructureForm) (s : StructureForm) (found new : List Found)
    → AreOpenings t structures found → IsOpenable t.program s → FindsOpening t s found new
    → AreOpenings t (structures ++ s ∷ []) new
openings-more t structures s found new are openable finds = record {
  any = All-push (IsOpenable t.program) structures s are.any openable;
  all = λ x start. all x start;
  only = λ x has. only x (finds.only x has);
}
  where
    all : (x : Point) → IsStartPoint t.program (structures ++ s ∷ []) x → IsAmongFound new x
    all x start = by start.opens
      where
        by : Any (λ r. IsOpening t.program r x.structure) (structures ++ s ∷ []) → IsAmongFound new x
        by (k, r, lt, at, opening) = cases (Contains-push_cases structures s r (k, lt, at))
          where
            cases : Contains structures r ⊎ (s ≡ r) → IsAmongFound new x
            cases (inl has) =
                finds.kept x (are.all x (record { node = start.node; opens = (has.0, r, has.1, has.2, opening) }))
            cases (inr same) =
                finds.all x start.node (subst (λ q. IsOpening t.program q x.structure) (sym same) opening)

    only : (x : Point) → IsAmongFound found x ⊎ IsOpeningPoint t s x
        → IsStartPoint t.program (structures ++ s ∷ []) x × IsSettled t.program x.structure
    only x (inl has) =
        let before = are.only x has
        in (record { node = before.0.node; opens = by before.0.opens }, before.1)
      where
        by : Any (λ r. IsOpening t.program r x.structure) structures
            → Any (λ r. IsOpening t.program r x.structure) (structures ++ s ∷ [])
        by (k, r, lt, at, opening) =
            let has = Contains-append_left structures (s ∷ []) r (k, lt, at)
            in (has.0, r, has.1, has.2, opening)
    only x (inr is) =
        let has = Contains-push structures s
        in (record { node = is.node; opens = (has.0, s, has.1, has.2, is.opening) }, is.settled)

-- ---- steps

-- the source of the edge of this number
abbrev pub source_at : List Edge → (edge : ℕ) → ℕ
source_at edges edge = (get_or edges edge (record { from = 0; action = 0; to = 0 })).from

pub source-is : (edges same : List Edge) (edge : ℕ) (taken : Edge) → same ≡ edges → slice_get edges edge ≡ Some taken
    → source_at same edge ≡ taken.from
source-is edges same edge taken e at =
    ap (λ xs. source_at xs edge) e
    ∙ ap (λ (x : Edge). x.from) (get_or_from_slice_get edges edge taken (record { from = 0; action = 0; to = 0 }) at)

pub edge-valid : (p : ProgramForm) → IsValid p → (edge : ℕ) (taken : Edge) → slice_get p.edges edge ≡ Some taken → IsEdge p taken
edge-valid p valid edge taken at = All-contains (IsEdge p) p.edges taken valid.edges (slice_get-contains p.edges edge taken at)

pub gathers-none : (t : TaskForm) (nodes : List MembersForm) (found : List Found) → Gathers t nodes found found
gathers-none t nodes found = record { kept = λ x has. has; only = λ x has. inl has }

pub gathers-on : (t : TaskForm) (nodes : List MembersForm) (a b c : List Found) → Gathers t nodes a b → Gathers t nodes b c
    → Gathers t nodes a c
gathers-on t nodes a b c first second = record {
  kept = λ x has. second.kept x (first.kept x has);
  only = λ x has. by x (second.only x has);
}
  where
    by : (x : Point) → IsAmongFound b x ⊎ IsResultOf t nodes x → IsAmongFound a x ⊎ IsResultOf t nodes x
    by x (inl has) = first.only x has
    by x (inr is) = inr is

-- what was followed stays so, where its values are kept
pub followed-weaker : (t : TaskForm) (A B : Point → Type 0) (old new : List (List (List K3))) → ((x : Point) → A x → B x)
    → (edge : ℕ) (taken : Edge) (at : ℕ) (s : StructureForm) → values_at new edge at ≡ values_at old edge at
    → IsFollowedAt t A old edge taken at s → IsFollowedAt t B new edge taken at s
followed-weaker t A B old new weaker edge taken at s same followed = record {
  results = followed.results;
  are_results = followed.are_results;
  covered = λ u has. weaker (point taken.to u) (followed.covered u has);
  messages = subst (AreMessageValues t.program edge s) (sym same) followed.messages;
  budgets = followed.budgets;
}

pub along-weaker : (t : TaskForm) (nodes : List MembersForm) (A B : Point → Type 0) (old new : List (List (List K3)))
    → ((x : Point) → A x → B x) → (w : Place) (edge : ℕ) → values_at new edge w.at ≡ values_at old edge w.at
    → IsFollowedAlong t nodes A old w edge → IsFollowedAlong t nodes B new w edge
along-weaker t nodes A B old new weaker w edge same along taken at s stands =
    followed-weaker t A B old new weaker edge taken w.at s same (along taken at s stands)

-- ---- one structure is followed along one edge

-- the structure that stands at a place is listed at its node
pub stands-in : (nodes : List MembersForm) (w : Place) (s : StructureForm) → StandsAt nodes w s → IsIn nodes (point w.node s)
stands-in nodes w s stands =
    subst (λ xs. Contains xs s) (sym (listing-at nodes w.node))
    (slice_get-contains (members_at nodes w.node).structures w.at s stands)

-- and each that is listed stands at some place
pub in-stands : (nodes : List MembersForm) (node : ℕ) (s : StructureForm) → IsIn nodes (point node s)
    → (at : ℕ) × StandsAt nodes (member_place node at) s
in-stands nodes node s has =
    found_at (members_at nodes node).structures s (subst (λ xs. Contains xs s) (listing-at nodes node) has)

module _ (t : TaskForm) (nodes : List MembersForm) (w : Place) (edge : ℕ) (leaves : LeavesBy t.program.edges w.node edge)
    (s : StructureForm) (stands : StandsAt nodes w s) where
  stands-listed : IsIn nodes (point leaves.0.from s)
  stands-listed = subst (λ n. IsIn nodes (point n s)) (sym leaves.2) (stands-in nodes w s stands)

  pub stands-source : IsAtSource t.program edge (IsIn nodes) (point leaves.0.from s)
  stands-source = record { taken = leaves.0; is_edge = leaves.1; leaves = refl; has = stands-listed }

module _ (t : TaskForm) (valid : IsValid t.program) (nodes : List MembersForm) (w : Place) (edge to : ℕ)
    (leaves : LeavesBy t.program.edges w.node edge) (s : StructureForm) (stands : StandsAt nodes w s)
    (enters : to ≡ leaves.0.to) (results : List StructureForm) (are : AreResults t.program t.mode edge s results)
    (settled : All (IsSettled t.program) results) (found new : List Found)
    (finds : Finds (λ x. (x.node ≡ to) × Contains results x.structure) found new) where
  pub follow-gathers : Gathers t nodes found new
  follow-gathers = record { kept = finds.kept; only = λ x is. by x (finds.only x is) }
    where
      by : (x : Point) → IsAmongFound found x ⊎ ((x.node ≡ to) × Contains results x.structure)
          → IsAmongFound found x ⊎ IsResultOf t nodes x
      by x (inl before) = inl before
      by x (inr (node, is)) =
          inr (
            (
              point leaves.0.from s,
              stands-listed t nodes w edge leaves s stands,
              (
                edge,
                leaves.0,
                record {
                  is_edge = leaves.1;
                  leaves = refl;
                  enters = node ∙ enters;
                  result = (results, are, is);
                },
              ),
            ),
            record {
              node = subst (λ n. n < length t.program.nodes) (sym (node ∙ enters))
                  (edge-valid t.program valid edge leaves.0 leaves.1).1;
              plain = settled-plain t.program x.structure (All-contains (IsSettled t.program) results x.structure settled is);
              stable = (All-contains (IsSettled t.program) results x.structure settled is).stable;
            },
          )

  pub follow-along : (values : List (List (List K3))) → AreMessageValues t.program edge s (values_at values edge w.at)
      → KeepsBudgets t.program edge s → IsFollowedAlong t nodes (IsAmongFound new) values w edge
  follow-along values are_values budgets other at r stands_r =
      let same : leaves.0 ≡ other = same_Some leaves.0 other (sym leaves.1 ∙ at)
      in let one : s ≡ r = same_Some s r (sym stands ∙ stands_r)
      in subst (IsFollowedAt t (IsAmongFound new) values edge other w.at) one (record {
        results = results;
        are_results = are;
        covered = λ u is. finds.all (point other.to u) (sym (enters ∙ ap (λ (e : Edge). e.to) same), is);
        messages = are_values;
        budgets = budgets;
      })

-- why a step has no answer
pub step-fault : (p : ProgramForm) (edge : ℕ) (P : Point → Type 0) (x : Point) → IsAtSource p edge P x → (fault : StageError)
    → IsStepCause p edge x.structure fault → IsFollowCause p P (work_error fault)
step-fault p edge P x source splits cause = record { edge = edge; at = x; source = source; budget = cause }
step-fault p edge P x source individuals cause = record { edge = edge; at = x; source = source; budget = cause }
step-fault p edge P x source memory cause = tt

-- ---- the edges that leave its node, one after the other

-- the values that were kept for other edges and places stay
pub record AreAside (edges : List ℕ) (at : ℕ) (old new : List (List (List K3))) : Type 0 where
  pub count : length new ≡ length old
  pub others : (edge place : ℕ) → (Contains edges edge × (place ≡ at)) ⊎ (values_at new edge place ≡ values_at old edge place)

pub aside-none : (at : ℕ) (values : List (List (List K3))) → AreAside [] at values values
aside-none at values = record { count = refl; others = λ edge place. inr refl }

pub aside-more : (edges : List ℕ) (edge at : ℕ) (old middle new : List (List (List K3))) → AreAside edges at old middle
    → ChangesAlong edge at middle new → AreAside (edges ++ edge ∷ []) at old new
aside-more edges edge at old middle new before changes = record {
  count = changes.count ∙ before.count;
  others = λ e p. by e p (changes.others e p);
}
  where
    earlier : (e p : ℕ) → values_at new e p ≡ values_at middle e p
        → (Contains edges e × (p ≡ at)) ⊎ (values_at middle e p ≡ values_at old e p)
        → (Contains (edges ++ edge ∷ []) e × (p ≡ at)) ⊎ (values_at new e p ≡ values_at old e p)
    earlier e p same (inl (has, here)) = inl (Contains-append_left edges (edge ∷ []) e has, here)
    earlier e p same (inr kept) = inr (same ∙ kept)

    by : (e p : ℕ) → ((e ≡ edge) × (p ≡ at)) ⊎ (values_at new e p ≡ values_at middle e p)
        → (Contains (edges ++ edge ∷ []) e × (p ≡ at)) ⊎ (values_at new e p ≡ values_at old e p)
    by e p (inl (is, here)) =
        inl (subst (Contains (edges ++ edge ∷ [])) (sym is) (Contains-push edges edge), here)
    by e p (inr same) = earlier e p same (before.others e p)

module _ (t : TaskForm) (nodes : List MembersForm) (w : Place) (found new : List Found) (old values : List (List (List K3)))
    (gathers : Gathers t nodes found new) where
  -- what was followed along some edges still is
  pub along-kept : (edge : ℕ) → ChangesAlong edge w.at old values → IsFollowedAlong t nodes (IsAmongFound new) values w edge
      → (e : ℕ) → IsFollowedAlong t nodes (IsAmongFound found) old w e → IsFollowedAlong t nodes (IsAmongFound new) values w e
  along-kept edge changes here e before = by (changes.others e w.at)
    where
      by : ((e ≡ edge) × (w.at ≡ w.at)) ⊎ (values_at values e w.at ≡ values_at old e w.at)
          → IsFollowedAlong t nodes (IsAmongFound new) values w e
      by (inl (is, at)) = subst (IsFollowedAlong t nodes (IsAmongFound new) values w) (sym is) here
      by (inr same) = along-weaker t nodes (IsAmongFound found) (IsAmongFound new) old values gathers.kept w e same before

-- in the end only values of edges from the place are changed, for it
pub changes-from : (t : TaskForm) (edges : List ℕ) (w : Place) (old new : List (List (List K3)))
    → ((edge : ℕ) → Contains edges edge → LeavesBy t.program.edges w.node edge) → AreAside edges w.at old new
    → ChangesFrom t w old new
changes-from t edges w old new leaving aside v edge leaves = by (aside.others edge v.at)
  where
    by : (Contains edges edge × (v.at ≡ w.at)) ⊎ (values_at new edge v.at ≡ values_at old edge v.at)
        → (v ≡ w) ⊎ (values_at new edge v.at ≡ values_at old edge v.at)
    by (inl (has, here)) =
        let other = leaving edge has
        in let node : v.node ≡ w.node
        = sym leaves.2 ∙ ap (λ (e : Edge). e.from) (same_Some leaves.0 other.0 (sym leaves.1 ∙ other.1)) ∙ other.2
        in inl (λ i. record { node = node i; at = here i })
    by (inr same) = inr same

-- ---- places, one after the other

-- of the places those that are left aren't followed yet
pub record AreFollowedBut (t : TaskForm) (nodes : List MembersForm) (places left : List Place) (g : GatheredForm)
    (before : List (List (List K3))) : Type 0 where
  pub among : (w : Place) → Contains left w → Contains places w
  pub count : length g.values ≡ length before
  pub only : AreResultsOf t nodes g.found
  pub done : (w : Place) → Contains places w → Contains left w ⊎ IsFollowedFrom t nodes (IsAmongFound g.found) g.values w
  pub others : (w : Place) (edge : ℕ) → LeavesBy t.program.edges w.node edge
      → Contains places w ⊎ (values_at g.values edge w.at ≡ values_at before edge w.at)

pub but-all : (t : TaskForm) (nodes : List MembersForm) (places : List Place) (values : List (List (List K3)))
    → AreFollowedBut t nodes places places (record { found = []; values = values }) values
but-all t nodes places values = record {
  among = λ w has. has;
  count = refl;
  only = λ x has. absurd (Contains-none (record { node = x.node; structure = x.structure }) has);
  done = λ w has. inl has;
  others = λ w edge leaves. inr refl;
}

pub but-next : (t : TaskForm) (nodes : List MembersForm) (places left : List Place) (w : Place) (old new : GatheredForm)
    (before : List (List (List K3))) → AreFollowedBut t nodes places (w ∷ left) old before
    → Gathers t nodes old.found new.found → length new.values ≡ length before → ChangesFrom t w old.values new.values
    → IsFollowedFrom t nodes (IsAmongFound new.found) new.values w → AreFollowedBut t nodes places left new before
but-next t nodes places left w old new before are gathers count changes here = record {
  among = λ v has. are.among v (contains-behind w left v has);
  count = count;
  only = λ x has. only x (gathers.only x has);
  done = λ v has. done v (are.done v has);
  others = λ v edge leaves. others v edge (changes v edge leaves) (are.others v edge leaves);
}
  where
    only : (x : Point) → IsAmongFound old.found x ⊎ IsResultOf t nodes x → IsResultOf t nodes x
    only x (inl has) = are.only x has
    only x (inr is) = is

    at-one : (v : Place) → w ≡ v → IsFollowedFrom t nodes (IsAmongFound new.found) new.values v
    at-one v e = subst (IsFollowedFrom t nodes (IsAmongFound new.found) new.values) e here

    along : (v : Place) (edge : ℕ) → IsFollowedAlong t nodes (IsAmongFound old.found) old.values v edge
        → LeavesBy t.program.edges v.node edge
        → (v ≡ w) ⊎ (values_at new.values edge v.at ≡ values_at old.values edge v.at)
        → IsFollowedAlong t nodes (IsAmongFound new.found) new.values v edge
    along v edge followed leaves (inl e) = at-one v (sym e) edge leaves
    along v edge followed leaves (inr same) =
        along-weaker t nodes (IsAmongFound old.found) (IsAmongFound new.found) old.values new.values gathers.kept v edge same followed

    rest : (v : Place) → (w ≡ v) ⊎ Contains left v
        → Contains left v ⊎ IsFollowedFrom t nodes (IsAmongFound new.found) new.values v
    rest v (inl e) = inr (at-one v e)
    rest v (inr has) = inl has

    done : (v : Place) → Contains (w ∷ left) v ⊎ IsFollowedFrom t nodes (IsAmongFound old.found) old.values v
        → Contains left v ⊎ IsFollowedFrom t nodes (IsAmongFound new.found) new.values v
    done v (inl has) = rest v (contains-cases w left v has)
    done v (inr followed) =
        inr (λ edge leaves. along v edge (followed edge leaves) leaves (changes v edge leaves))

    others : (v : Place) (edge : ℕ) → (v ≡ w) ⊎ (values_at new.values edge v.at ≡ values_at old.values edge v.at)
        → Contains places v ⊎ (values_at old.values edge v.at ≡ values_at before edge v.at)
        → Contains places v ⊎ (values_at new.values edge v.at ≡ values_at before edge v.at)
    others v edge (inl e) kept = inl (subst (Contains places) (sym e) (are.among w (Contains-here w left)))
    others v edge (inr same) (inl has) = inl has
    others v edge (inr same) (inr kept) = inr (same ∙ kept)

pub but-none : (t : TaskForm) (nodes : List MembersForm) (places left : List Place) (g : GatheredForm)
    (before : List (List (List K3))) → AreFollowedBut t nodes places left g before → left ≡ []
    → AreFollowed t nodes places g before
but-none t nodes places left g before are none = record {
  only = are.only;
  done = λ w has. by w (are.done w has);
  others = are.others;
}
  where
    by : (w : Place) → Contains left w ⊎ IsFollowedFrom t nodes (IsAmongFound g.found) g.values w
        → IsFollowedFrom t nodes (IsAmongFound g.found) g.values w
    by w (inl has) = absurd (Contains-none w (subst (λ ws. Contains ws w) none has))
    by w (inr followed) = followed
