-- What is met of an opening, and of a step.
use Rattle.std.proofs.Common.{ℕ, ◌≡◌, ◌≤◌, ◌⊎◌, inl, inr, List, ◌∷◌, length, Some, refl, sym, ap, subst}
use Rattle.std.proofs.Common.{◌∙◌}
use Rattle.std.specs.Prelude.{All, Contains, slice_get}
use Rattle.std.proofs.lemmas.List.Elements.{All-contains}
use Rattle.tv_model.specs.declared.program.Edge.{Edge}
use Rattle.tv_model.specs.Valid.{IsValid}
use Rattle.tv_model.proofs.Lists.{slice_get-contains}
use Rattle.tv_structure_form.specs.StructureForm.{StructureForm}
use Rattle.tv_step_laws.specs.Settled.{IsSettled}
use Rattle.tv_step_laws.specs.Transfer.{AreResults, IsOpening}
use Rattle.tv_step_laws.proofs.Exact.{results-once}
use Rattle.tv_work.specs.Reach.{Point, Leads}
use Rattle.tv_work.specs.Task.{TaskForm, reached_in}
use Rattle.tv_work.proofs.Advancing.{start-reached}
use Rattle.tv_trail_laws.specs.declared.trail.Origin.TheVariants.{Initial, Step}
use Rattle.tv_trail_laws.specs.Met.{Found, IsAt, IsMet, IsFirst, IsOrigin}
use Rattle.tv_trail_laws.proofs.Places.{at-place}
use Rattle.tv_trail.specs.Searched.{TraceForm, AreListedMet, Meets, IsFrom, IsFollowedAlong, IsState}
use Rattle.tv_trail.proofs.Kept.{meets-weaker, met-reached, state-more}

-- ---- an opening

module _ (t : TaskForm) (number : ℕ) (s u : StructureForm) (initial : slice_get t.initial number ≡ Some s)
    (opening : IsOpening t.program s u) (is_settled : IsSettled t.program u)
    (old : TraceForm) (kept : IsState t old) where
  abbrev pub Opens : Found → Type 0
  Opens f = f ≡ record { point = record { node = 0; structure = u }; origin = Initial number }

  opened-origin : (f : Found) → Opens f → IsOrigin t old.found (length old.found) f.point f.origin
  opened-origin f is =
      subst (λ (g : Found). IsOrigin t old.found (length old.found) g.point g.origin) (sym is)
      (refl, (s, initial, opening))

  pub opened-state : (new : TraceForm) → Meets Opens old new → length new.found ≤ t.max → AreListedMet new
      → IsState t new
  opened-state new meets within listed =
      state-more t Opens old new kept meets opened-origin
      (λ f is. subst (λ (g : Found). IsSettled t.program g.point.structure) (sym is) is_settled) within listed

  pub opened-first : (new : TraceForm) → Meets Opens old new → Meets IsFirst old new
  opened-first new meets =
      meets-weaker Opens IsFirst (λ f is. (number, ap (λ (g : Found). g.origin) is)) old new meets

  pub opened-reached : (y : Point) → IsMet old.found y ⊎ (y ≡ record { node = 0; structure = u })
      → reached_in t y
  opened-reached y (inl met) = met-reached t old kept y met
  opened-reached y (inr e) =
      subst (reached_in t) (sym e)
      (start-reached t s u (slice_get-contains t.initial number s initial) opening)

-- ---- a step

module _ (t : TaskForm) (edge to place : ℕ) (taken : Edge) (x : Point) (results : List StructureForm)
    (is_edge : slice_get t.program.edges edge ≡ Some taken) (leaves : taken.from ≡ x.node)
    (enters : to ≡ taken.to) (are : AreResults t.program t.mode edge x.structure results)
    (all_settled : All (IsSettled t.program) results)
    (old : TraceForm) (kept : IsState t old) (at : IsAt old.found place x) where
  abbrev pub Arrives : Found → Type 0
  Arrives f = (f.origin ≡ Step place edge) × (f.point.node ≡ to) × Contains results f.point.structure

  leads-on : (y : Point) → y.node ≡ to → Contains results y.structure
      → Leads t.program t.mode edge taken x y
  leads-on y node has
      = record { is_edge = is_edge; leaves = leaves; enters = node ∙ enters; result = (results, are, has) }

  arrived-origin : (f : Found) → Arrives f → IsOrigin t old.found (length old.found) f.point f.origin
  arrived-origin f (is, node, has) =
      subst (λ o. IsOrigin t old.found (length old.found) f.point o) (sym is)
      (at-place old.found place x at, (x, at, (taken, leads-on f.point node has)))

  arrived-settled : (f : Found) → Arrives f → IsSettled t.program f.point.structure
  arrived-settled f (is, node, has) =
      All-contains (IsSettled t.program) results f.point.structure all_settled has

  pub arrived-state : (new : TraceForm) → Meets Arrives old new → length new.found ≤ t.max → AreListedMet new
      → IsState t new
  arrived-state new meets within listed =
      state-more t Arrives old new kept meets arrived-origin arrived-settled within listed

  arrived-is : (f : Found) → Arrives f → IsFrom place f
  arrived-is f (is, node, has) = (edge, is)

  pub arrived-from : (new : TraceForm) → Meets Arrives old new → Meets (IsFrom place) old new
  arrived-from new meets = meets-weaker Arrives (IsFrom place) arrived-is old new meets

  pub arrived-reached : (y : Point) → IsMet old.found y ⊎ ((y.node ≡ to) × Contains results y.structure)
      → reached_in t y
  arrived-reached y (inl met) = met-reached t old kept y met
  arrived-reached y (inr (node, has)) =
      let r = met-reached t old kept x (place, at)
      in record { before = x ∷ r.before; derivation = ((edge, taken, leads-on y node has), r.derivation) }

  -- where all results are met, the point is followed along the edge
  pub arrived-along : IsValid t.program → (found : List Found)
      → ((u : StructureForm) → Contains results u → IsMet found (record { node = to; structure = u }))
      → ((other : Edge) → slice_get t.program.edges edge ≡ Some other → to ≡ other.to)
      → IsFollowedAlong t found edge x
  arrived-along valid found all target other y leads =
      let same = results-once t.program valid t.mode edge x.structure leads.result.0 results
      leads.result.1 are
      in subst (λ n. IsMet found (record { node = n; structure = y.structure }))
      (target other leads.is_edge ∙ sym leads.enters)
      (all y.structure (subst (λ rs. Contains rs y.structure) same leads.result.2))
