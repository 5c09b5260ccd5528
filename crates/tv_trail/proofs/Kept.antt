-- What a search keeps while it meets more.
use Rattle.std.proofs.Common.{ℕ, ◌≡◌, ◌≤◌, ◌⊎◌, inl, inr, List, [], ◌∷◌, ◌++◌, length}
use Rattle.std.proofs.Common.{replicate}
use Rattle.std.proofs.Common.{zero, suc, Some, refl, sym, ap, subst, ◌∙◌, arith}
use Rattle.std.specs.Prelude.{Contains, slice_get, sum_by}
use Rattle.std.proofs.lemmas.List.{append-nil, append_assoc, length-append, length-replicate}
use Rattle.std.proofs.lemmas.List.Elements.{All-append, All-contains, All-weaker, Contains-push_cases}
use Rattle.std.proofs.lemmas.List.Sums.{sum_by-cons}
use Rattle.std.proofs.lemmas.Option.{slice_get_within, get_or_from_slice_get}
use Rattle.tv_structure_form.specs.StructureForm.{StructureForm}
use Rattle.tv_step_laws.specs.Settled.{IsSettled}
use Rattle.tv_work.specs.Reach.{Point}
use Rattle.tv_work.specs.Task.{TaskForm, reached_in}
use Rattle.tv_work.proofs.Advancing.{nothing-listed}
use Rattle.tv_trail_laws.specs.declared.trail.Origin.{Origin}
use Rattle.tv_trail_laws.specs.declared.trail.Origin.TheVariants.{Initial, Step}
use Rattle.tv_trail_laws.specs.Met.{Found, IsAt, IsMet, AreOpenedIn, IsOrigin, IsPassed, AreTraced}
use Rattle.tv_trail_laws.proofs.Places.{at-cases, is_at-more}
use Rattle.tv_trail.specs.Searched.{TraceForm, AreListedMet, Meets, IsFollowedAlong, IsTraced, IsState}

-- ---- what was met stays

module _ (P : Found → Type 0) where
  pub meets-none : (s : TraceForm) → Meets P s s
  meets-none s = record {
    nodes = refl;
    more = [];
    is = sym (append-nil s.found);
    each = λ k d within. absurd (omega (arith, within));
  }

  pub meets-on : (a b c : TraceForm) → Meets P a b → Meets P b c → Meets P a c
  meets-on a b c first second = record {
    nodes = second.nodes ∙ first.nodes;
    more = first.more ++ second.more;
    is = second.is ∙ ap (λ l. l ++ second.more) first.is ∙ append_assoc a.found first.more second.more;
    each = All-append P first.more second.more first.each second.each;
  }

  pub meets-weaker : (Q : Found → Type 0) → ((f : Found) → P f → Q f) → (old new : TraceForm)
      → Meets P old new → Meets Q old new
  meets-weaker Q weaker old new meets = record {
    nodes = meets.nodes;
    more = meets.more;
    is = meets.is;
    each = All-weaker P Q weaker meets.more meets.each;
  }

  pub at-on : (old new : TraceForm) → Meets P old new → (place : ℕ) (x : Point) → IsAt old.found place x
      → IsAt new.found place x
  at-on old new meets place x at =
      subst (λ l. IsAt l place x) (sym meets.is) (is_at-more old.found meets.more place x at)

  pub met-on : (old new : TraceForm) → Meets P old new → (x : Point) → IsMet old.found x → IsMet new.found x
  met-on old new meets x (place, at) = (place, at-on old new meets place x at)

  pub opened-on : (t : TaskForm) (old new : TraceForm) → Meets P old new → (s : StructureForm)
      → AreOpenedIn t old.found s → AreOpenedIn t new.found s
  opened-on t old new meets s opened u is =
      met-on old new meets (record { node = 0; structure = u }) (opened u is)

  pub along-on : (t : TaskForm) (old new : TraceForm) → Meets P old new → (edge : ℕ) (x : Point)
      → IsFollowedAlong t old.found edge x → IsFollowedAlong t new.found edge x
  along-on t old new meets edge x followed taken y leads = met-on old new meets y (followed taken y leads)

  pub passed-on : (t : TaskForm) (G : Point → Type 0) (old new : TraceForm) → Meets P old new → (x : Point)
      → IsPassed t G old.found x → IsPassed t G new.found x
  passed-on t G old new meets x passed = record {
    none = passed.none;
    followed = λ y follows. met-on old new meets y (passed.followed y follows);
    budgets = passed.budgets;
  }

  pub longer-on : (old new : TraceForm) → Meets P old new → length old.found ≤ length new.found
  longer-on old new meets =
      omega (arith, ap length meets.is, length-append old.found meets.more)

-- ---- where it came from

origin-more : (t : TaskForm) (found more : List Found) (place later : ℕ) (x : Point) (o : Origin)
    → place ≤ later → IsOrigin t found place x o → IsOrigin t (found ++ more) later x o
origin-more t found more place later x (Initial number) le is = is
origin-more t found more place later x (Step before edge) le (less, (b, at, leads)) =
    (omega (arith, less, le), (b, is_at-more found more before b at, leads))

origin-reached : (t : TaskForm) (found : List Found) (place : ℕ) (x : Point) (o : Origin)
    → ((q : ℕ) (f : Found) → slice_get found q ≡ Some f → reached_in t f.point) → IsOrigin t found place x o
    → reached_in t x
origin-reached t found place x (Initial number) all (node, (s, e, opening)) = record {
  before = [];
  derivation = record {
    node = node;
    opens = (
      number,
      s,
      slice_get_within t.initial number s e,
      get_or_from_slice_get t.initial number s s e,
      opening,
    );
  };
}
origin-reached t found place x (Step before edge) all (less, (b, (origin, e), (taken, leads))) =
    let r = all before (record { point = b; origin = origin }) e
    in record { before = b ∷ r.before; derivation = ((edge, taken, leads), r.derivation) }

-- ---- what a search keeps

module _ (t : TaskForm) (P : Found → Type 0) (old new : TraceForm) (kept : IsState t old)
    (meets : Meets P old new)
    (origins : (f : Found) → P f → IsOrigin t old.found (length old.found) f.point f.origin)
    (settled : (f : Found) → P f → IsSettled t.program f.point.structure) where
  reached-old : (q : ℕ) (f : Found) → slice_get old.found q ≡ Some f → reached_in t f.point
  reached-old q f e = (kept.traced q f e).reached

  traced-later : (place : ℕ) (f : Found) → slice_get (old.found ++ meets.more) place ≡ Some f
      → IsTraced t (old.found ++ meets.more) place f
  traced-later place f e = by (at-cases old.found meets.more place f e)
    where
      by : (slice_get old.found place ≡ Some f) ⊎ ((length old.found ≤ place) × Contains meets.more f)
          → IsTraced t (old.found ++ meets.more) place f
      by (inl is) =
          let was = kept.traced place f is
          in record {
            origin = origin-more t old.found meets.more place place f.point f.origin (omega arith) was.origin;
            reached = was.reached;
            settled = was.settled;
          }
      by (inr (past, has)) =
          let is = All-contains P meets.more f meets.each has
          in record {
            origin = origin-more t old.found meets.more (length old.found) place f.point f.origin past
                (origins f is);
            reached = origin-reached t old.found (length old.found) f.point f.origin reached-old
                (origins f is);
            settled = settled f is;
          }

  pub state-more : length new.found ≤ t.max → AreListedMet new → IsState t new
  state-more within listed = record {
    nodes = meets.nodes ∙ kept.nodes;
    within = within;
    listed = listed;
    traced = subst (λ l. (place : ℕ) (f : Found) → slice_get l place ≡ Some f → IsTraced t l place f)
        (sym meets.is) traced-later;
  }

-- what was met is reached, and came as it tells
module _ (t : TaskForm) (s : TraceForm) (kept : IsState t s) where
  pub met-reached : (x : Point) → IsMet s.found x → reached_in t x
  met-reached x (place, (origin, e)) =
      (kept.traced place (record { point = x; origin = origin }) e).reached

  pub are-traced : AreTraced t s.found
  are-traced place f e = (kept.traced place f e).origin

  pub at-settled : (place : ℕ) (x : Point) → IsAt s.found place x → IsSettled t.program x.structure
  at-settled place x (origin, e) = (kept.traced place (record { point = x; origin = origin }) e).settled

-- ---- at first nothing is met

listed-none : (nodes : ℕ) → sum_by length (replicate {A = List StructureForm} nodes []) ≡ 0
listed-none zero = refl
listed-none (suc n) =
    omega (arith, sum_by-cons {X = List StructureForm} length [] (replicate n []), listed-none n)

pub state-none : (t : TaskForm)
    → IsState t (record { listing = replicate (length t.program.nodes) []; found = [] })
state-none t = record {
  nodes = length-replicate (length t.program.nodes) [];
  within = omega arith;
  listed = record {
    met = λ x has. absurd (nothing-listed (length t.program.nodes) x has);
    listed = λ x (place, (origin, e)). absurd (cc e);
    count = sym (listed-none (length t.program.nodes));
  };
  traced = λ place f e. absurd (cc e);
}

-- ---- structures are met one after the other

-- of all these structures those so far were met at the node
pub record MetUpTo (max node : ℕ) (origin : Origin) (all found : List StructureForm) (old new : TraceForm)
    : Type 0 where
  pub meets : Meets (λ f. (f.origin ≡ origin) × (f.point.node ≡ node) × Contains all f.point.structure) old new
  pub has : (s : StructureForm) → Contains found s → IsMet new.found (record { node = node; structure = s })
  pub within : length new.found ≤ max
  pub listed : AreListedMet new

module _ (max node : ℕ) (origin : Origin) (all found : List StructureForm) (s : StructureForm)
    (first old : TraceForm) (so_far : MetUpTo max node origin all found first old) (among : Contains all s) where
  abbrev Arrived : Found → Type 0
  Arrived f = (f.origin ≡ origin) × (f.point.node ≡ node) × Contains all f.point.structure

  -- what was met is what was met at first, or among those to be met
  found-cases : (x : Point) → IsMet old.found x
      → IsMet first.found x ⊎ ((x.node ≡ node) × Contains all x.structure)
  found-cases x (place, (o, e)) =
      by (at-cases first.found so_far.meets.more place (record { point = x; origin = o })
      (subst (λ l. slice_get l place ≡ Some (record { point = x; origin = o })) so_far.meets.is e))
    where
      by : (slice_get first.found place ≡ Some (record { point = x; origin = o }))
          ⊎ ((length first.found ≤ place) × Contains so_far.meets.more (record { point = x; origin = o }))
          → IsMet first.found x ⊎ ((x.node ≡ node) × Contains all x.structure)
      by (inl is) = inl (place, (o, is))
      by (inr (past, has)) =
          let is = All-contains Arrived so_far.meets.more (record { point = x; origin = o }) so_far.meets.each has
          in inr (is.1, is.2)

  pub next-cases : (x : Point) → IsMet old.found x ⊎ (x ≡ record { node = node; structure = s })
      → IsMet first.found x ⊎ ((x.node ≡ node) × Contains all x.structure)
  next-cases x (inl met) = found-cases x met
  next-cases x (inr e) =
      inr (ap (λ (y : Point). y.node) e, subst (λ (y : Point). Contains all y.structure) (sym e) among)

  -- one more is met
  pub met-next : (new : TraceForm) → Meets (λ f. f ≡ record {
    point = record { node = node; structure = s };
    origin = origin;
  }) old new
      → IsMet new.found (record { node = node; structure = s }) → length new.found ≤ max → AreListedMet new
      → MetUpTo max node origin all (found ++ s ∷ []) first new
  met-next new meets has within listed = record {
    meets = meets-on Arrived first old new so_far.meets
        (meets-weaker (λ f. f ≡ record {
          point = record { node = node; structure = s };
          origin = origin;
        }) Arrived (λ f e. arrived f e) old new meets);
    has = λ t h. there t (Contains-push_cases found s t h);
    within = within;
    listed = listed;
  }
    where
      arrived : (f : Found) → f ≡ record {
        point = record { node = node; structure = s };
        origin = origin;
      } → Arrived f
      arrived f e = subst Arrived (sym e) (refl, refl, among)

      there : (t : StructureForm) → Contains found t ⊎ (s ≡ t)
          → IsMet new.found (record { node = node; structure = t })
      there t (inl h) = met-on (λ f. f ≡ record {
        point = record { node = node; structure = s };
        origin = origin;
      }) old new meets (record { node = node; structure = t }) (so_far.has t h)
      there t (inr e) = subst (λ u. IsMet new.found (record { node = node; structure = u })) e has
