-- What an action gives from a stable structure is stable under the rules that it leaves alone and under those of
-- definitions that it evaluates anew, and differs from it in what the action updates and evaluates anew.
use Rattle.std.proofs.Common.{ℕ, suc, ◌≡◌, ◌∙◌, ◌<◌, true, false, Bool, List, [], ◌∷◌, ◌++◌, length}
use Rattle.std.proofs.Common.{map}
use Rattle.std.proofs.Common.{filter, Option, None, Some, inl, inr, ⊎_elim, refl, sym, ap, subst, arith}
use Rattle.std.proofs.Common.{ne_eqb, eq-eqb, get_or, slice_get, All, Contains}
use Rattle.std.specs.Prelude.{◌==◌, ◌||◌, is_some, find}
use Rattle.std.specs.List.{AllZip, range_with_len}
use Rattle.std.proofs.lemmas.Bool.{cond-true, cond-false, false_from_ne_true}
use Rattle.std.proofs.lemmas.List.Elements.{All-contains, All-head, All-tail, Contains-append_left}
use Rattle.std.proofs.lemmas.List.Elements.{Contains-append_right}
use Rattle.std.proofs.lemmas.List.Folds.{list_any_at}
use Rattle.std.proofs.lemmas.List.FromFn.{get_or-map-range_with_len, get_or-range_with_len}
use Rattle.std.proofs.lemmas.List.FromFn.{length-map-range_with_len, length-range_with_len}
use Rattle.tv_model.specs.declared.formula.PredId.{PredId}
use Rattle.tv_model.specs.declared.program.Mode.{Mode}
use Rattle.tv_model.specs.Form.{Form}
use Rattle.tv_model.specs.Program.{ProgramForm, PredForm, RuleForm, ActionForm, UpdateForm, RetainForm}
use Rattle.tv_model.specs.Program.{KindForm, KCore}
use Rattle.tv_model.specs.Program.{KDefined}
use Rattle.tv_model.specs.Step.{update_for}
use Rattle.tv_model.specs.Rules.{blank}
use Rattle.tv_model.specs.Truth.{Assignment, put_all}
use Rattle.tv_model.specs.Valid.{IsKind, IsOver, IsValid}
use Rattle.tv_model.proofs.Decided.{Contains-decided}
use Rattle.tv_model.proofs.Lists.{All-from_contains, Contains-cases, Contains-here, Contains-map}
use Rattle.tv_model.proofs.Lists.{Contains-none, Contains-there, slice_get-contains}
use Rattle.tv_embedding_laws.specs.LogicalStructure.{LogicalStructure}
use Rattle.tv_eval_laws.specs.Value.{value}
use Rattle.tv_kleene.specs.declared.K3.TheVariants.{No}
use Rattle.tv_stable_laws.specs.Laws.{IsPlainRule}
use Rattle.tv_stable_laws.specs.Stable.{IsStable, IsStableUnder}
use Rattle.tv_rules.specs.Closing.{closed_rules}
use Rattle.tv_rules.specs.Defining.{HasDefinedValues}
use Rattle.tv_rules.proofs.DefinedValues.{defined-everywhere}
use Rattle.tv_rules.proofs.Ranges.{rules_are_plain}
use Rattle.tv_rules.specs.Standing.{StandsIn}
use Rattle.tv_coerce_laws.specs.Split.{IsUntouched}
use Rattle.tv_coerce_laws.proofs.Untouched.{untouched_rules_stay_stable}
use Rattle.tv_structure_form.specs.StructureForm.{StructureForm, structure_of, summary_at, value_at}
use Rattle.tv_structure_form.specs.TableForm.{AreIndividuals}
use Rattle.tv_structure_form.proofs.Library.{All-individuals, AreIndividuals-range, Contains-range}
use Rattle.tv_structure_form.proofs.Library.{below-range}
use Rattle.tv_update_laws.specs.Applied.{kind_at, update_at, used_update, new_value, keep_value, IsMiddleOf}
use Rattle.tv_update_laws.specs.Applied.{defined_value, moves_individuals, IsNew}
use Rattle.tv_update_laws.specs.Choices.{choices_of, stays_in, AreGiven}
use Rattle.tv_coerce.specs.RuleSets.{IsStableBut}
use Rattle.tv_update_laws.proofs.Updates.{none-used}
use Rattle.tv_update_laws.proofs.Determined.{changed-too}
use Rattle.tv_update_laws.proofs.Predicates.{defined-found, valid-pred}
use Rattle.tv_update.specs.Plan.{IsPlan, IsPlanFor}
use Rattle.tv_step_laws.proofs.From.{zip-back}
use Rattle.tv_step.specs.declared.changed.Reach.{Reach}
use Rattle.tv_step.specs.declared.changed.Reach.TheVariants.{Anywhere, Of}
use Rattle.tv_coerce_sets.specs.Turned.{AreAlike, HasSameValues}
use Rattle.tv_step.specs.Changed.{AreAlikeBut, DiffersWithin, IsReachOf}
use Rattle.tv_step.specs.Redefined.{AreDefining, IsMetBy}
use Rattle.tv_step.specs.Waiting.{IsLeftAlone, WaitsFor}
use Rattle.tv_step.specs.declared.changed.Redefined.{Redefined}

-- ---- no individual comes or goes

not-fresh : (fresh : Bool) (retain : Option RetainForm) → (fresh || is_some retain) ≡ false → fresh ≡ false
not-fresh false retain none = refl
not-fresh true retain none = cc

no-retain : (fresh : Bool) (retain : Option RetainForm) → (fresh || is_some retain) ≡ false → retain ≡ None
no-retain false None none = refl
no-retain false (Some r) none = cc
no-retain true retain none = cc

all-chosen : (middle : LogicalStructure) (a : Assignment) (us : List ℕ)
    → choices_of (keep_value middle a None) us ≡ us ∷ []
all-chosen middle a [] = refl
all-chosen middle a (u ∷ us) = ap (map (λ ws. u ∷ ws)) (all-chosen middle a us)

one-choice : (middle : LogicalStructure) (a : Assignment) (retain : Option RetainForm) → retain ≡ None
    → (us : List ℕ) → choices_of (keep_value middle a retain) us ≡ us ∷ []
one-choice middle a retain none us =
    subst (λ r. choices_of (keep_value middle a r) us ≡ us ∷ []) (sym none) (all-chosen middle a us)

all-pass : (test : ℕ → Bool) (us : List ℕ) → All (λ u. test u ≡ true) us → filter test us ≡ us
all-pass test [] all = refl
all-pass test (u ∷ us) all =
    cond-true (test u) (u ∷ filter test us) (filter test us) (All-head (λ x. test x ≡ true) u us all)
    ∙ ap (λ (ws : List ℕ). u ∷ ws) (all-pass test us (All-tail (λ x. test x ≡ true) u us all))

all-stay : (us : List ℕ) → filter (stays_in us) us ≡ us
all-stay us =
    all-pass (stays_in us) us (All-from_contains (λ u. stays_in us u ≡ true) us
    (λ u (k, lt, is). list_any_at (λ w. w == u) us k u lt (eq-eqb (get_or us k u) u is)))

-- ---- values that stay

no-update : (q : ℕ) (updates : List UpdateForm) → ¬ Contains (map (λ w. w.pred) updates) q
    → update_for q updates ≡ None
no-update q [] none = refl
no-update q (w ∷ updates) none =
    cond-false (w.pred == q) (Some w) (find (λ v. v.pred == q) updates)
    (ne_eqb w.pred q (λ e. none (subst (Contains (map (λ v. v.pred) (w ∷ updates))) e
    (Contains-here w.pred (map (λ v. v.pred) updates)))))
    ∙ no-update q updates (λ at. none (Contains-there w.pred q (map (λ v. v.pred) updates) at))

kept-value : (middle new : LogicalStructure) (a : Assignment) (changed : Bool) (w : Option UpdateForm)
    (kind : KindForm) (q : ℕ) (origin tuple : List ℕ)
    → w ≡ None → ((vars : List ℕ) (body : Form) → kind ≡ KDefined vars body → changed ≡ false)
    → new_value middle new a changed w kind q origin tuple ≡ middle.value q origin
kept-value middle new a changed w KCore q origin tuple none quiet =
    ap (λ o. new_value middle new a changed o KCore q origin tuple) none
kept-value middle new a changed w (KDefined vars body) q origin tuple none quiet =
    ap (λ o. new_value middle new a changed o (KDefined vars body) q origin tuple) none
    ∙ cond-false changed (defined_value new vars body tuple) (middle.value q origin) (quiet vars body refl)

-- ---- individuals that stay

-- a map of numbers that takes a range to a range leaves each of them as it is
ranges-stay : (f : ℕ → ℕ) (k n : ℕ) → map f (range_with_len 0 k) ≡ range_with_len 0 n
    → (k ≡ n) × ((u : ℕ) → u < k → f u ≡ u)
ranges-stay f k n same = (sizes, values)
  where
    sizes : k ≡ n
    sizes = sym (length-map-range_with_len f 0 k) ∙ ap length same ∙ length-range_with_len 0 n

    values : (u : ℕ) → u < k → f u ≡ u
    values u lt =
        sym (get_or-map-range_with_len f 0 k u u 0 lt (omega arith))
        ∙ ap (λ us. get_or us u 0) same ∙ get_or-range_with_len 0 n u 0 (omega (arith, lt, sizes)) ∙ omega arith

tuple-stays : (f : ℕ → ℕ) (us tuple : List ℕ) → ((u : ℕ) → Contains us u → f u ≡ u)
    → All (Contains us) tuple → map f tuple ≡ tuple
tuple-stays f us [] each all = refl
tuple-stays f us (u ∷ tuple) each all =
    ap (λ (w : ℕ). w ∷ map f tuple) (each u (All-head (Contains us) u tuple all))
    ∙ ap (λ (ws : List ℕ). u ∷ ws) (tuple-stays f us tuple each (All-tail (Contains us) u tuple all))

-- ---- the new structure

-- where no individual comes or goes, the middle structure is the old one, and there is one choice
given-new : (p : ProgramForm) (mode : Mode) (action : ActionForm) (s t : StructureForm) (a : Assignment)
    (ts : List StructureForm) → moves_individuals action ≡ false
    → AreGiven p mode action (structure_of s) a (map structure_of ts) → Contains ts t
    → IsNew p mode action a (structure_of s) (stays_in (structure_of s).individuals) (structure_of t)
given-new p mode action s t a ts stays (middle, of_s, news) at =
    let same : middle ≡ structure_of s
    = subst (λ fresh. IsMiddleOf fresh (structure_of s) middle) (not-fresh action.fresh action.retain stays) of_s
    in let ls : List LogicalStructure = map structure_of ts
    in let R : List ℕ → LogicalStructure → Type 0 = λ us l. IsNew p mode action a middle (stays_in us) l
    in let one : choices_of (keep_value middle a action.retain) middle.individuals ≡ middle.individuals ∷ []
    = one-choice middle a action.retain (no-retain action.fresh action.retain stays) middle.individuals
    in let found = zip-back R (middle.individuals ∷ []) ls (subst (λ uss. AllZip R uss ls) one news)
    (structure_of t)
    (Contains-map structure_of t ts at)
    in let all : middle.individuals ≡ found.0
    = ⊎_elim (λ e. e) (λ none. absurd (Contains-none found.0 none))
    (Contains-cases middle.individuals found.0 [] found.1)
    in subst (λ (m : LogicalStructure). IsNew p mode action a m (stays_in m.individuals) (structure_of t)) same
    (subst (λ us. R us (structure_of t)) (sym all) found.2)

module _ (p : ProgramForm) (mode : Mode) (action : ActionForm) (a : Assignment) (s t : StructureForm)
    (is : IsNew p mode action a (structure_of s) (stays_in (structure_of s).individuals) (structure_of t)) where
  ranges : (t.size ≡ s.size) × ((u : ℕ) → u < t.size → is.origin u ≡ u)
  ranges = ranges-stay is.origin t.size s.size (is.origins ∙ all-stay (structure_of s).individuals)

  same-value : (q : ℕ) → update_at p mode action q ≡ None
      → ((vars : List ℕ) (body : Form) → kind_at p q ≡ KDefined vars body → is.changed q ≡ false)
      → HasSameValues q s t
  same-value q none quiet tuple within =
      let all : All (Contains (structure_of t).individuals) tuple
      = All-individuals t.size tuple (subst (λ n. AreIndividuals n tuple) (sym ranges.0) within)
      in sym (is.values q tuple all
      ∙ kept-value (structure_of s) (structure_of t) a (is.changed q) (update_at p mode action q) (kind_at p q) q
      (map is.origin tuple) tuple none quiet
      ∙ ap (value_at s q) (tuple-stays is.origin (structure_of t).individuals tuple
      (λ u at. ranges.1 u (below-range t.size u at)) all))

  alike : AreAlike s t
  alike = record {
    size = sym ranges.0;
    summaries = λ u lt. let inside : u < t.size = omega (arith, lt, ranges.0)
        in sym (is.summaries u (Contains-range t.size u inside) ∙ ap (summary_at s) (ranges.1 u inside));
  }

-- a predicate without an update has none that counts
none-counts : (p : ProgramForm) (mode : Mode) (action : ActionForm) (q : ℕ)
    → ¬ Contains (map (λ w. w.pred) action.updates) q → update_at p mode action q ≡ None
none-counts p mode action q none =
    ap (used_update mode (kind_at p q)) (no-update q action.updates none) ∙ none-used mode (kind_at p q)

given-stable : (p : ProgramForm) (mode : Mode) (action : ActionForm) (s t : StructureForm) (a : Assignment)
    (ts : List StructureForm) (rule : RuleForm)
    → IsPlainRule rule → IsLeftAlone p action rule → IsStableUnder (structure_of s) rule
    → AreGiven p mode action (structure_of s) a (map structure_of ts)
    → Contains ts t → IsStableUnder (structure_of t) rule
given-stable p mode action s t a ts rule plain alone stable given at =
    untouched_rules_stay_stable (structure_of s) (structure_of t) rule plain.unmarked untouched stable
  where
    is : IsNew p mode action a (structure_of s) (stays_in (structure_of s).individuals) (structure_of t)
    is = given-new p mode action s t a ts alone.stays given at

    like : AreAlike s t
    like = alike p mode action a s t is

    core : (q : ℕ) → StandsIn q rule → (vars : List ℕ) (body : Form) → kind_at p q ≡ KDefined vars body
        → is.changed q ≡ false
    core q stands vars body defined = let clash : KCore ≡ KDefined vars body = sym (alone.core q stands) ∙ defined
        in absurd (cc)

    untouched : IsUntouched rule (structure_of s) (structure_of t)
    untouched = record {
      individuals = λ u. (
        λ here. subst (λ n. Contains (range_with_len 0 n) u) like.size here,
        λ here. subst (λ n. Contains (range_with_len 0 n) u) (sym like.size) here,
      );
      values = λ q stands tuple all.
          same-value p mode action a s t is q (none-counts p mode action q (alone.kept q stands))
          (core q stands) tuple (AreIndividuals-range s.size tuple all);
      summaries = λ u here. like.summaries u (below-range s.size u here);
    }

-- only the rules that wait may be unmet in what the action gives
pub given-rest : (p : ProgramForm) → IsValid p → (mode : Mode) (action : ActionForm) (s : StructureForm)
    (a : Assignment) (ts : List StructureForm) (rules : List RuleForm) (set : List Bool)
    → rules ≡ closed_rules p → IsStable (closed_rules p) (structure_of s)
    → AreGiven p mode action (structure_of s) a (map structure_of ts) → WaitsFor p action rules set
    → All (IsStableBut rules set) ts
given-rest p valid mode action s a ts rules set same stable given waits =
    All-from_contains (IsStableBut rules set) ts
    (λ t at n rule there out. let in_closed : Contains (closed_rules p) rule
    = slice_get-contains (closed_rules p) n rule (subst (λ rs. slice_get rs n ≡ Some rule) same there)
    in given-stable p mode action s t a ts rule
    (All-contains IsPlainRule (closed_rules p) rule (rules_are_plain p valid) in_closed)
    (waits.alone n rule there out)
    (All-contains (IsStableUnder (structure_of s)) (closed_rules p) rule stable in_closed) given at)

-- ---- the predicates that may differ

-- what isn't updated and isn't in the plan has the same values
given-alike : (p : ProgramForm) → IsValid p → (mode : Mode) (action : ActionForm) (s t : StructureForm)
    (a : Assignment) (ts : List StructureForm) (order : List ℕ) → IsPlan p mode action order
    → moves_individuals action ≡ false
    → AreGiven p mode action (structure_of s) a (map structure_of ts) → Contains ts t
    → AreAlikeBut (map (λ w. w.pred) action.updates ++ order) s t
given-alike p valid mode action s t a ts order plan stays given at = record {
  alike = alike p mode action a s t is;
  others = λ q. ⊎_elim (λ among. inl (Contains-append_left updated order q among))
      (λ none. ⊎_elim (λ among. inl (Contains-append_right updated order q among))
      (λ out. inr (same-value p mode action a s t is q (none-counts p mode action q none)
      (λ vars body defined. false_from_ne_true (is.changed q)
      (λ changed. out ((plan.members q).1 (
        changed-too p mode action valid.rank valid.no_cycle is.changed plan.changed is.are_changed
            plan.are_changed (suc (valid.rank q)) q (omega arith) changed,
        none-counts p mode action q none,
      ))))))
      (Contains-decided order q))
      (Contains-decided updated q);
}
  where
    updated : List ℕ
    updated = map (λ w. w.pred) action.updates

    is : IsNew p mode action a (structure_of s) (stays_in (structure_of s).individuals) (structure_of t)
    is = given-new p mode action s t a ts stays given at

-- what the action gives differs within its reach
pub given-within : (p : ProgramForm) → IsValid p → (mode : Mode) (action : ActionForm) (s : StructureForm)
    (a : Assignment) (ts : List StructureForm) (plan : List PredId) → IsPlanFor p mode action plan
    → AreGiven p mode action (structure_of s) a (map structure_of ts)
    → (reach : Reach) → IsReachOf action plan reach → All (DiffersWithin reach s) ts
given-within p valid mode action s a ts plan is_plan given Anywhere of = λ k d lt. tt
given-within p valid mode action s a ts plan is_plan given (Of updates preds) (stays, same, planned) =
    subst (λ qs. All (AreAlikeBut qs s) ts) reached
    (All-from_contains (AreAlikeBut (map (λ w. w.pred) action.updates ++ map (λ x. x.0) plan) s) ts
    (λ t at. given-alike p valid mode action s t a ts (map (λ x. x.0) plan) is_plan stays given at))
  where
    reached : map (λ w. w.pred) action.updates ++ map (λ x. x.0) plan
        ≡ map (λ w. w.pred.0) updates.now ++ map (λ x. x.0) preds.now
    reached = ap (λ qs. qs ++ map (λ x. x.0) plan) (sym same)
        ∙ ap (λ xs. map (λ w. w.pred.0) updates.now ++ map (λ x. x.0) xs) (sym planned)

-- ---- definitions that are evaluated anew

-- a predicate of the plan has the values of its definition in what the action gives
pub given-defined : (p : ProgramForm) → IsValid p → (mode : Mode) (action : ActionForm) (s t : StructureForm)
    (a : Assignment) (ts : List StructureForm) (order : List ℕ) → IsPlan p mode action order
    → AreGiven p mode action (structure_of s) a (map structure_of ts) → Contains ts t
    → (q : ℕ) → Contains order q → HasDefinedValues (structure_of t) q (kind_at p q)
given-defined p valid mode action s t a ts order plan given at q among = by_kind (kind_at p q) refl
  where
    middle : LogicalStructure
    middle = given.0

    new : LogicalStructure
    new = structure_of t

    found : (us : List ℕ) × Contains (choices_of (keep_value middle a action.retain) middle.individuals) us
        × IsNew p mode action a middle (stays_in us) new
    found = zip-back (λ us u. IsNew p mode action a middle (stays_in us) u)
        (choices_of (keep_value middle a action.retain) middle.individuals) (map structure_of ts) given.2 new
        (Contains-map structure_of t ts at)

    is : IsNew p mode action a middle (stays_in found.0) new
    is = found.2

    changed : is.changed q ≡ true
    changed = changed-too p mode action valid.rank valid.no_cycle plan.changed is.changed plan.are_changed
        is.are_changed (suc (valid.rank q)) q (omega arith) ((plan.members q).0 among).0

    by_kind : (kind : KindForm) → kind_at p q ≡ kind → HasDefinedValues new q (kind_at p q)
    by_kind KCore e = subst (HasDefinedValues new q) (sym e) tt
    by_kind (KDefined vars body) e = subst (HasDefinedValues new q) (sym e)
        (defined-everywhere new q vars body over values)
      where
        over : IsOver vars body
        over = let f : (d : PredForm) × (slice_get p.preds q ≡ Some d) × (d.kind ≡ KDefined vars body)
            = defined-found p q vars body e
            in (subst (IsKind p f.0.arity) f.2 (valid-pred p valid q f.0 f.1).kind).2

        values : (tuple : List ℕ) → All (Contains new.individuals) tuple → length tuple ≡ length vars
            → new.value q tuple ≡ value new (put_all blank vars tuple) body
        values tuple all long =
            is.values q tuple all
            ∙ ap (λ o. new_value middle new a (is.changed q) o (kind_at p q) q (map is.origin tuple) tuple) ((plan.members q).0 among).1
            ∙ ap (λ k. new_value middle new a (is.changed q) None k q (map is.origin tuple) tuple) e
            ∙ cond-true (is.changed q) (defined_value new vars body tuple) (middle.value q (map is.origin tuple)) changed
            ∙ cond-true (length tuple == length vars) (value new (put_all blank vars tuple) body) No
            (eq-eqb (length tuple) (length vars) long)

-- so each rule that came of such a definition is met there
pub given-met : (p : ProgramForm) → IsValid p → (mode : Mode) (action : ActionForm) (s : StructureForm)
    (a : Assignment) (ts : List StructureForm) (plan : List PredId) → IsPlanFor p mode action plan
    → AreGiven p mode action (structure_of s) a (map structure_of ts)
    → (rules : List RuleForm) (r : Redefined) → AreDefining p rules r.defining.now → r.preds.now ≡ plan
    → All (IsMetBy r rules) ts
given-met p valid mode action s a ts plan is_plan given rules r defining same =
    All-from_contains (IsMetBy r rules) ts
    (λ t at n of. (
      defining.within of.0 n of.2,
      λ rule there. defining.met of.0 n of.2 (structure_of t)
          (given-defined p valid mode action s t a ts (map (λ x. x.0) plan) is_plan given at of.0
          (subst (λ xs. Contains (map (λ x. x.0) xs) of.0) same of.1)) rule there,
    ))
