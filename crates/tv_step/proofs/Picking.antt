-- What an action gives under the individuals that it may pick.
use Rattle.std.proofs.Common.{ℕ, ◌≡◌, ◌∙◌, ◌<◌, ◌≤◌, ◌+◌, ◌*◌, zero, suc, true, false, List, [], ◌∷◌}
use Rattle.std.proofs.Common.{◌++◌, length, map, filter, min, mul_comm, Option, Some, inl, inr, ⊎_elim, refl}
use Rattle.std.proofs.Common.{sym, ap, subst, arith, get_or, slice_get, All, Contains}
use Rattle.std.specs.Prelude.{Any}
use Rattle.std.specs.List.{flat_map, range_with_len}
use Rattle.std.proofs.lemmas.Bool.{cond-true, cond-false, cases_lt}
use Rattle.std.proofs.lemmas.List.{append-nil, length-append, length-map}
use Rattle.std.proofs.lemmas.List.Elements.{All-nil, All-cons, All-append, All-contains}
use Rattle.std.proofs.lemmas.List.Elements.{All-map}
use Rattle.std.proofs.lemmas.Option.{get_or_from_slice_get}
use Rattle.tv_lemmas.proofs.Lists.{All-flat_map}
use Rattle.tv_model.specs.declared.program.Mode.{Mode}
use Rattle.tv_model.specs.declared.program.Program.{Program}
use Rattle.tv_model.specs.Form.{Form, height}
use Rattle.tv_model.specs.Program.{ProgramForm, ActionForm, program_of}
use Rattle.tv_model.specs.Rules.{blank}
use Rattle.tv_model.specs.Truth.{Assignment, put, put_all}
use Rattle.tv_model.specs.Valid.{IsValid, IsAction, IsPrecondition, IsPlainFormula, free_occurrences}
use Rattle.tv_model.specs.Valid.{first_occurrences}
use Rattle.tv_model.proofs.Lists.{Contains-map, Contains-flat_map, Contains-filter}
use Rattle.tv_model.proofs.Lists.{Contains-filter_back, All-from_contains, slice_get-contains}
use Rattle.tv_model.proofs.Parts.{first-occurs}
use Rattle.tv_eval_laws.proofs.Rounds.{range-push}
use Rattle.tv_structure_form.proofs.Library.{Contains-range, below-range}
use Rattle.tv_eval.specs.AssignmentForm.{IsAssigned}
use Rattle.tv_eval.specs.Formulas.{AreAssigned}
use Rattle.tv_eval.specs.ScratchForm.{program_height}
use Rattle.tv_eval.proofs.Programs.{within_height}
use Rattle.tv_structure_form.specs.StructureForm.{StructureForm, IsStructure, structure_of}
use Rattle.tv_struct.specs.declared.analysis.StageError.{StageError}
use Rattle.tv_struct.specs.declared.analysis.StageError.TheVariants.{Splits, Individuals, Memory}
use Rattle.tv_update_laws.specs.Choices.{AreGiven}
use Rattle.tv_update_laws.specs.Picks.{picks_of, lists_of, passing_picks}
use Rattle.tv_update_laws.specs.Tables.{HasManyChoices, IsTooLarge, IsGivenOver}
use Rattle.tv_update_laws.proofs.Preconditions.{free-occurs}
use Rattle.tv_update.specs.Update.{action_at, no_action, IsWithinLimits, IsUpdateCause}
use Rattle.tv_step_laws.specs.Parts.{AreFrom}
use Rattle.tv_step_laws.specs.Shaped.{IsShaped}
use Rattle.tv_step_laws.specs.Transfer.{GivesStructures, Finishes}
use Rattle.tv_step_laws.proofs.From.{from-all, from-append}
use Rattle.tv_step.specs.Steps.{Adds, Ends, passes, PickGives, PicksGive, PickKeepsLimits, PicksKeepLimits}
use Rattle.tv_step.specs.Steps.{IsCauseOfPick, IsCauseOfPicks, StepsIn, KeepsUpdateLimits, IsCauseOfUpdate}
use Rattle.tv_step.specs.Steps.{IsCauseOfUpdates}
use Rattle.tv_step.proofs.Adding.{adds-more, each-unit, from-one, from-weaker}

-- ---- the action

pub action-of : (p : ProgramForm) → IsValid p → (n : ℕ) (action : ActionForm)
    → slice_get p.actions n ≡ Some action → IsAction p action
action-of p valid n action there = All-contains (IsAction p) p.actions action valid.actions
    (slice_get-contains p.actions n action there)

pub same-action : (program : Program) (n : ℕ) (action : ActionForm)
    → slice_get (program_of program).actions n ≡ Some action
    → action_at program n ≡ action
same-action program n action there = get_or_from_slice_get
    (program_of program).actions n action no_action there

-- ---- the precondition

pub precondition-is : (p : ProgramForm) → IsValid p → (n : ℕ) (action : ActionForm)
    → slice_get p.actions n ≡ Some action
    → (f : Form) → action.pre ≡ Some f → IsPlainFormula p f
    × (action.picks ≡ first_occurrences (free_occurrences f))
precondition-is p valid n action there f is =
    subst (λ pre. IsPrecondition p pre action.picks) is (action-of p valid n action there).precondition

pub precondition-assigned : (p : ProgramForm) → IsValid p → (n : ℕ) (action : ActionForm)
    → slice_get p.actions n ≡ Some action
    → (f : Form) → action.pre ≡ Some f → (size : ℕ) (places : List (Option ℕ))
    → All (IsAssigned size places) action.picks
    → AreAssigned size places f
precondition-assigned p valid n action there f is size places picked v free =
    All-contains (IsAssigned size places) action.picks v picked
    (subst (λ vars. Contains vars v) (sym (precondition-is p valid n action there f is).1)
    (first-occurs (free_occurrences f) v (free-occurs f v free)))

pub precondition-room : (p : ProgramForm) (n : ℕ) (action : ActionForm) → slice_get p.actions n ≡ Some action
    → (f : Form) → action.pre ≡ Some f → height f ≤ program_height p
precondition-room p n action there f is =
    (within_height p).preconditions action f (slice_get-contains p.actions n action there) is

-- ---- one assignment

pub given-shaped : (p : ProgramForm) (s : StructureForm) (ts : List StructureForm) → IsShaped p s
    → All (IsGivenOver s) ts
    → All (IsShaped p) ts
given-shaped p s ts shaped over k d lt =
    let is : IsGivenOver s (get_or ts k d) = over k d lt
    in record { over = is.over ∙ shaped.over; planes = is.is.table.planes; summaries = is.is.summaries }

pub pick-cause : (action : ActionForm) (s : StructureForm) (a : Assignment) (e : StageError)
    → passes action s a ≡ true
    → IsUpdateCause action s a e → IsCauseOfPick action s a e
pick-cause action s a Splits passed cause = (passed, cause.1)
pick-cause action s a Individuals passed cause = (passed, cause.0)
pick-cause action s a Memory passed cause = tt

-- ---- all assignments

put-first : (a : Assignment) (v : ℕ) (vars : List ℕ) (u : ℕ) (us : List ℕ)
    → put_all a (v ∷ vars) (u ∷ us) ≡ put_all (put a v u) vars us
put-first a v vars u us = refl

from-mapped : {X Y Z : Type 0} (R : Y → List Z → Type 0) (f : X → Y) (xs : List X) (zs : List Z)
    → AreFrom (λ x own. R (f x) own) xs zs → AreFrom R (map f xs) zs
from-mapped R f [] zs are = are
from-mapped R f (x ∷ xs) zs (own, rest, made, later, is) =
    (own, rest, made, from-mapped R f xs rest later, is)

from-flat : {X Y Z : Type 0} (R : Y → List Z → Type 0) (f : X → List Y) (xs : List X) (zs : List Z)
    → AreFrom (λ x own. AreFrom R (f x) own) xs zs → AreFrom R (flat_map f xs) zs
from-flat R f [] zs are = are
from-flat R f (x ∷ xs) zs (own, rest, made, later, is) =
    subst (AreFrom R (f x ++ flat_map f xs)) (sym is)
    (from-append R (f x) (flat_map f xs) own rest made (from-flat R f xs rest later))

-- the picks of a first variable, one after the other, are all picks
pub picks-first : (p : ProgramForm) (mode : Mode) (action : ActionForm) (s : StructureForm) (v : ℕ)
    (vars : List ℕ) (a : Assignment)
    (ts : List StructureForm)
    → AreFrom (λ u own. PicksGive p mode action s vars (put a v u) own) (structure_of s).individuals ts
    → PicksGive p mode action s (v ∷ vars) a ts
picks-first p mode action s v vars a ts are =
    let R : List ℕ → List StructureForm
    → Type 0 = λ us own. PickGives p mode action s (put_all a (v ∷ vars) us) own
    in let us : List ℕ = (structure_of s).individuals
    in from-flat R (λ u. map (λ ws. u ∷ ws) (lists_of us (length vars))) us ts
    (from-weaker (λ u own. PicksGive p mode action s vars (put a v u) own)
    (λ u own. AreFrom R (map (λ ws. u ∷ ws) (lists_of us (length vars))) own)
    (λ u own made. from-mapped R (λ ws. u ∷ ws) (lists_of us (length vars)) own made) us ts are)

pub limits-first : (action : ActionForm) (s : StructureForm) (v : ℕ) (vars : List ℕ) (a : Assignment)
    → All (λ u. PicksKeepLimits action s vars (put a v u)) (structure_of s).individuals
    → PicksKeepLimits action s (v ∷ vars) a
limits-first action s v vars a all =
    let P : List ℕ → Type 0 = λ us. PickKeepsLimits action s (put_all a (v ∷ vars) us)
    in let us : List ℕ = (structure_of s).individuals
    in All-flat_map P (λ u. map (λ ws. u ∷ ws) (lists_of us (length vars))) us
    (λ k d lt. All-map P (λ ws. get_or us k d ∷ ws) (lists_of us (length vars)) (all k d lt))

pub given-adds : (p : ProgramForm) (mode : Mode) (action : ActionForm) (s : StructureForm) (a : Assignment)
    (given old new : List StructureForm) → passes action s a ≡ true
    → AreGiven p mode action (structure_of s) a (map structure_of given) → All (IsShaped p) given
    → Adds (AreFrom (Ends p)) given old new → Adds (PickGives p mode action s) a old new
given-adds p mode action s a given old new passed are shaped (own, ends, is) =
    (own, inr (passed, record { given = given; are_given = are; shaped = shaped; ends = ends }), is)

pub none-adds : (p : ProgramForm) (mode : Mode) (action : ActionForm) (s : StructureForm) (a : Assignment)
    (old : List StructureForm)
    → passes action s a ≡ false → Adds (PickGives p mode action s) a old old
none-adds p mode action s a old passed = ([], inl (passed, refl), sym (append-nil old))

-- ---- how many there are

pub lists-count : (us : List ℕ) (n : ℕ) → length (lists_of us (suc n)) ≡ length us * length (lists_of us n)
lists-count us n = each us
  where
    each : (ws : List ℕ)
        → length (flat_map (λ u. map (λ rest. u ∷ rest) (lists_of us n)) ws) ≡ length ws * length
        (lists_of us n)
    each [] = omega arith
    each (w ∷ ws) =
        length-append (map (λ rest. w ∷ rest) (lists_of us n))
        (flat_map (λ u. map (λ rest. u ∷ rest) (lists_of us n)) ws)
        ∙ (let head : length (map (λ rest. w ∷ rest) (lists_of us n)) ≡ length (lists_of us n) = length-map
        (lists_of us n) (λ rest. w ∷ rest)
        in let tail : length (flat_map (λ u. map (λ rest. u ∷ rest) (lists_of us n)) ws) ≡ length ws * length
        (lists_of us n) = each ws
        in grind (arith, head, tail))

-- a product that is cut off at 4,097 after each factor
pub cut-next : (n size total r : ℕ) → total ≡ min n 4097 → r ≡ min (total * size) 4097
    → r ≡ min (size * n) 4097
cut-next n zero total r cut is =
    let left : total * 0 ≡ 0 = grind arith
    in let right : 0 * n ≡ 0 = grind arith
    in omega (arith, is, left, right)
cut-next n (suc k) total r cut is =
    let left : total * suc k ≡ total + total * k = grind arith
    in let right : suc k * n ≡ n + n * k = grind arith
    in ⊎_elim
    (λ few. let same : total ≡ n = omega (arith, cut, few)
    in is ∙ ap (λ m. min m 4097) (ap (λ m. m * suc k) same ∙ mul_comm n (suc k)))
    (λ many. omega (arith, is, left, right, cut, many))
    (cases_lt n 4097)

-- ---- one variable after the other

-- the picks of one more individual
pub picks-next : (p : ProgramForm) (mode : Mode) (action : ActionForm) (s : StructureForm) (v : ℕ)
    (vars : List ℕ) (a b : Assignment)
    (u : ℕ) (old mid new : List StructureForm) → b ≡ put a v u
    → Adds (AreFrom (λ w own. PicksGive p mode action s vars (put a v w) own)) (range_with_len 0 u) old mid
    → Adds (PicksGive p mode action s vars) b mid new
    → Adds (AreFrom (λ w own. PicksGive p mode action s vars (put a v w) own))
    (range_with_len 0 (u + 1)) old new
picks-next p mode action s v vars a b u old mid new same before made =
    rw (range-push u)
    (adds-more (λ w own. PicksGive p mode action s vars (put a v w) own)
    (range_with_len 0 u) u old mid new before
    (subst (λ c. Adds (PicksGive p mode action s vars) c mid new) same made))

pub picks-done : (p : ProgramForm) (mode : Mode) (action : ActionForm) (s : StructureForm) (v : ℕ)
    (vars : List ℕ) (a : Assignment)
    (u : ℕ) (old new : List StructureForm) → u ≡ s.size
    → Adds (AreFrom (λ w own. PicksGive p mode action s vars (put a v w) own)) (range_with_len 0 u) old new
    → Adds (PicksGive p mode action s (v ∷ vars)) a old new
picks-done p mode action s v vars a u old new all (own, are, is) = (
  own,
  picks-first p mode action s v vars a own
      (subst (λ n. AreFrom (λ w part. PicksGive p mode action s vars (put a v w) part)
      (range_with_len 0 n) own) all are),
  is,
)

pub limits-next : (action : ActionForm) (s : StructureForm) (v : ℕ) (vars : List ℕ) (a b : Assignment) (u : ℕ)
    → b ≡ put a v u
    → All (λ w. PicksKeepLimits action s vars (put a v w)) (range_with_len 0 u)
    → PicksKeepLimits action s vars b
    → All (λ w. PicksKeepLimits action s vars (put a v w)) (range_with_len 0 (u + 1))
limits-next action s v vars a b u same before own =
    let P : ℕ → Type 0 = λ w. PicksKeepLimits action s vars (put a v w)
    in rw (range-push u)
    (All-append P (range_with_len 0 u) (u ∷ []) before
    (All-cons P u [] (subst (PicksKeepLimits action s vars) same own) (All-nil P)))

pub limits-done : (action : ActionForm) (s : StructureForm) (v : ℕ) (vars : List ℕ) (a : Assignment) (u : ℕ)
    → u ≡ s.size
    → All (λ w. PicksKeepLimits action s vars (put a v w)) (range_with_len 0 u)
    → PicksKeepLimits action s (v ∷ vars) a
limits-done action s v vars a u all limits =
    limits-first action s v vars a
    (subst (λ n. All (λ w. PicksKeepLimits action s vars (put a v w)) (range_with_len 0 n)) all limits)

-- the individuals from n on and below m are passed over
pub picks-skipped : {Y : Type 0} (R : ℕ → List Y → Type 0) (n m : ℕ) (old new : List Y) → n ≤ m
    → ((k : ℕ) → n ≤ k → k < m → R k [])
    → Adds (AreFrom R) (range_with_len 0 n) old new → Adds (AreFrom R) (range_with_len 0 m) old new
picks-skipped R n zero old new le none added =
    let same : n ≡ 0 = omega (arith, le) in subst (λ j. Adds (AreFrom R) (range_with_len 0 j) old new) same added
picks-skipped R n (suc m) old new le none added =
    ⊎_elim
    (λ below. let before : Adds (AreFrom R) (range_with_len 0 m) old new
    = picks-skipped R n m old new (omega (arith, below)) (λ k from lt. none k from (omega (arith, lt))) added
    in let next : Adds (AreFrom R) (range_with_len 0 (m + 1)) old new
    = rw (range-push m) (adds-more R (range_with_len 0 m) m old new new before
    ([], none m (omega (arith, below)) (omega arith), sym (append-nil new)))
    in let same : m + 1 ≡ suc m = omega arith
    in subst (λ j. Adds (AreFrom R) (range_with_len 0 j) old new) same next)
    (λ past. let same : n ≡ suc m = omega (arith, le, past)
    in subst (λ j. Adds (AreFrom R) (range_with_len 0 j) old new) same added)
    (cases_lt n (suc m))

pub limits-skipped : (P : ℕ → Type 0) (n m : ℕ) → ((k : ℕ) → n ≤ k → k < m → P k)
    → All P (range_with_len 0 n) → All P (range_with_len 0 m)
limits-skipped P n m none all =
    All-from_contains P (range_with_len 0 m)
    (λ k at. ⊎_elim (λ below. All-contains P (range_with_len 0 n) k all (Contains-range n k below))
    (λ past. none k past (below-range m k at)) (cases_lt k n))

any-first : (Q : Assignment → Type 0) (us : List ℕ) (v : ℕ) (vars : List ℕ) (a : Assignment) (u : ℕ)
    → Contains us u
    → Any (λ ws. Q (put_all (put a v u) vars ws)) (lists_of us (length vars))
    → Any (λ ws. Q (put_all a (v ∷ vars) ws)) (lists_of us (length (v ∷ vars)))
any-first Q us v vars a u at (k, ws, lt, is, holds) =
    let inner : Contains (map (λ rest. u ∷ rest) (lists_of us (length vars))) (u ∷ ws)
    = Contains-map (λ rest. u ∷ rest) ws (lists_of us (length vars)) (k, lt, is)
    in let found : Contains (lists_of us (length (v ∷ vars))) (u ∷ ws)
    = Contains-flat_map (λ x. map (λ rest. x ∷ rest) (lists_of us (length vars))) us u (u ∷ ws) at inner
    in (found.0, u ∷ ws, found.1, found.2, holds)

pub cause-first : (action : ActionForm) (s : StructureForm) (v : ℕ) (vars : List ℕ) (a b : Assignment) (u : ℕ)
    (e : StageError)
    → b ≡ put a v u → u < s.size → IsCauseOfPicks action s vars b e → IsCauseOfPicks action s (v ∷ vars) a e
cause-first action s v vars a b u Splits same lt cause =
    any-first (λ c. IsCauseOfPick action s c Splits) (structure_of s).individuals v vars a u
    (Contains-range s.size u lt)
    (subst (λ c. IsCauseOfPicks action s vars c Splits) same cause)
cause-first action s v vars a b u Individuals same lt cause =
    any-first (λ c. IsCauseOfPick action s c Individuals) (structure_of s).individuals v vars a u
    (Contains-range s.size u lt)
    (subst (λ c. IsCauseOfPicks action s vars c Individuals) same cause)
cause-first action s v vars a b u Memory same lt cause = tt

-- where no variable is left, there is one list
pub picks-none : (p : ProgramForm) (mode : Mode) (action : ActionForm) (s : StructureForm) (vars : List ℕ)
    (a : Assignment)
    (old new : List StructureForm) → vars ≡ [] → Adds (PickGives p mode action s) a old new
    → Adds (PicksGive p mode action s vars) a old new
picks-none p mode action s vars a old new none (own, made, is) =
    subst (λ vs. Adds (PicksGive p mode action s vs) a old new) (sym none)
    (own, from-one (λ us part. PickGives p mode action s (put_all a [] us) part) [] own made, is)

pub limits-none : (action : ActionForm) (s : StructureForm) (vars : List ℕ) (a : Assignment) → vars ≡ []
    → PickKeepsLimits action s a → PicksKeepLimits action s vars a
limits-none action s vars a none keeps =
    let P : List ℕ → Type 0 = λ us. PickKeepsLimits action s (put_all a [] us)
    in subst (λ vs. PicksKeepLimits action s vs a) (sym none) (All-cons P [] [] keeps (All-nil P))

pub cause-none : (action : ActionForm) (s : StructureForm) (vars : List ℕ) (a : Assignment) (e : StageError)
    → vars ≡ []
    → IsCauseOfPick action s a e → IsCauseOfPicks action s vars a e
cause-none action s vars a Splits none cause =
    subst (λ vs. IsCauseOfPicks action s vs a Splits) (sym none) (0, [], omega arith, refl, cause)
cause-none action s vars a Individuals none cause =
    subst (λ vs. IsCauseOfPicks action s vs a Individuals) (sym none) (0, [], omega arith, refl, cause)
cause-none action s vars a Memory none cause = tt

-- nothing is given where the assignment doesn't pass
pub pick-fails : (p : ProgramForm) (mode : Mode) (action : ActionForm) (s : StructureForm) (a : Assignment)
    → passes action s a ≡ false → PicksGive p mode action s [] a []
pick-fails p mode action s a fails =
    from-one (λ us part. PickGives p mode action s (put_all a [] us) part) [] [] (inl (fails, refl))

pub limit-fails : (action : ActionForm) (s : StructureForm) (a : Assignment)
    → passes action s a ≡ false → PicksKeepLimits action s [] a
limit-fails action s a fails = limits-none action s [] a refl (λ passed. absurd (cc (passed, fails)))

-- ---- all that an action may pick

abbrev pub PassingGive : ProgramForm → Mode → ActionForm → StructureForm → List (List ℕ) → List StructureForm
    → Type 0
PassingGive p mode action s picks ts =
    (given : List StructureForm)
    × AreFrom (GivesStructures p mode action s) (filter (λ us. passes action s (picks_of action us)) picks) given
    × AreFrom (Ends p) given ts

passing-give : (p : ProgramForm) (mode : Mode) (action : ActionForm) (s : StructureForm)
    (picks : List (List ℕ))
    (ts : List StructureForm)
    → AreFrom (λ us own. PickGives p mode action s (picks_of action us) own) picks ts
    → PassingGive p mode action s picks ts
passing-give p mode action s [] ts are = ([], refl, are)
passing-give p mode action s (us ∷ picks) ts (own, rest, inl (fails, none), later, is) =
    let found : PassingGive p mode action s picks rest = passing-give p mode action s picks rest later
    in let same : ts ≡ rest = is ∙ ap (λ xs. xs ++ rest) none
    in rw (cond-false (passes action s (picks_of action us))
    (us ∷ filter (λ ws. passes action s (picks_of action ws)) picks)
    (filter (λ ws. passes action s (picks_of action ws)) picks) fails)
    (found.0, found.1, subst (AreFrom (Ends p) found.0) (sym same) found.2)
passing-give p mode action s (us ∷ picks) ts (own, rest, inr (passed, gives), later, is) =
    let found : PassingGive p mode action s picks rest = passing-give p mode action s picks rest later
    in rw (cond-true (passes action s (picks_of action us))
    (us ∷ filter (λ ws. passes action s (picks_of action ws)) picks)
    (filter (λ ws. passes action s (picks_of action ws)) picks) passed) (
      gives.given ++ found.0,
      (gives.given, found.0, (gives.are_given, gives.shaped), found.1, refl),
      subst (AreFrom (Ends p) (gives.given ++ found.0)) (sym is)
          (from-append (Ends p) gives.given found.0 own rest gives.ends found.2),
    )

pub steps-add : (p : ProgramForm) (mode : Mode) (action : ActionForm) (s : StructureForm) (a : Assignment)
    (old new : List StructureForm)
    → a ≡ blank → Adds (PicksGive p mode action s action.picks) a old new
    → Adds (StepsIn p mode action) s old new
steps-add p mode action s a old new is_blank added =
    let all : Adds (PicksGive p mode action s action.picks) blank old new
    = subst (λ b. Adds (PicksGive p mode action s action.picks) b old new) is_blank added
    in let found : PassingGive p mode action s
    (lists_of (structure_of s).individuals (length action.picks)) all.0
    = passing-give p mode action s (lists_of (structure_of s).individuals (length action.picks)) all.0 all.1
    in (
      all.0,
      (
        (found.0, found.1, from-weaker (Ends p) (Finishes p) (λ u ts ends. ends.0) found.0 all.0 found.2),
        from-all (Ends p) (λ u. Unit {0}) IsStructure (λ u ts unit ends. ends.1) found.0 all.0 found.2
            (each-unit found.0),
      ),
      all.2,
    )

pub steps-within : (action : ActionForm) (s : StructureForm) (a : Assignment) → a ≡ blank
    → length (lists_of (structure_of s).individuals (length action.picks)) ≤ 4096
    → PicksKeepLimits action s action.picks a → KeepsUpdateLimits action s
steps-within action s a is_blank few limits = record {
  few_picks = few;
  within = All-from_contains (λ picked. IsWithinLimits action s (picks_of action picked))
      (passing_picks action (structure_of s))
      (λ picked at.
      let back = Contains-filter_back (λ us. passes action s (picks_of action us))
      (lists_of (structure_of s).individuals (length action.picks)) picked at
      in All-contains (λ us. PickKeepsLimits action s (picks_of action us))
      (lists_of (structure_of s).individuals (length action.picks)) picked
      (subst (PicksKeepLimits action s action.picks) is_blank limits) back.0 back.1);
}

any-passing : (action : ActionForm) (s : StructureForm) (Q : List ℕ → Type 0) (picks : List (List ℕ))
    → Any (λ us. (passes action s (picks_of action us) ≡ true) × Q us) picks
    → Any Q (filter (λ us. passes action s (picks_of action us)) picks)
any-passing action s Q picks (k, us, lt, is, (passed, holds)) =
    let at : Contains (filter (λ ws. passes action s (picks_of action ws)) picks) us
    = Contains-filter (λ ws. passes action s (picks_of action ws)) picks us (k, lt, is) passed
    in (at.0, us, at.1, at.2, holds)

pub steps-cause : (action : ActionForm) (s : StructureForm) (a : Assignment) (e : StageError) → a ≡ blank
    → IsCauseOfPicks action s action.picks a e → IsCauseOfUpdate action s e
steps-cause action s a Splits is_blank cause =
    inr (any-passing action s (λ us. HasManyChoices action (structure_of s) (picks_of action us))
    (lists_of (structure_of s).individuals (length action.picks))
    (subst (λ b. IsCauseOfPicks action s action.picks b Splits) is_blank cause))
steps-cause action s a Individuals is_blank cause =
    any-passing action s (λ us. IsTooLarge action (structure_of s))
    (lists_of (structure_of s).individuals (length action.picks))
    (subst (λ b. IsCauseOfPicks action s action.picks b Individuals) is_blank cause)
steps-cause action s a Memory is_blank cause = tt

-- why one structure of several has no update
pub updates-cause : (action : ActionForm) (ss : List StructureForm) (s : StructureForm) (e : StageError)
    → Contains ss s
    → IsCauseOfUpdate action s e → IsCauseOfUpdates action ss e
updates-cause action ss s Splits at cause = (at.0, s, at.1, at.2, cause)
updates-cause action ss s Individuals at cause = (at.0, s, at.1, at.2, cause)
updates-cause action ss s Memory at cause = tt
