-- The formula that an update of a valid program sets its predicate to, and what its variables stand for.
use Rattle.std.proofs.Common.{ℕ, ◌≡◌, ◌<◌, ◌≤◌, ◌⊎◌, inl, inr, zero, suc, ◌==◌, Bool, true, false, Option}
use Rattle.std.proofs.Common.{Some, List, [], ◌∷◌, ◌++◌, length, map, get_or, All, Contains, arith, refl, sym}
use Rattle.std.proofs.Common.{ap, subst}
use Rattle.std.specs.Prelude.{IsSomeAnd, if◌then◌else◌}
use Rattle.std.proofs.lemmas.Bool.{eq-eqb, false≢true}
use Rattle.std.proofs.lemmas.List.Elements.{All-contains}
use Rattle.tv_model.specs.declared.formula.Formula.{Formula}
use Rattle.tv_model.specs.declared.formula.Terms.TheVariants.{Two}
use Rattle.tv_model.specs.declared.formula.Var.{Var}
use Rattle.tv_model.specs.declared.program.Action.{Action}
use Rattle.tv_model.specs.declared.program.Change.{Change}
use Rattle.tv_model.specs.declared.program.Change.TheVariants.{To}
use Rattle.tv_model.specs.declared.program.Program.{Program}
use Rattle.tv_model.specs.declared.program.Update.{Update}
use Rattle.tv_model.specs.Form.{Form, FExists, form_of, vars_of, IsFree}
use Rattle.tv_model.specs.Program.{ProgramForm, program_of, action_of, update_of, change_of}
use Rattle.tv_model.specs.Valid.{IsValid, IsVariable, IsAction, IsUpdate, IsChange}
use Rattle.tv_model.proofs.Lists.{Contains-map}
use Rattle.tv_eval.specs.AssignmentForm.{individual_for, IsAssigned}
use Rattle.tv_eval.specs.Formulas.{AreAssigned}
use Rattle.tv_eval.specs.Laws.{FormulasAreWithinHeight}
use Rattle.tv_test_values.specs.Setting.{IsSetting}

one_of_two : (v w x : ℕ) → Contains (v ∷ w ∷ []) x → (x ≡ v) ⊎ (x ≡ w)
one_of_two v w x (zero, lt, is) = inl (sym is)
one_of_two v w x (suc zero, lt, is) = inr (sym is)
one_of_two v w x (suc (suc k), lt, is) = absurd (omega (arith, lt))

pub setting_is : (program : Program) (a : Action) (u : Update) (v w : Var) (f : Formula) → FormulasAreWithinHeight
    → IsValid (program_of program) → Contains program.actions a → a.picks ≡ [] → Contains a.updates u → u.vars ≡ Two v w → u.change ≡ To f
    → IsSetting program v.0 w.0 (form_of f)
setting_is program a u v w f heights valid at none among two to =
    let p : ProgramForm = program_of program
    in let of_program : Contains p.actions (action_of a) = Contains-map action_of a program.actions at
    in let of_action : Contains (action_of a).updates (update_of u) = Contains-map update_of u a.updates among
    in let action : IsAction p (action_of a) = All-contains (IsAction p) p.actions (action_of a) valid.actions of_program
    in let update : IsUpdate p (action_of a) (update_of u) = All-contains (IsUpdate p (action_of a)) (action_of a).updates (update_of u) action.updates of_action
    in let vars : All IsVariable (v.0 ∷ w.0 ∷ []) = subst (λ vs. All IsVariable (vars_of vs)) two update.2.1
    in let change : IsChange p (action_of a) update.0 (v.0 ∷ w.0 ∷ []) (change_of u.change) = subst (λ vs. IsChange p (action_of a) update.0 (vars_of vs) (change_of u.change)) two update.3
    in let to_f : IsChange p (action_of a) update.0 (v.0 ∷ w.0 ∷ []) (change_of (To f)) = subst (λ g. IsChange p (action_of a) update.0 (v.0 ∷ w.0 ∷ []) (change_of g)) to change
    in record {
      formula = to_f.0.0;
      height = (heights p).updates (action_of a) (update_of u) (form_of f) of_program of_action (ap change_of to);
      variables = (vars 0 0 (omega arith), vars 1 0 (omega arith));
      over = λ x free. one_of_two v.0 w.0 x (subst (λ ps. Contains (v.0 ∷ w.0 ∷ [] ++ map (λ y. y.0) ps) x) none (to_f.1 x free));
    }

-- an element that stands in a list is one of it
first_of : {X : Type 0} (xs ys : List X) (x : X) → xs ≡ ys → 0 < length xs → x ≡ get_or xs 0 x → Contains ys x
first_of xs ys x same some is = subst (λ zs. Contains zs x) same (0, some, sym is)

none_of : {X : Type 0} (xs : List X) → length xs ≤ 0 → xs ≡ []
none_of [] le = refl
none_of (x ∷ xs) le = absurd (omega (arith, le))

-- the same of the first update of the first action
pub first_setting : (program : Program) (actions : List Action) (updates : List Update) (a : Action) (u : Update) (v w : Var) (f : Formula)
    → FormulasAreWithinHeight → IsValid (program_of program) → actions ≡ program.actions → 0 < length actions → a ≡ get_or actions 0 a
    → length a.picks ≤ 0 → updates ≡ a.updates → 0 < length updates → u ≡ get_or updates 0 u → u.vars ≡ Two v w → u.change ≡ To f
    → IsSetting program v.0 w.0 (form_of f)
first_setting program actions updates a u v w f heights valid of_program some is none of_action more among two to =
    setting_is program a u v w f heights valid (first_of actions program.actions a of_program some is) (none_of a.picks none)
    (first_of updates a.updates u of_action more among) two to

-- a formula over two variables is assigned where both stand for individuals
pub pair_assigned : (program : Program) (v w : ℕ) (f : Form) → IsSetting program v w f → (size : ℕ) (a : List (Option ℕ))
    → IsAssigned size a v → IsAssigned size a w → AreAssigned size a f
pair_assigned program v w f is size a first second y free =
    elim (is.over y free) [
      | inl e ↦ subst (IsAssigned size a) (sym e) first
      | inr e ↦ subst (IsAssigned size a) (sym e) second
    ]

-- and so it is under a quantifier over the second, where the first stands for an individual
pub row_assigned : (program : Program) (v w : ℕ) (f : Form) → IsSetting program v w f → (size : ℕ) (a : List (Option ℕ))
    → IsAssigned size a v → AreAssigned size a (FExists w f)
row_assigned program v w f is size a first y (differs, free) =
    elim (is.over y free) [
      | inl e ↦ subst (IsAssigned size a) (sym e) first
      | inr e ↦ absurd (differs e)
    ]

-- a formula over two variables that speaks of neither is assigned anywhere
pub closed_assigned : (program : Program) (v w : ℕ) (f : Form) → IsSetting program v w f → (size : ℕ) (a : List (Option ℕ))
    → ¬ IsFree v f → ¬ IsFree w f → AreAssigned size a f
closed_assigned program v w f is size a no_first no_second y free =
    elim (is.over y free) [
      | inl e ↦ absurd (no_first (subst (λ z. IsFree z f) e free))
      | inr e ↦ absurd (no_second (subst (λ z. IsFree z f) e free))
    ]

put_assigned : (size : ℕ) (o p : Option ℕ) (b : Bool) (x : ℕ) → o ≡ (if b then Some x else p) → x < size
    → IsSomeAnd p (λ n. n < size) → IsSomeAnd o (λ n. n < size)
put_assigned size o p true x is lt before = subst (λ q. IsSomeAnd q (λ n. n < size)) (sym is) lt
put_assigned size o p false x is lt before = subst (λ q. IsSomeAnd q (λ n. n < size)) (sym is) before

-- an individual that is put for a variable is what it stands for
pub put_here : (size : ℕ) (a b : List (Option ℕ)) (v u : ℕ)
    → ((y : ℕ) → individual_for b y ≡ (if y == v then Some u else individual_for a y)) → u < size → IsAssigned size b v
put_here size a b v u placed lt = here (v == v) (placed v) (eq-eqb v v refl)
  where
    here : (t : Bool) → individual_for b v ≡ (if t then Some u else individual_for a v) → t ≡ true → IsAssigned size b v
    here true is e = subst (λ q. IsSomeAnd q (λ n. n < size)) (sym is) lt
    here false is e = absurd (false≢true e)

-- and what another variable stood for stays an individual
pub put_there : (size : ℕ) (a b : List (Option ℕ)) (v w u : ℕ)
    → ((y : ℕ) → individual_for b y ≡ (if y == w then Some u else individual_for a y)) → u < size → IsAssigned size a v → IsAssigned size b v
put_there size a b v w u placed lt before = put_assigned size (individual_for b v) (individual_for a v) (v == w) u (placed v) lt before
