-- The picked variables of an action: they are in range, and individuals are put for one after the other.
use Rattle.std.proofs.Common.{ℕ, List, [], ◌∷◌, ◌++◌, Option, None, Some, sym, subst, All, ◌≡◌, ◌∙◌, ◌<◌, ◌⊎◌}
use Rattle.std.proofs.lemmas.List.Elements.{All-nil, All-cons, All-head, All-tail, All-append, All-contains}
use Rattle.std.specs.Prelude.{◌==◌, not, IsSomeAnd, if◌then◌else◌}
use Rattle.std.proofs.Common.{inl, inr, ⊎_elim, ap, eq-eqb, ne_eqb, Contains}
use Rattle.std.proofs.lemmas.Bool.{cases_eq}
use Rattle.tv_model.specs.Form.{Form, FZero, FOne, FAtom, FIsNew, FSame, FNot, FAnd, FOr, FIff, FCond}
use Rattle.tv_model.specs.Form.{FExists, FForall, FClosure}
use Rattle.tv_model.specs.Program.{ProgramForm}
use Rattle.tv_model.specs.Valid.{IsVariable, IsFormulaOver, IsPrecondition, free_occurrences}
use Rattle.tv_model.specs.Valid.{first_occurrences, without}
use Rattle.tv_model.proofs.Lists.{Contains-filter_back, All-from_contains, Contains-cases, Contains-none}
use Rattle.tv_eval.specs.AssignmentForm.{IsAssigned, individual_for}

without-all : (P : ℕ → Type 0) (v : ℕ) (xs : List ℕ) → All P xs → All P (without v xs)
without-all P v xs all =
    All-from_contains P (without v xs)
    (λ x at. All-contains P xs x all (Contains-filter_back (λ w. not (w == v)) xs x at).0)

first-all : (P : ℕ → Type 0) (xs : List ℕ) → All P xs → All P (first_occurrences xs)
first-all P [] all = All-nil P
first-all P (x ∷ xs) all =
    All-cons P x (without x (first_occurrences xs)) (All-head P x xs all)
    (without-all P x (first_occurrences xs) (first-all P xs (All-tail P x xs all)))

-- the variables that stand free in a formula are in range
occurrences-in_range : (arities : List ℕ) (f : Form) → IsFormulaOver arities f
    → All IsVariable (free_occurrences f)
occurrences-in_range arities FZero is = All-nil IsVariable
occurrences-in_range arities FOne is = All-nil IsVariable
occurrences-in_range arities (FAtom q vars) is = is.1
occurrences-in_range arities (FIsNew v) is = All-cons IsVariable v [] is (All-nil IsVariable)
occurrences-in_range arities (FSame v w) is =
    All-cons IsVariable v (w ∷ []) is.0 (All-cons IsVariable w [] is.1 (All-nil IsVariable))
occurrences-in_range arities (FNot f) is = occurrences-in_range arities f is
occurrences-in_range arities (FAnd f g) is =
    All-append IsVariable (free_occurrences f) (free_occurrences g) (occurrences-in_range arities f is.0)
    (occurrences-in_range arities g is.1)
occurrences-in_range arities (FOr f g) is =
    All-append IsVariable (free_occurrences f) (free_occurrences g) (occurrences-in_range arities f is.0)
    (occurrences-in_range arities g is.1)
occurrences-in_range arities (FIff f g) is =
    All-append IsVariable (free_occurrences f) (free_occurrences g) (occurrences-in_range arities f is.0)
    (occurrences-in_range arities g is.1)
occurrences-in_range arities (FCond c f g) is =
    All-append IsVariable (free_occurrences c ++ free_occurrences f) (free_occurrences g)
    (All-append IsVariable (free_occurrences c) (free_occurrences f) (occurrences-in_range arities c is.0)
    (occurrences-in_range arities f is.1)) (occurrences-in_range arities g is.2)
occurrences-in_range arities (FExists v f) is =
    without-all IsVariable v (free_occurrences f) (occurrences-in_range arities f is.1)
occurrences-in_range arities (FForall v f) is =
    without-all IsVariable v (free_occurrences f) (occurrences-in_range arities f is.1)
occurrences-in_range arities (FClosure from to left right f) is =
    All-cons IsVariable from (to ∷ without left (without right (free_occurrences f))) is.0
    (All-cons IsVariable to (without left (without right (free_occurrences f))) is.1
    (without-all IsVariable left (without right (free_occurrences f))
    (without-all IsVariable right (free_occurrences f) (occurrences-in_range arities f is.5))))

pub picks-in_range : (p : ProgramForm) (pre : Option Form) (picks : List ℕ) → IsPrecondition p pre picks
    → All IsVariable picks
picks-in_range p None picks is = subst (All IsVariable) (sym is) (All-nil IsVariable)
picks-in_range p (Some f) picks is =
    subst (All IsVariable) (sym is.1)
    (first-all IsVariable (free_occurrences f) (occurrences-in_range _ f is.0.0))

-- where an individual is put for the first variable that is left, one is left less
pub picked-with : (picks left : List ℕ) (size v u : ℕ) (old new : List (Option ℕ))
    → ((w : ℕ) → individual_for new w ≡ (if w == v then Some u else individual_for old w)) → u < size
    → ((w : ℕ) → Contains picks w → Contains (v ∷ left) w ⊎ IsAssigned size old w)
    → (w : ℕ) → Contains picks w → Contains left w ⊎ IsAssigned size new w
picked-with picks left size v u old new is inside known w picked =
    ⊎_elim
    (λ same. inr
    (subst Assigned (sym (is w ∙ ap (λ b. if b then Some u else individual_for old w) (eq-eqb w v same))) inside))
    (λ other. ⊎_elim
    (λ among. ⊎_elim (λ e. absurd (other (sym e))) (λ later. inl later) (Contains-cases v w left among))
    (λ own. inr
    (subst Assigned (sym (is w ∙ ap (λ b. if b then Some u else individual_for old w) (ne_eqb w v other))) own))
    (known w picked))
    (cases_eq w v)
  where
    Assigned : Option ℕ → Type 0
    Assigned o = IsSomeAnd o (λ x. x < size)

-- all picked variables stand for individuals, where none is left
pub all-picked : (picks left : List ℕ) (size : ℕ) (places : List (Option ℕ)) → left ≡ []
    → ((w : ℕ) → Contains picks w → Contains left w ⊎ IsAssigned size places w)
    → All (IsAssigned size places) picks
all-picked picks left size places none picked =
    All-from_contains (IsAssigned size places) picks
    (λ w at. ⊎_elim (λ there. absurd (Contains-none w (subst (λ vars. Contains vars w) none there)))
    (λ assigned. assigned) (picked w at))
