-- The loops over variables and individuals.
use Rattle.std.proofs.Common.{ℕ, ◌≡◌, ◌⊎◌, ◌↔◌, ◌<◌, ◌≤◌, ◌+◌, ◌-◌, Bool, true, false, IsTrue, List, [], ◌∷◌}
use Rattle.std.proofs.Common.{◌++◌, length, take, take_all, drop, get_or, Option, inl, inr, ⊎_elim, refl, sym}
use Rattle.std.proofs.Common.{ap, subst, ◌∙◌, arith, eq-eqb, ne_eqb}
use Rattle.std.specs.Prelude.{All, Contains, IsSomeAnd, Some, if◌then◌else◌, ◌==◌}
use Rattle.std.proofs.lemmas.Bool.{cases_lt, cases_eq, false≢true}
use Rattle.std.proofs.lemmas.List.{map_push, take_more}
use Rattle.std.proofs.lemmas.List.Elements.{All-push, All-tail}
use Rattle.tv_coerce_members.specs.Members.{numbers_of}
use Rattle.tv_eval.specs.AssignmentForm.{IsAssigned, assignment_of, individual_for}
use Rattle.tv_eval.specs.Formulas.{AreAssigned}
use Rattle.tv_eval.specs.declared.evaluator.Evaluator.{Evaluator}
use Rattle.tv_eval.proofs.FreeBelow.{free-below}
use Rattle.tv_model.specs.Form.{Form, IsFree}
use Rattle.tv_model.specs.Truth.{Assignment, put}
use Rattle.tv_model.specs.Valid.{IsFormulaOver}
use Rattle.tv_model.specs.declared.formula.Var.{Var}
use Rattle.tv_model.proofs.Lists.{pushed-cases, Contains-none, Contains-cases}
use Rattle.tv_structure_form.specs.StructureForm.{StructureForm, IsStructure, arities_of}
use Rattle.tv_two_valued.specs.TwoValued.{heap_of}
use Rattle.tv_two_valued.proofs.Heaps.{heap-told}
use Rattle.tv_two_valued.proofs.Truths.{from-assigned}
use Rattle.tv_replay_judge.specs.Trying.{ImplicationForm, IsFreeIn, ArePlaced, IsCheckStart, IsMetFrom}
use Rattle.tv_replay_judge.specs.Trying.{IsMetUnder}
use Rattle.tv_replay_judge.proofs.Tried.{met-none, met-each}

-- ---- variables, one after the other

front-more : (vars : List Var) (i : ℕ) (d : Var) → i < length vars
    → numbers_of (take (i + 1) vars) ≡ numbers_of (take i vars) ++ (get_or vars i d).0 ∷ []
front-more vars i d below =
    ap numbers_of (take_more vars i d below) ∙ map_push (λ (x : Var). x.0) (take i vars) (get_or vars i d)

pub settled-more : (F : ℕ → Type 0) (vars : List Var) (i : ℕ) (d : Var) → i < length vars
    → ((w : ℕ) → Contains (numbers_of (take i vars)) w → ¬ F w) → (¬ F (get_or vars i d).0)
    → (w : ℕ) → Contains (numbers_of (take (i + 1) vars)) w → ¬ F w
settled-more F vars i d below before here w at =
    ⊎_elim (λ old. before w old) (λ e f. here (subst F e f))
    (pushed-cases (numbers_of (take i vars)) (get_or vars i d).0 w (subst (λ ns. Contains ns w) (front-more vars i d below) at))

pub settled-all : (F : ℕ → Type 0) (vars : List Var) (i : ℕ) → length vars ≤ i
    → ((w : ℕ) → Contains (numbers_of (take i vars)) w → ¬ F w) → (w : ℕ) → Contains (numbers_of vars) w → ¬ F w
settled-all F vars i done before w at = before w (subst (λ (vs : List Var). Contains (numbers_of vs) w) (sym (take_all i vars done)) at)

-- a variable that is put behind the list
pub noted : (old new : List Var) (v : Var) → new ≡ old ++ v ∷ [] → numbers_of new ≡ numbers_of old ++ v.0 ∷ []
noted old new v put = ap numbers_of put ∙ map_push (λ (x : Var). x.0) old v

pub noted-free : (F : ℕ → Type 0) (old new : List Var) (v : Var) → new ≡ old ++ v ∷ [] → F v.0 → All F (numbers_of old) → All F (numbers_of new)
noted-free F old new v put here all = subst (All F) (sym (noted old new v put)) (All-push F (numbers_of old) v.0 all here)

pub found-more : (F : ℕ → Type 0) (old new : List Var) (v : ℕ) → ((w : ℕ) → w < v → F w → Contains (numbers_of old) w)
    → ((w : ℕ) → Contains (numbers_of old) w → Contains (numbers_of new) w) → (F v → Contains (numbers_of new) v)
    → (w : ℕ) → w < v + 1 → F w → Contains (numbers_of new) w
found-more F old new v before kept here w less free = at (cases_lt w v)
  where
    at : (w < v) ⊎ (v ≤ w) → Contains (numbers_of new) w
    at (inl lt) = kept w (before w lt free)
    at (inr le) =
        let e : v ≡ w = omega (arith, less, le)
        in subst (Contains (numbers_of new)) e (here (subst F (sym e) free))

-- ---- assignments

pub settled-assigned : (size : ℕ) (rest : List ℕ) (places : List (Option ℕ)) (f : Form) → ArePlaced size rest places f
    → ((v : ℕ) → Contains rest v → ¬ IsFree v f) → AreAssigned size places f
settled-assigned size rest places f placed settled v free =
    ⊎_elim (λ at. absurd (settled v at free)) (λ assigned. assigned) (placed v free)

pub placed-assigned : (size : ℕ) (places : List (Option ℕ)) (f : Form) → ArePlaced size [] places f → AreAssigned size places f
placed-assigned size places f placed v free = ⊎_elim (λ at. absurd (Contains-none v at)) (λ assigned. assigned) (placed v free)

places-given : (s : StructureForm) (t : ImplicationForm) (places : List (Option ℕ)) → IsCheckStart s.size t [] places
    → (v : ℕ) → IsFreeIn v t → Contains (heap_of s).individuals (assignment_of places v)
places-given s t places walk v (inl free) = from-assigned s.size (individual_for places v) (placed-assigned s.size places t.body walk.body v free)
places-given s t places walk v (inr free) = from-assigned s.size (individual_for places v) (placed-assigned s.size places t.head walk.head v free)

pub met-at_end : (s : StructureForm) (t : ImplicationForm) (vars : List ℕ) (places : List (Option ℕ)) (b : Bool) → vars ≡ [] → IsCheckStart s.size t [] places
    → IsTrue b ↔ IsMetUnder (heap_of s) t (assignment_of places)
    → IsTrue b ↔ IsMetFrom (heap_of s) t vars (assignment_of places)
met-at_end s t vars places b none walk answer =
    let both = met-none (heap_of s) t (assignment_of places) (places-given s t places walk)
    in subst (λ vs. IsTrue b ↔ IsMetFrom (heap_of s) t vs (assignment_of places)) (sym none)
    (λ yes_. both.0 (answer.0 yes_), λ met. answer.1 (both.1 met))

-- one variable more stands for an individual
placed-on : (size v u : ℕ) (rest : List ℕ) (old new : List (Option ℕ)) (f : Form) → ArePlaced size (v ∷ rest) old f → u < size
    → ((w : ℕ) → individual_for new w ≡ (if w == v then Some u else individual_for old w)) → ArePlaced size rest new f
placed-on size v u rest old new f placed lt with_u w free = at (cases_eq w v) (placed w free)
  where
    assigned-same : (o : Option ℕ) → o ≡ Some u → IsSomeAnd o (λ x. x < size)
    assigned-same o e = subst (λ p. IsSomeAnd p (λ x. x < size)) (sym e) lt

    at : (w ≡ v) ⊎ (w ≡ v → ⊥) → Contains (v ∷ rest) w ⊎ IsAssigned size old w → Contains rest w ⊎ IsAssigned size new w
    at (inl e) which = inr (assigned-same (individual_for new w) (with_u w ∙ rw (e, eq-eqb v v refl) refl))
    at (inr ne) (inl among) = ⊎_elim (λ e. absurd (ne (sym e))) (λ there. inl there) (Contains-cases v w rest among)
    at (inr ne) (inr assigned) =
        inr (subst (λ p. IsSomeAnd p (λ x. x < size)) (sym (with_u w ∙ rw (ne_eqb w v ne) refl)) assigned)

pub walk-on : (size v u : ℕ) (rest : List ℕ) (t : ImplicationForm) (old new : List (Option ℕ)) → IsCheckStart size t (v ∷ rest) old → u < size
    → ((w : ℕ) → individual_for new w ≡ (if w == v then Some u else individual_for old w)) → IsCheckStart size t rest new
walk-on size v u rest t old new walk lt with_u = record {
  free = All-tail (λ w. IsFreeIn w t) v rest walk.free;
  body = placed-on size v u rest old new t.body walk.body lt with_u;
  head = placed-on size v u rest old new t.head walk.head lt with_u;
}

-- ---- individuals, one after the other

module _ (s : StructureForm) (is : IsStructure s) (t : ImplicationForm) (v : ℕ) (rest : List ℕ) (a : Assignment) (here : IsFreeIn v t) where
  pub tried-all : (n : ℕ) → s.size ≤ n → ((k : ℕ) → k < n → IsMetFrom (heap_of s) t rest (put a v k)) → IsTrue true ↔ IsMetFrom (heap_of s) t (v ∷ rest) a
  tried-all n whole each = (
    λ _. (met-each (heap_of s) t v rest a here).1 (λ u at.
        let lt : u < s.size = ((heap-told s is).individuals u).0 at
        in each u (omega (arith, lt, whole))),
    λ _. refl,
  )

  pub tried-broken : (u : ℕ) → u < s.size → IsTrue false ↔ IsMetFrom (heap_of s) t rest (put a v u) → IsTrue false ↔ IsMetFrom (heap_of s) t (v ∷ rest) a
  tried-broken u lt fails = (
    λ f. absurd (false≢true f),
    λ met. fails.1 ((met-each (heap_of s) t v rest a here).0 met u (((heap-told s is).individuals u).1 lt)),
  )

-- the first variable and the others
pub split-vars : (vars : List Var) (d : Var) → 1 ≤ length vars
    → numbers_of vars ≡ (get_or vars 0 d).0 ∷ numbers_of (take (length vars - 1) (drop 1 vars))
split-vars [] d long = absurd (omega (arith, long))
split-vars (v ∷ vars) d long =
    let whole : take (length (v ∷ vars) - 1) vars ≡ vars = ap (λ n. take n vars) (omega arith) ∙ take_all (length vars) vars (omega arith)
    in ap (λ vs. v.0 ∷ numbers_of vs) (sym whole)

pub tail-shorter : (vars : List Var) → 1 ≤ length vars → length (take (length vars - 1) (drop 1 vars)) < length vars
tail-shorter [] long = absurd (omega (arith, long))
tail-shorter (v ∷ vars) long =
    let whole : take (length (v ∷ vars) - 1) vars ≡ vars = ap (λ n. take n vars) (omega arith) ∙ take_all (length vars) vars (omega arith)
    in rw whole (omega arith)

pub none-at : (vars : List Var) → length vars < 1 → vars ≡ []
none-at [] short = refl
none-at (v ∷ vars) short = absurd (omega (arith, short))

pub variable-in_range : (s : StructureForm) (t : ImplicationForm) (v : ℕ) → IsFormulaOver (arities_of s) t.body → IsFormulaOver (arities_of s) t.head
    → IsFreeIn v t → v < 32
variable-in_range s t v body head (inl free) = free-below (arities_of s) t.body v body free
variable-in_range s t v body head (inr free) = free-below (arities_of s) t.head v head free

-- no variable stands for an individual yet
pub walk-begins : (s : StructureForm) (t : ImplicationForm) (vars : List ℕ) (places : List (Option ℕ)) → IsFormulaOver (arities_of s) t.body
    → IsFormulaOver (arities_of s) t.head → All (λ w. IsFreeIn w t) vars → ((w : ℕ) → w < 32 → IsFreeIn w t → Contains vars w)
    → IsCheckStart s.size t vars places
walk-begins s t vars places body head free all = record {
  free = free;
  body = λ v f. inl (all v (variable-in_range s t v body head (inl f)) (inl f));
  head = λ v f. inl (all v (variable-in_range s t v body head (inr f)) (inr f));
}
