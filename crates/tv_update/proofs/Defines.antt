-- Definitions that are evaluated one after the other.
use Rattle.std.proofs.Common.{ℕ, ◌≡◌, ◌<◌, ◌≤◌, ◌-◌, false, List, [], ◌∷◌, length, get_or, take, take_all}
use Rattle.std.proofs.Common.{drop, map, Option, Some, slice_get, inl, ⊎_elim, refl, sym, ap, subst, ◌∙◌, eqb}
use Rattle.std.proofs.Common.{eq-eqb, ne_eqb, arith, Contains}
use Rattle.std.specs.List.{range_with_len}
use Rattle.std.proofs.lemmas.Bool.{cases_eq, cond-true, cond-false}
use Rattle.std.proofs.lemmas.List.{map-id}
use Rattle.std.specs.Option.{option_map}
use Rattle.std.proofs.lemmas.Option.{slice_get-map, slice_get-get_or}
use Rattle.tv_kleene.specs.declared.K3.TheVariants.{No}
use Rattle.tv_model.specs.declared.formula.PredId.{PredId}
use Rattle.tv_model.specs.declared.program.Kind.{Kind}
use Rattle.tv_model.specs.declared.program.Pred.{Pred}
use Rattle.tv_model.specs.declared.program.Program.{Program}
use Rattle.tv_model.specs.Form.{Form, Mentions, height}
use Rattle.tv_model.specs.Program.{ProgramForm, PredForm, KCore, KDefined, kind_of, pred_of, program_of}
use Rattle.tv_model.specs.Rules.{blank}
use Rattle.tv_model.specs.Truth.{put_all}
use Rattle.tv_model.specs.Valid.{IsValid, IsKind}
use Rattle.tv_model.proofs.Lists.{map-compose, Contains-here, Contains-there, Contains-none, Contains-cases}
use Rattle.tv_model.proofs.Lists.{slice_get-contains}
use Rattle.tv_model.proofs.Decided.{Contains-decided}
use Rattle.tv_structure_form.specs.TableForm.{AreIndividuals}
use Rattle.tv_structure_form.specs.StructureForm.{StructureForm, IsOver, structure_of, arities_of, value_at}
use Rattle.tv_struct.specs.StructureRows.{HasArity}
use Rattle.tv_structure_form.proofs.Library.{All-individuals, value_at-misfit}
use Rattle.tv_eval_laws.specs.Value.{value}
use Rattle.tv_eval_laws.specs.Laws.{LooksAlike, AgreesOn}
use Rattle.tv_eval_laws.proofs.Embedded.{values_are_local}
use Rattle.tv_eval.specs.ScratchForm.{ScratchForm, IsMadeFor, program_height}
use Rattle.tv_eval.proofs.Programs.{within_height, made_scratches_fit, program_formulas_are_over}
use Rattle.tv_update_laws.specs.Applied.{defined_value, kind_or_core, kind_at}
use Rattle.tv_update_laws.proofs.Predicates.{defined-found, valid-pred}
use Rattle.tv_update_laws.proofs.Puts.{put_all-goes}
use Rattle.tv_update.specs.Defined.{IsEvaluated, AreEvaluated}
use Rattle.tv_update.specs.Plan.{IsOrdered}
use Rattle.tv_update.specs.Rows.{CanFill, IsLike, HasRows, rows_for}
use Rattle.tv_update.proofs.Made.{like-itself, like-after}
use Rattle.tv_update.proofs.RowLaws.{rows_for_values}

-- what a definition of a valid program is
pub record DefinitionOf (p : ProgramForm) (q : ℕ) (vars : List ℕ) (body : Form) : Type 0 where
  pub pred : PredForm
  pub found : slice_get p.preds q ≡ Some pred
  pub its_kind : pred.kind ≡ KDefined vars body
  pub is : IsKind p pred.arity (KDefined vars body)

pub definition-of : (p : ProgramForm) → IsValid p → (q : ℕ) (vars : List ℕ) (body : Form)
    → kind_at p q ≡ KDefined vars body → DefinitionOf p q vars body
definition-of p valid q vars body k =
    let f : (d : PredForm) × (slice_get p.preds q ≡ Some d) × (d.kind ≡ KDefined vars body) =
    defined-found p q vars body k
    in record {
      pred = f.0;
      found = f.1;
      its_kind = f.2;
      is = subst (IsKind p f.0.arity) f.2 (valid-pred p valid q f.0 f.1).kind;
    }

-- it can be evaluated in structures over the program
pub can_define : (program : Program) → IsValid (program_of program) → (q : ℕ) (vars : List ℕ) (body : Form)
    → kind_at (program_of program) q ≡ KDefined vars body → (s : StructureForm) → IsOver program.vocab s
    → s.size ≤ 256
    → (room : ScratchForm) → IsMadeFor (program_of program) 256 room → (places : List (Option ℕ))
    → CanFill s places vars room body
can_define program valid q vars body k s over small room made places =
    let of : DefinitionOf (program_of program) q vars body =
    definition-of (program_of program) valid q vars body k
    in let high : height body ≤ program_height (program_of program)
    = (within_height (program_of program)).definitions of.pred vars body
    (slice_get-contains (program_of program).preds q of.pred of.found) of.its_kind
    in record {
      formula = program_formulas_are_over program s body over of.is.1.0;
      variables = of.is.0.1;
      assigned = λ v free. inl (of.is.2 v free);
      fits = made_scratches_fit (program_of program) 256 s.size room body made (omega (arith, high)) small;
    }

-- the places of a predicate
pub pred_arity : (program : Program) (s : StructureForm) → IsOver program.vocab s → (q : ℕ) (d : PredForm)
    → slice_get (program_of program).preds q ≡ Some d → slice_get (arities_of s) q ≡ Some d.arity
pred_arity program s over q d found =
    ap (λ ns. slice_get ns q) (over
    ∙ sym (map-compose pred_of (λ (e : PredForm). e.arity) program.vocab.preds))
    ∙ slice_get-map (λ (e : PredForm). e.arity) (program_of program).preds q
    ∙ ap (option_map (λ (e : PredForm). e.arity)) found

-- a definition has a variable for each place of its predicate
pub defined_arity : (program : Program) → IsValid (program_of program) → (q : ℕ) (vars : List ℕ) (body : Form)
    → kind_at (program_of program) q ≡ KDefined vars body → (s : StructureForm) → IsOver program.vocab s
    → HasArity s q (length vars)
defined_arity program valid q vars body k s over =
    let of : DefinitionOf (program_of program) q vars body =
    definition-of (program_of program) valid q vars body k
    in pred_arity program s over q of.pred of.found ∙ ap Some (sym of.is.0.0)

-- its predicate gets its values
pub is_evaluated : (p : ProgramForm) (q : ℕ) (vars : List ℕ) (body : Form) → kind_at p q ≡ KDefined vars body
    → length vars ≤ 2 → (s t : StructureForm) → HasArity s q (length vars)
    → HasRows s t q (length vars) (rows_for s blank vars body)
    → IsEvaluated p q s t
is_evaluated p q vars body k few s t arity has = record {
  like = has.like;
  others = has.others;
  values = λ ws g same tuple within.
      let clash : KDefined vars body ≡ KDefined ws g = sym k ∙ same
      in let vs : vars ≡ ws = cc in let f : body ≡ g = cc
      in subst (λ xs. value_at t q tuple ≡ defined_value (structure_of s) xs g tuple) vs
      (subst (λ h. value_at t q tuple ≡ defined_value (structure_of s) vars h tuple) f (values tuple within));
}
  where
    values : (tuple : List ℕ) → AreIndividuals s.size tuple
        → value_at t q tuple ≡ defined_value (structure_of s) vars body tuple
    values tuple within =
        ⊎_elim
        (λ fits. has.values tuple fits within ∙ rows_for_values s blank vars body tuple few fits within
        ∙ sym (cond-true (eqb (length tuple) (length vars))
        (value (structure_of s) (put_all blank vars tuple) body) No (eq-eqb _ _ fits)))
        (λ misfit. value_at-misfit t q tuple (λ known.
        let both : Some (length tuple) ≡ Some (length vars) =
        sym known ∙ ap (λ ns. slice_get ns q) has.like.over ∙ arity in misfit (cc))
        ∙ sym (cond-false (eqb (length tuple) (length vars))
        (value (structure_of s) (put_all blank vars tuple) body) No (ne_eqb _ _ misfit)))
        (cases_eq (length tuple) (length vars))

-- ---- one after the other

pub none_evaluated : (p : ProgramForm) (s : StructureForm) → AreEvaluated p [] s s
none_evaluated p s = record {
  like = like-itself s;
  others = λ q tuple never. refl;
  values = λ q at. absurd (Contains-none q at);
}

-- a definition has the same values in structures that look alike to it
defined-alike : (p : ProgramForm) → IsValid p → (q : ℕ) (vars : List ℕ) (body : Form)
    → kind_at p q ≡ KDefined vars body → (s t : StructureForm) → IsLike s t
    → ((r : ℕ) → Mentions r body → (tuple : List ℕ) → value_at s r tuple ≡ value_at t r tuple)
    → (tuple : List ℕ) → AreIndividuals s.size tuple
    → defined_value (structure_of s) vars body tuple ≡ defined_value (structure_of t) vars body tuple
defined-alike p valid q vars body k s t like same tuple within =
    ⊎_elim
    (λ fits. cond-true (eqb (length tuple) (length vars))
    (value (structure_of s) (put_all blank vars tuple) body) No (eq-eqb _ _ fits)
    ∙ values_are_local body (structure_of s) (structure_of t) (put_all blank vars tuple)
    (put_all blank vars tuple) looks (agrees fits)
    ∙ sym (cond-true (eqb (length tuple) (length vars))
    (value (structure_of t) (put_all blank vars tuple) body) No (eq-eqb _ _ fits)))
    (λ misfit. cond-false (eqb (length tuple) (length vars))
    (value (structure_of s) (put_all blank vars tuple) body) No (ne_eqb _ _ misfit)
    ∙ sym (cond-false (eqb (length tuple) (length vars))
    (value (structure_of t) (put_all blank vars tuple) body) No (ne_eqb _ _ misfit)))
    (cases_eq (length tuple) (length vars))
  where
    of : DefinitionOf p q vars body
    of = definition-of p valid q vars body k

    looks : LooksAlike body (structure_of s) (structure_of t)
    looks = record {
      individuals = λ u. (
        subst (λ n. Contains (range_with_len 0 n) u) (sym like.size),
        subst
            (λ n. Contains (range_with_len 0 n) u) like.size,
      );
      values = λ r m us all. same r m us;
      summaries = λ u at. ap (λ flags. get_or flags u false) (sym like.summaries);
      marks = λ named. absurd (of.is.1.1 named);
    }

    agrees : length tuple ≡ length vars
        → AgreesOn (structure_of s) body (put_all blank vars tuple) (put_all blank vars tuple)
    agrees fits v free = (
      subst (λ us. Contains (range_with_len 0 s.size) (put_all blank vars us v)) (map-id tuple)
          (put_all-goes (λ u w. Contains (range_with_len 0 s.size) w) (λ u. u) vars tuple fits
          (All-individuals s.size tuple within)
          (λ x. ⊥) blank blank (λ x never. absurd never) v (inl (of.is.2 v free))),
      refl,
    )

pub one_more_evaluated : (p : ProgramForm) → IsValid p → (q : ℕ) (later : List ℕ) (s t u : StructureForm)
    → IsOrdered p (q ∷ later) → IsEvaluated p q s t → AreEvaluated p later t u
    → AreEvaluated p (q ∷ later) s u
one_more_evaluated p valid q later s t u ordered one rest = record {
  like = like-after s t u one.like rest.like;
  others = λ r tuple none.
      rest.others r tuple (λ at. none (Contains-there q r later at))
      ∙ one.others r tuple (λ e. none (subst (Contains (q ∷ later)) (sym e) (Contains-here q later)));
  values = λ r at vars body k tuple within.
      ⊎_elim
      (λ there. rest.values r there vars body k tuple
      (subst (λ n. AreIndividuals n tuple) (sym one.like.size) within))
      (λ none. first r at none vars body k tuple within)
      (Contains-decided later r);
}
  where
    untouched : (r : ℕ) (tuple : List ℕ) → ¬ Contains (q ∷ later) r → value_at u r tuple ≡ value_at s r tuple
    untouched r tuple none =
        rest.others r tuple (λ at. none (Contains-there q r later at))
        ∙ one.others r tuple (λ e. none (subst (Contains (q ∷ later)) (sym e) (Contains-here q later)))

    own : ¬ Contains later q → (vars : List ℕ) (body : Form) → kind_at p q ≡ KDefined vars body
        → (tuple : List ℕ) → AreIndividuals s.size tuple
        → value_at u q tuple ≡ defined_value (structure_of u) vars body tuple
    own none vars body k tuple within =
        rest.others q tuple none ∙ one.values vars body k tuple within
        ∙ defined-alike p valid q vars body k s u (like-after s t u one.like rest.like)
        (λ r m us. sym (untouched r us (λ at. ordered.0 r at vars body k m))) tuple within

    first : (r : ℕ) → Contains (q ∷ later) r → ¬ Contains later r → (vars : List ℕ) (body : Form)
        → kind_at p r ≡ KDefined vars body → (tuple : List ℕ) → AreIndividuals s.size tuple
        → value_at u r tuple ≡ defined_value (structure_of u) vars body tuple
    first r at none vars body k tuple within =
        ⊎_elim
        (λ e. subst (λ x. value_at u x tuple ≡ defined_value (structure_of u) vars body tuple) e
        (own (λ there. none (subst (Contains later) e there)) vars body
        (subst (λ x. kind_at p x ≡ KDefined vars body) (sym e) k) tuple within))
        (λ there. absurd (none there))
        (Contains-cases q r later at)

-- ---- as the code has it

-- the kind of a predicate that is read from the vocabulary
pub kind_there : (program : Program) (preds : List Pred) (p : ℕ) (d : Pred) (kind : Kind)
    → preds ≡ program.vocab.preds → p < length program.vocab.preds → (get_or preds p d).kind ≡ kind
    → kind_at (program_of program) p ≡ kind_of kind
kind_there program preds p d kind same below is =
    ap kind_or_core (slice_get-map pred_of program.vocab.preds p
    ∙ ap (option_map pred_of) (slice_get-get_or program.vocab.preds p d below))
    ∙ ap (λ (xs : List Pred). kind_of (get_or xs p d).kind) (sym same) ∙ ap kind_of is

-- what has no definition is evaluated as it is
pub core_evaluated : (p : ProgramForm) (q : ℕ) → kind_at p q ≡ KCore → (s : StructureForm)
    → IsEvaluated p q s s
core_evaluated p q core s = record {
  like = like-itself s;
  others = λ r tuple ne. refl;
  values = λ vars body k. let clash : KCore ≡ KDefined vars body = sym core ∙ k in absurd (cc);
}

-- the first predicate of a slice, and those behind it
pub first_evaluated : (p : ProgramForm) → IsValid p
    → (order : List PredId) (r : PredId) (s t u : StructureForm)
    → 1 ≤ length order → r ≡ get_or order 0 (record { 0 = 0 }) → IsOrdered p (map (λ x. x.0) order)
    → IsEvaluated p r.0 s t → AreEvaluated p (map (λ x. x.0) (take (length order - 1) (drop 1 order))) t u
    → AreEvaluated p (map (λ x. x.0) order) s u
first_evaluated p valid [] r s t u some first ordered one rest = absurd (omega (arith, some))
first_evaluated p valid (x ∷ xs) r s t u some first ordered one rest =
    let all : take (length (x ∷ xs) - 1) xs ≡ xs = take_all (length (x ∷ xs) - 1) xs (omega arith)
    in one_more_evaluated p valid x.0 (map (λ y. y.0) xs) s t u ordered
    (subst (λ (y : PredId). IsEvaluated p y.0 s t) first one)
    (subst (λ ys. AreEvaluated p (map (λ y. y.0) ys) t u) all rest)
