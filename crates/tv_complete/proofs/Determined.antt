-- A structure is completed in one way at most.
use Rattle.std.proofs.Common.{◌≡◌, ◌∙◌, ℕ, zero, suc, ◌<◌, ◌||◌, Bool, true, false, List, length, map}
use Rattle.std.proofs.Common.{Option, Some, None}
use Rattle.std.proofs.Common.{slice_get, get_or, inl, ⊎_elim, refl, sym, ap, subst, arith, Contains, eqb}
use Rattle.std.proofs.Common.{eq-eqb, ne_eqb}
use Rattle.std.specs.List.{range_with_len}
use Rattle.std.proofs.lemmas.Bool.{cases_eq, cond-true, cond-false}
use Rattle.std.proofs.lemmas.List.{map-id, length-map}
use Rattle.tv_kleene.specs.declared.K3.TheVariants.{No}
use Rattle.tv_model.specs.Form.{Form, Mentions}
use Rattle.tv_model.specs.Program.{ProgramForm, PredForm, KindForm, KCore, KDefined, is_core_kind}
use Rattle.tv_model.specs.Rules.{blank}
use Rattle.tv_model.specs.Truth.{put_all}
use Rattle.tv_model.specs.Valid.{IsValid, IsKind}
use Rattle.tv_model.proofs.Lists.{slice_get-none}
use Rattle.tv_eval_laws.specs.Value.{value}
use Rattle.tv_eval_laws.specs.Laws.{LooksAlike, AgreesOn}
use Rattle.tv_eval_laws.proofs.Embedded.{values_are_local}
use Rattle.tv_structure_form.specs.TableForm.{AreIndividuals}
use Rattle.tv_structure_form.specs.StructureForm.{StructureForm, IsStructure, structure_of, arities_of}
use Rattle.tv_structure_form.specs.StructureForm.{value_at}
use Rattle.tv_structure_form.proofs.Library.{All-individuals, AreIndividuals-range, value_at-past}
use Rattle.tv_structure_form.proofs.StructureLaws.{same_structure}
use Rattle.tv_tree.specs.Names.{is_among}
use Rattle.tv_update_laws.specs.Applied.{defined_value}
use Rattle.tv_update_laws.proofs.Predicates.{valid-pred}
use Rattle.tv_update_laws.proofs.Puts.{put_all-goes}
use Rattle.tv_complete.specs.Completion.{is_settled, Completes, CompletionsAreOne}

module _ (p : ProgramForm) (valid : IsValid p) (names : List (List ℕ)) (s t u : StructureForm)
    (over : arities_of s ≡ map (λ (d : PredForm). d.arity) p.preds) (a : Completes p names s t)
    (b : Completes p names s u) where
  size : t.size ≡ u.size
  size = a.like.size ∙ sym b.like.size

  -- a definition has one value, where what it mentions has
  defined-same : (q : ℕ) (d : PredForm) → slice_get p.preds q ≡ Some d → (vars : List ℕ) (body : Form) → d.kind
      ≡ KDefined vars body
      → ((r : ℕ) → Mentions r body → (tuple : List ℕ) → AreIndividuals t.size tuple → value_at t r tuple ≡ value_at u
      r tuple)
      → (tuple : List ℕ) → AreIndividuals t.size tuple
      → defined_value (structure_of t) vars body tuple ≡ defined_value (structure_of u) vars body tuple
  defined-same q d found vars body k same tuple within =
      ⊎_elim
      (λ fits. cond-true (eqb (length tuple) (length vars)) (value (structure_of t) (put_all blank vars tuple) body) No
      (eq-eqb _ _ fits)
      ∙ values_are_local body (structure_of t) (structure_of u) (put_all blank vars tuple) (put_all blank vars tuple)
      looks (agrees fits)
      ∙ sym (cond-true (eqb (length tuple) (length vars)) (value (structure_of u) (put_all blank vars tuple) body) No
      (eq-eqb _ _ fits)))
      (λ misfit. cond-false (eqb (length tuple) (length vars))
      (value (structure_of t) (put_all blank vars tuple) body) No
      (ne_eqb _ _ misfit)
      ∙ sym (cond-false (eqb (length tuple) (length vars)) (value (structure_of u) (put_all blank vars tuple) body) No
      (ne_eqb _ _ misfit)))
      (cases_eq (length tuple) (length vars))
    where
      is : IsKind p d.arity (KDefined vars body)
      is = subst (IsKind p d.arity) k (valid-pred p valid q d found).kind

      looks : LooksAlike body (structure_of t) (structure_of u)
      looks = record {
        individuals = λ w. (
          subst (λ n. Contains (range_with_len 0 n) w) size,
          subst (λ n. Contains (range_with_len 0 n) w) (sym size),
        );
        values = λ r m us all. same r m us (AreIndividuals-range t.size us all);
        summaries = λ w at. ap (λ flags. get_or flags w false) (a.like.summaries ∙ sym b.like.summaries);
        marks = λ named. absurd (is.1.1 named);
      }

      agrees : length tuple ≡ length vars
          → AgreesOn (structure_of t) body (put_all blank vars tuple) (put_all blank vars tuple)
      agrees fits v free = (
        subst (λ us. Contains (range_with_len 0 t.size) (put_all blank vars us v)) (map-id tuple)
            (put_all-goes (λ x w. Contains (range_with_len 0 t.size) w) (λ x. x) vars tuple fits
            (All-individuals t.size tuple within) (λ x. ⊥) blank blank (λ x never. absurd never) v (inl (is.2 v free))),
        refl,
      )

  -- what is no predicate is 0
  past : (v : StructureForm) → arities_of v ≡ arities_of s → (q : ℕ) → slice_get p.preds q ≡ None → (tuple : List ℕ)
      → value_at v q tuple ≡ No
  past v like q none tuple =
      value_at-past v q tuple
      (omega (
        arith,
        slice_get-none p.preds q none,
        length-map p.preds (λ (d : PredForm). d.arity),
        ap length
            (like ∙ over),
      ))

  -- the predicates of lower rank have one value each
  abbrev SameBelow : ℕ → Type 0
  SameBelow n = (r : ℕ) → valid.rank r < n → (us : List ℕ) → AreIndividuals t.size us → value_at t r us ≡ value_at u r
      us

  value-same : (q : ℕ) → SameBelow (valid.rank q) → (tuple : List ℕ) → AreIndividuals t.size tuple
      → value_at t q tuple ≡ value_at u q tuple
  value-same q lower tuple within = by (slice_get p.preds q) refl
    where
      missing : (d : PredForm) → slice_get p.preds q ≡ Some d → is_settled names d ≡ false
          → (kind : KindForm) → d.kind ≡ kind → value_at t q tuple ≡ value_at u q tuple
      missing d found unsettled KCore k =
          let core : is_settled names d ≡ true = ap (λ kind. is_core_kind kind || is_among names d.name) k
          in let clash : true ≡ false = sym core ∙ unsettled in absurd cc
      missing d found unsettled (KDefined vars body) k =
          a.missing q d found unsettled vars body k tuple (subst (λ n. AreIndividuals n tuple) a.like.size within)
          ∙ defined-same q d found vars body k (λ r m us every. lower r
          (valid.no_cycle.falls q d found vars body k r m) us every)
          tuple within
          ∙ sym (b.missing q d found unsettled vars body k tuple
          (subst (λ n. AreIndividuals n tuple) a.like.size within))

      known : (d : PredForm) → slice_get p.preds q ≡ Some d → (settled : Bool) → is_settled names d ≡ settled
          → value_at t q tuple ≡ value_at u q tuple
      known d found true is = a.settled q d found is tuple ∙ sym (b.settled q d found is tuple)
      known d found false is = missing d found is d.kind refl

      by : (o : Option PredForm) → slice_get p.preds q ≡ o → value_at t q tuple ≡ value_at u q tuple
      by None none = past t a.like.over q none tuple ∙ sym (past u b.like.over q none tuple)
      by (Some d) found = known d found (is_settled names d) refl

  values-same : (n : ℕ) → SameBelow n
  values-same zero q below tuple within = absurd (omega (arith, below))
  values-same (suc n) q below tuple within =
      value-same q (λ r lt us every. values-same n r (omega (arith, lt, below)) us every) tuple within

  same : IsStructure t → IsStructure u → t ≡ u
  same is_t is_u =
      same_structure t u is_t is_u size (a.like.over ∙ sym b.like.over)
      (λ q tuple has. value-same q (values-same (valid.rank q)) tuple has.individuals)
      (λ w lt. ap (λ flags. get_or flags w false) (a.like.summaries ∙ sym b.like.summaries))
      (a.like.fresh ∙ sym b.like.fresh)

pub completions-are-one : CompletionsAreOne
completions-are-one p valid names s t u over is_t is_u a b = same p valid names s t u over a b is_t is_u
