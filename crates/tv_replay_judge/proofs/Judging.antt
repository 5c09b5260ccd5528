-- The rules by which a heap of a program is judged can be tried in it.
use Rattle.std.proofs.Common.{ℕ, suc, ◌≡◌, ◌≤◌, ◌<◌, ◌+◌, true, false, List, [], ◌∷◌, map, refl, sym, ap}
use Rattle.std.proofs.Common.{subst, ◌∙◌, arith}
use Rattle.std.specs.Prelude.{All, Some, slice_get}
use Rattle.std.specs.Option.{option_map}
use Rattle.std.proofs.lemmas.List.Elements.{All-append, All-contains, All-cons, All-nil, All-head, All-tail}
use Rattle.std.proofs.lemmas.Option.{slice_get-map}
use Rattle.tv_eval.specs.Formulas.{nesting}
use Rattle.tv_eval.specs.ScratchForm.{ScratchForm, program_height}
use Rattle.tv_eval.proofs.Programs.{within_height, made_scratches_fit}
use Rattle.tv_model.specs.Form.{Form, FOne, FAtom, FAnd, height}
use Rattle.tv_model.specs.Program.{ProgramForm, PredForm, HeadForm, HNever, HAtom, HSame, RuleForm, rule_of}
use Rattle.tv_model.specs.Rules.{head_formula, property_rules}
use Rattle.tv_model.specs.Valid.{IsFormula, IsFormulaOver, IsHead, IsPred, IsRule, program_arities}
use Rattle.tv_model.specs.declared.program.Rule.{Rule}
use Rattle.tv_model.proofs.Lists.{All-from_contains, slice_get-contains}
use Rattle.tv_rules.proofs.Plain.{properties-each}
use Rattle.tv_structure_form.specs.StructureForm.{StructureForm, arities_of}
use Rattle.tv_replay_laws.specs.JudgedRules.{rules_of_properties}
use Rattle.tv_replay_judge.specs.Ready.{IsReadyToEvaluate}
use Rattle.tv_replay_judge.specs.Trying.{CanTell, CanJudge}

head-over : (p : ProgramForm) (head : HeadForm) → IsHead p head → IsFormulaOver (program_arities p) (head_formula head)
head-over p HNever is = tt
head-over p (HAtom true q vars) is = is
head-over p (HAtom false q vars) is = is
head-over p (HSame true v w) is = is
head-over p (HSame false v w) is = is

head-nesting : (head : HeadForm) → nesting (head_formula head) ≡ 0
head-nesting HNever = refl
head-nesting (HAtom true q vars) = refl
head-nesting (HAtom false q vars) = refl
head-nesting (HSame true v w) = refl
head-nesting (HSame false v w) = refl

-- what holds of the rules of each predicate's properties holds of all of them
properties-all : (P : RuleForm → Type 0) (q : ℕ) (preds : List PredForm)
    → ((k : ℕ) (d : PredForm) → slice_get preds k ≡ Some d → All P (property_rules (q + k) d.props))
    → All P (rules_of_properties q preds)
properties-all P q [] each = All-nil P
properties-all P q (p ∷ preds) each =
    All-append P (property_rules q p.props) (rules_of_properties (suc q) preds)
    (subst (λ n. All P (property_rules n p.props)) (whole q) (each 0 p refl))
    (properties-all P (suc q) preds (λ k d is. subst (λ n. All P (property_rules n d.props)) (next q k) (each (suc k) d is)))
  where
    whole : (n : ℕ) → n + 0 ≡ n
    whole n = omega arith

    next : (q k : ℕ) → q + suc k ≡ suc q + k
    next q k = omega arith

module _ (p : ProgramForm) (s : StructureForm) (room : ScratchForm) (ready : IsReadyToEvaluate p s room) where
  over : (f : Form) → IsFormula p f → IsFormulaOver (arities_of s) f
  over f is = subst (λ ns. IsFormulaOver ns f) (sym ready.arities) is

  -- a formula without closures
  low-tell : (f : Form) → IsFormulaOver (arities_of s) f → nesting f ≡ 0 → CanTell s room f
  low-tell f is none = record {
    structure = ready.structure;
    two_valued = ready.two_valued;
    formula = is;
    fits = record {
      closures = omega (arith, none);
      individuals = omega (arith, ready.structure.table.size, ready.room.individuals);
    };
  }

  -- a formula of the program
  pub can-tell : (f : Form) → IsFormula p f → height f ≤ program_height p + 4 → CanTell s room f
  can-tell f is low = record {
    structure = ready.structure;
    two_valued = ready.two_valued;
    formula = over f is;
    fits = made_scratches_fit p 256 s.size room f ready.room low ready.structure.table.size;
  }

  can-judge : (rule : RuleForm) → IsRule p rule → height rule.body ≤ program_height p → CanJudge s room rule
  can-judge rule is low = record {
    body = can-tell rule.body is.0.0 (omega (arith, low));
    head = low-tell (head_formula rule.head) (over (head_formula rule.head) (head-over p rule.head is.1)) (head-nesting rule.head);
  }

  pub declared-can : All (CanJudge s room) p.rules
  declared-can =
      All-from_contains (CanJudge s room) p.rules
      (λ rule at. can-judge rule (All-contains (IsRule p) p.rules rule ready.valid.rules at) ((within_height p).rules rule at))

  -- ---- the rules of properties

  arity-at : (q : ℕ) (d : PredForm) → slice_get p.preds q ≡ Some d → slice_get (arities_of s) q ≡ Some d.arity
  arity-at q d found =
      ap (λ ns. slice_get ns q) ready.arities ∙ slice_get-map (λ (x : PredForm). x.arity) p.preds q
      ∙ ap (option_map (λ (x : PredForm). x.arity)) found

  pair-over : (q v w : ℕ) → slice_get (arities_of s) q ≡ Some 2 → v < 32 → w < 32 → IsFormulaOver (arities_of s) (FAtom q (v ∷ w ∷ []))
  pair-over q v w e k l = (e, All-cons (λ x. x < 32) v (w ∷ []) k (All-cons (λ x. x < 32) w [] l (All-nil (λ x. x < 32))))

  one-over : (q v : ℕ) → slice_get (arities_of s) q ≡ Some 1 → v < 32 → IsFormulaOver (arities_of s) (FAtom q (v ∷ []))
  one-over q v e k = (e, All-cons (λ x. x < 32) v [] k (All-nil (λ x. x < 32)))

  simple : (body : Form) (head : HeadForm) → IsFormulaOver (arities_of s) body → nesting body ≡ 0 → IsFormulaOver (arities_of s) (head_formula head)
      → CanJudge s room (record { body = body; head = head })
  simple body head is none says = record { body = low-tell body is none; head = low-tell (head_formula head) says (head-nesting head) }

  properties-of : (q : ℕ) (d : PredForm) → slice_get p.preds q ≡ Some d → IsPred p d → All (CanJudge s room) (property_rules q d.props)
  properties-of q d found is =
      properties-each (CanJudge s room) q d.props
      (λ t. let a : slice_get (arities_of s) q ≡ Some 1 = at 1 (is.props.unique t)
      in simple (FAnd (FAtom q (0 ∷ [])) (FAtom q (1 ∷ []))) (HSame true 0 1) (one-over q 0 a zeroth, one-over q 1 a first) (omega arith) (zeroth, first))
      (λ t. let a : slice_get (arities_of s) q ≡ Some 2 = at 2 (is.props.function t)
      in simple (FAnd (FAtom q (0 ∷ 1 ∷ [])) (FAtom q (0 ∷ 2 ∷ []))) (HSame true 1 2)
      (pair-over q 0 1 a zeroth first, pair-over q 0 2 a zeroth second) (omega arith) (first, second))
      (λ t. let a : slice_get (arities_of s) q ≡ Some 2 = at 2 (is.props.invfunction t)
      in simple (FAnd (FAtom q (1 ∷ 0 ∷ [])) (FAtom q (2 ∷ 0 ∷ []))) (HSame true 1 2)
      (pair-over q 1 0 a first zeroth, pair-over q 2 0 a second zeroth) (omega arith) (first, second))
      (λ t. let a : slice_get (arities_of s) q ≡ Some 2 = at 2 (is.props.transitive t)
      in simple (FAnd (FAtom q (0 ∷ 1 ∷ [])) (FAtom q (1 ∷ 2 ∷ []))) (HAtom true q (0 ∷ 2 ∷ []))
      (pair-over q 0 1 a zeroth first, pair-over q 1 2 a first second) (omega arith) (pair-over q 0 2 a zeroth second))
      (λ t. let a : slice_get (arities_of s) q ≡ Some 2 = at 2 (is.props.reflexive t)
      in simple FOne (HAtom true q (0 ∷ 0 ∷ [])) tt refl (pair-over q 0 0 a zeroth zeroth))
      (λ t. let a : slice_get (arities_of s) q ≡ Some 2 = at 2 (is.props.symmetric t)
      in simple (FAtom q (0 ∷ 1 ∷ [])) (HAtom true q (1 ∷ 0 ∷ [])) (pair-over q 0 1 a zeroth first) refl (pair-over q 1 0 a first zeroth))
    where
      zeroth : 0 < 32
      zeroth = omega arith

      first : 1 < 32
      first = omega arith

      second : 2 < 32
      second = omega arith

      at : (n : ℕ) → d.arity ≡ n → slice_get (arities_of s) q ≡ Some n
      at n same = arity-at q d found ∙ ap (λ m. Some m) same

  pub properties-can : All (CanJudge s room) (rules_of_properties 0 p.preds)
  properties-can =
      properties-all (CanJudge s room) 0 p.preds (λ k d found.
      subst (λ n. All (CanJudge s room) (property_rules n d.props)) (whole k)
      (properties-of k d found (All-contains (IsPred p) p.preds d ready.valid.preds (slice_get-contains p.preds k d found))))
    where
      whole : (n : ℕ) → n ≡ 0 + n
      whole n = omega arith

-- ---- rules of the program, and their values

unmapped : (P : RuleForm → Type 0) (rules : List Rule) → All P (map rule_of rules) → All (λ rule. P (rule_of rule)) rules
unmapped P [] all = All-nil (λ rule. P (rule_of rule))
unmapped P (rule ∷ rules) all =
    All-cons (λ rule. P (rule_of rule)) rule rules (All-head P (rule_of rule) (map rule_of rules) all)
    (unmapped P rules (All-tail P (rule_of rule) (map rule_of rules) all))

pub of-values : (P : RuleForm → Type 0) (rules : List Rule) (forms : List RuleForm) → map rule_of rules ≡ forms → All P forms
    → All (λ rule. P (rule_of rule)) rules
of-values P rules forms are all = unmapped P rules (subst (All P) (sym are) all)
