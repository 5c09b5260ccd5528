-- The program that makes one declaration alone is valid.
use Rattle.std.proofs.Common.{ℕ, ◌≡◌, ◌≢◌, ◌≤◌, ◌∙◌, Bool, true, false, List, [], ◌∷◌, map, length, refl, sym}
use Rattle.std.proofs.Common.{Option, None, Some, ap, subst, arith, All, AllPairs, slice_get, true≢false}
use Rattle.std.proofs.Common.{rules}
use Rattle.std.specs.Prelude.{suc}
use Rattle.std.proofs.lemmas.List.Elements.{All-nil, All-cons, All-head, All-tail}
use Rattle.tv_model.specs.Form.{Form}
use Rattle.tv_model.specs.Program.{ProgramForm, PredForm, KindForm, KCore, KDefined, HeadForm, HNever}
use Rattle.tv_model.specs.Program.{HAtom, HSame, RuleForm, no_props, pred_of, program_of}
use Rattle.tv_model.specs.Valid.{AreProperties, IsAction, IsEdge, IsFormulaOver, IsHead, IsKind, IsPred}
use Rattle.tv_model.specs.Valid.{IsRank}
use Rattle.tv_model.specs.Valid.{IsRule, IsValid, program_arities}
use Rattle.tv_model.specs.declared.program.Program.{Program}
use Rattle.tv_model.proofs.Parts.{arities-same}
use Rattle.tv_rules.proofs.MetByHeaps.{All-found}
use Rattle.tv_structure_form.specs.StructureForm.{StructureForm, IsOver}
use Rattle.tv_losses_unmet.specs.Alone.{alone, idle, is_of, kept_pred, loop_edge, preds_alone}
use Rattle.tv_losses_unmet.specs.Alone.{rules_alone}
use Rattle.tv_losses_unmet.specs.Unmet.{listed}
use Rattle.tv_losses_unmet.specs.declared.claim.Claim.{Claim}
use Rattle.tv_losses_unmet.specs.declared.claim.Claim.TheVariants.{Predicate, Rule}
use Rattle.tv_losses_unmet.proofs.Claims.{arities-alone, length-alone, names-alone, was-kept}

-- ---- what is valid over the same arities

module _ (p other : ProgramForm) (same : program_arities other ≡ program_arities p) where
  form-moved : (f : Form) → IsFormulaOver (program_arities p) f → IsFormulaOver (program_arities other) f
  form-moved f is = subst (λ ns. IsFormulaOver ns f) (sym same) is

  kind-moved : (arity : ℕ) (kind : KindForm) → IsKind p arity kind → IsKind other arity kind
  kind-moved arity KCore is = tt
  kind-moved arity (KDefined vars body) is = (is.0, (form-moved body is.1.0, is.1.1), is.2)

  head-moved : (head : HeadForm) → IsHead p head → IsHead other head
  head-moved HNever is = tt
  head-moved (HAtom flag q vars) is =
      (ap (λ ns. slice_get ns q) same ∙ is.0, is.1)
  head-moved (HSame flag v w) is = is

  pub rule-moved : (rule : RuleForm) → IsRule p rule → IsRule other rule
  rule-moved rule is = ((form-moved rule.body is.0.0, is.0.1), head-moved rule.head is.1)

  no-properties : (arity : ℕ) → AreProperties arity no_props
  no-properties arity = record {
    unique = λ t. absurd (true≢false (sym t));
    function = λ t. absurd (true≢false (sym t));
    invfunction = λ t. absurd (true≢false (sym t));
    transitive = λ t. absurd (true≢false (sym t));
    reflexive = λ t. absurd (true≢false (sym t));
    symmetric = λ t. absurd (true≢false (sym t));
  }

  pred-kept : (on : Bool) (d : PredForm) → IsPred p d → IsPred other (kept_pred on d)
  pred-kept true d is = record {
    name = is.name;
    arity = is.arity;
    kind = kind-moved d.arity d.kind is.kind;
    props = is.props;
  }
  pred-kept false d is = record {
    name = is.name;
    arity = is.arity;
    kind = tt;
    props = no-properties d.arity;
  }

  pub preds-kept : (claim : Claim) (q : ℕ) (preds : List PredForm) → All (IsPred p) preds
      → All (IsPred other) (preds_alone claim q preds)
  preds-kept claim q [] all = All-nil (IsPred other)
  preds-kept claim q (d ∷ preds) all =
      All-cons (IsPred other) (kept_pred (is_of claim q) d) (preds_alone claim (suc q) preds)
      (pred-kept (is_of claim q) d (All-head (IsPred p) d preds all))
      (preds-kept claim (suc q) preds (All-tail (IsPred p) d preds all))

  rule-listed : (rule : Option RuleForm) → ((r : RuleForm) → rule ≡ Some r → IsRule p r)
      → All (IsRule other) (listed rule)
  rule-listed None is = All-nil (IsRule other)
  rule-listed (Some rule) is =
      All-cons (IsRule other) rule [] (rule-moved rule (is rule refl)) (All-nil (IsRule other))

  pub rules-kept : (claim : Claim) (rules : List RuleForm) → All (IsRule p) rules
      → All (IsRule other) (rules_alone claim rules)
  rules-kept (Predicate q) rules all = All-nil (IsRule other)
  rules-kept (Rule number) rules all =
      rule-listed (slice_get rules number) (λ r found. All-found (IsRule p) rules number r all found)

-- ---- ranks

defined-before : (on : Bool) (d : PredForm) (vars : List ℕ) (body : Form)
    → (kept_pred on d).kind ≡ KDefined vars body → d.kind ≡ KDefined vars body
defined-before true d vars body is = is
defined-before false d vars body is = absurd (cc (is))

rank-kept : (claim : Claim) (p : ProgramForm) (rank : ℕ → ℕ) → IsRank p rank → IsRank (alone claim p) rank
rank-kept claim p rank is = record {
  falls = λ q d found vars body defined r mentions.
      let was = was-kept claim 0 p.preds q d found in
      is.falls q was.before was.at vars body
      (defined-before was.on was.before vars body
      (subst (λ (x : PredForm). x.kind ≡ KDefined vars body) was.is defined)) r mentions;
}

-- ---- rules and graph

few-listed : (rule : Option RuleForm) → length (listed rule) ≤ 65536
few-listed None = omega arith
few-listed (Some rule) = omega arith

few-rules : (claim : Claim) (rules : List RuleForm) → length (rules_alone claim rules) ≤ 65536
few-rules (Predicate q) rules = omega arith
few-rules (Rule number) rules = few-listed (slice_get rules number)

idle-action : (p : ProgramForm) → IsAction p idle
idle-action p = record {
  precondition = refl;
  focus = λ k d within. absurd (omega (arith, within));
  messages = λ k d within. absurd (omega (arith, within));
  message_count = omega arith;
  retain = tt;
  updates = λ k d within. absurd (omega (arith, within));
  updated_once = search rules;
}

pub alone-valid : (claim : Claim) (p : ProgramForm) → IsValid p → IsValid (alone claim p)
alone-valid claim p valid =
    let same : program_arities (alone claim p) ≡ program_arities p = arities-alone claim 0 p.preds in
    record {
      preds = preds-kept p (alone claim p) same claim 0 p.preds valid.preds;
      pred_names_differ = subst (AllPairs ◌≢◌) (sym (names-alone claim 0 p.preds)) valid.pred_names_differ;
      pred_count = subst (λ n. n ≤ 512) (sym (length-alone claim 0 p.preds)) valid.pred_count;
      rank = valid.rank;
      no_cycle = rank-kept claim p valid.rank valid.no_cycle;
      rules = rules-kept p (alone claim p) same claim p.rules valid.rules;
      rule_count = few-rules claim p.rules;
      actions = All-cons (IsAction (alone claim p)) idle [] (idle-action (alone claim p))
          (All-nil (IsAction (alone claim p)));
      edges = All-cons (IsEdge (alone claim p)) loop_edge [] (omega arith, omega arith, omega arith)
          (All-nil (IsEdge (alone claim p)));
      some_edge = omega arith;
      edge_count = omega arith;
      nodes = search rules;
      node_names_differ = search rules;
      node_count = omega arith;
    }

pub alone-over : (claim : Claim) (program made : Program) (s : StructureForm)
    → program_of made ≡ alone claim (program_of program) → IsOver program.vocab s → IsOver made.vocab s
alone-over claim program made s is over =
    over ∙ sym (arities-same program.vocab.preds)
    ∙ sym (arities-alone claim 0 (map pred_of program.vocab.preds))
    ∙ sym (ap (λ (p : ProgramForm). map (λ d. d.arity) p.preds) is)
    ∙ arities-same made.vocab.preds
