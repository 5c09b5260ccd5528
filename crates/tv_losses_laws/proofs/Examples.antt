-- A lost case, worked out by hand.
use Rattle.std.proofs.Common.{ℕ, ◌≡◌, Bool, true, false, List, [], ◌∷◌, length, None, Some, inl, inr, refl}
use Rattle.std.proofs.Common.{sym, ap, subst, arith, ⊎_elim, cond, rules, eqb}
use Rattle.std.proofs.lemmas.List.Elements.{All-cons, All-head, All-nil}
use Rattle.tv_kleene.specs.declared.K3.{K3}
use Rattle.tv_kleene.specs.declared.K3.TheVariants.{No, Yes}
use Rattle.tv_model.specs.declared.program.Mode.TheVariants.{Given}
use Rattle.tv_model.specs.Form.{FOne, FExists}
use Rattle.tv_model.specs.Program.{HNever, RuleForm}
use Rattle.tv_model.specs.Rules.{blank, IsOfIndividuals}
use Rattle.tv_model.specs.Truth.{Assignment}
use Rattle.tv_model.specs.Valid.{IsAction, IsEdge, IsPred, IsRule, IsValid}
use Rattle.tv_model.proofs.Lists.{Contains-cases, Contains-here, Contains-none}
use Rattle.tv_embedding_laws.specs.LogicalStructure.{LogicalStructure}
use Rattle.tv_embedding_laws.proofs.EmbeddingLaws.{EmbedsOn-id}
use Rattle.tv_eval_laws.specs.Value.{greatest_of}
use Rattle.tv_stable_laws.specs.Stable.{IsHeadMet, IsStable, IsStableUnder}
use Rattle.tv_rules.specs.Closing.{closed_rules}
use Rattle.tv_structure_form.specs.StructureForm.{StructureForm, structure_of, summary_at, value_at}
use Rattle.tv_structure_form.specs.TableForm.{IsPlane}
use Rattle.tv_update_laws.specs.Applied.{IsGrown, IsNew}
use Rattle.tv_update_laws.specs.Choices.{stays_in}
use Rattle.tv_step_laws.specs.Shaped.{IsShaped}
use Rattle.tv_step_laws.specs.Transfer.{HasNoOpening, IsCoerced}
use Rattle.tv_losses_laws.specs.Cases.{IsLostCase}
use Rattle.tv_losses_laws.specs.Example.{Example, adding_one, none_allowed, no_individuals, only_case}

abbrev the_rule : RuleForm
the_rule = record { body = FExists 0 FOne; head = HNever }

-- one individual
abbrev one : StructureForm
one = record { size = 1; summaries = false ∷ []; planes = []; fresh = None }

-- ---- rules

unmet : (s : LogicalStructure) (a : Assignment) → ¬ IsHeadMet s a HNever
unmet s a (inl same) = absurd (cc same)
unmet s a (inr half) = half.twice

free-none : (individuals : List ℕ) (a : Assignment) → IsOfIndividuals individuals the_rule a
free-none individuals a v (inl free) = absurd free.1
free-none individuals a v (inr free) = absurd free

stable-no_individuals : IsStable (closed_rules none_allowed) (structure_of no_individuals)
stable-no_individuals =
    All-cons (IsStableUnder (structure_of no_individuals)) the_rule []
    (λ a inside sure. absurd (cc sure)) (All-nil (IsStableUnder (structure_of no_individuals)))

none-below : HasNoOpening none_allowed one
none-below u below stable =
    unmet u blank
    (All-head (IsStableUnder u) the_rule [] stable blank (free-none u.individuals blank)
    (ap (greatest_of (λ w. Yes)) below.0))

-- ---- structures

shaped-no_individuals : IsShaped none_allowed no_individuals
shaped-no_individuals = record { over = refl; planes = All-nil (IsPlane 0); summaries = refl }

shaped-one : IsShaped none_allowed one
shaped-one = record { over = refl; planes = All-nil (IsPlane 1); summaries = refl }

same-both : (b : Bool) (k : K3) → cond b k k ≡ k
same-both true k = refl
same-both false k = refl

no-value : (q : ℕ) (tuple : List ℕ) → value_at one q tuple ≡ No
no-value q tuple = same-both (eqb (length tuple) 0) No

coerced : IsCoerced none_allowed no_individuals no_individuals
coerced = record {
  greatest = record {
    below = (refl, EmbedsOn-id (λ pred. Unit {0}) (structure_of no_individuals));
    stable = stable-no_individuals;
    greatest = λ u below stable. below;
  };
  shaped = shaped-no_individuals;
  mark = refl;
}

-- ---- the update

abbrev middle : LogicalStructure
middle = record {
  individuals = 0 ∷ [];
  value = λ q tuple. No;
  is_summary = λ u. false;
  fresh = Some 0;
}

grown : IsGrown (structure_of no_individuals) middle
grown = record {
  further = 0;
  is_further = Contains-none 0;
  individuals = refl;
  values = λ q tuple all. sym (no-value q tuple);
  no_values = λ q tuple all at. refl;
  summaries = λ u at. absurd (Contains-none u at);
  ordinary = refl;
  mark = refl;
}

new : IsNew none_allowed Given adding_one blank middle (stays_in (0 ∷ [])) (structure_of one)
new = record {
  origin = λ u. u;
  origins = refl;
  differ = λ u w hu hw same. same;
  changed = λ q. false;
  are_changed = λ q. (λ t. absurd (cc t), λ none. absurd none);
  values = λ q tuple all. no-value q tuple;
  summaries = λ u at. ⊎_elim
      (λ is. subst (λ w. summary_at one w ≡ false) is refl)
      (λ none. absurd (Contains-none u none))
      (Contains-cases 0 u [] at);
  no_mark = refl;
}

-- ---- the program

valid-adding_one : IsAction none_allowed adding_one
valid-adding_one = record {
  precondition = refl;
  focus = λ k d within. absurd (omega (arith, within));
  messages = λ k d within. absurd (omega (arith, within));
  message_count = omega arith;
  retain = tt;
  updates = λ k d within. absurd (omega (arith, within));
  updated_once = search rules;
}

valid-rule : IsRule none_allowed the_rule
valid-rule = (((omega arith, tt), λ none. none), tt)

valid : IsValid none_allowed
valid = record {
  preds = All-nil (IsPred none_allowed);
  pred_names_differ = search rules;
  pred_count = omega arith;
  rank = λ q. 0;
  no_cycle = record { falls = λ q d found. absurd (cc found) };
  rules = All-cons (IsRule none_allowed) the_rule [] valid-rule (All-nil (IsRule none_allowed));
  rule_count = omega arith;
  actions = All-cons (IsAction none_allowed) adding_one [] valid-adding_one (All-nil (IsAction none_allowed));
  edges = All-cons (IsEdge none_allowed) (record { from = 0; action = 0; to = 0 }) []
      (omega arith, omega arith, omega arith) (All-nil (IsEdge none_allowed));
  some_edge = omega arith;
  edge_count = omega arith;
  nodes = search rules;
  node_names_differ = search rules;
  node_count = omega arith;
}

lost : IsLostCase none_allowed Given 0 no_individuals only_case
lost = record {
  action = adding_one;
  its_action = record {
    taken = record { from = 0; action = 0; to = 0 };
    its_edge = refl;
    its_action = refl;
  };
  is_case = record {
    focused = (
      no_individuals ∷ [],
      (no_individuals ∷ [], inr (no_individuals, coerced, refl), refl),
      Contains-here no_individuals [],
    );
    listed = Contains-here [] [];
    enabled = refl;
  };
  dropped = record {
    given = one ∷ [];
    are_given = (
      (middle, grown, (new, tt)),
      All-cons (IsShaped none_allowed) one [] shaped-one
          (All-nil (IsShaped none_allowed)),
    );
    none = All-cons (HasNoOpening none_allowed) one [] none-below (All-nil (HasNoOpening none_allowed));
  };
}

pub example : Example
example = record { valid = valid; lost = lost }
