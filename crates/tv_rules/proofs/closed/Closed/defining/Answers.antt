use Rattle.std.proofs.Common.{ℕ, [], ◌∷◌, get_or, sym, subst, All}
use Rattle.std.proofs.lemmas.List.{get_or_default}
use Rattle.std.proofs.lemmas.List.Elements.{All-nil, All-cons, All-append}
use Rattle.std.proofs.lemmas.Option.{slice_get_within}
use Rattle.tv_model.specs.Program.{kind_of}
use Rattle.tv_rules.specs.Defining.{IsOfDefinition}
use Rattle.tv_rules.specs.EntryForms.{rules_of}
use Rattle.tv_rules.proofs.closed.Closed.defining.Goals as goal
use Rattle.tv_rules.proofs.closed.Closed.defining.Goals.{then-is_of_definition+in_ok-push}
use Rattle.tv_rules.proofs.closed.Closed.defining.Goals.{else-is_of_definition}
use Rattle.tv_rules.proofs.closed.Closed.defining.Goals.{in-Defined+else-loop-number-test, in_default}

pub is_of_definition-requires : goal.is_of_definition-requires
is_of_definition-requires c =
    let ns = c.by_pred-number-items.result.now
    in let k = c.loop-number.number-index
    in let at = (c.by_pred-number-items.ensures.exact (get_or ns k 0)).0
    (k, c.loop-number-test.true, get_or_default ns k (get_or ns k 0) 0 c.loop-number-test.true)
    in slice_get_within (rules_of c.args.self.now) (get_or ns k 0) at.0 at.1

pub loop-number-init : goal.loop-number-init
loop-number-init c =
    subst (All (IsOfDefinition c.args.self.now c.args.p.0 (kind_of c.args.kind.now))) (sym c.new-numbers.ensures)
    (All-nil (IsOfDefinition c.args.self.now c.args.p.0 (kind_of c.args.kind.now)))

pub loop-number-preserved : goal.loop-number-preserved
loop-number-preserved c = elim c.if-is_of_definition.branch [
  | then-is_of_definition+in_ok-push w ↦
      let P : ℕ → Type 0 = IsOfDefinition c.args.self.now c.args.p.0 (kind_of c.args.kind.now)
      in let n : ℕ = get_or c.by_pred-number-items.result.now c.loop-number.number-index 0
      in let own : P n = subst (λ k. IsOfDefinition c.args.self.now c.args.p.0 (kind_of k) n) (sym c.in-Defined.is)
      (c.is_of_definition.ensures w.if-is_of_definition.true)
      in rw (w.numbers-is, w.in_ok-push.ensures)
      (All-append P c.loop-number.numbers (n ∷ []) c.loop-number.invariant (All-cons P n [] own (All-nil P)))
  | else-is_of_definition w ↦ rw w.numbers-is c.loop-number.invariant
]

pub returns : goal.returns
returns c = elim c.match-kind.branch [
  | in-Defined+else-loop-number-test w ↦ rw w.numbers-is w.loop-number.invariant
  | in_default w ↦ rw (w.numbers-is, c.new-numbers.ensures) (All-nil (IsOfDefinition c.args.self.now c.args.p.0 (kind_of c.args.kind.now)))
]
