use Rattle.std.proofs.Common.{ℕ, ◌≤◌, ◌+◌, ◌∙◌, sym, All}
use Rattle.std.proofs.lemmas.List.{length-map}
use Rattle.tv_model.specs.Form.{height}
use Rattle.tv_model.specs.Heap.{Heap}
use Rattle.tv_model.specs.Program.{RuleForm, pred_of, program_of}
use Rattle.tv_model.specs.Rules.{IsConcrete, MeetsProgram, MeetsRule}
use Rattle.tv_model.specs.Valid.{IsRule}
use Rattle.tv_stable_laws.specs.Laws.{IsPlainRule}
use Rattle.tv_rules.specs.EntryForms.{rules_of}
use Rattle.tv_rules.specs.Laws.{IsNoHigher}
use Rattle.tv_rules.proofs.Heights.{closed-low}
use Rattle.tv_rules.proofs.MetByHeaps.{closed_rules_are_met}
use Rattle.tv_rules.proofs.Plain.{closed_rules_are_rules}
use Rattle.tv_rules.proofs.Ranges.{of_program, ok-gives, closed-in_range, variables-in_range, rules_are_plain}
use Rattle.tv_rules.proofs.closed.close_rules.Goals as goal

pub closed_of-requires-clause-preds : goal.closed_of-requires-clause-preds
closed_of-requires-clause-preds c =
    closed-in_range (program_of c.args.program.now) c.in_ok-bases.bases c.len.result c.requires c.in_ok-bases.ensures
    (length-map c.args.program.now.vocab.preds pred_of ∙ sym c.len.ensures)

pub closed_of-requires-clause-variables : goal.closed_of-requires-clause-variables
closed_of-requires-clause-variables c =
    variables-in_range (program_of c.args.program.now) c.in_ok-bases.bases c.requires c.in_ok-bases.ensures

pub returns-clause-met : goal.returns-clause-met
returns-clause-met c =
    let p = program_of c.args.program.now
    in ok-gives c.closed_of.result c.in_ok-bases.bases
    (λ bases. (h : Heap) → IsConcrete p h → MeetsProgram p h → All (MeetsRule h) (rules_of bases)) c.closed_of.ensures
    (of_program p c.in_ok-bases.bases c.in_ok-bases.ensures
    (λ rules. (h : Heap) → IsConcrete p h → MeetsProgram p h → All (MeetsRule h) rules)
    (λ h concrete meets. closed_rules_are_met p h c.requires concrete meets))

pub returns-clause-valid : goal.returns-clause-valid
returns-clause-valid c =
    let p = program_of c.args.program.now
    in ok-gives c.closed_of.result c.in_ok-bases.bases (λ bases. All (IsRule p) (rules_of bases)) c.closed_of.ensures
    (of_program p c.in_ok-bases.bases c.in_ok-bases.ensures (λ rules. All (IsRule p) rules) (closed_rules_are_rules p c.requires))

pub returns-clause-plain : goal.returns-clause-plain
returns-clause-plain c =
    let p = program_of c.args.program.now
    in ok-gives c.closed_of.result c.in_ok-bases.bases (λ bases. All IsPlainRule (rules_of bases)) c.closed_of.ensures
    (of_program p c.in_ok-bases.bases c.in_ok-bases.ensures (λ rules. All IsPlainRule rules) (rules_are_plain p c.requires))

pub returns-clause-heights : goal.returns-clause-heights
returns-clause-heights c =
    let p = program_of c.args.program.now
    in ok-gives c.closed_of.result c.in_ok-bases.bases
    (λ bases. (n : ℕ) → IsNoHigher p n → All (λ (rule : RuleForm). height rule.body ≤ n + 4) (rules_of bases)) c.closed_of.ensures
    (of_program p c.in_ok-bases.bases c.in_ok-bases.ensures
    (λ rules. (n : ℕ) → IsNoHigher p n → All (λ (rule : RuleForm). height rule.body ≤ n + 4) rules) (closed-low p))
