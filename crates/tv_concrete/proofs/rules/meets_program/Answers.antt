-- The program's rules and those of its properties.
use Rattle.std.proofs.Common.{◌↔◌, All, IsTrue, IfOk, List, map, subst}
use Rattle.tv_model.specs.declared.program.Pred.{Pred}
use Rattle.tv_model.specs.declared.program.Rule.{Rule}
use Rattle.tv_model.specs.Program.{pred_of, rule_of, program_of, EachPred}
use Rattle.tv_model.specs.Rules.{MeetsProgram, MeetsRule, property_rules}
use Rattle.tv_concrete.specs.Lists.{heap_of}
use Rattle.tv_concrete.proofs.Parts.{part-fails, part-holds, result-answer}
use Rattle.tv_concrete.proofs.rules.meets_program.Goals as goal

pub returns-then-not-branch : goal.returns-then-not-branch
returns-then-not-branch c =
    let Of : List Rule → Type 0 = λ rules. IsTrue c.in_ok-meets_rules.field-0
    ↔ All (MeetsRule (heap_of c.args.heap.now)) (map rule_of rules)
    in part-fails (All (MeetsRule (heap_of c.args.heap.now)) (map rule_of c.args.program.now.rules))
    (MeetsProgram (program_of c.args.program.now)
    (heap_of c.args.heap.now)) c.in_ok-meets_rules.field-0 c.if-not-branch.true
    (subst Of c.as_slice.ensures c.in_ok-meets_rules.ensures) (λ m. m.rules)

pub returns : goal.returns
returns c =
    let Of : List Rule → Type 0 = λ rules. IsTrue c.in_ok-meets_rules.field-0
    ↔ All (MeetsRule (heap_of c.args.heap.now)) (map rule_of rules)
    in let Each : List Pred → Type 0 = λ preds. EachPred (map pred_of preds)
    (λ q d. All (MeetsRule (heap_of c.args.heap.now)) (property_rules q d.props))
    in let Answer : List Pred → Type 0 = λ preds. IfOk c.meets_all_properties.result (λ b. IsTrue b ↔ Each preds)
    in result-answer (Each c.args.program.now.vocab.preds)
    (MeetsProgram (program_of c.args.program.now) (heap_of c.args.heap.now))
    (λ each. record {
      rules = part-holds (All (MeetsRule (heap_of c.args.heap.now))
          (map rule_of c.args.program.now.rules)) c.in_ok-meets_rules.field-0
          c.if-not-branch.false (subst Of c.as_slice.ensures c.in_ok-meets_rules.ensures);
      properties = each;
    })
    (λ m. m.properties) c.meets_all_properties.result (subst Answer c.as_slice-2.ensures c.meets_all_properties.ensures)
