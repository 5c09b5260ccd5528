use Rattle.std.proofs.Common.{ℕ, ◌≡◌, min, max, ◌∙◌, refl}
use Rattle.tv_model.specs.Program.{ProgramForm, program_of, pred_of, rule_of, action_of}
use Rattle.tv_model.specs.Form.{height}
use Rattle.tv_quantifiers.specs.Heights.{deepest, kind_height, action_height}
use Rattle.tv_quantifiers.proofs.Deepest.{fold-of_parts, capped-max}
use Rattle.tv_quantifiers.proofs.height.program_height.Goals as goal

pub returns : goal.returns
returns c =
    let p : ProgramForm = program_of c.args.program.now
    in let preds : c.in_preds.result ≡ min (deepest (λ d. kind_height d.kind) p.preds) 18446744073709551615 =
    fold-of_parts (λ d. kind_height d.kind) pred_of 18446744073709551615 c.in_preds.result
    c.args.program.now.vocab.preds
    (c.in_preds.ensures ∙ (rw c.as_slice.ensures refl))
    in let rules : c.in_rules.result ≡ min (deepest (λ rule. height rule.body) p.rules) 18446744073709551615 =
    fold-of_parts (λ rule. height rule.body) rule_of 18446744073709551615 c.in_rules.result c.args.program.now.rules
    (c.in_rules.ensures ∙ (rw c.as_slice-2.ensures refl))
    in let actions : c.in_actions.result ≡ min (deepest action_height p.actions) 18446744073709551615 =
    fold-of_parts action_height action_of 18446744073709551615 c.in_actions.result c.args.program.now.actions
    (c.in_actions.ensures ∙ (rw c.as_slice-3.ensures refl))
    in let m : ℕ = 18446744073709551615
    in let ruled : ℕ = deepest (λ rule. height rule.body) p.rules
    in let acted : ℕ = deepest action_height p.actions
    in let two : c.max.result ≡ min (max ruled acted) m =
    capped-max c.in_rules.result c.in_actions.result ruled acted m c.max.result rules actions c.max.ensures
    in capped-max c.in_preds.result c.max.result (deepest (λ d. kind_height d.kind) p.preds) (max ruled acted) m
    c.max-2.result preds two c.max-2.ensures
