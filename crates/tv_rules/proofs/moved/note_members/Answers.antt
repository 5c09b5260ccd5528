use Rattle.std.proofs.Common.{◌∙◌, ap, arith, length}
use Rattle.std.specs.Borrow.{Bor}
use Rattle.std.proofs.lemmas.List.{length-map}
use Rattle.tv_model.specs.declared.formula.Formula.{Formula}
use Rattle.tv_model.specs.Form.{form_of}
use Rattle.tv_model.specs.Program.{rule_of}
use Rattle.tv_coerce_moves.proofs.NotedLaws.{on-ok}
use Rattle.tv_rules.specs.EntryForms.{forms_of}
use Rattle.tv_rules.proofs.MovedLaws.{rule-noted}
use Rattle.tv_rules.proofs.moved.note_members.Goals as goal

pub returns-clause-noted : goal.returns-clause-noted
returns-clause-noted c =
    let list = c.as_slice.result.now
    in on-ok c.note_moves.result
    (λ last. rule-noted (length list) c.args.number (rule_of c.args.rule.now) (forms_of list) (form_of c.in_ok-negation.negation)
    c.args.occurrences.now c.note_conjuncts.new.occurrences c.note_moves.new.self
    (omega (arith, length-map list (λ (f : Bor Formula). form_of f.now))) (ap forms_of c.as_slice.ensures.value ∙ c.in_ok-list.ensures)
    c.in_ok-negation.ensures c.in_ok-note_conjuncts.ensures last) c.note_moves.ensures
