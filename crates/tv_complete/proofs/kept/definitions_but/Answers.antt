use Rattle.std.proofs.Common.{◌∙◌, ap, map}
use Rattle.tv_model.specs.Program.{pred_of, rule_of}
use Rattle.tv_complete.specs.Kept.{core_if_named}
use Rattle.tv_complete.proofs.Keeping.{made-valid, made-over}
use Rattle.tv_complete.proofs.kept.definitions_but.Goals as goal

pub returns-clause-valid : goal.returns-clause-valid
returns-clause-valid c =
    made-valid c.args.names.now c.args.program.now _
    (c.in_ok-preds.ensures ∙ ap (λ xs. map (core_if_named c.args.names.now) (map pred_of xs)) c.as_slice.ensures)
    (ap (map rule_of) c.new.ensures) c.in_ok-one_action.ensures
    c.in_ok-one_edge.ensures c.in_ok-one_node.ensures c.requires.valid

pub returns-clause-over : goal.returns-clause-over
returns-clause-over c =
    made-over c.args.names.now c.args.program.now _
    (c.in_ok-preds.ensures ∙ ap (λ xs. map (core_if_named c.args.names.now) (map pred_of xs)) c.as_slice.ensures)
    (ap (map rule_of) c.new.ensures) c.in_ok-one_action.ensures
    c.in_ok-one_edge.ensures c.in_ok-one_node.ensures
