use Rattle.std.proofs.Common.{◌∙◌, Some, ap, arith, sym}
use Rattle.std.specs.Prelude.{slice_get}
use Rattle.std.specs.Option.{option_map}
use Rattle.std.proofs.lemmas.Option.{slice_get-get_or, slice_get-map}
use Rattle.tv_model.specs.Program.{action_of, pred_of, program_of}
use Rattle.tv_plan.specs.Fates.{fate_at}
use Rattle.tv_plan.specs.Orders.{is_held}
use Rattle.tv_plan.proofs.Turns.{pred_turn}
use Rattle.tv_plan.proofs.fates.append_fates.Goals as goal

pub append_pred-requires : goal.append_pred-requires
append_pred-requires c =
    let preds = c.as_slice-preds.result.now in
    slice_get-map pred_of c.args.x.now.program.now.vocab.preds c.loop-q.q
    ∙ ap (λ ds. option_map pred_of (slice_get ds c.loop-q.q)) (sym c.as_slice-preds.ensures)
    ∙ ap (option_map pred_of) (slice_get-get_or preds c.loop-q.q c.index-preds-q.result
    (omega (arith, c.loop-q-test.true, c.loop-q.auto.q-end)) ∙ ap Some (sym c.index-preds-q.is))

pub loop-q-preserved : goal.loop-q-preserved
loop-q-preserved c =
    let preds = c.as_slice-preds.result.now in
    let p = program_of c.args.x.now.program.now in
    let there = slice_get-map pred_of c.args.x.now.program.now.vocab.preds c.loop-q.q
    ∙ ap (λ ds. option_map pred_of (slice_get ds c.loop-q.q)) (sym c.as_slice-preds.ensures)
    ∙ ap (option_map pred_of) (slice_get-get_or preds c.loop-q.q c.index-preds-q.result
    (omega (arith, c.loop-q-test.true, c.loop-q.auto.q-end)) ∙ ap Some (sym c.index-preds-q.is)) in
    pred_turn p.preds (fate_at p c.args.x.now.mode (action_of c.args.x.now.action.now) (is_held c.args.x.now.anew.now))
    p.preds c.loop-q.q (pred_of c.index-preds-q.result) c.loop-q.out.items c.append_pred.new.out.items _ there
    c.in_ok-append_pred.ensures c.loop-q.invariant
