use Rattle.std.proofs.Common.{◌≡◌, ◌++◌, ◌∙◌, ap, subst, drop, length}
use Rattle.std.specs.Prelude.{OnOk}
use Rattle.std.proofs.lemmas.List.FromFn.{length-map-range_with_len}
use Rattle.tv_show.specs.Line.{target_text}
use Rattle.tv_show.specs.Rows.{each_pred, binary_marked}
use Rattle.tv_show.proofs.Walked.{individual_written, node_written}
use Rattle.tv_show.proofs.line.append_individual.Goals as goal

pub append_arrows-requires-clause-targets : goal.append_arrows-requires-clause-targets
append_arrows-requires-clause-targets c =
    ap length (c.as_slice-3.ensures ∙ c.requires.labels.targets)
    ∙ length-map-range_with_len (target_text c.args.preds.now c.args.s.now) 0 c.args.s.now.size

pub returns : goal.returns
returns c =
    subst (λ t. OnOk c.append_joined.result (c.append_joined.new.out.items ≡ t))
    (ap (λ t. c.append_node.new.out.items ++ drop 1 t) c.as_slice-4.ensures.value
    ∙ individual_written c.args.preds.now c.args.s.now c.args.u c.as_slice-3.result.now c.args.out.now.items
    c.extend_from_slice.new.self.items c.append_node.new.out.items c.append_arrows.new.out.items
    (c.as_slice-3.ensures ∙ c.requires.labels.targets) c.in_ok-extend_from_slice.ensures.items
    (c.in_ok-append_node.ensures
    ∙ ap (λ t. c.extend_from_slice.new.self.items ++ t)
    (node_written c.args.preds.now c.args.s.now c.args.u c.summary.result c.as_slice-2.result.now c.summary.ensures
    (c.as_slice-2.ensures.value ∙ c.in_ok-say.ensures)))
    (c.in_ok-append_arrows.ensures
    ∙ ap (λ t. t ++ each_pred 2 (binary_marked c.args.s.now c.as_slice-3.result.now c.args.u) 0 c.args.preds.now)
    c.clear.ensures.items))
    c.append_joined.ensures
