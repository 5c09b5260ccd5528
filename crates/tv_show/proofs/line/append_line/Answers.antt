use Rattle.std.proofs.Common.{◌≡◌, ◌++◌, ◌∙◌, ap, subst}
use Rattle.std.specs.Prelude.{OnOk, codes}
use Rattle.std.specs.List.{flat_map, range_with_len}
use Rattle.tv_show.specs.Line.{individual_text}
use Rattle.tv_show.specs.Rows.{each_pred, nullary_marked}
use Rattle.tv_show.proofs.Walked.{line_written}
use Rattle.tv_show.proofs.line.append_line.Goals as goal

pub returns : goal.returns
returns c =
    subst (λ t. OnOk c.append_nullaries.result (c.append_nullaries.new.out.items ≡ t))
    (ap (λ preds. c.append_individuals.new.out.items ++ each_pred 0 (nullary_marked c.args.s.now) 0 preds) c.as_slice-2.ensures
    ∙ line_written c.args.vocab.now c.args.s.now c.args.out.now.items c.append_individuals.new.out.items
    (c.in_ok-append_individuals.ensures
    ∙ ap (λ preds. c.args.out.now.items
    ++ flat_map (λ u. codes "  " ++ individual_text preds c.args.s.now u) (range_with_len 0 c.args.s.now.size)) c.as_slice.ensures))
    c.append_nullaries.ensures
