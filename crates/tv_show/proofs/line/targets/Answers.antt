use Rattle.std.proofs.Common.{◌∷◌, ◌++◌, [], ◌∙◌, ap, sym}
use Rattle.tv_lemmas.proofs.Lists.{map_range_more}
use Rattle.tv_show.specs.Line.{target_text}
use Rattle.tv_show.proofs.line.targets.Goals as goal

pub loop-u-preserved : goal.loop-u-preserved
loop-u-preserved c =
    c.in_ok-push.ensures ∙ ap (λ text. c.loop-u.texts ++ text ∷ []) c.in_ok-target.ensures
    ∙ ap (λ texts. texts ++ target_text c.args.preds.now c.args.s.now c.loop-u.u ∷ []) c.loop-u.invariant
    ∙ sym (map_range_more (target_text c.args.preds.now c.args.s.now) c.loop-u.u)
