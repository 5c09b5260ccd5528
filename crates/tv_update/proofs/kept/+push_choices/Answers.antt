use Rattle.std.proofs.Common.{◌∙◌, ◌++◌, Bool, List, ap, map}
use Rattle.tv_update.specs.Kept.{flag_choices}
use Rattle.tv_update.proofs.KeptLaws.{begun_more}
use Rattle.tv_update.proofs.kept.+push_choices.Goals as goal

pub push_with-returns-clause-out : goal.push_with-returns-clause-out
push_with-returns-clause-out t c =
    c.in_ok-push_choices.ensures.out
    ∙ ap (λ (begun : List Bool). c.args.out.now.items ++ map (λ flags. begun ++ flags)
    (flag_choices c.args.later.now)) c.in_ok-push.ensures.items
    ∙ ap (λ xs. c.args.out.now.items ++ xs)
    (begun_more c.args.begun.now.items c.args.stays (flag_choices c.args.later.now))
