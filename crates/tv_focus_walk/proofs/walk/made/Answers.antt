use Rattle.std.proofs.Common.{◌≡◌, ◌∙◌, ap, subst, sym}
use Rattle.std.proofs.lemmas.Result.{IfOk-weaker}
use Rattle.tv_focus.specs.Puts.{IsChoiceOf}
use Rattle.tv_focus_walk.specs.Walk.{walk_aim, walk_pred, walk_table}
use Rattle.tv_focus_walk.proofs.walk.made.Goals as goal

pub make_choice-requires-clause-choice : goal.make_choice-requires-clause-choice
make_choice-requires-clause-choice c =
    let w = c.args.w.now
    in subst (IsChoiceOf w.from.now (walk_pred w) (walk_aim w)) (sym (c.as_slice-sets.ensures.value ∙ c.in_ok-own.ensures))
    c.requires.choice

pub returns : goal.returns
returns c =
    let w = c.args.w.now
    in IfOk-weaker c.make_choice.result (λ t. t ≡ walk_table w c.as_slice-sets.result.now)
    (λ t. t ≡ walk_table w c.args.choice.now)
    (λ t is. is ∙ ap (walk_table w) (c.as_slice-sets.ensures.value ∙ c.in_ok-own.ensures)) c.make_choice.ensures
