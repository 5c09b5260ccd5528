use Rattle.std.proofs.Common.{◌≡◌, ◌∙◌, ◌++◌, [], ◌∷◌, Bool, true, List, ap, length, map, replicate, rules}
use Rattle.std.proofs.Common.{sym}
use Rattle.tv_update.specs.Kept.{flag_choices}
use Rattle.tv_update.proofs.KeptLaws.{begun_none, choices_of_yes}
use Rattle.tv_update.proofs.kept.choices.Goals as goal

pub returns : goal.returns
returns c =
    c.in_ok-push_choices.ensures.out
    ∙ ap (λ (out : List (List Bool)). out ++ map (λ flags. c.new-begun.result.items ++ flags)
    (flag_choices c.args.values.now)) c.new-out.ensures.items
    ∙ ap (λ (begun : List Bool). map (λ flags. begun ++ flags)
    (flag_choices c.args.values.now)) c.new-begun.ensures.items
    ∙ begun_none (flag_choices c.args.values.now)

pub returns-then-are_yes : goal.returns-then-are_yes
returns-then-are_yes c =
    let flags : c.from_vec.result ≡ replicate (length c.args.values.now) true
    = c.from_vec.ensures ∙ c.in_ok-vec.ensures.items_if_clones_equal (search rules)
    in c.in_ok-push.ensures.items
    ∙ ap (λ (out : List (List Bool)). out ++ c.from_vec.result ∷ []) c.new-out.ensures.items
    ∙ ap (λ (one : List Bool). one ∷ []) flags
    ∙ sym (choices_of_yes c.args.values.now (c.are_yes.ensures c.if-are_yes.true))
