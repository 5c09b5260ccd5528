use Rattle.std.proofs.Common.{[], ◌∷◌}
use Rattle.std.proofs.lemmas.Result.{IfOk-weaker}
use Rattle.tv_focus.specs.Seen.{aim_of}
use Rattle.tv_focus_walk.specs.Walk.{AddsCoerced, walk_table}
use Rattle.tv_focus_walk.proofs.Coercing.{made-adds}
use Rattle.tv_focus_walk.proofs.walk.push_choice.Goals as goal

pub returns-then-has_choice-clause-out : goal.returns-then-has_choice-clause-out
returns-then-has_choice-clause-out c =
    let w = c.args.w.now
    in let hand = c.args.hand
    in IfOk-weaker c.push_hand.result
    (λ u. AddsCoerced w (hand.structure.now ∷ []) c.args.out.now c.push_hand.new.out)
    (λ u. AddsCoerced w (walk_table w c.args.choice.now ∷ []) c.args.out.now c.push_hand.new.out)
    (λ u adds. made-adds w c.args.scratch.now hand.structure.now (aim_of hand.aim.now) hand.since c.args.choice.now
    c.args.out.now c.push_hand.new.out c.requires.can c.requires.hand.0 c.requires.above
    (c.has_choice.ensures c.if-has_choice.true) adds)
    c.push_hand.ensures.out
