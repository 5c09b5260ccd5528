use Rattle.std.proofs.Common.{subst}
use Rattle.std.specs.Prelude.{Any}
use Rattle.tv_focus.specs.Seen.{aim_of}
use Rattle.tv_focus_walk.specs.Walk.{HasOther, walk_pred}
use Rattle.tv_focus_walk.proofs.Foretelling.{apart-refutes}
use Rattle.tv_focus_walk.proofs.narrow.look_ahead.Goals as goal

pub returns-then-is_one_apart-clause-outlook : goal.returns-then-is_one_apart-clause-outlook
returns-then-is_one_apart-clause-outlook c =
    let w = c.args.w.now
    in let hand = c.args.hand
    in apart-refutes w c.args.scratch.now c.args.begun.now hand.structure.now (aim_of hand.aim.now) hand.since
    c.args.set.now c.requires.can c.requires.hand.0
    (subst (λ p. Any (HasOther hand.structure.now (walk_pred w) (aim_of hand.aim.now) p) c.args.set.now)
    c.requires.hand.1 (c.is_one_apart.ensures c.if-is_one_apart.true))
