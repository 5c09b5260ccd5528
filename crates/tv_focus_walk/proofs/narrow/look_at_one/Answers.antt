use Rattle.tv_focus.specs.Seen.{aim_of}
use Rattle.tv_focus_walk.proofs.Coercing.{are-plain}
use Rattle.tv_focus_walk.proofs.Looking.{foretold, one-leads, one-ready}
use Rattle.tv_focus_walk.proofs.narrow.look_at_one.Goals as goal

pub narrowed-requires-clause-ready : goal.narrowed-requires-clause-ready
narrowed-requires-clause-ready c =
    let hand = c.args.hand
    in one-ready c.args.w.now c.args.begun.now c.args.set.now c.args.vector.now hand.structure.now
    c.in_ok-structure.structure c.put_noted-since.new.t (aim_of hand.aim.now) (aim_of c.in_ok-aim.aim) hand.at hand.since
    c.put_noted-since.result c.requires.hand.0 c.requires.hand.1 c.requires.place c.requires.one c.in_ok-structure.ensures.value
    c.put_noted-since.ensures.size c.put_noted-since.ensures.over c.put_noted-since.ensures.kept c.in_ok-aim.ensures
    c.put_noted-since.ensures.rest

pub returns-clause-outlook : goal.returns-clause-outlook
returns-clause-outlook c =
    let hand = c.args.hand
    in foretold c.args.w.now c.args.begun.now c.args.set.now hand.structure.now c.put_noted-since.new.t c.narrowed.result
    (one-leads c.args.w.now c.args.scratch.now c.args.begun.now c.args.set.now c.args.vector.now hand.structure.now
    c.in_ok-structure.structure c.put_noted-since.new.t (aim_of hand.aim.now) (aim_of c.in_ok-aim.aim) hand.at hand.since
    c.vectors_lead.ensures c.requires.can c.requires.hand.0 c.requires.hand.1 c.requires.place c.requires.one
    c.in_ok-structure.ensures.value c.put_noted-since.ensures.value)
    c.narrowed.ensures.outlook

pub put_noted-since-requires-clause-plain : goal.put_noted-since-requires-clause-plain
put_noted-since-requires-clause-plain c = are-plain c.args.w.now c.args.scratch.now c.requires.can
