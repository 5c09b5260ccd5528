use Rattle.std.proofs.Common.{ℕ, ◌∙◌, [], ap, replicate, subst, sym}
use Rattle.tv_trail_laws.proofs.Places.{at-place}
use Rattle.tv_trail_laws.proofs.Walking.{nearest-shortest}
use Rattle.tv_work.specs.Task.{task_of}
use Rattle.tv_trail.specs.Asked.{goal_of}
use Rattle.tv_trail.specs.Searched.{TraceForm, IsState, AnswersSearch}
use Rattle.tv_trail.proofs.Answering.{all-passed}
use Rattle.tv_trail.proofs.Kept.{state-none}
use Rattle.tv_trail.proofs.Levelling.{openings-level}
use Rattle.tv_trail.proofs.trail.search_for.Goals as goal

pub open_all-requires-clause-kept : goal.open_all-requires-clause-kept
open_all-requires-clause-kept c =
    let start : ℕ → TraceForm = λ n. record { listing = replicate n []; found = [] }
    in subst (IsState (task_of c.args.x.now.task)) (sym (c.in_ok-search.ensures ∙ ap start c.len.ensures))
    (state-none (task_of c.args.x.now.task))

pub find-requires-clause-level : goal.find-requires-clause-level
find-requires-clause-level c =
    openings-level (task_of c.args.x.now.task) (goal_of c.args.x.now) c.in_ok-search.search c.open_all.new.search
    (ap (λ (s : TraceForm). s.found) c.in_ok-search.ensures) c.in_ok-open_all.ensures.meets
    c.in_ok-open_all.ensures.opened

pub trail_to-requires-clause-place : goal.trail_to-requires-clause-place
trail_to-requires-clause-place c =
    let found = c.find.new.search.found
    in let nearest = subst (AnswersSearch (task_of c.args.x.now.task) (goal_of c.args.x.now) found) c.in-Some.is
    c.in_ok-find.ensures.answer
    in at-place found c.in-Some.place nearest.point nearest.is_at

pub returns-in-None-clause-answer : goal.returns-in-None-clause-answer
returns-in-None-clause-answer c =
    let t = task_of c.args.x.now.task
    in let G = goal_of c.args.x.now
    in all-passed t G c.find.new.search c.in_ok-find.ensures.kept
    (subst (AnswersSearch t G c.find.new.search.found) c.in-None.is c.in_ok-find.ensures.answer)

pub returns-clause-answer : goal.returns-clause-answer
returns-clause-answer c =
    let t = task_of c.args.x.now.task
    in let G = goal_of c.args.x.now
    in let found = c.find.new.search.found
    in nearest-shortest t G found c.in-Some.place c.in_ok-trail_to-in-Some.field-0
    (subst (AnswersSearch t G found) c.in-Some.is c.in_ok-find.ensures.answer)
    c.in_ok-trail_to-in-Some.ensures.trail
