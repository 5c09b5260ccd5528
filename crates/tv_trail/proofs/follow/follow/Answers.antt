use Rattle.std.proofs.Common.{ℕ, ◌<◌, arith, false, get_or, length, subst, sym, take, All, Contains, List}
use Rattle.std.proofs.lemmas.List.{take_all}
use Rattle.std.proofs.lemmas.List.Elements.{All-more, All-weaker, Contains-get_or}
use Rattle.tv_model.specs.Program.{program_of}
use Rattle.tv_work.specs.Leaving.{LeavesBy}
use Rattle.tv_work.specs.Reach.{Point}
use Rattle.tv_work.proofs.Advancing.{leaving-at}
use Rattle.tv_trail_laws.specs.Met.{IsAt}
use Rattle.tv_trail_laws.proofs.Places.{at-once}
use Rattle.tv_work.specs.Task.{task_of}
use Rattle.tv_trail.specs.Searched.{IsFrom, AnswersAlong}
use Rattle.tv_trail.proofs.Following.{answers-on, passed-here}
use Rattle.tv_trail.proofs.Kept.{at-on, meets-on}
use Rattle.tv_trail.proofs.follow.follow.Goals as goal

pub follow_along-requires-clause-edge : goal.follow_along-requires-clause-edge
follow_along-requires-clause-edge c = λ x at.
    let lists = c.args.x.now.task.leaving.now
    in let items = c.as_slice-edge-items.result.now
    in let node = c.at-seen.result.node
    in let here : Point = record { node = node; structure = c.at-seen.result.structure.now }
    in let there : IsAt c.loop-edge.search.found c.args.place here
    = at-on (IsFrom c.args.place) c.args.search.now c.loop-edge.search c.loop-edge.invariant.meets c.args.place
    here (c.at-seen.result.origin, c.at-seen.ensures.found)
    in let within : node < length lists
    = omega (arith, c.at-seen.ensures.node, c.requires.kept.nodes, c.requires.ready.leaving.count)
    in let same = leaving-at lists node c.index-x-node.result items within c.as_slice-edge-items.ensures
    in let edge = get_or items c.loop-edge.edge-index 0
    in subst (λ (y : Point). LeavesBy (program_of c.args.x.now.task.program.now).edges y.node edge)
    (at-once c.loop-edge.search.found c.args.place here x there at)
    ((c.requires.ready.leaving.each node edge).0
    (subst (λ (l : List ℕ). Contains l edge) same
    (Contains-get_or items c.loop-edge.edge-index 0 c.loop-edge-test.true)))

pub returns-then-branch-clause-meets : goal.returns-then-branch-clause-meets
returns-then-branch-clause-meets c =
    meets-on (IsFrom c.args.place) c.args.search.now c.loop-edge.search c.follow_along.new.search
    c.loop-edge.invariant.meets c.in_ok-follow_along.ensures.meets

pub loop-edge-preserved : goal.loop-edge-preserved
loop-edge-preserved c =
    let t = task_of c.args.x.now.task
    in let items = c.as_slice-edge-items.result.now
    in let middle = c.loop-edge.search
    in let new = c.follow_along.new.search
    in let edge = get_or items c.loop-edge.edge-index 0
    in let Done : ℕ → Type 0 = λ e. AnswersAlong t c.args.x.now.goal c.args.place e new.found false
    in let before : All Done (take c.loop-edge.edge-index items)
    = All-weaker (λ e. AnswersAlong t c.args.x.now.goal c.args.place e middle.found false) Done
    (λ e. answers-on t (IsFrom c.args.place) middle new c.in_ok-follow_along.ensures.meets c.args.x.now.goal
    c.args.place e)
    (take c.loop-edge.edge-index items) c.loop-edge.invariant.along
    in record {
      kept = c.in_ok-follow_along.ensures.kept;
      meets = meets-on (IsFrom c.args.place) c.args.search.now middle new c.loop-edge.invariant.meets
          c.in_ok-follow_along.ensures.meets;
      along = All-more Done items c.loop-edge.edge-index 0 c.loop-edge-test.true before
          (subst (λ b. AnswersAlong t c.args.x.now.goal c.args.place edge new.found b) c.if-branch.false
          c.in_ok-follow_along.ensures.answer);
      same = cc;
    }

pub returns-clause-answer : goal.returns-clause-answer
returns-clause-answer c =
    let t = task_of c.args.x.now.task
    in let lists = c.args.x.now.task.leaving.now
    in let items = c.as_slice-edge-items.result.now
    in let node = c.at-seen.result.node
    in let here : Point = record { node = node; structure = c.at-seen.result.structure.now }
    in let found = c.loop-edge.search.found
    in let there : IsAt found c.args.place here
    = at-on (IsFrom c.args.place) c.args.search.now c.loop-edge.search c.loop-edge.invariant.meets c.args.place
    here (c.at-seen.result.origin, c.at-seen.ensures.found)
    in let within : node < length lists
    = omega (arith, c.at-seen.ensures.node, c.requires.kept.nodes, c.requires.ready.leaving.count)
    in let same = leaving-at lists node c.index-x-node.result items within c.as_slice-edge-items.ensures
    in let Done : ℕ → Type 0 = λ e. AnswersAlong t c.args.x.now.goal c.args.place e found false
    in passed-here t c.args.x.now.goal found c.args.place here there items
    (λ edge leaves. subst (λ (l : List ℕ). Contains l edge) (sym same)
    ((c.requires.ready.leaving.each node edge).1 leaves))
    (subst (All Done) (take_all c.loop-edge.edge-index items c.loop-edge-test.false) c.loop-edge.invariant.along)
    (λ is. cc (c.if-is_there.ensures.1 is))
