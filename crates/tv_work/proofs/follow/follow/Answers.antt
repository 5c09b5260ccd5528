use Rattle.std.proofs.Common.{ℕ, ◌<◌, ◌∙◌, arith, get_or, length, subst, sym, take, All, Contains, List}
use Rattle.std.proofs.lemmas.List.{take_all}
use Rattle.std.proofs.lemmas.List.Elements.{All-contains, All-more, All-weaker, Contains-get_or}
use Rattle.tv_work.specs.Explored.{DoesAlong}
use Rattle.tv_work.specs.Task.{task_of}
use Rattle.tv_work.proofs.Advancing.{advances-on, does-from, does-kept, leaving-at, node-within, place-kept}
use Rattle.tv_work.proofs.follow.follow.Goals as goal

pub follow_edge-requires-clause-place : goal.follow_edge-requires-clause-place
follow_edge-requires-clause-place c =
    place-kept c.args.search.now c.loop-edge.search c.args.w c.loop-edge.invariant.advances.grows
    c.requires.place

pub follow_edge-requires-clause-edge : goal.follow_edge-requires-clause-edge
follow_edge-requires-clause-edge c =
    let lists = c.args.x.now.leaving.now
    in let items = c.as_slice-edge-items.result.now
    in let node = node-within c.args.search.now.listing c.args.w.node c.args.w.place c.requires.place
    in let within : c.args.w.node < length lists
    = omega (arith, node, c.requires.kept.nodes, c.requires.ready.leaving.count)
    in let same = leaving-at lists c.args.w.node c.index-x-w.result items within c.as_slice-edge-items.ensures
    in let edge = get_or items c.loop-edge.edge-index 0
    in (c.requires.ready.leaving.each c.args.w.node edge).0
    (subst (λ (l : List ℕ). Contains l edge) same
    (Contains-get_or items c.loop-edge.edge-index 0 c.loop-edge-test.true))

pub loop-edge-preserved : goal.loop-edge-preserved
loop-edge-preserved c =
    let t = task_of c.args.x.now
    in let items = c.as_slice-edge-items.result.now
    in let old = c.args.search.now
    in let middle = c.loop-edge.search
    in let new = c.follow_edge.new.search
    in let more = c.follow_edge.new.told
    in let Done : ℕ → Type 0 = λ edge. DoesAlong t c.args.w edge old new more
    in let before : All Done (take c.loop-edge.edge-index items)
    = All-weaker (λ edge. DoesAlong t c.args.w edge old middle c.loop-edge.told) Done
    (λ edge. does-kept t c.args.w edge old middle new c.loop-edge.told more
    c.in_ok-follow_edge.ensures.advances)
    (take c.loop-edge.edge-index items) c.loop-edge.invariant.done
    in record {
      kept = c.in_ok-follow_edge.ensures.kept;
      said = c.in_ok-follow_edge.ensures.said;
      advances = advances-on old middle new c.args.told.now c.loop-edge.told more
          c.loop-edge.invariant.advances
          c.in_ok-follow_edge.ensures.advances;
      done = All-more Done items c.loop-edge.edge-index 0 c.loop-edge-test.true before
          (does-from t c.args.w (get_or items c.loop-edge.edge-index 0) old middle new c.loop-edge.told more
          c.loop-edge.invariant.advances.grows c.in_ok-follow_edge.ensures.done);
      same = cc;
    }

pub returns-clause-done : goal.returns-clause-done
returns-clause-done c = λ x stands edge taken at leaves.
    let t = task_of c.args.x.now
    in let lists = c.args.x.now.leaving.now
    in let items = c.as_slice-edge-items.result.now
    in let node = node-within c.args.search.now.listing c.args.w.node c.args.w.place c.requires.place
    in let within : c.args.w.node < length lists
    = omega (arith, node, c.requires.kept.nodes, c.requires.ready.leaving.count)
    in let same = leaving-at lists c.args.w.node c.index-x-w.result items within c.as_slice-edge-items.ensures
    in let has = subst (λ (l : List ℕ). Contains l edge) (sym same)
    ((c.requires.ready.leaving.each c.args.w.node edge).1 (taken, at, leaves ∙ sym stands.node))
    in let Done : ℕ → Type 0 = λ e. DoesAlong t c.args.w e c.args.search.now c.loop-edge.search
    c.loop-edge.told
    in let all = subst (All Done) (take_all c.loop-edge.edge-index items c.loop-edge-test.false)
    c.loop-edge.invariant.done
    in All-contains Done items edge all has x taken stands at
