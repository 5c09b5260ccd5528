use Rattle.std.proofs.Common.{ℕ, ◌≡◌, ◌<◌, ◌+◌, ◌∙◌, ◌++◌, ◌∷◌, [], List, arith, get_or, length, subst, sym}
use Rattle.std.proofs.Common.{take}
use Rattle.std.specs.Prelude.{All, Contains}
use Rattle.std.proofs.lemmas.List.{take_all, take_more}
use Rattle.std.proofs.lemmas.List.Elements.{All-contains, All-more, All-weaker, Contains-get_or}
use Rattle.tv_work.proofs.Advancing.{leaving-at}
use Rattle.tv_join.specs.State.{IsAmongFound}
use Rattle.tv_join.specs.Stepped.{IsFollowedAlong}
use Rattle.tv_work.specs.Task.{task_of}
use Rattle.tv_join.proofs.Following.{AreAside, along-kept, aside-more, aside-none, changes-from, gathers-none}
use Rattle.tv_join.proofs.Following.{gathers-on}
use Rattle.tv_join.proofs.Nodes.{member-within}
use Rattle.tv_join.proofs.follow.follow.Goals as goal

pub loop-edge-init : goal.loop-edge-init
loop-edge-init c = record {
  gathers = gathers-none (task_of c.args.x.now) c.args.joins.now.nodes c.args.found.now.items;
  aside = aside-none c.args.w.at c.args.values.now;
  followed = λ k d lt. absurd (omega (arith, lt));
  same = cc;
}

pub follow_edge-requires-clause-edge : goal.follow_edge-requires-clause-edge
follow_edge-requires-clause-edge c =
    let lists = c.args.x.now.leaving.now
    in let items = c.as_slice-edge-items.result.now
    in let within : c.args.w.node < length lists
    = omega (
      arith,
      member-within c.args.joins.now.nodes c.args.w.node c.args.w.at c.requires.place,
      c.requires.kept.nodes,
      c.requires.ready.leaving.count,
    )
    in let same = leaving-at lists c.args.w.node c.index-x-w.result items within c.as_slice-edge-items.ensures
    in let edge = get_or items c.loop-edge.edge-index 0
    in (c.requires.ready.leaving.each c.args.w.node edge).0
    (subst (λ (l : List ℕ). Contains l edge) same
    (Contains-get_or items c.loop-edge.edge-index 0 c.loop-edge-test.true))

pub follow_edge-requires-clause-edges : goal.follow_edge-requires-clause-edges
follow_edge-requires-clause-edges c = c.loop-edge.invariant.aside.count ∙ c.requires.edges

pub loop-edge-preserved : goal.loop-edge-preserved
loop-edge-preserved c =
    let t = task_of c.args.x.now
    in let nodes = c.args.joins.now.nodes
    in let w = c.args.w
    in let items = c.as_slice-edge-items.result.now
    in let edge = get_or items c.loop-edge.edge-index 0
    in let old = c.loop-edge.found.items
    in let new = c.follow_edge.new.found.items
    in let values = c.follow_edge.new.values
    in let here = c.in_ok-follow_edge.ensures.followed
    in let Before : ℕ → Type 0 = λ e. IsFollowedAlong t nodes (IsAmongFound old) c.loop-edge.values w e
    in let Now : ℕ → Type 0 = λ e. IsFollowedAlong t nodes (IsAmongFound new) values w e
    in let earlier : All Now (take c.loop-edge.edge-index items)
    = All-weaker Before Now
    (along-kept t nodes w old new c.loop-edge.values values c.in_ok-follow_edge.ensures.gathers edge
    c.in_ok-follow_edge.ensures.others here)
    (take c.loop-edge.edge-index items) c.loop-edge.invariant.followed
    in let more : take (c.loop-edge.edge-index + 1) items ≡ take c.loop-edge.edge-index items ++ edge ∷ []
    = take_more items c.loop-edge.edge-index 0 c.loop-edge-test.true
    in record {
      gathers = gathers-on t nodes c.args.found.now.items old new c.loop-edge.invariant.gathers
          c.in_ok-follow_edge.ensures.gathers;
      aside = subst (λ (es : List ℕ). AreAside es w.at c.args.values.now values) (sym more)
          (aside-more (take c.loop-edge.edge-index items) edge w.at c.args.values.now c.loop-edge.values values
          c.loop-edge.invariant.aside c.in_ok-follow_edge.ensures.others);
      followed = All-more Now items c.loop-edge.edge-index 0 c.loop-edge-test.true earlier here;
      same = cc;
    }

pub returns-clause-edges : goal.returns-clause-edges
returns-clause-edges c = c.loop-edge.invariant.aside.count ∙ c.requires.edges

pub returns-clause-others : goal.returns-clause-others
returns-clause-others c =
    let lists = c.args.x.now.leaving.now
    in let items = c.as_slice-edge-items.result.now
    in let within : c.args.w.node < length lists
    = omega (
      arith,
      member-within c.args.joins.now.nodes c.args.w.node c.args.w.at c.requires.place,
      c.requires.kept.nodes,
      c.requires.ready.leaving.count,
    )
    in let same = leaving-at lists c.args.w.node c.index-x-w.result items within c.as_slice-edge-items.ensures
    in changes-from (task_of c.args.x.now) items c.args.w c.args.values.now c.loop-edge.values
    (λ edge has. (c.requires.ready.leaving.each c.args.w.node edge).0 (subst (λ (l : List ℕ). Contains l edge) same has))
    (subst (λ (es : List ℕ). AreAside es c.args.w.at c.args.values.now c.loop-edge.values)
    (take_all c.loop-edge.edge-index items c.loop-edge-test.false) c.loop-edge.invariant.aside)

pub returns-clause-followed : goal.returns-clause-followed
returns-clause-followed c = λ edge leaves.
    let t = task_of c.args.x.now
    in let lists = c.args.x.now.leaving.now
    in let items = c.as_slice-edge-items.result.now
    in let within : c.args.w.node < length lists
    = omega (
      arith,
      member-within c.args.joins.now.nodes c.args.w.node c.args.w.at c.requires.place,
      c.requires.kept.nodes,
      c.requires.ready.leaving.count,
    )
    in let same = leaving-at lists c.args.w.node c.index-x-w.result items within c.as_slice-edge-items.ensures
    in let has = subst (λ (l : List ℕ). Contains l edge) (sym same) ((c.requires.ready.leaving.each c.args.w.node edge).1 leaves)
    in let Now : ℕ → Type 0
    = λ e. IsFollowedAlong t c.args.joins.now.nodes (IsAmongFound c.loop-edge.found.items) c.loop-edge.values c.args.w e
    in All-contains Now items edge
    (subst (All Now) (take_all c.loop-edge.edge-index items c.loop-edge-test.false) c.loop-edge.invariant.followed) has
