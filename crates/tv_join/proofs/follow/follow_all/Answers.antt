use Rattle.std.proofs.Common.{◌∙◌, Contains, List, ap, length, subst, sym, arith}
use Rattle.tv_model.proofs.Lists.{Contains-here}
use Rattle.tv_join.specs.Stepped.{GatheredForm}
use Rattle.tv_work.specs.Task.{task_of}
use Rattle.tv_join.specs.declared.joins.Found.{Found}
use Rattle.tv_join.specs.declared.places.Place.{Place}
use Rattle.tv_join.proofs.Following.{AreFollowedBut, but-all, but-next, but-none}
use Rattle.tv_join.proofs.follow.follow_all.Goals as goal

pub loop-w-init : goal.loop-w-init
loop-w-init c = record {
  followed = subst (λ (fs : List Found). AreFollowedBut (task_of c.args.x.now) c.args.joins.now.nodes c.args.places
      c.args.places (record { found = fs; values = c.args.values.now }) c.args.values.now) (sym c.new-found.ensures.items)
      (but-all (task_of c.args.x.now) c.args.joins.now.nodes c.args.places c.args.values.now);
  same = cc;
}

pub follow-requires-clause-place : goal.follow-requires-clause-place
follow-requires-clause-place c =
    c.requires.places c.in-Some.w
    (c.loop-w.invariant.followed.among c.in-Some.w
    (subst (λ (ws : List Place). Contains ws c.in-Some.w) (sym c.in-Some.ensures.some)
    (Contains-here c.in-Some.w c.take_first.new.self)))

pub follow-requires-clause-edges : goal.follow-requires-clause-edges
follow-requires-clause-edges c = c.loop-w.invariant.followed.count ∙ c.requires.edges

pub loop-w-preserved : goal.loop-w-preserved
loop-w-preserved c =
    let t = task_of c.args.x.now
    in let nodes = c.args.joins.now.nodes
    in let old : GatheredForm = record { found = c.loop-w.found.items; values = c.loop-w.values }
    in let new : GatheredForm = record { found = c.follow.new.found.items; values = c.follow.new.values }
    in record {
      followed = but-next t nodes c.args.places c.take_first.new.self c.in-Some.w old new c.args.values.now
          (subst (λ (ws : List Place). AreFollowedBut t nodes c.args.places ws old c.args.values.now)
          c.in-Some.ensures.some c.loop-w.invariant.followed)
          c.in_ok-follow.ensures.gathers (c.in_ok-follow.ensures.edges ∙ sym c.requires.edges)
          c.in_ok-follow.ensures.others c.in_ok-follow.ensures.followed;
      same = cc;
    }

pub loop-w-smaller : goal.loop-w-smaller
loop-w-smaller c = omega (arith, ap length c.in-Some.ensures.some)

pub returns-clause-followed : goal.returns-clause-followed
returns-clause-followed c =
    but-none (task_of c.args.x.now) c.args.joins.now.nodes c.args.places c.loop-w.left
    (record { found = c.loop-w.found.items; values = c.loop-w.values }) c.args.values.now c.loop-w.invariant.followed
    c.in_default.ensures.none

pub returns-clause-edges : goal.returns-clause-edges
returns-clause-edges c = c.loop-w.invariant.followed.count ∙ c.requires.edges
