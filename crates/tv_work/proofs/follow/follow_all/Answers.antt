use Rattle.std.proofs.Common.{subst, sym}
use Rattle.tv_work.specs.Explored.{IsSearchState, AreDone, KeepsListed}
use Rattle.tv_work.specs.Reach.{IsListed}
use Rattle.tv_work.specs.Search.{SearchForm}
use Rattle.tv_work.specs.Task.{task_of}
use Rattle.tv_work.proofs.Advancing.{done-next, kept-popped}
use Rattle.tv_work.proofs.follow.follow_all.Goals as goal

pub follow-requires-clause-kept : goal.follow-requires-clause-kept
follow-requires-clause-kept c =
    kept-popped (task_of c.args.x.now) c.pop.new.self c.in-Some.w
    (subst (IsSearchState (task_of c.args.x.now)) c.in-Some.ensures.some.1 c.loop-w.invariant.kept)

pub loop-w-preserved : goal.loop-w-preserved
loop-w-preserved c =
    let t = task_of c.args.x.now
    in let popped = c.in-Some.ensures.some.1
    in record {
      kept = c.in_ok-follow.ensures.kept;
      said = c.in_ok-follow.ensures.said;
      listed = λ x has. c.in_ok-follow.ensures.advances.grows.kept x
          (subst (λ (s : SearchForm). IsListed s.listing x) popped (c.loop-w.invariant.listed x has));
      done = done-next t c.pop.new.self c.follow.new.search c.loop-w.told c.follow.new.told c.in-Some.w
          (subst (λ (s : SearchForm). AreDone t s c.loop-w.told) popped c.loop-w.invariant.done)
          c.in_ok-follow.ensures.advances c.in_ok-follow.ensures.done;
      same = cc;
    }

pub returns-clause-listed : goal.returns-clause-listed
returns-clause-listed c =
    subst (λ (s : SearchForm). KeepsListed c.args.search.now.listing s.listing)
    (sym c.in_default.ensures.none.0)
    c.loop-w.invariant.listed

pub returns-clause-done : goal.returns-clause-done
returns-clause-done c =
    subst (λ (s : SearchForm). AreDone (task_of c.args.x.now) s c.loop-w.told)
    (sym c.in_default.ensures.none.0)
    c.loop-w.invariant.done
