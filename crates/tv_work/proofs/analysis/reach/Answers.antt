use Rattle.std.proofs.Common.{length, subst, sym}
use Rattle.tv_work.specs.Explored.{IsSearchState}
use Rattle.tv_work.specs.Search.{SearchForm, Grows}
use Rattle.tv_work.specs.Task.{task_of}
use Rattle.tv_work.proofs.Advancing.{all-wait, explored-all, kept-none}
use Rattle.tv_work.proofs.analysis.reach.Goals as goal

pub open_all-requires-clause-kept : goal.open_all-requires-clause-kept
open_all-requires-clause-kept c =
    subst (IsSearchState (task_of c.args.x.now)) (sym c.requires.fresh) (kept-none (task_of c.args.x.now))

pub follow_all-requires-clause-done : goal.follow_all-requires-clause-done
follow_all-requires-clause-done c =
    all-wait (task_of c.args.x.now) (length c.args.x.now.program.now.nodes) c.open_all.new.search
    c.in_ok-told.told
    (subst (λ (s : SearchForm). Grows s c.open_all.new.search) c.requires.fresh c.in_ok-open_all.ensures.grows)

pub returns-clause-found : goal.returns-clause-found
returns-clause-found c once =
    explored-all (task_of c.args.x.now) c.open_all.new.search c.follow_all.new.search c.follow_all.new.told
    c.in_ok-follow_all.ensures.kept
    c.in_ok-follow_all.ensures.said c.in_ok-follow_all.ensures.done c.in_ok-follow_all.ensures.none once
    c.in_ok-follow_all.ensures.listed c.in_ok-open_all.ensures.opened
