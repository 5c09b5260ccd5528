use Rattle.std.proofs.Common.{◌∙◌, Some, ap, arith, sym}
use Rattle.std.proofs.lemmas.Option.{slice_get-get_or, slice_get_within}
use Rattle.tv_trail_laws.specs.Met.{IsFirst}
use Rattle.tv_work.specs.Task.{task_of}
use Rattle.tv_trail.proofs.Following.{opened-next}
use Rattle.tv_trail.proofs.Kept.{meets-on}
use Rattle.tv_trail.proofs.follow.open_all.Goals as goal

pub loop-number-preserved : goal.loop-number-preserved
loop-number-preserved c =
    let t = task_of c.args.x.now
    in let middle = c.loop-number.search
    in let new = c.open.new.search
    in record {
      kept = c.in_ok-open.ensures.kept;
      meets = meets-on IsFirst c.args.search.now middle new c.loop-number.invariant.meets
          c.in_ok-open.ensures.meets;
      opened = opened-next t IsFirst middle new c.in_ok-open.ensures.meets c.loop-number.number
          c.s-item.result
          (slice_get-get_or c.args.x.now.initial.now c.loop-number.number c.s-item.result c.loop-number-test.true
          ∙ ap Some (sym c.s-item.is))
          c.loop-number.invariant.opened c.in_ok-open.ensures.opened;
      same = cc;
    }

pub returns-clause-opened : goal.returns-clause-opened
returns-clause-opened c = λ number s e.
    c.loop-number.invariant.opened number s
    (omega (arith, slice_get_within c.args.x.now.initial.now number s e, c.loop-number-test.false)) e
